-- What every step of a run keeps.
use Rattle.std.proofs.Common.{◌≡◌, ℕ, List, [], ◌∷◌, ◌++◌, None, Ok, sym, refl, ap, ◌∙◌, subst, arith}
use Rattle.std.proofs.lemmas.Bool.{and_from}
use Rattle.kinds.specs.Theory.{Theory}
use Rattle.kinds.proofs.Sequences.{end, run_of, growths_append, written_append}
use Rattle.histories.specs.History.{Block, Rearranged, missing, block}
use Rattle.histories.specs.Runs.{Seen, newest, older, Pull, Run, opened, recorded, removed, pulled}
use Rattle.histories.proofs.Setting.{Setting}
use Rattle.histories.proofs.Names.{In, Distinct, none, in_cast, not_in, distinct_left, distinct_more}
use Rattle.histories.proofs.Rearranging.{stays_distinct}
use Rattle.histories.proofs.Passing.{row_name}
use Rattle.histories.proofs.Coherent.{Coherent, coherent_sym, coherent_refl, add_new, drop_last, add_pulled}
use Rattle.histories.proofs.Standing.{Stands, stands_more}
use Rattle.histories.proofs.Stops.{the_ok}
use Rattle.histories.proofs.ToEnd.{passed_last, passed_stands}
use Rattle.histories.proofs.Merging.{Beside, merged_row, merged_applies}
use Rattle.histories.proofs.Pulling.{Ready, ready, beside}

-- the names are distinct, any two histories are coherent, and each can be replayed
pub record Sound {P F : Type 0} (T : Theory P F) (name : P → ℕ) (hs : List (List P)) : Type 0 where
  pub once : (h : List P) → Seen h hs → Distinct name h
  pub coherent : (h k : List P) → Seen h hs → Seen k hs → Coherent T name h k
  pub stands : (h : List P) → Seen h hs → (e : T.Doc) × Stands T T.fresh h e

module _ {P F : Type 0} {T : Theory P F} {name : P → ℕ} (S : Setting T name) where
  open T use {Doc, fresh, size, growth, written}

  -- one history more
  add : {hs : List (List P)} (c : List P) → Sound T name hs → Distinct name c → (e : Doc) → Stands T fresh c e → ((k : List P) → Seen k hs → Coherent T name c k) → Sound T name (c ∷ hs)
  add {hs} c s d e t f = record { once = once_each; coherent = both; stands = each }
    where
      once_each : (h : List P) → Seen h (c ∷ hs) → Distinct name h
      once_each h newest = d
      once_each h (older i) = s.once h i

      both : (h k : List P) → Seen h (c ∷ hs) → Seen k (c ∷ hs) → Coherent T name h k
      both h k newest newest = coherent_refl c
      both h k newest (older j) = f k j
      both h k (older i) newest = coherent_sym (f h i)
      both h k (older i) (older j) = s.coherent h k i j

      each : (h : List P) → Seen h (c ∷ hs) → (e : Doc) × Stands T fresh h e
      each h newest = (e, t)
      each h (older i) = s.stands h i

  -- a patch of a history that was seen, and a history that holds all that it depends on
  pub ready_in : {hs : List (List P)} (s : Sound T name hs) (h ps : List P) (n : P) (qs : List P) (b : Block P) → Seen h hs → Seen (ps ++ n ∷ qs) hs
      → block T name ps n ≡ Ok b → missing name b.needs h ≡ None → Ready T name h (ps ++ n ∷ qs) n b
  ready_in s h ps n qs b i j f m =
      let (e, t) = s.stands h i in
      ready S h ps n qs b (s.once h i) (s.once (ps ++ n ∷ qs) j) (s.coherent (ps ++ n ∷ qs) h j i) e t f m

  -- the unneeded patches are those that the pull speaks of
  pub record Pulls (h g : List P) (n : P) (b : Block P) (ks : List P) (e : Doc) : Type 0 where
    pub parts : Ready T name h g n b
    pub same : parts.unneeded ≡ ks
    pub place : Doc
    pub line : Beside T place ks e b.itself

  pub pulls_in : {hs : List (List P)} (s : Sound T name hs) (h ps : List P) (n : P) (qs : List P) (b : Block P) (vs ks : List P) → Seen h hs → Seen (ps ++ n ∷ qs) hs
      → Pull T name h ps n b vs ks → (e : Doc) → Stands T fresh h e → Pulls h (ps ++ n ∷ qs) n b ks e
  pulls_in s h ps n qs b vs ks i j p e t =
      let r = ready_in s h ps n qs b i j p.found p.held in
      let both : ◌≡◌ {A = List P × List P} (r.needed, r.unneeded) (vs, ks) = the_ok (sym r.front ∙ p.front) in
      let same : r.unneeded ≡ ks = ap (λ (x : List P × List P). x.1) both in
      let (f, u) = s.stands (ps ++ n ∷ qs) j in
      let (d, l) = beside S h (ps ++ n ∷ qs) n b r e f t u p.room in
      record { parts = r; same = same; place = d; line = subst (λ x. Beside T d x e b.itself) same l }

  at_first : Sound T name ([] ∷ [])
  at_first =
      let zero = S.lawful.held_in_words.starts.1 in
      add [] (record { once = λ h i. elim i [ ]; coherent = λ h k i. elim i [ ]; stands = λ h i. elim i [ ] }) none
      fresh (record { takes = end; small = omega arith; written = refl }) (λ k i. elim i [ ])

  pub sound : {hs : List (List P)} → Run T name hs → Sound T name hs
  sound opened = at_first
  sound (recorded {h = h} p d r i new w shown small) =
      let s = sound r in
      let (e, t) = s.stands h i in
      let zero = S.lawful.held_in_words.starts.1 in
      let g = growths_append T h (p ∷ []) in
      add (h ++ p ∷ []) s (distinct_more h p (s.once h i) (not_in (name p) h (new h i))) d
      (record { takes = run_of T 0 (h ++ p ∷ []) fresh d shown; small = omega arith; written = written_append T h (p ∷ []) t.written (and_from _ _ w refl) })
      (λ k j. add_new S p (s.coherent h k i j) (not_in (name p) k (new k j)))
  sound (removed ps p qs rest last r i f) =
      let s = sound r in
      let g = passed_last S ps p qs rest last f in
      let (e, t) = s.stands (ps ++ p ∷ qs) i in
      let (m, u, _) = passed_stands S ps p qs rest last f t in
      add (ps ++ rest) s (distinct_left (ps ++ rest) (last ∷ []) (stays_distinct S g (s.once (ps ++ p ∷ qs) i))) m u
      (λ k j. drop_last S (ps ++ rest) last (s.once (ps ++ p ∷ qs) i) g (s.coherent (ps ++ p ∷ qs) k i j))
  sound (pulled {h = h} ps n qs b vs ks z r i j p f) =
      let s = sound r in
      let (e, t) = s.stands h i in
      let q = pulls_in s h ps n qs b vs ks i j p e t in
      let a = q.parts in
      let (_, row) = merged_row S ks b.itself z f in
      let (m, x, g, w) = merged_applies S ks b.itself z q.line f in
      let taker = subst (λ y. Rearranged T h (b.needs ++ y)) q.same a.taker in
      let lacks : In name (name b.itself) h → ⊥ = λ v. not_in (name n) h p.lacked (in_cast a.giver.named v) in
      let zero = S.lawful.held_in_words.starts.1 in
      let room = p.room in
      let grown = a.giver.grown in
      add (h ++ z ∷ []) s (distinct_more h z (s.once h i) (λ v. lacks (in_cast (sym (row_name S row)) v))) m (stands_more S.lawful t x (omega arith) w)
      (λ k o. add_pulled S b.needs b.itself a.giver.others ks z (s.once h i) (s.once (ps ++ n ∷ qs) j) (s.once k o)
      (s.coherent h k i o) (s.coherent (ps ++ n ∷ qs) k j o) a.giver.whole a.giver.minimal taker lacks row)
