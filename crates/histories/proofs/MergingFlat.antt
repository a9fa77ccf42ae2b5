-- A patch merged over a history, in flat rows.
use Rattle.std.proofs.Common.{◌≡◌, ℕ, ◌+◌, ◌-◌, ◌<◌, List, [], ◌∷◌, ◌++◌, map, length, get_or, take, drop, Ok, Err, Result, sym, refl, ap, ◌∙◌, subst, append_assoc, arith, length-append}
use borrow.Rule.Slice.PartMut.{put_mid}
use Rattle.std.proofs.lemmas.List.{nil_from_length, take_at, drop_at, take-append-drop, length-take-le, length-drop, length-map, append-nil}
use Rattle.std.proofs.lemmas.Slice.{between_is}
use Rattle.std.specs.List.{between}
use Rattle.kinds.specs.declared.answers.Clash.{Clash}
use Rattle.kinds.specs.declared.answers.Clash.TheVariants.{Refused, TooFar}
use Rattle.kinds.specs.declared.steps.AtStep.{AtStep}
use Rattle.kinds.specs.Theory.{Theory}
use Rattle.kinds.specs.Bounded.{answer}
use Rattle.kinds.specs.Parts.{part}
use Rattle.kinds.specs.Sequences.{and_then, inverses, sequences}
use Rattle.rows.specs.Pass.{Passed, passing, fault_of}
use Rattle.rows.proofs.Passing.{forgotten}
use Rattle.rows.proofs.Taking.{lengths}
use Rattle.histories.specs.declared.Stop.{Stop}
use Rattle.histories.specs.declared.named.Named.{Named}
use Rattle.histories.specs.Named.{under, named, patches}
use Rattle.histories.specs.History.{stopped_at, merged}
use Rattle.histories.specs.Flat.{flat_of, flat, OtherName, ToldApart, BeginsWith}
use Rattle.histories.proofs.Flattening.{named_sequences, named_inverses, commuted_changes}
use Rattle.histories.proofs.Leading.{first_counted}

module _ {P F : Type 0} (T : Theory P F) where
  abbrev N : Theory (Named P) F
  N = named T

  -- a patch at the end of the work row was merged over the others
  abbrev Merges : List (Named P) → List (Named P) → ℕ → Result (Unit {0}) Stop → List (Named P) → Type 0
  Merges others work count r left = (ws : List (Named (List P))) (n : Named (List P)) (free : List (Named P)) → others ≡ flat ws → ToldApart ws → work ≡ free ++ flat_of n
      → length free ≡ length (flat ws) → length n.changes ≡ count → BeginsWith count (merged (patches T) (λ w. w.name) ws n) r left

  -- The patch n is merged over ws. It came past the first of these, and over `later` it goes on as `merging`, whose changes end at the place `end` of the row.
  pub record Along (ws : List (Named (List P))) (n : Named (List P)) (count : ℕ) (others row : List (Named P)) (end : ℕ) : Type 0 where
    pub later : List (Named (List P))
    pub merging : Named (List P)
    pub front : List (Named P)
    pub back : List (Named P)
    pub others_are : others ≡ flat later
    pub told_apart : ToldApart later
    pub parts : row ≡ front ++ (flat_of merging ++ back)
    pub as_long : length front ≡ length (flat later)
    pub so_many : length merging.changes ≡ count
    pub ends : end ≡ length front + count
    pub same : merged (patches T) (λ w. w.name) ws n ≡ merged (patches T) (λ w. w.name) later merging

  abbrev pub Going : List (Named P) → List (Named P) → ℕ → List (Named P) → List (Named P) → ℕ → Type 0
  Going all work count others row end = (ws : List (Named (List P))) (n : Named (List P)) (free : List (Named P)) → all ≡ flat ws → ToldApart ws → work ≡ free ++ flat_of n
      → length free ≡ length (flat ws) → length n.changes ≡ count → Along ws n count others row end

  -- two sequences of changes, each under its name
  abbrev named_so : ℕ → ℕ → List P × List P → List (Named P) × List (Named P)
  named_so m n s = (map (under m) s.0, map (under n) s.1)

  -- n merged over w, where the changes answered a, and then over ws
  abbrev then_over : Named (List P) → List (Named (List P)) → Named (List P) → Result (List P × List P) Clash → Result (Named (List P)) Stop
  then_over w ws n a =
      and_then {A = Named (List P) × Named (List P)} (part (λ s. (under n.name s.0, under w.name s.1)) (stopped_at (λ (w : Named (List P)). w.name) w) a)
      (λ (n', w'). merged (patches T) (λ w. w.name) ws n')

  -- none is lost on the way
  pub same_lengths : (ps qs : List P) (s : List P × List P) → answer (sequences T) ps qs ≡ Ok s → length s.0 ≡ length qs
  same_lengths ps qs s e = (lengths T ps qs s (on (passing T ps qs) (forgotten T ps qs ∙ e))).0
    where
      on : (b : Result (List P × List P) (AtStep Clash)) → part (λ s. s) fault_of b ≡ Ok s → b ≡ Ok s
      on (Ok t) i = cc
      on (Err x) i = absurd (let z : ◌≡◌ {A = ℕ} 0 1 = cc in omega arith)

  module _ (all work : List (Named P)) (count : ℕ) where
    pub at_first : Going all work count all work (length work)
    at_first ws n free e t f l k =
        record {
          later = ws;
          merging = n;
          front = free;
          back = [];
          others_are = e;
          told_apart = t;
          parts = f ∙ ap (λ z. free ++ z) (sym (append-nil (flat_of n)));
          as_long = l;
          so_many = k;
          ends = ap length f ∙ length-append free (flat_of n) ∙ (let b = length-map n.changes (under n.name) in omega arith);
          same = refl;
        }

    pub at_last : (others row : List (Named P)) (end : ℕ) → Going all work count others row end → length others ≡ 0 → Merges all work count (Ok tt) row
    at_last others row end going z ws n free e t f l k = let along = going ws n free e t f l k in on along along.later refl
      where
        on : (along : Along ws n count others row end) (later : List (Named (List P))) → along.later ≡ later → BeginsWith count (merged (patches T) (λ w. w.name) ws n) (Ok tt) row
        on along [] i =
            let none : along.front ≡ [] = nil_from_length along.front (along.as_long ∙ ap (λ y. length (flat y)) i) in
            subst (λ y. BeginsWith count y (Ok tt) row) (sym (along.same ∙ ap (λ y. merged (patches T) (λ w. w.name) y along.merging) i))
            (refl, along.so_many, (along.back, along.parts ∙ ap (λ y. y ++ (flat_of along.merging ++ along.back)) none))
        on along (w ∷ later) i =
            absurd (let a = sym (ap length along.others_are ∙ ap (λ y. length (flat y)) i) in let b = length-append (flat_of w) (flat later) in let c = length-map w.changes (under w.name) in
            let d = (subst ToldApart i along.told_apart).0 in omega arith)

    -- the patch at the front of the others, whose first change is x
    module _ (others row patch : List (Named P)) (end lead : ℕ) (x : Named P) (going : Going all work count others row end) (some : 0 < length others) (is : get_or others 0 x ≡ x)
        (counted : (ds : List P) (bs : List (Named P)) → others ≡ map (under x.name) ds ++ bs → OtherName x.name bs → lead ≡ length ds) (patch_is : patch ≡ take lead others) where
      pub first_leads : 0 < lead
      first_leads =
          first_counted others x lead some
          (subst (λ k. (ds : List P) (bs : List (Named P)) → others ≡ map (under k) ds ++ bs → OtherName k bs → lead ≡ length ds) (sym (ap (λ y. y.name) is)) counted)

      first_named : (behind : List (Named P)) (k : ℕ) (cs : List P) → others ≡ map (under k) cs ++ behind → 0 < length cs → OtherName k behind → (x.name ≡ k) × (lead ≡ length cs)
      first_named behind k [] e z o = absurd (omega arith)
      first_named behind k (c ∷ cs) e z o =
          let same : x.name ≡ k = ap (λ y. y.name) (sym is ∙ ap (λ z. get_or z 0 x) e) in
          (same, counted (c ∷ cs) behind (e ∙ ap (λ z. map (under z) (c ∷ cs) ++ behind) (sym same)) (subst (λ z. OtherName z behind) (sym same) o))

      abbrev start : ℕ
      start = end - count - length patch

      module _ (r : Result (Unit {0}) Clash) (mid : List (Named P))
          (one : (free ns : List (Named P)) → between start end row ≡ free ++ ns → length free ≡ length patch → Passed (answer (sequences N) (inverses N patch) ns) r mid) where
        -- how the rows are cut at this patch
        record Cut (ws : List (Named (List P))) (n : Named (List P)) (along : Along ws n count others row end) : Type 0 where
          w : Named (List P)
          vs : List (Named (List P))
          next : along.later ≡ w ∷ vs
          same_name : x.name ≡ w.name
          so_many : lead ≡ length w.changes
          patch_long : length patch ≡ length w.changes
          before : List (Named P)
          over : List (Named P)
          cut : along.front ≡ before ++ over
          before_long : length before ≡ length (flat vs)
          starts : length before ≡ start
          over_long : length over ≡ length w.changes
          went : Passed (part (named_so along.merging.name w.name) (λ c. c) (answer (sequences T) (inverses T w.changes) along.merging.changes)) r mid

        cut_there : (ws : List (Named (List P))) (n : Named (List P)) (along : Along ws n count others row end) → Cut ws n along
        cut_there ws n along = on along.later refl
          where
            on : (later : List (Named (List P))) → along.later ≡ later → Cut ws n along
            on [] i = absurd (let a = ap length along.others_are ∙ ap (λ y. length (flat y)) i in omega arith)
            on (w ∷ vs) i =
                let m = along.merging in
                let f = along.front in
                let e : others ≡ flat_of w ++ flat vs = along.others_are ∙ ap flat i in
                let t : ToldApart (w ∷ vs) = subst ToldApart i along.told_apart in
                let (same, many) = first_named (flat vs) w.name w.changes e t.0 t.1 in
                let c = length-map w.changes (under w.name) in
                let d = length-append (flat_of w) (flat vs) in
                let l = along.as_long ∙ ap (λ y. length (flat y)) i in
                let q = along.ends in
                let patch_so : patch ≡ flat_of w = patch_is ∙ ap (take lead) e ∙ take_at (flat_of w) (flat vs) lead (omega arith) in
                let pl : length patch ≡ length w.changes = ap length patch_so ∙ c in
                let long : length (take start f) ≡ start = length-take-le start f (omega arith) in
                let rest : length (drop start f) ≡ length w.changes = length-drop start f ∙ omega arith in
                let whole : f ≡ take start f ++ drop start f = sym (take-append-drop start f) in
                let k : length (f ++ flat_of m) ≡ end = length-append f (flat_of m) ∙ (let a = length-map m.changes (under m.name) in let b = along.so_many in omega arith) in
                let window : between start end row ≡ drop start f ++ flat_of m =
                between_is row start end ∙ ap (λ y. drop start (take end y)) (along.parts ∙ sym (append_assoc f (flat_of m) along.back)) ∙ ap (drop start) (take_at (f ++ flat_of m) along.back end k)
                ∙ ap (λ y. drop start (y ++ flat_of m)) whole ∙ ap (drop start) (append_assoc (take start f) (drop start f) (flat_of m)) ∙ drop_at (take start f) (drop start f ++ flat_of m) start long in
                let p : Passed (answer (sequences N) (inverses N patch) (flat_of m)) r mid = one (drop start f) (flat_of m) window (rest ∙ sym pl) in
                record {
                  w = w;
                  vs = vs;
                  next = i;
                  same_name = same;
                  so_many = many;
                  patch_long = pl;
                  before = take start f;
                  over = drop start f;
                  cut = whole;
                  before_long = omega arith;
                  starts = long;
                  over_long = rest;
                  went = subst (λ z. Passed z r mid) (ap (λ z. answer (sequences N) (inverses N z) (flat_of m)) patch_so ∙ ap (λ z. answer (sequences N) z (flat_of m)) (named_inverses T w.name w.changes)
                      ∙ named_sequences T w.name m.name (inverses T w.changes) m.changes) p;
                }

        -- what the merge of the first patch and then of the others is
        merges_on : (ws : List (Named (List P))) (n : Named (List P)) (along : Along ws n count others row end) (u : Cut ws n along)
            → merged (patches T) (λ w. w.name) ws n ≡ then_over u.w u.vs along.merging (answer (sequences T) (inverses T u.w.changes) along.merging.changes)
        merges_on ws n along u =
            along.same ∙ ap (λ y. merged (patches T) (λ w. w.name) y along.merging) u.next
            ∙ ap (λ y. and_then y (λ (n', w'). merged (patches T) (λ w. w.name) u.vs n')) (commuted_changes T u.w ((patches T).invert u.w) along.merging)

        -- it stopped the merge
        pub stopped_over : (stop : Stop) (left : List (Named P)) → part (λ u. u) (stopped_at (λ n. n) x.name) r ≡ Err stop → Merges all work count (Err stop) left
        stopped_over stop left g ws n free e t f l k =
            let along = going ws n free e t f l k in
            let u = cut_there ws n along in
            subst (λ y. BeginsWith count y (Err stop) left) (sym (merges_on ws n along u))
            (on u.w u.vs along.merging r (ap (λ y. part (λ (u : Unit {0}). u) (stopped_at (λ n. n) y) r) (sym u.same_name) ∙ g) (answer (sequences T) (inverses T u.w.changes) along.merging.changes) u.went)
          where
            told : (w : Named (List P)) (d : Clash) → stopped_at (λ n. n) w.name d ≡ stopped_at (λ (w : Named (List P)). w.name) w d
            told w Refused = refl
            told w TooFar = refl

            on : (w : Named (List P)) (vs : List (Named (List P))) (m : Named (List P)) (r : Result (Unit {0}) Clash) → part (λ u. u) (stopped_at (λ n. n) w.name) r ≡ Err stop
                → (a : Result (List P × List P) Clash) → Passed (part (named_so m.name w.name) (λ c. c) a) r mid → BeginsWith count (then_over w vs m a) (Err stop) left
            on w vs m (Ok u) j a p = absurd (let y : ◌≡◌ {A = ℕ} 0 1 = cc in omega arith)
            on w vs m (Err c) j (Ok s) p = absurd (let y : ◌≡◌ {A = ℕ} 0 1 = cc p.0 in omega arith)
            on w vs m (Err c) j (Err d) p = let y : c ≡ d = cc in sym j ∙ ap Err (told w c ∙ ap (stopped_at (λ (w : Named (List P)). w.name) w) y)

        -- the patch came past it, and goes on over the others
        pub goes_on : r ≡ Ok tt → (later : List (Named P)) → later ≡ drop lead others → Going all work count later (put_mid start (end - start) row mid) (end - length patch)
        goes_on i later later_is ws n free e t f l k =
            let along = going ws n free e t f l k in
            let u = cut_there ws n along in
            on along u (answer (sequences T) (inverses T u.w.changes) along.merging.changes) refl u.went
          where
            on : (along : Along ws n count others row end) (u : Cut ws n along) (a : Result (List P × List P) Clash) → answer (sequences T) (inverses T u.w.changes) along.merging.changes ≡ a
                → Passed (part (named_so along.merging.name u.w.name) (λ c. c) a) r mid → Along ws n count later (put_mid start (end - start) row mid) (end - length patch)
            on along u (Err d) q p = absurd (let y : ◌≡◌ {A = ℕ} 0 1 = cc (i, p) in omega arith)
            on along u (Ok s) q p =
                let m = along.merging in
                let b = length-map m.changes (under m.name) in
                let c = length-map u.w.changes (under u.w.name) in
                let ends = along.ends in
                let many = along.so_many in
                let ol = u.over_long in
                let pl = u.patch_long in
                let bs = u.starts in
                let sm = u.so_many in
                let fl = ap length u.cut ∙ length-append u.before u.over in
                let parts : row ≡ u.before ++ ((u.over ++ flat_of m) ++ along.back) =
                along.parts ∙ ap (λ y. y ++ (flat_of m ++ along.back)) u.cut ∙ append_assoc u.before u.over (flat_of m ++ along.back)
                ∙ ap (λ y. u.before ++ y) (sym (append_assoc u.over (flat_of m) along.back)) in
                let front : take start row ≡ u.before = ap (take start) parts ∙ take_at u.before _ start bs in
                let back : drop (end - start) (drop start row) ≡ along.back =
                ap (λ y. drop (end - start) (drop start y)) parts ∙ ap (drop (end - start)) (drop_at u.before ((u.over ++ flat_of m) ++ along.back) start bs)
                ∙ drop_at (u.over ++ flat_of m) along.back (end - start) (length-append u.over (flat_of m) ∙ omega arith) in
                record {
                  later = u.vs;
                  merging = under m.name s.0;
                  front = u.before;
                  back = map (under u.w.name) s.1 ++ along.back;
                  others_are = later_is ∙ ap (drop lead) (along.others_are ∙ ap flat u.next) ∙ drop_at (flat_of u.w) (flat u.vs) lead (omega arith);
                  told_apart = (subst ToldApart u.next along.told_apart).2;
                  parts = ap (λ y. y ++ (mid ++ drop (end - start) (drop start row))) front ∙ ap (λ y. u.before ++ (mid ++ y)) back ∙ ap (λ y. u.before ++ (y ++ along.back)) p.1
                      ∙ ap (λ y. u.before ++ y) (append_assoc (map (under m.name) s.0) (map (under u.w.name) s.1) along.back);
                  as_long = u.before_long;
                  so_many = same_lengths (inverses T u.w.changes) m.changes s q ∙ many;
                  ends = omega arith;
                  same = merges_on ws n along u ∙ ap (then_over u.w u.vs m) q;
                }
