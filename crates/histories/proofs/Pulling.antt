-- A patch of a giver's history, brought to the place in a taker's history where it can be merged.
use Rattle.std.proofs.Common.{◌≡◌, ℕ, ◌+◌, ◌≤◌, List, [], ◌∷◌, ◌++◌, None, Ok, sym, ◌∙◌, subst, arith}
use Rattle.std.proofs.lemmas.Bool.{and_parts}
use Rattle.kinds.specs.Theory.{Theory}
use Rattle.kinds.specs.Laws.{most, Takes}
use Rattle.kinds.specs.Sequences.{growths}
use Rattle.kinds.proofs.Sequences.{of_run, run_grows, growths_append}
use Rattle.histories.specs.History.{Block, Rearranged, missing, block, gathered}
use Rattle.histories.proofs.Setting.{Setting}
use Rattle.histories.proofs.Names.{Distinct, in_of_holds, holds_of_in, all_held, distinct_left}
use Rattle.histories.proofs.Rearranging.{◌▷◌, behind, before, to_left, to_right, reversed, stays_distinct}
use Rattle.histories.proofs.Coherent.{Coherent, held_front}
use Rattle.histories.proofs.Standing.{Stands, stands_head, stands_apart, stays_standing, same_growths}
use Rattle.histories.proofs.Stops.{the_ok}
use Rattle.histories.proofs.Blocks.{Found, found}
use Rattle.histories.proofs.Gathering.{gathers}
use Rattle.histories.proofs.Merging.{Beside}

-- giver and taker both begin with what n depends on; the taker goes on with patches that are not needed
pub record Ready {P F : Type 0} (T : Theory P F) (name : P → ℕ) (h g : List P) (n : P) (b : Block P) : Type 0 where
  pub giver : Found T name g n b
  pub needed : List P
  pub unneeded : List P
  pub front : gathered T name b.needs [] h ≡ Ok (needed, unneeded)
  pub taker : Rearranged T h (b.needs ++ unneeded)

module _ {P F : Type 0} {T : Theory P F} {name : P → ℕ} (S : Setting T name) where
  open T use {Doc, fresh, size, growth}

  module _ (h ps : List P) (n : P) (qs : List P) (b : Block P) (once-h : Distinct name h) (once-g : Distinct name (ps ++ n ∷ qs)) (c : Coherent T name (ps ++ n ∷ qs) h)
      (e : Doc) (stands-h : Stands T fresh h e) (found-b : block T name ps n ≡ Ok b) (held : missing name b.needs h ≡ None) where
    found_there : Found T name (ps ++ n ∷ qs) n b
    found_there =
        let cut = to_left ps (n ∷ []) qs in
        let f = found S ps n b (distinct_left (ps ++ n ∷ []) qs (stays_distinct S cut once-g)) found-b in
        record {
          others = f.others ++ qs;
          whole = cut ▷ before qs f.whole ▷ to_right b.needs (b.itself ∷ f.others) qs;
          minimal = f.minimal;
          named = f.named;
          grown = f.grown;
        }

    pub ready : Ready T name h (ps ++ n ∷ qs) n b
    ready =
        let f = found_there in
        let (k, taker) = held_front S c b.needs (b.itself ∷ f.others) once-g f.whole (all_held b.needs h held) in
        let (vs, ks, front, same) = gathers S b.needs [] h b.needs k fresh e taker once-h
        (record { none_passed = λ m i j. elim i [ ]; all_come = λ m i. in_of_holds m b.needs; no_other = λ m. holds_of_in }) stands-h in
        record { giver = f; needed = vs; unneeded = ks; front = front; taker = taker ▷ behind b.needs (reversed S same) }

  -- n applies where the unneeded patches begin
  pub beside : (h g : List P) (n : P) (b : Block P) (r : Ready T name h g n b) (e i : Doc) → Stands T fresh h e → Stands T fresh g i → growths T h + growth n ≤ most
      → (d : Doc) × Beside T d r.unneeded e b.itself
  beside h g n b r e i sh sg room =
      let L = S.lawful in
      let (d, x, y) = stands_apart L b.needs r.unneeded (stays_standing L r.taker sh) in
      let (m, z, w) = stands_apart L b.needs (b.itself ∷ r.giver.others) (stays_standing L r.giver.whole sg) in
      let (o, t, _) = stands_head L w in
      let same : m ≡ d = the_ok (sym (of_run T 0 z.takes) ∙ of_run T 0 x.takes) in
      let zero = L.held_in_words.starts.1 in
      let k = run_grows T L x.takes in
      let l = same_growths L r.taker in
      let j = growths_append T b.needs r.unneeded in
      let q = r.giver.grown in
      (d, record { line = y; after = o; applies = subst (λ v. Takes T b.itself v o) same t; small = omega arith; written = (and_parts _ _ w.written).0 })
