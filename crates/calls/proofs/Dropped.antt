-- Unrecord: the patch is dropped.
use Rattle.std.proofs.Common.{◌≡◌, ℕ, true, ◌&&◌, leb, List, [], ◌++◌, length, get_or, take, set, Ok, sym, refl, ap, ◌∙◌, arith, length-append}
use lib.ListN.{length-map}
use Rattle.std.proofs.lemmas.List.{take_at, get_or-set_same}
use Rattle.std.proofs.lemmas.Bool.{le-leb, and_from, cond-true}
use Rattle.kinds.specs.Theory.{Theory}
use Rattle.histories.specs.declared.named.Named.{Named}
use Rattle.histories.specs.Flat.{flat_of, flat}
use Rattle.rows.specs.declared.place.Place.{Place}
use Rattle.forms.specs.Form.{grouped}
use Rattle.forms.proofs.Grouping.{grouped_flat}
use Rattle.shop.specs.declared.shop.Shop.{Shop}
use Rattle.shop.specs.State.{with_history}
use Rattle.shop.specs.Held.{used, rows_of, row_at, rooms, state_of}
use Rattle.shop.specs.Reached.{Unrecord}
use Rattle.shop.proofs.Chains.{then_go}
use Rattle.memory.specs.Write.{room_at, replaced, replaced_at}
use Rattle.calls.proofs.LongRows.{row_long}
use Rattle.calls.proofs.Called.{Answers, history_written, done}
use Rattle.calls.specs.Handed.{with_work}
use Rattle.calls.proofs.FromWork.{InRow}

module _ {P F : Type 0} (T : Theory P F) (s : Shop P) (work left : List (Named P)) (r n : ℕ) where
  -- the row becomes what is left
  module _ (place : Place) (i : InRow T s work left r n place) where
    abbrev rest : List (Named P)
    rest = flat i.h

    whole : grouped rest ≡ i.h
    whole = grouped_flat i.h i.facts.told

    fits : (leb (length rest) (length left) && leb (length rest) (room_at s r)) ≡ true
    fits =
        let a = ap length i.row ∙ length-append rest (flat_of i.last ++ i.free) in
        let b = row_long T s (length work) (sym i.facts.memory) r i.facts.there in
        let c = i.facts.short in
        and_from _ _ (le-leb (length rest) (length left) (omega arith)) (le-leb (length rest) (room_at s r) (omega arith))

    row : replaced (room_at s r) (row_at s r) left place.start ≡ rest
    row =
        ap (replaced (room_at s r) (row_at s r) left) i.starts ∙ cond-true _ (take (length rest) left) (row_at s r) fits ∙ ap (take (length rest)) i.row
        ∙ take_at rest (flat_of i.last ++ i.free) (length rest) refl

    pub dropped : (t : Shop P) → rows_of t ≡ replaced_at s r left place.start → rooms t ≡ rooms s → t.counter ≡ s.counter → (k : ℕ) → k ≡ length (grouped (row_at t r))
        → Answers T (with_work s work) s (Unrecord r n) (Ok k) t
    dropped t rows same counter k counted =
        let written : rows_of t ≡ set (rows_of s) r rest = rows ∙ ap (set (rows_of s) r) row in
        let its_row : row_at t r ≡ rest = ap (λ z. get_or z r []) written ∙ get_or-set_same (rows_of s) r rest [] (let a = length-map s.repositories used in let b = s.four in let c = i.facts.there in omega arith) in
        let histories = history_written (rows_of t) (rows_of s) r rest i.h written whole in
        done T (with_work s work) s (Unrecord r n) k t (with_history (state_of s) r i.h) (length i.h) (then_go _ i.is refl)
        (counted ∙ ap (λ z. length (grouped z)) its_row ∙ ap length whole) (λ j. record { histories = histories j; counter = counter j }) same
