-- Undo: the inverse of the patch is appended.
use Rattle.std.proofs.Common.{◌≡◌, ℕ, ◌+◌, ◌<◌, true, cond, ltb, List, [], ◌∷◌, ◌++◌, map, length, drop, set, Ok, Err, Result, sym, refl, ap, ◌∙◌, subst, arith, length-append}
use lib.ListN.{length-map}
use Rattle.std.proofs.lemmas.List.{take_at, drop_at}
use Rattle.std.proofs.lemmas.Bool.{le-leb}
use Rattle.kinds.specs.Theory.{Theory}
use Rattle.kinds.specs.Bounded.{saturated}
use Rattle.kinds.specs.Parts.{part}
use Rattle.kinds.specs.Sequences.{growths, inverses}
use Rattle.kinds.proofs.Sequences.{inverses_length}
use Rattle.histories.specs.declared.named.Named.{Named}
use Rattle.histories.specs.Named.{under, named, patches}
use Rattle.histories.specs.Flat.{flat_of, flat}
use Rattle.histories.proofs.Flattening.{named_inverses}
use Rattle.rows.specs.declared.place.Place.{Place}
use Rattle.forms.specs.Form.{grouped, sound}
use Rattle.forms.proofs.Grouping.{flat_grouped, grouped_more}
use Rattle.forms.proofs.Growing.{growths_grouped}
use Rattle.forms.proofs.SoundParts.{sound_parts, numbered_fresh}
use Rattle.shop.specs.declared.refusal.Refusal.{Refusal}
use Rattle.shop.specs.declared.refusal.Refusal.TheVariants.{NoName}
use Rattle.shop.specs.declared.shop.Shop.{Shop}
use Rattle.shop.specs.State.{at, with_history, with_name}
use Rattle.shop.specs.Calls.{or_refused, room_for}
use Rattle.shop.specs.Held.{rows_of, row_at, rooms, state_of}
use Rattle.shop.specs.Reached.{Undo}
use Rattle.shop.proofs.Chains.{then_go}
use Rattle.shop.proofs.Recording.{has_room}
use Rattle.memory.specs.Write.{first, room_at, appended, appended_at}
use Rattle.memory.proofs.Appending.{first_is}
use Rattle.calls.proofs.SoundRow.{a_name, held_at}
use Rattle.calls.proofs.LongRows.{row_long}
use Rattle.calls.proofs.Called.{Answers, refused_so, history_written, refused, done}
use Rattle.calls.specs.Handed.{with_work}
use Rattle.calls.proofs.FromWork.{InRow}

-- the changes of a patch, without its name
unnamed : {P : Type 0} (n : ℕ) (cs : List P) → map (λ (c : Named P). c.changes) (map (under n) cs) ≡ cs
unnamed n [] = refl
unnamed n (c ∷ cs) = ap (λ z. c ∷ z) (unnamed n cs)

-- as much as the changes of a patch grow
growths_of : {P F : Type 0} (T : Theory P F) (p : Named (List P)) → 0 < length p.changes → growths (named T) (flat_of p) ≡ (patches T).growth p
growths_of T p some = growths_grouped T (flat_of p) ∙ ap (growths (patches T)) (grouped_more [] p some refl) ∙ omega arith

module _ {P F : Type 0} (T : Theory P F) (s : Shop P) (work left : List (Named P)) (r n : ℕ) where
  module _ (place : Place) (i : InRow T s work left r n place) where
    -- the inverse, under the next name
    abbrev inverse : Named (List P)
    inverse = under (s.counter + 1) (inverses T i.last.changes)

    inverse_some : 0 < length (inverses T i.last.changes)
    inverse_some = let a = inverses_length T i.last.changes in let b = i.facts.some in omega arith

    -- the changes of the patch, in the work row
    patch_is : first place.count (drop place.start left) ≡ flat_of i.last
    patch_is =
        let a = length-map i.last.changes (under i.last.name) in
        let b = length-append (flat_of i.last) i.free in
        let c = i.counts in
        ap (first place.count) (ap (drop place.start) i.row ∙ drop_at (flat i.h) (flat_of i.last ++ i.free) place.start (sym i.starts))
        ∙ sym (first_is place.count (flat_of i.last ++ i.free) (omega arith)) ∙ take_at (flat_of i.last) i.free place.count (omega arith)

    module _ (fresh : ℕ) (is-next : Ok fresh ≡ part (λ _. s.counter + 1) (λ x. x) (or_refused {F = F} (ltb s.counter 255) NoName))
        (more : ℕ) (grown : more ≡ saturated (growths (named T) (inverses (named T) (first place.count (drop place.start left))))) where
      next : (or_refused {F = F} (ltb s.counter 255) NoName ≡ Ok tt) × (fresh ≡ s.counter + 1)
      next = a_name (ltb s.counter 255) (s.counter + 1) fresh is-next

      -- the test of the room
      abbrev Tested : Result (Unit {0}) (Refusal F) → Type 0
      Tested a = (p : Named (List P)) → length p.changes ≡ place.count → saturated ((patches T).growth p) ≡ more → a ≡ room_for T (grouped (row_at s r)) p

      tested_is : (a : Result (Unit {0}) (Refusal F)) → Tested a → room_for T (grouped (row_at s r)) inverse ≡ a
      tested_is a h =
          let back = under i.last.name (inverses T i.last.changes) in
          sym (h inverse (inverses_length T i.last.changes ∙ sym i.counts)
          (sym (grown ∙ ap (λ z. saturated (growths (named T) (inverses (named T) z))) patch_is ∙ ap (λ z. saturated (growths (named T) z)) (named_inverses T i.last.name i.last.changes)
          ∙ ap saturated (growths_of T back inverse_some))))

      -- the repository is full
      pub no_room : (q : Result ℕ (Refusal F)) (x : Refusal F) → q ≡ Err x → Tested (Err x) → Answers T (with_work s work) s (Undo r n) q s
      no_room q x e h =
          refused T (with_work s work) s (Undo r n) q x e
          (then_go _ i.is (then_go _ next.0 (refused_so _ (ap (λ z. room_for T z inverse) (held_at s r) ∙ tested_is (Err x) h))))

      -- the inverse is appended
      pub appended_back : Tested (Ok tt) → (t : Shop P) → rows_of t ≡ appended_at s r (map (under fresh) (inverses T (map (λ c. c.changes) (first place.count (drop place.start left)))))
          → rooms t ≡ rooms s → t.counter ≡ fresh → Answers T (with_work s work) s (Undo r n) (Ok fresh) t
      appended_back h t rows same counter =
          let tested = tested_is (Ok tt) h in
          let row = row_at s r in
          let (_, fits, _) = has_room T (grouped row) inverse tt tested in
          let entries : map (under fresh) (inverses T (map (λ c. c.changes) (first place.count (drop place.start left)))) ≡ flat_of inverse =
          (λ j. map (under (next.1 j)) (inverses T (map (λ c. c.changes) (patch_is j)))) ∙ ap (λ z. map (under (s.counter + 1)) (inverses T z)) (unnamed i.last.name i.last.changes) in
          let room = row_long T s (length work) (sym i.facts.memory) r i.facts.there in
          let a = ap length (flat_grouped row) in
          let b = length-map (inverses T i.last.changes) (under (s.counter + 1)) in
          let written : rows_of t ≡ set (rows_of s) r (row ++ flat_of inverse) =
          rows ∙ ap (λ z. set (rows_of s) r (appended (room_at s r) row z)) entries
          ∙ ap (λ z. set (rows_of s) r (row ++ cond z (flat_of inverse) [])) (le-leb (length row + length (flat_of inverse)) (room_at s r) (omega arith)) in
          let new = numbered_fresh s.counter (grouped row) (s.counter + 1) (sound_parts T s.counter (grouped row) (subst (λ z. sound T s.counter z ≡ true) (held_at s r) i.facts.formed)).numbers (omega arith) in
          let histories = history_written (rows_of t) (rows_of s) r (row ++ flat_of inverse) (at (state_of s) r ++ inverse ∷ []) written
          (grouped_more row inverse inverse_some new ∙ ap (λ z. z ++ inverse ∷ []) (sym (held_at s r))) in
          let state : state_of t ≡ with_name (with_history (state_of s) r (at (state_of s) r ++ inverse ∷ [])) = λ j. record { histories = histories j; counter = (counter ∙ next.1) j } in
          done T (with_work s work) s (Undo r n) fresh t (with_name (with_history (state_of s) r (at (state_of s) r ++ inverse ∷ []))) (s.counter + 1)
          (then_go _ i.is (then_go _ next.0 (then_go _ (ap (λ z. room_for T z inverse) (held_at s r) ∙ tested) refl))) next.1 state same
