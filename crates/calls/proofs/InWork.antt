-- A patch taken out of a copy of its history, in the work row.
use Rattle.std.specs.Prelude.{option_map}
use Rattle.std.proofs.Common.{◌≡◌, ℕ, ◌≤◌, List, ◌++◌, length, take, drop, Some, None, Ok, Err, Option, Result, sym, refl, ap, ◌∙◌, subst, arith}
use lib.ListN.{length-map}
use Rattle.std.proofs.lemmas.List.{append_assoc, take_at}
use Rattle.std.proofs.lemmas.Bool.{le-leb, cond-true}
use Rattle.kinds.specs.Theory.{Theory}
use Rattle.kinds.specs.Parts.{part}
use Rattle.kinds.specs.Sequences.{and_then}
use Rattle.histories.specs.declared.Stop.{Stop}
use Rattle.histories.specs.declared.named.Named.{Named}
use Rattle.histories.specs.Named.{under, patches}
use Rattle.histories.specs.History.{passed}
use Rattle.histories.proofs.Stops.{ok_not_err, the_ok}
use Rattle.histories.specs.Flat.{flat_of, flat, flat_both, ToEnd}
use Rattle.histories.proofs.Flattening.{flat_append, passing_flat, passing_lengths}
use Rattle.rows.specs.declared.place.Place.{Place}
use Rattle.forms.specs.Form.{grouped}
use Rattle.forms.specs.Find.{Standing, standing, place_of}
use Rattle.forms.proofs.Finding.{found_row}
use Rattle.forms.proofs.Grouping.{}
use Rattle.shop.specs.declared.refusal.Refusal.{Refusal}
use Rattle.shop.specs.declared.shop.Shop.{Shop}
use Rattle.shop.specs.State.{History}
use Rattle.shop.specs.Calls.{in_shop, enough, sound_at, or_not_held, needed_by, taken_out}
use Rattle.shop.specs.Held.{row_at, state_of}
use Rattle.shop.proofs.Chains.{then_go}
use Rattle.shop.proofs.Forming.{by_name}
use Rattle.memory.specs.Write.{covered}
use Rattle.calls.specs.Handed.{with_work}
use Rattle.calls.specs.TakeOut.{TakenInRow}
use Rattle.calls.proofs.SoundRow.{formed}
use Rattle.calls.proofs.LongRows.{fits_in_work}

-- a place that was found is that of a patch
place_found : {P : Type 0} (o : Option (Standing (Named (List P)))) (place : Place) → Some place ≡ option_map place_of o → (w : Standing (Named (List P))) × (o ≡ Some w) × (place ≡ place_of w)
place_found (Some w) place e = (w, refl, cc)
place_found None place e = cc

-- what was answered, or the error, of a call whose error was mapped
done_so : {A B E G : Type 0} (f : E → G) (h : A → B) (r : Result A E) (a : A) → Ok a ≡ part (λ a. a) f r → part h f r ≡ Ok (h a)
done_so f h (Ok b) a e = ap Ok (ap h (sym (the_ok e)))
done_so f h (Err x) a e = absurd (ok_not_err e)

failed_so : {A B E G : Type 0} (f : E → G) (h : A → B) (r : Result A E) (x : G) → Err x ≡ part (λ a. a) f r → part h f r ≡ Err x
failed_so f h (Ok b) x e = absurd (ok_not_err (sym e))
failed_so f h (Err y) x e = let z : x ≡ f y = cc in ap Err (sym z)

module _ {P F : Type 0} (T : Theory P F) (s : Shop P) (work : List (Named P)) (r n : ℕ) where
  module _ (there : Ok tt ≡ in_shop T r) (room : Ok tt ≡ enough T (with_work s work)) where
    module _ (right : Ok (grouped (row_at s r)) ≡ sound_at T (state_of s) r) where
      abbrev found : Option (Standing (Named (List P)))
      found = standing by_name (grouped (row_at s r)) n

      -- what is left to do
      abbrev passed_on : Standing (Named (List P)) → Result (History P × Named (List P)) Stop → Result (History P × Named (List P)) (Refusal F)
      passed_on w a = and_then (part (λ x. x) (needed_by T r) a) (λ (rest, last). Ok (w.before ++ rest, last))

      abbrev if_found : Option (Standing (Named (List P))) → Result (History P × Named (List P)) (Refusal F)
      if_found o = and_then (or_not_held T o) (λ w. passed_on w (passed (patches T) by_name w.itself w.behind))

      goes_on : taken_out T (with_work s work) (state_of s) r n ≡ if_found found
      goes_on = then_go _ (sym there) (then_go _ (sym room) (then_go _ (sym right) refl))

      -- the first k entries of the work row are a copy of the history
      module _ (copied : List (Named P)) (k : ℕ) (all : k ≡ length (row_at s r)) (is : copied ≡ covered (row_at s r) work) where
        fits : length (row_at s r) ≤ length work
        fits = fits_in_work T s (length work) room r (formed T s r _ right)

        pub copy_within : length copied ≡ length work → k ≤ length copied
        copy_within e = let f = fits in omega arith

        copy_is : take k copied ≡ row_at s r
        copy_is =
            ap (λ i. take i copied) all ∙ ap (take (length (row_at s r))) (is ∙ cond-true _ (row_at s r ++ drop (length (row_at s r)) work) work (le-leb (length (row_at s r)) (length work) fits))
            ∙ take_at (row_at s r) (drop (length (row_at s r)) work) (length (row_at s r)) refl

        -- where the patch was passed to the end, or stopped
        module _ (place : Place) (at_place : Some place ≡ option_map place_of found) (q : Result ℕ Stop) (left free : List (Named P))
            (h : (before : List (Named P)) (p : Named (List P)) (hs : History P) → take k copied ≡ before ++ (flat_of p ++ flat hs) → length before ≡ place.start → length p.changes ≡ place.count
            → ToEnd before (flat_both (passed (patches T) by_name p hs)) q left) where
          abbrev told : Result Place (Refusal F)
          told = part (λ i. record { start = i; count = place.count }) (needed_by T r) q

          pub passed_in_work : TakenInRow (taken_out T (with_work s work) (state_of s) r n) told (left ++ free)
          passed_in_work =
              let (w, e, f) = place_found found place at_place in
              subst (λ z. TakenInRow z told (left ++ free)) (sym (goes_on ∙ ap if_found e))
              (on w f (passed (patches T) by_name w.itself w.behind) refl
              (h (flat w.before) w.itself w.behind (copy_is ∙ found_row (row_at s r) n w e) (ap (λ z. z.start) (sym f)) (ap (λ z. z.count) (sym f))))
            where
              on : (w : Standing (Named (List P))) → place ≡ place_of w → (a : Result (History P × Named (List P)) Stop) → passed (patches T) by_name w.itself w.behind ≡ a
                  → ToEnd (flat w.before) (flat_both a) q left → TakenInRow (passed_on w a) told (left ++ free)
              on w f (Err x) e t = ap (part (λ i. record { start = i; count = place.count }) (needed_by T r)) t
              on w f (Ok (rest, last)) e t =
                  let (_, l) = passing_lengths T (flat_of w.itself) (flat w.behind) (flat rest, flat_of last) (passing_flat T w.itself w.behind ∙ ap flat_both e) in
                  let count : place.count ≡ length last.changes =
                  omega (arith, ap (λ z. z.count) f, length-map w.itself.changes (under w.itself.name), length-map last.changes (under last.name), l) in
                  let front = flat_append w.before rest in
                  let same_place : ◌≡◌ {A = Result Place (Refusal F)} (Ok (record { start = length (flat w.before ++ flat rest); count = place.count })) (Ok (record { start = length (flat (w.before ++ rest)); count = length last.changes })) =
                  λ i. Ok (record { start = length (sym front i); count = count i }) in (
                    ap (part (λ i. record { start = i; count = place.count }) (needed_by T r)) t.0 ∙ same_place,
                    (free, ap (λ z. z ++ free) (t.1 ∙ ap (λ z. z ++ flat_of last) (sym front)) ∙ append_assoc (flat (w.before ++ rest)) (flat_of last) free),
                  )

          -- the answer, where the error was mapped
          module _ (m : Result ℕ (Refusal F)) (e : m ≡ part (λ a. a) (needed_by T r) q) where
            pub start_in_work : (start : ℕ) → m ≡ Ok start → TakenInRow (taken_out T (with_work s work) (state_of s) r n) (Ok (record { start = start; count = place.count })) (left ++ free)
            start_in_work start i = subst (λ z. TakenInRow (taken_out T (with_work s work) (state_of s) r n) z (left ++ free)) (done_so (needed_by T r) (λ i. record { start = i; count = place.count }) q start (sym i ∙ e)) passed_in_work

            pub stopped_in_work : (x : Refusal F) → m ≡ Err x → (a : Result Place (Refusal F)) → a ≡ Err x → TakenInRow (taken_out T (with_work s work) (state_of s) r n) a (left ++ free)
            stopped_in_work x i a j = subst (λ z. TakenInRow (taken_out T (with_work s work) (state_of s) r n) z (left ++ free)) (failed_so (needed_by T r) (λ i. record { start = i; count = place.count }) q x (sym i ∙ e) ∙ sym j) passed_in_work
