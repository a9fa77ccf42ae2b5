-- Whether a history has the right form, tested patch by patch.
use Rattle.std.proofs.Common.{◌≡◌, ℕ, ◌<◌, ◌≤◌, Bool, true, false, not, ◌&&◌, ltb, leb, List, ◌∷◌, length, take, drop, sym, refl, ap, ◌∙◌, ⊎_elim, arith}
use native.Mathlib.Nat.{min-eq_left, min-eq_right}
use Rattle.std.proofs.lemmas.Bool.{and_left, and_right, and_from, le-leb, lt-leb, cases_lt}
use Rattle.kinds.specs.Theory.{Theory}
use Rattle.kinds.specs.Laws.{most}
use Rattle.kinds.specs.Bounded.{saturated, largest}
use Rattle.kinds.specs.Sequences.{growths, all_written}
use Rattle.histories.specs.declared.named.Named.{Named}
use Rattle.histories.specs.Named.{named, one_to_eight, patches}
use Rattle.histories.specs.History.{holds}
use Rattle.histories.specs.Flat.{flat}
use Rattle.forms.specs.Form.{grouped, numbered, apart, sound, most_patches, most_changes}
use Rattle.forms.proofs.Grouping.{flat_grouped}
use Rattle.forms.proofs.FirstPatch.{First}
use Rattle.forms.proofs.Writing.{flat_written}

-- three tests, each of the first patch and then of the others
three : (b w u W U V : Bool) → ((b && w) && u) && (W && U && V) ≡ (w && W) && (b && U) && (u && V)
three true true true W U V = refl
three true true false W U V = sym (and_right (W && U) false refl)
three true false u W U V = refl
three false w u W U V = sym (and_left ((w && W) && false) (u && V) (and_right (w && W) false refl))

-- a test that is passed
passed : (a b : Bool) → b ≡ true → a && b ≡ a
passed true b e = e
passed false b e = refl

-- whether a growth is above the most is seen by the number that it is told as
told_above : (n : ℕ) → most < saturated n → most < n
told_above n e = ⊎_elim (λ k. let a : saturated n ≡ n = min-eq_left (omega arith) in omega arith) (λ k. omega arith) (cases_lt n largest)

told_within : (n : ℕ) → saturated n ≤ most → n ≤ most
told_within n e = ⊎_elim (λ k. let a : saturated n ≡ n = min-eq_left (omega arith) in omega arith)
    (λ k. absurd (let a : saturated n ≡ largest = min-eq_right k in omega arith)) (cases_lt n largest)

module _ {P F : Type 0} (T : Theory P F) (counter : ℕ) where
  abbrev by_name : Named (List P) → ℕ
  by_name w = w.name

  -- what is asked of each patch
  abbrev each_sound : List (Named (List P)) → Bool
  each_sound h = all_written (patches T) h && numbered counter h && apart by_name h

  abbrev in_range : ℕ → Bool
  in_range n = ltb 0 n && leb n counter

  -- the first patch of a row is tested, and then the rest
  module _ (row : List (Named P)) (x : Named P) (count : ℕ) (first : First row x.name count) (front later : List (Named P)) (is_front : front ≡ take count row) (is_later : later ≡ drop count row)
      (b w v : Bool) (ranged : b ≡ in_range x.name) (tested : w ≡ one_to_eight front && all_written (named T) front) (held : v ≡ holds by_name (grouped later) x.name) where
    abbrev p : Named (List P)
    p = first.patch

    rest_is : grouped later ≡ first.others
    rest_is = ap grouped is_later ∙ first.rest

    by_tests : ((b && w) && not v) && each_sound (grouped later) ≡ each_sound (grouped row)
    by_tests =
        let range_is : b ≡ in_range p.name = ranged ∙ ap in_range (sym first.named) in
        let written_is : w ≡ (patches T).written p =
        tested ∙ ap (λ (z : List (Named P)). one_to_eight z && all_written (named T) z) (is_front ∙ first.front) ∙ flat_written T p in
        let held_is : v ≡ holds by_name first.others p.name = held ∙ ap (λ z. holds by_name z x.name) rest_is ∙ ap (holds by_name first.others) (sym first.named) in
        ap (λ z. ((b && w) && not v) && each_sound z) rest_is
        ∙ three b w (not v) (all_written (patches T) first.others) (numbered counter first.others) (apart by_name first.others)
        ∙ ap (λ z. (z && all_written (patches T) first.others) && (b && numbered counter first.others) && (not v && apart by_name first.others)) written_is
        ∙ ap (λ z. all_written (patches T) (p ∷ first.others) && (z && numbered counter first.others) && (not v && apart by_name first.others)) range_is
        ∙ ap (λ z. all_written (patches T) (p ∷ first.others) && numbered counter (p ∷ first.others) && (not z && apart by_name first.others)) held_is
        ∙ ap each_sound (sym first.is)

    pub misnumbered : b ≡ false → false ≡ each_sound (grouped row)
    misnumbered e = sym (and_left _ _ (and_left _ _ (and_left b w e))) ∙ by_tests

    pub unwritten : w ≡ false → false ≡ each_sound (grouped row)
    unwritten e = sym (and_left _ _ (and_left _ _ (and_right b w e))) ∙ by_tests

    pub twice : not v ≡ false → false ≡ each_sound (grouped row)
    twice e = sym (and_left _ _ (and_right (b && w) (not v) e)) ∙ by_tests

    pub then_rest : b ≡ true → w ≡ true → not v ≡ true → (r : Bool) → r ≡ each_sound (grouped later) → r ≡ each_sound (grouped row)
    then_rest e f n r i = i ∙ ap (λ z. z && each_sound (grouped later)) (sym (and_from (b && w) (not v) (and_from b w e f) n)) ∙ by_tests

  -- the whole row
  module _ (row : List (Named P)) where
    abbrev g : List (Named (List P))
    g = grouped row

    pub too_many_changes : most_changes < length row → false ≡ sound T counter g
    too_many_changes e = sym (and_left _ _ (and_right _ _ (lt-leb (length (flat g)) most_changes (rw flat_grouped e))))

    pub too_many_patches : most_patches < length g → false ≡ sound T counter g
    too_many_patches e = sym (and_left _ _ (and_left _ _ (and_right _ _ (lt-leb (length g) most_patches e))))

    pub too_much_growth : (r : ℕ) → r ≡ saturated (growths (patches T) g) → most < r → false ≡ sound T counter g
    too_much_growth r i e = sym (and_right _ _ (lt-leb (growths (patches T) g) most (told_above (growths (patches T) g) (omega arith))))

    pub all_sound : (r : ℕ) (b : Bool) → length row ≤ most_changes → r ≡ saturated (growths (patches T) g) → r ≤ most → length g ≤ most_patches
        → b ≡ each_sound g → b ≡ sound T counter g
    all_sound r b m i n k j =
        j ∙ sym (passed _ _ (le-leb (growths (patches T) g) most (told_within (growths (patches T) g) (omega arith)))
        ∙ passed _ _ (le-leb (length (flat g)) most_changes (rw flat_grouped m)) ∙ passed _ _ (le-leb (length g) most_patches k))
