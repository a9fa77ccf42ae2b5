-- Whether there is room for one patch more.
use Rattle.std.proofs.Common.{◌≡◌, ℕ, ◌+◌, min, Bool, true, false, ◌&&◌, ltb, leb, List, length, refl, ap, arith}
use Rattle.std.proofs.lemmas.Bool.Decides.{nat_tests}
use Rattle.kinds.specs.Theory.{Theory}
use Rattle.kinds.specs.Bounded.{saturated, largest}
use Rattle.kinds.specs.Laws.{most}
use Rattle.kinds.specs.Sequences.{and_then, growths}
use Rattle.histories.specs.declared.named.Named.{Named}
use Rattle.histories.specs.Named.{patches}
use Rattle.histories.specs.Flat.{flat}
use Rattle.forms.specs.Form.{grouped, most_patches, most_changes}
use Rattle.forms.proofs.Grouping.{flat_grouped}
use Rattle.shop.specs.declared.refusal.Refusal.TheVariants.{Full, Overgrown}
use Rattle.shop.specs.Calls.{or_refused, room_for}

module _ {P F : Type 0} (T : Theory P F) (row : List (Named P)) (p : Named (List P)) where
  abbrev few : Bool
  few = leb (length (grouped row) + 1) most_patches

  abbrev short : Bool
  short = leb (length (flat (grouped row)) + length p.changes) most_changes

  abbrev light : Bool
  light = leb (growths (patches T) (grouped row) + (patches T).growth p) most

  long : length (flat (grouped row)) ≡ length row
  long = ap length (flat_grouped row)

  -- the numbers that are compared
  module _ (m n : ℕ) (i : m ≡ length (grouped row)) (j : n ≡ min (length row + length p.changes) 18446744073709551615) where
    pub few_is : ltb m most_patches ≡ few
    few_is = grind (arith, nat_tests)

    pub short_is : leb n most_changes ≡ short
    short_is = let l = long in grind (arith, nat_tests)

  pub light_is : (m n o : ℕ) → m ≡ saturated (growths (patches T) (grouped row)) → n ≡ saturated ((patches T).growth p) → o ≡ min (m + n) largest → leb o most ≡ light
  light_is m n o i j k = grind (arith, nat_tests)

  -- room is left if the three tests hold
  pub by_tests : (a b c : Bool) → a ≡ few → b ≡ short → c ≡ light → room_for T (grouped row) p ≡ and_then (or_refused {F = F} a Full) (λ _. and_then (or_refused {F = F} b Full) (λ _. or_refused c Overgrown))
  by_tests a b c e f g = rw (e, f, g) (on few)
    where
      on : (a : Bool) → and_then (or_refused {F = F} (a && short) Full) (λ _. or_refused light Overgrown)
          ≡ and_then (or_refused {F = F} a Full) (λ _. and_then (or_refused {F = F} short Full) (λ _. or_refused light Overgrown))
      on true = refl
      on false = refl
