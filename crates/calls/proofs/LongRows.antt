-- Rows with room for 160 changes, and histories that fit in.
use Rattle.std.proofs.Common.{◌≡◌, ℕ, zero, suc, ◌<◌, ◌≤◌, true, ◌&&◌, leb, List, [], ◌∷◌, length, get_or, None, Ok, ap, arith}
use lib.ListN.{length-map}
use Rattle.std.proofs.lemmas.Bool.{and_parts, leb-true}
use Rattle.kinds.specs.Theory.{Theory}
use Rattle.forms.specs.Form.{grouped, sound, most_changes}
use Rattle.forms.proofs.Grouping.{flat_grouped}
use Rattle.forms.proofs.SoundParts.{sound_parts}
use Rattle.shop.specs.declared.refusal.Refusal.TheVariants.{WrongRoom}
use Rattle.shop.specs.declared.shop.Shop.{Shop}
use Rattle.shop.specs.Calls.{all_long, enough}
use Rattle.shop.specs.Held.{room, rooms, row_at}
use Rattle.memory.specs.Write.{room_at}
use Rattle.calls.proofs.SoundRow.{tested}

pub long_at : (ns : List ℕ) (r : ℕ) → all_long ns ≡ true → r < length ns → most_changes ≤ get_or ns r 0
long_at [] r e l = absurd (omega arith)
long_at (n ∷ ns) zero e l = leb-true most_changes n (and_parts (leb most_changes n) (all_long ns) e).0
long_at (n ∷ ns) (suc r) e l = long_at ns r (and_parts (leb most_changes n) (all_long ns) e).1 (omega arith)

module _ {P F : Type 0} (T : Theory P F) (s : Shop P) where
  -- a history of the right form
  pub row_short : (r : ℕ) → sound T s.counter (grouped (row_at s r)) ≡ true → length (row_at s r) ≤ most_changes
  row_short r e = let l = (sound_parts T s.counter (grouped (row_at s r)) e).change_limit in let k = ap length (flat_grouped (row_at s r)) in omega arith

  -- a work row of n entries is handed in with the shop
  module _ (n : ℕ) (e : Ok tt ≡ enough T (record { rows = n ∷ rooms s; run = None })) where
    both_long : (leb most_changes n ≡ true) × (all_long (rooms s) ≡ true)
    both_long = and_parts (leb most_changes n) (all_long (rooms s)) (and_parts (all_long (n ∷ rooms s)) true (tested (all_long (n ∷ rooms s) && true) WrongRoom e)).0

    pub row_long : (r : ℕ) → r < 4 → most_changes ≤ room_at s r
    row_long r l = long_at (rooms s) r both_long.1 (let k = length-map s.repositories room in let f = s.four in omega arith)

    pub fits_in_work : (r : ℕ) → sound T s.counter (grouped (row_at s r)) ≡ true → length (row_at s r) ≤ n
    fits_in_work r b = let k = row_short r b in let l = leb-true most_changes n both_long.0 in omega arith
