-- One repository of a shop: its row and its room, and the shop after it was written to.
use Rattle.std.proofs.Common.{◌≡◌, ℕ, ◌<◌, ◌≤◌, List, [], map, length, get_or, set, sym, ap, ◌∙◌, arith}
use Rattle.std.proofs.lemmas.List.{map-set, set-get_or, get_or-map}
use Rattle.histories.specs.declared.named.Named.{Named}
use Rattle.shop.specs.declared.repository.Repository.{Repository}
use Rattle.shop.specs.declared.shop.Shop.{Shop}
use Rattle.shop.specs.Held.{used, room, rooms, rows_of, row_at}
use Rattle.memory.specs.Write.{appended, replaced, room_at, appended_at, replaced_at, RowsBecome}

module _ {P : Type 0} (s : Shop P) (r : ℕ) where
  -- One has it.
  module _ (h : r ≤ 3) (x : Repository P) where
    there : r < length s.repositories
    there = let f = s.four in omega arith

    its_row : used (get_or s.repositories r x) ≡ row_at s r
    its_row = sym (get_or-map used s.repositories r x [] there)

    its_room : room (get_or s.repositories r x) ≡ room_at s r
    its_room = sym (get_or-map room s.repositories r x 0 there)

    module _ (q : Repository P) where
      -- The shop in which it was written to, as f says of its room and its row.
      written : (t : Shop P) → t.repositories ≡ set s.repositories r q → t.counter ≡ s.counter → (f : ℕ → List (Named P) → List (Named P))
          → used q ≡ f (room (get_or s.repositories r x)) (used (get_or s.repositories r x)) → room q ≡ room (get_or s.repositories r x)
          → RowsBecome s t (set (rows_of s) r (f (room_at s r) (row_at s r)))
      written t e n f i j = record {
        rows = ap (map used) e ∙ map-set used s.repositories r q ∙ ap (set (rows_of s) r) (i ∙ ap (λ n. f n (used (get_or s.repositories r x))) its_room ∙ ap (f (room_at s r)) its_row);
        rooms = ap (map room) e ∙ map-set room s.repositories r q ∙ ap (set (rooms s) r) (j ∙ its_room) ∙ set-get_or (rooms s) r 0;
        counter = n;
      }

      pub appended_in_shop : (xs : List (Named P)) → used q ≡ appended (room (get_or s.repositories r x)) (used (get_or s.repositories r x)) xs → room q ≡ room (get_or s.repositories r x)
          → (t : Shop P) → t.repositories ≡ set s.repositories r q → t.counter ≡ s.counter → RowsBecome s t (appended_at s r xs)
      appended_in_shop xs i j t e n = written t e n (λ n row. appended n row xs) i j

      pub replaced_in_shop : (xs : List (Named P)) (count : ℕ) → used q ≡ replaced (room (get_or s.repositories r x)) (used (get_or s.repositories r x)) xs count → room q ≡ room (get_or s.repositories r x)
          → (t : Shop P) → t.repositories ≡ set s.repositories r q → t.counter ≡ s.counter → RowsBecome s t (replaced_at s r xs count)
      replaced_in_shop xs count i j t e n = written t e n (λ n row. replaced n row xs count) i j
