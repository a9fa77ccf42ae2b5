-- A change applied to the words of a table.
use Rattle.std.proofs.Common.{◌≡◌, ℕ, ◌<◌, true, cond, ◌&&◌, eqb, ltb, List, length, get_or, set, ℤ, pos, Some, None, Ok, sym, refl, ap, ◌∙◌, arith, w16, SFits, to_z, of_z}
use Rattle.std.proofs.ByRecursion.{All-get_or}
use Rattle.std.proofs.lemmas.List.{get_or-map, map-set}
use Rattle.std.proofs.lemmas.Int.{to_z-of_z}
use Rattle.std.proofs.lemmas.Bool.{true≢false}
use Rattle.std.proofs.lemmas.Bool.Decides.{nat_tests}
use Rattle.kinds.specs.Bounded.{Applied, outcome, largest}
use Rattle.tables.specs.declared.Cell.{Cell}
use Rattle.tables.specs.declared.CellChange.{CellChange}
use Rattle.tables.specs.Table.{table, in_table, place, in_range, word}
use Rattle.tables.specs.Proofs.Takes.{Changed, takes}
use Rattle.tables.specs.Proofs.Values.{word_apart}
use Rattle.tables.specs.Proofs.Words.{still_fits}

-- what `Cell::place` tells where it tells a place
pub found : (c : Cell) (k : ℕ) → Some k ≡ cond (in_table c) (Some (place c)) None → (in_table c ≡ true) × (k ≡ place c)
found c k h = grind arith

-- what `roomy` tells of the length of a run
pub long : (n w : ℕ) → w ≡ 64 → true ≡ eqb n w && ltb w largest → n ≡ 64
long n w e h = grind (arith, nat_tests)

-- what `cell_word` tells of a value of the code
pub stored : (v : ℤ) (w : ℕ) → SFits w16 v → w ≡ word (to_z w16 (of_z w16 v)) → w ≡ word v
stored v w f h = h ∙ ap word (to_z-of_z w16 v f)

below_64 : (c : Cell) → in_table c ≡ true → place c < 64
below_64 c h = grind (arith, nat_tests)

module _ (p : CellChange) (was : List ℕ) (n : length was ≡ 64) where
  -- the word of a cell that a table has
  read : (d : List ℤ) → table.fits d → was ≡ table.encode d → in_table p.cell ≡ true → get_or was (place p.cell) 0 ≡ word (get_or d (place p.cell) (pos 0))
  read d f e i =
      let l = below_64 p.cell i in
      ap (λ x. get_or x (place p.cell) 0) e ∙ get_or-map word d (place p.cell) (pos 0) 0 (omega (arith, f.0))

  -- where the words agree with the change, the cell holds its old value
  changes : in_range p.old ≡ true → in_table p.cell ≡ true → get_or was (place p.cell) 0 ≡ word p.old
      → (d : List ℤ) → table.fits d → was ≡ table.encode d → Changed p d (set d (place p.cell) p.new)
  changes o i h d f e =
      let b : place p.cell < length d = let l = below_64 p.cell i in omega (arith, f.0) in
      let r = All-get_or (λ v. in_range v ≡ true) d (place p.cell) (pos 0) b f.1 in
      record { has = i; below = b; held = word_apart _ _ r o (sym (read d f e i) ∙ h); put = refl }

  pub applied : in_range p.old ≡ true → in_range p.new ≡ true → in_table p.cell ≡ true → get_or was (place p.cell) 0 ≡ word p.old
      → (left : List ℕ) → left ≡ set was (place p.cell) (word p.new) → Applied table p was (Ok tt) left
  applied o w i h left l = record { refused = λ r. absurd (true≢false (rw n at r)); done = λ d f e _. after d f e }
    where
      after : (d : List ℤ) → table.fits d → was ≡ table.encode d → (e : List ℤ) × table.fits e × (left ≡ table.encode e) × (outcome table p d ≡ Ok e)
      after d f e =
          let k : ℕ = place p.cell in
          let c = changes o i h d f e in
          let t = takes p d _ c in
          (set d k p.new, still_fits p d _ w f c, l ∙ ap (λ x. set x k (word p.new)) e ∙ sym (map-set word d k p.new), rw t)
