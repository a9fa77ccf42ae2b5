-- The laws of tables.
use Rattle.std.specs.Prelude.{◌≡◌, ℕ, true, false, ◌≢◌, List, length, ℤ, pos, slice_index_or, slice_set, refl}
use Rattle.std.proofs.Common.{sym, ap, ◌∙◌, ⊎_elim, arith}
use Rattle.std.proofs.lemmas.List.{length-set, get_or-set_same, get_or-set_other, set-set, set_comm, set-get_or}
use Rattle.std.proofs.lemmas.Bool.{and_from, cases_Bool}
use Rattle.std.proofs.lemmas.Bool.Decides.{nat_tests}
use Rattle.kinds.specs.Laws.{Then, Commutes, Undo, SwapBack, Turning, FrontFirst, BackFirst, Growth, Reach, StaysWritten, Lawful}
use Rattle.kinds.proofs.Halves.{undo_from_forward, Forward, both_ways, three_from_front}
use Rattle.kinds.proofs.Parts.{pair_of}
use Rattle.tables.specs.declared.Cell.{Cell}
use Rattle.tables.specs.declared.CellChange.{CellChange}
use Rattle.tables.specs.Table.{table, in_table, place, same_cell, change_invert}
use Rattle.tables.specs.Proofs.Takes.{Changed, changed, takes, written_parts}
use Rattle.tables.specs.Proofs.Words.{held_in_words}

-- the inverse puts back what was there
takes_back : (p : CellChange) (d e : List ℤ) → Changed p d e → Changed (change_invert p) e d
takes_back p d e c =
    let k : ℕ = place p.cell in
    let n : length e ≡ length d = ap length c.put ∙ length-set d k p.new in
    record {
      has = c.has;
      below = omega (arith, c.below);
      held = ap (λ x. slice_index_or x k (pos 0)) c.put ∙ get_or-set_same d k p.new (pos 0) c.below;
      put = sym (ap (λ x. slice_set x k p.old) c.put ∙ set-set d k p.new p.old ∙ ap (slice_set d k) (sym c.held) ∙ set-get_or d k (pos 0));
    }

-- p and q commute to q' and p': their cells differ, and each stays as it is
record Apart (p q q' p' : CellChange) : Type 0 where
  apart : same_cell p.cell q.cell ≡ false
  second : q' ≡ q
  first : p' ≡ p

commuted : (p q q' p' : CellChange) → Commutes table p q q' p' → Apart p q q' p'
commuted p q q' p' h = ⊎_elim one two (cases_Bool (same_cell p.cell q.cell))
  where
    one : same_cell p.cell q.cell ≡ true → Apart p q q' p'
    one k = let g = rw k at h in absurd (let z : ◌≡◌ {A = ℕ} 0 1 = cc in omega arith)

    two : same_cell p.cell q.cell ≡ false → Apart p q q' p'
    two k = let e = pair_of (sym (rw k at h)) in record { apart = k; second = e.0; first = e.1 }

commutes : (p q : CellChange) → same_cell p.cell q.cell ≡ false → Commutes table p q q p
commutes p q k = rw k

same_cell_sym : (a b : Cell) → same_cell a b ≡ same_cell b a
same_cell_sym a b = grind (arith, nat_tests)

-- different cells of a table stand at different places
places_apart : (a b : Cell) → in_table a ≡ true → in_table b ≡ true → same_cell a b ≡ false → place a ≢ place b
places_apart a b h k n = grind (arith, nat_tests)

-- changes of different cells, in the other order
exchanged : (p q : CellChange) (d m e : List ℤ) → same_cell p.cell q.cell ≡ false → Changed p d m → Changed q m e → Then table q p d e
exchanged p q d m e k a b =
    let i : ℕ = place p.cell in
    let j : ℕ = place q.cell in
    let ne : i ≢ j = places_apart p.cell q.cell a.has b.has k in
    let n : List ℤ = slice_set d j q.new in
    let l : length m ≡ length d = ap length a.put ∙ length-set d i p.new in
    let first : Changed q d n = record {
      has = b.has;
      below = omega (arith, b.below);
      held = sym (ap (λ x. slice_index_or x j (pos 0)) a.put ∙ get_or-set_other d i j p.new (pos 0) (λ x. ne (sym x))) ∙ b.held;
      put = refl;
    } in
    let second : Changed p n e = record {
      has = a.has;
      below = rw length-set a.below;
      held = get_or-set_other d j i q.new (pos 0) ne ∙ a.held;
      put = b.put ∙ ap (λ x. slice_set x j q.new) a.put ∙ set_comm d i j p.new q.new ne;
    } in
    (n, takes q d n first, takes p n e second)

undo : Undo table
undo = undo_from_forward table (λ p d e h. takes (change_invert p) e d (takes_back p d e (changed p d e h))) (λ p. refl)

swap_back : SwapBack table
swap_back p q q' p' h =
    let c = commuted p q q' p' h in
    rw (c.second, c.first) (commutes q p (same_cell_sym q.cell p.cell ∙ c.apart))

forward : Forward table
forward p q q' p' h d e (m, a, b) =
    let c = commuted p q q' p' h in
    rw (c.second, c.first) (exchanged p q d m e c.apart (changed p d m a) (changed q m e b))

turning : Turning table
turning p q q' p' h =
    let c = commuted p q q' p' h in
    rw (c.second, c.first) (commutes (change_invert p) q c.apart)

back_first : (p q r r2 q2 p2 : CellChange) → FrontFirst table p q r r2 q2 p2 → BackFirst table p q r r2 q2 p2
back_first p q r r2 q2 p2 (q1, p1, r1, h, k, l) =
    let a = commuted p q q1 p1 h in
    let b = commuted p1 r r1 p2 k in
    let c = commuted q1 r1 r2 q2 l in
    rw (c.second ∙ b.second, c.first ∙ a.second, b.first ∙ a.first)
    (r, q, p, commutes q r (rw (a.second, b.second) at c.apart), commutes p r (rw a.first at b.apart), commutes p q a.apart)

grows : Growth table
grows = record { keeps = λ p q q' p' h. (refl, refl); bounds = λ p d e h. omega arith }

reach : Reach table
reach = record { in_turn = λ p q d e h n. refl; each = λ p q d m e h k n. refl }

stays_written : StaysWritten table
stays_written = record {
  inverted = λ p h. let (a, b, c) = written_parts p h in and_from _ _ a (and_from _ _ c b);
  commuted = λ p q q' p' h f w v. let c = commuted p q q' p' h in (rw c.second v, rw c.first w);
}

pub table_lawful : Lawful table
table_lawful = record {
  undo = undo;
  swap_back = swap_back;
  same_effect = both_ways table swap_back forward;
  turning = turning;
  three = three_from_front table undo swap_back turning back_first;
  grows = grows;
  reach = reach;
  stays_written = stays_written;
  held_in_words = held_in_words;
}
