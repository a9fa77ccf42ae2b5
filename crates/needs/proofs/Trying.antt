-- A patch tried on a block, in a flat row.
use Rattle.std.proofs.Common.{◌≡◌, ℕ, ◌-◌, ◌≤◌, List, [], ◌∷◌, ◌++◌, length, Ok, Err, Result, sym, refl, ap, ◌∙◌, subst, append_assoc, arith, length-append}
use Rattle.std.proofs.lemmas.List.{append-nil, length-map}
use Rattle.kinds.specs.declared.answers.Clash.{Clash}
use Rattle.kinds.specs.Theory.{Theory}
use Rattle.kinds.specs.Bounded.{answer}
use Rattle.kinds.specs.Parts.{part}
use Rattle.kinds.specs.Sequences.{and_then, sequences}
use Rattle.histories.specs.declared.Stop.{Stop}
use Rattle.histories.specs.declared.Stop.TheVariants.{By, TooFar}
use Rattle.histories.specs.declared.named.Named.{Named}
use Rattle.histories.specs.Named.{under, patches}
use Rattle.histories.specs.History.{Block, stopped_at, commuted_at, passed, over_block, or_joins}
use Rattle.histories.proofs.Stops.{the_ok, then_ok}
use Rattle.histories.specs.Flat.{flat_of, flat, flat_both, ToEnd}
use Rattle.histories.proofs.Flattening.{flat_append, commuted_changes, passing_flat, passing_lengths}
use Rattle.histories.proofs.MergingFlat.{same_lengths}
use Rattle.needs.specs.Block.{flat_block, Found}

module _ {P : Type 0} where
  -- a block as a history
  abbrev in_order : Block P → List P
  in_order b = b.needs ++ b.itself ∷ []

  -- of a patch that was passed, those that it was passed over
  abbrev others : Result (List P × P) Stop → Result (List P) Stop
  others = part (λ s. s.0) (λ x. x)

module _ {P F : Type 0} (T : Theory P F) (name : P → ℕ) where
  -- over one more, after some
  abbrev and_last : P → Result (List P × P) Stop → Result (List P × P) Stop
  and_last q r = and_then r (λ (ws, p'). and_then (commuted_at T name q p' q) (λ (n, p''). Ok (ws ++ n ∷ [], p'')))

  -- with one more in front
  abbrev ahead : P → Result (List P × P) Stop → Result (List P × P) Stop
  ahead w r = and_then r (λ (qs', p'). Ok (w ∷ qs', p'))

  passed_last : (p : P) (qs : List P) (q : P) → passed T name p (qs ++ q ∷ []) ≡ and_last q (passed T name p qs)
  passed_last p [] q = refl
  passed_last p (w ∷ qs) q = on (λ p'. passed_last p' qs q) (commuted_at T name w p w)
    where
      last : (v : P) (ws : List P) (c : Result (P × P) Stop) → ahead v (and_then c (λ (n, p''). Ok (ws ++ n ∷ [], p''))) ≡ and_then c (λ (n, p''). Ok ((v ∷ ws) ++ n ∷ [], p''))
      last v ws (Ok t) = refl
      last v ws (Err x) = refl

      inner : (v : P) (b : Result (List P × P) Stop) → ahead v (and_last q b) ≡ and_last q (ahead v b)
      inner v (Err x) = refl
      inner v (Ok t) = last v t.0 (commuted_at T name q t.1 q)

      on : ((p' : P) → passed T name p' (qs ++ q ∷ []) ≡ and_last q (passed T name p' qs)) → (a : Result (P × P) Stop)
          → and_then a (λ (v, p'). ahead v (passed T name p' (qs ++ q ∷ []))) ≡ and_last q (and_then a (λ (v, p'). ahead v (passed T name p' qs)))
      on below (Err x) = refl
      on below (Ok s) = ap (ahead s.0) (below s.1) ∙ inner s.0 (passed T name s.1 qs)

  -- a patch passed over a block is passed over it as over a history
  passed_block : (p : P) (b : Block P) → others (passed T name p (in_order b)) ≡ part in_order (λ x. x) (over_block T name p b)
  passed_block p b = ap others (passed_last p b.needs b.itself) ∙ on (passed T name p b.needs)
    where
      last : (ws : List P) (c : Result (P × P) Stop)
          → others (and_then c (λ (n, p''). Ok (ws ++ n ∷ [], p''))) ≡ part in_order (λ x. x) (and_then c (λ (n, p''). Ok (record { needs = ws; itself = n })))
      last ws (Ok t) = refl
      last ws (Err x) = refl

      on : (a : Result (List P × P) Stop) → others (and_last b.itself a)
          ≡ part in_order (λ x. x) (and_then a (λ (ws, p'). and_then (commuted_at T name b.itself p' b.itself) (λ (n, p''). Ok (record { needs = ws; itself = n }))))
      on (Err x) = refl
      on (Ok s) = last s.0 (commuted_at T name b.itself s.1 b.itself)

module _ {P F : Type 0} (T : Theory P F) where
  abbrev by_name : Named (List P) → ℕ
  by_name w = w.name

  block_flat : (b : Block (Named (List P))) → flat (in_order b) ≡ flat_block b
  block_flat b = flat_append b.needs (b.itself ∷ []) ∙ ap (λ z. flat b.needs ++ z) (append-nil (flat_of b.itself))

  -- the patch of a block keeps its number of changes
  same_itself : (p : Named (List P)) (b c : Block (Named (List P))) → over_block (patches T) by_name p b ≡ Ok c → length c.itself.changes ≡ length b.itself.changes
  same_itself p b c e =
      let (s, _, f) = then_ok (passed (patches T) by_name p b.needs) _ c e in
      let (u, h, g) = then_ok (commuted_at (patches T) by_name b.itself s.1 b.itself) _ c f in
      ap (λ z. length z.itself.changes) (sym (the_ok g)) ∙ on s.1 u (answer (sequences T) s.1.changes b.itself.changes) refl (sym (commuted_changes T b.itself s.1 b.itself) ∙ h)
    where
      on : (q : Named (List P)) (u : Named (List P) × Named (List P)) (a : Result (List P × List P) Clash) → answer (sequences T) q.changes b.itself.changes ≡ a
          → part (λ s. (under b.itself.name s.0, under q.name s.1)) (stopped_at by_name b.itself) a ≡ Ok u → length u.0.changes ≡ length b.itself.changes
      on q u (Ok s) i j = ap (λ z. length z.0.changes) (sym (the_ok j)) ∙ same_lengths T q.changes b.itself.changes s i
      on q u (Err d) i j = absurd (let z : ◌≡◌ {A = ℕ} 0 1 = cc in omega arith)

  module _ (row work : List (Named P)) (first count : ℕ) where
    -- a patch at the front of the row was tried on the block behind it
    abbrev pub Tries : Result ℕ Stop → List (Named P) → Type 0
    Tries r left = (p : Named (List P)) (b : Block (Named (List P))) → row ≡ flat_of p ++ flat_block b → length p.changes ≡ first → length b.itself.changes ≡ count
        → length row ≤ length work → Found count (or_joins (patches T) by_name p b (over_block (patches T) by_name p b)) r left

    -- what the pass answered, and the row that it left
    module _ (s : Result ℕ Stop) (left : List (Named P)) (h : (before : List (Named P)) (p : Named (List P)) (k : List (Named (List P))) → row ≡ before ++ (flat_of p ++ flat k)
        → length before ≡ 0 → length p.changes ≡ first → ToEnd before (flat_both (passed (patches T) by_name p k)) s left) where
      -- the pass, as one over the block
      went : (p : Named (List P)) (b : Block (Named (List P))) → row ≡ flat_of p ++ flat_block b → length p.changes ≡ first
          → ToEnd [] (flat_both (passed (patches T) by_name p (in_order b))) s left
      went p b e l = h [] p (in_order b) (e ∙ ap (λ z. flat_of p ++ z) (sym (block_flat b))) refl l

      pub came_through : (k m : ℕ) → s ≡ Ok k → m ≡ length row - count - first → Tries (Ok m) left
      came_through k m i g p b e l n w =
          on (passed (patches T) by_name p (in_order b)) refl (over_block (patches T) by_name p b) refl (passed_block (patches T) by_name p b) (went p b e l)
        where
          on : (a : Result (List (Named (List P)) × Named (List P)) Stop) → passed (patches T) by_name p (in_order b) ≡ a
              → (o : Result (Block (Named (List P))) Stop) → over_block (patches T) by_name p b ≡ o → others a ≡ part (in_order) (λ x. x) o
              → ToEnd [] (flat_both a) s left → Found count (or_joins (patches T) by_name p b o) (Ok m) left
          on (Err x) f o j q y = absurd (let z : ◌≡◌ {A = ℕ} 0 1 = cc (i, y) in omega arith)
          on (Ok t) f (Err x) j q y = absurd (let z : ◌≡◌ {A = ℕ} 0 1 = cc in omega arith)
          on (Ok t) f (Ok c) j q y =
              let same : flat t.0 ≡ flat_block c = ap flat (the_ok q) ∙ block_flat c in
              let (d, _) = passing_lengths T (flat_of p) (flat (in_order b)) (flat t.0, flat_of t.1) (passing_flat T p (in_order b) ∙ ap flat_both f) in
              let itself = same_itself p b c j ∙ n in
              let before = d ∙ ap length (block_flat b) ∙ length-append (flat b.needs) (flat_of b.itself) in
              let after = ap length same ∙ length-append (flat c.needs) (flat_of c.itself) in
              let whole = ap length e ∙ length-append (flat_of p) (flat_block b) in
              let inside = length-append (flat b.needs) (flat_of b.itself) in
              let many : m ≡ length (flat c.needs) =
              omega (arith, length-map p.changes (under p.name), length-map b.itself.changes (under b.itself.name), length-map c.itself.changes (under c.itself.name)) in
              (ap Ok many, itself, (flat_of t.1, y.1 ∙ ap (λ z. z ++ flat_of t.1) same))

      -- what stopped the pass stopped it over the block
      stopped_so : (p : Named (List P)) (b : Block (Named (List P))) (x : Stop) → row ≡ flat_of p ++ flat_block b → length p.changes ≡ first → s ≡ Err x
          → over_block (patches T) by_name p b ≡ Err x
      stopped_so p b x e l i = on (passed (patches T) by_name p (in_order b)) (over_block (patches T) by_name p b) (passed_block (patches T) by_name p b) (went p b e l)
        where
          on : (a : Result (List (Named (List P)) × Named (List P)) Stop) (o : Result (Block (Named (List P))) Stop) → others a ≡ part (in_order) (λ x. x) o
              → ToEnd [] (flat_both a) s left → o ≡ Err x
          on (Ok t) o q y = absurd (let z : ◌≡◌ {A = ℕ} 0 1 = cc (i, y.0) in omega arith)
          on (Err z) (Ok c) q y = absurd (let z : ◌≡◌ {A = ℕ} 0 1 = cc in omega arith)
          on (Err z) (Err v) q y = cc (i, y, q)

      pub joins : (x m : ℕ) → s ≡ Err (By x) → m ≡ length row - count → (again : List (Named P)) → (length row ≤ length work → again ≡ row) → Tries (Ok m) again
      joins x m i g again f p b e l n w =
          subst (λ z. Found count (or_joins (patches T) by_name p b z) (Ok m) again) (sym (stopped_so p b (By x) e l i)) (ap Ok many, n, ([], f w ∙ whole ∙ sym (append-nil _)))
        where
          whole : row ≡ (flat_of p ++ flat b.needs) ++ flat_of b.itself
          whole = e ∙ sym (append_assoc (flat_of p) (flat b.needs) (flat_of b.itself))

          many : m ≡ length (flat_of p ++ flat b.needs)
          many = let long = ap length whole ∙ length-append (flat_of p ++ flat b.needs) (flat_of b.itself) in omega (arith, length-map b.itself.changes (under b.itself.name))

      pub too_far : s ≡ Err TooFar → Tries (Err TooFar) left
      too_far i p b e l n w = subst (λ z. Found count (or_joins (patches T) by_name p b z) (Err TooFar) left) (sym (stopped_so p b TooFar e l i)) refl
