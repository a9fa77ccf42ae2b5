-- The numbers of patches and of changes, where patches commute.
use Rattle.std.proofs.Common.{◌≡◌, suc, ◌+◌, ◌≤◌, List, [], ◌∷◌, ◌++◌, length, Some, Ok, Err, Result, sym, refl, ap, ◌∙◌, arith, length-append}
use lib.ListN.{length-map}
use Rattle.kinds.specs.Theory.{Theory}
use Rattle.kinds.specs.Laws.{Commutes}
use Rattle.kinds.specs.Sequences.{all_over, sequences}
use Rattle.kinds.specs.Restricted.{both_read, restricted}
use Rattle.kinds.proofs.Parts.{pair_of}
use Rattle.kinds.proofs.Sequences.{some_then, commuted_lengths}
use Rattle.histories.specs.declared.Stop.{Stop}
use Rattle.histories.specs.declared.Stop.TheVariants.{By, TooFar}
use Rattle.histories.specs.declared.named.Named.{Named}
use Rattle.histories.specs.Named.{under, one_to_eight, patches}
use Rattle.histories.specs.History.{Block, commuted_at, passed, over_block, or_joins, block, merged}
use Rattle.histories.specs.Proofs.NamedLaws.{down}
use Rattle.histories.proofs.Stops.{ok_not_err, the_ok, commuted_ok}
use Rattle.histories.specs.Flat.{flat_of, flat}
use Rattle.shop.specs.State.{History}
use Rattle.shop.proofs.Chains.{accepted}
use Rattle.shop.proofs.Forming.{by_name}

module _ {P : Type 0} where
  -- one patch in front, and some
  flat_one : (p : Named (List P)) (xs : List (Named P)) → length (flat_of p ++ xs) ≡ length p.changes + length xs
  flat_one p xs = let a = length-append (flat_of p) xs in let b = length-map p.changes (under p.name) in omega arith

  flat_length : (h k : History P) → length (flat (h ++ k)) ≡ length (flat h) + length (flat k)
  flat_length [] k = omega arith
  flat_length (p ∷ h) k = let i = flat_length h k in let a = flat_one p (flat (h ++ k)) in let b = flat_one p (flat h) in omega arith

  -- at most 40 patches and 160 changes
  abbrev pub Few : History P → Type 0
  Few h = (length h ≤ 40) × (length (flat h) ≤ 160)

  -- with one more at the end
  pub few_more : (h : History P) (p : Named (List P)) → length h + 1 ≤ 40 → length (flat h) + length p.changes ≤ 160 → Few (h ++ p ∷ [])
  few_more h p a b =
      let c = length-append h (p ∷ []) in
      let d = flat_length h (p ∷ []) in
      let e = flat_one p [] in
      (omega arith, omega arith)

module _ {P F : Type 0} (T : Theory P F) where
  -- two patches keep the numbers of their changes
  pub commuted_counts : (p q q' p' : Named (List P)) → Commutes (patches T) p q q' p' → (length q'.changes ≡ length q.changes) × (length p'.changes ≡ length p.changes)
  commuted_counts p q q' p' c =
      let (r, a, b) = some_then (all_over T p.changes q.changes) (both_read Some) (q'.changes, p'.changes) (down (restricted (sequences T) (λ c. c) Some one_to_eight) p q q' p' c) in
      let (i, j) = pair_of b in
      let (k, l) = commuted_lengths T p.changes q.changes r.0 r.1 a in
      (ap length (sym i) ∙ k, ap length (sym j) ∙ l)

  -- patches that another was passed over
  passed_counts : (p : Named (List P)) (qs : History P) (s : History P × Named (List P)) → passed (patches T) by_name p qs ≡ Ok s
      → (length s.0 ≡ length qs) × (length (flat s.0) ≡ length (flat qs))
  passed_counts p [] s e = let i = the_ok e in (ap (λ (x : History P × Named (List P)). length x.0) (sym i), ap (λ (x : History P × Named (List P)). length (flat x.0)) (sym i))
  passed_counts p (q ∷ qs) s e =
      accepted (commuted_at (patches T) by_name q p q) e λ t a f.
      accepted (passed (patches T) by_name t.1 qs) f λ u b g.
      let (c, d) = passed_counts t.1 qs u b in
      let (_, k) = commuted_ok (patches T) by_name q p q t a in
      let (l, _) = commuted_counts p q t.0 t.1 k in
      let i = flat_one q (flat qs) in
      let j = flat_one t.0 (flat u.0) in (
        ap (λ (x : History P × Named (List P)). length x.0) (sym (the_ok g)) ∙ ap suc c,
        ap (λ (x : History P × Named (List P)). length (flat x.0)) (sym (the_ok g)) ∙ omega arith,
      )

  -- so without the patch there are few too
  pub few_passed : (ps : History P) (p : Named (List P)) (qs rest : History P) (last : Named (List P)) → passed (patches T) by_name p qs ≡ Ok (rest, last) → Few (ps ++ p ∷ qs) → Few (ps ++ rest)
  few_passed ps p qs rest last e (a, b) =
      let (c, d) = passed_counts p qs (rest, last) e in
      let i = length-append ps (p ∷ qs) in
      let j = length-append ps rest in
      let k = flat_length ps (p ∷ qs) in
      let l = flat_length ps rest in
      let o = flat_one p (flat qs) in
      (omega arith, omega arith)

  -- a patch in its block has as many changes as before ...
  pub block_changes : (ps : History P) (n : Named (List P)) (b : Block (Named (List P))) → block (patches T) by_name ps n ≡ Ok b → length b.itself.changes ≡ length n.changes
  block_changes [] n b e = ap (λ (c : Block (Named (List P))). length c.itself.changes) (sym (the_ok e))
  block_changes (p ∷ ps) n b e =
      accepted (block (patches T) by_name ps n) e λ c a f.
      go c (over_block (patches T) by_name p c) refl f ∙ block_changes ps n c a
    where
      go : (c : Block (Named (List P))) (r : Result (Block (Named (List P))) Stop) → over_block (patches T) by_name p c ≡ r → or_joins (patches T) by_name p c r ≡ Ok b
          → length b.itself.changes ≡ length c.itself.changes
      go c (Ok u) r f =
          accepted (passed (patches T) by_name p c.needs) r λ s a g.
          accepted (commuted_at (patches T) by_name c.itself s.1 c.itself) g λ t h i.
          let (_, k) = commuted_ok (patches T) by_name c.itself s.1 c.itself t h in
          ap (λ (x : Block (Named (List P))). length x.itself.changes) (sym (the_ok f) ∙ sym (the_ok i)) ∙ (commuted_counts _ _ _ _ k).0
      go c (Err (By m)) r f = ap (λ (x : Block (Named (List P))). length x.itself.changes) (sym (the_ok f))
      go c (Err TooFar) r f = absurd (ok_not_err (sym f))

  -- ... and so has one that is merged
  pub merged_changes : (ks : History P) (n z : Named (List P)) → merged (patches T) by_name ks n ≡ Ok z → length z.changes ≡ length n.changes
  merged_changes [] n z e = ap (λ (c : Named (List P)). length c.changes) (sym (the_ok e))
  merged_changes (w ∷ ks) n z e =
      accepted (commuted_at (patches T) by_name w ((patches T).invert w) n) e λ t a f.
      let (_, c) = commuted_ok (patches T) by_name w ((patches T).invert w) n t a in
      merged_changes ks t.0 z f ∙ (commuted_counts _ _ _ _ c).0
