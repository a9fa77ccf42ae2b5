-- The search for what a patch depends on.
use Rattle.std.proofs.Common.{◌≡◌, ℕ, List, [], ◌∷◌, ◌++◌, Ok, Err, Result, sym, refl, ap, ◌∙◌, subst, ⊎_elim, append_assoc, arith}
use Rattle.kinds.specs.Theory.{Theory}
use Rattle.kinds.specs.Laws.{Commutes}
use Rattle.kinds.proofs.Grids.{Row, nil, cons}
use Rattle.histories.specs.declared.Stop.{Stop}
use Rattle.histories.specs.declared.Stop.TheVariants.{By, TooFar as Far}
use Rattle.histories.specs.History.{Block, Rearranged, done, commuted_at, passed, over_block, or_joins, block}
use Rattle.histories.proofs.Setting.{Setting, back, keeps}
use Rattle.histories.proofs.Names.{Distinct, distinct_left, distinct_tail}
use Rattle.histories.proofs.Rearranging.{◌▷◌, behind_one, before, to_left, to_right, reversed, stays_distinct}
use Rattle.histories.proofs.Passing.{row_rearranged, row_join}
use Rattle.histories.proofs.Minimal.{Minimal, stays_minimal}
use Rattle.histories.proofs.Standing.{Stands, stands_head, stands_apart, stays_standing}
use Rattle.histories.proofs.Stops.{ok_not_err, the_ok, then_ok, then_err, commuted_ok}
use Rattle.histories.proofs.ToEnd.{Stopped, passed_row, stopped, refused_over, near_over}

-- the block b of n, in front of the history g
pub record Found {P F : Type 0} (T : Theory P F) (name : P → ℕ) (g : List P) (n : P) (b : Block P) : Type 0 where
  pub others : List P
  pub whole : Rearranged T g (b.needs ++ b.itself ∷ others)
  pub minimal : Minimal T b.needs b.itself
  pub named : name b.itself ≡ name n
  pub grown : T.growth b.itself ≡ T.growth n

module _ {P F : Type 0} {T : Theory P F} {name : P → ℕ} (S : Setting T name) where
  -- p has commuted right over a block
  record Over (p : P) (b c : Block P) : Type 0 where
    middle : P
    arrived : P
    row : Row T c.needs middle p b.needs
    last : Commutes T c.itself arrived middle b.itself

  over_ok : (p : P) (b c : Block P) → over_block T name p b ≡ Ok c → Over p b c
  over_ok p b c e =
      let (s, a, f) = then_ok (passed T name p b.needs) _ c e in
      let (u, h, g) = then_ok (commuted_at T name b.itself s.1 b.itself) _ c f in
      let (_, k) = commuted_ok T name b.itself s.1 b.itself u h in
      subst (Over p b) (the_ok g) (record { middle = s.1; arrived = u.1; row = passed_row S p b.needs s a; last = back S k })

  over_rearranged : {p : P} {b c : Block P} (o : Over p b c) (xs : List P) → Rearranged T (p ∷ (b.needs ++ b.itself ∷ xs)) (c.needs ++ c.itself ∷ o.arrived ∷ xs)
  over_rearranged {p} {b} {c} o xs =
      to_left (p ∷ b.needs) (b.itself ∷ []) xs ▷ before xs (reversed S (row_rearranged (row_join o.row (cons nil o.last))))
      ▷ to_right (c.needs ++ c.itself ∷ []) (o.arrived ∷ []) xs ▷ to_right c.needs (c.itself ∷ []) (o.arrived ∷ xs)

  -- p was stopped on its way over a block
  over_stopped : (p : P) (b : Block P) (x : Stop) → over_block T name p b ≡ Err x → Stopped S p (b.needs ++ b.itself ∷ []) x
  over_stopped p b x e =
      ⊎_elim
      (λ a. let s = stopped S p b.needs x a in record {
        passed_by = s.passed_by;
        at = s.at;
        others = s.others ++ b.itself ∷ [];
        cut = ap (λ z. z ++ b.itself ∷ []) s.cut ∙ append_assoc s.passed_by (s.at ∷ s.others) (b.itself ∷ []);
        front = s.front;
        arrived = s.arrived;
        row = s.row;
        stop = s.stop;
      })
      (λ (t, a, f). ⊎_elim
      (λ h. record { passed_by = b.needs; at = b.itself; others = []; cut = refl; front = t.0; arrived = t.1; row = passed_row S p b.needs t a; stop = h })
      (λ (u, h, l). absurd (ok_not_err l))
      (then_err (commuted_at T name b.itself t.1 b.itself) _ x f))
      (then_err (passed T name p b.needs) _ x e)

  -- what the search finds is a block
  pub found : (ps : List P) (n : P) (b : Block P) → Distinct name (ps ++ n ∷ []) → block T name ps n ≡ Ok b → Found T name (ps ++ n ∷ []) n b
  found [] n b d e = subst (Found T name (n ∷ []) n) (the_ok e) (record { others = []; whole = done; minimal = tt; named = refl; grown = refl })
  found (p ∷ ps) n b d e =
      let (c, a, f) = then_ok (block T name ps n) _ b e in
      go c (over_block T name p c) refl f (found ps n c (distinct_tail d) a)
    where
      go : (c : Block P) (r : Result (Block P) Stop) → over_block T name p c ≡ r → or_joins T name p c r ≡ Ok b → Found T name (ps ++ n ∷ []) n c → Found T name (p ∷ (ps ++ n ∷ [])) n b
      go c (Ok u) r f h =
          let o = over_ok p c u r in
          let (_, j) = keeps S o.last in
          let (g, _) = S.lawful.grows.keeps _ _ _ _ (back S o.last) in
          let once = stays_distinct S (behind_one p h.whole ▷ to_left (p ∷ c.needs) (c.itself ∷ []) h.others) d in
          subst (Found T name (p ∷ (ps ++ n ∷ [])) n) (the_ok f) (record {
            others = o.arrived ∷ h.others;
            whole = behind_one p h.whole ▷ over_rearranged o h.others;
            minimal = stays_minimal S o.row o.last (distinct_left (p ∷ (c.needs ++ c.itself ∷ [])) h.others once) h.minimal;
            named = sym j ∙ h.named;
            grown = g ∙ h.grown;
          })
      go c (Err (By m)) r f h =
          subst (Found T name (p ∷ (ps ++ n ∷ [])) n) (the_ok f) (record {
            others = h.others;
            whole = behind_one p h.whole;
            minimal = (refused_over S p (c.needs ++ c.itself ∷ []) m (over_stopped p c (By m) r), h.minimal);
            named = h.named;
            grown = h.grown;
          })
      go c (Err Far) r f h = absurd (let z : ◌≡◌ {A = ℕ} 0 1 = cc in omega arith)

  -- no commute of the search is too far
  pub search_ends : (ps : List P) (n : P) {d e : T.Doc} → Distinct name (ps ++ n ∷ []) → Stands T d (ps ++ n ∷ []) e → (b : Block P) × (block T name ps n ≡ Ok b)
  search_ends [] n u s = (_, refl)
  search_ends (p ∷ ps) n u s =
      let (_, _, r) = stands_head S.lawful s in
      let (c, a) = search_ends ps n (distinct_tail u) r in
      let f = found ps n c (distinct_tail u) a in
      let t = stays_standing S.lawful (behind_one p f.whole ▷ to_left (p ∷ c.needs) (c.itself ∷ []) f.others) s in
      let (_, x, _) = stands_apart S.lawful (p ∷ (c.needs ++ c.itself ∷ [])) f.others t in
      let (b, k) = go c (over_block T name p c) (λ e. near_over S p (c.needs ++ c.itself ∷ []) x (over_stopped p c Far e)) in
      (b, rw a k)
    where
      go : (c : Block P) (r : Result (Block P) Stop) → (r ≡ Err Far → ⊥) → (b : Block P) × (or_joins T name p c r ≡ Ok b)
      go c (Ok t) h = (_, refl)
      go c (Err (By m)) h = (_, refl)
      go c (Err Far) h = absurd (h refl)
