-- A patch passed right over all later ones.
use Rattle.std.proofs.Common.{◌≡◌, ℕ, List, [], ◌∷◌, ◌++◌, Ok, Err, refl, ap, subst, ⊎_elim, arith}
use Rattle.kinds.specs.Theory.{Theory}
use Rattle.kinds.specs.Laws.{Commutes}
use Rattle.kinds.proofs.Grids.{Row, nil, cons}
use Rattle.histories.specs.declared.Stop.{Stop}
use Rattle.histories.specs.declared.Stop.TheVariants.{By, TooFar as Far}
use Rattle.histories.specs.History.{Rearranged, commuted_at, passed}
use Rattle.histories.proofs.Setting.{Setting, back}
use Rattle.histories.proofs.Rearranging.{◌▷◌, behind_one, behind, before, equal, to_left, to_right, reversed}
use Rattle.histories.proofs.Passing.{row_rearranged, row_split_after, row_last}
use Rattle.histories.proofs.Standing.{Stands, stands_near, stands_apart, stays_standing}
use Rattle.histories.proofs.Stops.{ok_not_err, the_ok, then_ok, then_err, commuted_ok, commuted_refused, commuted_near}

module _ {P F : Type 0} {T : Theory P F} {name : P → ℕ} (S : Setting T name) where
  -- a patch that was passed has commuted
  pub passed_row : (p : P) (qs : List P) (s : List P × P) → passed T name p qs ≡ Ok s → Row T s.0 s.1 p qs
  passed_row p [] s e = subst (λ (z : List P × P). Row T z.0 z.1 p []) (the_ok e) nil
  passed_row p (q ∷ qs) s e =
      let (t, a, b) = then_ok (commuted_at T name q p q) _ s e in
      let (u, c, d) = then_ok (passed T name t.1 qs) _ s b in
      let (_, k) = commuted_ok T name q p q t a in
      subst (λ (z : List P × P). Row T z.0 z.1 p (q ∷ qs)) (the_ok d) (cons (passed_row t.1 qs u c) (back S k))

  -- what arrives can be dropped
  pub passed_last : (ps : List P) (p : P) (qs rest : List P) (last : P) → passed T name p qs ≡ Ok (rest, last) → Rearranged T (ps ++ p ∷ qs) ((ps ++ rest) ++ last ∷ [])
  passed_last ps p qs rest last e = behind ps (reversed S (row_rearranged (passed_row p qs (rest, last) e))) ▷ to_left ps rest (last ∷ [])

  pub passed_stands : (ps : List P) (p : P) (qs rest : List P) (last : P) {d e : T.Doc} → passed T name p qs ≡ Ok (rest, last) → Stands T d (ps ++ p ∷ qs) e
      → (m : T.Doc) × Stands T d (ps ++ rest) m × Stands T m (last ∷ []) e
  passed_stands ps p qs rest last f s = stands_apart S.lawful (ps ++ rest) (last ∷ []) (stays_standing S.lawful (passed_last ps p qs rest last f) s)

  -- where p is stopped on its way over qs
  pub record Stopped (p : P) (qs : List P) (x : Stop) : Type 0 where
    pub passed_by : List P
    pub at : P
    pub others : List P
    pub cut : qs ≡ passed_by ++ at ∷ others
    pub front : List P
    pub arrived : P
    pub row : Row T front arrived p passed_by
    pub stop : commuted_at T name at arrived at ≡ Err x

  pub stopped : (p : P) (qs : List P) (x : Stop) → passed T name p qs ≡ Err x → Stopped p qs x
  stopped p [] x e = absurd (ok_not_err e)
  stopped p (q ∷ qs) x e =
      ⊎_elim
      (λ a. record { passed_by = []; at = q; others = qs; cut = refl; front = []; arrived = p; row = nil; stop = a })
      (λ (t, a, b). ⊎_elim (λ h. later t a (stopped t.1 qs x h)) (λ (u, h, l). absurd (ok_not_err l)) (then_err (passed T name t.1 qs) _ x b))
      (then_err (commuted_at T name q p q) _ x e)
    where
      later : (t : P × P) → commuted_at T name q p q ≡ Ok t → Stopped t.1 qs x → Stopped p (q ∷ qs) x
      later t a s = record {
        passed_by = q ∷ s.passed_by;
        at = s.at;
        others = s.others;
        cut = ap (λ z. q ∷ z) s.cut;
        front = t.0 ∷ s.front;
        arrived = s.arrived;
        row = cons s.row (back S (commuted_ok T name q p q t a).1);
        stop = s.stop;
      }

  -- one that is refused cannot commute over all of them
  pub refused_over : (p : P) (qs : List P) (n : ℕ) → Stopped p qs (By n) → (s : List P) (y : P) → Row T s y p qs → ⊥
  refused_over p qs n x s y r =
      let (_, _, _, k, l, _) = row_split_after x.passed_by (x.at ∷ x.others) (subst (Row T s y p) x.cut r) in
      go l (row_last S refl k x.row)
    where
      go : {a : List P} {z : P} → Row T a y z (x.at ∷ x.others) → z ≡ x.arrived → ⊥
      go (cons {p = u} {q1 = v} m c) i =
          let z : ◌≡◌ {A = ℕ} 0 1 = cc (commuted_refused T name x.at x.arrived x.at n x.stop, subst (λ w. Commutes T w x.at u v) i (back S c)) in
          omega arith

  -- of patches that can be replayed none is too far
  pub near_over : (p : P) (qs : List P) {d e : T.Doc} → Stands T d (p ∷ qs) e → Stopped p qs Far → ⊥
  near_over p qs s x =
      let whole = behind_one p (equal x.cut) ▷ before (x.at ∷ x.others) (reversed S (row_rearranged x.row)) ▷ to_right x.front (x.arrived ∷ []) (x.at ∷ x.others) in
      let (_, _, r) = stands_apart S.lawful x.front (x.arrived ∷ x.at ∷ x.others) (stays_standing S.lawful whole s) in
      commuted_near T name x.at x.arrived x.at (stands_near S.lawful r) x.stop

  pub passed_near : (p : P) (qs : List P) {d e : T.Doc} → Stands T d (p ∷ qs) e → passed T name p qs ≡ Err Far → ⊥
  passed_near p qs s e = near_over p qs s (stopped p qs Far e)
