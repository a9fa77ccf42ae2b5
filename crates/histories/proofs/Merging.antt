-- Merging: a patch moved to the end of a history that begins where it stands.
use Rattle.std.proofs.Common.{◌≡◌, ℕ, ◌+◌, ◌≤◌, true, false, List, [], ◌∷◌, Ok, Err, sym, ap, ◌∙◌, subst, ⊎_elim, arith}
use Rattle.std.proofs.lemmas.Bool.{and_parts}
use Rattle.kinds.specs.Theory.{Theory}
use Rattle.kinds.specs.Laws.{most, Takes, Commutes}
use Rattle.kinds.specs.Sequences.{growths}
use Rattle.kinds.proofs.Grids.{Row, nil, cons}
use Rattle.kinds.proofs.Sequences.{Run as AllTake, end}
use Rattle.histories.specs.declared.Stop.TheVariants.{TooFar as Far}
use Rattle.histories.specs.History.{commuted_at, merged}
use Rattle.histories.proofs.Setting.{Setting, turn}
use Rattle.histories.proofs.Standing.{Stands, stands_head}
use Rattle.histories.proofs.Stops.{ok_not_err, the_ok, then_ok, then_err, commuted_ok, commuted_near}

-- n applies to d and can be written, and so do the patches ks; the size of d and all growths are 120 at most
pub record Beside {P F : Type 0} (T : Theory P F) (d : T.Doc) (ks : List P) (e : T.Doc) (n : P) : Type 0 where
  pub line : Stands T d ks e
  pub after : T.Doc
  pub applies : Takes T n d after
  pub small : T.size d + growths T ks + T.growth n ≤ most
  pub written : T.written n ≡ true

module _ {P F : Type 0} {T : Theory P F} {name : P → ℕ} (S : Setting T name) where
  open T use {Doc, size, growth, written, invert, far}

  -- merging is commuting, read backwards
  pub merged_row : (ks : List P) (n z : P) → merged T name ks n ≡ Ok z → (t : List P) × Row T ks z n t
  merged_row [] n z e = ([], subst (λ y. Row T [] y n []) (the_ok e) nil)
  merged_row (w ∷ ks) n z e =
      let (t, a, b) = then_ok (commuted_at T name w (invert w) n) _ z e in
      let (_, k) = commuted_ok T name w (invert w) n t a in
      let c = turn S k in
      let (_, r) = merged_row ks t.0 z b in
      (_, cons r (subst (λ y. Commutes T y t.0 n (invert t.1)) (S.lawful.undo.twice w) c))

  -- the next commute is not too far
  near : {w n : P} {ks : List P} {d e : Doc} → Beside T d (w ∷ ks) e n → far (invert w) n ≡ false
  near b = let (_, a, _) = stands_head S.lawful b.line in let small = b.small in S.lawful.reach.each _ _ _ _ _ a b.applies (omega arith)

  -- past one patch
  past : {w n n' w' : P} {ks : List P} {d e : Doc} → Beside T d (w ∷ ks) e n → Commutes T (invert w) n n' w' → (m : Doc) × Beside T m ks e n' × (growth n' ≡ growth n)
  past {n = n} b c =
      let L = S.lawful in
      let (m, a, r) = stands_head L b.line in
      let (i, j, _) = (L.same_effect _ _ _ _ c _ _).0 (_, (L.undo.takes_back _ _ _).0 a, b.applies) in
      let (g, _) = L.grows.keeps _ _ _ _ c in
      let k = L.grows.bounds _ _ _ a in
      let small = b.small in
      let (v, _) = and_parts _ _ b.line.written in
      (m, record { line = r; after = i; applies = j; small = omega arith; written = (L.stays_written.commuted _ _ _ _ c (near b) (L.stays_written.inverted _ v) b.written).0 }, g)

  -- none is
  pub merged_near : (ks : List P) (n : P) {d e : Doc} → Beside T d ks e n → merged T name ks n ≡ Err Far → ⊥
  merged_near [] n b e = ok_not_err e
  merged_near (w ∷ ks) n b e =
      ⊎_elim
      (λ a. commuted_near T name w (invert w) n (near b) a)
      (λ (t, a, h). let (_, k) = commuted_ok T name w (invert w) n t a in let (_, c, _) = past b k in merged_near ks t.0 c h)
      (then_err (commuted_at T name w (invert w) n) _ Far e)

  -- what is merged applies at the end
  pub merged_applies : (ks : List P) (n z : P) {d e : Doc} → Beside T d ks e n → merged T name ks n ≡ Ok z → (m : Doc) × Takes T z e m × (growth z ≡ growth n) × (written z ≡ true)
  merged_applies [] n z b h = let (m, a) = at_end b.line.takes (the_ok h) b.applies in (m, a, ap growth (sym (the_ok h)), ap written (sym (the_ok h)) ∙ b.written)
    where
      at_end : {d e m : Doc} {n z : P} → AllTake T [] d e → n ≡ z → Takes T n d m → (m : Doc) × Takes T z e m
      at_end {d} {e} {m} end q a = (m, subst (λ y. Takes T y d m) q a)
  merged_applies (w ∷ ks) n z b h =
      let (t, a, f) = then_ok (commuted_at T name w (invert w) n) _ z h in
      let (_, k) = commuted_ok T name w (invert w) n t a in
      let (_, c, g) = past b k in
      let (m, i, j, v) = merged_applies ks t.0 z c f in
      (m, i, j ∙ g, v)
