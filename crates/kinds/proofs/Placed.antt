-- Patches of one kind, each at a slot of a list: at different slots they commute unchanged, at one slot as their kind does.
use Rattle.std.proofs.Common.{◌≡◌, ℕ, ◌+◌, ◌≤◌, false, List, sum_by, sym, refl, ◌∙◌, subst, arith}
use Rattle.kinds.specs.Theory.{Theory}
use Rattle.kinds.specs.Laws.{Takes, Then, Commutes, Lawful, most}
use Rattle.kinds.proofs.Slots.{Step, step_back, same_slot, join, split, steps_apart, step_size, slot_size}

module _ {P F : Type 0} (T : Theory P F) where
  open T use {Doc, size, invert, growth, far}

  -- p at m and then q at n commute to q' at n and then p' at m.
  pub data Placed (m n : ℕ) : P → P → P → P → Type 0 where
    one : {p q q' p' : P} → m ≡ n → Commutes T p q q' p' → Placed m n p q q' p'
    apart : {p q : P} → (m ≡ n → ⊥) → Placed m n p q q p

  -- p takes slot n of d from one document to another, as `put` puts them there.
  pub data Makes {X : Type 0} (put : Doc → X) (n : ℕ) (p : P) (d e : List X) : Type 0 where
    makes : (x y : Doc) → Takes T p x y → Step (put x) (put y) n d e → Makes put n p d e

  -- the places of two patches can be any that are one or two as they are
  pub placed_elsewhere : {m n m' n' : ℕ} {p q q' p' : P} → (m ≡ n → m' ≡ n') → (m' ≡ n' → m ≡ n) → Placed m n p q q' p' → Placed m' n' p q q' p'
  placed_elsewhere f g (one e h) = one (f e) h
  placed_elsewhere f g (apart ne) = apart (λ e. ne (g e))

  module _ (l : Lawful T) where
    pub placed_back : {m n : ℕ} {p q q' p' : P} → Placed m n p q q' p' → Placed n m q' p' p q
    placed_back (one e h) = one (sym e) (l.swap_back _ _ _ _ h)
    placed_back (apart ne) = apart (λ e. ne (sym e))

    pub placed_turn : {m n : ℕ} {p q q' p' : P} → Placed m n p q q' p' → Placed m n (invert p) q' q (invert p')
    placed_turn (one e h) = one e (l.turning _ _ _ _ h)
    placed_turn (apart ne) = apart ne

    pub placed_three : {m n k : ℕ} {p q q1 p1 r r1 p2 r2 q2 : P} → Placed m n p q q1 p1 → Placed m k p1 r r1 p2 → Placed n k q1 r1 r2 q2
        → (s : P) × (b : P) × (a : P) × Placed n k q r s b × Placed m k p s r2 a × Placed m n a b q2 p2
    placed_three (one e h) (one f i) (one g j) =
        let t = (l.three _ _ _ _ _ _).0 (_, _, _, h, i, j) in (_, _, _, one g t.3, one f t.4, one e t.5)
    placed_three (one e h) (one f i) (apart z) = absurd (z (sym e ∙ f))
    placed_three (one e h) (apart y) (one g j) = absurd (y (e ∙ g))
    placed_three (one e h) (apart y) (apart z) = (_, _, _, apart z, apart y, one e h)
    placed_three (apart x) (one f i) (one g j) = absurd (x (f ∙ sym g))
    placed_three (apart x) (one f i) (apart z) = (_, _, _, apart z, one f i, apart x)
    placed_three (apart x) (apart y) (one g j) = (_, _, _, one g j, apart y, apart x)
    placed_three (apart x) (apart y) (apart z) = (_, _, _, apart z, apart y, apart x)

    pub placed_keeps : {m n : ℕ} {p q q' p' : P} → Placed m n p q q' p' → (growth q' ≡ growth q) × (growth p' ≡ growth p)
    placed_keeps (one e h) = l.grows.keeps _ _ _ _ h
    placed_keeps (apart ne) = (refl, refl)

    module _ {X : Type 0} (put : Doc → X) (sound : (x y : Doc) → put x ≡ put y → x ≡ y) where
      pub makes_back : {n : ℕ} {p : P} {d e : List X} → Makes put n p d e → Makes put n (invert p) e d
      makes_back (makes x y h s) = makes y x ((l.undo.takes_back _ _ _).0 h) (step_back s)

      -- at one slot the documents are those of p and then q
      meets : {m n : ℕ} {p q : P} {d c e : List X} → m ≡ n → Makes put m p d c → Makes put n q c e
          → (x : Doc) × (z : Doc) × Then T p q x z × Step (put x) (put z) n d e
      meets {q = q} {d = d} {c = c} f (makes x y h s) (makes u z k t) =
          let s' = subst (λ (i : ℕ). Step (put x) (put y) i d c) f s in
          let e = sound y u (same_slot (step_back s') t) in
          (x, z, (y, h, subst (λ (v : Doc). Takes T q v z) (sym e) k), join s' t)

      pub placed_forward : {m n : ℕ} {p q q' p' : P} {d c e : List X} → Placed m n p q q' p' → Makes put m p d c → Makes put n q c e
          → (b : List X) × Makes put n q' d b × Makes put m p' b e
      placed_forward {p' = p'} {e = e} (one f h) a b =
          let (x, z, t, s) = meets f a b in
          let (y, i, j) = (l.same_effect _ _ _ _ h x z).0 t in
          let (v, s1, s2) = split (put y) s in
          (v, makes x y i s1, subst (λ (k : ℕ). Makes put k p' v e) (sym f) (makes y z j s2))
      placed_forward (apart ne) (makes x y h s) (makes u z k t) =
          let (v, s1, s2) = steps_apart ne s t in (v, makes u z k s1, makes x y h s2)

      module _ (sz : X → ℕ) (as-below : (x : Doc) → sz (put x) ≡ size x) where
        pub makes_bounds : {n : ℕ} {p : P} {d e : List X} → Makes put n p d e → sum_by sz e ≤ sum_by sz d + growth p
        makes_bounds (makes x y h s) =
            omega (arith, step_size sz s, l.grows.bounds _ _ _ h, as-below x, as-below y)

        pub placed_in_turn : {m n : ℕ} {p q : P} {d c e : List X} → m ≡ n → Makes put m p d c → Makes put n q c e
            → sum_by sz d + growth p + growth q ≤ most → far p q ≡ false
        placed_in_turn f a b k =
            let (x, z, t, s) = meets f a b in
            l.reach.in_turn _ _ x z t (omega (arith, slot_size sz s, as-below x))

        pub placed_each : {m n : ℕ} {p q : P} {d c e : List X} → m ≡ n → Makes put m p d c → Makes put n q d e
            → sum_by sz d + growth p + growth q ≤ most → far (invert p) q ≡ false
        placed_each {q = q} {d = d} {c = c} f (makes x y h s) (makes u z j t) k =
            let e = sound x u (same_slot (subst (λ (i : ℕ). Step (put x) (put y) i d c) f s) t) in
            l.reach.each _ _ x y z h (subst (λ (v : Doc). Takes T q v z) (sym e) j) (omega (arith, slot_size sz s, as-below x))
