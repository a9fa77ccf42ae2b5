-- Commuting, by the places and numbers of lines alone.
use Rattle.std.proofs.Common.{◌≡◌, ℕ, ◌+◌, ◌-◌, ◌<◌, ◌≤◌, ◌⊎◌, inl, inr, arith}
use native.Mathlib.Decide.{dec_lt}

-- a hunk without its lines
pub record Place : Type 0 where
  pub at : ℕ
  pub old : ℕ
  pub new : ℕ

-- p and then q become a and then b
pub record Swap (p q a b : Place) : Type 0 where
  pub old_a : a.old ≡ q.old
  pub new_a : a.new ≡ q.new
  pub old_b : b.old ≡ p.old
  pub new_b : b.new ≡ p.new
  pub after : p.at < q.at → (p.at + p.new < q.at) × (a.at + p.new ≡ q.at + p.old) × (b.at ≡ p.at)
  pub before : q.at ≤ p.at → (q.at + q.old < p.at) × (a.at ≡ q.at) × (b.at + q.old ≡ p.at + q.new)

-- q lies behind p ...
pub record After (p q a b : Place) : Type 0 where
  pub apart : p.at + p.new < q.at
  pub first : a.at + p.new ≡ q.at + p.old
  pub second : b.at ≡ p.at

-- ... or in front of it
pub record Before (p q a b : Place) : Type 0 where
  pub apart : q.at + q.old < p.at
  pub first : a.at ≡ q.at
  pub second : b.at + q.old ≡ p.at + q.new

pub way : {p q a b : Place} → Swap p q a b → After p q a b ⊎ Before p q a b
way {p} {q} {a} {b} f = go (dec_lt p.at q.at)
  where
    go : Dec (p.at < q.at) → After p q a b ⊎ Before p q a b
    go (yes h) = let w = f.after h in inl (record { apart = w.0; first = w.1; second = w.2 })
    go (no h) = let w = f.before (omega arith) in inr (record { apart = w.0; first = w.1; second = w.2 })

pub back : {p q a b : Place} → Swap p q a b → Swap a b p q
back f = let w = way f in omega arith

abbrev pub flip : Place → Place
flip p = record { at = p.at; old = p.new; new = p.old }

pub turn : {p q a b : Place} → Swap p q a b → Swap (flip p) a q (flip b)
turn f = let w = way f in omega arith

record Apart (p q : Place) : Type 0 where
  if_after : p.at < q.at → p.at + p.new < q.at
  if_before : q.at ≤ p.at → q.at + q.old < p.at

-- two that lie apart commute
make : (p q : Place) → Apart p q → (a : Place) × (b : Place) × Swap p q a b
make p q h = go (dec_lt p.at q.at)
  where
    go : Dec (p.at < q.at) → (a : Place) × (b : Place) × Swap p q a b
    go (yes l) = (record { at = q.at - p.new + p.old; old = q.old; new = q.new }, p, omega arith)
    go (no l) = (q, record { at = p.at - q.old + q.new; old = p.old; new = p.new }, omega arith)

-- the law of three, from the front pair first to the back pair first
pub three : {p q r q1 p1 r1 p2 r2 q2 : Place} → Swap p q q1 p1 → Swap p1 r r1 p2 → Swap q1 r1 r2 q2
    → (s : Place) × (t : Place) × (u : Place) × Swap q r s t × Swap p s r2 u × Swap u t q2 p2
three {p} {q} {r} {q1} {p1} {r1} {p2} {r2} {q2} f g h =
    let w1 = way f in
    let w2 = way g in
    let w3 = way h in
    go (make q r (omega arith))
  where
    last : (s t x u : Place) → Swap q r s t → Swap p s x u → (s : Place) × (t : Place) × (u : Place) × Swap q r s t × Swap p s r2 u × Swap u t q2 p2
    last s t x u k l =
        let w1 = way f in
        let w2 = way g in
        let w3 = way h in
        let w4 = way k in
        let w5 = way l in
        (s, t, u, k, omega arith, omega arith)

    go : (s : Place) × (t : Place) × Swap q r s t → (s : Place) × (t : Place) × (u : Place) × Swap q r s t × Swap p s r2 u × Swap u t q2 p2
    go m =
        let w1 = way f in
        let w2 = way g in
        let w3 = way h in
        let w4 = way m.2 in
        let n = make p m.0 (omega arith) in
        last m.0 m.1 n.0 n.1 m.2 n.2
