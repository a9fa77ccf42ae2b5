-- Creating, removing and moving as operations on places, and how an operation takes the place of an inside that stands before it to its place after it.
use Rattle.std.proofs.Common.{◌≡◌, ℕ, ◌⊎◌, sym, refl, subst, inl, inr, ⊎_elim}

pub data Op : Type 0 where
  create : ℕ → Op
  remove : ℕ → Op
  move : ℕ → ℕ → Op

-- the inverse
abbrev pub turned : Op → Op
turned (create a) = remove a
turned (remove a) = create a
turned (move a b) = move b a

-- The operation is of the place x.
abbrev pub Of : Op → ℕ → Type 0
Of (create a) x = a ≡ x
Of (remove a) x = a ≡ x
Of (move a b) x = (a ≡ x) ⊎ (b ≡ x)

-- No place is of both.
abbrev pub Disjoint : Op → Op → Type 0
Disjoint o u = (x : ℕ) → Of o x → Of u x → ⊥

pub of_turned : (o : Op) (x : ℕ) → Of (turned o) x → Of o x
of_turned (create a) x h = h
of_turned (remove a) x h = h
of_turned (move a b) x h = ⊎_elim inr inl h

-- What is at x before the operation is at y after it.
pub data Carries : Op → ℕ → ℕ → Type 0 where
  stays : {o : Op} {x : ℕ} → (Of o x → ⊥) → Carries o x x
  moved : {a b : ℕ} → Carries (move a b) a b

pub carries_back : {o : Op} {x y : ℕ} → Carries o x y → Carries (turned o) y x
carries_back (stays {o} {x} h) = stays (λ k. h (of_turned o x k))
carries_back moved = moved

pub turned_twice : (o : Op) → turned (turned o) ≡ o
turned_twice (create a) = refl
turned_twice (remove a) = refl
turned_twice (move a b) = refl

pub carries_forth : (o : Op) {x y : ℕ} → Carries (turned o) y x → Carries o x y
carries_forth o {x} {y} h = subst (λ (u : Op). Carries u x y) (turned_twice o) (carries_back h)

-- one place is taken to one place
pub carries_one : {o : Op} {x y u v : ℕ} → Carries o x y → Carries o u v → x ≡ u → y ≡ v
carries_one (stays h) (stays k) e = e
carries_one (stays h) moved e = absurd (h (inl (sym e)))
carries_one moved (stays k) e = absurd (k (inl e))
carries_one moved moved e = refl

-- disjoint operations commute on places
pub carries_apart : {o u : Op} {x y z : ℕ} → Disjoint o u → Carries u x y → Carries o y z → (v : ℕ) × Carries o x v × Carries u v z
carries_apart n (stays h) (stays k) = (_, stays k, stays h)
carries_apart n (stays h) (moved {a} {b}) = (b, moved, stays (n b (inr refl)))
carries_apart n (moved {a} {b}) (stays k) = (a, stays (λ i. n a i (inl refl)), moved)
carries_apart n (moved {a} {b}) moved = absurd (n b (inl refl) (inr refl))
