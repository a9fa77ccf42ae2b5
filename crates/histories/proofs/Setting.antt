-- What the proofs about histories rest on: a theory of patches that keeps the laws, and names that stay with their patches.
use Rattle.std.proofs.Common.{◌≡◌, ℕ, sym, ◌∙◌}
use Rattle.kinds.specs.Theory.{Theory}
use Rattle.kinds.specs.Laws.{Commutes, Lawful}
use Rattle.kinds.proofs.Parts.{pair_of}

pub record Setting {P F : Type 0} (T : Theory P F) (name : P → ℕ) : Type 0 where
  pub lawful : Lawful T
  pub names_kept : (p q q' p' : P) → Commutes T p q q' p' → (name q' ≡ name q) × (name p' ≡ name p)

module _ {P F : Type 0} {T : Theory P F} {name : P → ℕ} (S : Setting T name) where
  open T use {invert}

  -- two patches commute in one way
  pub one : {p q a b c d : P} → Commutes T p q a b → Commutes T p q c d → (a ≡ c) × (b ≡ d)
  one h k = pair_of (sym h ∙ k)

  pub back : {p q q' p' : P} → Commutes T p q q' p' → Commutes T q' p' p q
  back h = S.lawful.swap_back _ _ _ _ h

  pub turn : {p q q' p' : P} → Commutes T p q q' p' → Commutes T (invert p) q' q (invert p')
  turn h = S.lawful.turning _ _ _ _ h

  pub keeps : {p q q' p' : P} → Commutes T p q q' p' → (name q' ≡ name q) × (name p' ≡ name p)
  keeps h = S.names_kept _ _ _ _ h

  -- three patches, front pair first, can be reversed back pair first ...
  pub front_first : {p q r q1 p1 r1 p2 r2 q2 : P} → Commutes T p q q1 p1 → Commutes T p1 r r1 p2 → Commutes T q1 r1 r2 q2
      → (s : P) × (t : P) × (u : P) × Commutes T q r s t × Commutes T p s r2 u × Commutes T u t q2 p2
  front_first h k l = (S.lawful.three _ _ _ _ _ _).0 (_, _, _, h, k, l)

  -- ... and the other way
  pub back_first : {p q r r1 q1 r2 p1 q2 p2 : P} → Commutes T q r r1 q1 → Commutes T p r1 r2 p1 → Commutes T p1 q1 q2 p2
      → (s : P) × (t : P) × (u : P) × Commutes T p q s t × Commutes T t r u p2 × Commutes T s u r2 q2
  back_first h k l = (S.lawful.three _ _ _ _ _ _).1 (_, _, _, h, k, l)
