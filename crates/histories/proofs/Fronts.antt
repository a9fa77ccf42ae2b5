-- Patches that commute to the front of a history.
use Rattle.std.proofs.Common.{◌≡◌, ℕ, List, [], ◌∷◌, ◌++◌, sym, refl, subst}
use Rattle.kinds.specs.Theory.{Theory}
use Rattle.kinds.specs.Laws.{Commutes}
use Rattle.kinds.proofs.Grids.{Row, nil, cons}
use Rattle.histories.specs.History.{Exchanged, here, there, Rearranged, done, more}
use Rattle.histories.proofs.Setting.{Setting, one, back, front_first}
use Rattle.histories.proofs.Names.{In, in_head}
use Rattle.histories.proofs.Rearranging.{◌▷◌, behind_one, was_in}

module _ {P F : Type 0} (T : Theory P F) where
  -- a patch of t commutes to the front, where it is x, and leaves r
  pub data Brought : List P → P → List P → Type 0 where
    first : {x : P} {s : List P} → Brought (x ∷ s) x s
    later : {w y x v : P} {t r : List P} → Commutes T w y x v → Brought t y r → Brought (w ∷ t) x (v ∷ r)

  -- where a patch that is brought to the front of s ++ t, and leaves r, stood before
  pub data Origin (s t : List P) (x : P) (r : List P) : Type 0 where
    inside : {a : List P} → Brought s x a → Rearranged T r (a ++ t) → Origin s t x r
    beyond : {y : P} {a b : List P} → Row T s y x a → Brought t y b → Rearranged T r (a ++ b) → Origin s t x r

module _ {P F : Type 0} {T : Theory P F} where
  pub brought_rearranged : {t : List P} {x : P} {r : List P} → Brought T t x r → Rearranged T t (x ∷ r)
  brought_rearranged first = done
  brought_rearranged (later {w = w} c q) = more (behind_one w (brought_rearranged q)) (here c)

  pub brought_one : {u y : P} {b : List P} → Brought T (u ∷ []) y b → (y ≡ u) × (b ≡ [])
  brought_one first = (refl, refl)
  brought_one (later c q) = elim q [ ]

  origin_later : {w y x v : P} {s t r : List P} → Commutes T w y x v → Origin T s t y r → Origin T (w ∷ s) t x (v ∷ r)
  origin_later {v = v} c (inside q e) = inside (later c q) (behind_one v e)
  origin_later {v = v} c (beyond k q e) = beyond (cons k c) q (behind_one v e)

  pub origin : (s t : List P) {x : P} {r : List P} → Brought T (s ++ t) x r → Origin T s t x r
  origin [] t q = beyond nil q done
  origin (w ∷ s) t first = inside first done
  origin (w ∷ s) t (later c q) = origin_later c (origin s t q)

module _ {P F : Type 0} {T : Theory P F} {name : P → ℕ} (S : Setting T name) where
  pub brought_in : {t r : List P} {x : P} → Brought T t x r → In name (name x) t
  brought_in q = was_in S (brought_rearranged q) (in_head refl)

  at_front : {c x : P} {s : List P} → c ≡ x → Brought T (c ∷ s) x s
  at_front {c} {x} {s} e = subst (λ z. Brought T (c ∷ s) z s) e first

  same_head : {d v : P} {s : List P} → d ≡ v → Rearranged T (v ∷ s) (d ∷ s)
  same_head {d} {v} {s} e = subst (λ z. Rearranged T (v ∷ s) (z ∷ s)) (sym e) done

  brought_exchange : {t : List P} {x : P} {r u : List P} → Brought T t x r → Exchanged T t u → (v : List P) × Brought T u x v × Rearranged T r v
  brought_exchange first (here c) = (_, later (back S c) first, done)
  brought_exchange first (there e) = (_, first, more done e)
  brought_exchange (later {v = v} c q) (there e) = let (_, k, l) = brought_exchange q e in (_, later c k, behind_one v l)
  brought_exchange (later c first) (here h) = let (a, b) = one S h c in (_, at_front a, same_head b)
  brought_exchange (later c (later k q)) (here h) =
      let (_, _, _, x, y, z) = front_first S (back S h) k c in
      (_, later y (later x q), more done (here (back S z)))

  -- what stands in front can be brought to the front of every rearrangement, as the same patch
  pub to_front : {x : P} {s t : List P} → Rearranged T (x ∷ s) t → (r : List P) × Brought T t x r × Rearranged T s r
  to_front done = (_, first, done)
  to_front (more p e) =
      let (_, q, f) = to_front p in
      let (_, k, g) = brought_exchange q e in
      (_, k, f ▷ g)

  -- in a history of two parts
  pub front_of : {x : P} {s : List P} (a b : List P) → Rearranged T (x ∷ s) (a ++ b) → (r : List P) × Rearranged T (a ++ b) (x ∷ r) × Rearranged T s r × Origin T a b x r
  front_of a b p = let (r, q, k) = to_front p in (r, brought_rearranged q, k, origin a b q)
