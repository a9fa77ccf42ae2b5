-- Rearranging a history: an equivalence that goes on inside longer histories, and keeps the names.
use Rattle.std.proofs.Common.{◌≡◌, ℕ, List, [], ◌∷◌, ◌++◌, sym, ◌∙◌, subst, append_assoc}
use Rattle.kinds.specs.Theory.{Theory}
use Rattle.kinds.specs.Laws.{Commutes}
use Rattle.histories.specs.History.{Exchanged, here, there, Rearranged, done, more}
use Rattle.histories.proofs.Setting.{Setting, back, keeps}
use Rattle.histories.proofs.Names.{In, in_head, in_tail, Distinct, next, in_cast}

module _ {P F : Type 0} {T : Theory P F} where
  infixl 20 ◌▷◌
  -- one way, and then another
  pub ◌▷◌ : {s t u : List P} → Rearranged T s t → Rearranged T t u → Rearranged T s u
  p ▷ done = p
  p ▷ more q e = more (p ▷ q) e

  -- behind one patch more, behind several, and before several
  pub behind_one : {s t : List P} (x : P) → Rearranged T s t → Rearranged T (x ∷ s) (x ∷ t)
  behind_one x done = done
  behind_one x (more p e) = more (behind_one x p) (there e)

  pub behind : {s t : List P} (u : List P) → Rearranged T s t → Rearranged T (u ++ s) (u ++ t)
  behind [] p = p
  behind (x ∷ u) p = behind_one x (behind u p)

  exchanged_before : {s t : List P} (u : List P) → Exchanged T s t → Exchanged T (s ++ u) (t ++ u)
  exchanged_before u (here p) = here p
  exchanged_before u (there e) = there (exchanged_before u e)

  pub before : {s t : List P} (u : List P) → Rearranged T s t → Rearranged T (s ++ u) (t ++ u)
  before u done = done
  before u (more p e) = more (before u p) (exchanged_before u e)

  pub equal : {s t : List P} → s ≡ t → Rearranged T s t
  equal {s} e = subst (λ u. Rearranged T s u) e done

  -- the same list, in other groups
  pub to_right : (s t u : List P) → Rearranged T ((s ++ t) ++ u) (s ++ (t ++ u))
  to_right s t u = equal (append_assoc s t u)

  pub to_left : (s t u : List P) → Rearranged T (s ++ (t ++ u)) ((s ++ t) ++ u)
  to_left s t u = equal (sym (append_assoc s t u))

module _ {P F : Type 0} {T : Theory P F} {name : P → ℕ} (S : Setting T name) where
  exchanged_back : {s t : List P} → Exchanged T s t → Exchanged T t s
  exchanged_back (here p) = here (back S p)
  exchanged_back (there e) = there (exchanged_back e)

  pub reversed : {s t : List P} → Rearranged T s t → Rearranged T t s
  reversed done = done
  reversed (more p e) = more done (exchanged_back e) ▷ reversed p

  -- names stay
  exchanged_in : {n : ℕ} {s t : List P} → Exchanged T s t → In name n s → In name n t
  exchanged_in (here p) (in_head e) = in_tail (in_head ((keeps S p).1 ∙ e))
  exchanged_in (here p) (in_tail (in_head e)) = in_head ((keeps S p).0 ∙ e)
  exchanged_in (here p) (in_tail (in_tail i)) = in_tail (in_tail i)
  exchanged_in (there e) (in_head h) = in_head h
  exchanged_in (there e) (in_tail i) = in_tail (exchanged_in e i)

  pub stays_in : {n : ℕ} {s t : List P} → Rearranged T s t → In name n s → In name n t
  stays_in done i = i
  stays_in (more p e) i = exchanged_in e (stays_in p i)

  pub was_in : {n : ℕ} {s t : List P} → Rearranged T s t → In name n t → In name n s
  was_in p = stays_in (reversed p)

  exchanged_apart : {a b c d : P} {s : List P} → Commutes T a b c d → (In name (name a) (b ∷ s) → ⊥) → (In name (name b) s → ⊥) → In name (name c) (d ∷ s) → ⊥
  exchanged_apart p h k (in_head e) = h (in_head (sym (keeps S p).0 ∙ sym e ∙ (keeps S p).1))
  exchanged_apart p h k (in_tail i) = k (in_cast (keeps S p).0 i)

  exchanged_distinct : {s t : List P} → Exchanged T s t → Distinct name s → Distinct name t
  exchanged_distinct (here p) (next h (next k d)) = next (exchanged_apart p h k) (next (λ i. h (in_tail (in_cast (keeps S p).1 i))) d)
  exchanged_distinct (there e) (next h d) = next (λ i. h (exchanged_in (exchanged_back e) i)) (exchanged_distinct e d)

  pub stays_distinct : {s t : List P} → Rearranged T s t → Distinct name s → Distinct name t
  stays_distinct done d = d
  stays_distinct (more p e) d = exchanged_distinct e (stays_distinct p d)
