-- What the answer of a kind was, where a layer's answer made from it is known.
use Rattle.std.proofs.Common.{◌≡◌, ℕ, Some, None, Ok, Err, Option, Result, refl, ap, ◌∙◌, arith}
use Rattle.std.specs.Result.{MatchResult, IsErrAnd}
use Rattle.kinds.specs.declared.answers.Failure.{Failure}
use Rattle.kinds.specs.declared.answers.Failure.TheVariants.{Length, Overfull, Fault}
use Rattle.kinds.specs.Parts.{both, part, failing, FaultMapped}

pub pair_of : {A : Type 0} {r s : A × A} → Some r ≡ Some s → (r.0 ≡ s.0) × (r.1 ≡ s.1)
pair_of {A} {r} {s} e = let z : ◌≡◌ {A = A × A} r s = cc in (ap (λ (x : A × A). x.0) z, ap (λ (x : A × A). x.1) z)

pub both_some : {P Q : Type 0} (f g : P → Q) (o : Option (P × P)) (b a : Q) → both f g o ≡ Some (b, a)
    → (r : P × P) × (o ≡ Some r) × (f r.0 ≡ b) × (g r.1 ≡ a)
both_some f g None b a e = absurd (let z : ◌≡◌ {A = ℕ} 0 1 = cc in omega arith)
both_some f g (Some r) b a e = let s = pair_of e in (r, refl, s.0, s.1)

pub part_ok : {D E F G : Type 0} (f : D → E) (g : F → G) (r : Result D F) (e : E) → part f g r ≡ Ok e → (d : D) × (r ≡ Ok d) × (f d ≡ e)
part_ok f g (Ok d) e h = (d, refl, cc)
part_ok f g (Err x) e h = absurd (let z : ◌≡◌ {A = ℕ} 0 1 = cc in omega arith)

-- a fault told as R says is told as S says, where R says no less
pub fault_mapped : {F G : Type 0} {R S : F → G → Type 0} (e : Failure F) (x : Failure G) → ((f : F) (g : G) → R f g → S f g) → FaultMapped R e x → FaultMapped S e x
fault_mapped Length x h t = t
fault_mapped Overfull x h t = t
fault_mapped (Fault f) x h t = (t.0, t.1, h f t.0 t.2)

told_failing : {U F G : Type 0} (g : F → G) (e : Failure F) (x : Failure G) → FaultMapped (λ f y. y ≡ g f) e x → ◌≡◌ {A = Result U (Failure G)} (Err x) (failing g (Err e))
told_failing g Length x t = ap Err t
told_failing g Overfull x t = ap Err t
told_failing g (Fault f) x t = ap Err (t.1 ∙ ap Fault t.2)

-- what `map_err` makes of a failure, where its fault is told as g says
pub failing_from_map_err : {U F G : Type 0} (g : F → G) {Q : Failure F → Failure G → Type 0} (r : Result U (Failure F)) (s : Result U (Failure G))
    → MatchResult r (λ u. s ≡ Ok u) (λ e. IsErrAnd s (Q e)) → ((e : Failure F) (x : Failure G) → Q e x → FaultMapped (λ f y. y ≡ g f) e x) → s ≡ failing g r
failing_from_map_err g (Ok u) s h t = h
failing_from_map_err g (Err e) (Ok u) h t = elim h [ ]
failing_from_map_err g (Err e) (Err x) h t = told_failing g e x (t e x h)
