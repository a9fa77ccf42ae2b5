-- A layer's answer, from the answer of the kind below it.
use Rattle.std.specs.Prelude.{◌≡◌, Some, None, Ok, Err, Option, Result}
use Rattle.kinds.specs.declared.answers.Failure.{Failure}
use Rattle.kinds.specs.declared.answers.Failure.TheVariants.{Length, Overfull, Fault}

-- two commuted patches, each in its place
abbrev pub both : {P Q : Type 0} → (P → Q) → (P → Q) → Option (P × P) → Option (Q × Q)
both f g None = None
both f g (Some r) = Some (f r.0, g r.1)

-- a document put into its place, or a fault with its place added
abbrev pub part : {D E F G : Type 0} → (D → E) → (F → G) → Result D F → Result E G
part f g (Ok d) = Ok (f d)
part f g (Err e) = Err (g e)

-- the fault, or a failure that has no place
abbrev pub fault_or_failure : {F G : Type 0} → Failure F → Result F (Failure G)
fault_or_failure Length = Err Length
fault_or_failure Overfull = Err Overfull
fault_or_failure (Fault f) = Ok f

-- the same failure, its fault told as R says
abbrev pub FaultMapped : {F G : Type 0} → (F → G → Type 0) → Failure F → Failure G → Type 0
FaultMapped R Length r = r ≡ Length
FaultMapped R Overfull r = r ≡ Overfull
FaultMapped R (Fault f) r = (g : _) × (r ≡ Fault g) × R f g

-- a failure with its place added, if it is a fault
abbrev pub failing : {U F G : Type 0} → (F → G) → Result U (Failure F) → Result U (Failure G)
failing g (Ok u) = Ok u
failing g (Err Length) = Err Length
failing g (Err Overfull) = Err Overfull
failing g (Err (Fault f)) = Err (Fault (g f))
