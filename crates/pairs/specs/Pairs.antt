-- Pairs: a patch is a sequence of one patch or two of the kind below.
use Rattle.std.specs.Prelude.{true, List, [], ◌∷◌, Some, None, Option}
use Rattle.kinds.specs.declared.steps.AtStep.{AtStep}
use Rattle.kinds.specs.Theory.{Theory}
use Rattle.kinds.specs.Sequences.{sequences}
use Rattle.kinds.specs.Restricted.{restricted}
use Rattle.pairs.specs.declared.Steps.TheVariants.{the_data as Steps, One, Two}

-- The steps, in order.
abbrev pub listed : {P : Type 0} → Steps P → List P
listed (One p) = p ∷ []
listed (Two p q) = p ∷ q ∷ []

-- The patch of these steps, if they are one or two.
abbrev pub patch_of : {P : Type 0} → List P → Option (Steps P)
patch_of [] = None
patch_of (p ∷ []) = Some (One p)
patch_of (p ∷ q ∷ []) = Some (Two p q)
patch_of (p ∷ q ∷ r ∷ s) = None

-- All else is as for sequences: the inverse, the order of the commutes, the step at fault, the sum of the growths.
abbrev pub pairs : {P F : Type 0} → Theory P F → Theory (Steps P) (AtStep F)
pairs T = restricted (sequences T) listed patch_of (λ p. true)
