-- Patches that commute with others of their row, in place.
use Rattle.std.specs.Prelude.{◌≡◌, ◌+◌, List, [], ◌∷◌, ◌++◌, Ok, Err, Result}
use Rattle.kinds.specs.declared.answers.Clash.{Clash}
use Rattle.kinds.specs.declared.steps.AtStep.{AtStep}
use Rattle.kinds.specs.Theory.{Theory}
use Rattle.kinds.specs.Parts.{part}
use Rattle.kinds.specs.Sequences.{found_at, and_then, answer_over}

-- a clash, without the place where it was met
abbrev pub fault_of : AtStep Clash → Clash
fault_of s = s.fault

-- a clash that was met behind one patch more
abbrev pub one_further : AtStep Clash → AtStep Clash
one_further s = found_at (s.step + 1) s.fault

-- one patch more in front of the others
abbrev pub in_front : {P : Type 0} → P → List P × List P → List P × List P
in_front q s = (q ∷ s.0, s.1)

-- The patches ps pass right over all of qs: qs as they are then, and ps. Or else the place among qs of the first that stops them, and why.
abbrev pub passing : {P F : Type 0} → Theory P F → List P → List P → Result (List P × List P) (AtStep Clash)
passing T ps [] = Ok ([], ps)
passing T ps (q ∷ qs) = and_then (part (λ s. s) (found_at 0) (answer_over T ps q)) (λ (q', ps'). part (in_front q') one_further (passing T ps' qs))

-- One patch came through to the front of the others, or was stopped.
abbrev pub Carried : {P : Type 0} → Result (P × List P) Clash → Result (Unit {0}) Clash → List P → Type 0
Carried (Ok s) r row = (r ≡ Ok tt) × (row ≡ s.0 ∷ s.1)
Carried (Err c) r row = r ≡ Err c

-- Some patches came through to the front of the others, or were stopped.
abbrev pub Passed : {P E : Type 0} → Result (List P × List P) E → Result (Unit {0}) E → List P → Type 0
Passed (Ok s) r row = (r ≡ Ok tt) × (row ≡ s.0 ++ s.1)
Passed (Err c) r row = r ≡ Err c
