-- Values of cells, and their words.
use Rattle.std.specs.Prelude.{◌≡◌, true, ℤ, pos, negsuc, FitsSigned, refl}
use Rattle.std.proofs.Common.{ap, arith}
use Rattle.std.specs.Int.{w16}
use Rattle.std.proofs.lemmas.Bool.{eqb-true, eq-eqb}
use Rattle.std.proofs.lemmas.Bool.Decides.{nat_tests}
use Rattle.tables.specs.Table.{same_value, in_range, word}

pub same_from_test : (a b : ℤ) → same_value a b ≡ true → a ≡ b
same_from_test (pos a) (pos b) h = ap pos (eqb-true a b h)
same_from_test (pos a) (negsuc b) h = grind arith
same_from_test (negsuc a) (pos b) h = grind arith
same_from_test (negsuc a) (negsuc b) h = ap negsuc (eqb-true a b h)

pub same_tests : (a : ℤ) → same_value a a ≡ true
same_tests (pos a) = eq-eqb a a refl
same_tests (negsuc a) = eq-eqb a a refl

-- no two values have one word
pub word_apart : (a b : ℤ) → in_range a ≡ true → in_range b ≡ true → word a ≡ word b → a ≡ b
word_apart (pos a) (pos b) h k e = ap pos (grind (arith, nat_tests))
word_apart (pos a) (negsuc b) h k e = grind (arith, nat_tests)
word_apart (negsuc a) (pos b) h k e = grind (arith, nat_tests)
word_apart (negsuc a) (negsuc b) h k e = ap negsuc (grind (arith, nat_tests))

pub in_range_from_fits : (v : ℤ) → FitsSigned w16 v → in_range v ≡ true
in_range_from_fits (pos n) f = grind (arith, nat_tests)
in_range_from_fits (negsuc n) f = grind (arith, nat_tests)
