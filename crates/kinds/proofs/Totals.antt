-- Sums of told numbers.
use Rattle.std.proofs.Common.{◌≡◌, ℕ, ◌+◌, ◌*◌, ◌<◌, ◌≤◌, sym, ◌∙◌, ⊎_elim, mul-le-mul_right, one-mul, arith}
use native.Mathlib.Nat.{min-eq_left, min-eq_right}
use Rattle.std.proofs.lemmas.Bool.{cases_lt}
use Rattle.kinds.specs.Bounded.{saturated, largest}

above : (c m n : ℕ) → 0 < c → largest ≤ m → saturated (c * m + n) ≡ largest
above c m n h l =
    let k : 1 * m ≤ c * m = mul-le-mul_right m h in
    let e = one-mul m in
    min-eq_right (omega arith)

more_above : (a n : ℕ) → largest ≤ n → saturated (a + n) ≡ largest
more_above a n l = min-eq_right (omega arith)

pub saturated_total : (c m n : ℕ) → 0 < c → saturated (c * saturated m + saturated n) ≡ saturated (c * m + n)
saturated_total c m n h = ⊎_elim small large (cases_lt m largest)
  where
    large : largest ≤ m → saturated (c * saturated m + saturated n) ≡ saturated (c * m + n)
    large l = rw (min-eq_right l) (above c largest (saturated n) h (omega arith) ∙ sym (above c m n h l))

    small : m < largest → saturated (c * saturated m + saturated n) ≡ saturated (c * m + n)
    small l = ⊎_elim
        (λ k. let a : saturated m ≡ m = min-eq_left (omega arith) in let b : saturated n ≡ n = min-eq_left (omega arith) in rw (a, b))
        (λ k. let a : saturated m ≡ m = min-eq_left (omega arith) in let b : saturated n ≡ largest = min-eq_right k in
        rw (a, b) (more_above (c * m) largest (omega arith) ∙ sym (more_above (c * m) n k)))
        (cases_lt n largest)
