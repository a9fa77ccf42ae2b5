-- The cases of an `Option` and of a `Result` tell what they hold, and differ.
use Rattle.std.proofs.Common.{◌≡◌, ℕ, Some, None, Ok, Err, Result, arith}

pub some_one : {A : Type 0} (x y : A) → Some x ≡ Some y → x ≡ y
some_one x y e = cc

pub ok_one : {A E : Type 0} (x y : A) → ◌≡◌ {A = Result A E} (Ok x) (Ok y) → x ≡ y
ok_one x y e = cc

pub none_some : {A B : Type 0} {x : A} → None ≡ Some x → B
none_some e = absurd (let z : ◌≡◌ {A = ℕ} 0 1 = cc in omega arith)

pub err_ok : {A B E : Type 0} {x : A} {e : E} → Err e ≡ Ok x → B
err_ok h = absurd (let z : ◌≡◌ {A = ℕ} 0 1 = cc in omega arith)
