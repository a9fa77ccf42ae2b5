-- A row copied over another, as far as there is room.
use Rattle.std.proofs.Common.{◌≡◌, ◌≤◌, List, ◌++◌, length, take, drop, sym, ap, ◌∙◌, arith, length-append}
use Rattle.std.proofs.lemmas.List.{take_all, drop_all, take_at, append-nil}

-- a row was copied into another that is long enough, and back again after it was changed
pub copied_back : {A : Type 0} (row work left kept again : List A) → length row ≤ length work → length left ≡ length row → kept ≡ take (length work) row ++ drop (length row) work
    → again ≡ take (length left) kept ++ drop (length kept) left → again ≡ row
copied_back row work left kept again n l e f =
    let whole : kept ≡ row ++ drop (length row) work = e ∙ ap (λ z. z ++ drop (length row) work) (take_all (length work) row n) in
    let long = ap length whole ∙ length-append row (drop (length row) work) in
    f ∙ ap (λ z. z ++ drop (length kept) left) (ap (take (length left)) whole ∙ take_at row (drop (length row) work) (length left) (sym l))
    ∙ ap (λ z. row ++ z) (drop_all (length kept) left (omega arith)) ∙ append-nil row
