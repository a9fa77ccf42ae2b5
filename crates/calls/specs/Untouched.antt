-- What a refusal leaves of the memory of a shop.
use Rattle.std.specs.Prelude.{◌≡◌, Ok, Err, Result}
use Rattle.shop.specs.declared.shop.Shop.{Shop}

-- A call that answers r finds the shop `was` and leaves the shop `left`: after a refusal they are the same, entry by entry.
abbrev pub Untouched : {P A E : Type 0} → Result A E → Shop P → Shop P → Type 0
Untouched (Ok a) was left = Unit {0}
Untouched (Err x) was left = left ≡ was
