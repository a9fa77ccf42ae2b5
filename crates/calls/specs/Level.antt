-- Whether two repositories hold the same names.
use Rattle.std.specs.Prelude.{ℕ, Bool, ◌&&◌, Ok, Result}
use Rattle.std.specs.List.{list_all}
use Rattle.kinds.specs.Theory.{Theory}
use Rattle.histories.specs.History.{holds}
use Rattle.shop.specs.declared.refusal.Refusal.{Refusal}
use Rattle.shop.specs.State.{History, State, at}
use Rattle.shop.specs.Calls.{◌>>◌, in_shop}

module _ {P : Type 0} where
  -- Each name of the one history is held by the other.
  abbrev pub all_held : History P → History P → Bool
  all_held h k = list_all (λ p. holds (λ w. w.name) k p.name) h

  -- ... and the other way round.
  abbrev pub same_names : History P → History P → Bool
  same_names h k = all_held h k && all_held k h

-- Level answers whether the repositories q and r hold the same names.
abbrev pub level : {P F : Type 0} → Theory P F → State P → ℕ → ℕ → Result Bool (Refusal F)
level T s q r = do
  in_shop T q
  in_shop T r
  Ok (same_names (at s q) (at s r))
