-- What taking a patch out answers, and what it leaves in the work row.
use Rattle.std.specs.Prelude.{◌≡◌, List, ◌++◌, length, Ok, Err, Result}
use Rattle.histories.specs.declared.named.Named.{Named}
use Rattle.histories.specs.Flat.{flat_of, flat}
use Rattle.rows.specs.declared.place.Place.{Place}
use Rattle.shop.specs.declared.refusal.Refusal.{Refusal}
use Rattle.shop.specs.State.{History}

-- The work row begins with the history without the patch, and the changes of the patch follow, at the place that is answered; or the call is refused.
abbrev pub TakenInRow : {P F : Type 0} → Result (History P × Named (List P)) (Refusal F) → Result Place (Refusal F) → List (Named P) → Type 0
TakenInRow {P} (Ok x) r left =
    (r ≡ Ok (record { start = length (flat x.0); count = length x.1.changes })) × ((free : List (Named P)) × (left ≡ flat x.0 ++ (flat_of x.1 ++ free)))
TakenInRow (Err x) r left = r ≡ Err x
