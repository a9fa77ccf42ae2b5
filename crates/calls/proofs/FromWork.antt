-- What a call does with a patch that was taken out, as it stands in the work row.
use Rattle.std.proofs.Common.{◌≡◌, ℕ, List, ◌++◌, length, Ok, Err, Result, sym, refl, ap}
use Rattle.kinds.specs.Theory.{Theory}
use Rattle.kinds.specs.Laws.{Lawful}
use Rattle.histories.specs.declared.named.Named.{Named}
use Rattle.histories.proofs.Stops.{ok_not_err, the_ok}
use Rattle.histories.specs.Flat.{flat_of, flat}
use Rattle.rows.specs.declared.place.Place.{Place}
use Rattle.shop.specs.declared.refusal.Refusal.{Refusal}
use Rattle.shop.specs.declared.shop.Shop.{Shop}
use Rattle.shop.specs.State.{History}
use Rattle.shop.specs.Calls.{taken_out}
use Rattle.shop.specs.Held.{state_of}
use Rattle.calls.specs.TakeOut.{TakenInRow}
use Rattle.calls.proofs.Remaining.{Remains, remains}
use Rattle.calls.specs.Handed.{with_work}

-- nothing was taken out
pub not_taken : {P F : Type 0} (out : Result (History P × Named (List P)) (Refusal F)) (x : Refusal F) (left : List (Named P)) → TakenInRow out (Err x) left → out ≡ Err x
not_taken (Ok y) x left t = absurd (ok_not_err (sym t.0))
not_taken (Err y) x left t = let z : y ≡ x = cc in ap Err z

module _ {P F : Type 0} (T : Theory P F) (s : Shop P) (work left : List (Named P)) (r n : ℕ) where
  -- what was to be taken out
  abbrev out : Result (History P × Named (List P)) (Refusal F)
  out = taken_out T (with_work s work) (state_of s) r n

  -- the history h is left, and the patch `last`
  pub record InRow (place : Place) : Type 0 where
    pub h : History P
    pub last : Named (List P)
    pub is : out ≡ Ok (h, last)
    pub starts : place.start ≡ length (flat h)
    pub counts : place.count ≡ length last.changes
    pub free : List (Named P)
    pub row : left ≡ flat h ++ (flat_of last ++ free)
    pub facts : Remains T (with_work s work) (state_of s) r h last

  pub in_row : Lawful T → (place : Place) → TakenInRow out (Ok place) left → InRow place
  in_row L place t = on out refl t
    where
      on : (a : Result (History P × Named (List P)) (Refusal F)) → out ≡ a → TakenInRow a (Ok place) left → InRow place
      on (Err y) e t = absurd (ok_not_err t)
      on (Ok (h, last)) e t =
          let same = the_ok t.0 in
          record {
            h = h;
            last = last;
            is = e;
            starts = ap (λ z. z.start) same;
            counts = ap (λ z. z.count) same;
            free = t.1.0;
            row = t.1.1;
            facts = remains T L (with_work s work) (state_of s) r n (h, last) e;
          }
