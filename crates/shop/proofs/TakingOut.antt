-- A patch that is taken out: unrecord and undo.
use Rattle.std.proofs.Common.{◌≡◌, ℕ, ◌+◌, ◌<◌, List, [], ◌∷◌, ◌++◌, length, Some, None, Ok, Option, sym, refl, ap, ◌∙◌, subst, arith}
use Rattle.std.proofs.lemmas.Bool.{and_parts}
use Rattle.kinds.specs.Theory.{Theory}
use Rattle.kinds.specs.Laws.{Lawful}
use Rattle.kinds.specs.Parts.{part}
use Rattle.kinds.specs.Sequences.{inverses}
use Rattle.histories.specs.declared.named.Named.{Named}
use Rattle.histories.specs.Named.{under, patches}
use Rattle.histories.specs.History.{passed}
use Rattle.histories.specs.Runs.{Seen, Run, removed}
use Rattle.histories.specs.Agreement.{SameDocument}
use Rattle.histories.proofs.Names.{in_of_holds, holds_of_in}
use Rattle.histories.proofs.Stops.{ok_not_err, the_ok}
use Rattle.forms.specs.Find.{Standing, standing}
use Rattle.shop.specs.State.{History, State, at, with_history, with_name}
use Rattle.shop.specs.Calls.{Memory, in_shop, enough, or_not_held, a_name_left, room_for, needed_by, taken_out, unrecord, undo}
use Rattle.shop.proofs.Chains.{accepted, past, retold, then_go}
use Rattle.shop.proofs.Forming.{by_name, Numbered}
use Rattle.forms.proofs.Finding.{StandsIn, stands_in}
use Rattle.shop.proofs.Counting.{Few, few_passed}
use Rattle.shop.proofs.Invariant.{Kept, agreed, one_more}
use Rattle.shop.proofs.Showing.{there_is, goes_there, goes_sound}
use Rattle.shop.proofs.Recording.{appended}

-- the patch n of repository r was passed to the end: h is left, and `last` is what arrived
pub record Taken {P F : Type 0} (T : Theory P F) (m : Memory) (s : State P) (r n : ℕ) (h : History P) (last : Named (List P)) : Type 0 where
  pub there : r < 4
  pub memory : enough T m ≡ Ok tt
  pub place : Standing (Named (List P))
  pub found : StandsIn by_name (at s r) n place
  pub rest : History P
  pub arrives : passed (patches T) by_name place.itself place.behind ≡ Ok (rest, last)
  pub left : place.before ++ rest ≡ h

module _ {P F : Type 0} (T : Theory P F) where
  -- the name was held
  pub was_held : (o : Option (Standing (Named (List P)))) (w : Standing (Named (List P))) → or_not_held T o ≡ Ok w → o ≡ Some w
  was_held None w e = absurd (ok_not_err (sym e))
  was_held (Some v) w e = ap Some (the_ok e)

  module _ (L : Lawful T) {s : State P} {hs : List (History P)} (k : Kept T s hs) (m : Memory) (r n : ℕ) where
    -- what an accepted call tells
    pub taken : (x : History P × Named (List P)) → taken_out T m s r n ≡ Ok x → Taken T m s r n x.0 x.1
    taken x e =
        accepted (in_shop T r) e λ u a e.
        accepted (enough T m) e λ v b e.
        let l = there_is T r u a in
        accepted (or_not_held T (standing by_name (at s r) n)) (past _ (goes_sound T L k r l) e) λ w c e.
        accepted (part (λ x. x) (needed_by T r) (passed (patches T) by_name w.itself w.behind)) e λ y d e.
        subst (λ (z : History P × Named (List P)). Taken T m s r n z.0 z.1) (the_ok e) (record {
          there = l;
          memory = b;
          place = w;
          found = stands_in by_name (at s r) n w (was_held (standing by_name (at s r) n) w c);
          rest = y.0;
          arrives = retold (needed_by T r) (passed (patches T) by_name w.itself w.behind) y d;
          left = refl;
        })

    -- it is taken out wherever it is passed to the end
    pub takes_out : r < 4 → enough T m ≡ Ok tt → (w : Standing (Named (List P))) → standing by_name (at s r) n ≡ Some w
        → (y : History P × Named (List P)) → passed (patches T) by_name w.itself w.behind ≡ Ok y → taken_out T m s r n ≡ Ok (w.before ++ y.0, y.1)
    takes_out l e w f y g =
        then_go _ (goes_there T r l) (then_go _ e (then_go _ (goes_sound T L k r l) (then_go _ (ap (or_not_held T) f) (then_go _ (ap (part (λ x. x) (needed_by T r)) g) refl))))

    module _ (h : History P) (last : Named (List P)) (t : Taken T m s r n h last) where
      -- the history from which it is taken
      there_seen : Seen (t.place.before ++ t.place.itself ∷ t.place.behind) hs
      there_seen = subst (λ z. Seen z hs) t.found.parts (k.seen r t.there)

      -- it is dropped
      pub dropped : Kept T (with_history s r h) (h ∷ hs)
      dropped =
          one_more T k r h s.counter t.there (subst (λ z. Run (patches T) by_name (z ∷ hs)) t.left steps) (omega arith) (subst (Numbered s.counter) t.left names)
          (subst Few t.left (few_passed T t.place.before t.place.itself t.place.behind t.rest last t.arrives (k.few _ there_seen)))
        where
          steps : Run (patches T) by_name ((t.place.before ++ t.rest) ∷ hs)
          steps = removed t.place.before t.place.itself t.place.behind t.rest last k.run there_seen t.arrives

          names : Numbered s.counter (t.place.before ++ t.rest)
          names i x =
              let gone = (agreed T L k).removes t.place.before t.place.itself t.place.behind t.rest last there_seen t.arrives i in
              k.numbered _ there_seen i (in_of_holds i _ (and_parts _ _ (sym gone ∙ holds_of_in x)).0)

      -- the inverse of what arrived, under the next name
      abbrev inverse : Named (List P)
      inverse = under (s.counter + 1) (inverses T last.changes)

      -- or undone: the document is the same ...
      pub same_document : SameDocument (patches T) (at s r ++ inverse ∷ []) h
      same_document =
          subst (λ z. SameDocument (patches T) (z ++ inverse ∷ []) h) (sym t.found.parts)
          (subst (λ z. SameDocument (patches T) ((t.place.before ++ t.place.itself ∷ t.place.behind) ++ inverse ∷ []) z) t.left
          ((agreed T L k).undoes t.place.before t.place.itself t.place.behind t.rest last there_seen t.arrives inverse refl))

      -- ... and the invariant is kept
      pub undone : (u : Unit {0}) → room_for T (at s r) inverse ≡ Ok u → Kept T (with_name (with_history s r (at s r ++ inverse ∷ []))) ((at s r ++ inverse ∷ []) ∷ hs)
      undone u e =
          let (d, shown, _) = same_document in
          appended T k r (inverses T last.changes) d u t.there
          ((agreed T L k).inverts t.place.before t.place.itself t.place.behind t.rest last there_seen t.arrives) shown e

    -- what unrecord leaves, and undo
    pub unrecorded : (x : State P × ℕ) → unrecord T m s r n ≡ Ok x → (h : History P) × (last : Named (List P)) × Taken T m s r n h last × ((with_history s r h, length h) ≡ x)
    unrecorded x e = accepted (taken_out T m s r n) e λ y a e. (y.0, y.1, taken y a, the_ok e)

    pub was_undone : (x : State P × ℕ) → undo T m s r n ≡ Ok x → (h : History P) × (last : Named (List P)) × (taken_out T m s r n ≡ Ok (h, last))
        × (room_for T (at s r) (under (s.counter + 1) (inverses T last.changes)) ≡ Ok tt)
        × ((with_name (with_history s r (at s r ++ under (s.counter + 1) (inverses T last.changes) ∷ [])), s.counter + 1) ≡ x)
    was_undone x e =
        accepted (taken_out T m s r n) e λ y a e.
        accepted (a_name_left T s) e λ _ _ e.
        accepted (room_for T (at s r) (under (s.counter + 1) (inverses T y.1.changes))) e λ u b e. (y.0, y.1, a, b, the_ok e)
