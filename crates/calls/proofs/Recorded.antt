-- The document that record makes, test by test.
use Rattle.std.proofs.Common.{◌≡◌, ℕ, ◌+◌, ◌≤◌, Bool, true, false, ◌&&◌, ltb, leb, List, length, Ok, Err, Result, sym, refl, ap, subst, arith}
use Rattle.std.proofs.lemmas.Bool.{leb-true}
use Rattle.kinds.specs.Theory.{Theory}
use Rattle.kinds.specs.Bounded.{roomy}
use Rattle.kinds.specs.Laws.{most, Lawful}
use Rattle.kinds.specs.Parts.{part}
use Rattle.kinds.specs.Sequences.{and_then, growths, sequences}
use Rattle.kinds.proofs.Sequences.{sequences_lawful}
use Rattle.histories.specs.declared.named.Named.{Named}
use Rattle.histories.specs.Named.{under, patches}
use Rattle.histories.specs.History.{replay}
use Rattle.histories.specs.Proofs.NamedLaws.{patches_lawful}
use Rattle.histories.specs.Flat.{flat}
use Rattle.forms.specs.Form.{grouped, most_patches, most_changes}
use Rattle.histories.proofs.Stops.{ok_not_err}
use Rattle.shop.specs.declared.refusal.Refusal.{Refusal}
use Rattle.shop.specs.declared.refusal.Refusal.TheVariants.{Fault, Full, Overgrown, Torn}
use Rattle.shop.specs.declared.shop.Shop.{Shop}
use Rattle.shop.specs.Calls.{or_refused, sound_at, a_name_left, room_for, document}
use Rattle.shop.specs.Held.{row_at, state_of}
use Rattle.calls.specs.Run.{LeftInRun, new_document}
use Rattle.calls.proofs.SoundRow.{tested, a_name}

-- what is left in a run, behind an answer
pub left_done : {P F : Type 0} (T : Theory P F) (a : Result T.Doc (Refusal F)) (left : List ℕ) → LeftInRun T a (Ok tt) left → (d : T.Doc) × (a ≡ Ok d) × T.fits d × (left ≡ T.encode d)
left_done T (Ok d) left (_, f, e) = (d, refl, f, e)
left_done T (Err x) left e = absurd (ok_not_err e)

pub left_refused : {P F : Type 0} (T : Theory P F) (a : Result T.Doc (Refusal F)) (x : Refusal F) (left : List ℕ) → LeftInRun T a (Err x) left → a ≡ Err x
left_refused T (Ok d) x left (e, _, _) = absurd (ok_not_err (sym e))
left_refused T (Err y) x left e = let z : x ≡ y = cc in ap Err (sym z)

-- the row is that of repository r, read from the shop
module _ {P F : Type 0} (T : Theory P F) (s : Shop P) (r : ℕ) (cs : List P) (row : List (Named P)) (read : row ≡ row_at s r) where
  abbrev h : List (Named (List P))
  h = grouped row

  abbrev p : Named (List P)
  p = under (s.counter + 1) cs

  module _ (form : Ok h ≡ sound_at T (state_of s) r) where
    history : sound_at T (state_of s) r ≡ Ok h
    history = sym form

    abbrev named : Result (Unit {0}) (Refusal F) → Result ℕ (Refusal F)
    named = part (λ _. s.counter + 1) (λ x. x)

    module _ (n : ℕ) (given : Ok n ≡ named (a_name_left T (state_of s))) where
      name : a_name_left T (state_of s) ≡ Ok tt
      name = (a_name (ltb s.counter 255) (s.counter + 1) n given).0

      module _ (room : Ok tt ≡ room_for T h p) where
        with_document : (d : T.Doc) → document T r h ≡ Ok d → new_document T (state_of s) r cs ≡ part (λ e. e) Fault ((sequences T).apply cs d)
        with_document d e = rw (history, name, sym room, e) refl

        -- the document is as large as its history grew, at most, and there is room for the changes
        changes_fit : Lawful T → (d : T.Doc) → document T r h ≡ Ok d → T.size d + growths T cs ≤ most
        changes_fit L d e =
            let size : T.size d ≤ T.size T.fresh + growths (patches T) h = (sequences_lawful (patches T) (patches_lawful T L)).grows.bounds h T.fresh d (replayed (replay (patches T) h) e) in
            let none = L.held_in_words.starts.1 in
            let light = leb-true (growths (patches T) h + growths T cs) most (second (leb (length h + 1) most_patches && leb (length (flat h) + length cs) most_changes) _ room) in
            omega arith
          where
            replayed : {E : Type 0} (a : Result T.Doc E) → part {G = Refusal F} (λ d. d) (λ f. Torn r) a ≡ Ok d → a ≡ Ok d
            replayed (Ok c) i = cc
            replayed (Err y) i = absurd (ok_not_err (sym i))

            second : (a b : Bool) → Ok tt ≡ and_then (or_refused {F = F} a Full) (λ _. or_refused b Overgrown) → b ≡ true
            second true b i = tested b Overgrown i
            second false b i = absurd (ok_not_err i)

        -- the changes were applied to the document of the history
        pub applied : Lawful T → (was run left : List ℕ) (q : Result (Unit {0}) (Refusal F)) → roomy T (length was) ≡ true → LeftInRun T (document T r h) (Ok tt) run → length run ≡ length was
            → ((d : T.Doc) → T.fits d → run ≡ T.encode d → roomy T (length run) ≡ true → T.size d + growths T cs ≤ most → LeftInRun T (part (λ e. e) Fault ((sequences T).apply cs d)) q left)
            → LeftInRun T (new_document T (state_of s) r cs) q left
        applied L was run left q w i l f =
            let (d, e, fits, is) = left_done T (document T r h) run i in
            subst (λ z. LeftInRun T z q left) (sym (with_document d e)) (f d fits is (subst (λ n. roomy T n ≡ true) (sym l) w) (changes_fit L d e))
