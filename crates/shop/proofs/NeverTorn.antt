-- No call is refused as torn.
use Rattle.std.proofs.Common.{◌≡◌, ℕ, ◌+◌, ◌<◌, false, not, ◌&&◌, eqb, leb, ◌≢◌, List, [], length, Some, None, Ok, Err, Option, Result, refl, ap, ◌∙◌, subst}
use Rattle.kinds.specs.Theory.{Theory}
use Rattle.kinds.specs.Laws.{most, Lawful}
use Rattle.kinds.specs.Parts.{part}
use Rattle.kinds.specs.Sequences.{and_then, growths, inverses, sequences}
use Rattle.histories.specs.declared.Stop.{Stop}
use Rattle.histories.specs.declared.Stop.TheVariants.{By, TooFar}
use Rattle.histories.specs.declared.named.Named.{Named}
use Rattle.histories.specs.Named.{under, one_to_eight, patches}
use Rattle.histories.specs.History.{holds, missing, passed, block, gathered, merged}
use Rattle.histories.specs.Runs.{Seen}
use Rattle.histories.specs.Flat.{flat}
use Rattle.forms.specs.Form.{most_patches, most_changes}
use Rattle.forms.specs.Find.{Standing, standing, unwritable}
use Rattle.shop.specs.declared.refusal.Refusal.{Refusal}
use Rattle.shop.specs.declared.refusal.Refusal.TheVariants.{NoRepository, SameRepository, WrongRoom, WrongCount, Unwritable, AlreadyHeld, NotHeld, Lacking, Fault, NoName, Full, Overgrown, Torn}
use Rattle.shop.specs.Refusals.{number}
use Rattle.shop.specs.State.{History, State, at}
use Rattle.shop.specs.Calls.{Memory, or_refused, refused_if_some, in_shop, enough, a_patch, sound_at, or_not_held, room_for, a_name_left}
use Rattle.shop.specs.Calls.{document, needed_by, clashes_with, show, record_patch, taken_out, unrecord, undo, pull}
use Rattle.shop.specs.Reached.{Call, Record, Pull, Unrecord, Undo, Show, answer}
use Rattle.shop.proofs.Chains.{past, retold, none_there, Untorn, untorn_ok, untorn_known, untorn_as, untorn_test, untorn_then, untorn_part, untorn_less, untorn_none}
use Rattle.shop.proofs.Forming.{by_name}
use Rattle.forms.proofs.Finding.{stands_in}
use Rattle.shop.proofs.Invariant.{Kept, agreed}
use Rattle.shop.proofs.Showing.{there_is, goes_sound, has_document}
use Rattle.shop.proofs.TakingOut.{was_held}
use Rattle.shop.proofs.Pulling.{tested}

module _ {P F : Type 0} (T : Theory P F) where
  -- tests that refuse for other reasons
  untorn_held : (o : Option (Standing (Named (List P)))) → Untorn (or_not_held T o)
  untorn_held None = untorn_as NotHeld refl
  untorn_held (Some w) = untorn_ok w

  untorn_room : (h : History P) (p : Named (List P)) → Untorn (room_for T h p)
  untorn_room h p =
      untorn_then (or_refused (leb (length h + 1) most_patches && leb (length (flat h) + length p.changes) most_changes) Full) _ (untorn_test _ Full refl) λ _ _.
      untorn_test (leb (growths (patches T) h + (patches T).growth p) most) Overgrown refl

  untorn_patch : (cs : List P) → Untorn (a_patch T cs)
  untorn_patch cs =
      untorn_then (or_refused (one_to_eight cs) WrongCount) _ (untorn_test _ WrongCount refl) λ _ _.
      untorn_none T Unwritable (unwritable T 0 cs) (λ i. refl)

  -- a stop that is not too far
  near_needed : (r : ℕ) (x : Stop) → x ≢ TooFar → eqb (number (needed_by T r x)) 20 ≡ false
  near_needed r (By n) h = refl
  near_needed r TooFar h = absurd (h refl)

  near_clash : (r : ℕ) (x : Stop) → x ≢ TooFar → eqb (number (clashes_with T r x)) 20 ≡ false
  near_clash r (By n) h = refl
  near_clash r TooFar h = absurd (h refl)

  module _ (L : Lawful T) {s : State P} {hs : List (History P)} (k : Kept T s hs) (m : Memory) where
    -- the history of a repository that there is
    untorn_at : {A : Type 0} (r : ℕ) (u : Unit {0}) → in_shop T r ≡ Ok u → (f : History P → Result A (Refusal F)) → (r < 4 → Untorn (f (at s r))) → Untorn (and_then (sound_at T s r) f)
    untorn_at r u a f c = let l = there_is T r u a in λ x e. c l x (past f (goes_sound T L k r l) e)

    -- each call
    untorn_show : (r : ℕ) → Untorn (show T m s r)
    untorn_show r =
        untorn_then (in_shop T r) _ (untorn_test _ (NoRepository r) refl) λ u a.
        untorn_then (enough T m) _ (untorn_test _ WrongRoom refl) λ _ _.
        untorn_at r u a _ λ l.
        untorn_then (document T r (at s r)) _ (untorn_known (has_document T L k r l).1) λ d _.
        untorn_ok (d, length (at s r))

    untorn_record : (r : ℕ) (cs : List P) → Untorn (record_patch T m s r cs)
    untorn_record r cs =
        untorn_then (in_shop T r) _ (untorn_test _ (NoRepository r) refl) λ u a.
        untorn_then (enough T m) _ (untorn_test _ WrongRoom refl) λ _ _.
        untorn_then (a_patch T cs) _ (untorn_patch cs) λ _ _.
        untorn_at r u a _ λ l.
        untorn_then (a_name_left T s) _ (untorn_test _ NoName refl) λ _ _.
        untorn_then (room_for T (at s r) (under (s.counter + 1) cs)) _ (untorn_room (at s r) (under (s.counter + 1) cs)) λ _ _.
        untorn_then (document T r (at s r)) _ (untorn_known (has_document T L k r l).1) λ d _.
        untorn_then (part (λ e. e) Fault ((sequences T).apply cs d)) _ (untorn_part (λ e. e) Fault ((sequences T).apply cs d) (λ x _. refl)) λ e _.
        untorn_ok _

    untorn_taken : (r n : ℕ) → Untorn (taken_out T m s r n)
    untorn_taken r n =
        untorn_then (in_shop T r) _ (untorn_test _ (NoRepository r) refl) λ u a.
        untorn_then (enough T m) _ (untorn_test _ WrongRoom refl) λ _ _.
        untorn_at r u a _ λ l.
        untorn_then (or_not_held T (standing by_name (at s r) n)) _ (untorn_held (standing by_name (at s r) n)) λ w c.
        let f = stands_in by_name (at s r) n w (was_held T (standing by_name (at s r) n) w c) in
        let i = subst (λ z. Seen z hs) f.parts (k.seen r l) in
        untorn_then (part (λ x. x) (needed_by T r) (passed (patches T) by_name w.itself w.behind)) _
        (untorn_part (λ x. x) (needed_by T r) (passed (patches T) by_name w.itself w.behind)
        (λ x e. near_needed r x (λ z. (agreed T L k).passes w.before w.itself w.behind i (e ∙ ap Err z)))) λ y _.
        untorn_ok _

    untorn_unrecord : (r n : ℕ) → Untorn (unrecord T m s r n)
    untorn_unrecord r n = untorn_then (taken_out T m s r n) _ (untorn_taken r n) λ y _. untorn_ok _

    untorn_undo : (r n : ℕ) → Untorn (undo T m s r n)
    untorn_undo r n =
        untorn_then (taken_out T m s r n) _ (untorn_taken r n) λ y _.
        untorn_then (a_name_left T s) _ (untorn_test _ NoName refl) λ _ _.
        untorn_then (room_for T (at s r) (under (s.counter + 1) (inverses T y.1.changes))) _ (untorn_room (at s r) (under (s.counter + 1) (inverses T y.1.changes))) λ _ _.
        untorn_ok _

    untorn_pull : (t g n : ℕ) → Untorn (pull T m s t g n)
    untorn_pull t g n =
        untorn_then (in_shop T t) _ (untorn_test _ (NoRepository t) refl) λ u a.
        untorn_then (in_shop T g) _ (untorn_test _ (NoRepository g) refl) λ v b.
        untorn_then (or_refused (not (eqb t g)) SameRepository) _ (untorn_test _ SameRepository refl) λ _ _.
        untorn_then (enough T m) _ (untorn_test _ WrongRoom refl) λ _ _.
        untorn_at t u a _ λ l.
        untorn_at g v b _ λ l'.
        untorn_then (or_not_held T (standing by_name (at s g) n)) _ (untorn_held (standing by_name (at s g) n)) λ w c.
        let there = stands_in by_name (at s g) n w (was_held T (standing by_name (at s g) n) w c) in
        let i = k.seen t l in
        let j = subst (λ z. Seen z hs) there.parts (k.seen g l') in
        let A = agreed T L k in
        untorn_then (or_refused (not (holds by_name (at s t) n)) AlreadyHeld) _ (untorn_test _ AlreadyHeld refl) λ o1 o2.
        untorn_then (part (λ b. b) (λ x. Torn g) (block (patches T) by_name w.before w.itself)) _
        (untorn_known (ap (part (λ b. b) (λ x. Torn g)) (A.depends w.before w.itself w.behind j).1)) λ d e.
        untorn_then (refused_if_some T (λ v. Lacking v.name) (missing by_name d.needs (at s t))) _ (untorn_none T (λ v. Lacking v.name) _ (λ v. refl)) λ f1 f2.
        untorn_then (room_for T (at s t) w.itself) _ (untorn_room (at s t) w.itself) λ h1 h2.
        untorn_then (part (λ x. x) (λ x. Torn t) (gathered (patches T) by_name d.needs [] (at s t))) _
        (untorn_known (ap (part (λ x. x) (λ x. Torn t)) (A.gathers (at s t) w.before w.itself w.behind d i j
        (retold (λ x. Torn g) (block (patches T) by_name w.before w.itself) d e)
        (none_there T (λ (v : Named (List P)). Lacking v.name) (missing by_name d.needs (at s t)) f1 f2)).2)) λ parts p.
        untorn_then (part (λ z. z) (clashes_with T t) (merged (patches T) by_name parts.1 d.itself)) _
        (untorn_part (λ z. z) (clashes_with T t) (merged (patches T) by_name parts.1 d.itself) (λ x q. near_clash t x (λ z.
        A.merges (at s t) w.before w.itself w.behind d parts.0 parts.1 i j (tested T s t g n w there o1 o2 d e f1 f2 h1 h2 parts p) (q ∙ ap Err z)))) λ z _.
        untorn_ok _

  -- so no call is
  pub untorn : Lawful T → {s : State P} {hs : List (History P)} → Kept T s hs → (m : Memory) (c : Call P) → Untorn (answer T m s c)
  untorn L {s} k m (Record r cs) = untorn_less (λ (x : T.Doc × State P × ℕ). (x.1, x.2)) (record_patch T m s r cs) (untorn_record L k m r cs)
  untorn L {s} k m (Pull t g n) = untorn_pull L k m t g n
  untorn L {s} k m (Unrecord r n) = untorn_unrecord L k m r n
  untorn L {s} k m (Undo r n) = untorn_undo L k m r n
  untorn L {s} k m (Show r) = untorn_less (λ (x : T.Doc × ℕ). (s, x.1)) (show T m s r) (untorn_show L k m r)
