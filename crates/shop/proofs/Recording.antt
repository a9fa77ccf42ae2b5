-- Recording keeps the invariant.
use Rattle.std.proofs.Common.{◌≡◌, ℕ, ◌+◌, ◌<◌, ◌≤◌, true, ◌&&◌, leb, List, [], ◌∷◌, ◌++◌, length, Ok, subst, arith}
use Rattle.std.proofs.lemmas.Bool.{and_parts, and_from, leb-true}
use Rattle.kinds.specs.Theory.{Theory}
use Rattle.kinds.specs.Laws.{most, Lawful}
use Rattle.kinds.specs.Parts.{part}
use Rattle.kinds.specs.Sequences.{growths, sequences}
use Rattle.kinds.proofs.Sequences.{run_of, of_run, run_join, end, step}
use Rattle.histories.specs.declared.named.Named.{Named}
use Rattle.histories.specs.Named.{under, one_to_eight, patches}
use Rattle.histories.specs.History.{replay}
use Rattle.histories.specs.Runs.{recorded}
use Rattle.histories.proofs.Stops.{the_ok}
use Rattle.histories.specs.Flat.{flat}
use Rattle.forms.specs.Form.{most_patches, most_changes}
use Rattle.forms.specs.Find.{unwritable}
use Rattle.shop.specs.declared.refusal.Refusal.TheVariants.{WrongCount, Unwritable, Full, Overgrown, Torn, Fault}
use Rattle.shop.specs.State.{History, State, at, with_history, with_name}
use Rattle.shop.specs.Calls.{Memory, or_refused, in_shop, enough, a_patch, a_name_left, room_for, document, record_patch}
use Rattle.shop.proofs.Chains.{accepted, past, retold, test_holds, none_there}
use Rattle.forms.proofs.Writing.{all_writable}
use Rattle.shop.proofs.Forming.{next_is_new, numbered_more}
use Rattle.shop.proofs.Counting.{few_more}
use Rattle.shop.proofs.Invariant.{Kept, one_more}
use Rattle.shop.proofs.Showing.{there_is, goes_sound}

module _ {P F : Type 0} (T : Theory P F) where
  -- one to eight changes, all of which can be written
  pub can_be_written : (n : ℕ) (cs : List P) (u : Unit {0}) → a_patch T cs ≡ Ok u → (patches T).written (under n cs) ≡ true
  can_be_written n cs u e =
      accepted (or_refused (one_to_eight cs) WrongCount) e λ v a b.
      and_from _ _ (test_holds (one_to_eight cs) WrongCount v a) (all_writable T 0 cs (none_there T Unwritable (unwritable T 0 cs) u b))

  -- there is room for one patch more
  pub has_room : (h : History P) (p : Named (List P)) (u : Unit {0}) → room_for T h p ≡ Ok u
      → (length h + 1 ≤ 40) × (length (flat h) + length p.changes ≤ 160) × (growths (patches T) h + (patches T).growth p ≤ most)
  has_room h p u e =
      accepted (or_refused (leb (length h + 1) most_patches && leb (length (flat h) + length p.changes) most_changes) Full) e λ v a b.
      let (c, d) = and_parts _ _ (test_holds _ Full v a) in
      (leb-true _ _ c, leb-true _ _ d, leb-true _ _ (test_holds _ Overgrown u b))

  -- a patch under the next name, at the end of the history of repository r
  pub appended : {s : State P} {hs : List (History P)} → Kept T s hs → (r : ℕ) (cs : List P) (d : T.Doc) (u : Unit {0}) → r < 4 → (patches T).written (under (s.counter + 1) cs) ≡ true
      → replay (patches T) (at s r ++ under (s.counter + 1) cs ∷ []) ≡ Ok d → room_for T (at s r) (under (s.counter + 1) cs) ≡ Ok u
      → Kept T (with_name (with_history s r (at s r ++ under (s.counter + 1) cs ∷ []))) ((at s r ++ under (s.counter + 1) cs ∷ []) ∷ hs)
  appended {s} {hs} k r cs d u l w shown room =
      let p = under (s.counter + 1) cs in
      let (a, b, c) = has_room (at s r) p u room in
      let i = k.seen r l in
      one_more T k r (at s r ++ p ∷ []) (s.counter + 1) l
      (recorded p d k.run i (λ h j. next_is_new s.counter h (k.numbered h j)) w shown c) (omega arith)
      (numbered_more (s.counter + 1) (at s r) p (λ n x. let (e, f) = k.numbered (at s r) i n x in (e, omega arith)) (omega arith) (omega arith))
      (few_more (at s r) p a b)

  -- what an accepted record leaves
  pub recording : Lawful T → {s : State P} {hs : List (History P)} → Kept T s hs → (m : Memory) (r : ℕ) (cs : List P) (x : T.Doc × State P × ℕ) → record_patch T m s r cs ≡ Ok x
      → Kept T x.1 ((at s r ++ under (s.counter + 1) cs ∷ []) ∷ hs)
  recording L {s} {hs} k m r cs x e =
      accepted (in_shop T r) e λ u a e.
      accepted (enough T m) e λ _ _ e.
      accepted (a_patch T cs) e λ v b e.
      let l = there_is T r u a in
      accepted (a_name_left T s) (past _ (goes_sound T L k r l) e) λ _ _ e.
      accepted (room_for T (at s r) (under (s.counter + 1) cs)) e λ w c e.
      accepted (document T r (at s r)) e λ d f e.
      accepted (part (λ e. e) Fault ((sequences T).apply cs d)) e λ y g e.
      let before = run_of (patches T) 0 (at s r) T.fresh d (retold (λ f. Torn r) (replay (patches T) (at s r)) d f) in
      let shown = of_run (patches T) 0 (run_join (patches T) before (step {p = under (s.counter + 1) cs} (retold Fault ((sequences T).apply cs d) y g) end)) in
      subst (λ (z : T.Doc × State P × ℕ). Kept T z.1 ((at s r ++ under (s.counter + 1) cs ∷ []) ∷ hs)) (the_ok e) (appended k r cs y w l (can_be_written (s.counter + 1) cs v b) shown c)
