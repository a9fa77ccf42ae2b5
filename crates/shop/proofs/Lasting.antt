-- Along calls the invariant lasts, and no history that was seen is forgotten.
use Rattle.std.proofs.Common.{◌≡◌, ℕ, List, [], ◌∷◌, Ok, Err, Result, refl, ap, subst}
use Rattle.kinds.specs.Theory.{Theory}
use Rattle.kinds.specs.Laws.{Lawful}
use Rattle.kinds.proofs.Parts.{part_ok}
use Rattle.histories.specs.Runs.{Seen, older}
use Rattle.shop.specs.declared.refusal.Refusal.{Refusal}
use Rattle.shop.specs.State.{History, State}
use Rattle.shop.specs.Calls.{Memory, show, record_patch}
use Rattle.shop.specs.Reached.{Call, Record, Pull, Unrecord, Undo, Show, answer, after, Later, same, called, Reached}
use Rattle.shop.proofs.Invariant.{Kept, kept_empty}
use Rattle.shop.proofs.Recording.{recording}
use Rattle.shop.proofs.TakingOut.{taken, dropped, undone, unrecorded, was_undone}
use Rattle.shop.proofs.Pulling.{was_pulled, taker_kept}

-- the state t, of histories among which are all of hs
pub record Next {P F : Type 0} (T : Theory P F) (hs : List (History P)) (t : State P) : Type 0 where
  pub histories : List (History P)
  pub kept : Kept T t histories
  pub all : (h : History P) → Seen h hs → Seen h histories

-- the state that is told with a number
pub told : {P : Type 0} {x y : State P × ℕ} → x ≡ y → x.0 ≡ y.0
told {P} e = ap (λ (z : State P × ℕ). z.0) e

module _ {P F : Type 0} (T : Theory P F) (L : Lawful T) where
  -- nothing new is seen, or one history
  stays : {s : State P} {hs : List (History P)} → Kept T s hs → Next T hs s
  stays {hs = hs} k = record { histories = hs; kept = k; all = λ h i. i }

  grows : {s t : State P} {hs : List (History P)} {h : History P} → Kept T s (h ∷ hs) → s ≡ t → Next T hs t
  grows {hs = hs} {h = h} k e = record { histories = h ∷ hs; kept = subst (λ z. Kept T z (h ∷ hs)) e k; all = λ h i. older i }

  -- an accepted call, and any call
  call_done : {s : State P} {hs : List (History P)} → Kept T s hs → (m : Memory) (c : Call P) (x : State P × ℕ) → answer T m s c ≡ Ok x → Next T hs x.0
  call_done {s} k m (Record r cs) x e = let (y, a, b) = part_ok _ (λ x. x) (record_patch T m s r cs) x e in grows (recording T L k m r cs y a) (told b)
  call_done {s} k m (Pull t g n) x e = let (z, a, b) = was_pulled T L k m t g n x e in grows (taker_kept T L k m t g n z a) (told b)
  call_done {s} k m (Unrecord r n) x e = let (h, last, a, b) = unrecorded T L k m r n x e in grows (dropped T L k m r n h last a) (told b)
  call_done {s} k m (Undo r n) x e = let (h, last, a, room, b) = was_undone T L k m r n x e in grows (undone T L k m r n h last (taken T L k m r n (h, last) a) tt room) (told b)
  call_done {s} k m (Show r) x e = let (y, a, b) = part_ok _ (λ x. x) (show T m s r) x e in subst (Next T _) (told b) (stays k)

  call_keeps : {s : State P} {hs : List (History P)} → Kept T s hs → (m : Memory) (c : Call P) → Next T hs (after T s (answer T m s c))
  call_keeps {s} {hs} k m c = go (answer T m s c) refl
    where
      go : (r : Result (State P × ℕ) (Refusal F)) → answer T m s c ≡ r → Next T hs (after T s r)
      go (Ok x) e = call_done k m c x e
      go (Err x) e = stays k

  -- along calls
  pub lasts : {s t : State P} {hs : List (History P)} → Kept T s hs → Later T s t → Next T hs t
  lasts k same = stays k
  lasts k (called l m c) =
      let n = lasts k l in
      let o = call_keeps n.kept m c in
      record { histories = o.histories; kept = o.kept; all = λ h i. o.all h (n.all h i) }

  -- and so from the empty shop on
  pub reached : {s : State P} → Reached T s → Next T ([] ∷ []) s
  reached = lasts (kept_empty T)
