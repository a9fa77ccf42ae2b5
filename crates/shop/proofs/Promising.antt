-- The promise is kept.
use Rattle.std.proofs.Common.{◌≡◌, ℕ, ◌+◌, List, [], ◌∷◌, ◌++◌, length, Ok, refl, subst}
use Rattle.kinds.specs.Theory.{Theory}
use Rattle.kinds.specs.Laws.{Lawful}
use Rattle.kinds.specs.Sequences.{inverses}
use Rattle.histories.specs.declared.named.Named.{Named}
use Rattle.histories.specs.Named.{under}
use Rattle.shop.specs.State.{History, State, at, with_history, with_name}
use Rattle.shop.specs.Calls.{Memory, room_for, taken_out, unrecord, undo}
use Rattle.shop.specs.Promise.{ShowTheSame, Promise}
use Rattle.shop.proofs.Chains.{then_go}
use Rattle.shop.proofs.Invariant.{Kept, agreed, given}
use Rattle.shop.proofs.Showing.{show_the_same}
use Rattle.shop.proofs.TakingOut.{taken, dropped, undone, same_document, was_undone}
use Rattle.shop.proofs.Pulling.{was_pulled, taken_back}
use Rattle.shop.proofs.NeverTorn.{untorn}
use Rattle.shop.proofs.Lasting.{told, reached, lasts}

module _ {P F : Type 0} (T : Theory P F) (L : Lawful T) where
  -- to undo a patch or to unrecord it
  either_way : {s : State P} {hs : List (History P)} → Kept T s hs → (m : Memory) (r n : ℕ) (x : State P × ℕ) → undo T m s r n ≡ Ok x
      → (u : State P) × (b : ℕ) × (unrecord T m s r n ≡ Ok (u, b)) × ShowTheSame T m x.0 r u r
  either_way {s} {hs} k m r n x e = let (h, last, a, room, b) = was_undone T L k m r n x e in from h last a room b
    where
      from : (h : History P) (last : Named (List P)) → taken_out T m s r n ≡ Ok (h, last) → room_for T (at s r) (under (s.counter + 1) (inverses T last.changes)) ≡ Ok tt
          → (with_name (with_history s r (at s r ++ under (s.counter + 1) (inverses T last.changes) ∷ [])), s.counter + 1) ≡ x
          → (u : State P) × (b : ℕ) × (unrecord T m s r n ≡ Ok (u, b)) × ShowTheSame T m x.0 r u r
      from h last a room b =
          let t = taken T L k m r n (h, last) a in
          let l = t.there in
          let p = under (s.counter + 1) (inverses T last.changes) in
          let same = show_the_same T L (undone T L k m r n h last t tt room) (dropped T L k m r n h last t) r r l l (at s r ++ p ∷ []) h (given T k r (at s r ++ p ∷ []) l) (given T k r h l)
          (same_document T L k m r n h last t) m t.memory in
          (with_history s r h, length h, then_go _ a refl, subst (λ z. ShowTheSame T m z r (with_history s r h) r) (told b) same)

  -- all of it
  pub promise_kept : Promise T
  promise_kept = record {
    same_names_same_document = λ s t a b q r i j same m e.
        let n = reached T L a in
        let o = lasts T L n.kept b in
        show_the_same T L n.kept o.kept q r i j (at s q) (at t r) refl refl ((agreed T L o.kept).agree (at s q) (at t r) (o.all _ (n.kept.seen q i)) (o.kept.seen r j) same).1 m e;
    never_torn = λ s a m c. untorn T L (reached T L a).kept m c;
    undo_or_unrecord = λ s t a m r n b e. either_way (reached T L a).kept m r n (t, b) e;
    pull_and_back = λ s u a m t g n b e.
        let k = (reached T L a).kept in
        let (z, p, i) = was_pulled T L k m t g n (u, b) e in
        subst (λ v. unrecord T m v t n ≡ Ok (s, length (at s t))) (told i) (taken_back T L k m t g n z p);
  }
