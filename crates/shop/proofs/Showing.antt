-- Every repository can be shown.
use Rattle.std.proofs.Common.{◌≡◌, ℕ, ◌<◌, List, length, Ok, Result, refl, ap, ◌∙◌}
use Rattle.std.proofs.lemmas.Bool.{lt-ltb, ltb-true}
use Rattle.kinds.specs.Theory.{Theory}
use Rattle.kinds.specs.Laws.{Lawful}
use Rattle.kinds.specs.Parts.{part}
use Rattle.histories.specs.Named.{patches}
use Rattle.histories.specs.History.{replay}
use Rattle.histories.specs.Agreement.{SameDocument}
use Rattle.shop.specs.declared.refusal.Refusal.{Refusal}
use Rattle.shop.specs.declared.refusal.Refusal.TheVariants.{NoRepository, Torn}
use Rattle.shop.specs.State.{History, State, at}
use Rattle.shop.specs.Calls.{Memory, in_shop, enough, sound_at, document, show}
use Rattle.shop.specs.Promise.{ShowTheSame}
use Rattle.shop.proofs.Chains.{then_go, test_holds, test_goes}
use Rattle.shop.proofs.Forming.{right_form}
use Rattle.shop.proofs.Invariant.{Kept, agreed}

module _ {P F : Type 0} (T : Theory P F) where
  -- there is such a repository
  pub there_is : (r : ℕ) (u : Unit {0}) → in_shop T r ≡ Ok u → r < 4
  there_is r u e = ltb-true r 4 (test_holds _ (NoRepository r) u e)

  pub goes_there : (r : ℕ) → r < 4 → in_shop T r ≡ Ok tt
  goes_there r l = test_goes _ (NoRepository r) (lt-ltb r 4 l)

  module _ (L : Lawful T) {s : State P} {hs : List (History P)} (k : Kept T s hs) (r : ℕ) (l : r < 4) where
    -- its history has the right form ...
    pub goes_sound : sound_at T s r ≡ Ok (at s r)
    goes_sound =
        let i = k.seen r l in
        let (a, b) = k.few (at s r) i in
        then_go _ (test_goes _ (Torn r) (right_form T s.counter (at s r) ((agreed T L k).well_formed (at s r) i) (k.numbered (at s r) i) a b)) refl

    -- ... and a document
    pub has_document : (d : T.Doc) × (document T r (at s r) ≡ Ok d)
    has_document = let w = (agreed T L k).well_formed (at s r) (k.seen r l) in (w.document, ap (part (λ d. d) (λ f. Torn r)) w.shown)

    -- so it is shown
    pub shows : (m : Memory) → enough T m ≡ Ok tt → (d : T.Doc) → replay (patches T) (at s r) ≡ Ok d → show T m s r ≡ Ok (d, length (at s r))
    shows m e d f = then_go _ (goes_there r l) (then_go _ e (then_go _ goes_sound (then_go _ (ap (part (λ d. d) (λ f. Torn r)) f) refl)))

  -- two repositories with one document
  pub show_the_same : Lawful T → {s t : State P} {hs ks : List (History P)} → Kept T s hs → Kept T t ks → (q r : ℕ) → q < 4 → r < 4 → (h k : History P) → at s q ≡ h → at t r ≡ k
      → SameDocument (patches T) h k → (m : Memory) → enough T m ≡ Ok tt → ShowTheSame T m s q t r
  show_the_same L k l q r a b h i e f (d, v, w) m g =
      (T.encode d, ap words (shows L k q a m g d (ap (replay (patches T)) e ∙ v)), ap words (shows L l r b m g d (ap (replay (patches T)) f ∙ w)))
    where
      words : Result (T.Doc × ℕ) (Refusal F) → Result (List ℕ) (Refusal F)
      words = part (λ x. T.encode x.0) (λ x. x)
