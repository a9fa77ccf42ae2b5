-- A patch that is pulled, and taken back.
use Rattle.std.proofs.Common.{◌≡◌, ℕ, ◌+◌, ◌<◌, ◌≤◌, not, eqb, List, [], ◌∷◌, ◌++◌, length, Some, Ok, sym, ap, ◌∙◌, subst, arith}
use Rattle.std.proofs.lemmas.List.{set-set, set-get_or}
use Rattle.std.proofs.lemmas.Bool.{not-true}
use Rattle.kinds.specs.Theory.{Theory}
use Rattle.kinds.specs.Laws.{Lawful}
use Rattle.kinds.specs.Parts.{part}
use Rattle.histories.specs.declared.named.Named.{Named}
use Rattle.histories.specs.Named.{patches}
use Rattle.histories.specs.History.{Block, holds, missing, block, gathered, merged}
use Rattle.histories.specs.Runs.{Seen, newest, Pull, pulled}
use Rattle.histories.proofs.Names.{in_head, in_right, holds_of_in}
use Rattle.histories.proofs.Stops.{the_ok}
use Rattle.histories.specs.Flat.{flat}
use Rattle.forms.specs.Find.{Standing, standing}
use Rattle.shop.specs.declared.refusal.Refusal.{Refusal}
use Rattle.shop.specs.declared.refusal.Refusal.TheVariants.{SameRepository, AlreadyHeld, Lacking, Torn}
use Rattle.shop.specs.State.{History, State, at, with_history}
use Rattle.shop.specs.Calls.{Memory, or_refused, refused_if_some, in_shop, enough, or_not_held, room_for, clashes_with, unrecord, pull}
use Rattle.shop.proofs.Chains.{accepted, past, retold, then_go, test_holds, none_there}
use Rattle.shop.proofs.Forming.{by_name, numbered_more}
use Rattle.forms.proofs.Finding.{StandsIn, stands_in, finds}
use Rattle.shop.proofs.Counting.{few_more, block_changes, merged_changes}
use Rattle.shop.proofs.Invariant.{Kept, agreed, given, one_more}
use Rattle.shop.proofs.Showing.{there_is, goes_sound}
use Rattle.shop.proofs.Recording.{has_room}
use Rattle.shop.proofs.TakingOut.{was_held, takes_out}

-- the patch n of the giver g was merged into the taker t, where it is z
pub record Pulled {P F : Type 0} (T : Theory P F) (m : Memory) (s : State P) (t g n : ℕ) (z : Named (List P)) : Type 0 where
  pub taker : t < 4
  pub giver : g < 4
  pub memory : enough T m ≡ Ok tt
  pub place : Standing (Named (List P))
  pub found : StandsIn by_name (at s g) n place
  pub needed : Block (Named (List P))
  pub front : History P
  pub others : History P
  pub pulls : Pull (patches T) by_name (at s t) place.before place.itself needed front others
  pub merges : merged (patches T) by_name others needed.itself ≡ Ok z
  pub patches_left : length (at s t) + 1 ≤ 40
  pub changes_left : length (flat (at s t)) + length place.itself.changes ≤ 160

-- the patch can be pulled where the tests up to its merge hold
pub tested : {P F : Type 0} (T : Theory P F) (s : State P) (t g n : ℕ) (w : Standing (Named (List P))) → StandsIn by_name (at s g) n w
    → (j : Unit {0}) → or_refused {F = F} (not (holds by_name (at s t) n)) AlreadyHeld ≡ Ok j
    → (b : Block (Named (List P))) → part {G = Refusal F} (λ b. b) (λ x. Torn g) (block (patches T) by_name w.before w.itself) ≡ Ok b
    → (y : Unit {0}) → refused_if_some T (λ v. Lacking v.name) (missing by_name b.needs (at s t)) ≡ Ok y
    → (q : Unit {0}) → room_for T (at s t) w.itself ≡ Ok q
    → (parts : History P × History P) → part {G = Refusal F} (λ x. x) (λ x. Torn t) (gathered (patches T) by_name b.needs [] (at s t)) ≡ Ok parts
    → Pull (patches T) by_name (at s t) w.before w.itself b parts.0 parts.1
tested T s t g n w there j f b o y p q r parts h = record {
  lacked = ap (holds by_name (at s t)) there.has_name ∙ not-true _ (test_holds _ AlreadyHeld j f);
  found = retold (λ x. Torn g) (block (patches T) by_name w.before w.itself) b o;
  held = none_there T (λ (v : Named _). Lacking v.name) (missing by_name b.needs (at s t)) y p;
  front = retold (λ x. Torn t) (gathered (patches T) by_name b.needs [] (at s t)) parts h;
  room = (has_room T (at s t) w.itself q r).2;
}

module _ {P F : Type 0} (T : Theory P F) (L : Lawful T) {s : State P} {hs : List (History P)} (k : Kept T s hs) (m : Memory) (t g n : ℕ) where
  -- what an accepted pull tells
  pub was_pulled : (x : State P × ℕ) → pull T m s t g n ≡ Ok x → (z : Named (List P)) × Pulled T m s t g n z × ((with_history s t (at s t ++ z ∷ []), length (at s t) + 1) ≡ x)
  was_pulled x e =
      accepted (in_shop T t) e λ u a e.
      accepted (in_shop T g) e λ v b e.
      accepted (or_refused (not (eqb t g)) SameRepository) e λ _ _ e.
      accepted (enough T m) e λ i c e.
      let l = there_is T t u a in
      let l' = there_is T g v b in
      accepted (or_not_held T (standing by_name (at s g) n)) (past _ (goes_sound T L k g l') (past _ (goes_sound T L k t l) e)) λ w d e.
      accepted (or_refused (not (holds by_name (at s t) n)) AlreadyHeld) e λ j f e.
      accepted (part (λ b. b) (λ x. Torn g) (block (patches T) by_name w.before w.itself)) e λ b o e.
      accepted (refused_if_some T (λ v. Lacking v.name) (missing by_name b.needs (at s t))) e λ y p e.
      accepted (room_for T (at s t) w.itself) e λ q r e.
      accepted (part (λ x. x) (λ x. Torn t) (gathered (patches T) by_name b.needs [] (at s t))) e λ parts h e.
      accepted (part (λ z. z) (clashes_with T t) (merged (patches T) by_name parts.1 b.itself)) e λ z j' e.
      let (fit, fit', _) = has_room T (at s t) w.itself q r in
      let there = stands_in by_name (at s g) n w (was_held T (standing by_name (at s g) n) w d) in (
        z,
        record {
          taker = l;
          giver = l';
          memory = c;
          place = w;
          found = there;
          needed = b;
          front = parts.0;
          others = parts.1;
          pulls = tested T s t g n w there j f b o y p q r parts h;
          merges = retold (clashes_with T t) (merged (patches T) by_name parts.1 b.itself) z j';
          patches_left = fit;
          changes_left = fit';
        },
        the_ok e,
      )

  module _ (z : Named (List P)) (p : Pulled T m s t g n z) where
    -- the giver's history, and the name of what is merged
    giver_seen : Seen (p.place.before ++ p.place.itself ∷ p.place.behind) hs
    giver_seen = subst (λ y. Seen y hs) p.found.parts (k.seen g p.giver)

    keeps_name : z.name ≡ n
    keeps_name =
        (agreed T L k).keeps_name (at s t) p.place.before p.place.itself p.place.behind p.needed p.front p.others z (k.seen t p.taker) giver_seen p.pulls p.merges
        ∙ p.found.has_name

    -- the state in which the taker holds it
    abbrev u : State P
    u = with_history s t (at s t ++ z ∷ [])

    pub taker_kept : Kept T u ((at s t ++ z ∷ []) ∷ hs)
    taker_kept =
        let i = k.seen t p.taker in
        let run = pulled p.place.before p.place.itself p.place.behind p.needed p.front p.others z k.run i giver_seen p.pulls p.merges in
        let (a, b) = k.numbered _ giver_seen n (in_right p.place.before (in_head p.found.has_name)) in
        let c = merged_changes T p.others p.needed.itself z p.merges in
        let d = block_changes T p.place.before p.place.itself p.needed p.pulls.found in
        let e = keeps_name in
        let f = p.changes_left in
        one_more T k t (at s t ++ z ∷ []) s.counter p.taker run (omega arith) (numbered_more s.counter (at s t) z (k.numbered (at s t) i) (omega arith) (omega arith))
        (few_more (at s t) z p.patches_left (omega arith))

    -- the taker's history then, and the state without it
    here : at u t ≡ at s t ++ z ∷ []
    here = given T k t (at s t ++ z ∷ []) p.taker

    back : with_history u t (at s t) ≡ s
    back = ap (λ (y : List (History P)). record { histories = y; counter = s.counter }) (set-set s.histories t (at s t ++ z ∷ []) (at s t) ∙ set-get_or s.histories t [])

    -- to unrecord it leaves the state as it was
    pub taken_back : unrecord T m u t n ≡ Ok (s, length (at s t))
    taken_back = let (w, f) = finds by_name (at u t) n (ap (λ y. holds by_name y n) here ∙ holds_of_in (in_right (at s t) (in_head keeps_name))) in from w f
      where
        from : (w : Standing (Named (List P))) → standing by_name (at u t) n ≡ Some w → unrecord T m u t n ≡ Ok (s, length (at s t))
        from w f =
            let there = stands_in by_name (at u t) n w f in
            let (a, b) = (agreed T L taker_kept).takes_back (at s t) z newest w.before w.itself w.behind (sym here ∙ there.parts) (there.has_name ∙ sym keeps_name) in
            then_go _ (takes_out T L taker_kept m t n p.taker p.memory w f ([], z) a) (ap (λ y. Ok (with_history u t y, length y)) b ∙ ap (λ y. Ok (y, length (at s t))) back)
