-- Patches under names keep the laws.
use Rattle.std.proofs.Common.{◌≡◌, Some, sym, refl, ap, ◌∙◌}
use Rattle.kinds.specs.Theory.{Theory}
use Rattle.kinds.specs.Laws.{Commutes, Undo, SwapBack, Turning, FrontFirst, BackFirst, Lawful}
use Rattle.kinds.specs.Sequences.{sequences}
use Rattle.kinds.specs.Restricted.{restricted}
use Rattle.kinds.proofs.Halves.{three_from_front}
use Rattle.kinds.proofs.Parts.{both_some}
use Rattle.kinds.proofs.Sequences.{inverses_length, commuted_lengths, sequences_lawful}
use Rattle.kinds.proofs.Restricted.{Part, restricted_lawful}
use Rattle.histories.specs.declared.named.Named.{Named}
use Rattle.histories.specs.Named.{under, named, one_to_eight, patches}

module _ {X F : Type 0} (T : Theory X F) where
  abbrev N : Theory (Named X) F
  N = named T

  open N use {invert}

  -- two commuted patches: what they do, and their names
  pub down : (p q q' p' : Named X) → Commutes N p q q' p' → Commutes T p.changes q.changes q'.changes p'.changes
  down p q q' p' h =
      let (r, c, k, l) = both_some (under q.name) (under p.name) (T.commute p.changes q.changes) q' p' h in
      c ∙ λ i. Some ((k i).changes, (l i).changes)

  pub names_kept : (p q q' p' : Named X) → Commutes N p q q' p' → (q'.name ≡ q.name) × (p'.name ≡ p.name)
  names_kept p q q' p' h =
      let (r, c, k, l) = both_some (under q.name) (under p.name) (T.commute p.changes q.changes) q' p' h in
      (sym (λ i. (k i).name), sym (λ i. (l i).name))

  up : (p q q' p' : Named X) → Commutes T p.changes q.changes q'.changes p'.changes → (q'.name ≡ q.name) × (p'.name ≡ p.name) → Commutes N p q q' p'
  up p q q' p' h (k, l) = rw h (λ i. Some (under (sym k i) q'.changes, under (sym l i) p'.changes))

  module _ (L : Lawful T) where
    undo : Undo N
    undo = record { takes_back = λ p. L.undo.takes_back p.changes; twice = λ p. ap (under p.name) (L.undo.twice p.changes) }

    back : SwapBack N
    back p q q' p' h = let (k, l) = names_kept p q q' p' h in up q' p' p q (L.swap_back _ _ _ _ (down p q q' p' h)) (sym l, sym k)

    turn : Turning N
    turn p q q' p' h = let (k, l) = names_kept p q q' p' h in up (invert p) q' q (invert p') (L.turning _ _ _ _ (down p q q' p' h)) (sym k, l)

    front : (p q r r2 q2 p2 : Named X) → FrontFirst N p q r r2 q2 p2 → BackFirst N p q r r2 q2 p2
    front p q r r2 q2 p2 (q1, p1, r1, h, k, l) =
        let (s, t, u, x, y, z) = (L.three _ _ _ _ _ _).0 (_, _, _, down p q q1 p1 h, down p1 r r1 p2 k, down q1 r1 r2 q2 l) in
        let (a, b) = names_kept p q q1 p1 h in
        let (c, d) = names_kept p1 r r1 p2 k in
        let (e, f) = names_kept q1 r1 r2 q2 l in (
          under r.name s,
          under q.name t,
          under p.name u,
          up q r (under r.name s) (under q.name t) x (refl, refl),
          up p (under r.name s) r2 (under p.name u) y (e ∙ c, refl),
          up (under p.name u) (under q.name t) q2 p2 z (f ∙ a, d ∙ b),
        )

    pub named_lawful : Lawful N
    named_lawful = record {
      undo = undo;
      swap_back = back;
      same_effect = λ p q q' p' h. L.same_effect _ _ _ _ (down p q q' p' h);
      turning = turn;
      three = three_from_front N undo back turn front;
      grows = record {
        keeps = λ p q q' p' h. L.grows.keeps _ _ _ _ (down p q q' p' h);
        bounds = λ p. L.grows.bounds p.changes;
      };
      reach = record {
        in_turn = λ p q. L.reach.in_turn p.changes q.changes;
        each = λ p q. L.reach.each p.changes q.changes;
      };
      stays_written = record {
        inverted = λ p. L.stays_written.inverted p.changes;
        commuted = λ p q q' p' h. L.stays_written.commuted _ _ _ _ (down p q q' p' h);
      };
      held_in_words = record {
        starts = L.held_in_words.starts;
        tells_fresh = L.held_in_words.tells_fresh;
        stays = λ p. L.held_in_words.stays p.changes;
        room = λ p. L.held_in_words.room p.changes;
        filled = L.held_in_words.filled;
        apart = L.held_in_words.apart;
      };
    }

module _ {P F : Type 0} (T : Theory P F) where
  -- as many changes are one to eight too
  short : Part (sequences T) (λ c. c) Some one_to_eight
  short = record {
    read_shown = λ c. refl;
    inverts_in = λ c. refl;
    commutes_in = λ p q b a h. (b, a, refl, refl);
    within_inverted = λ c w. rw (inverses_length T c) w;
    within_commuted = λ p q q' p' h v w. let (k, l) = commuted_lengths T p q q' p' h in (rw k w, rw l v);
  }

  pub patches_lawful : Lawful T → Lawful (patches T)
  patches_lawful L = named_lawful (restricted (sequences T) (λ c. c) Some one_to_eight)
      (restricted_lawful (sequences T) (λ c. c) Some one_to_eight short (sequences_lawful T L))
