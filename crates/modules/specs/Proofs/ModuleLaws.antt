-- Modules keep the laws if the kind below does.
use Rattle.std.proofs.Common.{◌≡◌, ◌+◌, ◌≤◌, Bool, true, false, cond, ltb, List, set, Some, None, Ok, Option, Result, sym, refl, ap, ◌∙◌, subst, ⊎_elim, arith}
use Rattle.std.specs.List.{slice_get}
use Rattle.std.proofs.lemmas.Bool.{and_parts, and_from, eqb-true, eqb-false, eq-eqb, ne_eqb, cases_eq}
use Rattle.kinds.specs.Theory.{Theory}
use Rattle.kinds.specs.Laws.{Takes, Then, Commutes, Undo, SwapBack, BackFirst, Lawful, most}
use Rattle.kinds.specs.Parts.{both, part}
use Rattle.kinds.specs.Slots.{passing}
use Rattle.kinds.proofs.Cases.{err_ok}
use Rattle.kinds.proofs.Parts.{pair_of, both_some, part_ok}
use Rattle.kinds.proofs.Halves.{undo_from_forward, both_ways, three_from_front}
use Rattle.kinds.proofs.Slots.{Step, step_from, step_reads, step_sets, step_length, slot_of_all, all_after, slot_size, Holds, slots_hold}
use Rattle.kinds.proofs.Placed as placed
use Rattle.kinds.proofs.Placed.{Placed, one, apart, Makes, makes}
use Rattle.modules.specs.declared.Module.{Module}
use Rattle.modules.specs.declared.InModule.{InModule}
use Rattle.modules.specs.declared.ModuleFault.TheVariants.{the_data as ModuleFault, Inside}
use Rattle.modules.specs.Modules.{same_module, within, there, modules}

there_ok : {D E F : Type 0} (m : Module) (f : D → Result E (ModuleFault F)) (o : Option D) (e : E) → there m f o ≡ Ok e → (x : D) × (o ≡ Some x) × (f x ≡ Ok e)
there_ok m f None e h = err_ok h
there_ok m f (Some x) e h = (x, refl, h)

module _ {P F : Type 0} (T : Theory P F) (l : Lawful T) where
  abbrev M : Theory (InModule P) (ModuleFault F)
  M = modules T

  abbrev D : Type 0
  D = T.Doc

  -- commuting, by the modules and the patches in them
  data Passes : InModule P → InModule P → InModule P → InModule P → Type 0 where
    passes : {m n : Module} {p q q' p' : P} → Placed T m.0 n.0 p q q' p' → Passes (within m p) (within n q) (within n q') (within m p')

  passes_from : (c d d' c' : InModule P) → Commutes M c d d' c' → Passes c d d' c'
  passes_from c d d' c' h = by (same_module c.«module» d.«module») refl h
    where
      by : (b : Bool) → same_module c.«module» d.«module» ≡ b
          → cond b (both (within d.«module») (within c.«module») (T.commute c.patch d.patch)) (Some (d, c)) ≡ Some (d', c') → Passes c d d' c'
      by true e k =
          let (r, s, a, b) = both_some (within d.«module») (within c.«module») (T.commute c.patch d.patch) d' c' k in
          subst (λ (z : InModule P). Passes c d z c') a (subst (λ (z : InModule P). Passes c d (within d.«module» r.0) z) b (passes (one (eqb-true _ _ e) s)))
      by false e k =
          let (a, b) = pair_of k in
          subst (λ (z : InModule P). Passes c d z c') a (subst (λ (z : InModule P). Passes c d d z) b (passes (apart (eqb-false _ _ e))))

  commutes : {c d d' c' : InModule P} → Passes c d d' c' → Commutes M c d d' c'
  commutes (passes {m} {n} (one e h)) = rw (eq-eqb m.0 n.0 e) (ap (both (within n) (within m)) h)
  commutes (passes {m} {n} (apart ne)) = rw (ne_eqb m.0 n.0 ne)

  -- applying, by the step that it makes
  abbrev Does : InModule P → List D → List D → Type 0
  Does c = Makes T {X = D} (λ x. x) c.«module».0 c.patch

  does : (c : InModule P) (d e : List D) → Takes M c d e → Does c d e
  does c d e h =
      let (x, o, k) = there_ok c.«module» (λ x. part (set d c.«module».0) (Inside c.«module») (T.apply c.patch x)) (slice_get d c.«module».0) e h in
      let (y, t, s) = part_ok (set d c.«module».0) (Inside c.«module») (T.apply c.patch x) e k in
      makes x y t (subst (λ (z : List D). Step x y c.«module».0 d z) s (step_from x y c.«module».0 d o))

  takes : (c : InModule P) (d e : List D) → Does c d e → Takes M c d e
  takes c d e (makes x y t s) =
      ap (there c.«module» (λ x. part (set d c.«module».0) (Inside c.«module») (T.apply c.patch x))) (step_reads s)
      ∙ ap (part (set d c.«module».0) (Inside c.«module»)) t ∙ ap Ok (sym (step_sets s))

  undoing : Undo M
  undoing = undo_from_forward M (λ c d e h. takes (M.invert c) e d (placed.makes_back T l (λ x. x) (λ _ _ k. k) (does c d e h)))
      (λ c. ap (within c.«module») (l.undo.twice c.patch))

  backing : SwapBack M
  backing c d d' c' h = turn (passes_from c d d' c' h)
    where
      turn : {c d d' c' : InModule P} → Passes c d d' c' → Commutes M d' c' c d
      turn (passes h) = commutes (passes (placed.placed_back T l h))

  turning : {c d d' c' : InModule P} → Passes c d d' c' → Commutes M (M.invert c) d' d (M.invert c')
  turning (passes h) = commutes (passes (placed.placed_turn T l h))

  forward : {c d d' c' : InModule P} {x y z : List D} → Passes c d d' c' → Does c x y → Does d y z → Then M d' c' x z
  forward (passes h) a b =
      let (v, i, j) = placed.placed_forward T l (λ x. x) (λ _ _ k. k) h a b in (v, takes _ _ _ i, takes _ _ _ j)

  front : {p q q1 p1 r r1 p2 r2 q2 : InModule P} → Passes p q q1 p1 → Passes p1 r r1 p2 → Passes q1 r1 r2 q2 → BackFirst M p q r r2 q2 p2
  front (passes h) (passes i) (passes j) =
      let t = placed.placed_three T l h i j in (_, _, _, commutes (passes t.3), commutes (passes t.4), commutes (passes t.5))

  keeps : {c d d' c' : InModule P} → Passes c d d' c' → (M.growth d' ≡ M.growth d) × (M.growth c' ≡ M.growth c)
  keeps (passes h) = placed.placed_keeps T l h

  -- too far only at one module
  near : (c d : InModule P) → (c.«module».0 ≡ d.«module».0 → T.far c.patch d.patch ≡ false) → M.far c d ≡ false
  near c d f = ⊎_elim (λ e. rw (eq-eqb c.«module».0 d.«module».0 e) (f e)) (λ ne. rw (ne_eqb c.«module».0 d.«module».0 ne))
      (cases_eq c.«module».0 d.«module».0)

  commuted : {c d d' c' : InModule P} → Passes c d d' c' → M.far c d ≡ false → M.written c ≡ true → M.written d ≡ true → (M.written d' ≡ true) × (M.written c' ≡ true)
  commuted (passes {m} {n} {p} {q} (one e h)) f v w =
      let (a, b) = and_parts (ltb m.0 3) (T.written p) v in
      let (i, j) = and_parts (ltb n.0 3) (T.written q) w in
      let (s, t) = l.stays_written.commuted _ _ _ _ h (rw (eq-eqb m.0 n.0 e) at f) b j in
      (and_from _ _ i s, and_from _ _ a t)
  commuted (passes (apart ne)) f v w = (w, v)

  inverted : (c : InModule P) → M.written c ≡ true → M.written (M.invert c) ≡ true
  inverted c w =
      let (a, b) = and_parts (ltb c.«module».0 3) (T.written c.patch) w in
      and_from _ _ a (l.stays_written.inverted c.patch b)

  stays : (c : InModule P) (d e : List D) → Does c d e → M.written c ≡ true → M.fits d → M.full c d ≡ false → M.fits e
  stays c d e (makes x y t s) w f k = (
    step_length s ∙ f.0,
    all_after T.fits s (l.held_in_words.stays c.patch x y (and_parts (ltb c.«module».0 3) (T.written c.patch) w).1
        (slot_of_all T.fits s f.1) (sym (ap (passing (T.full c.patch)) (step_reads s)) ∙ k) t) f.1,
  )

  room : (c : InModule P) (d : List D) → M.size d + M.growth c ≤ most → M.full c d ≡ false
  room c d k = at (slice_get d c.«module».0) refl
    where
      at : (o : Option D) → slice_get d c.«module».0 ≡ o → passing (T.full c.patch) (slice_get d c.«module».0) ≡ false
      at None e = rw e
      at (Some x) e = rw e (l.held_in_words.room c.patch x (omega (arith, slot_size T.size (step_from x x c.«module».0 d e))))

  -- what one module holds
  pub below : Holds T.fresh T.blank T.size T.fits T.width T.encode
  below = record { starts = l.held_in_words.starts; tells_fresh = l.held_in_words.tells_fresh; filled = l.held_in_words.filled; apart = l.held_in_words.apart }

  pub modules_lawful : Lawful M
  modules_lawful = record {
    undo = undoing;
    swap_back = backing;
    same_effect = both_ways M backing (λ p q q' p' h d e t. forward (passes_from p q q' p' h) (does p d t.0 t.1) (does q t.0 e t.2));
    turning = λ p q q' p' h. turning (passes_from p q q' p' h);
    three = three_from_front M undoing backing (λ p q q' p' h. turning (passes_from p q q' p' h))
        (λ p q r r2 q2 p2 t. front (passes_from p q t.0 t.1 t.3) (passes_from t.1 r t.2 p2 t.4) (passes_from t.0 t.2 r2 q2 t.5));
    grows = record {
      keeps = λ p q q' p' h. keeps (passes_from p q q' p' h);
      bounds = λ p d e h. placed.makes_bounds T l (λ x. x) (λ _ _ k. k) T.size (λ _. refl) (does p d e h);
    };
    reach = record {
      in_turn = λ p q d e t k. near p q (λ m. placed.placed_in_turn T l (λ x. x) (λ _ _ k. k) T.size (λ _. refl) m (does p d t.0 t.1) (does q t.0 e t.2) k);
      each = λ p q d m e a b k. near (M.invert p) q (λ n. placed.placed_each T l (λ x. x) (λ _ _ k. k) T.size (λ _. refl) n (does p d m a) (does q d e b) k);
    };
    stays_written = record { inverted = inverted; commuted = λ p q q' p' h. commuted (passes_from p q q' p' h) };
    held_in_words = record {
      starts = (slots_hold below 3).starts;
      tells_fresh = (slots_hold below 3).tells_fresh;
      stays = λ p d e w f k h. stays p d e (does p d e h) w f k;
      room = room;
      filled = (slots_hold below 3).filled;
      apart = (slots_hold below 3).apart;
    };
  }
