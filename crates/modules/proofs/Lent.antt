-- What applying leaves in the words of all modules, from what the kind below leaves in those of one.
use Rattle.std.proofs.Common.{◌≡◌, ℕ, ◌*◌, ◌<◌, true, ◌&&◌, eqb, ltb, List, ◌++◌, length, take, drop, set, Some, Result, sym, refl, ap, ◌∙◌, arith, length-drop, length-take}
use borrow.Rule.Slice.PartMut.{put_mid}
use Rattle.std.specs.List.{slice_get, flat_map}
use Rattle.std.proofs.lemmas.Bool.{and_from, eq-eqb, lt-ltb, true≢false}
use Rattle.kinds.specs.declared.answers.Failure.{Failure}
use Rattle.kinds.specs.Theory.{Theory}
use Rattle.kinds.specs.Bounded.{Applied, roomy, outcome, holding, largest, saturated}
use Rattle.kinds.specs.Laws.{Lawful}
use Rattle.kinds.specs.Parts.{failing}
use Rattle.kinds.specs.Slots.{Around}
use Rattle.kinds.proofs.Lending.{middle, put_middle, put_around, slot_end, roomy_slots, placed_outcome}
use Rattle.kinds.proofs.Slots.{step_from, step_length, slot_of_all, all_after, slot_words, slot_there}
use Rattle.modules.specs.declared.InModule.{InModule}
use Rattle.modules.specs.declared.ModuleFault.TheVariants.{the_data as ModuleFault, Inside}
use Rattle.modules.specs.Modules.{modules}
use Rattle.modules.specs.Proofs.ModuleLaws.{below}

module _ {P F : Type 0} (T : Theory P F) (l : Lawful T) (c : InModule P) (was : List ℕ) where
  abbrev m : ℕ
  m = c.«module».0

  -- what applying has to show of its answer and of what it leaves
  abbrev pub Shows : Result (Unit {0}) (Failure (ModuleFault F)) → List ℕ → Type 0
  Shows s left = record { applied : Applied (modules T) c was s left; others : Around (m * T.width) T.width was left }

  -- `all` is what the code has for the number of all words
  module _ (all : ℕ) (room : true ≡ eqb (length was) all && ltb all largest) (told : all ≡ saturated (3 * T.width)) where
    long : length was ≡ 3 * T.width
    long = (roomy_slots 3 T.width (length was) all (saturated T.width) (omega arith) room told refl).0

    few : 3 * T.width < largest
    few = (roomy_slots 3 T.width (length was) all (saturated T.width) (omega arith) room told refl).1

    width_is : (w : ℕ) → w ≡ saturated T.width → w ≡ T.width
    width_is w e = (roomy_slots 3 T.width (length was) all w (omega arith) room told e).2

    is_roomy : roomy (modules T) (length was) ≡ true
    is_roomy = and_from _ _ (eq-eqb _ _ long) (lt-ltb _ _ few)

    -- a module's words, lent
    module _ (low : m < 3) (r : Result (Unit {0}) (Failure F)) (now : List ℕ) where
      module _ (same : length now ≡ T.width) (lent : Applied T c.patch (take T.width (drop (m * T.width) was)) r now) where
        done_at : (d : List T.Doc) (x : T.Doc) → slice_get d m ≡ Some x → (modules T).fits d → was ≡ flat_map T.encode d
            → (e : List T.Doc) × (modules T).fits e × (put_mid (m * T.width) T.width was now ≡ flat_map T.encode e)
            × (outcome (modules T) c d ≡ holding (failing (Inside c.«module») r) e)
        done_at d x o f e =
            let fx = slot_of_all T.fits (step_from x x m d o) f.1 in
            let wx = l.held_in_words.filled x fx in
            let (a, b, k, i, j) = slot_words (below T l) x m d o f.1 in
            let part_is : take T.width (drop (m * T.width) was) ≡ T.encode x =
            ap (λ v. take T.width (drop (m * T.width) v)) (e ∙ i) ∙ middle a (T.encode x) b (m * T.width) T.width k wx in
            let (y, fy, w, z) = lent.done x fx part_is (ap (roomy T) (ap length part_is ∙ wx) ∙ and_from _ _ (eq-eqb T.width T.width refl) (lt-ltb _ _ (omega (arith, few)))) in (
              set d m y,
              (step_length (step_from x y m d o) ∙ f.0, all_after T.fits (step_from x y m d o) fy f.1),
              ap (λ v. put_mid (m * T.width) T.width v now) (e ∙ i) ∙ put_middle a (T.encode x) b now (m * T.width) T.width k wx
                  ∙ ap (λ v. a ++ (v ++ b)) w ∙ sym (j y),
              rw o (placed_outcome (set d m) (Inside c.«module») (T.full c.patch x) (T.apply c.patch x) r y z),
            )

        shows : Shows (failing (Inside c.«module») r) (put_mid (m * T.width) T.width was now)
        shows = record {
          applied = record {
            refused = λ e. absurd (true≢false (sym is_roomy ∙ e));
            done = λ d f e _. let s = slot_there m d (omega (arith, f.0)) in done_at d s.0 s.1 f e;
          };
          others = put_around was now (m * T.width) T.width (omega (arith, slot_end m 3 T.width low, long)) same;
        }

      -- the same, where the code has w for the width
      pub module_lent : (w k : ℕ) (s : Result (Unit {0}) (Failure (ModuleFault F))) → w ≡ saturated T.width → k ≡ w → s ≡ failing (Inside c.«module») r
          → length now ≡ length (take k (drop (m * w) was)) → Applied T c.patch (take k (drop (m * w) was)) r now → Shows s (put_mid (m * w) k was now)
      module_lent w k s e f i = rw (f, width_is w e, i) (λ same. shows (same ∙ part_length))
        where
          part_length : length (take T.width (drop (m * T.width) was)) ≡ T.width
          part_length = simp (length-take, length-drop) (omega (arith, slot_end m 3 T.width low, long))
