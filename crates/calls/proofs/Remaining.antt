-- What is left of a history without a patch that was taken out, and the patch.
use Rattle.std.proofs.Common.{◌≡◌, ℕ, ◌<◌, ◌≤◌, true, List, [], ◌∷◌, ◌++◌, length, Some, Ok, subst, arith}
use Rattle.kinds.specs.Theory.{Theory}
use Rattle.kinds.specs.Laws.{Lawful}
use Rattle.kinds.specs.Parts.{part}
use Rattle.kinds.specs.Sequences.{sequences}
use Rattle.kinds.specs.Restricted.{restricted}
use Rattle.histories.specs.declared.named.Named.{Named}
use Rattle.histories.specs.Named.{one_to_eight, patches}
use Rattle.histories.specs.History.{commuted_at, passed}
use Rattle.histories.specs.Proofs.NamedLaws.{names_kept, patches_lawful}
use Rattle.histories.proofs.Names.{Distinct, distinct_left, not_held, in_one_place}
use Rattle.histories.proofs.Rearranging.{stays_distinct}
use Rattle.histories.proofs.Setting.{Setting}
use Rattle.histories.proofs.Stops.{the_ok, commuted_ok}
use Rattle.histories.proofs.ToEnd.{passed_last}
use Rattle.histories.specs.Flat.{flat, ToldApart}
use Rattle.forms.specs.Form.{apart, sound, most_changes}
use Rattle.forms.specs.Find.{standing}
use Rattle.forms.proofs.Apart.{AllSome, apart_distinct, once_apart, apart_told, written_some}
use Rattle.forms.proofs.Finding.{stands_in}
use Rattle.forms.proofs.SoundParts.{sound_parts}
use Rattle.shop.specs.declared.refusal.Refusal.TheVariants.{Torn}
use Rattle.shop.specs.State.{History, State, at}
use Rattle.shop.specs.Calls.{Memory, or_refused, in_shop, enough, sound_at, or_not_held, needed_by, taken_out}
use Rattle.shop.proofs.Chains.{accepted, retold, test_holds}
use Rattle.shop.proofs.Counting.{commuted_counts, few_passed}
use Rattle.shop.proofs.Forming.{by_name}
use Rattle.shop.proofs.Showing.{there_is}
use Rattle.shop.proofs.TakingOut.{was_held}

-- each patch has changes, of two parts of a history
some_parts : {P : Type 0} (g h : History P) → AllSome (g ++ h) → AllSome g × AllSome h
some_parts [] h a = (tt, a)
some_parts (p ∷ g) h a = let (b, c) = some_parts g h a.1 in ((a.0, b), c)

some_join : {P : Type 0} (g h : History P) → AllSome g → AllSome h → AllSome (g ++ h)
some_join [] h a b = b
some_join (p ∷ g) h a b = (a.0, some_join g h a.1 b)

-- what an accepted call tells, where h is left of the history and `last` is the patch
pub record Remains {P F : Type 0} (T : Theory P F) (m : Memory) (s : State P) (r : ℕ) (h : History P) (last : Named (List P)) : Type 0 where
  pub there : r < 4
  pub memory : enough T m ≡ Ok tt
  pub formed : sound T s.counter (at s r) ≡ true
  pub told : ToldApart h
  pub short : length (flat h) ≤ most_changes
  pub some : 0 < length last.changes

module _ {P F : Type 0} (T : Theory P F) where
  -- a patch that is passed over others has changes then, and so have the others
  abbrev BothSome : History P × Named (List P) → Type 0
  BothSome x = AllSome x.0 × (0 < length x.1.changes)

  passed_some : (p : Named (List P)) (qs : History P) (x : History P × Named (List P)) → passed (patches T) by_name p qs ≡ Ok x → 0 < length p.changes → AllSome qs → BothSome x
  passed_some p [] x e a b = subst BothSome (the_ok e) (tt, a)
  passed_some p (q ∷ qs) x e a b =
      accepted (commuted_at (patches T) by_name q p q) e λ t c f.
      accepted (passed (patches T) by_name t.1 qs) f λ u d g.
      let (_, k) = commuted_ok (patches T) by_name q p q t c in
      let (l, m) = commuted_counts T p q t.0 t.1 k in
      let v = b.0 in
      let (i, j) = passed_some t.1 qs u d (omega arith) b.1 in
      subst BothSome (the_ok g) ((omega arith, i), j)

  module _ (L : Lawful T) where
    setting : Setting (patches T) by_name
    setting = record { lawful = patches_lawful T L; names_kept = names_kept (restricted (sequences T) (λ c. c) Some one_to_eight) }

    -- no name stands twice in what is left
    left_apart : (ps : History P) (p : Named (List P)) (qs rest : History P) (last : Named (List P)) → passed (patches T) by_name p qs ≡ Ok (rest, last)
        → apart by_name (ps ++ p ∷ qs) ≡ true → apart by_name (ps ++ rest) ≡ true
    left_apart ps p qs rest last e a =
        let d = distinct_left (ps ++ rest) (last ∷ []) (stays_distinct setting (passed_last setting ps p qs rest last e) (apart_distinct by_name (ps ++ p ∷ qs) a)) in
        once_apart by_name (ps ++ rest) (λ xs x ys parts. not_held x.name (xs ++ ys) (in_one_place xs x ys (subst (Distinct by_name) parts d)))

    module _ (m : Memory) (s : State P) (r n : ℕ) where
      from : (h : History P) → sound T s.counter h ≡ true → (ps : History P) (p : Named (List P)) (qs : History P) → h ≡ ps ++ p ∷ qs → (x : History P × Named (List P))
          → passed (patches T) by_name p qs ≡ Ok x → ToldApart (ps ++ x.0) × (length (flat (ps ++ x.0)) ≤ most_changes) × (0 < length x.1.changes)
      from h b ps p qs e x f =
          let k = sound_parts T s.counter h b in
          let (i, j) = some_parts ps (p ∷ qs) (subst AllSome e (written_some T h k.writable)) in
          let (u, v) = passed_some p qs x f j.0 j.1 in
          let (_, w) = few_passed T ps p qs x.0 x.1 f (subst (λ z. (length z ≤ 40) × (length (flat z) ≤ 160)) e (k.patch_limit, k.change_limit)) in
          (apart_told (ps ++ x.0) (left_apart ps p qs x.0 x.1 f (subst (λ z. apart by_name z ≡ true) e k.distinct)) (some_join ps x.0 i u), w, v)

      pub remains : (x : History P × Named (List P)) → taken_out T m s r n ≡ Ok x → Remains T m s r x.0 x.1
      remains x e =
          accepted (in_shop T r) e λ u a e.
          accepted (enough T m) e λ v b e.
          accepted (sound_at T s r) e λ h c e.
          accepted (or_refused (sound T s.counter (at s r)) (Torn r)) c λ o right same.
          accepted (or_not_held T (standing by_name h n)) e λ w d e.
          accepted (part (λ x. x) (needed_by T r) (passed (patches T) by_name w.itself w.behind)) e λ y f e.
          let formed = test_holds (sound T s.counter (at s r)) (Torn r) o right in
          let here = the_ok same in
          let parts = (stands_in by_name h n w (was_held T (standing by_name h n) w d)).parts in
          let (i, j, k) = from h (subst (λ z. sound T s.counter z ≡ true) here formed) w.before w.itself w.behind parts y (retold (needed_by T r) _ y f) in
          subst (λ (z : History P × Named (List P)). Remains T m s r z.0 z.1) (the_ok e) (record { there = there_is T r u a; memory = b; formed = formed; told = i; short = j; some = k })
