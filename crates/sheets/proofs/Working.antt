-- What each change leaves in the words of the sheets.
use Rattle.std.proofs.Common.{◌≡◌, ℕ, ◌+◌, ◌*◌, ◌<◌, ◌≤◌, Bool, true, false, eqb, ltb, List, [], ◌∷◌, ◌++◌, length, get_or, take, drop, set, replicate, Some, None, Ok, Err, Decides, Option, Result, sym, refl, ap, ◌∙◌, subst, ⊎_elim, append_assoc, one-add, arith, length-append, length-drop, length-take}
use lib.Seq.{paste}
use borrow.Rule.Slice.PartMut.{put_mid}
use Rattle.std.specs.List.{slice_get, list_all}
use Rattle.std.proofs.ByRecursion.{All-set}
use Rattle.std.proofs.lemmas.List.{length-set, get_or_at, set_at, set_comm, take-set-le, drop-set-lt, drop-drop, length-replicate, length-take-le, take-replicate}
use Rattle.std.proofs.lemmas.List.Edits.{length-paste}
use Rattle.std.proofs.lemmas.Option.{slice_get_past}
use Rattle.std.proofs.lemmas.Bool.{and_from, and_parts, or_parts, eq-eqb, eqb-true, eqb-false, lt-ltb, le-ltb, cases_lt, cond-false, true≢false}
use Rattle.std.proofs.lemmas.Bool.Decides.{same_from_decides}
use Rattle.kinds.specs.declared.answers.Failure.{Failure}
use Rattle.kinds.specs.declared.answers.Failure.TheVariants.{Fault}
use Rattle.kinds.specs.Theory.{Theory}
use Rattle.kinds.specs.Bounded.{Applied, roomy, outcome, holding, done_or_fault, largest}
use Rattle.kinds.specs.Laws.{Lawful}
use Rattle.kinds.specs.Parts.{part, failing}
use Rattle.kinds.specs.Slots.{passing, Around}
use Rattle.kinds.proofs.Cases.{some_one, none_some, err_ok}
use Rattle.kinds.proofs.Lending.{middle, put_middle, put_around, around_wider, other_words, slot_end, placed_outcome}
use Rattle.kinds.proofs.Slots.{step_from, step_reads, step_back, steps_apart, slot_of_all, Holds, slot_words, slot_there}
use Rattle.sheets.specs.declared.Sheet.{Sheet}
use Rattle.sheets.specs.declared.SheetChange.TheVariants.{the_data as SheetChange, Create, Remove, Move, Inside}
use Rattle.sheets.specs.declared.SheetFault.TheVariants.{the_data as SheetFault, NotFresh, Inside as InSheet}
use Rattle.sheets.specs.Sheets.{if_there, if_absent, sheet_size, sheet_fits, sheet_encode, absent, sheets, touches, Others, told, there_at, absent_at, moved_words, FourSheets, Worked}
use Rattle.sheets.specs.Proofs.SheetLaws.{sheet_holds}

-- all words are zero just if they are that many zeros
zeros_tell : (v : List ℕ) → Decides (list_all (λ x. eqb x 0) v) (v ≡ replicate (length v) 0)
zeros_tell [] = (λ _. refl, λ _. refl)
zeros_tell (x ∷ v) = (
  λ h. let (a, b) = and_parts (eqb x 0) (list_all (λ x. eqb x 0) v) h in let e = eqb-true x 0 a in let f = (zeros_tell v).0 b in (λ i. e i ∷ f i),
  λ e. and_from _ _ (eq-eqb x 0 (ap (λ u. get_or u 0 0) e)) ((zeros_tell v).1 (ap (drop 1) e)),
)

-- What is copied to a place is what is written there.
paste_put : (run v : List ℕ) (at n : ℕ) → paste run at v n ≡ put_mid at n run (take n v)
paste_put run v at n = append_assoc (take at run) (take n v) (drop (at + n) run) ∙ ap (λ u. take at run ++ (take n v ++ u)) (sym (drop-drop n at run))

paste_around : (run v : List ℕ) (at n : ℕ) → at + n ≤ length run → n ≤ length v → Around at n run (paste run at v n)
paste_around run v at n p q =
    subst (Around at n run) (sym (paste_put run v at n)) (put_around run (take n v) at n p (length-take-le n v q))

set_around : (run : List ℕ) (at k v : ℕ) → 0 < k → Around at k run (set run at v)
set_around run at k v h = (take-set-le at run at v (omega arith), drop-set-lt (at + k) run at v (omega arith))

-- what is known of a sheet where only the flags are
abbrev known : {D : Type 0} → Option (Option D) → Option (Option (Unit {0}))
known None = None
known (Some None) = Some None
known (Some (Some x)) = Some (Some tt)

known_there : {D : Type 0} (o : Option (Option D)) {u : Unit {0}} → known o ≡ Some (Some u) → (x : D) × (o ≡ Some (Some x))
known_there None e = none_some e
known_there (Some None) e = none_some (some_one None _ e)
known_there (Some (Some x)) e = (x, refl)

known_absent : {D : Type 0} (o : Option (Option D)) → known o ≡ Some None → o ≡ Some None
known_absent None e = none_some e
known_absent (Some None) e = refl
known_absent (Some (Some x)) e = none_some (sym (some_one _ None e))

module _ {D F : Type 0} (a : Sheet) (n : ℕ) where
  got_there : (o : Option (Option D)) {at : ℕ} → done_or_fault (if_there {F = F} a (λ _. Ok n) o) ≡ Ok at → (at ≡ n) × (x : D) × (o ≡ Some (Some x))
  got_there None h = err_ok h
  got_there (Some None) h = err_ok h
  got_there (Some (Some x)) h = (cc, x, refl)

  got_absent : (o : Option (Option D)) {at : ℕ} → done_or_fault (if_absent {F = F} a (Ok n) o) ≡ Ok at → (at ≡ n) × (o ≡ Some None)
  got_absent None h = err_ok h
  got_absent (Some None) h = (cc, refl)
  got_absent (Some (Some x)) h = err_ok h

  missing : {E : Type 0} (t : D → Bool) (k : D → Result E (SheetFault F)) (o : Option (Option D)) {r : Failure (SheetFault F)}
      → done_or_fault (if_there a (λ _. Ok n) (known o)) ≡ Err r → (passing (passing t) o ≡ false) × (done_or_fault (if_there a k o) ≡ Err r)
  missing t k None h = (refl, cc)
  missing t k (Some None) h = (refl, cc)
  missing t k (Some (Some x)) h = err_ok (sym h)

  taken : {E : Type 0} (k : Result E (SheetFault F)) (o : Option (Option D)) {r : Failure (SheetFault F)}
      → done_or_fault (if_absent a (Ok n) (known o)) ≡ Err r → done_or_fault (if_absent a k o) ≡ Err r
  taken k None h = cc
  taken k (Some None) h = err_ok (sym h)
  taken k (Some (Some x)) h = cc

module _ {P F : Type 0} (T : Theory P F) (l : Lawful T) (w : ℕ) (was : List ℕ) (four : FourSheets T w was) where
  open T use {Doc, fresh, blank, width}

  abbrev S : Theory (SheetChange P) (SheetFault F)
  S = sheets T

  some_words : 0 < w
  some_words = omega (arith, four.0)

  ends : (n : ℕ) → n < 4 → n * w + w ≤ length was
  ends n h = omega (arith, slot_end n 4 w h, four.1)

  -- what makes a change work: the other words stay, and a document goes to its outcome
  work : (c : SheetChange P) (r : Result (Unit {0}) (Failure (SheetFault F))) (left : List ℕ) → Others c w was left
      → ((d : S.Doc) → S.fits d → was ≡ S.encode d → (e : S.Doc) × S.fits e × (left ≡ S.encode e) × (outcome S c d ≡ holding r e))
      → Worked T c was r left
  work c r left o h = record {
    applied = record {
      refused = λ e. absurd (true≢false (sym (and_from _ _ (eq-eqb _ _ (four.1 ∙ ap (λ v. 4 * v) four.0)) (lt-ltb _ _ (subst (λ (v : ℕ). 4 * v < largest) four.0 four.2))) ∙ e));
      done = λ d f e _. h d f e;
    };
    others = subst (λ (v : ℕ). Others c v was left) four.0 o;
  }

  -- a change that fails leaves all as it is
  stop : (c : SheetChange P) (r : Failure (SheetFault F)) → ((d : S.Doc) → S.fits d → was ≡ S.encode d → outcome S c d ≡ Err r) → Worked T c was (Err r) was
  stop c r h = work c (Err r) was (λ _ _. refl) (λ d f e. (d, f, e, h d f e))

  -- the first word of a sheet, and the rest
  abbrev flag : Option Doc → ℕ
  flag None = 0
  flag (Some x) = 1

  abbrev rest : Option Doc → List ℕ
  rest None = replicate width 0
  rest (Some x) = T.encode x

  flag_rest : (x : Option Doc) → sheet_encode T x ≡ flag x ∷ rest x
  flag_rest None = ap (λ n. replicate n 0) (one-add width)
  flag_rest (Some x) = refl

  holds : Holds None (absent T) (sheet_size T) (sheet_fits T) w (sheet_encode T)
  holds = subst (λ (v : ℕ). Holds None (absent T) (sheet_size T) (sheet_fits T) v (sheet_encode T)) (sym four.0) (sheet_holds T l)

  -- A document's words, around those of one sheet.
  pub record SheetWords (d : S.Doc) (n : ℕ) (x : Option Doc) : Type 0 where
    pub before : List ℕ
    pub after : List ℕ
    pub long : length before ≡ n * w
    pub is : was ≡ before ++ (flag x ∷ (rest x ++ after))
    pub becomes : (y : Option Doc) → S.encode (set d n y) ≡ before ++ (flag y ∷ (rest y ++ after))

  sheet_words : (d : S.Doc) (n : ℕ) (x : Option Doc) → slice_get d n ≡ Some x → S.fits d → was ≡ S.encode d → SheetWords d n x
  sheet_words d n x o f e =
      let s = slot_words holds x n d o f.1 in
      record {
        before = s.0;
        after = s.1;
        long = s.2;
        is = e ∙ s.3 ∙ ap (λ v. s.0 ++ (v ++ s.1)) (flag_rest x);
        becomes = λ y. s.4 y ∙ ap (λ v. s.0 ++ (v ++ s.1)) (flag_rest y);
      }

  flag_is : (d : S.Doc) (n : ℕ) (x : Option Doc) → slice_get d n ≡ Some x → S.fits d → was ≡ S.encode d → get_or was (n * w) 0 ≡ flag x
  flag_is d n x o f e =
      let s = sheet_words d n x o f e in
      ap (λ v. get_or v (n * w) 0) s.is ∙ get_or_at s.before (flag x) (rest x ++ s.after) 0 (n * w) s.long

  -- what the flags tell of a document
  told_is : (d : S.Doc) (a : Sheet) → S.fits d → was ≡ S.encode d → told w a was ≡ known (slice_get d a.0)
  told_is d a f e = ⊎_elim inner outer (cases_lt a.0 4)
    where
      outer : 4 ≤ a.0 → told w a was ≡ known (slice_get d a.0)
      outer h = rw (le-ltb a.0 4 h, slice_get_past d a.0 (omega (arith, f.0)))

      at : (x : Option Doc) → slice_get d a.0 ≡ Some x → a.0 < 4 → told w a was ≡ known (slice_get d a.0)
      at None o h = rw (lt-ltb a.0 4 h, flag_is d a.0 None o f e, o)
      at (Some x) o h = rw (lt-ltb a.0 4 h, flag_is d a.0 (Some x) o f e, o)

      inner : a.0 < 4 → told w a was ≡ known (slice_get d a.0)
      inner h = let s = slot_there a.0 d (omega (arith, f.0)) in at s.0 s.1 h

  -- what is found, of any run
  in_place : (a : Sheet) {x : Option (Unit {0})} → told w a was ≡ Some x → a.0 < 4
  in_place a e = ⊎_elim (λ h. h) (λ h. none_some (sym (cond-false (ltb a.0 4) _ _ (le-ltb a.0 4 h)) ∙ e)) (cases_lt a.0 4)

  pub there_found : (a : Sheet) (at : ℕ) → there_at {F = F} w a was ≡ Ok at → (at ≡ a.0 * w) × (a.0 < 4)
  there_found a at h = let (e, x, o) = got_there a (a.0 * w) (told w a was) h in (e, in_place a o)

  pub absent_found : (a : Sheet) (at : ℕ) → absent_at {F = F} w a was ≡ Ok at → (at ≡ a.0 * w) × (a.0 < 4)
  absent_found a at h = let (e, o) = got_absent a (a.0 * w) (told w a was) h in (e, in_place a o)

  -- and of a document
  module _ (d : S.Doc) (a : Sheet) (f : S.fits d) (e : was ≡ S.encode d) where
    is_there : {at : ℕ} → there_at {F = F} w a was ≡ Ok at → (x : Doc) × (slice_get d a.0 ≡ Some (Some x))
    is_there h = let (_, x, o) = got_there a (a.0 * w) (told w a was) h in known_there (slice_get d a.0) (sym (told_is d a f e) ∙ o)

    is_absent : {at : ℕ} → absent_at {F = F} w a was ≡ Ok at → slice_get d a.0 ≡ Some None
    is_absent h = let (_, o) = got_absent a (a.0 * w) (told w a was) h in known_absent (slice_get d a.0) (sym (told_is d a f e) ∙ o)

    not_there : {r : Failure (SheetFault F)} → there_at w a was ≡ Err r → {E : Type 0} (t : Doc → Bool) (k : Doc → Result E (SheetFault F))
        → (passing (passing t) (slice_get d a.0) ≡ false) × (done_or_fault (if_there a k (slice_get d a.0)) ≡ Err r)
    not_there h t k = missing a (a.0 * w) t k (slice_get d a.0) (sym (ap (λ o. done_or_fault (if_there a (λ _. Ok (a.0 * w)) o)) (told_is d a f e)) ∙ h)

    not_absent : {r : Failure (SheetFault F)} → absent_at w a was ≡ Err r → {E : Type 0} (k : Result E (SheetFault F)) → done_or_fault (if_absent a k (slice_get d a.0)) ≡ Err r
    not_absent h k = taken a (a.0 * w) k (slice_get d a.0) (sym (ap (λ o. done_or_fault (if_absent a (Ok (a.0 * w)) o)) (told_is d a f e)) ∙ h)

  -- the words inside a sheet
  inside_is : (d : S.Doc) (n : ℕ) (x : Doc) → slice_get d n ≡ Some (Some x) → S.fits d → was ≡ S.encode d
      → (s : SheetWords d n (Some x)) × (was ≡ (s.before ++ (1 ∷ [])) ++ (T.encode x ++ s.after)) × (length (s.before ++ (1 ∷ [])) ≡ n * w + 1)
      × T.fits x × (length (T.encode x) ≡ width)
  inside_is d n x o f e =
      let s = sheet_words d n (Some x) o f e in
      let g = slot_of_all (sheet_fits T) (step_from (Some x) (Some x) n d o) f.1 in
      (s, s.is ∙ sym (append_assoc s.before (1 ∷ []) (T.encode x ++ s.after)), length-append s.before (1 ∷ []) ∙ ap (λ v. v + 1) s.long, g, l.held_in_words.filled x g)

  rest_is : (d : S.Doc) (n : ℕ) (x : Doc) → slice_get d n ≡ Some (Some x) → S.fits d → was ≡ S.encode d → take width (drop (n * w + 1) was) ≡ T.encode x
  rest_is d n x o f e =
      let (s, i, j, _, k) = inside_is d n x o f e in
      ap (λ v. take width (drop (n * w + 1) v)) i ∙ middle (s.before ++ (1 ∷ [])) (T.encode x) s.after (n * w + 1) width j k

  fits_set : (d : S.Doc) (n : ℕ) (x : Option Doc) → sheet_fits T x → S.fits d → S.fits (set d n x)
  fits_set d n x g f = (length-set d n x ∙ f.0, All-set (sheet_fits T) d n x g f.1)

  set_others : (c : SheetChange P) (a : Sheet) (v : ℕ) → ((x : Sheet) → touches c x ≡ false → x.0 ≡ a.0 → ⊥) → Others c w was (set was (a.0 * w) v)
  set_others c a v n x t = other_words w a.0 x.0 was (set was (a.0 * w) v) (set_around was (a.0 * w) w v some_words) (n x t)

  -- creating
  pub create_fails : (a : Sheet) (r : Failure (SheetFault F)) → absent_at w a was ≡ Err r → Worked T (Create a) was (Err r) was
  create_fails a r h = stop (Create a) r (λ d f e. not_absent d a f e h _)

  pub create_works : (a : Sheet) (at : ℕ) → absent_at {F = F} w a was ≡ Ok at → Worked T (Create a) was (Ok tt) (set was at 1)
  create_works a at h =
      subst (λ (v : ℕ). Worked T (Create a) was (Ok tt) (set was v 1)) (sym (absent_found a at h).0)
      (work (Create a) (Ok tt) (set was (a.0 * w) 1) (set_others (Create a) a 1 (λ x t q. eqb-false a.0 x.0 t (sym q))) done)
    where
      done : (d : S.Doc) → S.fits d → was ≡ S.encode d → (e : S.Doc) × S.fits e × (set was (a.0 * w) 1 ≡ S.encode e) × (outcome S (Create a) d ≡ holding (Ok tt) e)
      done d f e =
          let o = is_absent d a f e h in
          let s = sheet_words d a.0 None o f e in (
            set d a.0 (Some fresh),
            fits_set d a.0 (Some fresh) l.held_in_words.starts.0 f,
            ap (λ v. set v (a.0 * w) 1) s.is ∙ set_at s.before 0 (rest None ++ s.after) 1 (a.0 * w) s.long
                ∙ ap (λ v. s.before ++ (1 ∷ (v ++ s.after))) (sym l.held_in_words.starts.2) ∙ sym (s.becomes (Some fresh)),
            rw o,
          )

  -- removing
  pub remove_fails : (a : Sheet) (r : Failure (SheetFault F)) → there_at w a was ≡ Err r → Worked T (Remove a) was (Err r) was
  remove_fails a r h = stop (Remove a) r (λ d f e. (not_there d a f e h (λ _. false) _).1)

  blank_is : (x : Doc) → T.fits x → blank x ≡ list_all (λ v. eqb v 0) (T.encode x)
  blank_is x g = same_from_decides (blank x) (list_all (λ v. eqb v 0) (T.encode x)) (l.held_in_words.tells_fresh x) (fresh_from, fresh_to)
    where
      zeros : T.encode fresh ≡ replicate (length (T.encode x)) 0
      zeros = l.held_in_words.starts.2 ∙ ap (λ n. replicate n 0) (sym (l.held_in_words.filled x g))

      fresh_from : list_all (λ v. eqb v 0) (T.encode x) ≡ true → x ≡ fresh
      fresh_from h = l.held_in_words.apart x fresh g l.held_in_words.starts.0 ((zeros_tell (T.encode x)).0 h ∙ sym zeros)

      fresh_to : x ≡ fresh → list_all (λ v. eqb v 0) (T.encode x) ≡ true
      fresh_to e = (zeros_tell (T.encode x)).1 (ap T.encode e ∙ zeros)

  module _ (a : Sheet) (at k : ℕ) (h : there_at {F = F} w a was ≡ Ok at) (same : k ≡ width) where
    -- what the words tell of the sheet's document
    zero_tells : (d : S.Doc) → S.fits d → was ≡ S.encode d
        → (x : Doc) × (slice_get d a.0 ≡ Some (Some x)) × (blank x ≡ list_all (λ v. eqb v 0) (take k (drop (at + 1) was)))
    zero_tells d f e =
        let (x, o) = is_there d a f e h in
        let (_, _, _, g, _) = inside_is d a.0 x o f e in (
          x,
          o,
          blank_is x g ∙ ap (list_all (λ v. eqb v 0)) (sym (rest_is d a.0 x o f e))
              ∙ rw (same, (there_found a at h).0),
        )

    pub remove_not_fresh : list_all (λ v. eqb v 0) (take k (drop (at + 1) was)) ≡ false → Worked T (Remove a) was (Err (Fault (NotFresh a))) was
    remove_not_fresh z = stop (Remove a) (Fault (NotFresh a)) (λ d f e. let (x, o, b) = zero_tells d f e in rw (o, b ∙ z))

    pub remove_works : list_all (λ v. eqb v 0) (take k (drop (at + 1) was)) ≡ true → Worked T (Remove a) was (Ok tt) (set was at 0)
    remove_works z =
        subst (λ (v : ℕ). Worked T (Remove a) was (Ok tt) (set was v 0)) (sym (there_found a at h).0)
        (work (Remove a) (Ok tt) (set was (a.0 * w) 0) (set_others (Remove a) a 0 (λ x t q. eqb-false a.0 x.0 t (sym q))) done)
      where
        done : (d : S.Doc) → S.fits d → was ≡ S.encode d → (e : S.Doc) × S.fits e × (set was (a.0 * w) 0 ≡ S.encode e) × (outcome S (Remove a) d ≡ holding (Ok tt) e)
        done d f e =
            let (x, o, b) = zero_tells d f e in
            let s = sheet_words d a.0 (Some x) o f e in
            let q = (l.held_in_words.tells_fresh x).0 (b ∙ z) in (
              set d a.0 None,
              fits_set d a.0 None tt f,
              ap (λ v. set v (a.0 * w) 0) s.is ∙ set_at s.before 1 (rest (Some x) ++ s.after) 0 (a.0 * w) s.long
                  ∙ ap (λ v. s.before ++ (0 ∷ (v ++ s.after))) (ap T.encode q ∙ l.held_in_words.starts.2) ∙ sym (s.becomes None),
              rw (o, b ∙ z),
            )

  -- changing inside
  pub inside_fails : (a : Sheet) (p : P) (r : Failure (SheetFault F)) → there_at w a was ≡ Err r → Worked T (Inside a p) was (Err r) was
  inside_fails a p r h = stop (Inside a p) r (λ d f e. let (n, k) = not_there d a f e h (T.full p) (λ x. part (λ y. set d a.0 (Some y)) (InSheet a) (T.apply p x)) in rw n k)

  module _ (a : Sheet) (p : P) (r : Result (Unit {0}) (Failure F)) (now : List ℕ) (low : a.0 < 4) (short : length now ≡ width)
      (lent : Applied T p (take width (drop (a.0 * w + 1) was)) r now) where
    lent_done : (d : S.Doc) (x : Doc) → slice_get d a.0 ≡ Some (Some x) → S.fits d → was ≡ S.encode d
        → (e : S.Doc) × S.fits e × (put_mid (a.0 * w + 1) width was now ≡ S.encode e) × (outcome S (Inside a p) d ≡ holding (failing (InSheet a) r) e)
    lent_done d x o f e =
        let (s, i, j, g, k) = inside_is d a.0 x o f e in
        let q = rest_is d a.0 x o f e in
        let (y, fy, v, z) = lent.done x g q
        (ap (roomy T) (ap length q ∙ k) ∙ and_from _ _ (eq-eqb width width refl) (lt-ltb _ _ (omega (arith, four.0, four.2)))) in (
          set d a.0 (Some y),
          fits_set d a.0 (Some y) fy f,
          ap (λ u. put_mid (a.0 * w + 1) width u now) i ∙ put_middle (s.before ++ (1 ∷ [])) (T.encode x) s.after now (a.0 * w + 1) width j k
              ∙ append_assoc s.before (1 ∷ []) (now ++ s.after) ∙ ap (λ u. s.before ++ (1 ∷ (u ++ s.after))) v ∙ sym (s.becomes (Some y)),
          rw o (placed_outcome (λ u. set d a.0 (Some u)) (InSheet a) (T.full p x) (T.apply p x) r y z),
        )

    lent_works : there_at {F = F} w a was ≡ Ok (a.0 * w) → Worked T (Inside a p) was (failing (InSheet a) r) (put_mid (a.0 * w + 1) width was now)
    lent_works h = work (Inside a p) (failing (InSheet a) r) (put_mid (a.0 * w + 1) width was now)
        (λ x t. other_words w a.0 x.0 was (put_mid (a.0 * w + 1) width was now)
        (around_wider (a.0 * w + 1) width (a.0 * w) w was _ (omega arith) (omega (arith, four.0))
        (put_around was now (a.0 * w + 1) width (omega (arith, ends a.0 low, four.0)) short))
        (λ q. eqb-false a.0 x.0 t (sym q)))
        (λ d f e. let s = is_there d a f e h in lent_done d s.0 s.1 f e)

  pub inside_works : (a : Sheet) (p : P) (at k : ℕ) (r : Result (Unit {0}) (Failure F)) (s : Result (Unit {0}) (Failure (SheetFault F))) (now : List ℕ)
      → there_at {F = F} w a was ≡ Ok at → k ≡ width → s ≡ failing (InSheet a) r → length now ≡ length (take k (drop (at + 1) was))
      → Applied T p (take k (drop (at + 1) was)) r now → Worked T (Inside a p) was s (put_mid (at + 1) k was now)
  inside_works a p at k r s now h e i = let (q, low) = there_found a at h in
      rw (e, i, q) (λ n lent. lent_works a p r now low (n ∙ part_length low) lent (rw q at h))
    where
      part_length : a.0 < 4 → length (take width (drop (a.0 * w + 1) was)) ≡ width
      part_length low = simp (length-take, length-drop) (omega (arith, ends a.0 low, four.0))

  -- moving
  pub move_no_source : (a b : Sheet) (r : Failure (SheetFault F)) → there_at w a was ≡ Err r → Worked T (Move a b) was (Err r) was
  move_no_source a b r h = stop (Move a b) r (λ d f e. (not_there d a f e h (λ _. false) _).1)

  pub move_no_target : (a b : Sheet) (at : ℕ) (r : Failure (SheetFault F)) → there_at {F = F} w a was ≡ Ok at → absent_at w b was ≡ Err r → Worked T (Move a b) was (Err r) was
  move_no_target a b at r h k = stop (Move a b) r (λ d f e. let (x, o) = is_there d a f e h in rw o (not_absent d b f e k _))

  -- a sheet that is there is not one that is absent
  two_sheets : (a b : Sheet) (at to : ℕ) → there_at {F = F} w a was ≡ Ok at → absent_at {F = F} w b was ≡ Ok to → a.0 ≡ b.0 → ⊥
  two_sheets a b at to h k e =
      let (_, x, i) = got_there a (a.0 * w) (told w a was) h in
      let (_, j) = got_absent b (b.0 * w) (told w b was) k in
      let same : a ≡ b = λ i. record { 0 = e i } in
      none_some (sym (some_one (Some x) None (sym i ∙ ap (λ s. told w s was) same ∙ j)))

  sheet_is : (d : S.Doc) (n : ℕ) (x : Option Doc) → slice_get d n ≡ Some x → S.fits d → sheet_fits T x → was ≡ S.encode d → take w (drop (n * w) was) ≡ sheet_encode T x
  sheet_is d n x o f g e =
      let (p, q, i, j, _) = slot_words holds x n d o f.1 in
      ap (λ v. take w (drop (n * w) v)) (e ∙ j) ∙ middle p (sheet_encode T x) q (n * w) w i (holds.filled x g)

  -- words copied to a sheet's place are the words of the document with them there
  paste_sheet : (d : S.Doc) (n : ℕ) (x y : Option Doc) (v : List ℕ) → slice_get d n ≡ Some x → S.fits d → sheet_fits T x → take w v ≡ sheet_encode T y
      → paste (S.encode d) (n * w) v w ≡ S.encode (set d n y)
  paste_sheet d n x y v o f g e =
      let (p, q, i, j, k) = slot_words holds x n d o f.1 in
      paste_put (S.encode d) v (n * w) w ∙ ap (λ u. put_mid (n * w) w u (take w v)) j ∙ put_middle p (sheet_encode T x) q (take w v) (n * w) w i (holds.filled x g)
      ∙ ap (λ u. p ++ (u ++ q)) e ∙ sym (k y)

  pub move_works : (a b : Sheet) (at to : ℕ) → there_at {F = F} w a was ≡ Ok at → absent_at {F = F} w b was ≡ Ok to → Worked T (Move a b) was (Ok tt) (moved_words at to w was)
  move_works a b at to h k = rw ((there_found a at h).0, (absent_found b to k).0) (work (Move a b) (Ok tt) (moved_words (a.0 * w) (b.0 * w) w was) others done)
    where
      copied : List ℕ
      copied = paste was (b.0 * w) (drop (a.0 * w) was) w

      copied_long : length copied ≡ length was
      copied_long = length-paste was (b.0 * w) (drop (a.0 * w) was) w (ends b.0 (absent_found b to k).1) (simp length-drop (omega (arith, ends a.0 (there_found a at h).1)))

      others : Others {P = P} (Move a b) w was (moved_words (a.0 * w) (b.0 * w) w was)
      others x t =
          let (i, j) = or_parts (eqb a.0 x.0) (eqb b.0 x.0) t in
          other_words w a.0 x.0 copied (moved_words (a.0 * w) (b.0 * w) w was)
          (paste_around copied (replicate w 0) (a.0 * w) w (omega (arith, ends a.0 (there_found a at h).1, copied_long)) (omega (arith, length-replicate {A = ℕ} w 0)))
          (λ q. eqb-false a.0 x.0 i (sym q))
          ∙ other_words w b.0 x.0 was copied
          (paste_around was (drop (a.0 * w) was) (b.0 * w) w (ends b.0 (absent_found b to k).1) (simp length-drop (omega (arith, ends a.0 (there_found a at h).1))))
          (λ q. eqb-false b.0 x.0 j (sym q))

      done_at : (d : S.Doc) (x : Doc) → slice_get d a.0 ≡ Some (Some x) → slice_get d b.0 ≡ Some None → S.fits d → was ≡ S.encode d
          → (e : S.Doc) × S.fits e × (moved_words (a.0 * w) (b.0 * w) w was ≡ S.encode e) × (outcome S (Move a b) d ≡ holding (Ok tt) e)
      done_at d x o i f e =
          let ne : b.0 ≡ a.0 → ⊥ = λ q. two_sheets a b at to h k (sym q) in
          let g = slot_of_all (sheet_fits T) (step_from (Some x) (Some x) a.0 d o) f.1 in
          let there = step_reads (steps_apart ne (step_back (step_from None (Some x) b.0 d i)) (step_from (Some x) (Some x) a.0 d o)).1 in (
            set (set d a.0 None) b.0 (Some x),
            fits_set (set d a.0 None) b.0 (Some x) g (fits_set d a.0 None tt f),
            ap (λ u. paste u (a.0 * w) (replicate w 0) w)
                (ap (λ u. paste u (b.0 * w) (drop (a.0 * w) was) w) e ∙ paste_sheet d b.0 None (Some x) (drop (a.0 * w) was) i f tt (sheet_is d a.0 (Some x) o f g e))
                ∙ paste_sheet (set d b.0 (Some x)) a.0 (Some x) None (replicate w 0) there (fits_set d b.0 (Some x) g f) g
                (take-replicate w w 0 (omega arith) ∙ ap (λ n. replicate n 0) four.0)
                ∙ ap S.encode (set_comm d b.0 a.0 (Some x) None ne),
            rw (o, i),
          )

      done : (d : S.Doc) → S.fits d → was ≡ S.encode d
          → (e : S.Doc) × S.fits e × (moved_words (a.0 * w) (b.0 * w) w was ≡ S.encode e) × (outcome S (Move a b) d ≡ holding (Ok tt) e)
      done d f e = let s = is_there d a f e h in done_at d s.0 s.1 (is_absent d b f e k) f e
