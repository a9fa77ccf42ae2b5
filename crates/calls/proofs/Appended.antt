-- A history with a recorded patch at its end.
use Rattle.std.proofs.Common.{◌≡◌, ℕ, ◌+◌, ◌<◌, ◌≤◌, Bool, true, false, cond, ◌&&◌, ltb, leb, List, [], ◌∷◌, ◌++◌, map, length, set, replicate, Some, Ok, Err, Result, sym, refl, ap, ◌∙◌, subst, ⊎_elim, arith}
use lib.ListN.{length-map}
use Rattle.std.proofs.lemmas.List.{map-set}
use Rattle.std.proofs.lemmas.Bool.{and_parts, ltb-true, leb-true, le-leb}
use Rattle.kinds.specs.declared.steps.AtStep.{AtStep}
use Rattle.kinds.specs.Theory.{Theory}
use Rattle.kinds.specs.Bounded.{roomy}
use Rattle.kinds.specs.Parts.{part}
use Rattle.kinds.specs.Sequences.{and_then, sequences}
use Rattle.histories.specs.declared.named.Named.{Named}
use Rattle.histories.specs.Named.{under, one_to_eight, patches}
use Rattle.histories.specs.History.{replay}
use Rattle.histories.proofs.Stops.{ok_not_err, then_ok, then_err}
use Rattle.histories.specs.Flat.{flat}
use Rattle.forms.specs.Form.{grouped, sound, most_patches, most_changes}
use Rattle.forms.proofs.Grouping.{flat_grouped, grouped_more}
use Rattle.forms.proofs.SoundParts.{sound_parts, numbered_fresh}
use Rattle.shop.specs.declared.refusal.Refusal.{Refusal}
use Rattle.shop.specs.declared.refusal.Refusal.TheVariants.{NoRepository, WrongRoom, WrongCount, Fault, NoName, Full, Overgrown, Torn}
use Rattle.shop.specs.declared.shop.Shop.{Shop}
use Rattle.shop.specs.Refusals.{number}
use Rattle.shop.specs.State.{History, State, at, with_history, with_name}
use Rattle.shop.specs.Calls.{Memory, all_long, or_refused, in_shop, enough, a_patch, sound_at, a_name_left, room_for, document, record_patch}
use Rattle.shop.specs.Held.{room as room_of, rooms, rows_of, row_at, state_of}
use Rattle.memory.specs.Write.{room_at, appended_at}
use Rattle.calls.specs.Run.{run_after, LeftInRun, new_document}
use Rattle.calls.proofs.LongRows.{long_at}
use Rattle.calls.proofs.Recorded.{left_done, left_refused}
use Rattle.calls.proofs.SoundRow.{held_at, tested}

module _ {P F : Type 0} (T : Theory P F) (m : Memory) (s : State P) (r : ℕ) (cs : List P) where
  -- the state with the patch
  abbrev with_patch : State P
  with_patch = with_name (with_history s r (at s r ++ under (s.counter + 1) cs ∷ []))

  abbrev with_it : History P → T.Doc → Result (T.Doc × State P × ℕ) (Refusal F)
  with_it h e = Ok (e, with_name (with_history s r (h ++ under (s.counter + 1) cs ∷ [])), s.counter + 1)

  abbrev told : T.Doc → Result (T.Doc × State P × ℕ) (Refusal F)
  told e = Ok (e, with_patch, s.counter + 1)

  -- record is the new document, and then the patch at the end
  pub by_document : Ok tt ≡ in_shop T r → Ok tt ≡ enough T m → Ok tt ≡ a_patch T cs
      → record_patch T m s r cs ≡ and_then (new_document T s r cs) told
  by_document there room patch = rw (sym there, sym room, sym patch) (on (sound T s.counter (at s r)))
    where
      last : (a : Result (Unit {0}) (Refusal F)) (b : Result (Unit {0}) (Refusal F)) (c : Result T.Doc (Refusal F)) (f : T.Doc → Result T.Doc (Refusal F))
          → and_then a (λ _. and_then b (λ _. and_then c (λ d. and_then (f d) told)))
          ≡ and_then (and_then a (λ _. and_then b (λ _. and_then c f))) told
      last (Err x) b c f = refl
      last (Ok u) (Err x) c f = refl
      last (Ok u) (Ok v) (Err x) f = refl
      last (Ok u) (Ok v) (Ok d) f = refl

      on : (b : Bool) → and_then (and_then (or_refused b (Torn r)) (λ _. Ok (at s r))) (λ h. and_then (a_name_left T s) (λ _. and_then (room_for T h (under (s.counter + 1) cs)) (λ _.
          and_then (document T r h) (λ d. and_then (part (λ e. e) Fault ((sequences T).apply cs d)) (λ e. with_it h e)))))
          ≡ and_then (and_then (and_then (or_refused b (Torn r)) (λ _. Ok (at s r))) (λ h. and_then (a_name_left T s) (λ _. and_then (room_for T h (under (s.counter + 1) cs)) (λ _.
          and_then (document T r h) (λ d. part (λ e. e) Fault ((sequences T).apply cs d)))))) told
      on true = last (a_name_left T s) (room_for T (at s r) (under (s.counter + 1) cs)) (document T r (at s r)) (λ d. part (λ e. e) Fault ((sequences T).apply cs d))
      on false = refl

  -- behind a new document the history had the right form, and there was room
  pub had_room : (d : T.Doc) → new_document T s r cs ≡ Ok d → (sound T s.counter (at s r) ≡ true) × (length (flat (at s r)) + length cs ≤ most_changes)
  had_room d e =
      let (h, a, f) = then_ok (sound_at T s r) _ d e in
      let (u, b, g) = then_ok (or_refused {F = F} (sound T s.counter (at s r)) (Torn r)) _ h a in
      let (v, c, k) = then_ok (a_name_left T s) _ d f in
      let (w, i, l) = then_ok (room_for T h (under (s.counter + 1) cs)) _ d k in
      let (z, j, n) = then_ok (or_refused {F = F} (leb (length h + 1) most_patches && leb (length (flat h) + length cs) most_changes) Full) _ w i in
      let same : at s r ≡ h = cc (g) in
      let short = leb-true (length (flat h) + length cs) most_changes (and_parts (leb (length h + 1) most_patches) (leb (length (flat h) + length cs) most_changes) (tested _ Full (sym j))).1 in
      (tested (sound T s.counter (at s r)) (Torn r) (sym b), subst (λ y. length (flat y) + length cs ≤ most_changes) (sym same) short)

-- the rows of a shop, with a patch under a new name at the end of one
module _ {P F : Type 0} (T : Theory P F) (s : Shop P) (r : ℕ) (cs : List P) (name : ℕ) where
  pub one_appended : (rows : List (List (Named P))) → rows ≡ appended_at s r (map (under name) cs) → length (row_at s r) + length cs ≤ room_at s r → 0 < length cs
      → sound T s.counter (grouped (row_at s r)) ≡ true → s.counter < name → map grouped rows ≡ set (map grouped (rows_of s)) r (at (state_of s) r ++ under name cs ∷ [])
  one_appended rows e l some form new =
      let fits : leb (length (row_at s r) + length (map (under name) cs)) (room_at s r) ≡ true = le-leb _ _ (omega (arith, length-map cs (under name))) in
      let fresh = numbered_fresh s.counter (grouped (row_at s r)) name (sound_parts T s.counter (grouped (row_at s r)) form).numbers new in
      ap (map grouped) (e ∙ ap (λ b. set (rows_of s) r (row_at s r ++ cond b (map (under name) cs) [])) fits) ∙ map-set grouped (rows_of s) r (row_at s r ++ map (under name) cs)
      ∙ ap (set (map grouped (rows_of s)) r) (grouped_more (row_at s r) (under name cs) some fresh ∙ ap (λ h. h ++ under name cs ∷ []) (sym (held_at s r)))

  -- record was accepted
  pub record_done : (n : ℕ) (left : List ℕ) (rows : List (List (Named P))) → Ok tt ≡ in_shop T r → Ok tt ≡ enough T (record { rows = rooms s; run = Some n }) → Ok tt ≡ a_patch T cs
      → LeftInRun T (new_document T (state_of s) r cs) (Ok tt) left → name ≡ s.counter + 1 → rows ≡ appended_at s r (map (under name) cs)
      → (d : T.Doc) × (record_patch T (record { rows = rooms s; run = Some n }) (state_of s) r cs ≡ Ok (d, record { histories = map grouped rows; counter = name }, name)) × (left ≡ T.encode d)
  record_done n left rows there room patch i k e =
      let (d, f, _, is) = left_done T (new_document T (state_of s) r cs) left i in
      let (form, short) = had_room T (record { rows = rooms s; run = Some n }) (state_of s) r cs d f in
      let h = held_at s r in
      let long = long_at (rooms s) r (and_parts (all_long (rooms s)) (roomy T n) (tested (all_long (rooms s) && roomy T n) WrongRoom room)).0
      (omega (arith, length-map s.repositories room_of, s.four, ltb-true r 4 (tested (ltb r 4) (NoRepository r) there))) in
      let flat_is : length (flat (at (state_of s) r)) ≡ length (row_at s r) = ap (λ z. length (flat z)) h ∙ ap length (flat_grouped (row_at s r)) in
      let some = ltb-true 0 (length cs) (and_parts (ltb 0 (length cs)) (leb (length cs) 8) (first (one_to_eight cs) _ patch)).0 in
      let all = one_appended rows e (omega arith) some (subst (λ z. sound T s.counter z ≡ true) h form) (omega arith) in
      (d, by_document T (record { rows = rooms s; run = Some n }) (state_of s) r cs there room patch ∙ ap (λ z. and_then z (told T (record { rows = rooms s; run = Some n }) (state_of s) r cs)) f ∙ ap (λ (k : ℕ). given d k (set (map grouped (rows_of s)) r (at (state_of s) r ++ under k cs ∷ []))) (sym k) ∙ ap (given d name) (sym all), is)
    where
      given : T.Doc → ℕ → List (History P) → Result (T.Doc × State P × ℕ) (Refusal F)
      given d k hs = Ok (d, record { histories = hs; counter = k }, k)

      first : (a : Bool) (b : Result (Unit {0}) (Refusal F)) → Ok tt ≡ and_then (or_refused {F = F} a WrongCount) (λ _. b) → a ≡ true
      first true b e = refl
      first false b e = absurd (ok_not_err e)

-- record was refused, by what the repositories hold
module _ {P F : Type 0} (T : Theory P F) (m : Memory) (s : State P) (r : ℕ) (cs : List P) where
  by_test : (b : Bool) (x y : Refusal F) → or_refused b y ≡ Err x → leb (number y) 5 ≡ false → leb (number x) 5 ≡ false
  by_test true x y e f = absurd (ok_not_err e)
  by_test false x y e f = let z : y ≡ x = cc in subst (λ v. leb (number v) 5 ≡ false) z f

  from_state : (x : Refusal F) → new_document T s r cs ≡ Err x → leb (number x) 5 ≡ false
  from_state x e = ⊎_elim (λ a. formless a) (λ (h, a, f). ⊎_elim (λ b. by_test _ x NoName b refl) (λ (u, b, g). ⊎_elim (λ c. roomless h c) (λ (v, c, k). ⊎_elim (λ d. part_of (replay (patches T) h) d)
      (λ (d, i, l). fault_of ((sequences T).apply cs d) l) (then_err (document T r h) _ x k)) (then_err (room_for T h (under (s.counter + 1) cs)) _ x g)) (then_err (a_name_left T s) _ x f)) (then_err (sound_at T s r) _ x e)
    where
      formless : sound_at T s r ≡ Err x → leb (number x) 5 ≡ false
      formless a = ⊎_elim (λ b. by_test _ x (Torn r) b refl) (λ (u, b, c). absurd (ok_not_err c)) (then_err (or_refused {F = F} (sound T s.counter (at s r)) (Torn r)) _ x a)

      roomless : (h : History P) → room_for T h (under (s.counter + 1) cs) ≡ Err x → leb (number x) 5 ≡ false
      roomless h a = ⊎_elim (λ b. by_test _ x Full b refl) (λ (u, b, c). by_test _ x Overgrown c refl) (then_err (or_refused {F = F} (leb (length h + 1) most_patches && leb (length (flat h) + length cs) most_changes) Full) _ x a)

      part_of : {E : Type 0} (a : Result T.Doc E) → part {G = Refusal F} (λ d. d) (λ f. Torn r) a ≡ Err x → leb (number x) 5 ≡ false
      part_of (Ok d) e = absurd (ok_not_err e)
      part_of (Err y) e = let z : Torn r ≡ x = cc in subst (λ v. leb (number v) 5 ≡ false) z refl

      fault_of : (a : Result T.Doc (AtStep F)) → part (λ d. d) Fault a ≡ Err x → leb (number x) 5 ≡ false
      fault_of (Ok d) e = absurd (ok_not_err e)
      fault_of (Err y) e = let z : Fault y ≡ x = cc in subst (λ v. leb (number v) 5 ≡ false) z refl

  pub record_refused : (x : Refusal F) (was left : List ℕ) → Ok tt ≡ in_shop T r → Ok tt ≡ enough T m → Ok tt ≡ a_patch T cs → LeftInRun T (new_document T s r cs) (Err x) left
      → (record_patch T m s r cs ≡ Err x) × (replicate (length was) 0 ≡ run_after T was (Err x))
  record_refused x was left there room patch i =
      let e = left_refused T (new_document T s r cs) x left i in
      (by_document T m s r cs there room patch ∙ ap (λ z. and_then z (told T m s r cs)) e, rw (from_state x e) refl)
