-- The test of the form of a history, and what it tells.
use Rattle.std.proofs.Common.{◌≡◌, ℕ, ◌+◌, ◌<◌, ◌≤◌, true, false, List, [], ◌∷◌, ◌++◌, length, refl, ⊎_elim, arith}
use Rattle.std.proofs.lemmas.Bool.{and_from, lt-ltb, le-leb}
use Rattle.kinds.specs.Theory.{Theory}
use Rattle.histories.specs.declared.named.Named.{Named}
use Rattle.histories.specs.Named.{patches}
use Rattle.histories.specs.History.{holds}
use Rattle.histories.specs.Agreement.{WellFormed}
use Rattle.histories.proofs.Names.{In, in_head, in_tail, in_split, single, not_held}
use Rattle.histories.specs.Flat.{flat}
use Rattle.forms.specs.Form.{numbered, sound}
use Rattle.forms.proofs.Apart.{well_formed_apart}
use Rattle.forms.proofs.SoundParts.{parts_sound}
use Rattle.shop.specs.State.{History}

-- the name of a patch
abbrev pub by_name : {P : Type 0} → Named (List P) → ℕ
by_name p = p.name

module _ {P : Type 0} where
  -- every name is 1 to the counter
  abbrev pub Numbered : ℕ → History P → Type 0
  Numbered counter h = (n : ℕ) → In by_name n h → (0 < n) × (n ≤ counter)

  pub numbered_holds : (counter : ℕ) (h : History P) → Numbered counter h → numbered counter h ≡ true
  numbered_holds counter [] f = refl
  numbered_holds counter (p ∷ h) f =
      let (a, b) = f p.name (in_head refl) in
      and_from _ _ (and_from _ _ (lt-ltb 0 p.name a) (le-leb p.name counter b)) (numbered_holds counter h (λ n i. f n (in_tail i)))

  -- the next name is new
  pub next_is_new : (counter : ℕ) (h : History P) → Numbered counter h → holds by_name h (counter + 1) ≡ false
  next_is_new counter h f = not_held (counter + 1) h (λ i. let (_, b) = f (counter + 1) i in omega arith)

  -- with one more at the end, of a name that is 1 to the counter
  pub numbered_more : (counter : ℕ) (h : History P) (p : Named (List P)) → Numbered counter h → 0 < p.name → p.name ≤ counter → Numbered counter (h ++ p ∷ [])
  numbered_more counter h p f a b n i = ⊎_elim (λ j. f n j) (λ j. let e : p.name ≡ n = single j in (omega arith, omega arith)) (in_split h i)

-- a well-formed history with names from 1 to the counter and within the limits has the right form
pub right_form : {P F : Type 0} (T : Theory P F) (counter : ℕ) (h : History P) → WellFormed (patches T) by_name h → Numbered counter h → length h ≤ 40 → length (flat h) ≤ 160
    → sound T counter h ≡ true
right_form T counter h w f a b = parts_sound T counter h (record {
  writable = w.writable;
  numbers = numbered_holds counter h f;
  distinct = well_formed_apart T h w;
  patch_limit = a;
  change_limit = b;
  grown = w.grown;
})
