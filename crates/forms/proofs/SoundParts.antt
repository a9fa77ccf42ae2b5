-- What it means that a history has the right form, test by test; and what its names are.
use Rattle.std.proofs.Common.{◌≡◌, ℕ, ◌<◌, ◌≤◌, true, false, ◌&&◌, eqb, ltb, leb, List, [], ◌∷◌, length, refl, arith}
use Rattle.std.proofs.lemmas.Bool.{and_parts, and_from, or_from, leb-true, le-leb, ne_eqb}
use Rattle.kinds.specs.Theory.{Theory}
use Rattle.kinds.specs.Laws.{most}
use Rattle.kinds.specs.Sequences.{growths, all_written}
use Rattle.histories.specs.declared.named.Named.{Named}
use Rattle.histories.specs.Named.{patches}
use Rattle.histories.specs.History.{holds}
use Rattle.histories.specs.Flat.{flat}
use Rattle.forms.specs.Form.{numbered, apart, sound, most_patches, most_changes}

module _ {P F : Type 0} (T : Theory P F) (counter : ℕ) (h : List (Named (List P))) where
  pub record SoundParts : Type 0 where
    pub writable : all_written (patches T) h ≡ true
    pub numbers : numbered counter h ≡ true
    pub distinct : apart (λ w. w.name) h ≡ true
    pub patch_limit : length h ≤ most_patches
    pub change_limit : length (flat h) ≤ most_changes
    pub grown : growths (patches T) h ≤ most

  pub sound_parts : sound T counter h ≡ true → SoundParts
  sound_parts e =
      let (e5, g) = and_parts _ (leb (growths (patches T) h) most) e in
      let (e4, m) = and_parts _ (leb (length (flat h)) most_changes) e5 in
      let (e3, n) = and_parts _ (leb (length h) most_patches) e4 in
      let (e2, a) = and_parts _ (apart (λ (w : Named (List P)). w.name) h) e3 in
      let (w, i) = and_parts (all_written (patches T) h) (numbered counter h) e2 in
      record {
        writable = w;
        numbers = i;
        distinct = a;
        patch_limit = leb-true (length h) most_patches n;
        change_limit = leb-true (length (flat h)) most_changes m;
        grown = leb-true (growths (patches T) h) most g;
      }

  pub parts_sound : SoundParts → sound T counter h ≡ true
  parts_sound s =
      and_from _ _ (and_from _ _ (and_from _ _ (and_from _ _ (and_from _ _ s.writable s.numbers) s.distinct)
      (le-leb (length h) most_patches s.patch_limit)) (le-leb (length (flat h)) most_changes s.change_limit)) (le-leb (growths (patches T) h) most s.grown)

module _ {P : Type 0} (counter : ℕ) where
  -- a name above the counter is not held
  pub numbered_fresh : (h : List (Named (List P))) (n : ℕ) → numbered counter h ≡ true → counter < n → holds (λ w. w.name) h n ≡ false
  numbered_fresh [] n e l = refl
  numbered_fresh (p ∷ h) n e l =
      let (a, b) = and_parts (ltb 0 p.name && leb p.name counter) (numbered counter h) e in
      let k = leb-true p.name counter (and_parts (ltb 0 p.name) (leb p.name counter) a).1 in
      or_from (eqb p.name n) (holds (λ (w : Named (List P)). w.name) h n) (ne_eqb p.name n (λ z. omega arith)) (numbered_fresh h n b l)
