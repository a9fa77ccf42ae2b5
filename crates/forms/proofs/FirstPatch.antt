-- The first patch of a row, and the rest of the row.
use Rattle.std.proofs.Common.{◌≡◌, ℕ, eqb, List, [], ◌∷◌, ◌++◌, map, length, take, drop, Some, sym, refl, ap, ◌∙◌, subst, arith}
use Rattle.std.specs.List.{slice_get}
use Rattle.std.proofs.lemmas.List.{length-map, drop_at, take_at}
use Rattle.std.proofs.lemmas.Bool.{eqb-true, cond_both}
use Rattle.histories.specs.declared.named.Named.{Named}
use Rattle.histories.specs.Named.{under}
use Rattle.histories.specs.Flat.{flat_of, flat, OtherName, ToldApart}
use Rattle.forms.specs.Form.{put_before, grouped}
use Rattle.forms.proofs.Grouping.{flat_grouped, told_grouped, grouped_flat}

-- The first `count` changes of the row are its first patch, of the name n.
pub record First {P : Type 0} (row : List (Named P)) (n count : ℕ) : Type 0 where
  pub patch : Named (List P)
  pub others : List (Named (List P))
  pub is : grouped row ≡ patch ∷ others
  pub named : patch.name ≡ n
  pub front : take count row ≡ flat_of patch
  pub rest : grouped (drop count row) ≡ others

module _ {P : Type 0} where
  -- the first change gives the first patch its name
  abbrev Begun : Named P → List (Named (List P)) → Type 0
  Begun x h = (cs : List P) × (others : List (Named (List P))) × (h ≡ under x.name (x.changes ∷ cs) ∷ others)

  begun : (x : Named P) (h : List (Named (List P))) → Begun x (put_before x h)
  begun x [] = ([], [], refl)
  begun x (p ∷ h) = cond_both (eqb x.name p.name) _ _ (Begun x)
      (λ e. (p.changes, h, ap (λ (n : ℕ). under n (x.changes ∷ p.changes) ∷ h) (sym (eqb-true x.name p.name e)))) (λ e. ([], p ∷ h, refl))

  pub first_of : (row : List (Named P)) (x : Named P) (count : ℕ) → Some x ≡ slice_get row 0
      → ((cs : List P) (behind : List (Named P)) → row ≡ map (under x.name) cs ++ behind → OtherName x.name behind → count ≡ length cs) → First row x.name count
  first_of [] x count v h = absurd (let z : ◌≡◌ {A = ℕ} 0 1 = cc in omega arith)
  first_of (y ∷ ys) x count v h =
      let same : x ≡ y = cc in
      let (cs, others, is) = begun y (grouped ys) in
      let p : Named (List P) = under y.name (y.changes ∷ cs) in
      let row = y ∷ ys in
      let whole : row ≡ flat_of p ++ flat others = sym (flat_grouped row) ∙ ap flat is in
      let told : ToldApart (p ∷ others) = subst ToldApart is (told_grouped row) in
      let names : y.name ≡ x.name = ap (λ (z : Named P). z.name) (sym same) in
      let many : count ≡ length p.changes = h p.changes (flat others) (whole ∙ ap (λ m. map (under m) p.changes ++ flat others) names) (subst (λ m. OtherName m (flat others)) names told.1) in
      let long : length (flat_of p) ≡ count = length-map p.changes (under p.name) ∙ sym many in
      record {
        patch = p;
        others = others;
        is = is;
        named = names;
        front = ap (take count) whole ∙ take_at (flat_of p) (flat others) count long;
        rest = ap grouped (ap (drop count) whole ∙ drop_at (flat_of p) (flat others) count long) ∙ grouped_flat others told.2;
      }
