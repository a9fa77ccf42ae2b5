-- The first patch of a name, found patch by patch.
use Rattle.std.specs.Prelude.{option_map}
use Rattle.std.proofs.Common.{◌≡◌, ℕ, ◌+◌, ◌<◌, ◌≤◌, Bool, true, false, cond, ◌||◌, eqb, List, [], ◌∷◌, ◌++◌, map, length, drop, is_some, Some, None, Option, sym, refl, ap, ◌∙◌, subst, arith}
use Rattle.std.specs.List.{between, position_from}
use Rattle.std.proofs.lemmas.Bool.{eqb-true, true≢false}
use Rattle.std.proofs.lemmas.List.{drop_at}
use Rattle.std.proofs.lemmas.Slice.{between_to_end}
use Rattle.histories.specs.declared.named.Named.{Named}
use Rattle.histories.specs.History.{holds}
use Rattle.histories.specs.Named.{under}
use Rattle.histories.specs.Flat.{flat_of, flat, OtherName, ToldApart}
use Rattle.histories.proofs.Flattening.{flat_append}
use Rattle.rows.specs.declared.place.Place.{Place}
use Rattle.forms.specs.Form.{grouped}
use Rattle.forms.specs.Find.{Standing, one_before, standing, place_of}
use Rattle.forms.proofs.Grouping.{flat_length, flat_grouped, told_grouped, told_parts}

module _ {P : Type 0} (name : P → ℕ) where
  -- a patch that stands in a history
  pub record StandsIn (h : List P) (n : ℕ) (w : Standing P) : Type 0 where
    pub parts : h ≡ w.before ++ w.itself ∷ w.behind
    pub has_name : name w.itself ≡ n
    pub none_before : holds name w.before n ≡ false

  pub stands_in : (h : List P) (n : ℕ) (w : Standing P) → standing name h n ≡ Some w → StandsIn h n w
  stands_in [] n w e = absurd (let z : ◌≡◌ {A = ℕ} 0 1 = cc in omega arith)
  stands_in (p ∷ h) n w e = on (λ v k. stands_in h n v k) (eqb (name p) n) refl e
    where
      later : ((v : Standing P) → standing name h n ≡ Some v → StandsIn h n v) → eqb (name p) n ≡ false → (o : Option (Standing P)) → standing name h n ≡ o → option_map (one_before name p) o ≡ Some w → StandsIn (p ∷ h) n w
      later below b None k f = absurd (let z : ◌≡◌ {A = ℕ} 0 1 = cc in omega arith)
      later below b (Some v) k f =
          let i = below v k in
          let same : one_before name p v ≡ w = cc in
          rw (sym same) (record { parts = ap (λ z. p ∷ z) i.parts; has_name = i.has_name; none_before = rw b i.none_before })

      on : ((v : Standing P) → standing name h n ≡ Some v → StandsIn h n v) → (b : Bool) → eqb (name p) n ≡ b
          → cond b (Some (record { before = []; itself = p; behind = h })) (option_map (one_before name p) (standing name h n)) ≡ Some w → StandsIn (p ∷ h) n w
      on below true b f = let same : record { before = []; itself = p; behind = h } ≡ w = cc in rw (sym same) (record { parts = refl; has_name = eqb-true (name p) n b; none_before = refl })
      on below false b f = later below b (standing name h n) refl f

  -- a history holds a name if a patch of it is found
  pub standing_held : (h : List P) (n : ℕ) → is_some (standing name h n) ≡ holds name h n
  standing_held [] n = refl
  standing_held (p ∷ h) n = on (eqb (name p) n) ∙ ap (λ b. eqb (name p) n || b) (standing_held h n)
    where
      mapped : (o : Option (Standing P)) → is_some (option_map (one_before name p) o) ≡ is_some o
      mapped None = refl
      mapped (Some v) = refl

      on : (b : Bool) → is_some (cond b (Some (record { before = []; itself = p; behind = h })) (option_map (one_before name p) (standing name h n))) ≡ (b || is_some (standing name h n))
      on true = refl
      on false = mapped (standing name h n)

  pub finds : (h : List P) (n : ℕ) → holds name h n ≡ true → (w : Standing P) × (standing name h n ≡ Some w)
  finds h n e = on (standing name h n) refl
    where
      on : (o : Option (Standing P)) → standing name h n ≡ o → (w : Standing P) × (standing name h n ≡ Some w)
      on (Some w) k = (w, k)
      on None k = absurd (true≢false (sym e ∙ sym (standing_held h n) ∙ ap is_some k))

module _ {P : Type 0} (n : ℕ) where
  -- r is the place of the first patch of the name
  abbrev pub Finds : List (Named P) → Option Place → Type 0
  Finds row r = r ≡ option_map place_of (standing (λ w. w.name) (grouped row) n)

  -- a history holds a name if a patch of it is found
  pub held_found : (row : List (Named P)) (r : Option Place) → Finds row r → is_some r ≡ holds (λ w. w.name) (grouped row) n
  held_found row r e = ap is_some e ∙ mapped (standing (λ (w : Named (List P)). w.name) (grouped row) n) ∙ standing_held (λ w. w.name) (grouped row) n
    where
      mapped : (o : Option (Standing (Named (List P)))) → is_some (option_map place_of o) ≡ is_some o
      mapped None = refl
      mapped (Some w) = refl

-- a patch that was found, with the changes before it and those behind it
pub found_row : {P : Type 0} (row : List (Named P)) (n : ℕ) (w : Standing (Named (List P))) → standing (λ w. w.name) (grouped row) n ≡ Some w
    → row ≡ flat w.before ++ (flat_of w.itself ++ flat w.behind)
found_row row n w e = sym (flat_grouped row) ∙ ap flat (stands_in (λ w. w.name) (grouped row) n w e).parts ∙ flat_append w.before (w.itself ∷ w.behind)

module _ {P : Type 0} (n : ℕ) where
  abbrev pub named : Named P → Bool
  named c = eqb c.name n

  -- changes of another name are passed
  others_passed : (m : ℕ) (cs : List P) (behind : List (Named P)) (k : ℕ) → eqb m n ≡ false → position_from named k (map (under m) cs ++ behind) ≡ position_from named (k + length cs) behind
  others_passed m [] behind k e = ap (λ k. position_from named k behind) (omega arith)
  others_passed m (c ∷ cs) behind k e = rw e (others_passed m cs behind (k + 1) e ∙ ap (λ k. position_from named k behind) (omega arith))

  -- the first change of the name is where the first patch of the name begins
  begins : (h : List (Named (List P))) (k : ℕ) → ToldApart h → position_from named k (flat h) ≡ option_map (λ w. k + length (flat w.before)) (standing (λ w. w.name) h n)
  begins [] k t = refl
  begins (p ∷ h) k t = on (eqb p.name n) refl (begins h (k + length p.changes) t.2)
    where
      here : (cs : List P) → 0 < length cs → eqb p.name n ≡ true → position_from named k (map (under p.name) cs ++ flat h) ≡ Some (k + 0)
      here [] some e = absurd (omega arith)
      here (c ∷ cs) some e = rw e (ap Some (omega arith))

      on : (b : Bool) → eqb p.name n ≡ b → position_from named (k + length p.changes) (flat h) ≡ option_map (λ w. (k + length p.changes) + length (flat w.before)) (standing (λ w. w.name) h n)
          → position_from named k (flat (p ∷ h))
          ≡ option_map (λ w. k + length (flat w.before)) (cond b (Some (record { before = []; itself = p; behind = h })) (option_map (one_before (λ w. w.name) p) (standing (λ w. w.name) h n)))
      on true e below = here p.changes t.0 e
      on false e below = others_passed p.name p.changes (flat h) k e ∙ below ∙ later (standing (λ w. w.name) h n)
        where
          later : (o : Option (Standing (Named (List P)))) → option_map (λ w. (k + length p.changes) + length (flat w.before)) o ≡ option_map (λ w. k + length (flat w.before)) (option_map (one_before (λ w. w.name) p) o)
          later None = refl
          later (Some w) = let l = flat_length p w.before in ap Some (omega arith)

  module _ (row : List (Named P)) (r : Option ℕ) (is : r ≡ position_from named 0 row) where
    first_at : r ≡ option_map (λ w. 0 + length (flat w.before)) (standing (λ w. w.name) (grouped row) n)
    first_at = is ∙ ap (position_from named 0) (sym (flat_grouped row)) ∙ begins (grouped row) 0 (told_grouped row)

    pub none_found : r ≡ None → Finds n row None
    none_found e = on (standing (λ w. w.name) (grouped row) n) (sym e ∙ first_at)
      where
        on : (o : Option (Standing (Named (List P)))) → None ≡ option_map (λ w. 0 + length (flat w.before)) o → None ≡ option_map place_of o
        on None k = refl
        on (Some w) k = absurd (let z : ◌≡◌ {A = ℕ} 0 1 = cc in omega arith)

    pub one_found : (start count : ℕ) → r ≡ Some start → ((cs : List P) (behind : List (Named P)) → between start (length row) row ≡ map (under n) cs ++ behind → OtherName n behind → count ≡ length cs)
        → start ≤ length row → Finds n row (Some (record { start = start; count = count }))
    one_found start count e h l = on (standing (λ w. w.name) (grouped row) n) refl (sym e ∙ first_at)
      where
        on : (o : Option (Standing (Named (List P)))) → standing (λ w. w.name) (grouped row) n ≡ o → Some start ≡ option_map (λ w. 0 + length (flat w.before)) o
            → Some (record { start = start; count = count }) ≡ option_map place_of o
        on None s k = absurd (let z : ◌≡◌ {A = ℕ} 0 1 = cc in omega arith)
        on (Some w) s k =
            let at : start ≡ 0 + length (flat w.before) = cc in
            let begin : start ≡ length (flat w.before) = omega arith in
            let i = stands_in (λ w. w.name) (grouped row) n w s in
            let told = (told_parts w.before (w.itself ∷ w.behind) (subst ToldApart i.parts (told_grouped row))).1 in
            let parts : between start (length row) row ≡ flat_of w.itself ++ flat w.behind =
            between_to_end row start (length row) (omega arith) ∙ ap (drop start) (found_row row n w s) ∙ drop_at (flat w.before) (flat_of w.itself ++ flat w.behind) start (sym begin) in
            let many = h w.itself.changes (flat w.behind) (parts ∙ ap (λ m. map (under m) w.itself.changes ++ flat w.behind) i.has_name) (subst (λ m. OtherName m (flat w.behind)) i.has_name told.1) in
            ap Some (λ j. record { start = begin j; count = many j })
