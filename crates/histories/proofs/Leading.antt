-- The changes of one patch at the front of a row, and their inverses.
use Rattle.std.proofs.Common.{◌≡◌, ℕ, ◌<◌, Bool, true, false, eqb, List, [], ◌∷◌, ◌++◌, map, reverse, length, get_or, refl, ap, ◌∙◌, arith}
use Rattle.std.specs.List.{prefix_len}
use Rattle.std.proofs.lemmas.List.{reverse-append, map-append}
use Rattle.std.proofs.lemmas.Bool.{eq-eqb, eqb-true}
use Rattle.kinds.specs.Theory.{Theory}
use Rattle.kinds.specs.Sequences.{inverses}
use Rattle.histories.specs.declared.named.Named.{Named}
use Rattle.histories.specs.Named.{under}
use Rattle.histories.specs.Flat.{OtherName}

-- the changes of a name at the front of a row are counted one by one
pub leads : {P : Type 0} (name : ℕ) (cs : List P) (behind : List (Named P)) → OtherName name behind → prefix_len (λ (w : Named P). eqb w.name name) (map (under name) cs ++ behind) ≡ length cs
leads name [] [] o = refl
leads name [] (y ∷ ys) o = rw o refl
leads name (c ∷ cs) behind o = rw (eq-eqb name name refl, leads name cs behind o) (omega arith)

-- every row begins with changes of a name, perhaps with none, and goes on with another name
front_of : {P : Type 0} (name : ℕ) (row : List (Named P)) → (cs : List P) × (behind : List (Named P)) × (row ≡ map (under name) cs ++ behind) × OtherName name behind
front_of name [] = ([], [], refl, tt)
front_of {P} name (x ∷ row) = on (front_of name row) (eqb x.name name) refl
  where
    on : (cs : List P) × (behind : List (Named P)) × (row ≡ map (under name) cs ++ behind) × OtherName name behind → (b : Bool) → eqb x.name name ≡ b
        → (cs : List P) × (behind : List (Named P)) × (x ∷ row ≡ map (under name) cs ++ behind) × OtherName name behind
    on (cs, behind, e, o) true h = (x.changes ∷ cs, behind, ap (λ z. under z x.changes ∷ row) (eqb-true x.name name h) ∙ ap (λ z. under name x.changes ∷ z) e, o)
    on below false h = ([], x ∷ row, refl, h)

-- one that is counted for its own name is one at least
pub first_counted : {P : Type 0} (row : List (Named P)) (x : Named P) (r : ℕ) → 0 < length row
    → ((cs : List P) (behind : List (Named P)) → row ≡ map (under (get_or row 0 x).name) cs ++ behind → OtherName (get_or row 0 x).name behind → r ≡ length cs) → 0 < r
first_counted [] x r n h = absurd (omega arith)
first_counted (y ∷ row) x r n h = let (cs, behind, e, o) = front_of y.name row in let k = h (y.changes ∷ cs) behind (ap (λ z. y ∷ z) e) o in omega arith

module _ {P F : Type 0} (T : Theory P F) where
  pub inverted : (ps : List P) → map T.invert (reverse ps) ≡ inverses T ps
  inverted [] = refl
  inverted (p ∷ ps) = ap (map T.invert) (reverse-append (p ∷ []) ps) ∙ map-append T.invert (reverse ps) (p ∷ []) ∙ ap (λ z. z ++ T.invert p ∷ []) (inverted ps)
