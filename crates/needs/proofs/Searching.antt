-- The search for a block, in a flat row.
use Rattle.std.proofs.Common.{◌≡◌, ℕ, ◌+◌, ◌-◌, ◌<◌, ◌≤◌, List, [], ◌∷◌, ◌++◌, map, length, get_or, take, drop, Ok, Err, Result, sym, refl, ap, ◌∙◌, subst, append_assoc, arith, length-append, get_or-take}
use borrow.Rule.Slice.PartMut.{put_mid}
use Rattle.std.proofs.lemmas.List.{take_at, drop_at, append-nil, length-map, length-take-le}
use Rattle.std.proofs.lemmas.Slice.{between_to_end}
use Rattle.std.specs.List.{between}
use Rattle.kinds.specs.Theory.{Theory}
use Rattle.kinds.specs.Sequences.{and_then}
use Rattle.histories.specs.declared.Stop.{Stop}
use Rattle.histories.specs.declared.named.Named.{Named}
use Rattle.histories.specs.Named.{under, patches}
use Rattle.histories.specs.History.{Block, over_block, or_joins, block}
use Rattle.histories.specs.Flat.{flat_of, flat, OtherName, ToldApart}
use Rattle.histories.proofs.Flattening.{flat_append}
use Rattle.histories.proofs.Leading.{first_counted}
use Rattle.histories.proofs.PassingBy.{put_is}
use Rattle.forms.proofs.Grouping.{told_parts}
use Rattle.needs.specs.Block.{flat_block, Found}
use Rattle.needs.proofs.Trying.{Tries}

-- the changes of a history that ends with n
ends_long : {P : Type 0} (ps : List (Named (List P))) (n : Named (List P)) → length (flat (ps ++ n ∷ [])) ≡ length (flat ps) + length n.changes
ends_long ps n =
    ap length (flat_append ps (n ∷ []) ∙ ap (λ z. flat ps ++ z) (append-nil (flat_of n))) ∙ length-append (flat ps) (flat_of n) ∙ ap (λ k. length (flat ps) + k) (length-map n.changes (under n.name))

module _ {P F : Type 0} (T : Theory P F) where
  abbrev by_name : Named (List P) → ℕ
  by_name w = w.name

  -- the block of the last patch of the row was searched
  abbrev Finds : List (Named P) → List (Named P) → ℕ → Result ℕ Stop → List (Named P) → Type 0
  Finds row work count r left = (ps : List (Named (List P))) (n : Named (List P)) → row ≡ flat (ps ++ n ∷ []) → ToldApart (ps ++ n ∷ []) → length n.changes ≡ count
      → length row ≤ length work → Found count (block (patches T) by_name ps n) r left

  module _ (row work : List (Named P)) (count before : ℕ) (b : before ≡ length row - count) where
    pub alone : before ≡ 0 → Finds row work count (Ok 0) row
    alone z [] n e t l w = (refl, l, ([], e))
    alone z (p ∷ ps) n e t l w =
        absurd (let a = ap length e ∙ length-append (flat_of p) (flat (ps ++ n ∷ [])) in let c = t.0 in omega (arith, length-map p.changes (under p.name), ends_long ps n))

    -- some are in front of the patch, and the first of them have the name of the first of all
    module _ (z : before ≡ 0 → ⊥) (first : ℕ) (x : Named P)
        (h : (cs : List P) (behind : List (Named P)) → take before row ≡ map (under (get_or row 0 x).name) cs ++ behind → OtherName (get_or row 0 x).name behind → first ≡ length cs) where
      pub first_some : 0 < first
      first_some =
          let some : 0 < length (take before row) = let l = length-take-le before row (omega arith) in omega arith in
          let positive : 0 < before = omega arith in
          let same : get_or (take before row) 0 x ≡ get_or row 0 x = get_or-take before row 0 x positive in
          first_counted (take before row) x first some (λ cs behind e o. h cs behind (e ∙ ap (λ y. map (under y.name) cs ++ behind) same) (subst (λ (y : Named P). OtherName y.name behind) same o))

      -- there is a patch in front
      one_there : (n : Named (List P)) → row ≡ flat (n ∷ []) → length n.changes ≡ count → ⊥
      one_there n e l = z (let a = ap length e ∙ ap length (append-nil (flat_of n)) ∙ length-map n.changes (under n.name) in omega arith)

      counted : (k : ℕ) (cs : List P) (behind : List (Named P)) → (get_or row 0 x).name ≡ k → take before row ≡ map (under k) cs ++ behind → OtherName k behind → first ≡ length cs
      counted k cs behind same e o = h cs behind (e ∙ ap (λ z. map (under z) cs ++ behind) (sym same)) (subst (λ z. OtherName z behind) (sym same) o)

      named : (k : ℕ) (cs : List P) (behind : List (Named P)) → row ≡ map (under k) cs ++ behind → 0 < length cs → (get_or row 0 x).name ≡ k
      named k [] behind e s = absurd (omega arith)
      named k (c ∷ cs) behind e s = ap (λ z. (get_or z 0 x).name) e

      first_is : (p : Named (List P)) (ps : List (Named (List P))) (n : Named (List P)) → row ≡ flat (p ∷ ps ++ n ∷ []) → ToldApart (p ∷ ps ++ n ∷ []) → length n.changes ≡ count
          → length p.changes ≡ first
      first_is p ps n e t l =
          let whole : row ≡ flat (p ∷ ps) ++ flat_of n = e ∙ flat_append (p ∷ ps) (n ∷ []) ∙ ap (λ z. flat (p ∷ ps) ++ z) (append-nil (flat_of n)) in
          let long : length (flat (p ∷ ps)) ≡ before = let a = ap length whole ∙ length-append (flat (p ∷ ps)) (flat_of n) in omega (arith, length-map n.changes (under n.name)) in
          let told = (told_parts (p ∷ ps) (n ∷ []) t).0 in
          sym (counted p.name p.changes (flat ps) (named p.name p.changes (flat (ps ++ n ∷ [])) e t.0) (ap (take before) whole ∙ take_at (flat (p ∷ ps)) (flat_of n) before long) told.1)

      -- the row without the first patch
      behind_is : (p : Named (List P)) (k : List (Named P)) → row ≡ flat_of p ++ k → length p.changes ≡ first → between first (length row) row ≡ k
      behind_is p k e l = between_to_end row first (length row) (omega arith) ∙ ap (drop first) e ∙ drop_at (flat_of p) k first (length-map p.changes (under p.name) ∙ l)

      -- the search among the later ones
      later : (s : Result ℕ Stop) (mid : List (Named P)) → Finds (between first (length row) row) work count s mid → (p : Named (List P)) (ps : List (Named (List P))) (n : Named (List P))
          → row ≡ flat (p ∷ ps ++ n ∷ []) → ToldApart (p ∷ ps ++ n ∷ []) → length n.changes ≡ count → length row ≤ length work → Found count (block (patches T) by_name ps n) s mid
      later s mid i p ps n e t l w =
          let f = behind_is p (flat (ps ++ n ∷ [])) e (first_is p ps n e t l) in
          i ps n f t.2 l (let a = ap length f in let c = ap length e ∙ length-append (flat_of p) (flat (ps ++ n ∷ [])) in omega arith)

      pub stopped : (mid left : List (Named P)) (y : Stop) → Finds (between first (length row) row) work count (Err y) mid → Finds row work count (Err y) left
      stopped mid left y i [] n e t l w = absurd (one_there n e l)
      stopped mid left y i (p ∷ ps) n e t l w = on (block (patches T) by_name ps n) (later (Err y) mid i p ps n e t l w)
        where
          on : (a : Result (Block (Named (List P))) Stop) → Found count a (Err y) mid → Found count (and_then a (λ b. or_joins (patches T) by_name p b (over_block (patches T) by_name p b))) (Err y) left
          on (Ok b) f = absurd (let z : ◌≡◌ {A = ℕ} 0 1 = cc f.0 in omega arith)
          on (Err v) f = f

      -- the first patch was tried on the block of the later ones
      module _ (k : ℕ) (mid tried kept : List (Named P)) (r : Result ℕ Stop) where
        abbrev held : List (Named P)
        held = put_mid first (length row - first) row mid

        abbrev rest : List (Named P)
        rest = drop (first + k + count) held

        longer : (a : Result (Block (Named (List P))) Stop) → Found count a r tried → Found count a r (tried ++ rest)
        longer (Ok b) (f, l, (more, e)) = (f, l, (more ++ rest, ap (λ y. y ++ rest) e ∙ append_assoc (flat_block b) more rest))
        longer (Err y) f = f

        pub tried_on : Finds (between first (length row) row) work count (Ok k) mid → length kept ≡ length work → length held ≡ length row
            → Tries T (take (first + k + count) held) kept first count r tried → Finds row work count r (tried ++ rest)
        tried_on i q u j [] n e t l w = absurd (one_there n e l)
        tried_on i q u j (p ∷ ps) n e t l w = on (block (patches T) by_name ps n) (later (Ok k) mid i p ps n e t l w)
          where
            on : (a : Result (Block (Named (List P))) Stop) → Found count a (Ok k) mid
                → Found count (and_then a (λ b. or_joins (patches T) by_name p b (over_block (patches T) by_name p b))) r (tried ++ rest)
            on (Err v) f = absurd (let z : ◌≡◌ {A = ℕ} 0 1 = cc in omega arith)
            on (Ok b) (f, g, (more, y)) =
                let so : length p.changes ≡ first = first_is p ps n e t l in
                let many : k ≡ length (flat b.needs) = cc in
                let put : held ≡ (flat_of p ++ flat_block b) ++ more =
                put_is T row mid first 0 (flat_of p) (flat (ps ++ n ∷ [])) e (length-map p.changes (under p.name) ∙ so)
                ∙ ap (λ z. flat_of p ++ z) y ∙ sym (append_assoc (flat_of p) (flat_block b) more) in
                let long : length (flat_of p ++ flat_block b) ≡ first + k + count =
                length-append (flat_of p) (flat_block b)
                ∙ omega (arith, length-append (flat b.needs) (flat_of b.itself), length-map p.changes (under p.name), length-map b.itself.changes (under b.itself.name)) in
                let cut : take (first + k + count) held ≡ flat_of p ++ flat_block b = ap (take (first + k + count)) put ∙ take_at (flat_of p ++ flat_block b) more (first + k + count) long in
                longer (or_joins (patches T) by_name p b (over_block (patches T) by_name p b))
                (j p b cut so g (let a = ap length cut in let c = ap length put ∙ length-append (flat_of p ++ flat_block b) more in omega arith))
