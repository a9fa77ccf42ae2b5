-- Where needed patches came to the front of a history, the needed ones have the names that they had, in the same order, and so have the others. No change is lost.
-- Nothing cites it yet: it is what pulling a patch with its needs has to know of gathering.
use Rattle.std.proofs.Common.{◌≡◌, ℕ, ◌+◌, ◌<◌, Bool, true, false, cond, not, ◌||◌, eqb, List, [], ◌∷◌, ◌++◌, map, length, Ok, filter, sym, refl, ap, ◌∙◌, subst, append_assoc, append-nil, arith, length-append}
use Rattle.std.proofs.ByRecursion.{all_kept_by}
use Rattle.std.proofs.lemmas.List.{map-append, length-map}
use Rattle.std.proofs.lemmas.Bool.{and_parts, and_from, or_parts, or_from, not-true, not_from_false}
use Rattle.std.specs.List.{AllByRecursion}
use Rattle.kinds.specs.Theory.{Theory}
use Rattle.kinds.specs.Bounded.{answer}
use Rattle.kinds.specs.Parts.{part}
use Rattle.kinds.specs.Sequences.{and_then, answer_over, sequences}
use Rattle.kinds.proofs.Parts.{part_ok}
use Rattle.kinds.proofs.Sequences.{commuted_lengths}
use Rattle.kinds.proofs.Stepwise.{answer_over_more}
use Rattle.histories.specs.declared.named.Named.{Named}
use Rattle.histories.specs.Named.{under, patches}
use Rattle.histories.specs.History.{holds, stopped_at, gathered}
use Rattle.histories.proofs.Stops.{the_ok, then_ok, commuted_ok}
use Rattle.histories.specs.Flat.{flat_of, flat, OtherName, ToldApart}
use Rattle.forms.specs.Form.{apart}
use Rattle.histories.proofs.Flattening.{commuted_changes}

-- those of h that are named as one of ws, and those that are not
module _ {X : Type 0} (name : X → ℕ) (ws : List X) where
  abbrev pub needed : List X → List X
  needed = filter (λ p. holds name ws (name p))

  abbrev pub unneeded : List X → List X
  unneeded = filter (λ p. not (holds name ws (name p)))

-- a label that commuting keeps
module _ {X F A : Type 0} (T : Theory X F) (label : X → A) (keeps : (p q : X) (s : X × X) → answer T p q ≡ Ok s → (label s.0 ≡ label q) × (label s.1 ≡ label p)) where
  abbrev KeptOver : List X → X → X × List X → Type 0
  KeptOver ps q s = (label s.0 ≡ label q) × (map label s.1 ≡ map label ps)

  over_keeps : (ps : List X) (q : X) (s : X × List X) → answer_over T ps q ≡ Ok s → KeptOver ps q s
  over_keeps [] q s e = subst (KeptOver [] q) (the_ok e) (refl, refl)
  over_keeps (p ∷ ps) q s e =
      let (t, f, g) = then_ok (answer_over T ps q) _ s (sym (answer_over_more T p ps q) ∙ e) in
      let (u, h, i) = then_ok (answer T p t.0) _ s g in
      more t (over_keeps ps q t f) u (keeps p t.0 u h) (the_ok i)
    where
      more : (t : X × List X) → KeptOver ps q t → (u : X × X) → (label u.0 ≡ label t.0) × (label u.1 ≡ label p) → (u.0, u.1 ∷ t.1) ≡ s → KeptOver (p ∷ ps) q s
      more t (a, b) u (c, d) z = subst (KeptOver (p ∷ ps) q) z (c ∙ a, ap (λ y. y ∷ map label t.1) d ∙ ap (λ y. label p ∷ y) b)

  module _ (name : X → ℕ) (ws : List X) where
    abbrev Kept : List X → List X → List X × List X → Type 0
    Kept us h s = (map label s.0 ≡ map label (needed name ws h)) × (map label s.1 ≡ map label us ++ map label (unneeded name ws h))

    pub gathered_keeps : (us h : List X) (s : List X × List X) → gathered T name ws us h ≡ Ok s → Kept us h s
    gathered_keeps us [] s e = subst (Kept us []) (the_ok e) (refl, sym (append-nil (map label us)))
    gathered_keeps us (p ∷ h) s e = by_test (holds name ws (name p)) (λ xs. gathered_keeps xs h) e
      where
        by_test : (b : Bool) → ((xs : List X) (t : List X × List X) → gathered T name ws xs h ≡ Ok t → Kept xs h t)
            → cond b (and_then (answer_over T us p) (λ s. and_then (gathered T name ws s.1 h) (λ t. Ok (s.0 ∷ t.0, t.1)))) (gathered T name ws (us ++ p ∷ []) h) ≡ Ok s
            → (map label s.0 ≡ map label (cond b (p ∷ needed name ws h) (needed name ws h)))
            × (map label s.1 ≡ map label us ++ map label (cond (not b) (p ∷ unneeded name ws h) (unneeded name ws h)))
        by_test true below f =
            let (t, g, i) = then_ok (answer_over T us p) _ s f in
            let (u, j, k) = then_ok (gathered T name ws t.1 h) _ s i in
            more t (over_keeps us p t g) u (below t.1 u j) (the_ok k)
          where
            more : (t : X × List X) → KeptOver us p t → (u : List X × List X) → Kept t.1 h u → (t.0 ∷ u.0, u.1) ≡ s
                → (map label s.0 ≡ label p ∷ map label (needed name ws h)) × (map label s.1 ≡ map label us ++ map label (unneeded name ws h))
            more t (a, b) u (c, d) z =
                subst (λ (y : List X × List X). (map label y.0 ≡ label p ∷ map label (needed name ws h)) × (map label y.1 ≡ map label us ++ map label (unneeded name ws h))) z
                (ap (λ y. y ∷ map label u.0) a ∙ ap (λ y. label p ∷ y) c, d ∙ ap (λ y. y ++ map label (unneeded name ws h)) b)
        by_test false below f =
            let (c, d) = below (us ++ p ∷ []) s f in
            (c, d ∙ ap (λ y. y ++ map label (unneeded name ws h)) (map-append label us (p ∷ [])) ∙ append_assoc (map label us) (label p ∷ []) (map label (unneeded name ws h)))

-- some of the patches
module _ {X : Type 0} (name : X → ℕ) where
  module _ (t : X → Bool) where
    not_kept : (n : ℕ) (h : List X) → holds name h n ≡ false → holds name (filter t h) n ≡ false
    not_kept n [] e = refl
    not_kept n (p ∷ h) e = let (a, b) = or_parts (eqb (name p) n) (holds name h n) e in by_test (t p) a (not_kept n h b)
      where
        by_test : (b : Bool) → eqb (name p) n ≡ false → holds name (filter t h) n ≡ false → holds name (cond b (p ∷ filter t h) (filter t h)) n ≡ false
        by_test true a i = or_from (eqb (name p) n) (holds name (filter t h) n) a i
        by_test false a i = i

    kept_apart : (h : List X) → apart name h ≡ true → apart name (filter t h) ≡ true
    kept_apart [] e = refl
    kept_apart (p ∷ h) e = let (a, b) = and_parts (not (holds name h (name p))) (apart name h) e in by_test (t p) (not_kept (name p) h (not-true _ a)) (kept_apart h b)
      where
        by_test : (b : Bool) → holds name (filter t h) (name p) ≡ false → apart name (filter t h) ≡ true → apart name (cond b (p ∷ filter t h) (filter t h)) ≡ true
        by_test true a i = and_from (not (holds name (filter t h) (name p))) (apart name (filter t h)) (not_from_false _ a) i
        by_test false a i = i

-- of labels, each of which is the name of a patch and the number of its changes: all changes, and what tells the patches apart
abbrev total : List (ℕ × ℕ) → ℕ
total [] = 0
total (l ∷ ls) = l.1 + total ls

abbrev LabelsApart : List (ℕ × ℕ) → Type 0
LabelsApart [] = Unit {0}
LabelsApart (l ∷ ls) = (0 < l.1) × (holds (λ (k : ℕ × ℕ). k.0) ls l.0 ≡ false) × LabelsApart ls

module _ {P : Type 0} where
  abbrev by_name : Named (List P) → ℕ
  by_name p = p.name

  -- each patch has changes
  abbrev pub Filled : List (Named (List P)) → Type 0
  Filled = AllByRecursion (λ p. 0 < length p.changes)

  pub filled : (h : List (Named (List P))) → ToldApart h → Filled h
  filled [] t = tt
  filled (p ∷ h) (a, _, b) = (a, filled h b)

  -- the name of a patch, and the number of its changes
  abbrev pub label : Named (List P) → ℕ × ℕ
  label p = (p.name, length p.changes)

  flat_total : (h : List (Named (List P))) → length (flat h) ≡ total (map label h)
  flat_total [] = refl
  flat_total (p ∷ h) = let i = flat_total h in length-append (flat_of p) (flat h) ∙ omega (arith, length-map p.changes (under p.name))

  total_parts : (t : Named (List P) → Bool) (h : List (Named (List P))) → total (map label (filter t h)) + total (map label (filter (λ p. not (t p)) h)) ≡ total (map label h)
  total_parts t [] = refl
  total_parts t (p ∷ h) = by_test (t p) (total_parts t h)
    where
      by_test : (b : Bool) → total (map label (filter t h)) + total (map label (filter (λ p. not (t p)) h)) ≡ total (map label h)
          → total (map label (cond b (p ∷ filter t h) (filter t h))) + total (map label (cond (not b) (p ∷ filter (λ p. not (t p)) h) (filter (λ p. not (t p)) h))) ≡ length p.changes + total (map label h)
      by_test true i = omega arith
      by_test false i = omega arith

  holds_label : (h : List (Named (List P))) (n : ℕ) → holds (λ (k : ℕ × ℕ). k.0) (map label h) n ≡ holds by_name h n
  holds_label [] n = refl
  holds_label (p ∷ h) n = ap (λ b. eqb p.name n || b) (holds_label h n)

  labels_apart : (h : List (Named (List P))) → apart by_name h ≡ true → Filled h → LabelsApart (map label h)
  labels_apart [] e f = tt
  labels_apart (p ∷ h) e (f, g) =
      let (a, b) = and_parts (not (holds by_name h p.name)) (apart by_name h) e in
      (f, holds_label h p.name ∙ not-true _ a, labels_apart h b g)

  told_by_labels : (h : List (Named (List P))) → LabelsApart (map label h) → ToldApart h
  told_by_labels [] l = tt
  told_by_labels (p ∷ h) (a, b, c) = (a, other h b c, told_by_labels h c)
    where
      first : (q : Named (List P)) (cs : List P) (h : List (Named (List P))) → 0 < length cs → eqb q.name p.name ≡ false → OtherName p.name (map (under q.name) cs ++ flat h)
      first q [] h l e = absurd (omega arith)
      first q (c ∷ cs) h l e = e

      other : (h : List (Named (List P))) → holds (λ (k : ℕ × ℕ). k.0) (map label h) p.name ≡ false → LabelsApart (map label h) → OtherName p.name (flat h)
      other [] b c = tt
      other (q ∷ h) b (l, _, _) = first q q.changes h l (or_parts (eqb q.name p.name) (holds (λ (k : ℕ × ℕ). k.0) (map label h) p.name) b).0

module _ {P F : Type 0} (T : Theory P F) where
  -- patches that commute keep their names, and the numbers of their changes
  patch_keeps : (p q : Named (List P)) (s : Named (List P) × Named (List P)) → answer (patches T) p q ≡ Ok s → (label s.0 ≡ label q) × (label s.1 ≡ label p)
  patch_keeps p q s e =
      let (a, f, g) = part_ok (λ (c : List P × List P). (under q.name c.0, under p.name c.1)) (stopped_at by_name p) (answer (sequences T) p.changes q.changes) s
      (sym (commuted_changes T p p q) ∙ ap (part (λ r. r) (stopped_at by_name p)) e) in
      let (_, c) = commuted_ok (sequences T) length p.changes p.changes q.changes a (ap (part (λ r. r) (stopped_at length p.changes)) f) in
      let (m, n) = commuted_lengths T p.changes q.changes a.0 a.1 c in
      (ap (λ (y : Named (List P) × Named (List P)). label y.0) (sym g) ∙ ap (λ k. (q.name, k)) m, ap (λ (y : Named (List P) × Named (List P)). label y.1) (sym g) ∙ ap (λ k. (p.name, k)) n)

  module _ (ws h vs ks : List (Named (List P))) (e : gathered (patches T) by_name ws [] h ≡ Ok (vs, ks)) where
    pub labels_kept : (map label vs ≡ map label (needed by_name ws h)) × (map label ks ≡ map label (unneeded by_name ws h))
    labels_kept = gathered_keeps (patches T) label patch_keeps by_name ws [] h (vs, ks) e

    pub names_kept : (map by_name vs ≡ map by_name (needed by_name ws h)) × (map by_name ks ≡ map by_name (unneeded by_name ws h))
    names_kept = gathered_keeps (patches T) by_name (λ p q s f. let (a, b) = patch_keeps p q s f in (ap (λ (l : ℕ × ℕ). l.0) a, ap (λ (l : ℕ × ℕ). l.0) b)) by_name ws [] h (vs, ks) e

    pub changes_kept : length (flat vs) + length (flat ks) ≡ length (flat h)
    changes_kept =
        let (a, b) = labels_kept in
        let c : length (flat vs) ≡ total (map label (needed by_name ws h)) = flat_total vs ∙ ap total a in
        let d : length (flat ks) ≡ total (map label (unneeded by_name ws h)) = flat_total ks ∙ ap total b in
        let f = total_parts (λ p. holds by_name ws p.name) h in
        omega (arith, flat_total h)

    pub others_apart : apart by_name h ≡ true → Filled h → ToldApart ks
    others_apart a f =
        told_by_labels ks (subst (λ (l : List (ℕ × ℕ)). LabelsApart l) (sym labels_kept.1)
        (labels_apart (unneeded by_name ws h) (kept_apart by_name (λ p. not (holds by_name ws p.name)) h a) (all_kept_by _ _ h f)))
