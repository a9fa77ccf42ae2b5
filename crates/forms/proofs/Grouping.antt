-- The history in a flat row: it is the one whose flat row this is, and whose patches are told apart.
use Rattle.std.proofs.Common.{◌≡◌, ℕ, ◌+◌, ◌<◌, ◌≤◌, false, eqb, List, [], ◌∷◌, ◌++◌, map, length, sym, refl, ap, ◌∙◌, subst, arith, length-append}
use Rattle.std.proofs.lemmas.List.{append-nil, length-map}
use Rattle.std.proofs.lemmas.Bool.{eqb-true, eqb-false, eq-eqb, ne_eqb, cond-true, cond-false, cond_both, or_parts}
use Rattle.histories.specs.declared.named.Named.{Named}
use Rattle.histories.specs.Named.{under}
use Rattle.histories.specs.History.{holds}
use Rattle.histories.specs.Flat.{flat_of, flat, OtherName, ToldApart}
use Rattle.histories.proofs.Flattening.{flat_append}
use Rattle.forms.specs.Form.{put_before, grouped}

eqb_turned : (m n : ℕ) → eqb m n ≡ false → eqb n m ≡ false
eqb_turned m n e = ne_eqb n m (λ k. eqb-false m n e (sym k))

abbrev History : Type 0 → Type 0
History P = List (Named (List P))

module _ {P : Type 0} where
  -- flat rows
  pub flat_length : (p : Named (List P)) (h : History P) → length (flat (p ∷ h)) ≡ length p.changes + length (flat h)
  flat_length p h = length-append (flat_of p) (flat h) ∙ ap (λ n. n + length (flat h)) (length-map p.changes (under p.name))

  -- a patch with changes, of another name, stands in front
  other_front : (n m : ℕ) (cs : List P) (rest : List (Named P)) → 0 < length cs → eqb m n ≡ false → OtherName n (map (under m) cs ++ rest)
  other_front n m [] rest some e = absurd (omega arith)
  other_front n m (c ∷ cs) rest some e = e

  -- and the other way round
  front_other : (n m : ℕ) (cs : List P) (rest : List (Named P)) → 0 < length cs → OtherName n (map (under m) cs ++ rest) → eqb m n ≡ false
  front_other n m [] rest some o = absurd (omega arith)
  front_other n m (c ∷ cs) rest some o = o

  -- one change more in front
  flat_put : (c : Named P) (h : History P) → flat (put_before c h) ≡ c ∷ flat h
  flat_put c [] = refl
  flat_put c (p ∷ h) = cond_both (eqb c.name p.name) _ _ (λ (z : History P). flat z ≡ c ∷ flat (p ∷ h))
      (λ e. ap (λ (n : ℕ). under n c.changes ∷ flat (p ∷ h)) (sym (eqb-true c.name p.name e))) (λ e. refl)

  told_put : (c : Named P) (h : History P) → ToldApart h → ToldApart (put_before c h)
  told_put c [] t = (omega arith, tt, tt)
  told_put c (p ∷ h) t = cond_both (eqb c.name p.name) _ _ (λ (z : History P). ToldApart z)
      (λ e. (omega arith, t.1, t.2)) (λ e. (omega arith, other_front c.name p.name p.changes (flat h) t.0 (eqb_turned c.name p.name e), t))

  -- the row is the flat row of its history ...
  pub flat_grouped : (row : List (Named P)) → flat (grouped row) ≡ row
  flat_grouped [] = refl
  flat_grouped (c ∷ row) = flat_put c (grouped row) ∙ ap (λ z. c ∷ z) (flat_grouped row)

  -- ... whose patches are told apart
  pub told_grouped : (row : List (Named P)) → ToldApart (grouped row)
  told_grouped [] = tt
  told_grouped (c ∷ row) = told_put c (grouped row) (told_grouped row)

  -- a change of another name than the first patch is a patch by itself ...
  put_other : (n : ℕ) (c : P) (h : History P) → ToldApart h → OtherName n (flat h) → put_before (under n c) h ≡ under n (c ∷ []) ∷ h
  put_other n c [] t o = refl
  put_other n c (p ∷ h) t o = cond-false (eqb n p.name) _ _ (eqb_turned p.name n (front_other n p.name p.changes (flat h) t.0 o))

  -- ... and changes of one name are one patch
  put_all : (n : ℕ) (c : P) (cs : List P) (row : List (Named P)) (h : History P) → grouped row ≡ h → ToldApart h → OtherName n (flat h)
      → grouped (map (under n) (c ∷ cs) ++ row) ≡ under n (c ∷ cs) ∷ h
  put_all n c [] row h e t o = ap (put_before (under n c)) e ∙ put_other n c h t o
  put_all n c (d ∷ cs) row h e t o = ap (put_before (under n c)) (put_all n d cs row h e t o) ∙ cond-true (eqb n n) _ _ (eq-eqb n n refl)

  -- a history whose patches are told apart is the one in its flat row
  pub grouped_flat : (h : History P) → ToldApart h → grouped (flat h) ≡ h
  grouped_flat [] t = refl
  grouped_flat (p ∷ h) t = on p.changes t.0 (grouped_flat h t.2)
    where
      on : (cs : List P) → 0 < length cs → grouped (flat h) ≡ h → grouped (map (under p.name) cs ++ flat h) ≡ under p.name cs ∷ h
      on [] some e = absurd (omega arith)
      on (c ∷ cs) some e = put_all p.name c cs (flat h) h e t.2 t.1

  -- the same first patch stands in front of other patches
  same_front : (n : ℕ) (p : Named (List P)) (g h : History P) → 0 < length p.changes → OtherName n (flat (p ∷ g)) → OtherName n (flat (p ∷ h))
  same_front n p g h some o = other_front n p.name p.changes (flat h) some (front_other n p.name p.changes (flat g) some o)

  -- parts of a history
  pub told_parts : (g h : History P) → ToldApart (g ++ h) → ToldApart g × ToldApart h
  told_parts [] h t = (tt, t)
  told_parts (p ∷ []) h t = ((t.0, tt, tt), t.2)
  told_parts (p ∷ q ∷ g) h t =
      let r = told_parts (q ∷ g) h t.2 in ((t.0, same_front p.name q (g ++ h) g t.2.0 t.1, r.0), r.1)

  -- one patch more, of a name that is not held
  pub told_more : (h : History P) (p : Named (List P)) → ToldApart h → 0 < length p.changes → holds (λ w. w.name) h p.name ≡ false → ToldApart (h ++ p ∷ [])
  told_more [] p t some e = (some, tt, tt)
  told_more (q ∷ []) p t some e =
      (t.0, other_front q.name p.name p.changes [] some (eqb_turned q.name p.name (or_parts (eqb q.name p.name) false e).0), (some, tt, tt))
  told_more (q ∷ r ∷ h) p t some e = (
    t.0,
    same_front q.name r h (h ++ p ∷ []) t.2.0 t.1,
    told_more (r ∷ h) p t.2 some (or_parts (eqb q.name p.name) (holds (λ (w : Named (List P)). w.name) (r ∷ h) p.name) e).1,
  )

  pub grouped_more : (row : List (Named P)) (p : Named (List P)) → 0 < length p.changes → holds (λ w. w.name) (grouped row) p.name ≡ false
      → grouped (row ++ flat_of p) ≡ grouped row ++ p ∷ []
  grouped_more row p some e =
      ap grouped (ap (λ z. z ++ flat_of p) (sym (flat_grouped row)) ∙ ap (λ z. flat (grouped row) ++ z) (sym (append-nil (flat_of p))) ∙ sym (flat_append (grouped row) (p ∷ [])))
      ∙ grouped_flat (grouped row ++ p ∷ []) (told_more (grouped row) p (told_grouped row) some e)

  -- Two parts of a row whose patches are told apart. Nothing cites it yet.
  pub grouped_append : (g h : History P) → ToldApart (g ++ h) → grouped (flat g ++ flat h) ≡ g ++ h
  grouped_append g h t = ap grouped (sym (flat_append g h)) ∙ grouped_flat (g ++ h) t

  -- Each patch has a change at least. Nothing cites it yet.
  pub grouped_length : (row : List (Named P)) → length (grouped row) ≤ length row
  grouped_length row = subst (λ (z : List (Named P)). length (grouped row) ≤ length z) (flat_grouped row) (on (grouped row) (told_grouped row))
    where
      on : (h : History P) → ToldApart h → length h ≤ length (flat h)
      on [] t = omega arith
      on (p ∷ h) t = let i = on h t.2 in let l = flat_length p h in let some = t.0 in omega arith
