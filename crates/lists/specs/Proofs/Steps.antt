-- A hunk takes one list to another: as a relation, in which old and new lines have the same part.
use Rattle.std.proofs.Common.{◌≡◌, ℕ, ◌+◌, Bool, true, false, cond, leb, ◌↔◌, List, [], ◌∷◌, ◌++◌, length, take, drop, Some, None, Ok, Err, Option, sym, refl, ap, ◌∙◌, arith, length-append}
use Rattle.std.proofs.lemmas.Bool.{leb-true, le-leb}
use Rattle.std.proofs.lemmas.List.{take_at, drop_at, drop-drop, length-take-le, take-append-drop}
use Rattle.lists.specs.declared.hunk.Hunk.{Hunk}
use Rattle.lists.specs.declared.hunk.ListFault.TheVariants.{PastEnd}
use Rattle.lines.specs.Line.{Form}
use Rattle.lists.specs.Hunk.{lines_of, count, first_differing, replaced, hunk_apply}

-- equal lines are told as the same
abbrev pub Tells : {L : Type 0} → Form L → Type 0
Tells {L} F = (l m : L) → (F.same l m ≡ true) ↔ (l ≡ m)

-- d and e are the same in front and behind, where d has the old lines and e the new ones
pub record Step {L : Type 0} (h : Hunk L) (d e : List L) : Type 0 where
  pub front : List L
  pub behind : List L
  pub at : length front ≡ h.start
  pub was : d ≡ front ++ (lines_of h.old ++ behind)
  pub becomes : e ≡ front ++ (lines_of h.new ++ behind)

-- the lengths of both lists
pub sizes : {L : Type 0} (h : Hunk L) (d e : List L) → (s : Step h d e)
    → (length d ≡ h.start + (count h.old + length s.behind)) × (length e ≡ h.start + (count h.new + length s.behind))
sizes h d e s =
    let w = ap length s.was in
    let b = ap length s.becomes in
    (omega (arith, simp length-append at w), omega (arith, simp length-append at b))

module _ {L : Type 0} (F : Form L) (tells : Tells F) where
  -- the lines are found where they stand
  pub found : (at : ℕ) (os b : List L) → first_differing F at os (os ++ b) ≡ None
  found at [] b = refl
  found at (o ∷ os) b = rw ((tells o o).1 refl) (found (at + 1) os b)

  -- and nowhere else
  pub only_found : (at : ℕ) (os ds : List L) → first_differing F at os ds ≡ None → ds ≡ os ++ drop (length os) ds
  only_found at [] ds h = refl
  only_found at (o ∷ os) [] h = let z : ◌≡◌ {A = ℕ} 0 1 = cc in absurd (omega arith)
  only_found at (o ∷ os) (d ∷ ds) h = go (F.same o d) refl h (only_found (at + 1) os ds)
    where
      go : (b : Bool) → F.same o d ≡ b → cond b (first_differing F (at + 1) os ds) (Some at) ≡ None
          → (first_differing F (at + 1) os ds ≡ None → ds ≡ os ++ drop (length os) ds) → d ∷ ds ≡ o ∷ (os ++ drop (length os) ds)
      go true e k more = let x : o ≡ d = (tells o d).0 e in let y = more k in cc
      go false e k more = let z : ◌≡◌ {A = ℕ} 0 1 = cc in absurd (omega arith)

  apply_parts : (h : Hunk L) (a b : List L) → length a ≡ h.start
      → hunk_apply F h (a ++ (lines_of h.old ++ b)) ≡ Ok (a ++ (lines_of h.new ++ b))
  apply_parts h a b at =
      let o = lines_of h.old in
      let d = a ++ (o ++ b) in
      let le : leb (h.start + length o) (length d) ≡ true = le-leb (h.start + length o) (length d) (simp length-append (omega arith)) in
      let dropped : drop h.start d ≡ o ++ b = drop_at a (o ++ b) h.start at in
      let taken : take h.start d ≡ a = take_at a (o ++ b) h.start at in
      let left : drop (h.start + length o) d ≡ b = sym (drop-drop (length o) h.start d) ∙ ap (drop (length o)) dropped ∙ drop_at o b (length o) refl in
      rw (le, dropped, found h.start o b, taken, left)

  pub takes_from_step : (h : Hunk L) (d e : List L) → Step h d e → hunk_apply F h d ≡ Ok e
  takes_from_step h d e s = rw (s.was, s.becomes) (apply_parts h s.front s.behind s.at)

  pub step_from_takes : (h : Hunk L) (d e : List L) → hunk_apply F h d ≡ Ok e → Step h d e
  step_from_takes h d e t = in_range (leb (h.start + count h.old) (length d)) refl t
    where
      same_lines : leb (h.start + count h.old) (length d) ≡ true → (r : Option ℕ) → first_differing F h.start (lines_of h.old) (drop h.start d) ≡ r
          → replaced F h d r ≡ Ok e → Step h d e
      same_lines l None f k = record {
        front = take h.start d;
        behind = drop (h.start + count h.old) d;
        at = length-take-le h.start d (omega (arith, leb-true (h.start + count h.old) (length d) l));
        was = sym (take-append-drop h.start d) ∙ ap (λ x. take h.start d ++ x) (only_found h.start (lines_of h.old) (drop h.start d) f
            ∙ ap (λ x. lines_of h.old ++ x) (drop-drop (count h.old) h.start d));
        becomes = cc;
      }
      same_lines l (Some at) f k = let z : ◌≡◌ {A = ℕ} 0 1 = cc in absurd (omega arith)

      in_range : (b : Bool) → leb (h.start + count h.old) (length d) ≡ b
          → cond b (replaced F h d (first_differing F h.start (lines_of h.old) (drop h.start d))) (Err (PastEnd (length d))) ≡ Ok e → Step h d e
      in_range true l k = same_lines l (first_differing F h.start (lines_of h.old) (drop h.start d)) refl k
      in_range false l k = let z : ◌≡◌ {A = ℕ} 0 1 = cc in absurd (omega arith)
