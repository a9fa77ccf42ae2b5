-- The old lines of a hunk, compared with the words of a list.
use Rattle.std.proofs.Common.{◌≡◌, ℕ, ◌+◌, ◌-◌, ◌*◌, ◌<◌, ◌≤◌, Bool, true, false, cond, ltb, List, [], ◌∷◌, ◌++◌, length, take, drop, replicate, Some, None, Ok, Err, Option, Result, sym, refl, ap, ◌∙◌, add-mul, arith, length-append, length-drop, length-take}
use Rattle.std.specs.List.{flat_map}
use Rattle.std.proofs.lemmas.Bool.{le-leb}
use Rattle.std.proofs.lemmas.List.{take_at, drop_at, take-append-drop, length-take-le}
use Rattle.kinds.specs.Bounded.{outcome, saturated, largest}
use Rattle.kinds.specs.Laws.{most}
use Rattle.kinds.specs.Parts.{part}
use Rattle.kinds.specs.declared.answers.Failure.{Failure}
use Rattle.kinds.specs.declared.answers.Failure.TheVariants.{Overfull, Fault}
use Rattle.lists.specs.declared.hunk.Hunk.{Hunk}
use Rattle.lists.specs.declared.hunk.ListFault.{ListFault}
use Rattle.lists.specs.declared.hunk.ListFault.TheVariants.{Differs}
use Rattle.lines.specs.Line.{Form}
use Rattle.lists.specs.Hunk.{lines_of, count, first_differing, filled_up, lists}
use Rattle.lists.specs.Proofs.Filling.{Fills, Reads, joined_three, length_joined}

module _ {L : Type 0} (F : Form L) where
  -- only as many lines as there are old ones are compared
  pub first_differing_front : (at : ℕ) (os ds : List L) → length os ≤ length ds → first_differing F at os (take (length os) ds) ≡ first_differing F at os ds
  first_differing_front at [] ds l = refl
  first_differing_front at (o ∷ os) [] l = absurd (omega arith)
  first_differing_front at (o ∷ os) (d ∷ ds) l = rw (first_differing_front (at + 1) os ds (omega arith))

  -- the length of the new list, or what stops the hunk, by the first old line that differs
  abbrev pub next_or_fault : Option ℕ → ℕ → Result ℕ (Failure ListFault)
  next_or_fault (Some at) n = Err (Fault (Differs at))
  next_or_fault None n = cond (ltb most n) (Err Overfull) (Ok n)

  by_room : (b : Bool) (e : List L) → ◌≡◌ {A = Result ℕ (Failure ListFault)} (cond b (Err Overfull) (Ok (length e))) (part (λ (e : List L). length e) (λ f. f) (cond b (Err Overfull) (Ok e)))
  by_room true e = refl
  by_room false e = refl

  told : (h : Hunk L) (d : List L) (n : ℕ) (r : Option ℕ) → h.start + count h.old ≤ length d → n + count h.old ≡ length d + count h.new
      → r ≡ first_differing F h.start (lines_of h.old) (drop h.start d)
      → next_or_fault r n ≡ part (λ (e : List L). length e) (λ f. f) (outcome (lists F) h d)
  told h d n (Some at) l m f = rw (le-leb (h.start + count h.old) (length d) l, sym f)
  told h d n None l m f =
      let e = take h.start d ++ (lines_of h.new ++ drop (h.start + count h.old) d) in
      let k : n ≡ length e = simp (length-append, length-take, length-drop) (omega arith) in
      rw (le-leb (h.start + count h.old) (length d) l, sym f) (ap (next_or_fault None) k ∙ by_room (ltb most (length e)) e)

module _ {L : Type 0} (F : Form L) (fills : Fills F) (reads : Reads F) where
  -- the words of some lines in the middle of a list
  pub middle_words : (d : List L) (s o : ℕ) → s + o ≤ length d
      → take ((s + o) * F.width - s * F.width) (drop (s * F.width) (filled_up F d)) ≡ flat_map F.encode (take o (drop s d))
  middle_words d s o l =
      let w = F.width in
      let j : List L → List ℕ = λ x. flat_map F.encode x in
      let a = take s d in
      let m = take o (drop s d) in
      let b = drop o (drop s d) in
      let z : List ℕ = replicate ((most - length d) * w) 0 in
      let c : d ≡ a ++ (m ++ b) = sym (take-append-drop s d) ∙ ap (λ x. a ++ x) (sym (take-append-drop o (drop s d))) in
      let e : j d ++ z ≡ j a ++ (j m ++ (j b ++ z)) = ap (λ x. j x ++ z) c ∙ joined_three F a m b z in
      let n : length (j a) ≡ s * w = length_joined F fills a ∙ ap (λ k. k * w) (length-take-le s d (omega arith)) in
      let g : length m ≡ o = length-take-le o (drop s d) (simp length-drop (omega arith)) in
      let p : o * w ≡ (s + o) * w - s * w = omega (arith, add-mul s o w) in
      let k : length (j m) ≡ (s + o) * w - s * w = length_joined F fills m ∙ ap (λ i. i * w) g ∙ p in
      ap (λ x. take ((s + o) * w - s * w) (drop (s * w) x)) e ∙ ap (take ((s + o) * w - s * w)) (drop_at (j a) (j m ++ (j b ++ z)) (s * w) n) ∙ take_at (j m) (j b ++ z) ((s + o) * w - s * w) k

  -- what the code tells of the old lines, from the words that it compared
  pub told_by_words : (h : Hunk L) (d : List L) (lines : List ℕ) (len n o w : ℕ) (r : Option ℕ) → length d ≡ len → lines ≡ filled_up F d
      → o ≡ count h.old → w ≡ saturated F.width → most * F.width + 1 < largest → h.start + o ≤ len → n + o ≡ len + count h.new
      → ((ds : List L) → length ds ≡ count h.old → take ((h.start + o) * w - h.start * w) (drop (h.start * w) lines) ≡ flat_map F.encode ds
      → r ≡ first_differing F h.start (lines_of h.old) ds)
      → next_or_fault F r n ≡ part (λ (e : List L). length e) (λ f. f) (outcome (lists F) h d)
  told_by_words h d lines len n o w r k e i j room l m compared =
      let s = h.start in
      let os = lines_of h.old in
      let v : w ≡ F.width = omega arith in
      let z : length (take o (drop s d)) ≡ count h.old = simp (length-take, length-drop) (omega arith) in
      let f = compared (take o (drop s d)) z ((λ t. take ((s + o) * v t - s * v t) (drop (s * v t) (e t))) ∙ middle_words d s o (omega arith)) in
      let g : first_differing F s os (take o (drop s d)) ≡ first_differing F s os (take (length os) (drop s d)) = ap (λ t. first_differing F s os (take t (drop s d))) i in
      told F h d n r (omega arith) (omega arith) (f ∙ g ∙ first_differing_front F s os (drop s d) (simp length-drop (omega arith)))
