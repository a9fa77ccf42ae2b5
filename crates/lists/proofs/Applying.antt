-- A hunk applied to the words of a list: the length in front, and the lines behind it.
use Rattle.std.proofs.Common.{◌≡◌, ℕ, ◌-◌, ◌<◌, ◌≤◌, Bool, true, false, cond, ◌&&◌, eqb, ltb, List, [], ◌∷◌, length, get_or, take, drop, set, Ok, Err, Result, sym, refl, ap, ◌∙◌, arith}
use borrow.Rule.Slice.PartMut.{put_mid}
use Rattle.std.proofs.lemmas.Bool.{both_ways, and_from, and_parts, eqb-true, ltb-true, eq-eqb, lt-ltb}
use Rattle.std.proofs.lemmas.List.{take_rest, append-nil, drop_all}
use Rattle.kinds.specs.Bounded.{saturated, largest, outcome, roomy, done_or_fault, Applied}
use Rattle.kinds.specs.Laws.{most, Takes}
use Rattle.kinds.specs.Parts.{part}
use Rattle.kinds.specs.declared.answers.Failure.{Failure}
use Rattle.kinds.specs.declared.answers.Failure.TheVariants.{Overfull}
use Rattle.lists.specs.declared.hunk.Hunk.{Hunk}
use Rattle.lists.specs.declared.hunk.ListFault.{ListFault}
use Rattle.lines.specs.Line.{Form}
use Rattle.lists.specs.Hunk.{hunk_apply, too_long, filled_up, lists}

-- a run that is told to have room has it
has_room : (n width words : ℕ) → words ≡ saturated width → true ≡ eqb n words && ltb words largest → eqb n width && ltb width largest ≡ true
has_room n width words s e =
    let p = and_parts (eqb n words) (ltb words largest) (sym e) in
    let a = eqb-true n words p.0 in
    let b = ltb-true words largest p.1 in
    and_from (eqb n width) (ltb width largest) (eq-eqb n width (omega arith)) (lt-ltb width largest (omega arith))

-- the lines of a run put back behind its first word, and that written
put_back : (run lines : List ℕ) (n : ℕ) → 0 < length run → set (put_mid 1 (length run - 1) run lines) 0 n ≡ n ∷ lines
put_back [] lines n l = absurd (omega arith)
put_back (x ∷ xs) lines n l = rw (drop_all (length (x ∷ xs) - 1) xs (omega arith), append-nil lines)

module _ {L : Type 0} (F : Form L) (h : Hunk L) where
  -- the length of the new list tells that there is one, and a failure that there is none
  told_length : (x : Result (List L) (Failure ListFault)) (n : ℕ) → Ok n ≡ part (λ (e : List L). length e) (λ f. f) x → (e : List L) × (x ≡ Ok e) × (length e ≡ n)
  told_length (Ok e) n t = (e, refl, cc)
  told_length (Err f) n t = let z : ◌≡◌ {A = ℕ} 0 1 = cc in absurd (omega arith)

  -- an outcome that is a list is what the hunk makes of the list
  made_by : (r : Result (List L) ListFault) (e : List L) → cond (too_long r) (Err Overfull) (done_or_fault r) ≡ Ok e → r ≡ Ok e
  made_by (Ok x) e o = fitting (ltb most (length x)) o
    where
      fitting : (b : Bool) → cond {A = Result (List L) (Failure ListFault)} b (Err Overfull) (Ok x) ≡ Ok e → ◌≡◌ {A = Result (List L) ListFault} (Ok x) (Ok e)
      fitting true o = let z : ◌≡◌ {A = ℕ} 0 1 = cc in absurd (omega arith)
      fitting false o = cc
  made_by (Err f) e o = let z : ◌≡◌ {A = ℕ} 0 1 = cc in absurd (omega arith)

  -- the words of a list, in two parts
  parts_of : (run : List ℕ) (d : List L) → run ≡ length d ∷ filled_up F d → (length d ≡ get_or run 0 0) × (take (length run - 1) (drop 1 run) ≡ filled_up F d)
  parts_of run d e = (sym (ap (λ x. get_or x 0 0) e), take_rest run 1 ∙ ap (drop 1) e)

  pub succeeded : (run lines : List ℕ) (n words : ℕ) → words ≡ saturated (lists F).width → true ≡ eqb (length run) words && ltb words largest → n ≤ most
      → ((d : List L) → length d ≡ get_or run 0 0 → take (length run - 1) (drop 1 run) ≡ filled_up F d → Ok n ≡ part (λ (e : List L). length e) (λ f. f) (outcome (lists F) h d))
      → ((d e : List L) → length d ≡ get_or run 0 0 → Takes (lists F) h d e → take (length run - 1) (drop 1 run) ≡ filled_up F d → lines ≡ filled_up F e)
      → Applied (lists F) h run (Ok tt) (set (put_mid 1 (length run - 1) run lines) 0 n)
  succeeded run lines n words s room fits told replaced = record {
    refused = λ no. absurd (both_ways (roomy (lists F) (length run)) no (has_room (length run) (lists F).width words s room));
    done = λ d k e _.
        let (l, q) = parts_of run d e in
        let (new, o, m) = told_length (outcome (lists F) h d) n (told d l q) in
        let first : 0 < length run = rw e (omega arith) in
        (new, rw m fits, put_back run lines n first ∙ (λ t. sym m t ∷ replaced d new l (made_by (hunk_apply F h d) new o) q t), o);
  }
