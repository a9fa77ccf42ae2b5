-- A sequence of patches of a kind is a patch of a kind again. Its elements are called steps.
use Rattle.std.specs.Prelude.{ℕ, ◌+◌, Bool, true, false, cond, ◌&&◌, ◌||◌, List, [], ◌∷◌, ◌++◌, Some, None, Ok, Err, Option, Result}
use Rattle.kinds.specs.declared.answers.Clash.{Clash}
use Rattle.kinds.specs.declared.answers.Clash.TheVariants.{TooFar}
use Rattle.kinds.specs.declared.steps.AtStep.{AtStep}
use Rattle.kinds.specs.Theory.{Theory}
use Rattle.kinds.specs.Bounded.{done_or_refused}
use Rattle.kinds.specs.Parts.{part}

-- a fault, found at step n
abbrev pub found_at : {F : Type 0} → ℕ → F → AtStep F
found_at n f = record { step = n; fault = f }

infixl 10 ◌>>=◌
-- what follows, unless there was a refusal ...
abbrev pub ◌>>=◌ : {A B : Type 0} → Option A → (A → Option B) → Option B
◌>>=◌ None f = None
◌>>=◌ (Some a) f = f a

-- ... or an error
abbrev pub and_then : {A B E : Type 0} → Result A E → (A → Result B E) → Result B E
and_then (Ok a) f = f a
and_then (Err e) f = Err e

-- whether there was no refusal, and what came out passes a test ...
abbrev pub is_some_and : {A : Type 0} → Option A → (A → Bool) → Bool
is_some_and None f = false
is_some_and (Some a) f = f a

-- ... or no error
abbrev pub is_ok_and : {A E : Type 0} → Result A E → (A → Bool) → Bool
is_ok_and (Ok a) f = f a
is_ok_and (Err e) f = false

module _ {P F : Type 0} (T : Theory P F) where
  open T use {Doc, fresh, blank, size, apply, invert, commute, growth, written, far, full, fits, width, encode}

  -- The steps are applied in order; the first has the number n.
  abbrev pub apply_from : ℕ → List P → Doc → Result Doc (AtStep F)
  apply_from n [] d = Ok d
  apply_from n (p ∷ ps) d = and_then (part (λ e. e) (found_at n) (apply p d)) (apply_from (n + 1) ps)

  -- The inverses, in reverse order.
  abbrev pub inverses : List P → List P
  inverses [] = []
  inverses (p ∷ ps) = inverses ps ++ invert p ∷ []

  -- q commutes left over all of ps, nearest first.
  abbrev pub over : List P → P → Option (P × List P)
  over [] q = Some (q, [])
  over (p ∷ ps) q = do
    (q1, ps') ← over ps q
    (q2, p') ← commute p q1
    Some (q2, p' ∷ ps')

  -- The elements of qs, first one first, commute left over all of ps.
  abbrev pub all_over : List P → List P → Option (List P × List P)
  all_over ps [] = Some ([], ps)
  all_over ps (q ∷ qs) = do
    (q', ps') ← over ps q
    (qs', ps'') ← all_over ps' qs
    Some (q' ∷ qs', ps'')

  -- Whether a commute of q over ps is too far, with none refused before it ...
  abbrev pub far_over : List P → P → Bool
  far_over [] q = false
  far_over (p ∷ ps) q = far_over ps q || is_some_and (over ps q) (λ (q1, ps'). far p q1)

  -- ... or one of qs over ps.
  abbrev pub far_all_over : List P → List P → Bool
  far_all_over ps [] = false
  far_all_over ps (q ∷ qs) = far_over ps q || is_some_and (over ps q) (λ (q', ps'). far_all_over ps' qs)

  -- What the code answers where q is to commute left over all of ps.
  abbrev pub answer_over : List P → P → Result (P × List P) Clash
  answer_over ps q = cond (far_over ps q) (Err TooFar) (done_or_refused (over ps q))

  -- Growths add up.
  abbrev pub growths : List P → ℕ
  growths [] = 0
  growths (p ∷ ps) = growth p + growths ps

  -- A sequence of any length can be written if its steps can. Who allows certain lengths only asks for them besides.
  abbrev pub all_written : List P → Bool
  all_written [] = true
  all_written (p ∷ ps) = written p && all_written ps

  -- Whether one of the steps comes to a document that the words cannot hold, with no fault before it.
  abbrev pub full_along : List P → Doc → Bool
  full_along [] d = false
  full_along (p ∷ ps) d = full p d || is_ok_and (apply p d) (full_along ps)

  -- The documents and their words are those of T.
  abbrev pub sequences : Theory (List P) (AtStep F)
  sequences = record {
    Doc = Doc;
    fresh = fresh;
    blank = blank;
    size = size;
    apply = apply_from 0;
    invert = inverses;
    commute = all_over;
    growth = growths;
    written = all_written;
    far = far_all_over;
    full = full_along;
    fits = fits;
    width = width;
    encode = encode;
  }
