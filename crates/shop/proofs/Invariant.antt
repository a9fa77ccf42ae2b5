-- What every call keeps.
use Rattle.std.proofs.Common.{◌≡◌, ℕ, zero, suc, ◌<◌, ◌≤◌, List, [], ◌∷◌, length, get_or, set, sym, refl, ap, ◌∙◌, subst, ⊎_elim, arith, length-set}
use Rattle.std.proofs.lemmas.List.{get_or-set_same, get_or-set_other}
use Rattle.std.proofs.lemmas.Bool.{cases_eq}
use Rattle.kinds.specs.Theory.{Theory}
use Rattle.kinds.specs.Laws.{Lawful}
use Rattle.histories.specs.Named.{patches}
use Rattle.histories.specs.Runs.{Seen, newest, older, Run, opened}
use Rattle.histories.specs.Agreement.{Agreement}
use Rattle.histories.proofs.Agreeing.{histories_agree}
use Rattle.shop.specs.State.{History, State, empty, at, with_history}
use Rattle.shop.proofs.Forming.{by_name, Numbered}
use Rattle.shop.proofs.Counting.{Few}

-- The histories hs are those of a run. Those of the state s are among them; all are within the limits, and the counter has passed all names.
pub record Kept {P F : Type 0} (T : Theory P F) (s : State P) (hs : List (History P)) : Type 0 where
  pub run : Run (patches T) by_name hs
  pub four : length s.histories ≡ 4
  pub seen : (r : ℕ) → r < 4 → Seen (at s r) hs
  pub numbered : (h : History P) → Seen h hs → Numbered s.counter h
  pub few : (h : History P) → Seen h hs → Few h

module _ {P F : Type 0} (T : Theory P F) where
  -- the theorem on histories speaks of all of them
  pub agreed : Lawful T → {s : State P} {hs : List (History P)} → Kept T s hs → Agreement (patches T) by_name hs
  agreed L {hs = hs} k = histories_agree T L hs k.run

  all_empty : (r : ℕ) → at (empty {P = P}) r ≡ []
  all_empty zero = refl
  all_empty (suc zero) = refl
  all_empty (suc (suc zero)) = refl
  all_empty (suc (suc (suc zero))) = refl
  all_empty (suc (suc (suc (suc r)))) = refl

  -- at first
  pub kept_empty : Kept T empty ([] ∷ [])
  kept_empty = record { run = opened; four = refl; seen = λ r l. subst (λ h. Seen h ([] ∷ [])) (sym (all_empty r)) newest; numbered = names; few = limits }
    where
      names : (h : History P) → Seen h ([] ∷ []) → Numbered 0 h
      names h newest n i = elim i [ ]
      names h (older j) n i = elim j [ ]

      limits : (h : History P) → Seen h ([] ∷ []) → Few h
      limits h newest = (omega arith, omega arith)
      limits h (older j) = elim j [ ]

  -- repository r has the history that it was given
  pub given : {s : State P} {hs : List (History P)} → Kept T s hs → (r : ℕ) (h : History P) → r < 4 → at (with_history s r h) r ≡ h
  given {s} k r h l = let four = k.four in get_or-set_same s.histories r h [] (omega arith)

  -- with the history h in repository r, and the counter c
  pub one_more : {s : State P} {hs : List (History P)} → Kept T s hs → (r : ℕ) (h : History P) (c : ℕ) → r < 4 → Run (patches T) by_name (h ∷ hs)
      → s.counter ≤ c → Numbered c h → Few h → Kept T (record { histories = set s.histories r h; counter = c }) (h ∷ hs)
  one_more {s} {hs} k r h c l run up f g = record { run = run; four = length-set s.histories r h ∙ k.four; seen = each; numbered = names; few = limits }
    where
      each : (q : ℕ) → q < 4 → Seen (get_or (set s.histories r h) q []) (h ∷ hs)
      each q m =
          ⊎_elim
          (λ e. subst (λ z. Seen z (h ∷ hs)) (sym (ap (λ x. get_or (set s.histories r h) x []) e ∙ given k r h l)) newest)
          (λ e. subst (λ z. Seen z (h ∷ hs)) (sym (get_or-set_other s.histories r q h [] e)) (older (k.seen q m)))
          (cases_eq q r)

      names : (j : History P) → Seen j (h ∷ hs) → Numbered c j
      names j newest = f
      names j (older i) = λ n x. let (a, b) = k.numbered j i n x in (a, omega arith)

      limits : (j : History P) → Seen j (h ∷ hs) → Few j
      limits j newest = g
      limits j (older i) = k.few j i
