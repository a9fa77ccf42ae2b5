-- Patches commute left over two parts of a row: each over both parts before the next one, or all over the nearer part first. This is the same but for the clash that is met first.
use Rattle.std.proofs.Common.{◌≡◌, List, [], ◌∷◌, ◌++◌, Some, None, Ok, Err, Option, Result, sym, refl, ap, ◌∙◌}
use Rattle.std.specs.Result.{result_ok}
use Rattle.kinds.specs.Theory.{Theory}
use Rattle.kinds.specs.Bounded.{answer}
use Rattle.kinds.specs.Sequences.{◌>>=◌, and_then, answer_over, sequences}
use Rattle.kinds.proofs.Stepwise.{answer_over_more, answer_more}

-- answers one after the other
pub then_some : {A : Type 0} (o : Option A) → o ≡ (o >>= Some)
then_some None = refl
then_some (Some a) = refl

pub then_same : {A B : Type 0} (o : Option A) {f g : A → Option B} → ((a : A) → f a ≡ g a) → (o >>= f) ≡ (o >>= g)
then_same None h = refl
then_same (Some a) h = h a

pub then_then : {A B C : Type 0} (o : Option A) (f : A → Option B) (g : B → Option C) → ((o >>= f) >>= g) ≡ (o >>= λ a. f a >>= g)
then_then None f g = refl
then_then (Some a) f g = refl

either_first : {A B C : Type 0} (o : Option A) (u : Option B) (f : A → B → Option C) → (o >>= λ a. u >>= f a) ≡ (u >>= λ b. o >>= λ a. f a b)
either_first None None f = refl
either_first None (Some b) f = refl
either_first (Some a) None f = refl
either_first (Some a) (Some b) f = refl

-- two answers, without the clash
ok_then : {A B E : Type 0} (r : Result A E) (f : A → Result B E) → result_ok (and_then r f) ≡ (result_ok r >>= λ a. result_ok (f a))
ok_then (Ok a) f = refl
ok_then (Err e) f = refl

pub ok_both : {A B C E : Type 0} (r : Result A E) (f : A → Result B E) (k : A → B → C)
    → result_ok (and_then r (λ a. and_then (f a) (λ b. Ok (k a b)))) ≡ (result_ok r >>= λ a. result_ok (f a) >>= λ b. Some (k a b))
ok_both r f k = ok_then r _ ∙ then_same (result_ok r) (λ a. ok_then (f a) (λ b. Ok (k a b)))

module _ {X Y : Type 0} where
  -- what came to the front of the nearer part came to the front of the other one too
  abbrev pub joined : Y × List X → Y × List X → Option (Y × List X)
  joined s t = Some (t.0, t.1 ++ s.1)

  -- one before the others
  abbrev pub before : X × Y → List X × Y → Option (List X × Y)
  before s t = Some (s.0 ∷ t.0, t.1)

module _ {P F : Type 0} (T : Theory P F) where
  -- one patch over one, over some, and some over some, without the clash
  abbrev pub pair_done : P → P → Option (P × P)
  pair_done p q = result_ok (answer T p q)

  abbrev pub one_done : List P → P → Option (P × List P)
  one_done ps q = result_ok (answer_over T ps q)

  abbrev pub all_done : List P → List P → Option (List P × List P)
  all_done ps qs = result_ok (answer (sequences T) ps qs)

  -- these one after the other
  abbrev pub then_pair : P → P × List P → Option (P × List P)
  then_pair p s = pair_done p s.0 >>= λ t. Some (t.0, t.1 ∷ s.1)

  abbrev then_one : List P → P × List P → Option (P × List P)
  then_one xs s = one_done xs s.0 >>= joined s

  abbrev pub then_rest : List P → P × List P → Option (List P × List P)
  then_rest qs s = all_done s.1 qs >>= before s

  abbrev pub then_all : List P → List P × List P → Option (List P × List P)
  then_all xs s = all_done xs s.0 >>= joined s

  pub one_more : (p : P) (ps : List P) (q : P) → one_done (p ∷ ps) q ≡ (one_done ps q >>= then_pair p)
  one_more p ps q = ap result_ok (answer_over_more T p ps q) ∙ ok_both (answer_over T ps q) (λ s. answer T p s.0) (λ s t. (t.0, t.1 ∷ s.1))

  pub all_more : (ps : List P) (q : P) (qs : List P) → all_done ps (q ∷ qs) ≡ (one_done ps q >>= then_rest qs)
  all_more ps q qs = ap result_ok (answer_more T ps q qs) ∙ ok_both (answer_over T ps q) (λ s. answer (sequences T) s.1 qs) (λ s t. (s.0 ∷ t.0, t.1))

  pub over_none : (qs : List P) → all_done [] qs ≡ Some (qs, [])
  over_none [] = refl
  over_none (q ∷ qs) = all_more [] q qs ∙ ap (λ (o : Option (List P × List P)). o >>= before (q, [])) (over_none qs)

  one_over_parts : (xs ys : List P) (q : P) → one_done (xs ++ ys) q ≡ (one_done ys q >>= then_one xs)
  one_over_parts [] ys q = then_some (one_done ys q)
  one_over_parts (x ∷ xs) ys q =
      one_more x (xs ++ ys) q
      ∙ ap (λ (o : Option (P × List P)). o >>= then_pair x) (one_over_parts xs ys q)
      ∙ then_then (one_done ys q) (then_one xs) (then_pair x) ∙ then_same (one_done ys q) step
    where
      step : (s : P × List P) → (then_one xs s >>= then_pair x) ≡ then_one (x ∷ xs) s
      step s =
          then_then (one_done xs s.0) (joined s) (then_pair x)
          ∙ then_same (one_done xs s.0) (λ t. sym (then_then (pair_done x t.0) (λ u. Some (u.0, u.1 ∷ t.1)) (joined s)))
          ∙ sym (ap (λ (o : Option (P × List P)). o >>= joined s) (one_more x xs s.0) ∙ then_then (one_done xs s.0) (then_pair x) (joined s))

  pub all_over_parts : (xs ys qs : List P) → all_done (xs ++ ys) qs ≡ (all_done ys qs >>= then_all xs)
  all_over_parts xs ys [] = refl
  all_over_parts xs ys (q ∷ qs) =
      all_more (xs ++ ys) q qs
      ∙ ap (λ (o : Option (P × List P)). o >>= then_rest qs) (one_over_parts xs ys q)
      ∙ then_then (one_done ys q) (then_one xs) (then_rest qs) ∙ then_same (one_done ys q) (step (λ ps rs. all_over_parts ps rs qs))
      ∙ sym (ap (λ (o : Option (List P × List P)). o >>= then_all xs) (all_more ys q qs) ∙ then_then (one_done ys q) (then_rest qs) (then_all xs))
    where
      -- the nearer part and the other, in either order
      step : ((ps rs : List P) → all_done (ps ++ rs) qs ≡ (all_done rs qs >>= then_all ps)) → (s : P × List P) → (then_one xs s >>= then_rest qs) ≡ (then_rest qs s >>= then_all xs)
      step below s =
          then_then (one_done xs s.0) (joined s) (then_rest qs)
          ∙ then_same (one_done xs s.0) far_first
          ∙ either_first (one_done xs s.0) (all_done s.1 qs) both_done
          ∙ then_same (all_done s.1 qs) near_first
          ∙ sym (then_then (all_done s.1 qs) (before s) (then_all xs))
        where
          both_done : P × List P → List P × List P → Option (List P × List P)
          both_done t a = all_done t.1 a.0 >>= λ u. Some (t.0 ∷ u.0, u.1 ++ a.1)

          far_first : (t : P × List P) → (all_done (t.1 ++ s.1) qs >>= before t) ≡ (all_done s.1 qs >>= both_done t)
          far_first t =
              ap (λ (o : Option (List P × List P)). o >>= before t) (below t.1 s.1)
              ∙ then_then (all_done s.1 qs) (then_all t.1) (before t) ∙ then_same (all_done s.1 qs) (λ a. then_then (all_done t.1 a.0) (joined a) (before t))

          near_first : (a : List P × List P) → (one_done xs s.0 >>= λ t. both_done t a) ≡ (all_done xs (s.0 ∷ a.0) >>= joined a)
          near_first a =
              sym (ap (λ (o : Option (List P × List P)). o >>= joined a) (all_more xs s.0 a.0) ∙ then_then (one_done xs s.0) (then_rest a.0) (joined a)
              ∙ then_same (one_done xs s.0) (λ t. then_then (all_done t.1 a.0) (before t) (joined a)))
