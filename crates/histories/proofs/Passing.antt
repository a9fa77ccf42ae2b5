-- One patch that commutes with a whole list of others. A row, Row T s z x t, says that s and then z commute to x and then t.
use Rattle.std.proofs.Common.{◌≡◌, ℕ, List, [], ◌∷◌, ◌++◌, sym, refl, ap, ◌∙◌, subst}
use Rattle.kinds.specs.Theory.{Theory}
use Rattle.kinds.specs.Laws.{Commutes}
use Rattle.kinds.proofs.Grids.{Row, nil, cons}
use Rattle.histories.specs.History.{Exchanged, here, there, Rearranged, done, more}
use Rattle.histories.proofs.Setting.{Setting, one, back, turn, keeps, front_first, back_first}
use Rattle.histories.proofs.Names.{In, in_head, in_tail}
use Rattle.histories.proofs.Rearranging.{behind_one}

module _ {P F : Type 0} {T : Theory P F} where
  pub row_rearranged : {s t : List P} {z x : P} → Row T s z x t → Rearranged T (s ++ z ∷ []) (x ∷ t)
  row_rearranged nil = done
  row_rearranged (cons {p = w} r c) = more (behind_one w (row_rearranged r)) (here c)

  -- a row over one list and then another
  pub row_join : {s t a b : List P} {z y x : P} → Row T s y x t → Row T a z y b → Row T (s ++ a) z x (t ++ b)
  row_join nil r = r
  row_join (cons r c) k = cons (row_join r k) c

  pub row_split : (s u : List P) {t : List P} {z x : P} → Row T (s ++ u) z x t → (y : P) × (a : List P) × (b : List P) × Row T s y x a × Row T u z y b
  row_split [] u r = (_, _, _, nil, r)
  row_split (w ∷ s) u (cons r c) = let (_, _, _, k, l) = row_split s u r in (_, _, _, cons k c, l)

  pub row_split_after : (t u : List P) {s : List P} {z x : P} → Row T s z x (t ++ u)
      → (y : P) × (a : List P) × (b : List P) × Row T a y x t × Row T b z y u × (s ≡ a ++ b)
  row_split_after [] u r = (_, [], _, nil, r, refl)
  row_split_after (v ∷ t) u (cons {p = w} r c) = let (_, _, _, k, l, e) = row_split_after t u r in (_, _, _, cons k c, l, ap (λ q. w ∷ q) e)

module _ {P F : Type 0} {T : Theory P F} {name : P → ℕ} (S : Setting T name) where
  -- names stay
  pub row_name : {s t : List P} {z x : P} → Row T s z x t → name x ≡ name z
  row_name nil = refl
  row_name (cons r c) = (keeps S c).0 ∙ row_name r

  pub row_in : {n : ℕ} {s t : List P} {z x : P} → Row T s z x t → In name n s → In name n t
  row_in nil i = elim i [ ]
  row_in (cons r c) (in_head e) = in_head ((keeps S c).1 ∙ e)
  row_in (cons r c) (in_tail i) = in_tail (row_in r i)

  pub row_out : {n : ℕ} {s t : List P} {z x : P} → Row T s z x t → In name n t → In name n s
  row_out nil i = elim i [ ]
  row_out (cons r c) (in_head e) = in_head (sym (keeps S c).1 ∙ e)
  row_out (cons r c) (in_tail i) = in_tail (row_out r i)

  -- a patch commutes over a list if it does so over a rearrangement, before it or after it
  exchange_before : {s t u : List P} {z x : P} → Row T s z x t → Exchanged T s u → (v : List P) × Row T u z x v × Exchanged T t v
  exchange_before nil e = elim e [ ]
  exchange_before (cons r c) (there e) = let (_, k, l) = exchange_before r e in (_, cons k c, there l)
  exchange_before (cons (cons r k) c) (here h) =
      let (_, _, _, x, y, z) = front_first S (back S h) k c in
      (_, cons (cons r x) y, here (back S z))

  exchange_after : {s t u : List P} {z x : P} → Row T s z x t → Exchanged T t u → (v : List P) × Row T v z x u × Exchanged T s v
  exchange_after nil e = elim e [ ]
  exchange_after (cons r c) (there e) = let (_, k, l) = exchange_after r e in (_, cons k c, there l)
  exchange_after (cons (cons r k) c) (here h) =
      let (_, _, _, x, y, z) = back_first S k c h in
      (_, cons (cons r y) z, here x)

  pub rearrange_before : {s t u : List P} {z x : P} → Row T s z x t → Rearranged T s u → (v : List P) × Row T u z x v × Rearranged T t v
  rearrange_before r done = (_, r, done)
  rearrange_before r (more p e) =
      let (_, k, l) = rearrange_before r p in
      let (_, i, j) = exchange_before k e in
      (_, i, more l j)

  pub rearrange_after : {s t u : List P} {z x : P} → Row T s z x t → Rearranged T t u → (v : List P) × Row T v z x u × Rearranged T s v
  rearrange_after r done = (_, r, done)
  rearrange_after r (more p e) =
      let (_, k, l) = rearrange_after r p in
      let (_, i, j) = exchange_after k e in
      (_, i, more l j)

  -- what arrives tells what set out
  pub row_one : {s t u : List P} {x y a b : P} → x ≡ y → Row T s a x t → Row T s b y u → a ≡ b
  row_one e nil nil = e
  row_one e (cons {p = w} {q1 = a} {p' = v} r c) (cons k d) = row_one (one S (turn S (subst (λ z. Commutes T w a z v) e c)) (turn S d)).0 r k

  -- what sets out tells what arrives at the end
  pub row_last : {s u t : List P} {x y a b : P} → x ≡ y → Row T s a x t → Row T u b y t → a ≡ b
  row_last e nil nil = e
  row_last e (cons {p = w} {q1 = a} {p' = v} r c) (cons k d) = row_last (one S (subst (λ z. Commutes T z v w a) e (back S c)) (back S d)).1 r k
