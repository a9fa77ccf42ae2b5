-- Commuting hunks: as a relation, and what both do to a list.
use Rattle.std.proofs.Common.{◌≡◌, ℕ, ◌+◌, ◌-◌, ◌≤◌, Bool, true, false, cond, ltb, List, [], ◌∷◌, ◌++◌, length, Some, None, Option, sym, refl, ap, ◌∙◌, subst, ⊎_elim, append_assoc, arith, length-append}
use Rattle.std.proofs.lemmas.Bool.{ltb-true, ltb-false, lt-ltb, le-ltb}
use Rattle.lists.specs.declared.hunk.Hunk.{Hunk}
use Rattle.lists.specs.Hunk.{lines_of, count, moved, exchanged, hunks_commute}
use Rattle.lists.specs.Proofs.Places.{Place, Swap, After, Before, way}
use Rattle.lists.specs.Proofs.Steps.{Step}

module _ {L : Type 0} where
  abbrev pub place : Hunk L → Place
  place h = record { at = h.start; old = count h.old; new = count h.new }

  -- one hunk is another at a start of its own
  pub record Moved (h g : Hunk L) : Type 0 where
    pub olds : h.old ≡ g.old
    pub news : h.new ≡ g.new

  -- p and then q become a and then b
  pub record Exchange (p q a b : Hunk L) : Type 0 where
    pub first : Moved a q
    pub second : Moved b p
    pub swap : Swap (place p) (place q) (place a) (place b)

  pub still : (h : Hunk L) → Moved h h
  still h = record { olds = refl; news = refl }

  pub there : (h : Hunk L) (to : ℕ) → Moved (moved h to) h
  there h to = record { olds = refl; news = refl }

  pub returned : {h g : Hunk L} → Moved h g → Moved g h
  returned m = record { olds = sym m.olds; news = sym m.news }

  pub onward : {h g k : Hunk L} → Moved h g → Moved g k → Moved h k
  onward m n = record { olds = m.olds ∙ n.olds; news = m.news ∙ n.news }

  pub flipped : {h g : Hunk L} → Moved h g → Moved (exchanged h) (exchanged g)
  flipped m = record { olds = m.news; news = m.olds }

  same_hunk : (h g : Hunk L) → Moved h g → h.start ≡ g.start → h ≡ g
  same_hunk h g m s = λ i. record { start = s i; old = m.olds i; new = m.news i }

  -- a commute is such an exchange ...
  pub exchange_from_commutes : (p q a b : Hunk L) → hunks_commute p q ≡ Some (a, b) → Exchange p q a b
  exchange_from_commutes p q a b e = after (ltb (p.start + count p.new) q.start) refl e
    where
      x : ℕ
      x = q.start - count p.new + count p.old

      y : ℕ
      y = p.start - count q.old + count q.new

      before : q.start ≤ p.start + count p.new → (t : Bool) → ltb (q.start + count q.old) p.start ≡ t → cond {A = Option (Hunk L × Hunk L)} t (Some (q, moved p y)) None ≡ Some (a, b) → Exchange p q a b
      before l true k f =
          let m : ◌≡◌ {A = Hunk L × Hunk L} (q, moved p y) (a, b) = cc in
          subst (λ r. Exchange p q r.0 r.1) m (record { first = still q; second = there p y; swap = omega (arith, ltb-true (q.start + count q.old) p.start k) })
      before l false k f = let z : ◌≡◌ {A = ℕ} 0 1 = cc in absurd (omega arith)

      after : (t : Bool) → ltb (p.start + count p.new) q.start ≡ t
          → cond {A = Option (Hunk L × Hunk L)} t (Some (moved q x, p)) (cond (ltb (q.start + count q.old) p.start) (Some (q, moved p y)) None) ≡ Some (a, b) → Exchange p q a b
      after true k f =
          let m : ◌≡◌ {A = Hunk L × Hunk L} (moved q x, p) (a, b) = cc in
          subst (λ r. Exchange p q r.0 r.1) m (record { first = there q x; second = still p; swap = omega (arith, ltb-true (p.start + count p.new) q.start k) })
      after false k f = before (ltb-false (p.start + count p.new) q.start k) (ltb (q.start + count q.old) p.start) refl f

  -- ... and the other way round
  pub commutes_from_exchange : (p q a b : Hunk L) → Exchange p q a b → hunks_commute p q ≡ Some (a, b)
  commutes_from_exchange p q a b x = ⊎_elim after before (way x.swap)
    where
      after : After (place p) (place q) (place a) (place b) → hunks_commute p q ≡ Some (a, b)
      after w =
          let l : ltb (p.start + count p.new) q.start ≡ true = lt-ltb (p.start + count p.new) q.start w.apart in
          let f = same_hunk (moved q (q.start - count p.new + count p.old)) a (onward (there q _) (returned x.first)) (omega arith) in
          let g = same_hunk p b (returned x.second) (omega arith) in
          rw l (λ i. Some (f i, g i))

      before : Before (place p) (place q) (place a) (place b) → hunks_commute p q ≡ Some (a, b)
      before w =
          let l : ltb (p.start + count p.new) q.start ≡ false = le-ltb (p.start + count p.new) q.start (omega arith) in
          let k : ltb (q.start + count q.old) p.start ≡ true = lt-ltb (q.start + count q.old) p.start w.apart in
          let f = same_hunk q a (returned x.first) (omega arith) in
          let g = same_hunk (moved p (p.start - count q.old + count q.new)) b (onward (there p _) (returned x.second)) (omega arith) in
          rw (l, k) (λ i. Some (f i, g i))

  -- the longer of two fronts of one list goes on where the shorter ends
  split : (x y z w : List L) → x ++ y ≡ z ++ w → length x ≤ length z → (c : List L) × (z ≡ x ++ c) × (y ≡ c ++ w)
  split [] y z w e l = (z, refl, e)
  split (a ∷ x) y [] w e l = absurd (omega arith)
  split (a ∷ x) y (b ∷ z) w e l =
      let (c, f, g) = split x y z w (cc) (omega arith) in
      let h : a ≡ b = cc in
      (c, cc, g)

  pub same_effect : (p q a b : Hunk L) → Exchange p q a b → (d m e : List L) → Step p d m → Step q m e → (n : List L) × Step a d n × Step b n e
  same_effect p q a b x d m e s t = ⊎_elim
      (λ w. after w (split (s.front ++ n) s.behind t.front (u ++ t.behind) (append_assoc s.front n s.behind ∙ sym s.becomes ∙ t.was) (simp length-append (omega arith))))
      (λ w. before w (split (t.front ++ u) t.behind s.front (n ++ s.behind) (append_assoc t.front u t.behind ∙ sym t.was ∙ s.becomes) (simp length-append (omega arith))))
      (way x.swap)
    where
      o : List L
      o = lines_of p.old

      n : List L
      n = lines_of p.new

      u : List L
      u = lines_of q.old

      v : List L
      v = lines_of q.new

      -- q lies behind p, and c between them
      after : After (place p) (place q) (place a) (place b) → (c : List L) × (t.front ≡ s.front ++ n ++ c) × (s.behind ≡ c ++ (u ++ t.behind)) → (m : List L) × Step a d m × Step b m e
      after w (c, f, g) =
          let k : length t.front ≡ length s.front + length n + length c = ap length f ∙ simp length-append in (
            s.front ++ (o ++ (c ++ (v ++ t.behind))),
            record { front = s.front ++ (o ++ c); behind = t.behind; at = simp length-append (omega arith); was = rw (x.first.olds, s.was, g) (simp append_assoc); becomes = rw x.first.news (simp append_assoc) },
            record { front = s.front; behind = c ++ (v ++ t.behind); at = omega arith; was = rw x.second.olds; becomes = rw (x.second.news, t.becomes, f) (simp append_assoc) },
          )

      -- q lies in front of p, and c between them
      before : Before (place p) (place q) (place a) (place b) → (c : List L) × (s.front ≡ t.front ++ u ++ c) × (t.behind ≡ c ++ (n ++ s.behind)) → (m : List L) × Step a d m × Step b m e
      before w (c, f, g) =
          let k : length s.front ≡ length t.front + length u + length c = ap length f ∙ simp length-append in (
            t.front ++ (v ++ (c ++ (o ++ s.behind))),
            record { front = t.front; behind = c ++ (o ++ s.behind); at = omega arith; was = rw (x.first.olds, s.was, f) (simp append_assoc); becomes = rw x.first.news },
            record { front = t.front ++ (v ++ c); behind = s.behind; at = simp length-append (omega arith); was = rw x.second.olds (simp append_assoc); becomes = rw (x.second.news, t.becomes, g) (simp append_assoc) },
          )
