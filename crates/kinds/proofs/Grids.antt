-- Sequences that commute make a grid of single commutes: each step of the first sequence meets each step of the second.
use Rattle.std.proofs.Common.{◌≡◌, suc, List, [], ◌∷◌, ◌++◌, length, refl, ap, ◌∙◌}
use Rattle.kinds.specs.Theory.{Theory}
use Rattle.kinds.specs.Laws.{Commutes, Lawful}
use Rattle.kinds.specs.Sequences.{inverses}

module _ {P F : Type 0} (T : Theory P F) where
  -- a row: ps and then q commute to q' and then ps'
  pub data Row : List P → P → P → List P → Type 0 where
    nil : {q : P} → Row [] q q []
    cons : {p q q1 q2 p' : P} {ps ps' : List P} → Row ps q q1 ps' → Commutes T p q1 q2 p' → Row (p ∷ ps) q q2 (p' ∷ ps')

  -- rows, first one first: ps and then qs commute to qs' and then ps'
  pub data Grid : List P → List P → List P → List P → Type 0 where
    stop : {ps : List P} → Grid ps [] [] ps
    more : {q q' : P} {ps ps' ps'' qs qs' : List P} → Row ps q q' ps' → Grid ps' qs qs' ps'' → Grid ps (q ∷ qs) (q' ∷ qs') ps''

  -- a column: p and then qs commute to qs' and then p'
  data Column : P → List P → List P → P → Type 0 where
    top : {p : P} → Column p [] [] p
    down : {p q q' p1 p' : P} {qs qs' : List P} → Commutes T p q q' p1 → Column p1 qs qs' p' → Column p (q ∷ qs) (q' ∷ qs') p'

  -- lengths stay
  pub row_length : {ps ps' : List P} {q q' : P} → Row ps q q' ps' → length ps' ≡ length ps
  row_length nil = refl
  row_length (cons h c) = ap suc (row_length h)

  pub grid_lengths : {ps qs qs' ps' : List P} → Grid ps qs qs' ps' → (length qs' ≡ length qs) × (length ps' ≡ length ps)
  grid_lengths stop = (refl, refl)
  grid_lengths (more h w) = let i = grid_lengths w in (ap suc i.0, i.1 ∙ row_length h)

  -- a row over one sequence and then another
  row_join : {ps ps' rs rs' : List P} {x y z : P} → Row ps y x ps' → Row rs z y rs' → Row (ps ++ rs) z x (ps' ++ rs')
  row_join nil k = k
  row_join (cons h c) k = cons (row_join h k) c

  -- a column in front of a grid
  add_column : {ps qs m y z : List P} {p p' : P} → Grid ps qs m y → Column p m z p' → Grid (p ∷ ps) qs z (p' ∷ y)
  add_column stop top = stop
  add_column (more h w) (down c k) = more (cons h c) (add_column w k)

  -- a grid of no columns
  over_none : (ps : List P) → Grid [] ps ps []
  over_none [] = stop
  over_none (p ∷ ps) = more nil (over_none ps)

  module _ (L : Lawful T) where
    -- a row, swapped back, is a column
    row_back : {ps ps' : List P} {q q' : P} → Row ps q q' ps' → Column q' ps' ps q
    row_back nil = top
    row_back (cons h c) = down (L.swap_back _ _ _ _ c) (row_back h)

    pub grid_back : {ps qs qs' ps' : List P} → Grid ps qs qs' ps' → Grid qs' ps' ps qs
    grid_back {ps} stop = over_none ps
    grid_back (more h w) = add_column (grid_back w) (row_back h)

    pub row_turn : {ps ps' : List P} {q q' : P} → Row ps q q' ps' → Row (inverses T ps) q' q (inverses T ps')
    row_turn nil = nil
    row_turn (cons h c) = row_join (row_turn h) (cons nil (L.turning _ _ _ _ c))

    pub grid_turn : {ps qs qs' ps' : List P} → Grid ps qs qs' ps' → Grid (inverses T ps) qs' qs (inverses T ps')
    grid_turn stop = stop
    grid_turn (more h w) = more (row_turn h) (grid_turn w)

    -- the law of three: for a sequence, a patch and a patch ...
    three_row : {ps ps1 ps2 : List P} {q q1 r r1 r2 q2 : P} → Row ps q q1 ps1 → Row ps1 r r1 ps2 → Commutes T q1 r1 r2 q2
        → (s : P) × (t : P) × (u : List P) × Commutes T q r s t × Row ps s r2 u × Row u t q2 ps2
    three_row nil nil e = (_, _, [], e, nil, nil)
    three_row (cons h c) (cons k d) e =
        let g = (L.three _ _ _ _ _ _).0 (_, _, _, c, d, e) in
        let i = three_row h k g.3 in
        (_, _, _, i.3, cons i.4 g.4, cons i.5 g.5)

    -- ... for a sequence, a sequence and a patch ...
    three_rows : {ps qs qs1 ps1 ps2 qs2 : List P} {r r1 r2 : P} → Grid ps qs qs1 ps1 → Row ps1 r r1 ps2 → Row qs1 r1 r2 qs2
        → (s : P) × (t : List P) × (u : List P) × Row qs r s t × Row ps s r2 u × Grid u t qs2 ps2
    three_rows stop k nil = (_, _, _, nil, k, stop)
    three_rows (more h w) k (cons l c) =
        let i = three_rows w k l in
        let g = three_row h i.4 c in
        (_, _, _, cons i.3 g.3, g.4, more g.5 i.5)

    -- ... and for three sequences
    pub three_grids : {ps1 rs rs1 ps2 ps qs qs1 rs2 qs2 : List P} → Grid ps qs qs1 ps1 → Grid ps1 rs rs1 ps2 → Grid qs1 rs1 rs2 qs2
        → (s : List P) × (t : List P) × (u : List P) × Grid qs rs s t × Grid ps s rs2 u × Grid u t qs2 ps2
    three_grids w stop stop = (_, _, _, stop, stop, w)
    three_grids w (more h k) (more l m) =
        let g = three_rows w h l in
        let i = three_grids g.5 k m in
        (_, _, _, more g.3 i.3, more g.4 i.4, i.5)
