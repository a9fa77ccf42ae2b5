-- The laws that every kind keeps.
use Rattle.std.specs.Prelude.{◌≡◌, ℕ, ◌+◌, ◌≤◌, true, false, ◌↔◌, length, replicate, Some, Ok}
use Rattle.kinds.specs.Theory.{Theory}

-- The largest size of a history's document.
abbrev pub most : ℕ
most = 120

module _ {P F : Type 0} (T : Theory P F) where
  open T use {Doc, fresh, blank, size, apply, invert, commute, growth, written, far, full, fits, width, encode}

  -- p takes d to e.
  abbrev pub Takes : P → Doc → Doc → Type 0
  Takes p d e = apply p d ≡ Ok e

  -- p and then q take d to e.
  abbrev pub Then : P → P → Doc → Doc → Type 0
  Then p q d e = (m : Doc) × Takes p d m × Takes q m e

  -- p and then q commute to q' and then p'.
  abbrev pub Commutes : P → P → P → P → Type 0
  Commutes p q q' p' = commute p q ≡ Some (q', p')

  -- p takes d to e exactly when its inverse takes e to d, and the inverse of the inverse is p.
  pub record Undo : Type 0 where
    pub takes_back : (p : P) (d e : Doc) → Takes p d e ↔ Takes (invert p) e d
    pub twice : (p : P) → invert (invert p) ≡ p

  -- What commuted commutes back.
  abbrev pub SwapBack : Type 0
  SwapBack = (p q q' p' : P) → Commutes p q q' p' → Commutes q' p' p q

  -- Commuting changes nothing of what the two do together.
  abbrev pub SameEffect : Type 0
  SameEffect = (p q q' p' : P) → Commutes p q q' p' → (d e : Doc) → Then p q d e ↔ Then q' p' d e

  -- If p and q commute to q' and p', then the inverse of p and q' commute to q and the inverse of p'.
  abbrev pub Turning : Type 0
  Turning = (p q q' p' : P) → Commutes p q q' p' → Commutes (invert p) q' q (invert p')

  -- p, q, r are reversed to r2, q2, p2 by commuting the front pair, the back pair and the front pair ...
  abbrev pub FrontFirst : P → P → P → P → P → P → Type 0
  FrontFirst p q r r2 q2 p2 = (q1 : P) × (p1 : P) × (r1 : P) × Commutes p q q1 p1 × Commutes p1 r r1 p2 × Commutes q1 r1 r2 q2

  -- ... or the back pair, the front pair and the back pair.
  abbrev pub BackFirst : P → P → P → P → P → P → Type 0
  BackFirst p q r r2 q2 p2 = (r1 : P) × (q1 : P) × (p1 : P) × Commutes q r r1 q1 × Commutes p r1 r2 p1 × Commutes p1 q1 q2 p2

  -- If one way meets no refusal, neither does the other, and both end with the same three patches.
  abbrev pub Three : Type 0
  Three = (p q r r2 q2 p2 : P) → FrontFirst p q r r2 q2 p2 ↔ BackFirst p q r r2 q2 p2

  -- Commuting keeps both growths, and a patch makes a document larger by its growth at most.
  pub record Growth : Type 0 where
    pub keeps : (p q q' p' : P) → Commutes p q q' p' → (growth q' ≡ growth q) × (growth p' ≡ growth p)
    pub bounds : (p : P) (d e : Doc) → Takes p d e → size e ≤ size d + growth p

  -- No commute is too far of patches that apply to a document whose size and both growths are 120 at most:
  -- one after the other, or, for the inverse of p with q, each of p and q by itself.
  pub record Reach : Type 0 where
    pub in_turn : (p q : P) (d e : Doc) → Then p q d e → size d + growth p + growth q ≤ most → far p q ≡ false
    pub each : (p q : P) (d m e : Doc) → Takes p d m → Takes q d e → size d + growth p + growth q ≤ most → far (invert p) q ≡ false

  -- What is made of patches that can be written, and does not come too far, can be written.
  pub record StaysWritten : Type 0 where
    pub inverted : (p : P) → written p ≡ true → written (invert p) ≡ true
    pub commuted : (p q q' p' : P) → Commutes p q q' p' → far p q ≡ false → written p ≡ true → written q ≡ true → (written q' ≡ true) × (written p' ≡ true)

  -- The words hold the fresh document, by zeros, and every document that is made of it by patches that can be written and find room;
  -- each fills them in a way of its own. There is room wherever size and growth are 120 at most.
  pub record HeldInWords : Type 0 where
    pub starts : fits fresh × (size fresh ≡ 0) × (encode fresh ≡ replicate width 0)
    pub tells_fresh : (d : Doc) → (blank d ≡ true) ↔ (d ≡ fresh)
    pub stays : (p : P) (d e : Doc) → written p ≡ true → fits d → full p d ≡ false → Takes p d e → fits e
    pub room : (p : P) (d : Doc) → size d + growth p ≤ most → full p d ≡ false
    pub filled : (d : Doc) → fits d → length (encode d) ≡ width
    pub apart : (d e : Doc) → fits d → fits e → encode d ≡ encode e → d ≡ e

  -- All of them.
  pub record Lawful : Type 0 where
    pub undo : Undo
    pub swap_back : SwapBack
    pub same_effect : SameEffect
    pub turning : Turning
    pub three : Three
    pub grows : Growth
    pub reach : Reach
    pub stays_written : StaysWritten
    pub held_in_words : HeldInWords
