-- Some of the laws say something in both directions. With the others, one direction is enough.
use Rattle.std.proofs.Common.{◌≡◌, subst}
use Rattle.kinds.specs.Theory.{Theory}
use Rattle.kinds.specs.Laws.{Takes, Then, Commutes, Undo, SwapBack, SameEffect, Turning, FrontFirst, BackFirst, Three}

module _ {P F : Type 0} (T : Theory P F) where
  open T use {Doc, invert}

  pub undo_from_forward : ((p : P) (d e : Doc) → Takes T p d e → Takes T (invert p) e d) → ((p : P) → invert (invert p) ≡ p) → Undo T
  undo_from_forward forth twice =
      record { takes_back = λ p d e. (forth p d e, λ h. subst (λ (q : P). Takes T q d e) (twice p) (forth (invert p) e d h)); twice = twice }

  abbrev pub Forward : Type 0
  Forward = (p q q' p' : P) → Commutes T p q q' p' → (d e : Doc) → Then T p q d e → Then T q' p' d e

  pub both_ways : SwapBack T → Forward → SameEffect T
  both_ways back forth p q q' p' h d e = (forth p q q' p' h d e, forth q' p' p q (back p q q' p' h) d e)

  module _ (undo : Undo T) (back : SwapBack T) (turn : Turning T) where
    -- the inverses, in reverse order
    pub mirror : (p q q' p' : P) → Commutes T p q q' p' → Commutes T (invert q) (invert p) (invert p') (invert q')
    mirror p q q' p' h = turn q (invert p') (invert p) q' (back (invert p) q' q (invert p') (turn p q q' p' h))

    -- and from inverses back
    unmirror : (p q a b : P) → Commutes T (invert q) (invert p) a b → Commutes T p q (invert b) (invert a)
    unmirror p q a b h = rw (undo.twice p, undo.twice q) at (mirror (invert q) (invert p) a b h)

    pub three_from_front : ((p q r r2 q2 p2 : P) → FrontFirst T p q r r2 q2 p2 → BackFirst T p q r r2 q2 p2) → Three T
    three_from_front forth p q r r2 q2 p2 = (forth p q r r2 q2 p2, back_to_front)
      where
        back_to_front : BackFirst T p q r r2 q2 p2 → FrontFirst T p q r r2 q2 p2
        back_to_front (r1, q1, p1, h, k, l) =
            let (a, b, c, x, y, z) = forth (invert r) (invert q) (invert p) (invert p2) (invert q2) (invert r2)
            (invert q1, invert r1, invert p1, mirror q r r1 q1 h, mirror p r1 r2 p1 k, mirror p1 q1 q2 p2 l) in (
              invert b,
              invert a,
              invert c,
              unmirror p q a b x,
              rw (undo.twice r, undo.twice p2) at (mirror (invert r) a (invert p2) c y),
              rw (undo.twice q2, undo.twice r2) at (mirror c b (invert q2) (invert r2) z),
            )
