-- Sides: a document is one of each of two kinds.
use Rattle.std.specs.Prelude.{ℕ, ◌+◌, Bool, false, ◌&&◌, ◌++◌, Some, Option, Result}
use Rattle.kinds.specs.Theory.{Theory}
use Rattle.kinds.specs.Parts.{both, part}
use Rattle.sides.specs.declared.Side.TheVariants.{the_data as Side, Left, Right}

module _ {P Q F G : Type 0} (L : Theory P F) (R : Theory Q G) where
  abbrev pub side_apply : Side P Q → L.Doc × R.Doc → Result (L.Doc × R.Doc) (Side F G)
  side_apply (Left p) d = part (λ e. (e, d.1)) Left (L.apply p d.0)
  side_apply (Right q) d = part (λ e. (d.0, e)) Right (R.apply q d.1)

  abbrev pub side_invert : Side P Q → Side P Q
  side_invert (Left p) = Left (L.invert p)
  side_invert (Right q) = Right (R.invert q)

  -- one side commutes as its kind does, opposite sides always, and neither is changed
  abbrev pub side_commute : Side P Q → Side P Q → Option (Side P Q × Side P Q)
  side_commute (Left p) (Left q) = both Left Left (L.commute p q)
  side_commute (Left p) (Right q) = Some (Right q, Left p)
  side_commute (Right p) (Left q) = Some (Left q, Right p)
  side_commute (Right p) (Right q) = both Right Right (R.commute p q)

  abbrev pub side_far : Side P Q → Side P Q → Bool
  side_far (Left p) (Left q) = L.far p q
  side_far (Left p) (Right q) = false
  side_far (Right p) (Left q) = false
  side_far (Right p) (Right q) = R.far p q

  abbrev pub side_growth : Side P Q → ℕ
  side_growth (Left p) = L.growth p
  side_growth (Right q) = R.growth q

  abbrev pub side_written : Side P Q → Bool
  side_written (Left p) = L.written p
  side_written (Right q) = R.written q

  abbrev pub side_full : Side P Q → L.Doc × R.Doc → Bool
  side_full (Left p) d = L.full p d.0
  side_full (Right q) d = R.full q d.1

  -- where the words of the side that a patch changes begin, and how many they are
  abbrev pub side_start : Side P Q → ℕ
  side_start (Left p) = 0
  side_start (Right q) = L.width

  abbrev pub side_width : Side P Q → ℕ
  side_width (Left p) = L.width
  side_width (Right q) = R.width

  abbrev pub sides : Theory (Side P Q) (Side F G)
  sides = record {
    Doc = L.Doc × R.Doc;
    fresh = (L.fresh, R.fresh);
    blank = λ d. L.blank d.0 && R.blank d.1;
    size = λ d. L.size d.0 + R.size d.1;
    apply = side_apply;
    invert = side_invert;
    commute = side_commute;
    growth = side_growth;
    written = side_written;
    far = side_far;
    full = side_full;
    fits = λ d. L.fits d.0 × R.fits d.1;
    width = L.width + R.width;
    encode = λ d. L.encode d.0 ++ R.encode d.1;
  }
