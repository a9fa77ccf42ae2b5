-- A kind whose patches are some of the patches of another kind.
use Rattle.std.specs.Prelude.{Bool, ◌&&◌, Some, Option}
use Rattle.std.specs.Option.{unwrap_or}
use Rattle.kinds.specs.Theory.{Theory}
use Rattle.kinds.specs.Sequences.{◌>>=◌}

-- two patches read, each by itself
abbrev pub both_read : {X Y : Type 0} → (Y → Option X) → Y × Y → Option (X × X)
both_read read (q, p) = do
  q' ← read q
  p' ← read p
  Some (q', p')

-- X is the type of the patches, Y that of the other kind's. `shown` tells which patch of Y one of X is, and `read` is the way back.
-- A patch of X can be written if it can be written in Y and is one of those `within`.
module _ {X Y F : Type 0} (T : Theory Y F) (shown : X → Y) (read : Y → Option X) (within : X → Bool) where
  -- To invert and to commute is to do so in Y and to read what comes out, which must always be in X for the laws to hold.
  abbrev pub restricted : Theory X F
  restricted = record {
    Doc = T.Doc;
    fresh = T.fresh;
    blank = T.blank;
    size = T.size;
    apply = λ x. T.apply (shown x);
    invert = λ x. unwrap_or (read (T.invert (shown x))) x;
    commute = λ p q. T.commute (shown p) (shown q) >>= both_read read;
    growth = λ x. T.growth (shown x);
    written = λ x. within x && T.written (shown x);
    far = λ p q. T.far (shown p) (shown q);
    full = λ x. T.full (shown x);
    fits = T.fits;
    width = T.width;
    encode = T.encode;
  }
