-- What a type of lines means. Numbers have no largest here.
use Rattle.std.specs.Prelude.{ℕ, Bool, List}

-- L is the type of the lines.
pub record Form (L : Type 0) : Type 0 where
  -- the number of words of a line, and the words of each
  pub width : ℕ
  pub encode : L → List ℕ
  -- the line that words make
  pub decode : List ℕ → L
  -- whether the fields make a line
  pub written : L → Bool
  -- whether two lines are equal
  pub same : L → L → Bool
