-- What a kind of patch means. Numbers have no largest here: a size, a growth or a field of a patch is any number.
use Rattle.std.specs.Prelude.{ℕ, Bool, List, Option, Result}

-- P is the type of the patches, F that of the faults.
pub record Theory (P F : Type 0) : Type 1 where
  pub Doc : Type 0
  pub fresh : Doc
  -- whether a document is the fresh one
  pub blank : Doc → Bool
  pub size : Doc → ℕ
  -- the document that p makes of d, or what p finds wrong with d
  pub apply : P → Doc → Result Doc F
  pub invert : P → P
  -- q' and p', where p and then q is the same as q' and then p'
  pub commute : P → P → Option (P × P)
  pub growth : P → ℕ
  -- whether the fields make a patch: each number is in its range
  pub written : P → Bool
  -- whether a commute comes to a patch that cannot be written
  pub far : P → P → Bool
  -- whether p, applied to d, comes to a document that the words cannot hold
  pub full : P → Doc → Bool
  -- the documents that the words can hold, how many words there are, and what they are
  pub fits : Doc → Type 0
  pub width : ℕ
  pub encode : Doc → List ℕ
