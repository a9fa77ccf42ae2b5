-- Pairs are a part of the sequences, and so keep the laws.
use Rattle.std.proofs.Common.{◌≡◌, true, List, [], ◌∷◌, length, refl, arith}
use Rattle.kinds.specs.Theory.{Theory}
use Rattle.kinds.specs.Laws.{Lawful}
use Rattle.kinds.specs.Sequences.{sequences}
use Rattle.kinds.proofs.Sequences.{commuted_lengths, sequences_lawful}
use Rattle.kinds.proofs.Restricted.{Part, restricted_lawful}
use Rattle.pairs.specs.declared.Steps.TheVariants.{the_data as Steps, One, Two}
use Rattle.pairs.specs.Pairs.{listed, patch_of, pairs}

-- as many patches as the steps of a patch are the steps of a patch
as_many : {P : Type 0} (x : Steps P) (ys : List P) → length ys ≡ length (listed x) → (y : Steps P) × (listed y ≡ ys)
as_many (One p) [] e = absurd (omega arith)
as_many (One p) (a ∷ []) e = (One a, refl)
as_many (One p) (a ∷ b ∷ s) e = absurd (omega arith)
as_many (Two p q) [] e = absurd (omega arith)
as_many (Two p q) (a ∷ []) e = absurd (omega arith)
as_many (Two p q) (a ∷ b ∷ []) e = (Two a b, refl)
as_many (Two p q) (a ∷ b ∷ c ∷ s) e = absurd (omega arith)

module _ {P F : Type 0} (T : Theory P F) where
  pub part_of_sequences : Part (sequences T) listed patch_of (λ p. true)
  part_of_sequences = record {
    read_shown = elim [ One p ↦ refl | Two p q ↦ refl ];
    inverts_in = elim [ One p ↦ refl | Two p q ↦ refl ];
    commutes_in = λ p q b a h.
        let (l, m) = commuted_lengths T (listed p) (listed q) b a h in
        let (q', x) = as_many q b l in
        let (p', y) = as_many p a m in
        (q', p', x, y);
    within_inverted = λ p w. refl;
    within_commuted = λ p q q' p' h v w. (refl, refl);
  }

  pub pairs_lawful : Lawful T → Lawful (pairs T)
  pairs_lawful L = restricted_lawful (sequences T) listed patch_of (λ p. true) part_of_sequences (sequences_lawful T L)
