-- Tables in words.
use Rattle.std.specs.Prelude.{◌≡◌, ℕ, zero, suc, true, List, [], ◌∷◌, map, length, replicate, ℤ, pos, refl}
use Rattle.std.proofs.Common.{ap, ap₂, ◌∙◌, arith}
use Rattle.std.specs.List.{AllByRecursion}
use Rattle.std.proofs.ByRecursion.{All-set}
use Rattle.std.proofs.lemmas.List.{length-set, length-map}
use Rattle.std.proofs.lemmas.Bool.{and_parts, eqb-true}
use Rattle.kinds.specs.Laws.{HeldInWords}
use Rattle.tables.specs.declared.CellChange.{CellChange}
use Rattle.tables.specs.Table.{table, in_range, word, zeros, place}
use Rattle.tables.specs.Proofs.Takes.{Changed, changed, written_parts}
use Rattle.tables.specs.Proofs.Values.{same_from_test, word_apart}

all_zero : (n : ℕ) → AllByRecursion (λ v. in_range v ≡ true) (replicate n (pos 0))
all_zero zero = tt
all_zero (suc n) = (refl, all_zero n)

zeros_only : (d : List ℤ) → zeros d ≡ true → d ≡ replicate (length d) (pos 0)
zeros_only [] h = refl
zeros_only (v ∷ vs) h = let a = and_parts _ _ h in ap₂ ◌∷◌ (same_from_test v (pos 0) a.0) (zeros_only vs a.1)

-- no two tables have the same words
words_apart : (d e : List ℤ) → AllByRecursion (λ v. in_range v ≡ true) d → AllByRecursion (λ v. in_range v ≡ true) e → map word d ≡ map word e → d ≡ e
words_apart [] [] f g h = refl
words_apart [] (y ∷ ys) f g h = absurd (let z : ◌≡◌ {A = ℕ} 0 1 = cc in omega arith)
words_apart (x ∷ xs) [] f g h = absurd (let z : ◌≡◌ {A = ℕ} 0 1 = cc in omega arith)
words_apart (x ∷ xs) (y ∷ ys) f g h = ap₂ ◌∷◌ (word_apart x y f.0 g.0 (cc)) (words_apart xs ys f.1 g.1 (cc))

pub still_fits : (p : CellChange) (d e : List ℤ) → in_range p.new ≡ true → table.fits d → Changed p d e → table.fits e
still_fits p d e r f c =
    let k : ℕ = place p.cell in
    rw c.put (length-set d k p.new ∙ f.0, All-set (λ v. in_range v ≡ true) d k p.new r f.1)

pub held_in_words : HeldInWords table
held_in_words = record {
  starts = ((refl, all_zero 64), refl, refl);
  tells_fresh = λ d. (λ h. let a = and_parts _ _ h in zeros_only d a.1 ∙ ap (λ n. replicate n (pos 0)) (eqb-true _ _ a.0), λ e. rw e);
  stays = λ p d e w f r h. still_fits p d e (written_parts p w).2 f (changed p d e h);
  room = λ p d n. refl;
  filled = λ d f. length-map d word ∙ f.0;
  apart = λ d e f g h. words_apart d e f.1 g.1 h;
}
