-- Patches that can be replayed on a document, in every order.
use Rattle.std.proofs.Common.{◌≡◌, ◌+◌, ◌≤◌, true, false, List, [], ◌∷◌, ◌++◌, refl, ◌∙◌, arith}
use Rattle.std.proofs.lemmas.Bool.{and_parts, and_from}
use Rattle.kinds.specs.Theory.{Theory}
use Rattle.kinds.specs.Laws.{most, Takes, Lawful}
use Rattle.kinds.specs.Sequences.{growths, all_written}
use Rattle.kinds.proofs.Sequences.{Run as AllTake, end, step, run_join, run_grows, growths_append, written_append}
use Rattle.histories.specs.History.{Exchanged, here, there, Rearranged, done, more}

-- the patches h take d to e, can be written, and the size of d and all growths are 120 at most
pub record Stands {P F : Type 0} (T : Theory P F) (d : T.Doc) (h : List P) (e : T.Doc) : Type 0 where
  pub takes : AllTake T h d e
  pub small : T.size d + growths T h ≤ most
  pub written : all_written T h ≡ true

module _ {P F : Type 0} {T : Theory P F} where
  open T use {Doc, size, growth, written, far}

  take_apart : (s : List P) {t : List P} {d e : Doc} → AllTake T (s ++ t) d e → (m : Doc) × AllTake T s d m × AllTake T t m e
  take_apart [] r = (_, end, r)
  take_apart (p ∷ s) (step a r) = let (_, k, l) = take_apart s r in (_, step a k, l)

  module _ (L : Lawful T) where
    written_apart : (s t : List P) → all_written T (s ++ t) ≡ true → (all_written T s ≡ true) × (all_written T t ≡ true)
    written_apart [] t w = (refl, w)
    written_apart (p ∷ s) t w =
        let (a, b) = and_parts _ _ w in
        let (i, j) = written_apart s t b in
        (and_from _ _ a i, j)

    -- one patch, and then the others
    pub stands_head : {p : P} {h : List P} {d e : Doc} → Stands T d (p ∷ h) e → (m : Doc) × Takes T p d m × Stands T m h e
    stands_head {p} {h} {d} {e} s = go s.takes
      where
        go : AllTake T (p ∷ h) d e → (m : Doc) × Takes T p d m × Stands T m h e
        go (step a r) =
            let small = s.small in
            let k = L.grows.bounds _ _ _ a in
            (_, a, record { takes = r; small = omega arith; written = (and_parts _ _ s.written).1 })

    -- some, and then the others
    pub stands_apart : (h k : List P) {d e : Doc} → Stands T d (h ++ k) e → (m : Doc) × Stands T d h m × Stands T m k e
    stands_apart h k s =
        let (m, a, b) = take_apart h s.takes in
        let (v, w) = written_apart h k s.written in
        let small = s.small in
        let g = growths_append T h k in
        let l = run_grows T L a in
        (m, record { takes = a; small = omega arith; written = v }, record { takes = b; small = omega arith; written = w })

    pub stands_more : {h : List P} {p : P} {d m e : Doc} → Stands T d h m → Takes T p m e → size d + (growths T h + growth p) ≤ most → written p ≡ true → Stands T d (h ++ p ∷ []) e
    stands_more {h} {p} s a small w = record {
      takes = run_join T s.takes (step a end);
      small = let g = growths_append T h (p ∷ []) in omega arith;
      written = written_append T h (p ∷ []) s.written (and_from _ _ w refl);
    }

    -- two neighbours are not too far to commute
    pub stands_near : {p q : P} {h : List P} {d e : Doc} → Stands T d (p ∷ q ∷ h) e → far p q ≡ false
    stands_near s =
        let (_, a, r) = stands_head s in
        let (_, b, _) = stands_head r in
        let small = s.small in
        L.reach.in_turn _ _ _ _ (_, a, b) (omega arith)

    -- any order of the patches does the same
    pub exchanged_growths : {h k : List P} → Exchanged T h k → growths T k ≡ growths T h
    exchanged_growths (here c) = let (a, b) = L.grows.keeps _ _ _ _ c in omega arith
    exchanged_growths (there e) = let i = exchanged_growths e in omega arith

    exchanged_stands : {h k : List P} {d e : Doc} → Exchanged T h k → Stands T d h e → Stands T d k e
    exchanged_stands (here c) s =
        let (_, a, r) = stands_head s in
        let (_, b, t) = stands_head r in
        let (_, i, j) = (L.same_effect _ _ _ _ c _ _).0 (_, a, b) in
        let (g, g') = L.grows.keeps _ _ _ _ c in
        let small = s.small in
        let (v, x) = and_parts _ _ s.written in
        let (w, y) = and_parts _ _ x in
        let (m, n) = L.stays_written.commuted _ _ _ _ c (stands_near s) v w in
        record { takes = step i (step j t.takes); small = omega arith; written = and_from _ _ m (and_from _ _ n y) }
    exchanged_stands (there x) s =
        let (_, a, r) = stands_head s in
        let t = exchanged_stands x r in
        let g = exchanged_growths x in
        let small = s.small in
        record { takes = step a t.takes; small = omega arith; written = and_from _ _ (and_parts _ _ s.written).0 t.written }

    pub stays_standing : {h k : List P} {d e : Doc} → Rearranged T h k → Stands T d h e → Stands T d k e
    stays_standing done s = s
    stays_standing (more p x) s = exchanged_stands x (stays_standing p s)

    pub same_growths : {h k : List P} → Rearranged T h k → growths T k ≡ growths T h
    same_growths done = refl
    same_growths (more p x) = exchanged_growths x ∙ same_growths p
