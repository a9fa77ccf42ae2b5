-- All histories of a run agree.
use Rattle.std.proofs.Common.{ℕ, List, [], ◌∷◌, ◌++◌, Some, sym, ◌∙◌, subst, arith}
use Rattle.kinds.specs.Theory.{Theory}
use Rattle.kinds.specs.Laws.{Lawful}
use Rattle.kinds.specs.Sequences.{sequences}
use Rattle.kinds.specs.Restricted.{restricted}
use Rattle.kinds.proofs.Sequences.{of_run, room_along}
use Rattle.histories.specs.Runs.{Run}
use Rattle.histories.specs.Named.{one_to_eight}
use Rattle.histories.specs.Agreement.{WellFormed, Agreement, HistoriesAgree}
use Rattle.histories.specs.Proofs.NamedLaws.{names_kept, patches_lawful}
use Rattle.histories.proofs.Setting.{Setting}
use Rattle.histories.proofs.Names.{Distinct, not_held, in_one_place, in_of_holds, holds_of_in, distinct_left}
use Rattle.histories.proofs.Rearranging.{to_left, stays_distinct}
use Rattle.histories.proofs.Passing.{row_name}
use Rattle.histories.proofs.Coherent.{same_names}
use Rattle.histories.proofs.Standing.{Stands, stands_apart, stays_standing}
use Rattle.histories.proofs.ToEnd.{passed_near}
use Rattle.histories.proofs.Blocks.{search_ends}
use Rattle.histories.proofs.Merging.{merged_row, merged_near}
use Rattle.histories.proofs.Removing.{without, inverse_written, undone, taken_back}
use Rattle.histories.proofs.Soundness.{Sound, sound, ready_in, pulls_in}

module _ {P F : Type 0} {T : Theory P F} {name : P → ℕ} (S : Setting T name) where
  open T use {Doc, fresh}

  well_formed : (h : List P) (e : Doc) → Distinct name h → Stands T fresh h e → WellFormed T name h
  well_formed h e d s = record {
    document = e;
    shown = of_run T 0 s.takes;
    room = room_along T S.lawful h fresh s.small;
    grown = let z = s.small in omega arith;
    writable = s.written;
    once = λ ps p qs x. not_held (name p) (ps ++ qs) (in_one_place ps p qs (subst (Distinct name) x d));
  }

  pub agreement : {hs : List (List P)} → Run T name hs → Agreement T name hs
  agreement {hs} r = record {
    well_formed = λ h i. let (e, t) = s.stands h i in well_formed h e (s.once h i) t;
    agree = λ h k i j n.
        let q = same_names S (s.coherent h k i j) (s.once h i) (s.once k j) (λ m x. in_of_holds m k (sym (n m) ∙ holds_of_in x)) (λ m x. in_of_holds m h (n m ∙ holds_of_in x)) in
        let (e, t) = s.stands h i in
        (q, (e, of_run T 0 t.takes, of_run T 0 (stays_standing S.lawful q t).takes));
    passes = λ ps p qs i f.
        let (e, t) = s.stands (ps ++ p ∷ qs) i in
        let (_, _, u) = stands_apart S.lawful ps (p ∷ qs) t in
        passed_near S p qs u f;
    removes = λ ps p qs rest last i f. without S ps p qs rest last (s.once (ps ++ p ∷ qs) i) f;
    undoes = λ ps p qs rest last i f. let (e, t) = s.stands (ps ++ p ∷ qs) i in undone S ps p qs rest last e t f;
    inverts = λ ps p qs rest last i f. let (e, t) = s.stands (ps ++ p ∷ qs) i in inverse_written S ps p qs rest last e t f;
    depends = λ ps n qs i.
        let (e, t) = s.stands (ps ++ n ∷ qs) i in
        let cut = to_left ps (n ∷ []) qs in
        let (_, u, _) = stands_apart S.lawful (ps ++ n ∷ []) qs (stays_standing S.lawful cut t) in
        search_ends S ps n (distinct_left (ps ++ n ∷ []) qs (stays_distinct S cut (s.once (ps ++ n ∷ qs) i))) u;
    gathers = λ h ps n qs b i j f m. let a = ready_in S s h ps n qs b i j f m in (a.needed, a.unneeded, a.front);
    merges = λ h ps n qs b vs ks i j p f. let (e, t) = s.stands h i in merged_near S ks b.itself (pulls_in S s h ps n qs b vs ks i j p e t).line f;
    keeps_name = λ h ps n qs b vs ks z i j p f.
        let a = ready_in S s h ps n qs b i j p.found p.held in
        let (_, w) = merged_row S ks b.itself z f in
        sym (row_name S w) ∙ a.giver.named;
    takes_back = λ h z i. taken_back S h z (s.once (h ++ z ∷ []) i);
  }
    where
      s : Sound T name hs
      s = sound S r

-- over the patches of histories, whose names stay where two commute
module _ {P F : Type 0} (T : Theory P F) where
  pub histories_agree : Lawful T → HistoriesAgree T
  histories_agree L hs = agreement (record { lawful = patches_lawful T L; names_kept = names_kept (restricted (sequences T) (λ c. c) Some one_to_eight) })
