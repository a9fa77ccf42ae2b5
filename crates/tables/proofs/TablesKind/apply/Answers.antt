use Rattle.std.proofs.Common.{get_or, set, sym, ap, ◌∙◌, ap₂, w16, SFits, rules, arith}
use Rattle.std.proofs.lemmas.List.{get_or-set_other}
use Rattle.std.proofs.lemmas.Bool.{true≢false}
use Rattle.tables.specs.Table.{place, word}
use Rattle.tables.proofs.Applied.{found, long, stored, applied}
use Rattle.tables.specs.Proofs.Values.{in_range_from_fits}
use Rattle.tables.proofs.TablesKind.apply.Goals as goal

pub returns : goal.returns
returns c =
    let at = found c.args.p.cell c.in_ok-place.place (grind arith) in
    let n = long _ _ c.words.ensures c.if-not-roomy.ensures in
    let f : SFits w16 c.args.p.old = search rules in
    let g : SFits w16 c.args.p.new = search rules in
    let v = stored _ _ f c.cell_word.ensures.modulo in
    let w = stored _ _ g c.cell_word-2.ensures.modulo in
    let h = ap (λ k. get_or c.args.run.now k 0) (sym at.1) ∙ c.if-run-place.false ∙ v in
    let s = ap₂ (set c.args.run.now) at.1 w in
    record {
      applied = applied c.args.p c.args.run.now n (in_range_from_fits _ f) (in_range_from_fits _ g) at.0 h _ s;
      failed = λ e. absurd (true≢false e);
      others = λ k e. ap (λ x. get_or x k 0) s ∙ get_or-set_other c.args.run.now (place c.args.p.cell) k (word c.args.p.new) 0 e;
    }
