use Rattle.std.proofs.Common.{arith, sym, ◌∙◌}
use Rattle.xs_modules.proofs.RankLemmas.{rank_found, rank_nowhere, rank_passed}
use Rattle.xs_modules.proofs.precedence.rank_of.Goals as goal

pub returns-then-sheet-number : goal.returns-then-sheet-number
returns-then-sheet-number c =
    c.rank_at.ensures ∙ sym (rank_found c.args.number c.loop-place.place c.args.sheets.now _ (omega arith) c.if-sheet-number.true) ∙ c.loop-place.invariant

pub loop-place-preserved : goal.loop-place-preserved
loop-place-preserved c =
    rank_passed c.args.number c.loop-place.place c.args.sheets.now _ (omega arith) c.if-sheet-number.false ∙ c.loop-place.invariant

pub returns : goal.returns
returns c = sym (rank_nowhere c.args.number c.loop-place.place c.args.sheets.now (omega arith)) ∙ c.loop-place.invariant
