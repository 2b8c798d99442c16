use Rattle.std.proofs.Common.{sym, ◌∙◌}
use Rattle.xs_pattern.proofs.AboveLemmas.{below-here, below-parent, below-root}
use Rattle.xs_pattern.proofs.above.is_below.Goals as goal

pub returns-then-is_flagged : goal.returns-then-is_flagged
returns-then-is_flagged c =
    sym (below-here c.args.table.now c.args.tree.now c.args.node c.requires.node (sym c.is_flagged.ensures ∙ c.if-is_flagged.true))

pub returns-in-None : goal.returns-in-None
returns-in-None c =
    sym (below-root c.args.table.now c.args.tree.now c.args.node c.parent.ensures.tree c.requires.node (sym c.in-None.ensures.parent)
    (sym c.is_flagged.ensures ∙ c.if-is_flagged.false))

pub returns-in-Some : goal.returns-in-Some
returns-in-Some c =
    c.is_flagged-in-Some.ensures
    ∙ below-parent c.args.table.now c.args.found.now c.args.tree.now c.args.node c.in-Some.parent c.parent.ensures.tree c.requires.node
    (sym c.in-Some.ensures.parent) (sym c.is_flagged.ensures ∙ c.if-is_flagged.false) c.requires.found
