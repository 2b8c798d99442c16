use Rattle.std.proofs.Common.{sym, ◌∙◌}
use Rattle.std.proofs.lemmas.Result.{IfOk-weaker}
use Rattle.xs_xpath.specs.Exprs.{tree_from, trees_from}
use Rattle.xs_pattern.proofs.PathTableLemmas.{path-table-if}
use Rattle.xs_pattern.proofs.path_tables.path_table.Goals as goal

pub returns-clause-table : goal.returns-clause-table
returns-clause-table c =
    IfOk-weaker c.ends_of.result _ _
    (λ o ends. path-table-if c.args.tree.now c.args.scope.now.pairs.items (tree_from c.args.alternative.now) (tree_from c.start_of.result.now)
    (trees_from c.steps_of.result.now) o (sym c.is_free.ensures ∙ c.if-not-is_free.false) c.start_of.ensures c.steps_of.ensures ends)
    c.ends_of.ensures.ends
