use Rattle.std.proofs.Common.{sym}
use Rattle.std.proofs.lemmas.Result.{IfOk-weaker}
use Rattle.xs_xpath.specs.Exprs.{tree_from}
use Rattle.xs_pattern.proofs.PathTableLemmas.{ends-behind, ends-selected}
use Rattle.xs_pattern.proofs.path_tables.next_ends.Goals as goal

pub returns-then-is_descend : goal.returns-then-is_descend
returns-then-is_descend c = record {
  next =
      IfOk-weaker c.below.result _ _
      (λ t made. ends-behind c.args.tree.now c.args.scope.now.pairs.items (tree_from c.args.step.now) c.args.ends.now t.items
      (sym c.if-is_descend.ensures) made) c.below.ensures.below;
}

pub returns : goal.returns
returns c = record {
  next =
      IfOk-weaker c.led.result _ _
      (λ t made. ends-selected c.args.tree.now c.args.scope.now.pairs.items (tree_from c.args.step.now) c.args.ends.now t.items c.led.ensures.tree
      (sym c.if-is_descend.ensures) made) c.led.ensures.led;
}
