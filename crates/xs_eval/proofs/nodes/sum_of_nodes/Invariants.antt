use Rattle.std.proofs.Common.{◌≡◌, pos, drop}
use Rattle.xs_num.specs.declared.number.Number.TheVariants.{Whole}
use Rattle.xs_eval_spec.specs.Functions.{sum_from}
use Rattle.xs_eval.proofs.nodes.sum_of_nodes.Given as goal

abbrev pub invariant-loop-node : goal.invariant-loop-node
invariant-loop-node l = sum_from l.tree (Whole (pos 0)) l.nodes ≡ sum_from l.tree l.total (drop l.node-index l.nodes)
