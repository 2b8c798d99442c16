use Rattle.std.proofs.Common.{◌≡◌, ◌<◌, All, length}
use Rattle.xs_trace.specs.Run.{give, limited}
use Rattle.xs_value.specs.declared.value.Value.TheVariants.{Nodes}
use Rattle.xs_value.specs.NodeSet.{in_order}
use Rattle.xs_eval.specs.steps.Unions.{and_step, united}
use Rattle.xs_eval_spec.proofs.StepLemmas.{Rest}
use Rattle.xs_eval.proofs.steps.unite_steps.Given as goal

abbrev pub invariant-loop-operand : goal.invariant-loop-operand
invariant-loop-operand g l = record {
  reported :
      limited l.site (united l.context l.operands) (g.T.Tally.state l.fn.tally)
      ≡ Rest l.site (and_step l.context) (λ found. give (Nodes (in_order found))) l.operands l.operand-index l.found (g.T.Tally.state l.tally);
  inside : All (λ k. k < length l.context.tree) l.found;
  kept : g.T.Tally.kept l.tally ≡ g.T.Tally.kept l.fn.tally;
}
