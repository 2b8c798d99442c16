use Rattle.std.proofs.Common.{◌<◌, ◌∙◌, All, ap, arith, length, subst, sym}
use Rattle.std.proofs.lemmas.Result.{err_from_is_err_and}
use Rattle.xs_trace.specs.Play.{Goes}
use Rattle.xs_trace.specs.Run.{give}
use Rattle.xs_value.specs.declared.value.Value.TheVariants.{Nodes}
use Rattle.xs_value.specs.NodeSet.{in_order}
use Rattle.xs_eval.specs.steps.Unions.{and_step}
use Rattle.xs_eval_spec.proofs.InsideLemmas.{in_order_all}
use Rattle.xs_eval_spec.proofs.StepLemmas.{exits_in_items, gives, items_done, items_on}
use Rattle.xs_eval.proofs.steps.unite_steps.Goals as goal

pub returns-in_err-add_step-clause-reported : goal.returns-in_err-add_step-clause-reported
returns-in_err-add_step-clause-reported g c =
    let p = err_from_is_err_and c.from_residual.result c.from_residual.ensures.1 in
    exits_in_items (λ (u : Unit {0}). c.add_step.new.found) (λ v. v) c.args.site (and_step c.args.context.now) (λ found. give (Nodes (in_order found)))
    c.args.operands.now c.loop-operand.operand-index c.operand-item.result c.loop-operand.found
    (g.T.Tally.state c.loop-operand.tally) (g.T.Tally.state c.add_step.new.tally) _ c.from_residual.result _ _
    c.loop-operand.invariant.reported (omega arith) (sym c.operand-item.is) p.1 p.2 c.in_err-add_step.ensures.reported

pub loop-operand-preserved : goal.loop-operand-preserved
loop-operand-preserved g c = record {
  reported =
      items_on c.args.site (and_step c.args.context.now) (λ found. give (Nodes (in_order found)))
      c.args.operands.now c.loop-operand.operand-index c.operand-item.result c.loop-operand.found c.add_step.new.found
      (g.T.Tally.state c.loop-operand.tally) (g.T.Tally.state c.add_step.new.tally) _
      c.loop-operand.invariant.reported (omega arith) (sym c.operand-item.is) c.in_ok-add_step.ensures.reported;
  inside = c.in_ok-add_step.ensures.inside;
  kept = c.in_ok-add_step.ensures.kept ∙ c.loop-operand.invariant.kept;
}

pub returns-clause-reported : goal.returns-clause-reported
returns-clause-reported g c =
    let s = g.T.Tally.state c.loop-operand.tally in
    c.loop-operand.invariant.reported
    ∙ items_done c.args.site (and_step c.args.context.now) (λ found. give (Nodes (in_order found)))
    c.args.operands.now c.loop-operand.operand-index c.loop-operand.found s (omega arith)
    ∙ gives c.args.site (Nodes (in_order c.loop-operand.found)) s
    ∙ ap (λ ns. Goes (Nodes ns) s) (sym c.in_ok-of_list.ensures.nodes)

pub returns-clause-inside : goal.returns-clause-inside
returns-clause-inside g c =
    subst (All (λ k. k < length c.args.context.now.tree)) (sym c.in_ok-of_list.ensures.nodes)
    (in_order_all (λ k. k < length c.args.context.now.tree) c.loop-operand.found c.loop-operand.invariant.inside)
