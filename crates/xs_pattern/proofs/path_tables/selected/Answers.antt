use Rattle.std.proofs.Common.{◌≡◌, ℕ, IfOk, List, [], ap, subst, sym, ◌∙◌}
use Rattle.xs_xpath.specs.declared.expr.Expr.{Expr}
use Rattle.xs_xpath.specs.Exprs.{tree_from}
use Rattle.xs_eval_spec.specs.Evaluation.{runs_of}
use Rattle.xs_pattern_spec.specs.Matching.{selected, step_nodes}
use Rattle.xs_pattern.proofs.TreeLemmas.{selected-step}
use Rattle.xs_pattern.proofs.path_tables.selected.Goals as goal

pub returns-in-Step : goal.returns-in-Step
returns-in-Step c =
    let ctx = c.args.context.now in
    let e : selected [] (tree_from c.args.step.now) ctx ≡ step_nodes c.in-Step.axis c.in-Step.test (runs_of [] c.deref.result.now) ctx =
    ap (λ (x : Expr). selected [] (tree_from x) ctx) c.in-Step.is
    ∙ selected-step [] c.in-Step.axis c.in-Step.test c.in-Step.predicates ctx
    ∙ ap (λ (es : List Expr). step_nodes c.in-Step.axis c.in-Step.test (runs_of [] es) ctx) (sym c.deref.ensures.value) in
    record { nodes = subst (λ (l : List ℕ). IfOk c.step_nodes.result (λ ns. ns.items ≡ l)) (sym e) c.step_nodes.ensures.nodes }
