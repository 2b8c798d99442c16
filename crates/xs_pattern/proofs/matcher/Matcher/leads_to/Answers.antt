use Rattle.std.proofs.Common.{◌≡◌, ℕ, IfOk, List, ap, subst, sym, ◌∙◌}
use Rattle.xs_xpath.specs.declared.expr.Expr.{Expr}
use Rattle.xs_xpath.specs.Exprs.{tree_from}
use Rattle.xs_eval_spec.specs.Evaluation.{runs_of}
use Rattle.xs_pattern_spec.specs.Matching.{placed_at, selected, step_nodes}
use Rattle.xs_pattern_spec.specs.Predicates.{is_among}
use Rattle.xs_pattern.proofs.TreeLemmas.{selected-step}
use Rattle.xs_pattern.proofs.matcher.Matcher.leads_to.Goals as goal

pub returns-in-Step : goal.returns-in-Step
returns-in-Step g c =
    let keys = g.K.KeyFinder.tables c.args.self.now.keys.now in
    let around = placed_at c.args.context.now c.args.parent in
    let e : selected keys (tree_from c.args.step.now) around ≡ step_nodes c.in-Step.axis c.in-Step.test (runs_of keys c.deref.result.now) around =
    ap (λ (x : Expr). selected keys (tree_from x) around) c.in-Step.is
    ∙ selected-step keys c.in-Step.axis c.in-Step.test c.in-Step.predicates around
    ∙ ap (λ (es : List Expr). step_nodes c.in-Step.axis c.in-Step.test (runs_of keys es) around) (sym c.deref.ensures.value) in
    record { leads = subst (λ (l : List ℕ). IfOk c.leads_by.result (λ b. b ≡ is_among c.args.node l)) (sym e) c.leads_by.ensures.leads }
