use Rattle.std.proofs.Common.{◌≡◌, ◌<◌, false, None, Some, List, ◌∷◌, arith, ap, length, subst, sym, ◌∙◌}
use Rattle.xs_tree.specs.Record.{at}
use Rattle.xs_tree.proofs.WalkLemmas.{IsPlaced-at}
use Rattle.xs_xpath.specs.Exprs.{tree_from}
use Rattle.xs_xpath.specs.Tree.{Tree}
use Rattle.xs_xpath.specs.declared.expr.Expr.{Expr}
use Rattle.xs_eval_spec.specs.Context.{Context}
use Rattle.xs_eval_spec.proofs.StepLemmas.{no_items}
use Rattle.xs_pattern_spec.specs.Matching.{ends_path}
use Rattle.xs_pattern.specs.steps.Climb.{backwards}
use Rattle.xs_pattern.proofs.ClimbLemmas.{Gone, ends-no_parent, ends-parent, ends-start, gone-step, reached-behind}
use Rattle.xs_pattern.proofs.TreeLemmas.{backwards-push}
use Rattle.xs_pattern.proofs.matcher.Matcher.climb.Goals as goal

pub returns-then-is_descend : goal.returns-then-is_descend
returns-then-is_descend g c =
    let keys = g.K.KeyFinder.tables c.args.self.now.keys.now in
    let ctx = c.args.context.now in
    let start = tree_from c.args.start.now in
    let s = tree_from c.in-Some.step.now in
    let all = backwards c.args.steps.now in
    let before = backwards c.in-Some.before.now in
    let n = c.loop-step.node in
    let gone : Gone keys ctx start all (s ∷ before) c.args.node n =
    subst (λ (l : List Tree). Gone keys ctx start all l c.args.node n)
    (ap backwards c.in-Some.ensures.cases.0 ∙ backwards-push c.in-Some.before.now c.in-Some.step.now) c.loop-step.invariant.gone in
    let shorter : length c.in-Some.before.now < length c.args.steps.now = omega (arith, c.in-Some.ensures.cases.1, c.loop-step.invariant.shorter) in
    record {
      reached =
          reached-behind keys ctx start s c.args.steps.now c.in-Some.before.now c.args.node n c.behind_slashes.result c.requires.tree c.requires.node gone
          (sym c.if-is_descend.ensures) shorter c.behind_slashes.ensures;
    }

pub returns-in-None : goal.returns-in-None
returns-in-None g c =
    let keys = g.K.KeyFinder.tables c.args.self.now.keys.now in
    let ctx = c.args.context.now in
    let start = tree_from c.args.start.now in
    let s = tree_from c.in-Some.step.now in
    let all = backwards c.args.steps.now in
    let before = backwards c.in-Some.before.now in
    let n = c.loop-step.node in
    let gone : Gone keys ctx start all (s ∷ before) c.args.node n =
    subst (λ (l : List Tree). Gone keys ctx start all l c.args.node n)
    (ap backwards c.in-Some.ensures.cases.0 ∙ backwards-push c.in-Some.before.now c.in-Some.step.now) c.loop-step.invariant.gone in
    let none : (at ctx.tree n).parent ≡ None = sym (c.in-None.ensures.parent ∙ ap (λ (x : Context). (at x.tree n).parent) c.context.view_is) in
    record { reached = gone.here ∙ ends-no_parent keys ctx start s before n (sym c.if-is_descend.ensures) none }

pub returns-then-not-branch : goal.returns-then-not-branch
returns-then-not-branch g c =
    let keys = g.K.KeyFinder.tables c.args.self.now.keys.now in
    let ctx = c.args.context.now in
    let start = tree_from c.args.start.now in
    let s = tree_from c.in-Some.step.now in
    let all = backwards c.args.steps.now in
    let before = backwards c.in-Some.before.now in
    let n = c.loop-step.node in
    let p = c.in-Some-parent.parent in
    let gone : Gone keys ctx start all (s ∷ before) c.args.node n =
    subst (λ (l : List Tree). Gone keys ctx start all l c.args.node n)
    (ap backwards c.in-Some.ensures.cases.0 ∙ backwards-push c.in-Some.before.now c.in-Some.step.now) c.loop-step.invariant.gone in
    let some : (at ctx.tree n).parent ≡ Some p =
    sym (c.in-Some-parent.ensures.parent ∙ ap (λ (x : Context). (at x.tree n).parent) c.context.view_is) in
    record {
      reached =
          gone.here ∙ ends-parent keys ctx start s before n p false (sym c.if-is_descend.ensures) some
          (sym c.if-not-branch.true ∙ c.in_ok-leads_to-in-Some-parent.ensures.leads);
    }

pub loop-step-preserved : goal.loop-step-preserved
loop-step-preserved g c =
    let keys = g.K.KeyFinder.tables c.args.self.now.keys.now in
    let ctx = c.args.context.now in
    let start = tree_from c.args.start.now in
    let s = tree_from c.in-Some.step.now in
    let all = backwards c.args.steps.now in
    let before = backwards c.in-Some.before.now in
    let n = c.loop-step.node in
    let p = c.in-Some-parent.parent in
    let gone : Gone keys ctx start all (s ∷ before) c.args.node n =
    subst (λ (l : List Tree). Gone keys ctx start all l c.args.node n)
    (ap backwards c.in-Some.ensures.cases.0 ∙ backwards-push c.in-Some.before.now c.in-Some.step.now) c.loop-step.invariant.gone in
    let some : (at ctx.tree n).parent ≡ Some p =
    sym (c.in-Some-parent.ensures.parent ∙ ap (λ (x : Context). (at x.tree n).parent) c.context.view_is) in
    let first = (IsPlaced-at ctx.tree n p c.requires.tree c.loop-step.invariant.inside some).before in
    record {
      gone =
          gone-step keys ctx start s all before c.args.node n p c.requires.tree c.loop-step.invariant.inside gone (sym c.if-is_descend.ensures) some
          (sym c.if-not-branch.false ∙ c.in_ok-leads_to-in-Some-parent.ensures.leads);
      inside = omega (arith, first, c.loop-step.invariant.inside);
      shorter = omega (arith, c.in-Some.ensures.cases.1, c.loop-step.invariant.shorter);
    }

pub returns-then-branch : goal.returns-then-branch
returns-then-branch g c =
    let keys = g.K.KeyFinder.tables c.args.self.now.keys.now in
    let ctx = c.args.context.now in
    let start = tree_from c.args.start.now in
    let none = no_items c.loop-step.steps.now (omega (arith, c.in_default.ensures.cases)) in
    record {
      reached =
          c.loop-step.invariant.gone.here
          ∙ ap (λ (es : List Expr). ends_path keys ctx start (backwards es) c.loop-step.node) none
          ∙ ends-start keys ctx start c.loop-step.node
          ∙ sym c.in_ok-begins.ensures.begins
          ∙ c.if-branch.true;
    }

pub returns : goal.returns
returns g c =
    let keys = g.K.KeyFinder.tables c.args.self.now.keys.now in
    let ctx = c.args.context.now in
    let start = tree_from c.args.start.now in
    let none = no_items c.loop-step.steps.now (omega (arith, c.in_default.ensures.cases)) in
    record {
      reached =
          c.loop-step.invariant.gone.here
          ∙ ap (λ (es : List Expr). ends_path keys ctx start (backwards es) c.loop-step.node) none
          ∙ ends-start keys ctx start c.loop-step.node
          ∙ sym c.in_ok-begins.ensures.begins
          ∙ c.if-branch.false;
    }
