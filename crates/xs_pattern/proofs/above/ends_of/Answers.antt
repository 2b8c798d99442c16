use Rattle.std.proofs.Common.{◌+◌, ◌<◌, ◌≤◌, Bool, List, Option, None, Vec, Global, ap, arith, drop, length, subst, sym, ◌∙◌}
use Rattle.std.proofs.lemmas.List.{at_drop_all, take_all}
use Rattle.std.specs.List.{list_all}
use Rattle.xs_xpath.specs.declared.expr.Expr.{Expr}
use Rattle.xs_xpath.specs.Exprs.{tree_from, trees_from}
use Rattle.xs_eval_spec.proofs.StepLemmas.{from_here}
use Rattle.xs_pattern.specs.Above.{AreNext, EndsBy, is_plain}
use Rattle.xs_pattern.specs.steps.Climb.{backwards}
use Rattle.xs_pattern.proofs.AboveLemmas.{plain-not, plain-whole}
use Rattle.xs_pattern.proofs.above.ends_of.Goals as goal

-- a step with predicates
pub returns-in-None-2 : goal.returns-in-None-2
returns-in-None-2 c =
    let steps = c.args.steps.now in
    let i = c.loop-step.step-index in
    let s = tree_from c.step-item.result in
    let inside : i < length steps = omega arith in
    let next : AreNext c.args.tree.now s c.deref.result.now None =
    subst (λ (o : Option (Vec Bool Global)). AreNext c.args.tree.now s c.deref.result.now o) c.in-None-2.is c.in_ok-next_ends.ensures.next in
    record {
      ends =
          plain-not (tree_from c.args.start.now) s (trees_from (drop (i + 1) steps)) (trees_from steps)
          (sym (ap (λ (es : List Expr). list_all is_plain (trees_from es)) (from_here steps i c.step-item.result inside (sym c.step-item.is)))
          ∙ c.loop-step.invariant.plain)
          next;
    }

pub returns : goal.returns
returns c =
    let steps = c.args.steps.now in
    let i = c.loop-step.step-index in
    let start = tree_from c.args.start.now in
    let over : length steps ≤ i = omega arith in
    record {
      ends = (
        plain-whole start (trees_from steps) c.loop-step.invariant.begins
            (sym (at_drop_all (λ (es : List Expr). list_all is_plain (trees_from es)) steps i over) ∙ c.loop-step.invariant.plain),
        subst (λ (es : List Expr). EndsBy c.args.tree.now start (backwards es) c.loop-step.ends.items) (take_all i steps over)
            c.loop-step.invariant.ends,
      );
    }
