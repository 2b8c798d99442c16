use Rattle.std.proofs.Common.{Bool, List, Option, Some, Vec, Global, ap, reverse, subst, sym, ◌∙◌}
use Rattle.xs_xpath.specs.Exprs.{tree_from}
use Rattle.xs_xpath.specs.Tree.{Tree}
use Rattle.xs_pattern.specs.Above.{AreEnds, EndsBy}
use Rattle.xs_pattern.specs.steps.Climb.{backwards, before_slashes}
use Rattle.xs_pattern.proofs.AboveLemmas.{above-table}
use Rattle.xs_pattern.proofs.above.above_of.Goals as goal

pub returns-in_ok-below-in-Some-clause-above : goal.returns-in_ok-below-in-Some-clause-above
returns-in_ok-below-in-Some-clause-above c =
    let rs = c.args.tree.now in
    let start = tree_from c.start_of.result.now in
    let before = backwards c.before_slashes-before.result.now in
    let ends : AreEnds rs start before (Some c.in-Some.ends) =
    subst (λ (o : Option (Vec Bool Global)). AreEnds rs start before o) c.in-Some.is c.in_ok-ends_of.ensures.ends in
    above-table rs (tree_from c.args.alternative.now) start before c.deref.result.now c.in_ok-below-in-Some.field-0.items
    c.in_ok-below-in-Some.ensures.below
    (subst (λ (l : List Bool). EndsBy rs start before l) (sym c.deref.ensures.value) ends.1)
    c.start_of.ensures
    (c.before_slashes-before.ensures ∙ ap (λ (ts : List Tree). before_slashes (reverse ts)) c.steps_of.ensures)
