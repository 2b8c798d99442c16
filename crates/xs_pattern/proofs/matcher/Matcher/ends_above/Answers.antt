use Rattle.std.proofs.Common.{◌≡◌, None, Some, arith, ap, sym, ◌∙◌}
use Rattle.xs_tree.specs.Record.{at}
use Rattle.xs_tree.proofs.WalkLemmas.{IsPlaced-at}
use Rattle.xs_xpath.specs.Exprs.{tree_from}
use Rattle.xs_eval_spec.specs.Context.{Context}
use Rattle.xs_pattern.specs.steps.Climb.{backwards}
use Rattle.xs_pattern.proofs.ClimbLemmas.{above-root, above-self, above-up}
use Rattle.xs_pattern.proofs.matcher.Matcher.ends_above.Goals as goal

pub returns-in-Ok-Fits : goal.returns-in-Ok-Fits
returns-in-Ok-Fits g c =
    let keys = g.K.KeyFinder.tables c.args.self.now.keys.now in
    let fits = rw c.in-Ok-Fits.field-0-is at c.in-Ok-Fits.ensures.reached in
    record {
      ends =
          sym (above-self keys c.args.context.now (tree_from c.args.start.now) (backwards c.loop-refused.steps.now) c.loop-refused.node
          c.loop-refused.invariant.inside fits) ∙ c.loop-refused.invariant.whole;
    }

pub returns-in-None : goal.returns-in-None
returns-in-None g c =
    let keys = g.K.KeyFinder.tables c.args.self.now.keys.now in
    let ctx = c.args.context.now in
    let n = c.loop-refused.node in
    let differs = rw c.in-Ok-Differs.field-0-is at c.in-Ok-Differs.ensures.reached in
    let none : (at ctx.tree n).parent ≡ None = sym (c.in-None.ensures.parent ∙ ap (λ (x : Context). (at x.tree n).parent) c.context.view_is) in
    record {
      ends =
          sym (above-root keys ctx (tree_from c.args.start.now) (backwards c.loop-refused.steps.now) n c.requires.tree c.loop-refused.invariant.inside none
          differs) ∙ c.loop-refused.invariant.whole;
    }

pub loop-refused-preserved : goal.loop-refused-preserved
loop-refused-preserved g c =
    let keys = g.K.KeyFinder.tables c.args.self.now.keys.now in
    let ctx = c.args.context.now in
    let n = c.loop-refused.node in
    let p = c.in-Some.parent in
    let differs = rw c.in-Ok-Differs.field-0-is at c.in-Ok-Differs.ensures.reached in
    let some : (at ctx.tree n).parent ≡ Some p = sym (c.in-Some.ensures.parent ∙ ap (λ (x : Context). (at x.tree n).parent) c.context.view_is) in
    let first = (IsPlaced-at ctx.tree n p c.requires.tree c.loop-refused.invariant.inside some).before in
    record {
      whole =
          sym (above-up keys ctx (tree_from c.args.start.now) (backwards c.loop-refused.steps.now) n p c.requires.tree c.loop-refused.invariant.inside some
          differs) ∙ c.loop-refused.invariant.whole;
      inside = omega (arith, first, c.loop-refused.invariant.inside);
    }
