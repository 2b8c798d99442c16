use Rattle.std.proofs.Common.{◌≡◌, None, ap, ◌∙◌}
use Rattle.xs_body_spec.specs.World.{with_grain}
use Rattle.xs_body.proofs.WholeLemmas.{blocks-back, whole-one, whole-outcome}
use Rattle.xs_body.proofs.runner.SheetRunner.run_whole.Goals as goal

pub returns-clause-outcome : goal.returns-clause-outcome
returns-clause-outcome g c =
    let e : c.without_grain-runner.result ≡ with_grain None c.args.self.now = c.without_grain-runner.ensures ∙ ap (with_grain None) c.self.view_is in
    whole-outcome c.unless_over.result c.run-finished.result.outcome c.in_ok-finished.field-0 _ (with_grain None c.args.self.now) c.args.task.now c.args.limits
    _ _ _ _ _ _ e c.in_ok-finished.was c.run-finished.ensures.piece c.unless_over.ensures.same c.unless_over.ensures.within

pub returns-clause-whole : goal.returns-clause-whole
returns-clause-whole g c = whole-one c.unless_over.result c.args.self.now c.args.task.now c.args.limits (returns-clause-outcome g c)

pub returns-clause-free : goal.returns-clause-free
returns-clause-free g c =
    blocks-back c.unless_over.result c.run-finished.result.outcome c.in_ok-finished.field-0 c.args.pool.now c.free_blocks-free.result c.replace-blocks.result
    c.run-finished.result.pool c.unless_over.new.pool c.free_blocks-free.ensures.free c.free_blocks-free.ensures.most c.replace-blocks.ensures.value
    c.in_ok-finished.was c.run-finished.ensures.blocks c.unless_over.ensures.free
