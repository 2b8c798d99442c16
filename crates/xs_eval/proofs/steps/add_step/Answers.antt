use Rattle.xs_eval.proofs.UnionLemmas.{always, steps_inside}
use Rattle.xs_eval.proofs.steps.add_step.Goals as goal

pub returns-in_ok-find-in-Some-clause-inside : goal.returns-in_ok-find-in-Some-clause-inside
returns-in_ok-find-in-Some-clause-inside g c =
    always c.tick_several.result
    (steps_inside c.args.context.now c.in-Some.step.0 c.in-Some.step.1.now c.args.found.now c.find.new.found
    c.in_ok-find-in-Some.ensures.nodes c.requires.inside)
