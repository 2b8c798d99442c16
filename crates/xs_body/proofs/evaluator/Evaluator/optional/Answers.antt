use Rattle.std.proofs.Common.{ℕ, List, Option}
use Rattle.std.proofs.lemmas.Result.{err_from_is_err_and}
use Rattle.xs_body.specs.steps.Frames.{last}
use Rattle.xs_body.proofs.NumberLemmas.{none-reported, some-ends, some-reported}
use Rattle.xs_body.proofs.evaluator.Evaluator.optional.Goals as goal

pub returns-in_err-template-in-Some-clause-reported : goal.returns-in_err-template-in-Some-clause-reported
returns-in_err-template-in-Some-clause-reported g c =
    let p = err_from_is_err_and c.from_residual.result c.from_residual.ensures.1 in
    some-ends (λ (x : List ℕ). x) (λ (o : Option (List ℕ)). o) c.args.self.now.world c.args.scope.focus
    (last c.args.scope.seen c.args.self.now.slots) c.args.site c.args.template.now c.in-Some.template (g.T.Tally.state c.args.tally.now)
    (g.T.Tally.state c.template.new.tally) c.from_residual.result _ _ c.in-Some.is p.1 p.2 c.in_err-template-in-Some.ensures.reported

pub returns-in_ok-template-in-Some-clause-reported : goal.returns-in_ok-template-in-Some-clause-reported
returns-in_ok-template-in-Some-clause-reported g c =
    some-reported c.args.self.now.world c.args.scope.focus (last c.args.scope.seen c.args.self.now.slots) c.args.site c.args.template.now
    c.in-Some.template _ (g.T.Tally.state c.args.tally.now) (g.T.Tally.state c.template.new.tally) c.in-Some.is
    c.in_ok-template-in-Some.ensures.reported

pub returns-in-None-clause-reported : goal.returns-in-None-clause-reported
returns-in-None-clause-reported g c =
    none-reported c.args.self.now.world c.args.scope.focus (last c.args.scope.seen c.args.self.now.slots) c.args.site c.args.template.now
    (g.T.Tally.state c.args.tally.now) c.in-None.is
