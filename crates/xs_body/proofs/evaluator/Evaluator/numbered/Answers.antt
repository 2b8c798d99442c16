use Rattle.std.proofs.lemmas.Result.{err_from_is_err_and}
use Rattle.xs_num.specs.declared.number.Number.{Number}
use Rattle.xs_body.specs.declared.numbers.Numbered.{Numbered}
use Rattle.xs_body.specs.steps.Frames.{last}
use Rattle.xs_body.specs.steps.Numbers.{numbered_of}
use Rattle.xs_body.proofs.NumberLemmas.{counted-reported, given-ends, given-reported}
use Rattle.xs_body.proofs.evaluator.Evaluator.numbered.Goals as goal

pub returns-in_err-number-in-Some-clause-reported : goal.returns-in_err-number-in-Some-clause-reported
returns-in_err-number-in-Some-clause-reported g c =
    let p = err_from_is_err_and c.from_residual.result c.from_residual.ensures.1 in
    given-ends (λ (n : Number). n) (λ (n : Numbered). numbered_of n) c.args.self.now.world c.args.decl.now c.args.scope.focus
    (last c.args.scope.seen c.args.self.now.slots) c.args.site c.args.decl.now.value c.in-Some.value (g.T.Tally.state c.args.tally.now)
    (g.T.Tally.state c.number.new.tally) c.from_residual.result _ _ c.in-Some.is p.1 p.2 c.in_err-number-in-Some.ensures.reported

pub returns-in_ok-number-in-Some-clause-reported : goal.returns-in_ok-number-in-Some-clause-reported
returns-in_ok-number-in-Some-clause-reported g c =
    given-reported c.args.self.now.world c.args.decl.now c.args.scope.focus (last c.args.scope.seen c.args.self.now.slots) c.args.site
    c.args.decl.now.value c.in-Some.value c.in_ok-number-in-Some.number (g.T.Tally.state c.args.tally.now) (g.T.Tally.state c.number.new.tally)
    c.in-Some.is c.in_ok-number-in-Some.ensures.reported

pub returns-in_ok-list-in-None-clause-reported : goal.returns-in_ok-list-in-None-clause-reported
returns-in_ok-list-in-None-clause-reported g c =
    counted-reported c.args.self.now.world c.args.decl.now c.args.scope.focus (last c.args.scope.seen c.args.self.now.slots) c.args.site
    c.args.decl.now.value c.in_ok-list-in-None.list.items (g.T.Tally.state c.args.tally.now) c.in-None.is c.in_ok-list-in-None.ensures
