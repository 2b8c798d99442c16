use Rattle.std.proofs.Common.{subst}
use Rattle.xs_core.specs.Answer.{Answers, Machine}
use Rattle.xs_core.specs.Facts.{facts_of}
use Rattle.xs_core.proofs.AnswerLemmas.{answers-from, good-from}
use Rattle.xs_core.proofs.machine.Core.apply.Goals as goal

pub invariant_of-self : goal.invariant_of-self
invariant_of-self c = (
  good-from (facts_of c.self.inside.facts) c.self.inside.budget c.self.inside.parts c.apply.new.self c.args.step.now c.apply.result c.self.invariant.0
      c.apply.ensures.applied,
  c.self.invariant.1,
)

pub returns-clause-answer : goal.returns-clause-answer
returns-clause-answer c =
    subst (λ (m : Machine). Answers (facts_of m.facts) m.budget m.state c.args.step.now c.apply.result c.apply.new.self) c.self.view_is
    (answers-from (facts_of c.self.inside.facts) c.self.inside.budget c.self.inside.parts c.apply.new.self c.args.step.now c.apply.result
    c.apply.ensures.applied)
