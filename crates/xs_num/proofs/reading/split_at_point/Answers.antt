use Rattle.std.proofs.Common.{rules, arith}
use Rattle.std.proofs.lemmas.Grind.{common_steps}
use Rattle.xs_num.proofs.SpaceLemmas.{before_point_is, after_point_is}
use Rattle.xs_num.proofs.reading.split_at_point.Goals as goal

pub returns-then-byte-eq46-clause-whole : goal.returns-then-byte-eq46-clause-whole
returns-then-byte-eq46-clause-whole c = grind
    (arith, common_steps, before_point_is c.args.numeral.now c.loop-i.i (omega arith) c.loop-i.invariant (λ _. search rules))

pub returns-then-byte-eq46-clause-fraction : goal.returns-then-byte-eq46-clause-fraction
returns-then-byte-eq46-clause-fraction c = grind
    (arith, common_steps, after_point_is c.args.numeral.now c.loop-i.i (omega arith) c.loop-i.invariant (λ _. search rules))

pub returns-clause-whole : goal.returns-clause-whole
returns-clause-whole c = grind (arith, common_steps, before_point_is c.args.numeral.now c.loop-i.i (omega arith) c.loop-i.invariant (λ h. absurd (omega arith)))

pub returns-clause-fraction : goal.returns-clause-fraction
returns-clause-fraction c = grind (
  arith,
  common_steps,
  after_point_is c.args.numeral.now c.loop-i.i (omega arith) c.loop-i.invariant
      (λ h. absurd (omega arith)),
)
