use Rattle.std.proofs.Common.{rules, arith}
use Rattle.std.proofs.lemmas.Grind.{common_steps}
use Rattle.xs_num.proofs.SpaceLemmas.{without_leading_space_is}
use Rattle.xs_num.proofs.reading.trim_start.Goals as goal

pub returns-then-not-is_space_byte : goal.returns-then-not-is_space_byte
returns-then-not-is_space_byte c = grind
    (arith, common_steps, without_leading_space_is c.args.text.now c.loop-i.i (omega arith) c.loop-i.invariant (λ _. search rules))

pub returns : goal.returns
returns c = grind (arith, common_steps, without_leading_space_is c.args.text.now c.loop-i.i (omega arith) c.loop-i.invariant (λ h. absurd (omega arith)))
