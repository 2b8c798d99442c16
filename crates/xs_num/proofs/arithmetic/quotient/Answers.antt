use Rattle.std.proofs.Common.{arith, w64}
use Rattle.std.proofs.lemmas.Int.{quot_is, rem_is}
use Rattle.std.proofs.lemmas.Grind.{common_steps}
use Rattle.xs_num.proofs.arithmetic.quotient.Goals as goal

pub returns-then-x-y-eq0 : goal.returns-then-x-y-eq0
returns-then-x-y-eq0 c = grind (arith, common_steps, quot_is w64 c.args.x c.args.y, rem_is w64 c.args.x c.args.y)
