use Rattle.std.proofs.Common.{◌+◌, vec_len}
use Rattle.xs_static.specs.steps.Uses.{uses_size}
use Rattle.xs_static.proofs.ranks.rank_users.Given as goal

abbrev pub decreases-loop-name : goal.decreases-loop-name
decreases-loop-name l = vec_len l.todo + uses_size l.left
