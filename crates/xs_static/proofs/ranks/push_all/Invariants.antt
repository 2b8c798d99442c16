use Rattle.std.proofs.Common.{◌≡◌, ◌+◌, vec_len}
use Rattle.xs_static.proofs.ranks.push_all.Given as goal

abbrev pub invariant-loop-name : goal.invariant-loop-name
invariant-loop-name l = vec_len l.todo ≡ vec_len l.initial.todo + l.name-index
