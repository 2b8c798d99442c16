use Rattle.std.proofs.Common.{◌≡◌, drop}
use Rattle.xs_number_tables.proofs.same.are_same_operators.Given as goal

-- if those that are left of both lists are the same, then all are
abbrev pub invariant-loop-operator : goal.invariant-loop-operator
invariant-loop-operator l = drop l.operator-index l.a ≡ l.rest → l.a ≡ l.b
