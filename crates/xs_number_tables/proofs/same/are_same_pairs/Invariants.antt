use Rattle.std.proofs.Common.{◌≡◌, drop}
use Rattle.xs_number_tables.proofs.same.are_same_pairs.Given as goal

-- if those that are left of both lists are the same, then all are
abbrev pub invariant-loop-pair : goal.invariant-loop-pair
invariant-loop-pair l = drop l.pair-index l.a ≡ l.rest → l.a ≡ l.b
