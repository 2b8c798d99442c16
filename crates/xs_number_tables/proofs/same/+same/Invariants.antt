use Rattle.std.proofs.Common.{◌≡◌, drop}
use Rattle.xs_xpath.specs.Exprs.{trees_from}
use Rattle.xs_number_tables.proofs.same.+same.Given as goal

-- if those that are left of both lists are the same, then all are
abbrev pub invariant-are_same-loop-expr : goal.invariant-are_same-loop-expr
invariant-are_same-loop-expr l = trees_from (drop l.expr-index l.a) ≡ trees_from l.rest → trees_from l.a ≡ trees_from l.b
