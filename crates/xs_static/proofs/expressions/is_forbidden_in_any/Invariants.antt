use Rattle.std.proofs.Common.{◌≡◌, drop}
use Rattle.std.specs.List.{list_any}
use Rattle.xs_static.specs.Expressions.{is_forbidden_in}
use Rattle.xs_xpath.specs.Exprs.{trees_from}
use Rattle.xs_static.proofs.expressions.is_forbidden_in_any.Given as goal

-- whether one of the expressions that are left does
abbrev pub invariant-loop-e : goal.invariant-loop-e
invariant-loop-e l = list_any (is_forbidden_in l.form) (trees_from (drop l.e-index l.es)) ≡ list_any (is_forbidden_in l.form) (trees_from l.es)
