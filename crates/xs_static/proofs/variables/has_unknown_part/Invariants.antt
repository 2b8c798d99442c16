use Rattle.std.proofs.Common.{◌≡◌, length}
use Rattle.std.specs.List.{list_any}
use Rattle.xs_static.specs.Expressions.{expressions, has_unknown}
use Rattle.xs_static.specs.steps.InForce.{visible_in}
use Rattle.xs_xpath.specs.AvtParts.{parts_from}
use Rattle.xs_static.proofs.variables.has_unknown_part.Given as goal

-- whether one of the parts that are left has one
abbrev pub invariant-loop-part : goal.invariant-loop-part
invariant-loop-part l =
    list_any (has_unknown (visible_in l.visible)) (expressions (parts_from l.rest))
    ≡ list_any (has_unknown (visible_in l.visible)) (expressions (parts_from l.parts))

abbrev pub decreases-loop-part : goal.decreases-loop-part
decreases-loop-part l = length l.rest
