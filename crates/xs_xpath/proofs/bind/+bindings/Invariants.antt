use Rattle.std.proofs.Common.{◌≡◌, ◌++◌, map, take, drop}
use Rattle.xs_xpath.specs.Binding.{bound, slots_of}
use Rattle.xs_xpath.specs.Exprs.{trees_from}
use Rattle.xs_xpath.proofs.bind.+bindings.Given as goal

abbrev pub invariant-bind_all-loop-i : goal.invariant-bind_all-loop-i
invariant-bind_all-loop-i l =
    (trees_from l.es.items ≡ map (bound (slots_of l.slots)) (take l.i (trees_from l.fn.es.items)) ++ drop l.i
    (trees_from l.fn.es.items)) × goal.unvisited-bind_all-loop-i l
