use Rattle.std.proofs.Common.{◌≡◌, ◌++◌, map, take, drop}
use Rattle.xs_compile.specs.Slots.{slot_at}
use Rattle.xs_compile.specs.steps.State.{modules_of}
use Rattle.xs_xpath.specs.Binding.{bound}
use Rattle.xs_xpath.specs.Exprs.{trees_from}
use Rattle.xs_compile.proofs.compiler.Compiler.+binding.Given as goal

abbrev pub invariant-bind_all-loop-i : goal.invariant-bind_all-loop-i
invariant-bind_all-loop-i l =
    (trees_from l.es.items ≡ map (bound (slot_at (modules_of l.self) (l.number, l.n))) (take l.i (trees_from l.fn.es.items))
    ++ drop l.i (trees_from l.fn.es.items)) × goal.unvisited-bind_all-loop-i l
