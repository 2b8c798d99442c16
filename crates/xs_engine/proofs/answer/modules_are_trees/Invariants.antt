use Rattle.std.proofs.Common.{All, take}
use Rattle.xs_modules.specs.declared.modules.Module.{Module}
use Rattle.xs_tree.specs.Shape.{IsTree}
use Rattle.xs_engine.proofs.answer.modules_are_trees.Given as goal

-- those of the modules that were passed
abbrev pub invariant-loop-number : goal.invariant-loop-number
invariant-loop-number l = All (λ (m : Module). IsTree m.tree) (take l.«number» l.modules.list.items)
