use Rattle.std.proofs.Common.{◌≡◌, ◌++◌, filter, map}
use Rattle.xs_structure.specs.Parts.{children_with, tag_at}
use Rattle.xs_compile.specs.steps.Tags.{part_test}
use Rattle.xs_modules.specs.Results.{modules_data}
use Rattle.xs_structure.specs.Modules.{records_at}
use Rattle.xs_tree.specs.Record.{children}
use Rattle.xs_compile.proofs.parts.parts_at.Given as goal

-- the parts among the children that came, and among those that are left, are all
abbrev pub invariant-loop-child : goal.invariant-loop-child
invariant-loop-child l =
    goal.iterator-loop-child.can_next l.child-iterator ×
    goal.iterator-loop-child.is_finite l.child-iterator ×
    (l.yielded ++ l.child-iterator ≡ children (records_at (modules_data l.modules) l.fn.«number») l.fn.n) ×
    (l.places.items ++ filter (λ q. part_test l.fn.part (tag_at (modules_data l.modules) q)) (map (λ k. (l.fn.«number», k)) l.child-iterator)
    ≡ children_with (part_test l.fn.part) (modules_data l.modules) (l.fn.«number», l.fn.n))
