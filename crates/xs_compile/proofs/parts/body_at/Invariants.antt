use Rattle.std.proofs.Common.{◌≡◌, ◌++◌, filter, map}
use Rattle.xs_structure.specs.Parts.{body_at, is_in_body}
use Rattle.xs_modules.specs.Results.{modules_data}
use Rattle.xs_structure.specs.Modules.{records_at}
use Rattle.xs_tree.specs.Record.{children}
use Rattle.xs_compile.proofs.parts.body_at.Given as goal

-- those in the body among the children that came, and among those that are left, are all
abbrev pub invariant-loop-child : goal.invariant-loop-child
invariant-loop-child l =
    goal.iterator-loop-child.can_next l.child-iterator ×
    goal.iterator-loop-child.is_finite l.child-iterator ×
    (l.yielded ++ l.child-iterator ≡ children (records_at (modules_data l.modules) l.fn.«number») l.fn.n) ×
    (l.places.items ++ filter (is_in_body (modules_data l.modules) (l.fn.«number», l.fn.n)) (map (λ k. (l.fn.«number», k)) l.child-iterator)
    ≡ body_at (modules_data l.modules) (l.fn.«number», l.fn.n))
