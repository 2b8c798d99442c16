use Rattle.std.proofs.Common.{◌≡◌, ◌++◌, filter, map}
use Rattle.std.specs.Prelude.{not}
use Rattle.xs_structure.specs.Excluded.{copied_spaces, is_left_out}
use Rattle.xs_compile.specs.steps.State.{modules_of}
use Rattle.xs_elements.specs.Nodes.{pair_at}
use Rattle.xs_structure.specs.Modules.{records_at}
use Rattle.xs_tree.specs.Record.{at, namespaces}
use Rattle.xs_compile.proofs.compiler.Compiler.spaces.Given as goal

-- those that were copied, with those of the nodes that are left, are all; the pairs that are left are those of these nodes
abbrev pub invariant-loop-space : goal.invariant-loop-space
invariant-loop-space l =
    goal.iterator-loop-space.can_next l.space-iterator ×
    goal.iterator-loop-space.is_finite l.space-iterator ×
    (l.yielded ++ l.space-iterator ≡ namespaces (records_at (modules_of l.self) l.number) l.n) ×
    (l.spaces.items ++ map (pair_at (records_at (modules_of l.self) l.number)) (filter (λ s. not (is_left_out (records_at (modules_of l.self) l.number) l.n
    (at (records_at (modules_of l.self) l.number) s).text)) l.space-iterator) ≡ copied_spaces (records_at (modules_of l.self) l.number) l.n) ×
    (l.rest ≡ map (pair_at (records_at (modules_of l.self) l.number)) l.space-iterator)
