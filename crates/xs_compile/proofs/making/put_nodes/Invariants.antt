use Rattle.std.proofs.Common.{◌≡◌, ◌++◌, filter}
use Rattle.std.specs.Prelude.{not}
use Rattle.xs_elements.specs.Reading.{is_xslt}
use Rattle.xs_tree.specs.Record.{attributes, uri_at}
use Rattle.xs_compile.proofs.making.put_nodes.Given as goal

-- those of the attributes that came, and those among the ones that are left, are all
abbrev pub invariant-loop-attribute : goal.invariant-loop-attribute
invariant-loop-attribute l =
    goal.iterator-loop-attribute.can_next l.attribute-iterator ×
    goal.iterator-loop-attribute.is_finite l.attribute-iterator ×
    (l.yielded ++ l.attribute-iterator ≡ attributes l.tree l.fn.n) ×
    (l.nodes.items ++ filter (λ a. not (is_xslt (uri_at l.tree a))) l.attribute-iterator
    ≡ filter (λ a. not (is_xslt (uri_at l.tree a))) (attributes l.tree l.fn.n))
