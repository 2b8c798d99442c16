use Rattle.std.proofs.Common.{◌≡◌, ◌++◌}
use Rattle.std.specs.List.{find}
use Rattle.xs_modules.specs.Mentions.{href, is_href}
use Rattle.xs_tree.specs.Record.{attributes}
use Rattle.xs_modules.proofs.mentions.href.Given as goal

-- the first of those that are left is the first of all
abbrev pub invariant-loop-attribute : goal.invariant-loop-attribute
invariant-loop-attribute l =
    goal.iterator-loop-attribute.can_next l.attribute-iterator ×
    goal.iterator-loop-attribute.is_finite l.attribute-iterator ×
    (l.yielded ++ l.attribute-iterator ≡ attributes l.tree l.fn.n) ×
    (find (is_href l.tree) l.attribute-iterator ≡ href l.tree l.fn.n)
