use Rattle.std.proofs.Common.{◌≡◌, ◌++◌, filter}
use Rattle.xs_tree.specs.Record.{attributes}
use Rattle.xs_eval_spec.specs.Languages.{is_lang}
use Rattle.xs_eval.proofs.languages.lang_of.Given as goal

-- the attributes that were passed are none
abbrev pub invariant-loop-attribute : goal.invariant-loop-attribute
invariant-loop-attribute l =
    (goal.iterator-loop-attribute).can_next l.attribute-iterator ×
    (goal.iterator-loop-attribute).is_finite l.attribute-iterator ×
    (l.yielded ++ l.attribute-iterator ≡ attributes l.tree l.fn.node) ×
    (filter (is_lang l.tree) (attributes l.tree l.fn.node) ≡ filter (is_lang l.tree) l.attribute-iterator)
