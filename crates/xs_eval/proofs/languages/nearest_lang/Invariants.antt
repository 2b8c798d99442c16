use Rattle.std.proofs.Common.{◌≡◌, ◌++◌, filter}
use Rattle.std.specs.List.{flat_map}
use Rattle.xs_tree.specs.declared.axes.Axis.TheVariants.{AncestorOrSelf}
use Rattle.xs_tree.specs.Axis.{axis_list}
use Rattle.xs_tree.specs.Record.{attributes}
use Rattle.xs_eval_spec.specs.Languages.{is_lang, lang_attributes}
use Rattle.xs_eval.proofs.languages.nearest_lang.Given as goal

-- the elements that were passed have no such attribute
abbrev pub invariant-loop-element : goal.invariant-loop-element
invariant-loop-element l =
    (goal.iterator-loop-element).can_next l.element-iterator ×
    (goal.iterator-loop-element).is_finite l.element-iterator ×
    (l.yielded ++ l.element-iterator ≡ axis_list AncestorOrSelf l.tree l.fn.node) ×
    (lang_attributes l.tree l.fn.node ≡ flat_map (λ k. filter (is_lang l.tree) (attributes l.tree k)) l.element-iterator)
