use Rattle.std.proofs.Common.{◌++◌, ◌∷◌, [], ◌<◌, ap, append_assoc, length, sym, ◌∙◌}
use Rattle.xs_tree.specs.declared.axes.Axis.TheVariants.{AncestorOrSelf}
use Rattle.xs_tree.specs.Axis.{axis_list}
use Rattle.xs_eval_spec.specs.Languages.{lang_attributes}
use Rattle.xs_eval_spec.proofs.AxisListLemmas.{axis-inside, next-inside}
use Rattle.xs_eval.proofs.LanguageLemmas.{nearest-first, nearest-later}
use Rattle.xs_eval.proofs.languages.nearest_lang.Goals as goal

pub lang_of-requires : goal.lang_of-requires
lang_of-requires c =
    next-inside (λ k. k < length c.args.tree.now) c.loop-element.yielded c.next.new.self c.in-Some.element
    (axis_list AncestorOrSelf c.args.tree.now c.args.node)
    (sym (ap (λ xs. c.loop-element.yielded ++ xs) c.in-Some.ensures.steps) ∙ c.loop-element.invariant.2)
    (axis-inside AncestorOrSelf c.args.tree.now c.args.node)

pub returns-in-Some-lang_of-clause-first : goal.returns-in-Some-lang_of-clause-first
returns-in-Some-lang_of-clause-first c =
    nearest-first c.args.tree.now c.loop-element.element-iterator c.in-Some.element c.next.new.self c.in-Some-lang_of.attribute
    (lang_attributes c.args.tree.now c.args.node) c.loop-element.invariant.3 c.in-Some.ensures.steps c.in-Some-lang_of.ensures.first

pub loop-element-preserved : goal.loop-element-preserved
loop-element-preserved c = (
  tt,
  tt,
  append_assoc c.loop-element.yielded (c.in-Some.element ∷ []) c.next.new.self
      ∙ sym (ap (λ xs. c.loop-element.yielded ++ xs) c.in-Some.ensures.steps) ∙ c.loop-element.invariant.2,
  nearest-later c.args.tree.now c.loop-element.element-iterator c.in-Some.element c.next.new.self (lang_attributes c.args.tree.now c.args.node)
      c.loop-element.invariant.3 c.in-Some.ensures.steps c.in_default.ensures.first,
)
