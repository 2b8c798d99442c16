use Rattle.std.proofs.Common.{◌++◌, ap, sym, ◌∙◌}
use Rattle.xs_tree.proofs.WalkLemmas.{attribute-within}
use Rattle.xs_eval.proofs.languages.lang_of.Goals as goal

pub is_lang-requires : goal.is_lang-requires
is_lang-requires c =
    attribute-within c.args.tree.now c.args.node c.loop-attribute.yielded c.next.new.self c.in-Some.attribute
    (sym c.loop-attribute.invariant.2 ∙ ap (λ xs. c.loop-attribute.yielded ++ xs) c.in-Some.ensures.steps)
