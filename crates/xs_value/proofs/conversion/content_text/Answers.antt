use Rattle.std.proofs.Common.{[], sym, ◌∙◌}
use Rattle.xs_tree.proofs.WalkLemmas.{text-within}
use Rattle.xs_value.proofs.conversion.content_text.Goals as goal

-- the text node is in the tree
pub text-requires : goal.text-requires
text-requires c =
    text-within c.args.tree.now c.args.node [] c.next.new.self c.in-Some.text (sym c.texts-texts.ensures.texts ∙ c.in-Some.ensures.steps)
