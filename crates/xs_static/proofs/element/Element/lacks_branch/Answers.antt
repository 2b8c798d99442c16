use Rattle.std.proofs.Common.{ap, sym, ◌∙◌, ◌++◌}
use Rattle.xs_static.specs.steps.Elements.{records_of}
use Rattle.xs_tree.proofs.WalkLemmas.{child-within}
use Rattle.xs_static.proofs.element.Element.lacks_branch.Goals as goal

-- the child that comes next is in the tree
pub tag_of-requires : goal.tag_of-requires
tag_of-requires c =
    child-within (records_of c.args.self.now) c.args.self.now.node c.loop-child.yielded c.next.new.self c.in-Some.child
    (sym c.loop-child.invariant.2 ∙ ap (λ xs. c.loop-child.yielded ++ xs) c.in-Some.ensures.steps)
