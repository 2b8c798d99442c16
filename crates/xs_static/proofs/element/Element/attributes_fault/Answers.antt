use Rattle.std.proofs.Common.{ap, sym, ◌∙◌, ◌++◌}
use Rattle.xs_static.specs.steps.Elements.{records_of}
use Rattle.xs_tree.proofs.WalkLemmas.{attribute-within}
use Rattle.xs_static.proofs.element.Element.attributes_fault.Goals as goal

-- the attribute that comes next is in the tree
pub attribute_fault-requires-clause-inside : goal.attribute_fault-requires-clause-inside
attribute_fault-requires-clause-inside c =
    attribute-within (records_of c.args.self.now) c.args.self.now.node c.loop-attribute.yielded c.next.new.self c.in-Some.attribute
    (sym c.loop-attribute.invariant.2 ∙ ap (λ xs. c.loop-attribute.yielded ++ xs) c.in-Some.ensures.steps)
