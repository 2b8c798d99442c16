use Rattle.std.proofs.Common.{◌≡◌, ◌++◌}
use Rattle.xs_static.specs.Faults.{lacks_some}
use Rattle.xs_static.specs.steps.Elements.{if_holds, known_by, least_among, records_of}
use Rattle.xs_static.specs.steps.Least.{lesser}
use Rattle.xs_tree.specs.Record.{attributes}
use Rattle.xs_static.proofs.element.Element.attributes_fault.Given as goal

-- what was met, with what is left, is the whole
abbrev pub invariant-loop-attribute : goal.invariant-loop-attribute
invariant-loop-attribute l =
    goal.iterator-loop-attribute.can_next l.attribute-iterator ×
    goal.iterator-loop-attribute.is_finite l.attribute-iterator ×
    (l.yielded ++ l.attribute-iterator ≡ attributes (records_of l.self) l.self.node) ×
    (lesser l.least (least_among (records_of l.self) l.self.node (known_by l.visible) l.attribute-iterator)
    ≡ lesser (if_holds (lacks_some (records_of l.self) l.self.node) 34)
    (least_among (records_of l.self) l.self.node (known_by l.visible) (attributes (records_of l.self) l.self.node)))
