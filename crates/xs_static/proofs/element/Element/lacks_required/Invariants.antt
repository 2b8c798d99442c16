use Rattle.std.proofs.Common.{◌≡◌, length, map}
use Rattle.std.specs.List.{list_any}
use Rattle.xs_elements.specs.Attributes.{allowed_data, attributes_of}
use Rattle.xs_elements.specs.Tags.{tag_of}
use Rattle.xs_static.specs.Faults.{is_missing}
use Rattle.xs_static.specs.steps.Elements.{records_of}
use Rattle.xs_static.proofs.element.Element.lacks_required.Given as goal

-- whether one of those that are left is missing
abbrev pub invariant-loop-attribute : goal.invariant-loop-attribute
invariant-loop-attribute l =
    list_any (is_missing (records_of l.self) l.self.node) (map allowed_data l.rest)
    ≡ list_any (is_missing (records_of l.self) l.self.node) (attributes_of (tag_of (records_of l.self) l.self.node))

abbrev pub decreases-loop-attribute : goal.decreases-loop-attribute
decreases-loop-attribute l = length l.rest
