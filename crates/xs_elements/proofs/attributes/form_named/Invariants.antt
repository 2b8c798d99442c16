use Rattle.std.proofs.Common.{◌≡◌, map, drop}
use Rattle.std.specs.List.{find}
use Rattle.xs_elements.specs.Attributes.{allowed, allowed_data, is_allowed_name}
use Rattle.xs_elements.proofs.attributes.form_named.Given as goal

-- the first of those that are left is the first of all
abbrev pub invariant-loop-attribute : goal.invariant-loop-attribute
invariant-loop-attribute l =
    find (is_allowed_name l.local) (map allowed_data (drop l.attribute-index l.attribute-items)) ≡ allowed l.fn.tag l.local
