-- Which bindings of variables are visible (XSLT 1.0, 11.5).
use Rattle.std.specs.Prelude.{ℕ, ◌&&◌, not, nat_lt, Bool, false, List, Option, None, if◌then◌else◌}
use Rattle.std.specs.List.{list_any}
use Rattle.std.specs.Option.{option_map_or}
use Rattle.xs_elements.specs.Nodes.{Name, is_named, own_name}
use Rattle.xs_elements.specs.Reading.{is_seen}
use Rattle.xs_elements.specs.Tags.{tag_of, is_variable, is_top_level}
use Rattle.xs_tree.specs.Record.{Record, at, is_inside, places}

-- a variable or a parameter that is not of the top level
abbrev pub is_local : List Record → ℕ → Bool
is_local rs b = is_variable (tag_of rs b) && not (is_top_level rs b) && is_seen rs b

-- the name of the local binding that a node is, if it is one
abbrev pub local_name : List Record → ℕ → Option Name
local_name rs n = if is_local rs n then own_name rs n else None

-- A local binding is visible for all following siblings of its element and their descendants: what comes after the element, inside
-- the element's parent.
abbrev pub reaches : List Record → (binding : ℕ) → ℕ → Bool
reaches rs b n = nat_lt b n && not (is_inside rs b n) && option_map_or (λ p. is_inside rs p n) (at rs b).parent false

abbrev pub is_visible_as : List Record → Name → ℕ → (binding : ℕ) → Bool
is_visible_as rs name n b = is_local rs b && reaches rs b n && is_named name (own_name rs b)

-- whether a binding of a name is visible at a node
abbrev pub has_binding : List Record → ℕ → Name → Bool
has_binding rs n name = list_any (is_visible_as rs name n) (places rs)

-- A local binding shadows another one; it may shadow a global one.
abbrev pub shadows : List Record → ℕ → Bool
shadows rs n = is_local rs n && option_map_or (has_binding rs n) (own_name rs n) false
