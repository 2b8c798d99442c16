-- The faults that the walk meets, in its order.
use Rattle.std.specs.Prelude.{ℕ, zero, suc, ◌&&◌, ◌||◌, not, Bool, false, List, [], ◌++◌, length, get_or, slice_get, if◌then◌else◌}
use Rattle.std.specs.Option.{option_map_or}
use Rattle.xs_modules.specs.Numbering.{ModuleData}
use Rattle.xs_elements.specs.declared.forms.Form.{Form}
use Rattle.xs_elements.specs.Forms.{sees_locals}
use Rattle.xs_elements.specs.Nodes.{Name, own_name}
use Rattle.xs_elements.specs.Reading.{is_seen}
use Rattle.xs_elements.specs.Tags.{tag_of, is_call_template}
use Rattle.xs_structure.specs.Bindings.{has_binding, shadows}
use Rattle.xs_static.specs.declared.fault.StaticFault.{StaticFault}
use Rattle.xs_static.specs.declared.names.Names.{Names}
use Rattle.xs_static.specs.Faults.{is_too_deep}
use Rattle.xs_static.specs.steps.Elements.{attributes_least, own_least}
use Rattle.xs_static.specs.steps.InForce.{is_among}
use Rattle.xs_static.specs.steps.Least.{any_fault, fault_where}
use Rattle.xs_static.specs.steps.Misplaced.{misplaced_faults}
use Rattle.xs_tree.specs.Kinds.{is_element_kind}
use Rattle.xs_tree.specs.Record.{Record, at}

-- a name is that of a global variable or parameter, or of a template
abbrev pub has_global : Names → List ℕ → List ℕ → Bool
has_global names uri local = is_among names.globals.names.keys (uri, local)

abbrev pub has_template : Names → Name → Bool
has_template names name = is_among names.templates.names.keys name

-- the variables that are known to a value at a node
abbrev pub known_at : Names → List Record → ℕ → Form → List ℕ → List ℕ → Bool
known_at names rs n form uri local = has_global names uri local || (sees_locals form && has_binding rs n (uri, local))

abbrev pub calls_other : Names → List Record → ℕ → Bool
calls_other names rs n = is_call_template (tag_of rs n) && option_map_or (λ name. not (has_template names name)) (own_name rs n) false

abbrev pub line_in : List ℕ → ℕ → ℕ
line_in lines n = get_or lines n 0

-- of an element by its name, and by its attributes
abbrev pub own_faults : ℕ → List Record → List ℕ → ℕ → List StaticFault
own_faults m rs lines n = any_fault m (line_in lines n) (own_least rs n)

abbrev pub attribute_faults : ℕ → List Record → List ℕ → Names → ℕ → List StaticFault
attribute_faults m rs lines names n = any_fault m (line_in lines n) (attributes_least rs n (known_at names rs n))

abbrev pub call_faults : ℕ → List Record → List ℕ → Names → ℕ → List StaticFault
call_faults m rs lines names n = fault_where (calls_other names rs n) m (line_in lines n) 43

abbrev pub shadow_faults : ℕ → List Record → List ℕ → ℕ → List StaticFault
shadow_faults m rs lines n = fault_where (shadows rs n) m (line_in lines n) 40

-- of an element that is looked at
abbrev pub seen_faults : ℕ → List Record → List ℕ → Names → ℕ → List StaticFault
seen_faults m rs lines names n =
    own_faults m rs lines n
    ++ (attribute_faults m rs lines names n ++ (misplaced_faults m rs lines n ++ (call_faults m rs lines names n ++ shadow_faults m rs lines n)))

abbrev pub deep_faults : ℕ → List Record → List ℕ → ℕ → List StaticFault
deep_faults m rs lines n = fault_where (is_too_deep rs n) m (line_in lines n) 46

-- of an element
abbrev pub element_faults : ℕ → List Record → List ℕ → Names → ℕ → List StaticFault
element_faults m rs lines names n = deep_faults m rs lines n ++ (if is_seen rs n then seen_faults m rs lines names n else [])

-- of a node
unfoldable pub node_faults : ℕ → List Record → List ℕ → Names → ℕ → List StaticFault
node_faults m rs lines names n = if is_element_kind (at rs n).kind then element_faults m rs lines names n else []

-- of the first so many nodes of a module
unfoldable pub nodes_faults : ℕ → List Record → List ℕ → Names → (count : ℕ) → List StaticFault
nodes_faults m rs lines names zero = []
nodes_faults m rs lines names (suc n) = nodes_faults m rs lines names n ++ node_faults m rs lines names n

-- of a module, and of the first so many modules
abbrev pub module_faults : ModuleData → Names → ℕ → List StaticFault
module_faults d names m = nodes_faults m d.records d.lines names (length d.records)

unfoldable pub modules_faults : List ModuleData → Names → (count : ℕ) → List StaticFault
modules_faults ms names zero = []
modules_faults ms names (suc m) = modules_faults ms names m ++ option_map_or (λ d. module_faults d names m) (slice_get ms m) []
