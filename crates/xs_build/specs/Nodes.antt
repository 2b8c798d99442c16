-- The nodes of a document, as records of its tree.
use Rattle.std.specs.Prelude.{ℕ, List, [], None, Some, map}
use Rattle.xs_tree.specs.declared.kinds.Kind.TheVariants.{Element, Attribute, Space, Text, Comment, Pi}
use Rattle.xs_tree.specs.declared.names.Name.{Name}
use Rattle.xs_tree.specs.Record.{Record}
use Rattle.xs_build.specs.Namespaces.{Binding, Bindings}

-- an element (XPath 1.0, 5.2)
abbrev pub element : Name → ℕ → Record
element name parent = record { kind = Element; name = Some name; text = []; parent = Some parent }

-- an attribute (XPath 1.0, 5.3)
abbrev pub attribute : Name → List ℕ → ℕ → Record
attribute name value parent = record { kind = Attribute; name = Some name; text = value; parent = Some parent }

-- a name in no namespace
abbrev pub local_name : List ℕ → Name
local_name local = record { uri = []; local = local; prefix = [] }

-- a namespace node: its name is the prefix, its text the URI (XPath 1.0, 5.4)
abbrev pub space : ℕ → Binding → Record
space parent b = record { kind = Space; name = Some (local_name b.0); text = b.1; parent = Some parent }

-- the namespace nodes of an element, one for each binding in force
abbrev pub spaces : ℕ → Bindings → List Record
spaces parent scope = map (space parent) scope

-- a text node (XPath 1.0, 5.7)
abbrev pub text_node : List ℕ → ℕ → Record
text_node text parent = record { kind = Text; name = None; text = text; parent = Some parent }

-- a comment (XPath 1.0, 5.6)
abbrev pub comment : List ℕ → ℕ → Record
comment text parent = record { kind = Comment; name = None; text = text; parent = Some parent }

-- a processing instruction: its name is the target (XPath 1.0, 5.5)
abbrev pub instruction : List ℕ → List ℕ → ℕ → Record
instruction target text parent = record { kind = Pi; name = Some (local_name target); text = text; parent = Some parent }
