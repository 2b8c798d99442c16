-- What a line gives to the tree, and which faults it has, by what is around it.
use Rattle.std.specs.Prelude.{ℕ, List, [], ◌∷◌, ◌++◌, Bool, true, false, not, ◌&&◌, ◌==◌, nat_le, Option, None, Some, if◌then◌else◌, is_none, is_some}
use Rattle.std.specs.Prelude.{option_and_then}
use Rattle.std.specs.List.{list_any}
use Rattle.std.specs.Option.{option_map_or}
use Rattle.std.specs.Str.{bytes_eq}
use Rattle.xs_text.specs.WhiteSpace.{is_blank}
use Rattle.xs_pyx.specs.Row.{Row}
use Rattle.xs_pyx.specs.Reading.{Reading, says, faulty}
use Rattle.xs_pyx.specs.declared.line.Line.{Line}
use Rattle.xs_pyx.specs.declared.line.Line.TheVariants.{Start, Attr, Chars, End, Pi, Comment}
use Rattle.xs_tree.specs.declared.names.Name.{Name}
use Rattle.xs_tree.specs.Record.{Record}
use Rattle.xs_build.specs.Faults.{bad_line, bad_utf8, unbalanced, bad_name, unbound_prefix, double_attribute, bad_namespace, too_large}
use Rattle.xs_tree.specs.Limits.{most_nodes}
use Rattle.xs_build.specs.Namespaces.{Bindings, ExpandedName, is_empty, is_ncname, is_xml, are_same, qname_of, scope_with, element_name, attribute_name}
use Rattle.xs_build.specs.Namespaces.{declared_prefix, is_bad_binding}
use Rattle.xs_build.specs.Start.{is_attribute_row, declarations, text_ahead}
use Rattle.xs_build.specs.Nodes.{element, attribute, spaces, text_node, comment, instruction}
use Rattle.xs_build.specs.LineContext.{LineContext, name_as}

-- the bindings in force in an element that starts here; `behind` are the lines behind this one
abbrev pub inner_scope : LineContext → List Row → Bindings
inner_scope a behind = scope_with (declarations behind) a.scope

-- the name of an element that is written so, with its own bindings in force
abbrev pub start_name : Bindings → List ℕ → Option Name
start_name inner name = option_and_then (element_name inner) (qname_of name)

-- the prefix that an attribute declares
abbrev pub prefix_of : List ℕ → Option (List ℕ)
prefix_of name = option_and_then declared_prefix (qname_of name)

-- the name of an attribute that is written so and declares nothing
abbrev pub plain_name : Bindings → List ℕ → Option Name
plain_name scope name = option_and_then (attribute_name scope) (qname_of name)

-- the XML declaration, which is no node (XML 1.0, 2.8, there in lower case alone)
abbrev pub is_declaration : LineContext → List ℕ → Bool
is_declaration a target = a.number == 1 && is_xml target

-- a text inside an element begins a text node, if it is not empty and goes on with none (XPath 1.0, 5.7)
abbrev pub begins_text : LineContext → List ℕ → Bool
begins_text a text = is_some a.inside && not (is_empty text) && not a.in_text

-- The nodes of a line, where `parent` is the node around it and `node` the place of the first of them: an element and its
-- namespace nodes, an attribute that declares nothing, a text with all that goes on with it, a processing instruction, a comment.
abbrev pub line_nodes : LineContext → List Row → ℕ → ℕ → Line → List Record
line_nodes a behind parent node (Start name) =
    option_map_or (λ full. element full parent ∷ spaces node (inner_scope a behind)) (start_name (inner_scope a behind) name) []
line_nodes a behind parent node (Attr name value) =
    if is_some (prefix_of name) then [] else option_map_or (λ full. attribute full value parent ∷ []) (plain_name a.scope name) []
line_nodes a behind parent node (Chars text) = if begins_text a text then text_node (text ++ text_ahead behind) parent ∷ [] else []
line_nodes a behind parent node (End name) = []
line_nodes a behind parent node (Pi target text) = if is_declaration a target then [] else instruction target text parent ∷ []
line_nodes a behind parent node (Comment text) = comment text parent ∷ []

abbrev pub reading_nodes : LineContext → List Row → ℕ → ℕ → Reading → List Record
reading_nodes a behind parent node (says line) = line_nodes a behind parent node line
reading_nodes a behind parent node (faulty number) = []

-- 5 Unbalanced: a second element outside, other text than white space outside, an end of another name than the innermost open
-- element's, or of none (XML 1.0, 2.1, 2.8 and 3)
abbrev pub is_unbalanced : LineContext → Line → Bool
is_unbalanced a (Start name) = is_none a.inside && a.begun
is_unbalanced a (Chars text) = is_none a.inside && not (is_blank text)
is_unbalanced a (End name) = not (option_map_or (λ opened. bytes_eq opened name) a.inside false)
is_unbalanced a line = false

-- 7 BadName: a name that is no QName, a target that is no NCName or is `xml` (Namespaces in XML 1.0, 4 and 7; XML 1.0, 2.6)
abbrev pub is_badly_named : LineContext → Line → Bool
is_badly_named a (Start name) = is_none (qname_of name)
is_badly_named a (Attr name value) = is_none (qname_of name)
is_badly_named a (Pi target text) = not (is_declaration a target) && not (is_ncname target && not (is_xml target))
is_badly_named a line = false

-- 8 UnboundPrefix: the prefix of an element or of an attribute is not bound (Namespaces in XML 1.0, 5)
abbrev pub is_unbound : LineContext → List Row → Line → Bool
is_unbound a behind (Start name) = is_none (start_name (inner_scope a behind) name)
is_unbound a behind (Attr name value) = is_none (name_as a.scope name)
is_unbound a behind line = false

-- an attribute before has this name
abbrev pub has_name : LineContext → ExpandedName → Bool
has_name a name = list_any (are_same name) a.names

-- 9 DoubleAttribute: the start tag has an attribute of the same expanded name before (Namespaces in XML 1.0, 6.3)
abbrev pub is_double : LineContext → Line → Bool
is_double a (Attr name value) = option_map_or (has_name a) (name_as a.scope name) false
is_double a line = false

-- 10 BadNamespace: a declaration that is forbidden (Namespaces in XML 1.0, 2.2 and 3)
abbrev pub is_badly_bound : Line → Bool
is_badly_bound (Attr name value) = option_map_or (λ prefix. is_bad_binding prefix value) (prefix_of name) false
is_badly_bound line = false

-- The faults that a line may have beside those by itself, in the order in which they count, and whether it has each. `nodes` is
-- how many nodes there are with its own: 11 TooLarge.
abbrev pub line_faults : LineContext → List Row → ℕ → Line → List (ℕ × Bool)
line_faults a behind nodes line =
    (unbalanced, is_unbalanced a line)
    ∷ (bad_name, is_badly_named a line)
    ∷ (unbound_prefix, is_unbound a behind line)
    ∷ (double_attribute, is_double a line)
    ∷ (bad_namespace, is_badly_bound line)
    ∷ (too_large, not (nat_le nodes most_nodes))
    ∷ []

-- The faults of a line. An attribute line that follows no start tag is 1 BadLine, and of the faults by itself only 3 BadUtf8 counts
-- before that.
abbrev pub reading_faults : LineContext → List Row → ℕ → Bool → Reading → List (ℕ × Bool)
reading_faults a behind nodes stray (says line) = (bad_line, stray) ∷ line_faults a behind nodes line
reading_faults a behind nodes stray (faulty number) = (bad_utf8, number == bad_utf8) ∷ (bad_line, stray) ∷ (number, true) ∷ []

-- the number of the first fault that there is
abbrev pub first_fault : List (ℕ × Bool) → Option ℕ
first_fault [] = None
first_fault (f ∷ fs) = if f.1 then Some f.0 else first_fault fs

-- an attribute line, whatever else stands on it, that follows no start tag
abbrev pub is_stray : LineContext → Row → Bool
is_stray a row = is_attribute_row row && not a.in_tag
