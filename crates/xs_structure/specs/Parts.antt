-- What stands at a place of a stylesheet.
use Rattle.std.specs.Prelude.{ℕ, ◌&&◌, ◌||◌, not, Bool, List, [], map, filter, slice_get, Option}
use Rattle.std.specs.Option.{option_map_or, unwrap_or}
use Rattle.xs_modules.specs.Numbering.{ModuleData}
use Rattle.xs_elements.specs.declared.reading.Reading.{Reading}
use Rattle.xs_elements.specs.declared.tags.Tag.{Tag}
use Rattle.xs_elements.specs.Nodes.{Name, own_name, scope_at, value_of}
use Rattle.xs_elements.specs.Reading.{reading_of}
use Rattle.xs_elements.specs.Tags.{tag_of, is_param, is_sort}
use Rattle.xs_structure.specs.Modules.{Place, records_at, line_at}
use Rattle.xs_elements.specs.WhiteSpace.{is_kept_text}
use Rattle.xs_trace.specs.declared.item.Site.{Site}
use Rattle.xs_tree.specs.Kinds.{is_element_kind}
use Rattle.xs_tree.specs.Record.{Record, at, children, string_value}

abbrev pub tag_at : List ModuleData → Place → Tag
tag_at ms p = tag_of (records_at ms p.0) p.1

abbrev pub reading_at : List ModuleData → Place → Reading
reading_at ms p = reading_of (records_at ms p.0) p.1

-- the module and the line
abbrev pub site_at : List ModuleData → Place → Site
site_at ms p = record { «module» = p.0; line = line_at ms p.0 p.1 }

-- the precedences that the module's stylesheet imports begin with this one (XSLT 1.0, 2.6.2)
abbrev pub imports_from_at : List ModuleData → ℕ → ℕ
imports_from_at ms m = option_map_or (λ d. d.rank.imports_from) (slice_get ms m) 0

-- the namespaces in scope (XPath 1.0, 5.4)
abbrev pub pairs_at : List ModuleData → Place → List (List ℕ × List ℕ)
pairs_at ms p = scope_at (records_at ms p.0) p.1

-- the value of an attribute in no namespace, if it is there, and the same with nothing in its place
abbrev pub value_at : List ModuleData → Place → List ℕ → Option (List ℕ)
value_at ms p local = value_of (records_at ms p.0) p.1 [] local

abbrev pub said_at : List ModuleData → Place → List ℕ → List ℕ
said_at ms p local = unwrap_or (value_at ms p local) []

-- the expanded name that the attribute `name` says (XSLT 1.0, 2.4)
abbrev pub name_at : List ModuleData → Place → Option Name
name_at ms p = own_name (records_at ms p.0) p.1

-- the string value, of `xsl:text` the whole text in it
abbrev pub text_at : List ModuleData → Place → List ℕ
text_at ms p = string_value (records_at ms p.0) p.1

-- ---- children
abbrev pub children_at : List ModuleData → Place → List Place
children_at ms p = map (λ k. (p.0, k)) (children (records_at ms p.0) p.1)

-- those that are elements of a kind
abbrev pub children_with : (Tag → Bool) → List ModuleData → Place → List Place
children_with kind ms p = filter (λ q. kind (tag_at ms q)) (children_at ms p)

-- the content of an element: its elements, and the texts that are kept
abbrev pub is_content : List Record → (inside : ℕ) → ℕ → Bool
is_content rs inside k = is_element_kind (at rs k).kind || is_kept_text rs inside k

-- those that are its body: elements, and texts that are kept (XSLT 1.0, 3.4), after the parameters of a template (5.3) and the
-- sort keys of a loop (8)
abbrev pub is_in_body : List ModuleData → (inside : Place) → Place → Bool
is_in_body ms p q = is_content (records_at ms p.0) p.1 q.1 && not (is_param (tag_at ms q) || is_sort (tag_at ms q))

abbrev pub body_at : List ModuleData → Place → List Place
body_at ms p = filter (is_in_body ms p) (children_at ms p)
