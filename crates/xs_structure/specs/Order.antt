-- The declarations of a stylesheet, in its order.
use Rattle.std.specs.Prelude.{ℕ, zero, suc, ◌&&◌, ◌||◌, Bool, true, List, [], ◌∷◌, length, filter, if◌then◌else◌}
use Rattle.std.specs.List.{flat_map}
use Rattle.std.specs.Option.{option_map_or}
use Rattle.xs_modules.specs.Numbering.{ModuleData}
use Rattle.xs_elements.specs.declared.tags.Tag.{Tag}
use Rattle.xs_elements.specs.Nodes.{Name, is_named, own_name}
use Rattle.xs_elements.specs.Tags.{tag_of, is_other, is_template, is_document_element}
use Rattle.xs_structure.specs.Modules.{Place, records_at, mentioned, is_top_level_element}
use Rattle.xs_tree.specs.Record.{Record, places}
use Rattle.xs_structure.specs.Parts.{tag_at}

-- a literal element that is a whole module, which represents a template for the root (XSLT 1.0, 2.3)
abbrev pub is_simplified : List Record → ℕ → Bool
is_simplified rs n = is_other (tag_of rs n) && is_document_element rs n

-- a template, or that one (5.3)
abbrev pub is_template_place : List ModuleData → Place → Bool
is_template_place ms p = if is_template (tag_at ms p) then true else is_simplified (records_at ms p.0) p.1

-- what a module declares: the elements of its top level (2.2), or that template
abbrev pub is_declaration : List Record → ℕ → Bool
is_declaration rs n = is_top_level_element rs n || is_simplified rs n

abbrev pub own_declarations : List Record → List ℕ
own_declarations rs = filter (is_declaration rs) (places rs)

-- In the order of the stylesheet: what a module declares that is included or imported stands in the place of the element that
-- mentions it (2.6.1); mentions are at most so many deep. Faults and compiling both ask this order.
unfoldable pub declarations_from : ℕ → List ModuleData → ℕ → List Place
declarations_from zero ms m = []
declarations_from (suc most) ms m =
    flat_map (λ n. option_map_or (declarations_from most ms) (mentioned ms (m, n)) ((m, n) ∷ [])) (own_declarations (records_at ms m))

abbrev pub declarations : List ModuleData → List Place
declarations ms = declarations_from (length ms) ms 0

-- a declaration of a kind with a name
abbrev pub declares : (Tag → Bool) → List ModuleData → Name → Place → Bool
declares kind ms name p = kind (tag_of (records_at ms p.0) p.1) && is_named name (own_name (records_at ms p.0) p.1)

-- the declarations of a kind, in the order of the stylesheet
abbrev pub all_with : (Tag → Bool) → List ModuleData → List Place
all_with kind ms = filter (λ p. kind (tag_at ms p)) (declarations ms)
