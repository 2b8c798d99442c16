-- Attribute sets that use themselves (XSLT 1.0, 7.1.4).
use Rattle.std.specs.Prelude.{◌≡◌, ℕ, ◌==◌, ◌&&◌, ◌||◌, Bool, true, List, [], ◌∷◌, ◌++◌, filter, Option, Some, None, codes, if◌then◌else◌}
use Rattle.std.specs.List.{flat_map}
use Rattle.std.specs.Option.{option_map_or}
use Rattle.xs_static.specs.Circles.{IsAmong, SomeLeads}
use Rattle.xs_elements.specs.Contents.{is_attribute}
use Rattle.xs_elements.specs.declared.tags.Tag.{Tag}
use Rattle.xs_elements.specs.declared.tags.Tag.TheVariants.{AttributeSet, Element, Copy, Other}
use Rattle.xs_elements.specs.Nodes.{Name, expanded, scope_at, value_of}
use Rattle.xs_elements.specs.Reading.{is_seen}
use Rattle.xs_elements.specs.Tags.{tag_of, is_attribute_set, xslt_uri}
use Rattle.xs_elements.specs.WhiteSpace.{words}
use Rattle.xs_modules.specs.Numbering.{ModuleData}
use Rattle.xs_structure.specs.Modules.{Place, records_at}
use Rattle.xs_structure.specs.Order.{declarations, declares}
use Rattle.xs_tree.specs.Record.{Record, children, is_inside, places}

-- the attribute that names the sets that an element uses
abbrev pub sets_value : Tag → List Record → ℕ → Option (List ℕ)
sets_value AttributeSet rs n = value_of rs n [] (codes "use-attribute-sets")
sets_value Element rs n = value_of rs n [] (codes "use-attribute-sets")
sets_value Copy rs n = value_of rs n [] (codes "use-attribute-sets")
sets_value Other rs n = value_of rs n xslt_uri (codes "use-attribute-sets")
sets_value _ rs n = None

-- the names that a list of names with white space between them has in a scope
abbrev pub listed : Option Name → List Name
listed None = []
listed (Some name) = name ∷ []

abbrev pub names_in : List (List ℕ × List ℕ) → List ℕ → List Name
names_in pairs value = flat_map (λ word. listed (expanded pairs word)) (words value)

abbrev pub named_sets : List Record → ℕ → List Name
named_sets rs n = option_map_or (names_in (scope_at rs n)) (sets_value (tag_of rs n) rs n) []

-- the sets that an element and those inside it name, as far as they are looked at
abbrev pub is_part : List Record → ℕ → ℕ → Bool
is_part rs n k = (k == n || is_inside rs n k) && is_seen rs k

abbrev pub sets_within : List Record → ℕ → List Name
sets_within rs n = flat_map (named_sets rs) (filter (is_part rs n) (places rs))

-- The sets that a declaration uses itself: those that it names, and those that elements inside its attributes name, extension
-- elements too, since a run would not end else. What else stands in it is misplaced and uses nothing.
abbrev pub attribute_sets : List Record → ℕ → List Name
attribute_sets rs a = if is_attribute (tag_of rs a) then sets_within rs a else []

abbrev pub own_sets : List Record → ℕ → List Name
own_sets rs n = named_sets rs n ++ flat_map (attribute_sets rs) (children rs n)

abbrev pub sets_of : List ModuleData → Place → List Name
sets_of ms p = own_sets (records_at ms p.0) p.1

-- those that all declarations of a name use
abbrev pub used_by : List ModuleData → Name → List Name
used_by ms name = flat_map (sets_of ms) (filter (declares is_attribute_set ms name) (declarations ms))

-- a declaration of a set whose own sets lead back to its name
abbrev pub IsCircular : List ModuleData → Place → Type 0
IsCircular ms p = IsAmong p (declarations ms)
    × ((name : Name) × (declares is_attribute_set ms name p ≡ true) × SomeLeads (used_by ms) (sets_of ms p) name)
