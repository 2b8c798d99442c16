-- What one element has, by the least number.
use Rattle.std.specs.Prelude.{◌≡◌, ℕ, ◌<◌, Bool, List, [], ◌∷◌, length, Option, Some, None, if◌then◌else◌}
use Rattle.std.specs.Option.{option_map_or}
use Rattle.xs_static.specs.declared.element.Element.{Element}
use Rattle.xs_static.specs.declared.expressions.Found.{Found}
use Rattle.xs_elements.specs.declared.forms.Form.{Form}
use Rattle.xs_static.specs.declared.variables.Visible.{Visible}
use Rattle.xs_elements.specs.Forms.{sees_locals}
use Rattle.xs_static.specs.Faults.{is_bad_root, lacks_some}
use Rattle.xs_elements.specs.Nodes.{scope_at}
use Rattle.xs_elements.specs.Reading.{form_of, has_read_attributes, reading_of}
use Rattle.xs_elements.specs.Tags.{is_decimal_format, tag_of}
use Rattle.xs_elements.specs.Values.{is_bad, is_unbound, is_unsupported}
use Rattle.xs_elements.specs.WhiteSpace.{preserves}
use Rattle.xs_static.specs.steps.InForce.{visible_in}
use Rattle.xs_static.specs.steps.Least.{lesser}
use Rattle.xs_static.specs.steps.Parsing.{findings}
use Rattle.xs_tree.specs.Record.{Record, at, attributes}

abbrev pub records_of : Element → List Record
records_of e = e.tree.now

-- what the walk keeps of an element is so
pub record IsAt (e : Element) : Type 0 where
  pub within : e.node < length (records_of e)
  pub tag : e.tag ≡ tag_of (records_of e) e.node
  pub reading : e.reading ≡ reading_of (records_of e) e.node
  pub preserves : e.preserves ≡ preserves (records_of e) e.node

abbrev pub if_holds : Bool → ℕ → Option ℕ
if_holds holds number = if holds then Some number else None

abbrev pub own_least : List Record → ℕ → Option ℕ
own_least rs n = lesser (if_holds (is_bad_root rs n) 32) (if_holds (is_decimal_format (tag_of rs n)) 33)

-- the variables that are visible to a value of a form
abbrev pub seen_by : Visible → Form → Visible
seen_by v form = if sees_locals form then v else record { globals = v.globals; locals = None; place = v.place }

abbrev pub known_by : Visible → Form → List ℕ → List ℕ → Bool
known_by v form = visible_in (seen_by v form)

-- what is found in a value, with what it has by its form
abbrev pub least_with : Found → Form → List (List ℕ × List ℕ) → List ℕ → Option ℕ
least_with found form pairs value =
    lesser found.fault
    (lesser (lesser (if_holds (is_unsupported form value) 33) (lesser (if_holds (is_bad form value) 36) (if_holds (is_unbound form pairs value) 38)))
    (lesser (if_holds found.has_unknown 39) (if_holds found.has_forbidden 45)))

abbrev pub value_least : Form → List (List ℕ × List ℕ) → List ℕ → (List ℕ → List ℕ → Bool) → Option ℕ
value_least form pairs value known = least_with (findings form pairs value known) form pairs value

abbrev pub attribute_least : List Record → ℕ → (Form → List ℕ → List ℕ → Bool) → ℕ → Option ℕ
attribute_least rs n known a = option_map_or (λ form. value_least form (scope_at rs n) (at rs a).text (known form)) (form_of rs n a) (Some 35)

abbrev pub least_among : List Record → ℕ → (Form → List ℕ → List ℕ → Bool) → List ℕ → Option ℕ
least_among rs n known [] = None
least_among rs n known (a ∷ more) = lesser (attribute_least rs n known a) (least_among rs n known more)

abbrev pub attributes_least : List Record → ℕ → (Form → List ℕ → List ℕ → Bool) → Option ℕ
attributes_least rs n known =
    if has_read_attributes rs n then lesser (if_holds (lacks_some rs n) 34) (least_among rs n known (attributes rs n)) else None
