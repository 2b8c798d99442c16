-- Which elements are what, as far as the code asks.
use Rattle.std.specs.Prelude.{ℕ, ◌&&◌, ◌||◌, Bool, true, false, List, codes}
use Rattle.std.specs.Option.{option_map_or}
use Rattle.xs_compile.specs.declared.parts.Part.{Part}
use Rattle.xs_compile.specs.declared.parts.Part.TheVariants.{Attribute as AttributePart, Fallback as FallbackPart, Otherwise as OtherwisePart, Param as ParamPart, Sort as SortPart, When as WhenPart, WithParam as WithParamPart}
use Rattle.xs_compile.specs.Bodies.{is_otherwise}
use Rattle.xs_compile.specs.Declarations.{is_attribute}
use Rattle.xs_elements.specs.declared.contents.Content.{Content}
use Rattle.xs_elements.specs.declared.contents.Content.TheVariants.{Body, ParametersAndBody, SortsAndBody}
use Rattle.xs_elements.specs.declared.forms.Form.{Form}
use Rattle.xs_elements.specs.declared.forms.Form.TheVariants.{Name}
use Rattle.xs_elements.specs.declared.tags.Tag.{Tag}
use Rattle.xs_elements.specs.declared.tags.Tag.TheVariants.{Variable, Param, WithParam, Element, Attribute, NoElement, Fallback, Otherwise, Sort, When}
use Rattle.xs_elements.specs.Attributes.{allowed}
use Rattle.xs_elements.specs.Contents.{is_in_body, is_with_param}
use Rattle.xs_elements.specs.Forms.{is_expression, is_pattern, is_value_template}
use Rattle.xs_elements.specs.Reading.{allowed_form}
use Rattle.xs_elements.specs.Tags.{is_fallback, is_param, is_sort, is_when}

-- ---- elements
abbrev pub is_binding : Tag → Bool
is_binding Variable = true
is_binding Param = true
is_binding WithParam = true
is_binding _ = false

-- those that make a node with a name
abbrev pub is_making_named : Tag → Bool
is_making_named Element = true
is_making_named Attribute = true
is_making_named _ = false

-- an instruction, a literal element or a text
abbrev pub is_text_node : Tag → Bool
is_text_node NoElement = true
is_text_node _ = false

abbrev pub is_body_tag : Tag → Bool
is_body_tag tag = is_text_node tag || is_in_body tag

-- what has a body
abbrev pub holds_body : Content → Bool
holds_body Body = true
holds_body ParametersAndBody = true
holds_body SortsAndBody = true
holds_body _ = false

-- ---- parts of elements
abbrev pub part_test : Part → Tag → Bool
part_test AttributePart = is_attribute
part_test FallbackPart = is_fallback
part_test OtherwisePart = is_otherwise
part_test ParamPart = is_param
part_test SortPart = is_sort
part_test WhenPart = is_when
part_test WithParamPart = is_with_param

abbrev pub part_tag : Part → Tag
part_tag AttributePart = Attribute
part_tag FallbackPart = Fallback
part_tag OtherwisePart = Otherwise
part_tag ParamPart = Param
part_tag SortPart = Sort
part_tag WhenPart = When
part_tag WithParamPart = WithParam

-- ---- attributes: what the value of one is, and that it has to be there
abbrev pub takes_expression : Tag → List ℕ → Bool
takes_expression tag local = option_map_or is_expression (allowed_form tag local) false

abbrev pub takes_pattern : Tag → List ℕ → Bool
takes_pattern tag local = option_map_or is_pattern (allowed_form tag local) false

abbrev pub takes_template : Tag → List ℕ → Bool
takes_template tag local = option_map_or is_value_template (allowed_form tag local) false

abbrev pub needs : Tag → List ℕ → Bool
needs tag local = option_map_or (λ a. a.is_required) (allowed tag local) false

abbrev pub is_name : Form → Bool
is_name Name = true
is_name _ = false

abbrev pub has_name : Tag → Bool
has_name tag = option_map_or is_name (allowed_form tag (codes "name")) false && needs tag (codes "name")
