-- What instructions and literal elements put into the result (XSLT 1.0, 7.1 to 7.5 and 11.3).
use Rattle.std.specs.Prelude.{ℕ, ◌+◌, ◌-◌, ◌==◌, ◌&&◌, ◌||◌, Bool, List, [], ◌∷◌, ◌++◌, codes, Option, Some, None, if◌then◌else◌}
use Rattle.std.specs.List.{flat_map}
use Rattle.std.specs.Str.{bytes_eq}
use Rattle.xs_sheet.specs.declared.body.MadeName.{MadeName}
use Rattle.xs_sheet.specs.declared.declarations.Alias.{Alias}
use Rattle.xs_sheet.specs.declared.scoped.ValueTemplate.{ValueTemplate}
use Rattle.xs_trace.specs.Label.{Label}
use Rattle.xs_trace.specs.Run.{Run, give, ◌>>=◌}
use Rattle.xs_trace.specs.declared.event.Event.{Event}
use Rattle.xs_trace.specs.declared.event.Event.TheVariants.{Start, Space, Attr, Chars, End, Comment, Pi}
use Rattle.xs_tree.specs.Record.{Record}
use Rattle.xs_value.specs.declared.value.Value.{Value}
use Rattle.xs_value.specs.declared.value.Value.TheVariants as value
use Rattle.xs_value.specs.Conversion.{text_value}
use Rattle.xs_eval_spec.specs.Results.{given}
use Rattle.xs_making.specs.Copies.{deep_copy}
use Rattle.xs_making.specs.Labels.{put_label, xml_uri}
use Rattle.xs_making.specs.Names.{pi_target, result_name}
use Rattle.xs_making.specs.Texts.{comment_text, instruction_text, is_empty}
use Rattle.xs_body_spec.specs.declared.focus.Focus.{Focus}
use Rattle.xs_body_spec.specs.declared.made.Made.{Made}
use Rattle.xs_body_spec.specs.declared.made.Made.TheVariants as made
use Rattle.xs_body_spec.specs.declared.made.Made.TheVariants.{Attribute, Instruction}
use Rattle.xs_body_spec.specs.World.{World, template_run}

-- ---- names
-- The namespace that one is an alias for, or itself (7.1.1).
abbrev pub aliased : List Alias → List ℕ → List ℕ
aliased [] uri = uri
aliased (a ∷ others) uri = if bytes_eq a.from_uri uri then a.to_uri else aliased others uri

-- the name of a literal element; of an attribute of one, where one in no namespace has no alias, since it is not in the default
-- namespace (7.1.1; Namespaces in XML 1.0, 6.2)
abbrev pub element_label : List Alias → Label → Label
element_label aliases name = put_label (aliased aliases name.uri) name.local name.prefix

abbrev pub attribute_label : List Alias → Label → Label
attribute_label aliases name = if is_empty name.uri then put_label name.uri name.local name.prefix else element_label aliases name

-- the namespace that is given for a name, if one is (7.1.2, 7.1.3)
abbrev pub namespace_run : World → Option ValueTemplate → Focus → List Value → Run (Option (List ℕ))
namespace_run w None f vs = give None
namespace_run w (Some namespace) f vs = do
  uri ← template_run w namespace f vs
  give (Some uri)

-- the name that an instruction makes for an element or an attribute, or the fault where it is none (7.1.2, 7.1.3)
abbrev pub name_run : World → (is_attribute : Bool) → MadeName → Focus → List Value → Run Label
name_run w is_attribute name f vs = do
  text ← template_run w name.name f vs
  uri ← namespace_run w name.namespace f vs
  given (result_name name.scope is_attribute uri text)

-- the target that one makes for a processing instruction (7.3)
abbrev pub target_run : World → ValueTemplate → Focus → List Value → Run (List ℕ)
target_run w name f vs = do
  text ← template_run w name f vs
  given (pi_target text)

-- ---- events
-- a namespace node, except for no namespace and for that of `xml`, which is in scope everywhere
abbrev pub space_events : (prefix uri : List ℕ) → List Event
space_events prefix uri = if is_empty uri || bytes_eq uri xml_uri then [] else Space prefix uri ∷ []

-- an attribute, except one that would be read as the declaration of a default namespace
abbrev pub attribute_events : Label → List ℕ → List Event
attribute_events name value = if is_empty name.uri && bytes_eq name.local (codes "xmlns") then [] else Attr name value ∷ []

-- a text, except an empty one
abbrev pub text_events : List ℕ → List Event
text_events text = if is_empty text then [] else Chars text ∷ []

-- the namespace nodes of a literal element (7.1.1)
abbrev pub literal_spaces : List Alias → List (List ℕ × List ℕ) → List Event
literal_spaces aliases spaces = flat_map (λ s. space_events s.0 (aliased aliases s.1)) spaces

-- a copy of a value (11.3): of nodes with all that is in them; of a fragment what it has; of any other value its text
abbrev pub value_events : List Record → Value → List Event
value_events rs (value.Nodes ns) = flat_map (deep_copy rs) ns
value_events rs (value.Piece events) = events
value_events rs (value.Chars text) = text_events text
value_events rs (value.Bool b) = text_events (text_value rs (value.Bool b))
value_events rs (value.Number n) = text_events (text_value rs (value.Number n))

-- ---- what content makes of an attribute, a comment or a processing instruction
-- its texts, except those in elements: a node that is no text is ignored with its content (7.1.3, 7.3, 7.4)
abbrev pub texts_outside : List Event → (depth : ℕ) → List ℕ
texts_outside [] depth = []
texts_outside (Start name ∷ es) depth = texts_outside es (depth + 1)
texts_outside (End ∷ es) depth = texts_outside es (depth - 1)
texts_outside (Chars text ∷ es) depth = (if depth == 0 then text else []) ++ texts_outside es depth
texts_outside (Space prefix uri ∷ es) depth = texts_outside es depth
texts_outside (Attr name value ∷ es) depth = texts_outside es depth
texts_outside (Comment text ∷ es) depth = texts_outside es depth
texts_outside (Pi target value ∷ es) depth = texts_outside es depth

abbrev pub content_text : List Event → List ℕ
content_text events = texts_outside events 0

-- what is made of that text
abbrev pub made_events : Made → List ℕ → List Event
made_events (Attribute name) text = attribute_events name text
made_events made.Comment text = Comment (comment_text text) ∷ []
made_events (Instruction target) text = Pi target (instruction_text text) ∷ []
