-- What is put and made, step by step.
use Rattle.std.specs.Prelude.{ℕ, ◌+◌, ◌-◌, ◌/◌, ◌==◌, ◌&&◌, ◌||◌, List, [], ◌∷◌, codes, length, Option, Some, None, Bool, Result, Ok, Err, if◌then◌else◌}
use Rattle.std.specs.Str.{bytes_eq}
use Rattle.xs_sheet.specs.declared.body.InstrKind.{InstrKind, Variable'}
use Rattle.xs_sheet.specs.declared.body.InstrKind.TheVariants as instr
use Rattle.xs_sheet.specs.declared.body.InstrKind.TheVariants.{ApplyTemplates, CallTemplate, ApplyImports, ForEach, ValueOf, CopyOf, Copy, Number, Choose, If}
use Rattle.xs_sheet.specs.declared.body.InstrKind.TheVariants.{Text, Element, Message, Literal, Extension}
use Rattle.xs_sheet.specs.declared.body.LiteralStart.{LiteralStart}
use Rattle.xs_sheet.specs.declared.body.MadeName.{MadeName}
use Rattle.xs_sheet.specs.declared.declarations.Alias.{Alias}
use Rattle.xs_sheet.specs.declared.scoped.ScopedExpr.{ScopedExpr}
use Rattle.xs_sheet.specs.declared.scoped.ValueTemplate.{ValueTemplate}
use Rattle.xs_trace.specs.Cut.{Fault}
use Rattle.xs_trace.specs.Label.{Label}
use Rattle.xs_trace.specs.Run.{limited}
use Rattle.xs_trace.specs.State.{State, popped, top}
use Rattle.xs_trace.specs.Play.{Step, Goes, Reported, and_then, goes, put_at, stops, ticked_by}
use Rattle.xs_trace.specs.declared.event.Event.{Event}
use Rattle.xs_trace.specs.declared.event.Event.TheVariants.{Start, Space, Attr, Chars, End, Comment, Pi}
use Rattle.xs_trace.specs.declared.fault.Fault.{Fault as RunFault}
use Rattle.xs_trace.specs.declared.item.Site.{Site}
use Rattle.xs_trace.specs.declared.recorder.Halt.{Halt}
use Rattle.xs_trace.specs.declared.recorder.Halt.TheVariants as halt
use Rattle.xs_tree.specs.Record.{Record}
use Rattle.xs_value.specs.declared.value.Value.{Value}
use Rattle.xs_value.specs.declared.value.Value.TheVariants as value
use Rattle.xs_value.specs.Conversion.{text_value}
use Rattle.xs_making.specs.Copies.{deep_copy}
use Rattle.xs_making.specs.Labels.{xml_uri}
use Rattle.xs_making.specs.Names.{pi_target, result_name}
use Rattle.xs_making.specs.Texts.{comment_text, instruction_text, is_empty}
use Rattle.xs_making.specs.Putting.{events_steps}
use Rattle.xs_making.specs.declared.ends.MakeEnd.{MakeEnd}
use Rattle.xs_making.specs.declared.ends.MakeEnd.TheVariants as end
use Rattle.xs_body_spec.specs.declared.focus.Focus.{Focus}
use Rattle.xs_body_spec.specs.declared.made.Made.{Made}
use Rattle.xs_body_spec.specs.declared.made.Made.TheVariants as made
use Rattle.xs_body_spec.specs.declared.made.Made.TheVariants.{Attribute, Instruction}
use Rattle.xs_body_spec.specs.World.{World, template_run}
use Rattle.xs_body_spec.specs.Making.{aliased, attribute_label, content_text, element_label, made_events}

-- ---- events
abbrev pub chars_steps : {H : Type 0} → Site → List ℕ → State H → Reported H
chars_steps p t s = if length t == 0 then goes s else put_at p (Chars t) s

-- a namespace node, and an attribute, where they are put
abbrev pub is_unbound : (uri : List ℕ) → Bool
is_unbound uri = is_empty uri || bytes_eq uri xml_uri

abbrev pub space_steps : {H : Type 0} → Site → (prefix uri : List ℕ) → State H → Reported H
space_steps p prefix uri s = if is_unbound uri then goes s else put_at p (Space prefix uri) s

abbrev pub is_declaration : Label → Bool
is_declaration name = is_empty name.uri && bytes_eq name.local (codes "xmlns")

abbrev pub named_steps : {H : Type 0} → Site → Label → List ℕ → State H → Reported H
named_steps p name value s = if is_declaration name then goes s else put_at p (Attr name value) s

-- ---- literal elements
abbrev pub spaces_steps : {H : Type 0} → List Alias → Site → List (List ℕ × List ℕ) → State H → Reported H
spaces_steps aliases p [] s = goes s
spaces_steps aliases p (x ∷ xs) s = and_then (space_steps p x.0 (aliased aliases x.1) s) (λ u m. spaces_steps aliases p xs m)

abbrev pub literal_steps : {H : Type 0} → List Alias → Site → LiteralStart → State H → Reported H
literal_steps aliases p start s =
    and_then (put_at p (Start (element_label aliases start.name)) s) (λ u m. spaces_steps aliases p start.spaces m)

abbrev pub attribute_steps : {H : Type 0} → World → Site → Focus → List Value → Label × ValueTemplate → State H → Reported H
attribute_steps w p f vs a s =
    and_then (limited p (template_run w a.1 f vs) s) (λ text m. named_steps p (attribute_label w.sheet.aliases a.0) text m)

abbrev pub attributes_steps : {H : Type 0} → World → Site → Focus → List Value → List (Label × ValueTemplate) → State H → Reported H
attributes_steps w p f vs [] s = goes s
attributes_steps w p f vs (a ∷ xs) s = and_then (attribute_steps w p f vs a s) (λ u m. attributes_steps w p f vs xs m)

-- ---- copies
abbrev pub nodes_steps : {H : Type 0} → List Record → Site → List ℕ → State H → Reported H
nodes_steps rs p [] s = goes s
nodes_steps rs p (n ∷ ns) s = and_then (events_steps p (deep_copy rs n) s) (λ u m. nodes_steps rs p ns m)

abbrev pub copy_steps : {H : Type 0} → List Record → Site → Value → State H → Reported H
copy_steps rs p (value.Nodes ns) s = nodes_steps rs p ns s
copy_steps rs p (value.Piece events) s = events_steps p events s
copy_steps rs p (value.Chars text) s = chars_steps p text s
copy_steps rs p (value.Bool b) s = chars_steps p (text_value rs (value.Bool b)) s
copy_steps rs p (value.Number n) s = chars_steps p (text_value rs (value.Number n)) s

-- ---- names
abbrev pub outcome_steps : {H A : Type 0} → Site → Result A RunFault → State H → Step H A
outcome_steps p (Ok x) s = Goes x s
outcome_steps p (Err f) s = stops (Fault f p) s

-- what the code answers for it
abbrev pub halt_of : Site → MakeEnd → Halt
halt_of p (end.Fault f) = halt.Fault f p
halt_of p end.NoMemory = halt.NoMemory

abbrev pub halted : {A : Type 0} → Site → Result A MakeEnd → Result A Halt
halted p (Ok x) = Ok x
halted p (Err e) = Err (halt_of p e)

abbrev pub namespace_steps : {H : Type 0} → World → Site → Focus → List Value → Option ValueTemplate → State H → Step H (Option (List ℕ))
namespace_steps w p f vs None s = Goes None s
namespace_steps w p f vs (Some namespace) s = and_then (limited p (template_run w namespace f vs) s) (λ uri m. Goes (Some uri) m)

abbrev pub name_steps : {H : Type 0} → World → Site → Focus → List Value → (is_attribute : Bool) → MadeName → State H → Step H Label
name_steps w p f vs is_attribute name s =
    and_then (limited p (template_run w name.name f vs) s) (λ text m.
    and_then (namespace_steps w p f vs name.namespace m) (λ uri n. outcome_steps p (result_name name.scope is_attribute uri text) n))

abbrev pub target_steps : {H : Type 0} → World → Site → Focus → List Value → ValueTemplate → State H → Step H (List ℕ)
target_steps w p f vs name s = and_then (limited p (template_run w name f vs) s) (λ text m. outcome_steps p (pi_target text) m)

-- ---- content of one instruction that puts a text alone
-- the text of the stylesheet that an instruction puts
abbrev pub fixed_text : InstrKind → Option (List ℕ)
fixed_text (ApplyTemplates nodes passed) = None
fixed_text (CallTemplate i passed) = None
fixed_text ApplyImports = None
fixed_text (ForEach select sorts body) = None
fixed_text (ValueOf select) = None
fixed_text (CopyOf select) = None
fixed_text (Copy sets body) = None
fixed_text (Number decl) = None
fixed_text (Choose choice) = None
fixed_text (If test body) = None
fixed_text (Text text) = Some text
fixed_text (Element name sets body) = None
fixed_text (instr.Attribute name body) = None
fixed_text (instr.Comment body) = None
fixed_text (instr.Pi name body) = None
fixed_text (Message terminate body) = None
fixed_text (Variable' site name content) = None
fixed_text (Literal start body) = None
fixed_text (Extension fallbacks) = None

-- the expression whose string an instruction puts
abbrev pub selected : InstrKind → Option ScopedExpr
selected (ApplyTemplates nodes passed) = None
selected (CallTemplate i passed) = None
selected ApplyImports = None
selected (ForEach select sorts body) = None
selected (ValueOf select) = Some select
selected (CopyOf select) = None
selected (Copy sets body) = None
selected (Number decl) = None
selected (Choose choice) = None
selected (If test body) = None
selected (Text text) = None
selected (Element name sets body) = None
selected (instr.Attribute name body) = None
selected (instr.Comment body) = None
selected (instr.Pi name body) = None
selected (Message terminate body) = None
selected (Variable' site name content) = None
selected (Literal start body) = None
selected (Extension fallbacks) = None

-- a text, after the ticks of the event that it would be
abbrev pub text_ticked : {H : Type 0} → Site → List ℕ → State H → Step H (Option (List ℕ))
text_ticked p text s = and_then (ticked_by (length text / 256) p s) (λ u m. Goes (Some text) m)

-- ---- what is made of captured content
abbrev pub made_at : {H : Type 0} → Made → State H → List Event
made_at m s = made_events m (content_text (top s.captures))

abbrev pub made_steps : {H : Type 0} → Made → List ℕ → Site → State H → Reported H
made_steps (Attribute name) text p s = named_steps p name text s
made_steps made.Comment text p s = put_at p (Comment (comment_text text)) s
made_steps (Instruction target) text p s = put_at p (Pi target (instruction_text text)) s

abbrev pub made_ended : {H : Type 0} → Made → Site → State H → Reported H
made_ended m p s = made_steps m (content_text (top s.captures)) p (popped s)

-- the text that an event adds, where so many elements are open, and how many are open after it
abbrev pub text_added : Event → (depth : ℕ) → List ℕ
text_added (Start name) depth = []
text_added (Space prefix uri) depth = []
text_added (Attr name value) depth = []
text_added (Chars text) depth = if depth == 0 then text else []
text_added End depth = []
text_added (Comment text) depth = []
text_added (Pi target value) depth = []

abbrev pub depth_after : Event → (depth : ℕ) → ℕ
depth_after (Start name) depth = depth + 1
depth_after (Space prefix uri) depth = depth
depth_after (Attr name value) depth = depth
depth_after (Chars text) depth = depth
depth_after End depth = depth - 1
depth_after (Comment text) depth = depth
depth_after (Pi target value) depth = depth
