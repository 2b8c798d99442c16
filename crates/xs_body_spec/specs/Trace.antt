-- What a stylesheet does, in order, with no limit but the depth of its templates.
use Rattle.std.specs.Prelude.{ℕ, zero, suc, ◌+◌, ◌/◌, ◌==◌, ◌||◌, length, List, [], ◌∷◌, ◌++◌, map, slice_get, Option, Some, None, Bool, true, false}
use Rattle.std.specs.Prelude.{if◌then◌else◌}
use Rattle.xs_result.specs.Built.{built}
use Rattle.xs_sheet.specs.declared.body.Binding.{Binding}
use Rattle.xs_sheet.specs.declared.body.Body.{Body, Body', Row_of-Instr, end_of-Instr, more_of-Instr}
use Rattle.xs_sheet.specs.declared.body.Choice.{Choice, Choice', Row_of-When, end_of-When, more_of-When}
use Rattle.xs_sheet.specs.declared.body.Content.{Content}
use Rattle.xs_sheet.specs.declared.body.Content.TheVariants.{Empty, Select, Body as Fragment}
use Rattle.xs_sheet.specs.declared.body.Fallbacks.{Fallbacks, Fallbacks', Row_of-Body, end_of-Body, more_of-Body}
use Rattle.xs_sheet.specs.declared.body.Instr.{Instr}
use Rattle.xs_sheet.specs.declared.body.InstrKind.{InstrKind, Variable'}
use Rattle.xs_sheet.specs.declared.body.InstrKind.TheVariants.{ApplyTemplates, CallTemplate, ApplyImports, ForEach, ValueOf, CopyOf, Copy, Number, Choose, If}
use Rattle.xs_sheet.specs.declared.body.InstrKind.TheVariants.{Text, Element, Attribute, Comment, Pi, Message, Literal, Extension}
use Rattle.xs_sheet.specs.declared.body.LiteralStart.{LiteralStart}
use Rattle.xs_sheet.specs.declared.body.Passed.{Passed, Passed', out-Passed, Row_of-Binding, end_of-Binding, more_of-Binding}
use Rattle.xs_sheet.specs.declared.body.When.{When'}
use Rattle.xs_sheet.specs.declared.declarations.AttrSet.{AttrSet}
use Rattle.xs_sheet.specs.declared.declarations.Template.{Template}
use Rattle.xs_sheet.specs.declared.scoped.ValueTemplate.{ValueTemplate}
use Rattle.xs_trace.specs.Event.{text_of}
use Rattle.xs_trace.specs.Label.{Label}
use Rattle.xs_trace.specs.Mark.{Tick, Put, Say, Stop, Hole, Trace, ◌⨾◌, ticks, captured}
use Rattle.xs_trace.specs.Run.{evaluated}
use Rattle.xs_trace.specs.declared.event.Event.{Event}
use Rattle.xs_trace.specs.declared.event.Event.TheVariants.{Start, Chars, End}
use Rattle.xs_trace.specs.declared.fault.Fault.TheVariants as fault
use Rattle.xs_trace.specs.declared.item.Site.{Site}
use Rattle.xs_tree.specs.Kinds.{has_content, is_attribute_kind, is_element_kind, is_root_kind, is_text_kind}
use Rattle.xs_tree.specs.Record.{Record, at, children}
use Rattle.xs_tree.specs.declared.kinds.Kind.{Kind}
use Rattle.xs_value.specs.declared.value.Value.{Value}
use Rattle.xs_value.specs.declared.value.Value.TheVariants.{Chars as String, Piece}
use Rattle.xs_value.specs.Conversion.{fragment_text}
use Rattle.xs_making.specs.Copies.{shallow_copy}
use Rattle.xs_attribute_sets.specs.Declarations.{declarations_of}
use Rattle.xs_body_spec.specs.declared.focus.Focus.{Focus}
use Rattle.xs_body_spec.specs.declared.made.Made.{Made}
use Rattle.xs_body_spec.specs.declared.made.Made.TheVariants as made
use Rattle.xs_body_spec.specs.World.{World, all_set_levels, at_node, in_list, captured_in, with_levels, by_rule, without_rule, alone_at}
use Rattle.xs_body_spec.specs.World.{applied_nodes, looped_nodes, template_run, test_run, text_run, value_run}
use Rattle.xs_body_spec.specs.Numbers.{number_run}
use Rattle.xs_body_spec.specs.Making.{made_events, attribute_events, attribute_label, content_text}
use Rattle.xs_body_spec.specs.Making.{element_label, literal_spaces, name_run, target_run, value_events}
use Rattle.xs_body_spec.specs.Tasks.{Params, no_params, value_passed, Job, body_job, rules_job, Task, tasks_for, grain_over}
use Rattle.xs_body_spec.specs.Rules.{rule_for, import_for}

-- ---- what is put and said

-- an event, after a tick for each full 256 bytes of its text
abbrev pub puts : Site → Event → Trace Task
puts p e = ticks p (length (text_of e) / 256) (Put e ∷ [])

-- a text; an empty one is not put
abbrev pub chars : Site → List ℕ → Trace Task
chars p t = if length t == 0 then [] else puts p (Chars t)

-- a message, after a tick for each full 256 bytes; it may end the run (13)
abbrev pub ended_if : Bool → Site → Trace Task
ended_if terminate p = if terminate then Stop fault.Terminated p ∷ [] else []

abbrev pub says : Site → List ℕ → Trace Task
says p t = ticks p (length t / 256) (Say t ∷ [])

-- events, one after another
abbrev pub puts_all : Site → List Event → Trace Task
puts_all p [] = []
puts_all p (e ∷ es) = puts p e ⨾ puts_all p es

-- a literal result element begins: its name, and then its namespace nodes, with the aliases of their namespaces (7.1.1)
abbrev pub begins : World → LiteralStart → Site → Trace Task
begins w start p = puts_all p (Start (element_label w.sheet.aliases start.name) ∷ literal_spaces w.sheet.aliases start.spaces)

-- its attributes, whose values are value templates (7.1.1, 7.6.2)
abbrev pub literal_attributes : List (Label × ValueTemplate) → Site → World → Focus → List Value → Trace Task
literal_attributes [] p w f vs = []
literal_attributes (a ∷ others) p w f vs =
    evaluated p (template_run w a.1 f vs) (λ text. puts_all p (attribute_events (attribute_label w.sheet.aliases a.0) text))
    ⨾ literal_attributes others p w f vs

-- what is made of captured content (7.1.3, 7.3, 7.4)
abbrev pub makes : Made → Site → Trace Task → Trace Task
makes m p x = captured x (λ es. puts_all p (made_events m (content_text es)))

-- the fragment that captured content makes: the events that stay (7.1.3, 11.1)
abbrev pub fragment_of : List Event → List Event
fragment_of events = built events

-- ---- templates and attribute sets that are entered

-- by its number, with parameters (6); by the rule for the node in a mode (5.5); by the rule that the current one overrides (5.6); the
-- attribute sets of some names (7.1.4)
pub data Entry : Type 0 where
  named : (template : ℕ) → Params → Entry
  fitting : (mode : ℕ) → Params → Entry
  overridden : (current : ℕ) → Entry
  using : (names : List Label) → Entry

-- what those do that are entered for an instruction at a focus
abbrev pub Calls : Type 0
Calls = Entry → Site → Focus → Trace Task

-- ---- runs over nodes

-- for each node, from a position on, a tick, and then what is done with it as the current node
abbrev pub each : Site → (Focus → Trace Task) → Focus → ℕ → List ℕ → Trace Task
each p body f i [] = []
each p body f i (n ∷ ns) = Tick p ∷ (body (at_node n i f) ⨾ each p body f (i + 1) ns)

-- the same of a whole list; or, where it has more nodes than the grain, a hole for each task
abbrev pub spread_by : Option ℕ → Job → Site → (Focus → Trace Task) → Focus → List ℕ → Trace Task
spread_by None job p body f ns = each p body f 1 ns
spread_by (Some grain) job p body f ns = map Hole (tasks_for grain job p f ns)

abbrev pub spread : World → Job → Site → (Focus → Trace Task) → Focus → List ℕ → Trace Task
spread w job p body f ns = spread_by (grain_over w f (length ns)) job p body f ns

-- templates for the nodes of a list (5.4)
abbrev pub applied : World → Calls → (mode : ℕ) → Params → Site → Focus → List ℕ → Trace Task
applied w k mode params p f ns = spread w (rules_job mode params) p (k (fitting mode params) p) (in_list (length ns) f) ns

-- what a call does once it has its parameters: a template by its number, or those for nodes
pub data Called : Type 0 where
  by_number : (template : ℕ) → Called
  by_rules : (mode : ℕ) → (nodes : List ℕ) → Called

abbrev pub called_with : World → Calls → Called → Params → Site → Focus → Trace Task
called_with w k (by_number template) params p f = Tick p ∷ k (named template params) p f
called_with w k (by_rules mode ns) params p f = applied w k mode params p f ns

-- the rule that the current one overrides (5.6)
abbrev pub imports : Calls → Site → Focus → Option ℕ → Trace Task
imports k p f None = Stop fault.NoRule p ∷ []
imports k p f (Some rule) = Tick p ∷ k (overridden rule) p f

-- what `xsl:copy` does of a node of a kind, given its own content: an element has that in it, after the attributes of its sets; a root
-- has no copy of its own; other nodes have no content (7.5)
abbrev pub copied_content : Kind → List Label → Calls → Site → Focus → Trace Task → Trace Task
copied_content kind sets k p f inside =
    if is_element_kind kind then k (using sets) p f ⨾ (inside ⨾ Put End ∷ []) else (if is_root_kind kind then inside else [])

abbrev pub copied_node : Kind → List Label → World → Calls → Site → Focus → Trace Task → Trace Task
copied_node kind sets w k p f inside = puts_all p (shallow_copy w.tree f.node) ⨾ copied_content kind sets k p f inside

-- ---- instructions

-- What each instruction does, and then what follows, which takes the values of the local variables that it sees: apply-templates
-- (XSLT 1.0, 5.4), call-template (6), apply-imports (5.6), for-each (8), value-of (7.6.1), copy-of (11.3), copy (7.5), number (7.7),
-- choose (9.2), if (9.1), text (7.2), element (7.1.2), attribute (7.1.3), comment (7.4), processing-instruction (7.3), message (13),
-- variable (11.2), a literal element (7.1.1), an extension element (15). Each takes a tick before all else. Expressions stand at the
-- instruction that holds them.
abbrev mutual
  pub instr_trace : InstrKind → Site → World → Calls → Focus → List Value → (List Value → Trace Task) → Trace Task
  instr_trace (ApplyTemplates nodes passed) p w k f vs next =
      evaluated p (applied_nodes w nodes.select nodes.sorts f vs)
      (λ ns. passing passed p w k f vs (λ ps. called_with w k (by_rules nodes.mode ns) ps p f)) ⨾ next vs
  instr_trace (CallTemplate template passed) p w k f vs next = passing passed p w k f vs (λ ps. called_with w k (by_number template) ps p f) ⨾ next vs
  instr_trace ApplyImports p w k f vs next = imports k p f f.rule ⨾ next vs
  instr_trace (ForEach select sorts body) p w k f vs next =
      evaluated p (looped_nodes w select sorts f vs)
      (λ ns. spread w (body_job body vs) p (λ g. body_trace body w k g vs) (in_list (length ns) (without_rule f)) ns) ⨾ next vs
  instr_trace (ValueOf select) p w k f vs next = evaluated p (text_run w select f vs) (chars p) ⨾ next vs
  instr_trace (CopyOf select) p w k f vs next = evaluated p (value_run w select f vs) (λ v. puts_all p (value_events w.tree v)) ⨾ next vs
  instr_trace (Copy sets body) p w k f vs next = copied_node (at w.tree f.node).kind sets w k p f (body_trace body w k f vs) ⨾ next vs
  instr_trace (Number decl) p w k f vs next = evaluated p (number_run w decl f vs) (chars p) ⨾ next vs
  instr_trace (Choose choice) p w k f vs next = choice_trace choice p w k f vs ⨾ next vs
  instr_trace (If test body) p w k f vs next = evaluated p (test_run w test f vs) (λ b. if b then body_trace body w k f vs else []) ⨾ next vs
  instr_trace (Text text) p w k f vs next = chars p text ⨾ next vs
  instr_trace (Element name sets body) p w k f vs next =
      evaluated p (name_run w false name f vs) (λ label. Put (Start label) ∷ (k (using sets) p f ⨾ (body_trace body w k f vs ⨾ Put End ∷ []))) ⨾ next vs
  instr_trace (Attribute name body) p w k f vs next =
      evaluated p (name_run w true name f vs) (λ label. makes (made.Attribute label) p (body_trace body w k (captured_in f) vs)) ⨾ next vs
  instr_trace (Comment body) p w k f vs next = makes made.Comment p (body_trace body w k (captured_in f) vs) ⨾ next vs
  instr_trace (Pi name body) p w k f vs next =
      evaluated p (target_run w name f vs) (λ target. makes (made.Instruction target) p (body_trace body w k (captured_in f) vs)) ⨾ next vs
  instr_trace (Message terminate body) p w k f vs next =
      captured (body_trace body w k (captured_in f) vs) (λ es. says p (fragment_text es) ⨾ ended_if terminate p) ⨾ next vs
  instr_trace (Variable' site name content) p w k f vs next = content_trace content p w k f vs (λ v. next (vs ++ v ∷ []))
  instr_trace (Literal start body) p w k f vs next =
      (begins w start p ⨾ (k (using start.sets) p f ⨾ (literal_attributes start.attributes p w f vs ⨾ (body_trace body w k f vs ⨾ Put End ∷ [])))) ⨾ next vs
  instr_trace (Extension fallbacks) p w k f vs next = fallbacks_trace fallbacks p w k f vs ⨾ next vs

  -- the instructions of a body, one after another; a variable is seen by those after it (11.5)
  pub body_trace : Body → World → Calls → Focus → List Value → Trace Task
  body_trace (Body' n row) w k f vs = row_trace row w k f vs

  pub row_trace : {m : _} → Row_of-Instr m → World → Calls → Focus → List Value → Trace Task
  row_trace end_of-Instr w k f vs = []
  row_trace (more_of-Instr p kind rest) w k f vs = Tick p ∷ instr_trace kind p w k f vs (row_trace rest w k f)

  -- the value of a binding (11.2), and then what follows it
  pub content_trace : Content → Site → World → Calls → Focus → List Value → (Value → Trace Task) → Trace Task
  content_trace Empty p w k f vs next = next (String [])
  content_trace (Select e) p w k f vs next = evaluated p (value_run w e f vs) next
  content_trace (Fragment body) p w k f vs next = captured (body_trace body w k (captured_in f) vs) (λ es. next (Piece (fragment_of es)))

  -- the parameters that are passed (11.6), and then what follows them
  pub passing : Passed → Site → World → Calls → Focus → List Value → (Params → Trace Task) → Trace Task
  passing (Passed' n row) p w k f vs next = values_trace row p w k f vs []
      (λ us. next (record { bindings = (out-Passed (Passed' n row)).params; values = us }))

  -- their values, after those that are there already
  pub values_trace : {m : _} → Row_of-Binding m → Site → World → Calls → Focus → List Value → (before : List Value) → (List Value → Trace Task) → Trace Task
  values_trace end_of-Binding p w k f vs us next = next us
  values_trace (more_of-Binding site name content rest) p w k f vs us next =
      content_trace content p w k f vs (λ v. values_trace rest p w k f vs (us ++ v ∷ []) next)

  -- the body of the first test that holds (9.2)
  pub choice_trace : Choice → Site → World → Calls → Focus → List Value → Trace Task
  choice_trace (Choice' n row otherwise) p w k f vs = whens_trace row p w k f vs (body_trace otherwise w k f vs)

  pub whens_trace : {m : _} → Row_of-When m → Site → World → Calls → Focus → List Value → (otherwise : Trace Task) → Trace Task
  whens_trace end_of-When p w k f vs otherwise = otherwise
  whens_trace (more_of-When (When' test body) rest) p w k f vs otherwise =
      evaluated p (test_run w test f vs) (λ b. if b then body_trace body w k f vs else whens_trace rest p w k f vs otherwise)

  -- the contents of the fallbacks, one after another (15)
  pub fallbacks_trace : Fallbacks → Site → World → Calls → Focus → List Value → Trace Task
  fallbacks_trace (Fallbacks' n row) p w k f vs = unless_none row p (bodies_trace row w k f vs)

  pub unless_none : {m : _} → Row_of-Body m → Site → Trace Task → Trace Task
  unless_none end_of-Body p x = Stop fault.NoExtension p ∷ []
  unless_none (more_of-Body body rest) p x = x

  pub bodies_trace : {m : _} → Row_of-Body m → World → Calls → Focus → List Value → Trace Task
  bodies_trace end_of-Body w k f vs = []
  bodies_trace (more_of-Body body rest) w k f vs = body_trace body w k f vs ⨾ bodies_trace rest w k f vs

-- ---- templates

-- the values of a template's parameters, each of which sees those before it (11.5, 11.6): the one that is passed, or else its own;
-- each takes a tick
abbrev pub param_trace : Option Value → Content → Site → World → Calls → Focus → List Value → (Value → Trace Task) → Trace Task
param_trace None content p w k f vs next = content_trace content p w k f vs next
param_trace (Some v) content p w k f vs next = next v

abbrev pub params_trace : List Binding → Params → World → Calls → Focus → List Value → (List Value → Trace Task) → Trace Task
params_trace [] ps w k f vs next = next vs
params_trace (b ∷ bs) ps w k f vs next =
    Tick b.site ∷ param_trace (value_passed b.name ps) b.content b.site w k f vs (λ v. params_trace bs ps w k f (vs ++ v ∷ []) next)

abbrev pub template_trace : Option Template → Params → World → Calls → Focus → Trace Task
template_trace None ps w k f = []
template_trace (Some t) ps w k f = params_trace t.params ps w k f [] (body_trace t.body w k f)

-- the built-in rules (5.8): templates in the same mode for the children of a root or an element, the text of a text or an
-- attribute, and nothing of other nodes
abbrev pub built_in : World → Calls → (mode : ℕ) → Site → Focus → Record → Trace Task
built_in w k mode p f r =
    if has_content r.kind then applied w k mode no_params p f (children w.tree f.node)
    else (if is_text_kind r.kind || is_attribute_kind r.kind then chars p r.text else [])

-- a rule: a template, which is then the current rule (5.6), or a built-in one
abbrev pub ruled : Option ℕ → (mode : ℕ) → Params → World → Calls → Site → Focus → Trace Task
ruled None mode ps w k p f = built_in w k mode p f (at w.tree f.node)
ruled (Some rule) mode ps w k p f = template_trace (slice_get w.sheet.templates rule) ps w k (by_rule rule mode f)

-- ---- attribute sets

-- instructions, one after another, as those of a body
abbrev pub instrs_trace : List Instr → World → Calls → Focus → List Value → Trace Task
instrs_trace [] w k f vs = []
instrs_trace (i ∷ is) w k f vs = Tick i.site ∷ instr_trace i.kind i.site w k f vs (instrs_trace is w k f)

-- what declarations of a set put: each the attributes of the sets that it uses, and then its own, which see no local variable (7.1.4)
abbrev pub declared_trace : List AttrSet → World → Calls → Focus → Trace Task
declared_trace [] w k f = []
declared_trace (s ∷ ss) w k f = (k (using s.sets) s.site f ⨾ instrs_trace s.attributes w k f []) ⨾ declared_trace ss w k f

-- what the sets of some names put
abbrev pub sets_trace : List Label → World → Calls → Focus → Trace Task
sets_trace [] w k f = []
sets_trace (name ∷ names) w k f = declared_trace (declarations_of w.sheet.sets name) w k f ⨾ sets_trace names w k f

-- ---- what is entered

abbrev pub entered : Entry → World → Calls → Site → Focus → Trace Task
entered (named template ps) w k p f = template_trace (slice_get w.sheet.templates template) ps w k f
entered (fitting mode ps) w k p f = ruled (rule_for w mode f.node) mode ps w k p f
entered (overridden current) w k p f = ruled (import_for w current f) f.mode no_params w k p f
entered (using names) w k p f = sets_trace names w k f

-- The same where so many levels of templates, and of attribute sets, may be begun. Past the last level of sets nothing is put. That can't
-- come: no set uses itself, directly or through others (7.1.4; `LevelsSuffice` of specs/Laws.antt).
abbrev pub called : Entry → World → (depth set_levels : ℕ) → Site → Focus → Trace Task
called (using names) w depth zero p f = []
called (using names) w depth (suc level) p f = entered (using names) w (λ e. called e w depth level) p (with_levels depth level f)
called e w zero set_levels p f = Stop fault.TooDeep p ∷ []
called e w (suc depth) set_levels p f =
    entered e w (λ e. called e w depth (all_set_levels w)) p (with_levels depth (all_set_levels w) f)

-- those at a focus
abbrev pub calls_at : World → Focus → Calls
calls_at w f e = called e w f.depth f.set_levels

-- the most levels of templates (this project's own)
unfoldable pub most_depth : ℕ
most_depth = 16384

-- ---- tasks, and the whole

abbrev pub job_trace : Job → World → Calls → Site → Focus → Trace Task
job_trace (body_job body vs) w k p f = body_trace body w k f vs
job_trace (rules_job mode ps) w k p f = k (fitting mode ps) p f

abbrev pub task_trace : World → Task → Trace Task
task_trace w t = each t.site (job_trace t.job w (calls_at w t.focus) t.site) t.focus t.first t.nodes

-- What a transformation begins with (5.1): the rule for the root of the source, for the element of the first module.
abbrev pub root_task : World → Task
root_task w = record {
  job = rules_job 0 no_params;
  site = record { «module» = 0; line = w.sheet.root_line };
  focus = alone_at 0 most_depth (all_set_levels w);
  first = 1;
  nodes = 0 ∷ [];
}
