-- An evaluation that goes on, and its next step.
use Rattle.std.specs.Prelude.{ℕ, ◌+◌, ◌-◌, ◌==◌, ◌||◌, Bool, List, [], ◌∷◌, ◌++◌, map, reverse, take, drop, length, slice_get, Option, Some}
use Rattle.std.specs.Prelude.{None, true, false, if◌then◌else◌}
use Rattle.xs_sheet.specs.declared.body.Applied.{Applied}
use Rattle.xs_sheet.specs.declared.body.Binding.{Binding}
use Rattle.xs_sheet.specs.declared.body.Body.{Body, out-Body}
use Rattle.xs_sheet.specs.declared.body.Choice.{Choice, out-Choice}
use Rattle.xs_sheet.specs.declared.body.Content.{Content}
use Rattle.xs_sheet.specs.declared.body.Content.TheVariants.{Empty, Select, Body as Fragment}
use Rattle.xs_sheet.specs.declared.body.Fallbacks.{Fallbacks, out-Fallbacks}
use Rattle.xs_sheet.specs.declared.body.Instr.{Instr}
use Rattle.xs_sheet.specs.declared.body.InstrKind.{InstrKind, Variable'}
use Rattle.xs_sheet.specs.declared.body.InstrKind.TheVariants.{ApplyTemplates, CallTemplate, ApplyImports, ForEach, ValueOf, CopyOf, Copy, Number, Choose, If}
use Rattle.xs_sheet.specs.declared.body.InstrKind.TheVariants.{Text, Element, Attribute, Comment, Pi, Message, Literal, Extension}
use Rattle.xs_sheet.specs.declared.body.LiteralStart.{LiteralStart}
use Rattle.xs_sheet.specs.declared.body.MadeName.{MadeName}
use Rattle.xs_sheet.specs.declared.body.NumberDecl.{NumberDecl}
use Rattle.xs_sheet.specs.declared.body.Passed.{Passed, out-Passed}
use Rattle.xs_sheet.specs.declared.body.When.{When, out-When}
use Rattle.xs_sheet.specs.declared.declarations.AttrSet.{AttrSet}
use Rattle.xs_sheet.specs.declared.declarations.Template.{Template}
use Rattle.xs_sheet.specs.declared.scoped.ScopedExpr.{ScopedExpr}
use Rattle.xs_sheet.specs.declared.scoped.ValueTemplate.{ValueTemplate}
use Rattle.xs_sheet.specs.Slots.{slots_taken}
use Rattle.xs_trace.specs.Cut.{Fault}
use Rattle.xs_trace.specs.Label.{Label}
use Rattle.xs_trace.specs.Mark.{Hole, Trace, ◌⨾◌}
use Rattle.xs_trace.specs.Run.{Run, give, limited, ◌>>=◌}
use Rattle.xs_trace.specs.State.{State, opened, popped, top}
use Rattle.xs_trace.specs.Play.{Step, Goes, Reported, and_then, goes, ticked, put, said_at, stops, play}
use Rattle.xs_trace.specs.declared.event.Event.TheVariants.{Start, End}
use Rattle.xs_trace.specs.declared.fault.Fault.TheVariants as fault
use Rattle.xs_trace.specs.declared.item.Site.{Site}
use Rattle.xs_tree.specs.Kinds.{has_content, is_attribute_kind, is_element_kind, is_root_kind, is_text_kind}
use Rattle.xs_tree.specs.Record.{Record, at, children}
use Rattle.xs_tree.specs.declared.kinds.Kind.{Kind}
use Rattle.xs_value.specs.declared.value.Value.{Value}
use Rattle.xs_value.specs.declared.value.Value.TheVariants.{Chars as String, Piece}
use Rattle.xs_value.specs.Conversion.{fragment_text}
use Rattle.xs_making.specs.Copies.{shallow_copy}
use Rattle.xs_attribute_sets.specs.Indexed.{declarations_in}
use Rattle.xs_body_spec.specs.declared.focus.Focus.{Focus}
use Rattle.xs_body_spec.specs.declared.made.Made.{Made}
use Rattle.xs_body_spec.specs.declared.made.Made.TheVariants as made
use Rattle.xs_body.specs.declared.frames.Callee as code_callee
use Rattle.xs_body.specs.declared.frames.Callee.TheVariants as callee
use Rattle.xs_body.specs.declared.frames.AttributesLeft.{AttributesLeft}
use Rattle.xs_body.specs.declared.frames.Frame.{Frame}
use Rattle.xs_body.specs.declared.frames.Frame.TheVariants as frame
use Rattle.xs_body.specs.declared.frames.Passing.{Passing}
use Rattle.xs_body.specs.declared.frames.EachLeft.{EachLeft}
use Rattle.xs_body.specs.declared.frames.ApplyLeft.{ApplyLeft}
use Rattle.xs_body.specs.declared.frames.ParamsLeft.{ParamsLeft}
use Rattle.xs_body.specs.declared.frames.Scope.{Scope}
use Rattle.xs_body_spec.specs.World.{World, all_set_levels, at_node, in_list, captured_in, with_levels, by_rule, without_rule}
use Rattle.xs_body_spec.specs.World.{applied_nodes, looped_nodes, test_run, text_run, value_run}
use Rattle.xs_body_spec.specs.Numbers.{number_run}
use Rattle.xs_body_spec.specs.Tasks.{Params, no_params, value_passed, Job, body_job, rules_job, Task, tasks_for, grain_over}
use Rattle.xs_body_spec.specs.Rules.{rule_for, import_for}
use Rattle.xs_body_spec.specs.Trace.{Entry, named, fitting, overridden, using, Calls, each, Called, by_number, by_rules, called_with, fragment_of}
use Rattle.xs_body_spec.specs.Trace.{body_trace, calls_at, content_trace, declared_trace, instrs_trace, literal_attributes, params_trace}
use Rattle.xs_body_spec.specs.Trace.{puts_all, sets_trace}
use Rattle.xs_body.specs.steps.Lists.{nodes_in}
pub use Rattle.xs_body.specs.steps.Making.{chars_steps}
use Rattle.xs_body.specs.steps.Making.{attributes_steps, copy_steps, fixed_text, literal_steps, made_at, made_ended, made_steps, name_steps}
use Rattle.xs_making.specs.Putting.{events_steps}
use Rattle.xs_body.specs.steps.Making.{selected, target_steps, text_ticked}

-- ---- rows of the stylesheet as lists

abbrev pub instrs_of : Body → List Instr
instrs_of body = (out-Body body).instrs

abbrev pub bindings_of : Passed → List Binding
bindings_of passed = (out-Passed passed).params

abbrev pub bodies_of : Fallbacks → List Body
bodies_of fallbacks = (out-Fallbacks fallbacks).bodies

-- what is left of the values that are passed; of some bodies
abbrev pub bindings_trace : List Binding → Site → World → Calls → Focus → List Value → List Value → (List Value → Trace Task) → Trace Task
bindings_trace [] p w k f vs us next = next us
bindings_trace (b ∷ bs) p w k f vs us next = content_trace b.content p w k f vs (λ v. bindings_trace bs p w k f vs (us ++ v ∷ []) next)

abbrev pub all_bodies : List Body → World → Calls → Focus → List Value → Trace Task
all_bodies [] w k f vs = []
all_bodies (b ∷ bs) w k f vs = body_trace b w k f vs ⨾ all_bodies bs w k f vs

-- the body of the first test that holds
abbrev pub chosen_of : List When → Body → World → Focus → List Value → Run Body
chosen_of [] otherwise w f vs = give otherwise
chosen_of (t ∷ ts) otherwise w f vs = do
  b ← test_run w (out-When t).test f vs
  if b then give (out-When t).body else chosen_of ts otherwise w f vs

abbrev pub chosen : Choice → World → Focus → List Value → Run Body
chosen choice w f vs = chosen_of (out-Choice choice).whens (out-Choice choice).otherwise w f vs

-- ---- one thing that is still to be done
pub data Work : Type 0 where
  rest : List Instr → Scope → Work
  fill : Work
  each_left : Body → Site → Scope → (position : ℕ) → List ℕ → Work
  apply_left : (mode : ℕ) → Params → Site → Focus → (position : ℕ) → List ℕ → Work
  bodies_left : List Body → Scope → Work
  end_element : Work
  sets_left : List Label → Focus → Work
  declared_left : Label → (next : ℕ) → Focus → Work
  attributes_left : List (Label × ValueTemplate) → Site → Scope → Work
  make : Made → Site → Work
  say : Site → (terminate : Bool) → Work
  pass : (left all : List Binding) → List Value → Called → Site → Scope → Work
  take_value : (left all : List Binding) → List Value → Called → Site → Scope → Work
  params_left : List Binding → Params → Body → Scope → Work

-- an evaluation that goes on: what it is over, what is still to be done, the next first, and the values of local bindings
pub record Evaluation : Type 0 where
  pub world : World
  pub works : List Work
  pub slots : List Value

-- one with nothing to be done
abbrev pub idle : World → List Value → Evaluation
idle w vs = record { world = w; works = []; slots = vs }

-- the values that came last, and those before them
abbrev pub last : ℕ → List Value → List Value
last n vs = drop (length vs - n) vs

abbrev pub without : ℕ → List Value → List Value
without n vs = take (length vs - n) vs

-- ---- scopes
abbrev pub inner : Scope → Scope
inner c = record { focus = c.focus; seen = c.seen; own = 0 }

abbrev pub over : Focus → Scope → Scope
over f c = record { focus = f; seen = c.seen; own = 0 }

abbrev pub captured_scope : Scope → Scope
captured_scope c = over (captured_in c.focus) c

abbrev pub outer : Focus → Scope
outer f = record { focus = f; seen = 0; own = 0 }

abbrev pub more : ℕ → Scope → Scope
more n c = record { focus = c.focus; seen = c.seen + n; own = c.own + n }

abbrev pub bound : Scope → Scope
bound c = more 1 c

abbrev pub after : InstrKind → Scope → Scope
after kind c = more (slots_taken kind) c

-- ---- what works represent
abbrev pub filled : Trace Task → List Value → State Task → Step Task (List Value)
filled x vs s = and_then (play x s) (λ u m. Goes vs m)

abbrev pub ended : Bool → Site → State Task → Reported Task
ended terminate p s = if terminate then stops (Fault fault.Terminated p) s else goes s

abbrev pub message_steps : Site → Bool → List ℕ → State Task → Reported Task
message_steps p terminate text s = and_then (said_at p text s) (λ u m. ended terminate p m)

abbrev pub message_ended : Site → Bool → State Task → Reported Task
message_ended p terminate s = message_steps p terminate (fragment_text (top s.captures)) (popped s)

abbrev pub fragment_at : State Task → Value
fragment_at s = Piece (fragment_of (top s.captures))

abbrev pub passing_left : List Binding → List Binding → Called → World → Site → Focus → List Value → List Value → Trace Task
passing_left left all callee w p f vs us =
    bindings_trace left p w (calls_at w f) f vs us (λ ws. called_with w (calls_at w f) callee (record { bindings = all; values = ws }) p f)

abbrev pub work_steps : World → Work → List Value → State Task → Step Task (List Value)
work_steps w (rest is c) vs s = filled (instrs_trace is w (calls_at w c.focus) c.focus (last c.seen vs)) (without c.own vs) s
work_steps w fill vs s = Goes (vs ++ fragment_at s ∷ []) (popped s)
work_steps w (each_left body p c i ns) vs s = filled (each p (λ g. body_trace body w (calls_at w c.focus) g (last c.seen vs)) c.focus i ns) vs s
work_steps w (apply_left mode ps p f i ns) vs s = filled (each p (calls_at w f (fitting mode ps) p) f i ns) vs s
work_steps w (bodies_left bodies c) vs s = filled (all_bodies bodies w (calls_at w c.focus) c.focus (last c.seen vs)) vs s
work_steps w end_element vs s = and_then (put End s) (λ u m. Goes vs m)
work_steps w (sets_left names f) vs s = filled (sets_trace names w (calls_at w f) f) vs s
work_steps w (declared_left name i f) vs s = filled (declared_trace (drop i (declarations_in w.index name)) w (calls_at w f) f) vs s
work_steps w (attributes_left xs p c) vs s = filled (literal_attributes xs p w c.focus (last c.seen vs)) vs s
work_steps w (make m p) vs s = filled (puts_all p (made_at m s)) vs (popped s)
work_steps w (say p terminate) vs s = and_then (message_ended p terminate s) (λ u m. Goes vs m)
work_steps w (pass left all us callee p c) vs s = filled (passing_left left all callee w p c.focus (last c.seen vs) us) vs s
work_steps w (take_value left all us callee p c) vs s =
    filled (passing_left left all callee w p c.focus (last c.seen vs) (us ++ fragment_at s ∷ [])) vs (popped s)
work_steps w (params_left bs ps body c) vs s =
    filled (params_trace bs ps w (calls_at w c.focus) c.focus (last c.seen vs) (body_trace body w (calls_at w c.focus) c.focus)) (without c.own vs) s

-- what is said of all that is still to be done
abbrev pub stack_steps : World → List Work → List Value → State Task → Reported Task
stack_steps w [] vs s = goes s
stack_steps w (x ∷ xs) vs s = and_then (work_steps w x vs s) (λ us m. stack_steps w xs us m)

abbrev pub stack_reported : Evaluation → State Task → Reported Task
stack_reported t s = stack_steps t.world t.works t.slots s

-- what is left of a body, if anything is: instructions, or values of its own, which its end takes away
abbrev pub end_works : Scope → List Work
end_works c = if c.own == 0 then [] else rest [] c ∷ []

abbrev pub rest_works : List Instr → Scope → List Work
rest_works [] c = end_works c
rest_works (i ∷ is) c = rest (i ∷ is) c ∷ []

-- ---- a step

abbrev pub pushed : List Work → Evaluation → Evaluation
pushed xs t = record { world = t.world; works = xs ++ t.works; slots = t.slots }

abbrev pub slots_are : List Value → Evaluation → Evaluation
slots_are vs t = record { world = t.world; works = t.works; slots = vs }

abbrev pub filled_up : List Value → Evaluation → Evaluation
filled_up vs t = slots_are (t.slots ++ vs) t

abbrev pub stays : Reported Task → Evaluation → Step Task Evaluation
stays g t = and_then g (λ u m. Goes t m)

-- ---- attribute sets
-- those of some names, a level deeper, where there are any
abbrev pub sets_works : List Label → Focus → List Work
sets_works names f =
    if length names == 0 then [] else (if f.set_levels == 0 then [] else sets_left names (with_levels f.depth (f.set_levels - 1) f) ∷ [])

-- the sets that are left, if there are any
abbrev pub sets_left_works : List Label → Focus → List Work
sets_left_works names f = if length names == 0 then [] else sets_left names f ∷ []

-- the declarations of a set from a place on, if there is one at that place
abbrev pub declared_works : Option AttrSet → Label → ℕ → Focus → List Work
declared_works None name i f = []
declared_works (Some s) name i f = declared_left name i f ∷ []

abbrev pub set_begun : AttrSet → Focus → Evaluation → Evaluation
set_begun s f t = pushed (sets_works s.sets f) (pushed (rest s.attributes (outer f) ∷ []) t)

-- the declaration of a set at a place, before those after it
abbrev pub declaration_begun : (here after : Option AttrSet) → Label → ℕ → Focus → Evaluation → Evaluation
declaration_begun None after name i f t = t
declaration_begun (Some s) after name i f t = set_begun s f (pushed (declared_works after name (i + 1) f) t)

abbrev pub declarations_begun : List AttrSet → Label → ℕ → Focus → Evaluation → Evaluation
declarations_begun ds name i f t = declaration_begun (slice_get ds i) (slice_get ds (i + 1)) name i f t

abbrev pub declared_begun : Label → ℕ → Focus → Evaluation → Evaluation
declared_begun name i f t = declarations_begun (declarations_in t.world.index name) name i f t

-- the next of some sets
abbrev pub sets_begun : List Label → Focus → Evaluation → Evaluation
sets_begun [] f t = t
sets_begun (name ∷ names) f t = declared_begun name 0 f (pushed (sets_left_works names f) t)

-- a run over nodes, which a work goes through, or which is left to tasks
abbrev pub run_by : Option ℕ → Job → Site → Focus → List ℕ → Work → Evaluation → State Task → Step Task Evaluation
run_by None job p f ns x t s = Goes (pushed (x ∷ []) t) s
run_by (Some grain) job p f ns x t s = stays (play (map Hole (tasks_for grain job p f ns)) s) t

abbrev pub run_begun : Job → Site → Focus → List ℕ → Work → Evaluation → State Task → Step Task Evaluation
run_begun job p f ns x t s = run_by (grain_over t.world f (length ns)) job p f ns x t s

abbrev pub applied_begun : (mode : ℕ) → Params → Site → Focus → List ℕ → Evaluation → State Task → Step Task Evaluation
applied_begun mode ps p f ns t s =
    run_begun (rules_job mode ps) p (in_list (length ns) f) ns (apply_left mode ps p (in_list (length ns) f) 1 ns) t s

-- the parameters of a template that are left, or else its body
abbrev pub params_first : List Binding → Params → Body → Scope → Work
params_first [] ps body c = rest (instrs_of body) c
params_first (b ∷ bs) ps body c = params_left (b ∷ bs) ps body c

-- templates
abbrev pub template_begun : Option Template → Params → Focus → Evaluation → Evaluation
template_begun None ps f t = t
template_begun (Some template) ps f t = pushed (params_first template.params ps template.body (outer f) ∷ []) t

abbrev pub built_in_begun : (mode : ℕ) → Site → Focus → Record → Evaluation → State Task → Step Task Evaluation
built_in_begun mode p f r t s =
    if has_content r.kind then applied_begun mode no_params p f (children t.world.tree f.node) t s
    else (if is_text_kind r.kind || is_attribute_kind r.kind then stays (chars_steps p r.text s) t else Goes t s)

abbrev pub rule_begun : Option ℕ → (mode : ℕ) → Params → Site → Focus → Evaluation → State Task → Step Task Evaluation
rule_begun None mode ps p f t s = built_in_begun mode p f (at t.world.tree f.node) t s
rule_begun (Some rule) mode ps p f t s = Goes (template_begun (slice_get t.world.sheet.templates rule) ps (by_rule rule mode f) t) s

abbrev pub entry_begun : Entry → Site → Focus → Evaluation → State Task → Step Task Evaluation
entry_begun (named i ps) p f t s = Goes (template_begun (slice_get t.world.sheet.templates i) ps f t) s
entry_begun (fitting mode ps) p f t s = rule_begun (rule_for t.world mode f.node) mode ps p f t s
entry_begun (overridden current) p f t s = rule_begun (import_for t.world current f) f.mode no_params p f t s
entry_begun (using names) p f t s = Goes (pushed (sets_left names f ∷ []) t) s

-- in a template, where one level of them less may be begun, and all levels of sets
abbrev pub in_template : World → Focus → Focus
in_template w f = with_levels (f.depth - 1) (all_set_levels w) f

abbrev pub entering : Entry → Site → Focus → Evaluation → State Task → Step Task Evaluation
entering e p f t s = if f.depth == 0 then stops (Fault fault.TooDeep p) s else entry_begun e p (in_template t.world f) t s

abbrev pub call_begun : Called → Params → Site → Focus → Evaluation → State Task → Step Task Evaluation
call_begun (by_number i) ps p f t s = and_then (ticked p s) (λ u m. entering (named i ps) p f t m)
call_begun (by_rules mode ns) ps p f t s = applied_begun mode ps p f ns t s

abbrev pub imports_begun : Site → Focus → Option ℕ → Evaluation → State Task → Step Task Evaluation
imports_begun p f None t s = stops (Fault fault.NoRule p) s
imports_begun p f (Some rule) t s = and_then (ticked p s) (λ u m. entering (overridden rule) p f t m)

-- the value of a binding, which fills a slot
abbrev pub content_begun : Content → Site → Scope → Evaluation → State Task → Step Task Evaluation
content_begun Empty p c t s = Goes (filled_up (String [] ∷ []) t) s
content_begun (Select e) p c t s = and_then (limited p (value_run t.world e c.focus (last c.seen t.slots)) s) (λ v m. Goes (filled_up (v ∷ []) t) m)
content_begun (Fragment body) p c t s = Goes (pushed (rest (instrs_of body) (captured_scope c) ∷ fill ∷ []) t) (opened s)

-- the parameters of a call that are left, or else what is called
abbrev pub passes_on : (left all : List Binding) → List Value → Called → Site → Scope → Evaluation → State Task → Step Task Evaluation
passes_on [] all us callee p c t s = call_begun callee (record { bindings = all; values = us }) p c.focus t s
passes_on (b ∷ left) all us callee p c t s = Goes (pushed (pass (b ∷ left) all us callee p c ∷ []) t) s

-- a value that is passed
abbrev pub pass_begun : Content → (left all : List Binding) → List Value → Called → Site → Scope → Evaluation → State Task → Step Task Evaluation
pass_begun Empty left all us callee p c t s = passes_on left all (us ++ String [] ∷ []) callee p c t s
pass_begun (Select e) left all us callee p c t s =
    and_then (limited p (value_run t.world e c.focus (last c.seen t.slots)) s) (λ v m. passes_on left all (us ++ v ∷ []) callee p c t m)
pass_begun (Fragment body) left all us callee p c t s =
    Goes (pushed (rest (instrs_of body) (captured_scope c) ∷ take_value left all us callee p c ∷ []) t) (opened s)

-- a parameter that is passed, or else its own content
abbrev pub param_begun : Option Value → Content → Site → Scope → Evaluation → State Task → Step Task Evaluation
param_begun None content p c t s = content_begun content p c t s
param_begun (Some v) content p c t s = Goes (filled_up (v ∷ []) t) s

abbrev pub fallbacks_begun : List Body → Site → Scope → Evaluation → State Task → Step Task Evaluation
fallbacks_begun [] p c t s = stops (Fault fault.NoExtension p) s
fallbacks_begun (b ∷ bs) p c t s = Goes (pushed (bodies_left (b ∷ bs) (inner c) ∷ []) t) s

-- the next of some bodies
abbrev pub next_body : List Body → Scope → Evaluation → Evaluation
next_body [] c t = t
next_body (b ∷ bs) c t = pushed (rest (instrs_of b) (inner c) ∷ bodies_left bs c ∷ []) t

-- the nodes to which templates are applied, and then what is passed to them
abbrev pub apply_begun : Applied → List Binding → Site → Scope → Evaluation → State Task → Step Task Evaluation
apply_begun nodes bs p c t s =
    and_then (limited p (applied_nodes t.world nodes.select nodes.sorts c.focus (last c.seen t.slots)) s)
    (λ ns m. passes_on bs bs [] (by_rules nodes.mode ns) p c t m)

-- a body for each node, where no rule is current
abbrev pub looping : Focus → List ℕ → Focus
looping f ns = in_list (length ns) (without_rule f)

abbrev pub loop_begun : Body → Site → Scope → List ℕ → Evaluation → State Task → Step Task Evaluation
loop_begun body p c ns t s =
    run_begun (body_job body (last c.seen t.slots)) p (looping c.focus ns) ns (each_left body p (over (looping c.focus ns) c) 1 ns) t s

abbrev pub value_steps : ScopedExpr → Site → Scope → Evaluation → State Task → Reported Task
value_steps select p c t s = and_then (limited p (text_run t.world select c.focus (last c.seen t.slots)) s) (λ text m. chars_steps p text m)

abbrev pub number_steps : NumberDecl → Site → Scope → Evaluation → State Task → Reported Task
number_steps decl p c t s = and_then (limited p (number_run t.world decl c.focus (last c.seen t.slots)) s) (λ text m. chars_steps p text m)

abbrev pub choice_begun : Choice → Site → Scope → Evaluation → State Task → Step Task Evaluation
choice_begun choice p c t s =
    and_then (limited p (chosen choice t.world c.focus (last c.seen t.slots)) s) (λ body m. Goes (pushed (rest (instrs_of body) (inner c) ∷ []) t) m)

abbrev pub if_begun : ScopedExpr → Body → Site → Scope → Evaluation → State Task → Step Task Evaluation
if_begun test body p c t s =
    and_then (limited p (test_run t.world test c.focus (last c.seen t.slots)) s)
    (λ b m. Goes (pushed (if b then rest (instrs_of body) (inner c) ∷ [] else []) t) m)

abbrev pub message_begun : Bool → Body → Site → Scope → Evaluation → State Task → Step Task Evaluation
message_begun terminate body p c t s = Goes (pushed (rest (instrs_of body) (captured_scope c) ∷ say p terminate ∷ []) t) (opened s)

-- what is in an element
abbrev pub content_in : Body → Scope → Evaluation → Evaluation
content_in body c t = pushed (rest_works (instrs_of body) (inner c)) (pushed (end_element ∷ []) t)

abbrev pub inside_begun : List Label → Body → Scope → Evaluation → Evaluation
inside_begun sets body c t = pushed (sets_works sets c.focus) (content_in body c t)

-- what is in a literal element: its attributes are put at once where it has no sets
abbrev pub literal_inside : LiteralStart → Body → Site → Scope → Evaluation → State Task → Step Task Evaluation
literal_inside start body p c t s =
    if length start.sets == 0
    then stays (attributes_steps t.world p c.focus (last c.seen t.slots) start.attributes s) (content_in body c t)
    else Goes (pushed (sets_works start.sets c.focus) (pushed (attributes_left start.attributes p c ∷ []) (content_in body c t))) s

abbrev pub literal_begun : LiteralStart → Body → Site → Scope → Evaluation → State Task → Step Task Evaluation
literal_begun start body p c t s = and_then (literal_steps t.world.sheet.aliases p start s) (λ u m. literal_inside start body p c t m)

abbrev pub element_put : Label → List Label → Body → Scope → Evaluation → State Task → Step Task Evaluation
element_put name sets body c t s = and_then (put (Start name) s) (λ u m. Goes (inside_begun sets body c t) m)

abbrev pub element_begun : MadeName → List Label → Body → Site → Scope → Evaluation → State Task → Step Task Evaluation
element_begun name sets body p c t s =
    and_then (name_steps t.world p c.focus (last c.seen t.slots) false name s) (λ label m. element_put label sets body c t m)

-- the text of content that is one instruction and puts a text alone; none of other content
abbrev pub fixed_lone : List ℕ → Site → State Task → Step Task (Option (List ℕ))
fixed_lone text p s = and_then (ticked p s) (λ u m. text_ticked p text m)

abbrev pub selected_text : ScopedExpr → Site → Scope → Evaluation → State Task → Step Task (Option (List ℕ))
selected_text select p c t s = and_then (limited p (text_run t.world select c.focus (last c.seen t.slots)) s) (λ text m. text_ticked p text m)

abbrev pub selected_lone : ScopedExpr → Site → Scope → Evaluation → State Task → Step Task (Option (List ℕ))
selected_lone select p c t s = and_then (ticked p s) (λ u m. selected_text select p c t m)

abbrev pub lone_selected : Option ScopedExpr → Site → Scope → Evaluation → State Task → Step Task (Option (List ℕ))
lone_selected None p c t s = Goes None s
lone_selected (Some select) p c t s = selected_lone select p c t s

abbrev pub lone_by : Option (List ℕ) → Option ScopedExpr → Site → Scope → Evaluation → State Task → Step Task (Option (List ℕ))
lone_by None select p c t s = lone_selected select p c t s
lone_by (Some text) select p c t s = fixed_lone text p s

abbrev pub lone_instr : Instr → Scope → Evaluation → State Task → Step Task (Option (List ℕ))
lone_instr i c t s = lone_by (fixed_text i.kind) (selected i.kind) i.site c t s

abbrev pub lone_steps : List Instr → Scope → Evaluation → State Task → Step Task (Option (List ℕ))
lone_steps [] c t s = Goes None s
lone_steps (i ∷ []) c t s = lone_instr i c t s
lone_steps (i ∷ j ∷ is) c t s = Goes None s

-- what is made of content: of its text, or else of what is captured
abbrev pub captured_begun : Made → Body → Site → Scope → Evaluation → State Task → Step Task Evaluation
captured_begun m body p c t s = Goes (pushed (rest (instrs_of body) (captured_scope c) ∷ make m p ∷ []) t) (opened s)

abbrev pub made_of : Option (List ℕ) → Made → Body → Site → Scope → Evaluation → State Task → Step Task Evaluation
made_of None m body p c t s = captured_begun m body p c t s
made_of (Some text) m body p c t s = stays (made_steps m text p s) t

abbrev pub made_begun : Made → Body → Site → Scope → Evaluation → State Task → Step Task Evaluation
made_begun m body p c t s = and_then (lone_steps (instrs_of body) c t s) (λ text n. made_of text m body p c t n)

abbrev pub attribute_begun : MadeName → Body → Site → Scope → Evaluation → State Task → Step Task Evaluation
attribute_begun name body p c t s =
    and_then (name_steps t.world p c.focus (last c.seen t.slots) true name s) (λ label m. made_begun (made.Attribute label) body p c t m)

abbrev pub instruction_begun : ValueTemplate → Body → Site → Scope → Evaluation → State Task → Step Task Evaluation
instruction_begun name body p c t s =
    and_then (target_steps t.world p c.focus (last c.seen t.slots) name s) (λ target m. made_begun (made.Instruction target) body p c t m)

-- copies
abbrev pub copied_begun : Kind → List Label → Body → Scope → Evaluation → Evaluation
copied_begun kind sets body c t =
    if is_element_kind kind then inside_begun sets body c t else (if is_root_kind kind then pushed (rest (instrs_of body) (inner c) ∷ []) t else t)

abbrev pub copy_begun : List Label → Body → Site → Scope → Evaluation → State Task → Step Task Evaluation
copy_begun sets body p c t s =
    and_then (events_steps p (shallow_copy t.world.tree c.focus.node) s)
    (λ u m. Goes (copied_begun (at t.world.tree c.focus.node).kind sets body c t) m)

abbrev pub copy_of_steps : ScopedExpr → Site → Scope → Evaluation → State Task → Reported Task
copy_of_steps select p c t s =
    and_then (limited p (value_run t.world select c.focus (last c.seen t.slots)) s) (λ v m. copy_steps t.world.tree p v m)

-- how an instruction begins
abbrev pub begun : InstrKind → Site → Scope → Evaluation → State Task → Step Task Evaluation
begun (ApplyTemplates nodes passed) p c t s = apply_begun nodes (bindings_of passed) p c t s
begun (CallTemplate i passed) p c t s = passes_on (bindings_of passed) (bindings_of passed) [] (by_number i) p c t s
begun ApplyImports p c t s = imports_begun p c.focus c.focus.rule t s
begun (ForEach select sorts body) p c t s =
    and_then (limited p (looped_nodes t.world select sorts c.focus (last c.seen t.slots)) s) (λ ns m. loop_begun body p c ns t m)
begun (ValueOf select) p c t s = stays (value_steps select p c t s) t
begun (CopyOf select) p c t s = stays (copy_of_steps select p c t s) t
begun (Copy sets body) p c t s = copy_begun sets body p c t s
begun (Number decl) p c t s = stays (number_steps decl p c t s) t
begun (Choose choice) p c t s = choice_begun choice p c t s
begun (If test body) p c t s = if_begun test body p c t s
begun (Text text) p c t s = stays (chars_steps p text s) t
begun (Element name sets body) p c t s = element_begun name sets body p c t s
begun (Attribute name body) p c t s = attribute_begun name body p c t s
begun (Comment body) p c t s = made_begun made.Comment body p c t s
begun (Pi name body) p c t s = instruction_begun name body p c t s
begun (Message terminate body) p c t s = message_begun terminate body p c t s
begun (Variable' site name content) p c t s = content_begun content p c t s
begun (Literal start body) p c t s = literal_begun start body p c t s
begun (Extension fallbacks) p c t s = fallbacks_begun (bodies_of fallbacks) p c t s

-- the next instruction of a body, before what is left of it
abbrev pub rest_begun : List Instr → Scope → Evaluation → State Task → Step Task Evaluation
rest_begun [] c t s = Goes (slots_are (without c.own t.slots) t) s
rest_begun (i ∷ is) c t s = and_then (ticked i.site s) (λ u m. begun i.kind i.site c (pushed (rest_works is (after i.kind c)) t) m)

-- the rule that a node takes, by whose template's first instruction it begins at once, where that has no parameters
abbrev pub params_entered : List Binding → Params → Body → Scope → Evaluation → State Task → Step Task Evaluation
params_entered [] ps body c t s = rest_begun (instrs_of body) c t s
params_entered (b ∷ bs) ps body c t s = Goes (pushed (params_left (b ∷ bs) ps body c ∷ []) t) s

abbrev pub template_entered : Option Template → Params → Focus → Evaluation → State Task → Step Task Evaluation
template_entered None ps f t s = Goes t s
template_entered (Some template) ps f t s = params_entered template.params ps template.body (outer f) t s

abbrev pub rule_entered : Option ℕ → (mode : ℕ) → Params → Site → Focus → Evaluation → State Task → Step Task Evaluation
rule_entered None mode ps p f t s = built_in_begun mode p f (at t.world.tree f.node) t s
rule_entered (Some rule) mode ps p f t s = template_entered (slice_get t.world.sheet.templates rule) ps (by_rule rule mode f) t s

abbrev pub fitting_entered : (mode : ℕ) → Params → Site → Focus → Evaluation → State Task → Step Task Evaluation
fitting_entered mode ps p f t s = rule_entered (rule_for t.world mode f.node) mode ps p f t s

abbrev pub entering_fitting : (mode : ℕ) → Params → Site → Focus → Evaluation → State Task → Step Task Evaluation
entering_fitting mode ps p f t s = if f.depth == 0 then stops (Fault fault.TooDeep p) s else fitting_entered mode ps p (in_template t.world f) t s

-- the next step of the work that is first, before the others
abbrev pub advanced : Work → Evaluation → State Task → Step Task Evaluation
advanced (rest is c) t s = rest_begun is c t s
advanced fill t s = Goes (filled_up (fragment_at s ∷ []) t) (popped s)
advanced (each_left body p c i []) t s = Goes t s
advanced (each_left body p c i (n ∷ ns)) t s =
    and_then (ticked p s) (λ u m. rest_begun (instrs_of body) (over (at_node n i c.focus) c) (pushed (each_left body p c (i + 1) ns ∷ []) t) m)
advanced (apply_left mode ps p f i []) t s = Goes t s
advanced (apply_left mode ps p f i (n ∷ ns)) t s =
    and_then (ticked p s) (λ u m. entering_fitting mode ps p (at_node n i f) (pushed (apply_left mode ps p f (i + 1) ns ∷ []) t) m)
advanced (bodies_left bodies c) t s = Goes (next_body bodies c t) s
advanced end_element t s = stays (put End s) t
advanced (sets_left names f) t s = Goes (sets_begun names f t) s
advanced (declared_left name i f) t s = Goes (declared_begun name i f t) s
advanced (attributes_left xs p c) t s = stays (attributes_steps t.world p c.focus (last c.seen t.slots) xs s) t
advanced (make m p) t s = stays (made_ended m p s) t
advanced (say p terminate) t s = stays (message_ended p terminate s) t
advanced (pass [] all us callee p c) t s = call_begun callee (record { bindings = all; values = us }) p c.focus t s
advanced (pass (b ∷ left) all us callee p c) t s = pass_begun b.content left all us callee p c t s
advanced (take_value left all us callee p c) t s = passes_on left all (us ++ fragment_at s ∷ []) callee p c t (popped s)
advanced (params_left [] ps body c) t s = Goes (pushed (rest (instrs_of body) c ∷ []) t) s
advanced (params_left (b ∷ bs) ps body c) t s =
    and_then (ticked b.site s) (λ u m. param_begun (value_passed b.name ps) b.content b.site c (pushed (params_first bs ps body (bound c) ∷ []) t) m)

-- the evaluation that a task begins with
abbrev pub begun_job : Job → World → Task → Evaluation
begun_job (body_job body vs) w t =
    pushed (each_left body t.site (record { focus = t.focus; seen = length vs; own = 0 }) t.first t.nodes ∷ []) (idle w vs)
begun_job (rules_job mode ps) w t = pushed (apply_left mode ps t.site t.focus t.first t.nodes ∷ []) (idle w [])

abbrev pub begun_with : World → Task → Evaluation
begun_with w t = begun_job t.job w t

-- ---- what the code's frames represent
abbrev pub called_of : code_callee.Callee → Called
called_of (callee.Template i) = by_number i
called_of (callee.Rules mode nodes) = by_rules mode (nodes_in nodes)

abbrev pub pass_work : Passing → Work
pass_work p = pass p.left.now p.all.now p.values.items (called_of p.callee) p.site p.scope

abbrev pub take_work : Passing → Work
take_work p = take_value p.left.now p.all.now p.values.items (called_of p.callee) p.site p.scope

abbrev pub passing_on : List Value → Passing → Evaluation → State Task → Step Task Evaluation
passing_on us p t s = passes_on p.left.now p.all.now us (called_of p.callee) p.site p.scope t s

-- a parameter with this content, before those that are left
abbrev pub passing_begun : Content → Passing → Evaluation → State Task → Step Task Evaluation
passing_begun content p t s = pass_begun content p.left.now p.all.now p.values.items (called_of p.callee) p.site p.scope t s

abbrev pub each_work : EachLeft → Work
each_work e = each_left e.body.now e.site e.scope e.position (drop e.next (nodes_in e.nodes))

abbrev pub apply_work : ApplyLeft → Work
apply_work a = apply_left a.rules.mode a.rules.passed a.site a.focus a.position (drop a.next (nodes_in a.nodes))

abbrev pub params_work : ParamsLeft → Work
params_work p = params_left p.left.now p.passed p.body.now p.scope

abbrev pub attributes_work : AttributesLeft → Work
attributes_work a = attributes_left a.attributes.now a.site a.scope

abbrev pub work_of : Frame → Work
work_of (frame.Rest is c) = rest is.now c
work_of frame.Fill = fill
work_of (frame.Each e) = each_work e.value
work_of (frame.Apply a) = apply_work a.value
work_of (frame.Bodies bodies c) = bodies_left bodies.now c
work_of frame.End = end_element
work_of (frame.Sets names f) = sets_left names.now f
work_of (frame.Declared name i f) = declared_left name.now i f
work_of (frame.Attributes a) = attributes_work a
work_of (frame.Make m p) = make m p
work_of (frame.Say p terminate) = say p terminate
work_of (frame.Pass p) = pass_work p.value
work_of (frame.Take p) = take_work p.value
work_of (frame.Params p) = params_work p.value

-- the last frame is the next
abbrev pub evaluation_of : World → List Frame → List Value → Evaluation
evaluation_of w frames slots = record { world = w; works = reverse (map work_of frames); slots = slots }
