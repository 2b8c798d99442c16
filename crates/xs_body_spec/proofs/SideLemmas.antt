-- What a stylesheet does with one grain and with another, and by whatever index, side by side: what the parts of both keep, both keep.
use Rattle.std.proofs.Common.{◌≡◌, ℕ, zero, suc, ◌+◌, ◌/◌, ◌==◌, ◌||◌, length, List, [], ◌∷◌, ◌++◌, slice_get, Option, Some, None, Bool, true, false}
use Rattle.std.proofs.Common.{cond, refl}
use Rattle.xs_sheet.specs.declared.body.Binding.{Binding}
use Rattle.xs_sheet.specs.declared.body.Body.{Body, Body', Row_of-Instr, end_of-Instr, more_of-Instr}
use Rattle.xs_sheet.specs.declared.body.Choice.{Choice, Choice', Row_of-When, end_of-When, more_of-When}
use Rattle.xs_sheet.specs.declared.body.Content.{Content}
use Rattle.xs_sheet.specs.declared.body.Content.TheVariants.{Empty, Select, Body as Fragment}
use Rattle.xs_sheet.specs.declared.body.Fallbacks.{Fallbacks, Fallbacks', Row_of-Body, end_of-Body, more_of-Body}
use Rattle.xs_sheet.specs.declared.body.Instr.{Instr}
use Rattle.xs_sheet.specs.declared.body.InstrKind.{InstrKind, Variable'}
use Rattle.xs_sheet.specs.declared.body.InstrKind.TheVariants.{ApplyTemplates, CallTemplate, ApplyImports, ForEach, ValueOf, CopyOf, Copy, Number, Choose, If}
use Rattle.xs_sheet.specs.declared.body.InstrKind.TheVariants.{Text, Element, Attribute, Comment, Pi, Message, Literal, Extension}
use Rattle.xs_sheet.specs.declared.body.MadeName.{MadeName}
use Rattle.xs_sheet.specs.declared.body.Passed.{Passed, Passed', out-Passed, Row_of-Binding, end_of-Binding, more_of-Binding}
use Rattle.xs_sheet.specs.declared.body.When.{When'}
use Rattle.xs_sheet.specs.declared.declarations.AttrSet.{AttrSet}
use Rattle.xs_sheet.specs.declared.declarations.Template.{Template}
use Rattle.xs_sheet.specs.declared.scoped.ScopedExpr.{ScopedExpr}
use Rattle.xs_sheet.specs.declared.scoped.ValueTemplate.{ValueTemplate}
use Rattle.xs_trace.specs.Event.{text_of}
use Rattle.xs_trace.specs.Label.{Label}
use Rattle.xs_trace.specs.Mark.{Tick, Put, Say, Stop, Need, Trace, ◌⨾◌, captured}
use Rattle.xs_trace.specs.Mark as mark
use Rattle.xs_trace.specs.Run.{Run, Answer, Gives, Faults, Lacks, give, on_answer, evaluated, ◌>>=◌}
use Rattle.xs_trace.specs.declared.event.Event.{Event}
use Rattle.xs_trace.specs.declared.event.Event.TheVariants.{Start, Chars, End}
use Rattle.xs_trace.specs.declared.fault.Fault.{Fault}
use Rattle.xs_trace.specs.declared.fault.Fault.TheVariants as fault
use Rattle.xs_trace.specs.declared.item.Site.{Site}
use Rattle.xs_tree.specs.Kinds.{has_content, is_attribute_kind, is_element_kind, is_root_kind, is_text_kind}
use Rattle.xs_tree.specs.Record.{Record, at, children}
use Rattle.xs_tree.specs.declared.kinds.Kind.{Kind}
use Rattle.xs_value.specs.declared.value.Value.{Value}
use Rattle.xs_value.specs.declared.value.Value.TheVariants.{Chars as String, Piece}
use Rattle.xs_value.specs.Conversion.{bool_value, fragment_text, text_value}
use Rattle.xs_eval_spec.specs.Results.{given, nodes_in}
use Rattle.xs_making.specs.Copies.{shallow_copy}
use Rattle.xs_making.specs.Names.{pi_target, result_name}
use Rattle.xs_attribute_sets.specs.declared.index.SetIndex.{SetIndex}
use Rattle.xs_attribute_sets.specs.Declarations.{declarations_of}
use Rattle.xs_body_spec.specs.declared.focus.Focus.{Focus}
use Rattle.xs_body_spec.specs.declared.made.Made.{Made}
use Rattle.xs_body_spec.specs.declared.made.Made.TheVariants as made
use Rattle.xs_body_spec.specs.World.{World, all_set_levels, at_node, in_list, captured_in, with_levels, by_rule, without_rule, context}
use Rattle.xs_eval_spec.specs.Results.{numeric}
use Rattle.xs_sheet.specs.declared.body.NumberDecl.{NumberDecl}
use Rattle.xs_sheet.specs.declared.body.SortDecl.{SortDecl}
use Rattle.xs_value.specs.Conversion.{number_value}
use Rattle.xs_body_spec.proofs.LackLemmas.{sorted-value}
use Rattle.xs_body_spec.specs.Numbers.{Formatting, Numbered, given_number, format_run, formatting_run, group_in, number_run, numbered_by, optional_run, written}
use Rattle.xs_body_spec.specs.World.{applied_nodes, looped_nodes, nodes_or_children, nodes_run, numeric_run, sorted_run, template_run, test_run, text_run}
use Rattle.xs_body_spec.specs.World.{value_run}
use Rattle.xs_body_spec.specs.Making.{made_events, attribute_events, attribute_label, content_text}
use Rattle.xs_body_spec.specs.Making.{element_label, literal_spaces, name_run, namespace_run, target_run, value_events}
use Rattle.xs_body_spec.specs.Tasks.{Params, no_params, value_passed, Job, body_job, rules_job, Task}
use Rattle.xs_body_spec.specs.Rules.{rule_for, import_for}
use Rattle.xs_body_spec.specs.Trace.{Entry, named, fitting, overridden, using, Calls, each, spread, applied, Called, by_number, by_rules, called_with}
use Rattle.xs_body_spec.specs.Trace.{passing, imports, puts, puts_all, chars, says, ended_if, begins, literal_attributes, makes, fragment_of}
use Rattle.xs_body_spec.specs.Trace.{copied_node, instr_trace, body_trace, row_trace, content_trace}
use Rattle.xs_body_spec.specs.Trace.{values_trace, choice_trace, whens_trace, fallbacks_trace, unless_none, bodies_trace, param_trace, params_trace}
use Rattle.xs_body_spec.specs.Trace.{template_trace, built_in, ruled, instrs_trace, declared_trace, sets_trace, entered, called, job_trace, task_trace}
use Rattle.xs_body_spec.specs.Trace.{calls_at}
use Rattle.xs_body_spec.proofs.LackLemmas.{LacksOnly, value-then, given-value, template-value, tree-settles}

-- the same, with another grain and another index
abbrev pub beside : Option ℕ → SetIndex → World → World
beside grain index w = record w { index = index; grain = grain }

-- A relation, which may be another one in captured content, that the parts of traces keep. A need is of a global without a value. In
-- a run over nodes, what is done at each node with the second grain is the job of the run.
pub record IsKept (w : World) (grain : Option ℕ) (index : SetIndex) (R : Bool → Trace Task → Trace Task → Type 0) : Type 0 where
  pub nothing : (b : Bool) → R b [] []
  pub joins : (b : Bool) (x v y z : Trace Task) → R b x v → R b y z → R b (x ⨾ y) (v ⨾ z)
  pub ticks : (b : Bool) (p : Site) (x v : Trace Task) → R b x v → R b (Tick p ∷ x) (Tick p ∷ v)
  pub puts : (b : Bool) (e : Event) → R b (Put e ∷ []) (Put e ∷ [])
  pub says : (b : Bool) (t : List ℕ) → R b (Say t ∷ []) (Say t ∷ [])
  pub stops : (b : Bool) (n : Fault) (p : Site) → R b (Stop n p ∷ []) (Stop n p ∷ [])
  pub needs : (b : Bool) (g : ℕ) (p : Site) → slice_get w.globals g ≡ Some None → R b (Need g p ∷ []) (Need g p ∷ [])
  pub captures : (b : Bool) (x v : Trace Task) (h k : List Event → Trace Task) → R true x v → ((es : List Event) → R b (h es) (k es)) →
      R b (captured x h) (captured v k)
  pub spreads : (job : Job) (p : Site) (f : Focus) (ns : List ℕ) (x v : Focus → Trace Task) →
      ((n i : ℕ) → R f.is_captured (x (at_node n i f)) (v (at_node n i f))) →
      ((n i : ℕ) → v (at_node n i f) ≡ job_trace job (beside grain index w) (calls_at (beside grain index w) f) p (at_node n i f)) →
      R f.is_captured (spread w job p x f ns) (spread (beside grain index w) job p v f ns)

-- expressions
value-lacks : (w : World) (e : ScopedExpr) (f : Focus) (vs : List Value) → LacksOnly w.globals (value_run w e f vs).end
value-lacks w e f vs = tree-settles w.globals w.keys e.expr (context w f vs e.scope) refl

nodes-lack : (w : World) (e : ScopedExpr) (f : Focus) (vs : List Value) → LacksOnly w.globals (nodes_run w e f vs).end
nodes-lack w e f vs = value-then w.globals (value_run w e f vs) (λ v. given (nodes_in v)) (value-lacks w e f vs) (λ v. given-value w.globals (nodes_in v))

text-lacks : (w : World) (e : ScopedExpr) (f : Focus) (vs : List Value) → LacksOnly w.globals (text_run w e f vs).end
text-lacks w e f vs = value-then w.globals (value_run w e f vs) (λ v. give (text_value w.tree v)) (value-lacks w e f vs) (λ v. tt)

test-lacks : (w : World) (e : ScopedExpr) (f : Focus) (vs : List Value) → LacksOnly w.globals (test_run w e f vs).end
test-lacks w e f vs = value-then w.globals (value_run w e f vs) (λ v. give (bool_value v)) (value-lacks w e f vs) (λ v. tt)

children-lack : (w : World) (o : Option ScopedExpr) (f : Focus) (vs : List Value) → LacksOnly w.globals (nodes_or_children w o f vs).end
children-lack w None f vs = tt
children-lack w (Some e) f vs = nodes-lack w e f vs

applied-lack : (w : World) (o : Option ScopedExpr) (sorts : List SortDecl) (f : Focus) (vs : List Value) →
    LacksOnly w.globals (applied_nodes w o sorts f vs).end
applied-lack w o sorts f vs =
    value-then w.globals (nodes_or_children w o f vs) (sorted_run w sorts f vs) (children-lack w o f vs)
    (λ ns. sorted-value w.globals w.keys sorts (context w f vs []) refl ns)

looped-lack : (w : World) (e : ScopedExpr) (sorts : List SortDecl) (f : Focus) (vs : List Value) →
    LacksOnly w.globals (looped_nodes w e sorts f vs).end
looped-lack w e sorts f vs =
    value-then w.globals (nodes_run w e f vs) (sorted_run w sorts f vs) (nodes-lack w e f vs)
    (λ ns. sorted-value w.globals w.keys sorts (context w f vs []) refl ns)

template-lacks : (w : World) (v : ValueTemplate) (f : Focus) (vs : List Value) → LacksOnly w.globals (template_run w v f vs).end
template-lacks w v f vs = template-value w.globals w.keys v.parts (context w f vs v.scope) refl

namespace-lacks : (w : World) (o : Option ValueTemplate) (f : Focus) (vs : List Value) → LacksOnly w.globals (namespace_run w o f vs).end
namespace-lacks w None f vs = tt
namespace-lacks w (Some v) f vs = value-then w.globals (template_run w v f vs) (λ uri. give (Some uri)) (template-lacks w v f vs) (λ uri. tt)

-- numbers
numeric-lacks : (w : World) (e : ScopedExpr) (f : Focus) (vs : List Value) → LacksOnly w.globals (numeric_run w e f vs).end
numeric-lacks w e f vs =
    value-then w.globals (value_run w e f vs) (λ v. given (numeric (number_value w.tree v))) (value-lacks w e f vs)
    (λ v. given-value w.globals (numeric (number_value w.tree v)))

numbered-lacks : (w : World) (o : Option ScopedExpr) (d : NumberDecl) (f : Focus) (vs : List Value) → LacksOnly w.globals (numbered_by w o d f vs).end
numbered-lacks w None d f vs = tt
numbered-lacks w (Some e) d f vs =
    value-then w.globals (numeric_run w e f vs) (λ number. give (given_number number)) (numeric-lacks w e f vs) (λ number. tt)

format-lacks : (w : World) (o : Option ValueTemplate) (f : Focus) (vs : List Value) → LacksOnly w.globals (format_run w o f vs).end
format-lacks w None f vs = tt
format-lacks w (Some v) f vs = template-lacks w v f vs

optional-lacks : (w : World) (o : Option ValueTemplate) (f : Focus) (vs : List Value) → LacksOnly w.globals (optional_run w o f vs).end
optional-lacks w None f vs = tt
optional-lacks w (Some v) f vs = value-then w.globals (template_run w v f vs) (λ text. give (Some text)) (template-lacks w v f vs) (λ text. tt)

formatting-lacks : (w : World) (d : NumberDecl) (f : Focus) (vs : List Value) → LacksOnly w.globals (formatting_run w d f vs).end
formatting-lacks w d f vs =
    let last : List ℕ → Option (List ℕ) → Option (List ℕ) → Run Formatting =
    λ format separator size. give (record { format = format; group = group_in separator size }) in
    let next : List ℕ → Option (List ℕ) → Run Formatting = λ format separator. optional_run w d.grouping_size f vs >>= last format separator in
    let begun : List ℕ → Run Formatting = λ format. optional_run w d.grouping_separator f vs >>= next format in
    value-then w.globals (format_run w d.format f vs) begun (format-lacks w d.format f vs) (λ format.
    value-then w.globals (optional_run w d.grouping_separator f vs) (next format) (optional-lacks w d.grouping_separator f vs) (λ separator.
    value-then w.globals (optional_run w d.grouping_size f vs) (last format separator) (optional-lacks w d.grouping_size f vs) (λ size. tt)))

number-lacks : (w : World) (d : NumberDecl) (f : Focus) (vs : List Value) → LacksOnly w.globals (number_run w d f vs).end
number-lacks w d f vs =
    let last : Numbered → Formatting → Run (List ℕ) = λ n formatting. give (written n formatting) in
    let begun : Numbered → Run (List ℕ) = λ n. formatting_run w d f vs >>= last n in
    value-then w.globals (numbered_by w d.value d f vs) begun (numbered-lacks w d.value d f vs) (λ n.
    value-then w.globals (formatting_run w d f vs) (last n) (formatting-lacks w d f vs) (λ formatting. tt))

name-lacks : (w : World) (b : Bool) (n : MadeName) (f : Focus) (vs : List Value) → LacksOnly w.globals (name_run w b n f vs).end
name-lacks w b n f vs =
    let named : List ℕ → Option (List ℕ) → Run Label = λ text uri. given (result_name n.scope b uri text) in
    value-then w.globals (template_run w n.name f vs) (λ text. namespace_run w n.namespace f vs >>= named text) (template-lacks w n.name f vs)
    (λ text. value-then w.globals (namespace_run w n.namespace f vs) (named text) (namespace-lacks w n.namespace f vs)
    (λ uri. given-value w.globals (result_name n.scope b uri text)))

target-lacks : (w : World) (name : ValueTemplate) (f : Focus) (vs : List Value) → LacksOnly w.globals (target_run w name f vs).end
target-lacks w name f vs =
    value-then w.globals (template_run w name f vs) (λ text. given (pi_target text)) (template-lacks w name f vs)
    (λ text. given-value w.globals (pi_target text))

module _ (w : World) (grain : Option ℕ) (index : SetIndex) (R : Bool → Trace Task → Trace Task → Type 0) (keeps : IsKept w grain index R) where
  abbrev V : World
  V = beside grain index w

  -- both at a focus, of what depends on the grain
  abbrev Both : Focus → (World → Calls → Trace Task) → Type 0
  Both f x = R f.is_captured (x w (calls_at w f)) (x V (calls_at V f))

  -- what is entered at these levels
  abbrev CallsKeep : (depth set_levels : ℕ) → Type 0
  CallsKeep d n = (e : Entry) (p : Site) (f : Focus) → R f.is_captured (called e w d n p f) (called e V d n p f)

  abbrev Keep : Focus → Type 0
  Keep f = CallsKeep f.depth f.set_levels

  joined : (f : Focus) (x y : World → Calls → Trace Task) → Both f x → Both f y → Both f (λ u k. x u k ⨾ y u k)
  joined f x y e o =
      keeps.joins f.is_captured (x w (calls_at w f)) (x V (calls_at V f)) (y w (calls_at w f)) (y V (calls_at V f)) e o

  ticked : (f : Focus) (p : Site) (x : World → Calls → Trace Task) → Both f x → Both f (λ u k. Tick p ∷ x u k)
  ticked f p x e = keeps.ticks f.is_captured p (x w (calls_at w f)) (x V (calls_at V f)) e

  one-of : (f : Focus) (b : Bool) (x y : World → Calls → Trace Task) → Both f x → Both f y → Both f (λ u k. cond b (x u k) (y u k))
  one-of f true x y e o = e
  one-of f false x y e o = o

  -- many ticks, and what follows
  ticks-keep : (b : Bool) (p : Site) (n : ℕ) (x v : Trace Task) → R b x v → R b (mark.ticks p n x) (mark.ticks p n v)
  ticks-keep b p zero x v e = e
  ticks-keep b p (suc n) x v e = keeps.ticks b p (mark.ticks p n x) (mark.ticks p n v) (ticks-keep b p n x v e)

  puts-keep : (b : Bool) (p : Site) (e : Event) → R b (puts p e) (puts p e)
  puts-keep b p e = ticks-keep b p (length (text_of e) / 256) (Put e ∷ []) (Put e ∷ []) (keeps.puts b e)

  chars-keep : (b : Bool) (p : Site) (t : List ℕ) → R b (chars p t) (chars p t)
  chars-keep b p t = by_test (length t == 0)
    where
      by_test : (q : Bool) → R b (cond q [] (puts p (Chars t))) (cond q [] (puts p (Chars t)))
      by_test true = keeps.nothing b
      by_test false = puts-keep b p (Chars t)

  events-keep : (b : Bool) (p : Site) (es : List Event) → R b (puts_all p es) (puts_all p es)
  events-keep b p [] = keeps.nothing b
  events-keep b p (e ∷ es) = keeps.joins b (puts p e) (puts p e) (puts_all p es) (puts_all p es) (puts-keep b p e) (events-keep b p es)

  -- an event, and what follows it
  put-then : (f : Focus) (e : Event) (x : World → Calls → Trace Task) → Both f x → Both f (λ u k. Put e ∷ x u k)
  put-then f e x h = joined f (λ u k. Put e ∷ []) x (keeps.puts f.is_captured e) h

  message-keeps : (b : Bool) (p : Site) (terminate : Bool) (t : List ℕ) → R b (says p t ⨾ ended_if terminate p) (says p t ⨾ ended_if terminate p)
  message-keeps b p terminate t =
      keeps.joins b (says p t) (says p t) (ended_if terminate p) (ended_if terminate p)
      (ticks-keep b p (length t / 256) (Say t ∷ []) (Say t ∷ []) (keeps.says b t)) (end terminate)
    where
      end : (q : Bool) → R b (ended_if q p) (ended_if q p)
      end true = keeps.stops b fault.Terminated p
      end false = keeps.nothing b

  -- an expression, and what follows its value
  answer-keeps : {A : Type 0} (f : Focus) (p : Site) (a : Answer A) (h : World → Calls → A → Trace Task) → LacksOnly w.globals a →
      ((x : A) → Both f (λ u k. h u k x)) → Both f (λ u k. on_answer p a (h u k))
  answer-keeps f p (Gives x) h l e = e x
  answer-keeps f p (Faults n) h l e = keeps.stops f.is_captured n p
  answer-keeps f p (Lacks g) h l e = keeps.needs f.is_captured g p l

  valued : {A : Type 0} (f : Focus) (p : Site) (r : Run A) (h : World → Calls → A → Trace Task) → LacksOnly w.globals r.end →
      ((x : A) → Both f (λ u k. h u k x)) → Both f (λ u k. evaluated p r (h u k))
  valued f p r h l e =
      ticks-keep f.is_captured p r.cost (on_answer p r.end (h w (calls_at w f))) (on_answer p r.end (h V (calls_at V f))) (answer-keeps f p r.end h l e)

  -- what elements, attributes, comments and processing instructions are made of
  inside-keeps : (f : Focus) → Keep f → (sets : List Label) (p : Site) (x : World → Calls → Trace Task) → Both f x →
      Both f (λ u k. k (using sets) p f ⨾ (x u k ⨾ Put End ∷ []))
  inside-keeps f d sets p x h =
      joined f (λ u k. k (using sets) p f) (λ u k. x u k ⨾ Put End ∷ []) (d (using sets) p f)
      (joined f x (λ u k. Put End ∷ []) h (keeps.puts f.is_captured End))

  makes-keep : (f : Focus) (m : Made) (p : Site) (x : World → Calls → Trace Task) → Both (captured_in f) x → Both f (λ u k. makes m p (x u k))
  makes-keep f m p x h =
      let put : List Event → Trace Task = λ es. puts_all p (made_events m (content_text es)) in
      keeps.captures f.is_captured (x w (calls_at w f)) (x V (calls_at V f)) put put h
      (λ es. events-keep f.is_captured p (made_events m (content_text es)))

  attributes-keep : (xs : List (Label × ValueTemplate)) (p : Site) (f : Focus) (vs : List Value) → Both f (λ u k. literal_attributes xs p u f vs)
  attributes-keep [] p f vs = keeps.nothing f.is_captured
  attributes-keep (a ∷ xs) p f vs =
      let put : List ℕ → Trace Task = λ text. puts_all p (attribute_events (attribute_label w.sheet.aliases a.0) text) in
      joined f (λ u k. evaluated p (template_run u a.1 f vs) put) (λ u k. literal_attributes xs p u f vs)
      (valued f p (template_run w a.1 f vs) (λ u k. put) (template-lacks w a.1 f vs)
      (λ text. events-keep f.is_captured p (attribute_events (attribute_label w.sheet.aliases a.0) text)))
      (attributes-keep xs p f vs)

  copied-keeps : (kind : Kind) (sets : List Label) (p : Site) (f : Focus) → Keep f → (x : World → Calls → Trace Task) → Both f x →
      Both f (λ u k. copied_node kind sets u k p f (x u k))
  copied-keeps kind sets p f d x h =
      let element : World → Calls → Trace Task = λ u k. k (using sets) p f ⨾ (x u k ⨾ Put End ∷ []) in
      let root : World → Calls → Trace Task = λ u k. cond (is_root_kind kind) (x u k) [] in
      joined f (λ u k. puts_all p (shallow_copy w.tree f.node)) (λ u k. cond (is_element_kind kind) (element u k) (root u k))
      (events-keep f.is_captured p (shallow_copy w.tree f.node))
      (one-of f (is_element_kind kind) element root (inside-keeps f d sets p x h)
      (one-of f (is_root_kind kind) x (λ u k. []) h (keeps.nothing f.is_captured)))

  -- runs over nodes, and what calls do
  pub each-keeps : (p : Site) (f : Focus) (x v : Focus → Trace Task) → ((n i : ℕ) → R f.is_captured (x (at_node n i f)) (v (at_node n i f))) →
      (i : ℕ) (ns : List ℕ) → R f.is_captured (each p x f i ns) (each p v f i ns)
  each-keeps p f x v e i [] = keeps.nothing f.is_captured
  each-keeps p f x v e i (n ∷ ns) =
      keeps.ticks f.is_captured p (x (at_node n i f) ⨾ each p x f (i + 1) ns) (v (at_node n i f) ⨾ each p v f (i + 1) ns)
      (keeps.joins f.is_captured (x (at_node n i f)) (v (at_node n i f)) (each p x f (i + 1) ns) (each p v f (i + 1) ns) (e n i)
      (each-keeps p f x v e (i + 1) ns))

  applied-keeps : (mode : ℕ) (ps : Params) (p : Site) (f : Focus) → Keep f → (ns : List ℕ) → Both f (λ u k. applied u k mode ps p f ns)
  applied-keeps mode ps p f d ns =
      keeps.spreads (rules_job mode ps) p (in_list (length ns) f) ns (calls_at w f (fitting mode ps) p) (calls_at V f (fitting mode ps) p)
      (λ n i. d (fitting mode ps) p (at_node n i (in_list (length ns) f))) (λ n i. refl)

  call-keeps : (callee : Called) (ps : Params) (p : Site) (f : Focus) → Keep f → Both f (λ u k. called_with u k callee ps p f)
  call-keeps (by_number i) ps p f d = ticked f p (λ u k. k (named i ps) p f) (d (named i ps) p f)
  call-keeps (by_rules mode ns) ps p f d = applied-keeps mode ps p f d ns

  imports-keep : (p : Site) (f : Focus) → Keep f → (o : Option ℕ) → Both f (λ u k. imports k p f o)
  imports-keep p f d None = keeps.stops f.is_captured fault.NoRule p
  imports-keep p f d (Some rule) = ticked f p (λ u k. k (overridden rule) p f) (d (overridden rule) p f)

  unless-keeps : {m : _} (row : Row_of-Body m) (p : Site) (f : Focus) (x : World → Calls → Trace Task) → Both f x → Both f (λ u k. unless_none row p (x u k))
  unless-keeps end_of-Body p f x e = keeps.stops f.is_captured fault.NoExtension p
  unless-keeps (more_of-Body body others) p f x e = e

  -- instructions
  mutual
    instr-keeps : (kind : InstrKind) (p : Site) (f : Focus) → Keep f → (vs : List Value) (next : World → Calls → List Value → Trace Task) →
        ((us : List Value) → Both f (λ u k. next u k us)) → Both f (λ u k. instr_trace kind p u k f vs (next u k))
    instr-keeps (ApplyTemplates nodes passed) p f d vs next h =
        let x : World → Calls → List ℕ → Trace Task = λ u k ns. passing passed p u k f vs (λ ps. called_with u k (by_rules nodes.mode ns) ps p f) in
        joined f (λ u k. evaluated p (applied_nodes u nodes.select nodes.sorts f vs) (x u k)) (λ u k. next u k vs)
        (valued f p (applied_nodes w nodes.select nodes.sorts f vs) x (applied-lack w nodes.select nodes.sorts f vs) (λ ns.
        passing-keeps passed p f d vs (λ u k ps. called_with u k (by_rules nodes.mode ns) ps p f) (λ ps. call-keeps (by_rules nodes.mode ns) ps p f d))) (h vs)
    instr-keeps (CallTemplate i passed) p f d vs next h =
        joined f (λ u k. passing passed p u k f vs (λ ps. called_with u k (by_number i) ps p f)) (λ u k. next u k vs)
        (passing-keeps passed p f d vs (λ u k ps. called_with u k (by_number i) ps p f) (λ ps. call-keeps (by_number i) ps p f d)) (h vs)
    instr-keeps ApplyImports p f d vs next h = joined f (λ u k. imports k p f f.rule) (λ u k. next u k vs) (imports-keep p f d f.rule) (h vs)
    instr-keeps (ForEach select sorts body) p f d vs next h =
        let g : List ℕ → Focus = λ ns. in_list (length ns) (without_rule f) in
        let x : World → Calls → List ℕ → Trace Task = λ u k ns. spread u (body_job body vs) p (λ j. body_trace body u k j vs) (g ns) ns in
        joined f (λ u k. evaluated p (looped_nodes u select sorts f vs) (x u k)) (λ u k. next u k vs)
        (valued f p (looped_nodes w select sorts f vs) x (looped-lack w select sorts f vs) (λ ns.
        keeps.spreads (body_job body vs) p (g ns) ns (λ j. body_trace body w (calls_at w f) j vs) (λ j. body_trace body V (calls_at V f) j vs)
        (λ n i. body-keeps body (at_node n i (g ns)) d vs) (λ n i. refl))) (h vs)
    instr-keeps (ValueOf select) p f d vs next h =
        joined f (λ u k. evaluated p (text_run u select f vs) (chars p)) (λ u k. next u k vs)
        (valued f p (text_run w select f vs) (λ u k. chars p) (text-lacks w select f vs) (λ t. chars-keep f.is_captured p t)) (h vs)
    instr-keeps (CopyOf select) p f d vs next h =
        let put : Value → Trace Task = λ v. puts_all p (value_events w.tree v) in
        joined f (λ u k. evaluated p (value_run u select f vs) put) (λ u k. next u k vs)
        (valued f p (value_run w select f vs) (λ u k. put) (value-lacks w select f vs) (λ v. events-keep f.is_captured p (value_events w.tree v))) (h vs)
    instr-keeps (Copy sets body) p f d vs next h =
        let x : World → Calls → Trace Task = λ u k. body_trace body u k f vs in
        joined f (λ u k. copied_node (at w.tree f.node).kind sets u k p f (x u k)) (λ u k. next u k vs)
        (copied-keeps (at w.tree f.node).kind sets p f d x (body-keeps body f d vs)) (h vs)
    instr-keeps (Number decl) p f d vs next h =
        joined f (λ u k. evaluated p (number_run u decl f vs) (chars p)) (λ u k. next u k vs)
        (valued f p (number_run w decl f vs) (λ u k. chars p) (number-lacks w decl f vs) (λ t. chars-keep f.is_captured p t)) (h vs)
    instr-keeps (Choose choice) p f d vs next h = joined f (λ u k. choice_trace choice p u k f vs) (λ u k. next u k vs) (choice-keeps choice p f d vs) (h vs)
    instr-keeps (If test body) p f d vs next h =
        let x : World → Calls → Bool → Trace Task = λ u k b. cond b (body_trace body u k f vs) [] in
        joined f (λ u k. evaluated p (test_run u test f vs) (x u k)) (λ u k. next u k vs)
        (valued f p (test_run w test f vs) x (test-lacks w test f vs) (λ b.
        one-of f b (λ u k. body_trace body u k f vs) (λ u k. []) (body-keeps body f d vs) (keeps.nothing f.is_captured))) (h vs)
    instr-keeps (Text text) p f d vs next h = joined f (λ u k. chars p text) (λ u k. next u k vs) (chars-keep f.is_captured p text) (h vs)
    instr-keeps (Element name sets body) p f d vs next h =
        let inside : World → Calls → Trace Task = λ u k. k (using sets) p f ⨾ (body_trace body u k f vs ⨾ Put End ∷ []) in
        let x : World → Calls → Label → Trace Task = λ u k label. Put (Start label) ∷ inside u k in
        joined f (λ u k. evaluated p (name_run u false name f vs) (x u k)) (λ u k. next u k vs)
        (valued f p (name_run w false name f vs) x (name-lacks w false name f vs) (λ label.
        put-then f (Start label) inside (inside-keeps f d sets p (λ u k. body_trace body u k f vs) (body-keeps body f d vs)))) (h vs)
    instr-keeps (Attribute name body) p f d vs next h =
        let content : World → Calls → Trace Task = λ u k. body_trace body u k (captured_in f) vs in
        let x : World → Calls → Label → Trace Task = λ u k label. makes (made.Attribute label) p (content u k) in
        joined f (λ u k. evaluated p (name_run u true name f vs) (x u k)) (λ u k. next u k vs)
        (valued f p (name_run w true name f vs) x (name-lacks w true name f vs) (λ label.
        makes-keep f (made.Attribute label) p content (body-keeps body (captured_in f) d vs))) (h vs)
    instr-keeps (Comment body) p f d vs next h =
        let content : World → Calls → Trace Task = λ u k. body_trace body u k (captured_in f) vs in
        joined f (λ u k. makes made.Comment p (content u k)) (λ u k. next u k vs)
        (makes-keep f made.Comment p content (body-keeps body (captured_in f) d vs)) (h vs)
    instr-keeps (Pi name body) p f d vs next h =
        let content : World → Calls → Trace Task = λ u k. body_trace body u k (captured_in f) vs in
        let x : World → Calls → List ℕ → Trace Task = λ u k target. makes (made.Instruction target) p (content u k) in
        joined f (λ u k. evaluated p (target_run u name f vs) (x u k)) (λ u k. next u k vs)
        (valued f p (target_run w name f vs) x (target-lacks w name f vs) (λ target.
        makes-keep f (made.Instruction target) p content (body-keeps body (captured_in f) d vs))) (h vs)
    instr-keeps (Message terminate body) p f d vs next h =
        let x : List Event → Trace Task = λ es. says p (fragment_text es) ⨾ ended_if terminate p in
        joined f (λ u k. captured (body_trace body u k (captured_in f) vs) x) (λ u k. next u k vs)
        (keeps.captures f.is_captured (body_trace body w (calls_at w f) (captured_in f) vs) (body_trace body V (calls_at V f) (captured_in f) vs) x x
        (body-keeps body (captured_in f) d vs) (λ es. message-keeps f.is_captured p terminate (fragment_text es))) (h vs)
    instr-keeps (Variable' site name content) p f d vs next h = content-keeps content p f d vs (λ u k v. next u k (vs ++ v ∷ [])) (λ v. h (vs ++ v ∷ []))
    instr-keeps (Literal start body) p f d vs next h =
        let x : World → Calls → Trace Task = λ u k. body_trace body u k f vs in
        let attributes : World → Calls → Trace Task = λ u k. literal_attributes start.attributes p u f vs in
        let inside : World → Calls → Trace Task = λ u k. attributes u k ⨾ (x u k ⨾ Put End ∷ []) in
        joined f (λ u k. begins u start p ⨾ (k (using start.sets) p f ⨾ inside u k)) (λ u k. next u k vs)
        (joined f (λ u k. begins u start p) (λ u k. k (using start.sets) p f ⨾ inside u k)
        (events-keep f.is_captured p (Start (element_label w.sheet.aliases start.name) ∷ literal_spaces w.sheet.aliases start.spaces))
        (joined f (λ u k. k (using start.sets) p f) inside (d (using start.sets) p f)
        (joined f attributes (λ u k. x u k ⨾ Put End ∷ []) (attributes-keep start.attributes p f vs)
        (joined f x (λ u k. Put End ∷ []) (body-keeps body f d vs) (keeps.puts f.is_captured End))))) (h vs)
    instr-keeps (Extension fallbacks) p f d vs next h =
        joined f (λ u k. fallbacks_trace fallbacks p u k f vs) (λ u k. next u k vs) (fallbacks-keep fallbacks p f d vs) (h vs)

    pub body-keeps : (body : Body) (f : Focus) → Keep f → (vs : List Value) → Both f (λ u k. body_trace body u k f vs)
    body-keeps (Body' n row) f d vs = row-keeps row f d vs

    row-keeps : {m : _} (row : Row_of-Instr m) (f : Focus) → Keep f → (vs : List Value) → Both f (λ u k. row_trace row u k f vs)
    row-keeps end_of-Instr f d vs = keeps.nothing f.is_captured
    row-keeps (more_of-Instr p kind others) f d vs =
        ticked f p (λ u k. instr_trace kind p u k f vs (row_trace others u k f))
        (instr-keeps kind p f d vs (λ u k. row_trace others u k f) (λ us. row-keeps others f d us))

    pub content-keeps : (content : Content) (p : Site) (f : Focus) → Keep f → (vs : List Value) (next : World → Calls → Value → Trace Task) →
        ((v : Value) → Both f (λ u k. next u k v)) → Both f (λ u k. content_trace content p u k f vs (next u k))
    content-keeps Empty p f d vs next h = h (String [])
    content-keeps (Select e) p f d vs next h = valued f p (value_run w e f vs) next (value-lacks w e f vs) h
    content-keeps (Fragment body) p f d vs next h =
        keeps.captures f.is_captured (body_trace body w (calls_at w f) (captured_in f) vs) (body_trace body V (calls_at V f) (captured_in f) vs)
        (λ es. next w (calls_at w f) (Piece (fragment_of es))) (λ es. next V (calls_at V f) (Piece (fragment_of es)))
        (body-keeps body (captured_in f) d vs) (λ es. h (Piece (fragment_of es)))

    passing-keeps : (passed : Passed) (p : Site) (f : Focus) → Keep f → (vs : List Value) (next : World → Calls → Params → Trace Task) →
        ((ps : Params) → Both f (λ u k. next u k ps)) → Both f (λ u k. passing passed p u k f vs (next u k))
    passing-keeps (Passed' n row) p f d vs next h =
        let params : List Value → Params = λ us. record { bindings = (out-Passed (Passed' n row)).params; values = us } in
        values-keep row p f d vs [] (λ u k us. next u k (params us)) (λ us. h (params us))

    values-keep : {m : _} (row : Row_of-Binding m) (p : Site) (f : Focus) → Keep f → (vs us : List Value)
        (next : World → Calls → List Value → Trace Task) → ((ws : List Value) → Both f (λ u k. next u k ws)) →
        Both f (λ u k. values_trace row p u k f vs us (next u k))
    values-keep end_of-Binding p f d vs us next h = h us
    values-keep (more_of-Binding site name content others) p f d vs us next h =
        content-keeps content p f d vs (λ u k v. values_trace others p u k f vs (us ++ v ∷ []) (next u k))
        (λ v. values-keep others p f d vs (us ++ v ∷ []) next h)

    choice-keeps : (choice : Choice) (p : Site) (f : Focus) → Keep f → (vs : List Value) → Both f (λ u k. choice_trace choice p u k f vs)
    choice-keeps (Choice' n row otherwise) p f d vs = whens-keep row p f d vs (λ u k. body_trace otherwise u k f vs) (body-keeps otherwise f d vs)

    whens-keep : {m : _} (row : Row_of-When m) (p : Site) (f : Focus) → Keep f → (vs : List Value) (o : World → Calls → Trace Task) → Both f o →
        Both f (λ u k. whens_trace row p u k f vs (o u k))
    whens-keep end_of-When p f d vs o h = h
    whens-keep (more_of-When (When' test body) others) p f d vs o h =
        let x : World → Calls → Trace Task = λ u k. body_trace body u k f vs in
        let y : World → Calls → Trace Task = λ u k. whens_trace others p u k f vs (o u k) in
        valued f p (test_run w test f vs) (λ u k b. cond b (x u k) (y u k)) (test-lacks w test f vs) (λ b.
        one-of f b x y (body-keeps body f d vs) (whens-keep others p f d vs o h))

    fallbacks-keep : (fallbacks : Fallbacks) (p : Site) (f : Focus) → Keep f → (vs : List Value) → Both f
        (λ u k. fallbacks_trace fallbacks p u k f vs)
    fallbacks-keep (Fallbacks' n row) p f d vs = unless-keeps row p f (λ u k. bodies_trace row u k f vs) (bodies-keep row f d vs)

    bodies-keep : {m : _} (row : Row_of-Body m) (f : Focus) → Keep f → (vs : List Value) → Both f (λ u k. bodies_trace row u k f vs)
    bodies-keep end_of-Body f d vs = keeps.nothing f.is_captured
    bodies-keep (more_of-Body body others) f d vs =
        joined f (λ u k. body_trace body u k f vs) (λ u k. bodies_trace others u k f vs) (body-keeps body f d vs) (bodies-keep others f d vs)

  -- templates
  param-keeps : (o : Option Value) (content : Content) (p : Site) (f : Focus) → Keep f → (vs : List Value)
      (next : World → Calls → Value → Trace Task) →
      ((v : Value) → Both f (λ u k. next u k v)) → Both f (λ u k. param_trace o content p u k f vs (next u k))
  param-keeps None content p f d vs next h = content-keeps content p f d vs next h
  param-keeps (Some v) content p f d vs next h = h v

  params-keep : (bs : List Binding) (ps : Params) (f : Focus) → Keep f → (vs : List Value) (next : World → Calls → List Value → Trace Task) →
      ((us : List Value) → Both f (λ u k. next u k us)) → Both f (λ u k. params_trace bs ps u k f vs (next u k))
  params-keep [] ps f d vs next h = h vs
  params-keep (b ∷ bs) ps f d vs next h =
      let x : World → Calls → Value → Trace Task = λ u k v. params_trace bs ps u k f (vs ++ v ∷ []) (next u k) in
      ticked f b.site (λ u k. param_trace (value_passed b.name ps) b.content b.site u k f vs (x u k))
      (param-keeps (value_passed b.name ps) b.content b.site f d vs x (λ v. params-keep bs ps f d (vs ++ v ∷ []) next h))

  template-keeps : (o : Option Template) (ps : Params) (f : Focus) → Keep f → Both f (λ u k. template_trace o ps u k f)
  template-keeps None ps f d = keeps.nothing f.is_captured
  template-keeps (Some t) ps f d = params-keep t.params ps f d [] (λ u k. body_trace t.body u k f) (λ vs. body-keeps t.body f d vs)

  built_in-keeps : (mode : ℕ) (p : Site) (f : Focus) → Keep f → (r : Record) → Both f (λ u k. built_in u k mode p f r)
  built_in-keeps mode p f d r =
      let x : World → Calls → Trace Task = λ u k. applied u k mode no_params p f (children w.tree f.node) in
      let y : World → Calls → Trace Task = λ u k. chars p r.text in
      one-of f (has_content r.kind) x (λ u k. cond (is_text_kind r.kind || is_attribute_kind r.kind) (y u k) [])
      (applied-keeps mode no_params p f d (children w.tree f.node))
      (one-of f (is_text_kind r.kind || is_attribute_kind r.kind) y (λ u k. []) (chars-keep f.is_captured p r.text) (keeps.nothing f.is_captured))

  rule-keeps : (o : Option ℕ) (mode : ℕ) (ps : Params) (p : Site) (f : Focus) → Keep f → Both f (λ u k. ruled o mode ps u k p f)
  rule-keeps None mode ps p f d = built_in-keeps mode p f d (at w.tree f.node)
  rule-keeps (Some rule) mode ps p f d = template-keeps (slice_get w.sheet.templates rule) ps (by_rule rule mode f) d

  -- attribute sets
  instrs-keep : (is : List Instr) (f : Focus) → Keep f → (vs : List Value) → Both f (λ u k. instrs_trace is u k f vs)
  instrs-keep [] f d vs = keeps.nothing f.is_captured
  instrs-keep (i ∷ is) f d vs =
      ticked f i.site (λ u k. instr_trace i.kind i.site u k f vs (instrs_trace is u k f))
      (instr-keeps i.kind i.site f d vs (λ u k. instrs_trace is u k f) (λ us. instrs-keep is f d us))

  declared-keep : (ss : List AttrSet) (f : Focus) → Keep f → Both f (λ u k. declared_trace ss u k f)
  declared-keep [] f d = keeps.nothing f.is_captured
  declared-keep (s ∷ ss) f d =
      let own : World → Calls → Trace Task = λ u k. instrs_trace s.attributes u k f [] in
      joined f (λ u k. k (using s.sets) s.site f ⨾ own u k) (λ u k. declared_trace ss u k f)
      (joined f (λ u k. k (using s.sets) s.site f) own (d (using s.sets) s.site f) (instrs-keep s.attributes f d [])) (declared-keep ss f d)

  sets-keep : (names : List Label) (f : Focus) → Keep f → Both f (λ u k. sets_trace names u k f)
  sets-keep [] f d = keeps.nothing f.is_captured
  sets-keep (name ∷ names) f d =
      joined f (λ u k. declared_trace (declarations_of w.sheet.sets name) u k f) (λ u k. sets_trace names u k f)
      (declared-keep (declarations_of w.sheet.sets name) f d) (sets-keep names f d)

  entry-keeps : (e : Entry) (p : Site) (f : Focus) → Keep f → Both f (λ u k. entered e u k p f)
  entry-keeps (named i ps) p f d = template-keeps (slice_get w.sheet.templates i) ps f d
  entry-keeps (fitting mode ps) p f d = rule-keeps (rule_for w mode f.node) mode ps p f d
  entry-keeps (overridden current) p f d = rule-keeps (import_for w current f) f.mode no_params p f d
  entry-keeps (using names) p f d = sets-keep names f d

  -- what is entered, level by level
  pub called-keeps : (e : Entry) (d n : ℕ) (p : Site) (f : Focus) → R f.is_captured (called e w d n p f) (called e V d n p f)
  called-keeps (using names) d zero p f = keeps.nothing f.is_captured
  called-keeps (using names) d (suc n) p f = entry-keeps (using names) p (with_levels d n f) (λ e q g. called-keeps e d n q g)
  called-keeps (named i ps) zero n p f = keeps.stops f.is_captured fault.TooDeep p
  called-keeps (named i ps) (suc d) n p f =
      entry-keeps (named i ps) p (with_levels d (all_set_levels w) f) (λ e q g. called-keeps e d (all_set_levels w) q g)
  called-keeps (fitting mode ps) zero n p f = keeps.stops f.is_captured fault.TooDeep p
  called-keeps (fitting mode ps) (suc d) n p f =
      entry-keeps (fitting mode ps) p (with_levels d (all_set_levels w) f) (λ e q g. called-keeps e d (all_set_levels w) q g)
  called-keeps (overridden current) zero n p f = keeps.stops f.is_captured fault.TooDeep p
  called-keeps (overridden current) (suc d) n p f =
      entry-keeps (overridden current) p (with_levels d (all_set_levels w) f) (λ e q g. called-keeps e d (all_set_levels w) q g)

  pub calls-keep : (f : Focus) → Keep f
  calls-keep f e p g = called-keeps e f.depth f.set_levels p g

  -- tasks
  job-keeps : (job : Job) (p : Site) (f : Focus) (n i : ℕ) →
      R f.is_captured (job_trace job w (calls_at w f) p (at_node n i f)) (job_trace job V (calls_at V f) p (at_node n i f))
  job-keeps (body_job body vs) p f n i = body-keeps body (at_node n i f) (calls-keep f) vs
  job-keeps (rules_job mode ps) p f n i = calls-keep f (fitting mode ps) p (at_node n i f)

  pub task-keeps : (t : Task) → R t.focus.is_captured (task_trace w t) (task_trace V t)
  task-keeps t =
      each-keeps t.site t.focus (job_trace t.job w (calls_at w t.focus) t.site) (job_trace t.job V (calls_at V t.focus) t.site)
      (job-keeps t.job t.site t.focus) t.first t.nodes
