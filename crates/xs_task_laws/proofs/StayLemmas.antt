-- What a task leaves is in the tree, where the task is (`TasksStayInside`).
use Rattle.std.proofs.Common.{ℕ, zero, suc, ◌+◌, ◌-◌, ◌/◌, ◌==◌, ◌||◌, ◌<◌, length, List, [], ◌∷◌, ◌++◌, map, slice_get}
use Rattle.std.proofs.Common.{Option, Some, None, Bool, true, false, cond}
use Rattle.std.proofs.lemmas.List.Elements.{All-cons, All-head, All-nil, All-push, All-tail}
use Rattle.xs_sheet.specs.Sets.{is_same_label}
use Rattle.xs_sheet.specs.declared.body.Binding.{Binding}
use Rattle.xs_sheet.specs.declared.body.Body.{Body, Body', Row_of-Instr, end_of-Instr, more_of-Instr}
use Rattle.xs_sheet.specs.declared.body.Choice.{Choice, Choice', Row_of-When, end_of-When, more_of-When}
use Rattle.xs_sheet.specs.declared.body.Content.{Content}
use Rattle.xs_sheet.specs.declared.body.Content.TheVariants.{Empty, Select, Body as Fragment}
use Rattle.xs_sheet.specs.declared.body.Fallbacks.{Fallbacks, Fallbacks', Row_of-Body, end_of-Body, more_of-Body}
use Rattle.xs_sheet.specs.declared.body.Instr.{Instr}
use Rattle.xs_sheet.specs.declared.body.InstrKind.{InstrKind, Variable'}
use Rattle.xs_sheet.specs.declared.body.InstrKind.TheVariants.{ApplyTemplates, CallTemplate, ApplyImports, ForEach, ValueOf, CopyOf, Copy, Number, Choose, If}
use Rattle.xs_sheet.specs.declared.body.InstrKind.TheVariants.{Text, Element, Attribute, Comment, Pi, Message, Literal, Extension}
use Rattle.xs_sheet.specs.declared.body.Passed.{Passed, Passed', out-Passed, Row_of-Binding, end_of-Binding, more_of-Binding}
use Rattle.xs_sheet.specs.declared.body.When.{When'}
use Rattle.xs_sheet.specs.declared.declarations.AttrSet.{AttrSet}
use Rattle.xs_sheet.specs.declared.declarations.Template.{Template}
use Rattle.xs_sheet.specs.declared.scoped.ValueTemplate.{ValueTemplate}
use Rattle.xs_trace.specs.Event.{text_of}
use Rattle.xs_trace.specs.Fill.{HolesAre}
use Rattle.xs_trace.specs.Label.{Label}
use Rattle.xs_trace.specs.Mark.{Put, Say, Stop, Hole, Trace, ◌⨾◌, captured, events_of, ticks, without_puts}
use Rattle.xs_trace.specs.Run.{Answer, Faults, Gives, Lacks, Run, evaluated, on_answer}
use Rattle.xs_trace.specs.declared.event.Event.{Event}
use Rattle.xs_trace.specs.declared.event.Event.TheVariants.{Chars, End, Start}
use Rattle.xs_trace.specs.declared.fault.Fault.TheVariants as fault
use Rattle.xs_trace.specs.declared.item.Site.{Site}
use Rattle.xs_tree.specs.Kinds.{has_content, is_attribute_kind, is_element_kind, is_root_kind, is_text_kind}
use Rattle.xs_tree.specs.Record.{Record, at, children}
use Rattle.xs_tree.specs.declared.kinds.Kind.{Kind}
use Rattle.xs_value.specs.Conversion.{IsIn, fragment_text}
use Rattle.xs_value.specs.declared.value.Value.{Value}
use Rattle.xs_value.specs.declared.value.Value.TheVariants.{Chars as String, Piece}
use Rattle.xs_making.specs.Copies.{shallow_copy}
use Rattle.xs_attribute_sets.specs.Declarations.{declarations_of}
use Rattle.xs_body_spec.specs.declared.focus.Focus.{Focus}
use Rattle.xs_body_spec.specs.declared.made.Made.{Made}
use Rattle.xs_body_spec.specs.declared.made.Made.TheVariants as made
use Rattle.xs_body_spec.specs.Making.{attribute_events, attribute_label, content_text, element_label, literal_spaces}
use Rattle.xs_body_spec.specs.Making.{made_events, name_run, target_run, value_events}
use Rattle.xs_body_spec.specs.Numbers.{number_run}
use Rattle.xs_body_spec.specs.Rules.{import_for, rule_for}
use Rattle.xs_body_spec.specs.Tasks.{Job, Params, Task, body_job, grain_over, last_passed, no_params, rules_job, shared, task_behind, value_passed, with_node}
use Rattle.xs_body_spec.specs.Trace.{Calls, Entry, applied, begins, bodies_trace, body_trace, built_in}
use Rattle.xs_body_spec.specs.Trace.{by_number, by_rules, called, called_with, calls_at, chars}
use Rattle.xs_body_spec.specs.Trace.{choice_trace, content_trace, copied_content, copied_node, declared_trace, each}
use Rattle.xs_body_spec.specs.Trace.{ended_if, entered, fallbacks_trace, fitting}
use Rattle.xs_body_spec.specs.Trace.{fragment_of, imports, instr_trace, instrs_trace, job_trace, literal_attributes}
use Rattle.xs_body_spec.specs.Trace.{makes, named, overridden, param_trace, params_trace}
use Rattle.xs_body_spec.specs.Trace.{passing, puts, puts_all, row_trace, ruled, says, sets_trace}
use Rattle.xs_body_spec.specs.Trace.{spread, spread_by, task_trace, template_trace, unless_none, using}
use Rattle.xs_body_spec.specs.Trace.{values_trace, whens_trace}
use Rattle.xs_body_spec.specs.World.{World, all_set_levels, applied_nodes, at_node, by_rule, captured_in}
use Rattle.xs_body_spec.specs.World.{in_list, looped_nodes, template_run, test_run, text_run}
use Rattle.xs_body_spec.specs.World.{value_run, with_levels, without_rule}
use Rattle.xs_body_spec.proofs.FullLemmas.{holes-captured, holes-then}
use Rattle.xs_body_spec.specs.Inside.{IsJobIn, IsTaskIn}
use Rattle.xs_task_laws.proofs.ValueLemmas.{AnswerHas, AreIn, AreNodesIn, has_any}
use Rattle.xs_task_laws.proofs.RunLemmas.{IsOver, applied_in, children_in, looped_in, value_in}

module _ (w : World) (over : IsOver w) where
  abbrev IsInside : Task → Type 0
  IsInside t = IsTaskIn w.tree t

  -- what leaves only tasks that are in the tree
  abbrev pub Stays : Trace Task → Type 0
  Stays x = HolesAre IsInside x

  abbrev AreInside : List Value → Type 0
  AreInside vs = AreIn w.tree vs

  abbrev IsEntryIn : Entry → Type 0
  IsEntryIn (named template ps) = AreInside ps.values
  IsEntryIn (fitting mode ps) = AreInside ps.values
  IsEntryIn (overridden current) = Unit {0}
  IsEntryIn (using names) = Unit {0}

  -- what is entered at a node of the tree
  abbrev CallsStay : Calls → Type 0
  CallsStay k = (e : Entry) → IsEntryIn e → (p : Site) (f : Focus) → f.node < length w.tree → Stays (k e p f)

  no_values : AreInside []
  no_values = All-nil (IsIn w.tree)

  more_values : (vs : List Value) (v : Value) → AreInside vs → IsIn w.tree v → AreInside (vs ++ v ∷ [])
  more_values vs v h k = All-push (IsIn w.tree) vs v h k

  -- ---- parts
  joined : (x y : Trace Task) → Stays x → Stays y → Stays (x ⨾ y)
  joined x y h k = holes-then IsInside x y h k

  one-of : (b : Bool) (x y : Trace Task) → Stays x → Stays y → Stays (cond b x y)
  one-of true x y h k = h
  one-of false x y h k = k

  ticked : (p : Site) (n : ℕ) (x : Trace Task) → Stays x → Stays (ticks p n x)
  ticked p zero x h = h
  ticked p (suc n) x h = ticked p n x h

  answer_stays : {A : Type 0} (P : A → Type 0) (p : Site) (a : Answer A) (x : A → Trace Task) → AnswerHas P a → ((v : A) → P v → Stays (x v))
      → Stays (on_answer p a x)
  answer_stays P p (Gives v) x q h = h v q
  answer_stays P p (Faults n) x q h = tt
  answer_stays P p (Lacks g) x q h = tt

  valued : {A : Type 0} (P : A → Type 0) (p : Site) (r : Run A) (x : A → Trace Task) → AnswerHas P r.end → ((v : A) → P v → Stays (x v))
      → Stays (evaluated p r x)
  valued P p r x q h = ticked p r.cost (on_answer p r.end x) (answer_stays P p r.end x q h)

  -- of which only the trace that follows counts
  any_valued : {A : Type 0} (p : Site) (r : Run A) (x : A → Trace Task) → ((v : A) → Stays (x v)) → Stays (evaluated p r x)
  any_valued {A} p r x h = valued (λ (v : A). Unit {0}) p r x (has_any r.end) (λ v u. h v)

  captures : (x : Trace Task) (h : List Event → Trace Task) → Stays x → ((es : List Event) → Stays (h es)) → Stays (captured x h)
  captures x h s k = joined (without_puts x) (h (events_of x)) (holes-captured IsInside x s) (k (events_of x))

  put_stays : (p : Site) (e : Event) → Stays (puts p e)
  put_stays p e = ticked p (length (text_of e) / 256) (Put e ∷ []) tt

  puts_stay : (p : Site) (es : List Event) → Stays (puts_all p es)
  puts_stay p [] = tt
  puts_stay p (e ∷ es) = joined (puts p e) (puts_all p es) (put_stays p e) (puts_stay p es)

  chars_stay : (p : Site) (text : List ℕ) → Stays (chars p text)
  chars_stay p text = one-of (length text == 0) [] (puts p (Chars text)) tt (put_stays p (Chars text))

  message_stays : (p : Site) (terminate : Bool) (text : List ℕ) → Stays (says p text ⨾ ended_if terminate p)
  message_stays p terminate text =
      joined (says p text) (ended_if terminate p) (ticked p (length text / 256) (Say text ∷ []) tt)
      (one-of terminate (Stop fault.Terminated p ∷ []) [] tt tt)

  made_stays : (m : Made) (p : Site) (x : Trace Task) → Stays x → Stays (makes m p x)
  made_stays m p x h = captures x (λ es. puts_all p (made_events m (content_text es))) h (λ es. puts_stay p (made_events m (content_text es)))

  attributes_stay : (xs : List (Label × ValueTemplate)) (p : Site) (f : Focus) (vs : List Value) → Stays (literal_attributes xs p w f vs)
  attributes_stay [] p f vs = tt
  attributes_stay (a ∷ xs) p f vs =
      let put : List ℕ → Trace Task = λ text. puts_all p (attribute_events (attribute_label w.sheet.aliases a.0) text) in
      joined (evaluated p (template_run w a.1 f vs) put) (literal_attributes xs p w f vs)
      (any_valued p (template_run w a.1 f vs) put (λ text. puts_stay p (attribute_events (attribute_label w.sheet.aliases a.0) text)))
      (attributes_stay xs p f vs)

  -- what follows a start, up to its end
  closed : (sets : List Label) (k : Calls) (p : Site) (f : Focus) (x : Trace Task) → CallsStay k → f.node < length w.tree → Stays x
      → Stays (k (using sets) p f ⨾ (x ⨾ Put End ∷ []))
  closed sets k p f x d n h =
      joined (k (using sets) p f) (x ⨾ Put End ∷ []) (d (using sets) tt p f n) (joined x (Put End ∷ []) h tt)

  -- ---- runs over nodes, and what calls do
  each_stays : (p : Site) (x : Focus → Trace Task) (f : Focus) (i : ℕ) (ns : List ℕ) → AreNodesIn w.tree ns
      → ((g : Focus) → g.node < length w.tree → Stays (x g)) → Stays (each p x f i ns)
  each_stays p x f i [] q h = tt
  each_stays p x f i (n ∷ ns) q h =
      joined (x (at_node n i f)) (each p x f (i + 1) ns) (h (at_node n i f) (All-head (λ k. k < length w.tree) n ns q))
      (each_stays p x f (i + 1) ns (All-tail (λ k. k < length w.tree) n ns q) h)

  shared_stay : (grain room : ℕ) (t : Task) (ns : List ℕ) → IsInside t → AreNodesIn w.tree ns → Stays (map Hole (shared grain room t ns))
  shared_stay grain room t [] h q = (h, tt)
  shared_stay grain zero t (n ∷ ns) h q = (
    h,
    shared_stay grain (grain - 1) (task_behind t n) ns
        (record { job = h.job; nodes = All-cons (λ k. k < length w.tree) n [] (All-head (λ k. k < length w.tree) n ns q) (All-nil (λ k. k < length w.tree)) })
        (All-tail (λ k. k < length w.tree) n ns q),
  )
  shared_stay grain (suc room) t (n ∷ ns) h q =
      shared_stay grain room (with_node t n) ns
      (record { job = h.job; nodes = All-push (λ k. k < length w.tree) t.nodes n h.nodes (All-head (λ k. k < length w.tree) n ns q) })
      (All-tail (λ k. k < length w.tree) n ns q)

  spread_stays : (job : Job) → IsJobIn w.tree job → (p : Site) (x : Focus → Trace Task) (f : Focus) (ns : List ℕ) → AreNodesIn w.tree ns
      → ((g : Focus) → g.node < length w.tree → Stays (x g)) → Stays (spread w job p x f ns)
  spread_stays job j p x f ns q h = by_grain (grain_over w f (length ns))
    where
      by_grain : (o : Option ℕ) → Stays (spread_by o job p x f ns)
      by_grain None = each_stays p x f 1 ns q h
      by_grain (Some grain) =
          shared_stay grain grain (record { job = job; site = p; focus = f; first = 1; nodes = [] }) ns
          (record { job = j; nodes = All-nil (λ k. k < length w.tree) }) q

  applied_stays : (k : Calls) → CallsStay k → (mode : ℕ) (ps : Params) → AreInside ps.values → (p : Site) (f : Focus) (ns : List ℕ)
      → AreNodesIn w.tree ns → Stays (applied w k mode ps p f ns)
  applied_stays k d mode ps h p f ns q =
      spread_stays (rules_job mode ps) h p (k (fitting mode ps) p) (in_list (length ns) f) ns q (λ g n. d (fitting mode ps) h p g n)

  number_stays : (k : Calls) → CallsStay k → (i : ℕ) (ps : Params) → AreInside ps.values → (p : Site) (f : Focus) → f.node < length w.tree
      → Stays (called_with w k (by_number i) ps p f)
  number_stays k d i ps h p f n = d (named i ps) h p f n

  imports_stay : (k : Calls) → CallsStay k → (p : Site) (f : Focus) → f.node < length w.tree → (o : Option ℕ) → Stays (imports k p f o)
  imports_stay k d p f n None = tt
  imports_stay k d p f n (Some rule) = d (overridden rule) tt p f n

  unless_stays : {m : _} (row : Row_of-Body m) (p : Site) (x : Trace Task) → Stays x → Stays (unless_none row p x)
  unless_stays end_of-Body p x h = tt
  unless_stays (more_of-Body body others) p x h = h

  copied_stays : (sets : List Label) (k : Calls) → CallsStay k → (p : Site) (f : Focus) → f.node < length w.tree → (x : Trace Task) → Stays x
      → Stays (copied_node (at w.tree f.node).kind sets w k p f x)
  copied_stays sets k d p f n x h =
      let kind : Kind = (at w.tree f.node).kind in
      joined (puts_all p (shallow_copy w.tree f.node)) (copied_content kind sets k p f x) (puts_stay p (shallow_copy w.tree f.node))
      (one-of (is_element_kind kind) (k (using sets) p f ⨾ (x ⨾ Put End ∷ [])) (cond (is_root_kind kind) x []) (closed sets k p f x d n h)
      (one-of (is_root_kind kind) x [] h tt))

  -- ---- instructions
  mutual
    instr_stays : (i : InstrKind) (p : Site) (f : Focus) → f.node < length w.tree → (k : Calls) → CallsStay k → (vs : List Value) → AreInside vs
        → (next : List Value → Trace Task) → ((us : List Value) → AreInside us → Stays (next us)) → Stays (instr_trace i p w k f vs next)
    instr_stays (ApplyTemplates nodes passed) p f n k d vs v next h =
        let x : List ℕ → Trace Task = λ ns. passing passed p w k f vs (λ ps. called_with w k (by_rules nodes.mode ns) ps p f) in
        let run : Run (List ℕ) = applied_nodes w nodes.select nodes.sorts f vs in
        joined (evaluated p run x) (next vs)
        (valued (AreNodesIn w.tree) p run x (applied_in w over nodes.select nodes.sorts f vs n v) (λ ns q.
        passing_stays passed p f n k d vs v (λ ps. called_with w k (by_rules nodes.mode ns) ps p f) (λ ps r. applied_stays k d nodes.mode ps r p f ns q)))
        (h vs v)
    instr_stays (CallTemplate i passed) p f n k d vs v next h =
        joined (passing passed p w k f vs (λ ps. called_with w k (by_number i) ps p f)) (next vs)
        (passing_stays passed p f n k d vs v (λ ps. called_with w k (by_number i) ps p f) (λ ps q. number_stays k d i ps q p f n)) (h vs v)
    instr_stays ApplyImports p f n k d vs v next h = joined (imports k p f f.rule) (next vs) (imports_stay k d p f n f.rule) (h vs v)
    instr_stays (ForEach select sorts body) p f n k d vs v next h =
        let g : List ℕ → Focus = λ ns. in_list (length ns) (without_rule f) in
        let x : List ℕ → Trace Task = λ ns. spread w (body_job body vs) p (λ j. body_trace body w k j vs) (g ns) ns in
        let run : Run (List ℕ) = looped_nodes w select sorts f vs in
        joined (evaluated p run x) (next vs)
        (valued (AreNodesIn w.tree) p run x (looped_in w over select sorts f vs n v) (λ ns q.
        spread_stays (body_job body vs) v p (λ j. body_trace body w k j vs) (g ns) ns q (λ j m. body_stays body j m k d vs v))) (h vs v)
    instr_stays (ValueOf select) p f n k d vs v next h =
        joined (evaluated p (text_run w select f vs) (chars p)) (next vs) (any_valued p (text_run w select f vs) (chars p) (chars_stay p)) (h vs v)
    instr_stays (CopyOf select) p f n k d vs v next h =
        let put : Value → Trace Task = λ x. puts_all p (value_events w.tree x) in
        joined (evaluated p (value_run w select f vs) put) (next vs)
        (any_valued p (value_run w select f vs) put (λ x. puts_stay p (value_events w.tree x))) (h vs v)
    instr_stays (Copy sets body) p f n k d vs v next h =
        joined (copied_node (at w.tree f.node).kind sets w k p f (body_trace body w k f vs)) (next vs)
        (copied_stays sets k d p f n (body_trace body w k f vs) (body_stays body f n k d vs v)) (h vs v)
    instr_stays (Number decl) p f n k d vs v next h =
        joined (evaluated p (number_run w decl f vs) (chars p)) (next vs) (any_valued p (number_run w decl f vs) (chars p) (chars_stay p)) (h vs v)
    instr_stays (Choose choice) p f n k d vs v next h = joined (choice_trace choice p w k f vs) (next vs) (choice_stays choice p f n k d vs v) (h vs v)
    instr_stays (If test body) p f n k d vs v next h =
        let x : Bool → Trace Task = λ b. cond b (body_trace body w k f vs) [] in
        joined (evaluated p (test_run w test f vs) x) (next vs)
        (any_valued p (test_run w test f vs) x (λ b. one-of b (body_trace body w k f vs) [] (body_stays body f n k d vs v) tt)) (h vs v)
    instr_stays (Text text) p f n k d vs v next h = joined (chars p text) (next vs) (chars_stay p text) (h vs v)
    instr_stays (Element name sets body) p f n k d vs v next h =
        let inside : Trace Task = k (using sets) p f ⨾ (body_trace body w k f vs ⨾ Put End ∷ []) in
        let x : Label → Trace Task = λ label. Put (Start label) ∷ inside in
        joined (evaluated p (name_run w false name f vs) x) (next vs)
        (any_valued p (name_run w false name f vs) x (λ label. closed sets k p f (body_trace body w k f vs) d n (body_stays body f n k d vs v))) (h vs v)
    instr_stays (Attribute name body) p f n k d vs v next h =
        let content : Trace Task = body_trace body w k (captured_in f) vs in
        let x : Label → Trace Task = λ label. makes (made.Attribute label) p content in
        joined (evaluated p (name_run w true name f vs) x) (next vs)
        (any_valued p (name_run w true name f vs) x (λ label.
        made_stays (made.Attribute label) p content (body_stays body (captured_in f) n k d vs v))) (h vs v)
    instr_stays (Comment body) p f n k d vs v next h =
        joined (makes made.Comment p (body_trace body w k (captured_in f) vs)) (next vs)
        (made_stays made.Comment p (body_trace body w k (captured_in f) vs) (body_stays body (captured_in f) n k d vs v)) (h vs v)
    instr_stays (Pi name body) p f n k d vs v next h =
        let content : Trace Task = body_trace body w k (captured_in f) vs in
        let x : List ℕ → Trace Task = λ target. makes (made.Instruction target) p content in
        joined (evaluated p (target_run w name f vs) x) (next vs)
        (any_valued p (target_run w name f vs) x (λ target.
        made_stays (made.Instruction target) p content (body_stays body (captured_in f) n k d vs v))) (h vs v)
    instr_stays (Message terminate body) p f n k d vs v next h =
        let content : Trace Task = body_trace body w k (captured_in f) vs in
        let x : List Event → Trace Task = λ es. says p (fragment_text es) ⨾ ended_if terminate p in
        joined (captured content x) (next vs)
        (captures content x (body_stays body (captured_in f) n k d vs v) (λ es. message_stays p terminate (fragment_text es))) (h vs v)
    instr_stays (Variable' site name content) p f n k d vs v next h =
        content_stays content p f n k d vs v (λ u. next (vs ++ u ∷ [])) (λ u q. h (vs ++ u ∷ []) (more_values vs u v q))
    instr_stays (Literal start body) p f n k d vs v next h =
        let x : Trace Task = body_trace body w k f vs in
        let attributes : Trace Task = literal_attributes start.attributes p w f vs in
        let inside : Trace Task = attributes ⨾ (x ⨾ Put End ∷ []) in
        joined (begins w start p ⨾ (k (using start.sets) p f ⨾ inside)) (next vs)
        (joined (begins w start p) (k (using start.sets) p f ⨾ inside)
        (puts_stay p (Start (element_label w.sheet.aliases start.name) ∷ literal_spaces w.sheet.aliases start.spaces))
        (joined (k (using start.sets) p f) inside (d (using start.sets) tt p f n)
        (joined attributes (x ⨾ Put End ∷ []) (attributes_stay start.attributes p f vs)
        (joined x (Put End ∷ []) (body_stays body f n k d vs v) tt)))) (h vs v)
    instr_stays (Extension fallbacks) p f n k d vs v next h =
        joined (fallbacks_trace fallbacks p w k f vs) (next vs) (fallbacks_stay fallbacks p f n k d vs v) (h vs v)

    body_stays : (body : Body) (f : Focus) → f.node < length w.tree → (k : Calls) → CallsStay k → (vs : List Value) → AreInside vs
        → Stays (body_trace body w k f vs)
    body_stays (Body' m row) f n k d vs v = row_stays row f n k d vs v

    row_stays : {m : _} (row : Row_of-Instr m) (f : Focus) → f.node < length w.tree → (k : Calls) → CallsStay k → (vs : List Value) → AreInside vs
        → Stays (row_trace row w k f vs)
    row_stays end_of-Instr f n k d vs v = tt
    row_stays (more_of-Instr p i others) f n k d vs v =
        instr_stays i p f n k d vs v (row_trace others w k f) (λ us q. row_stays others f n k d us q)

    content_stays : (content : Content) (p : Site) (f : Focus) → f.node < length w.tree → (k : Calls) → CallsStay k → (vs : List Value) → AreInside vs
        → (next : Value → Trace Task) → ((u : Value) → IsIn w.tree u → Stays (next u)) → Stays (content_trace content p w k f vs next)
    content_stays Empty p f n k d vs v next h = h (String []) tt
    content_stays (Select e) p f n k d vs v next h = valued (IsIn w.tree) p (value_run w e f vs) next (value_in w over e f vs n v) h
    content_stays (Fragment body) p f n k d vs v next h =
        captures (body_trace body w k (captured_in f) vs) (λ es. next (Piece (fragment_of es))) (body_stays body (captured_in f) n k d vs v)
        (λ es. h (Piece (fragment_of es)) tt)

    passing_stays : (passed : Passed) (p : Site) (f : Focus) → f.node < length w.tree → (k : Calls) → CallsStay k → (vs : List Value) → AreInside vs
        → (next : Params → Trace Task) → ((ps : Params) → AreInside ps.values → Stays (next ps)) → Stays (passing passed p w k f vs next)
    passing_stays (Passed' m row) p f n k d vs v next h =
        let params : List Value → Params = λ us. record { bindings = (out-Passed (Passed' m row)).params; values = us } in
        values_stay row p f n k d vs v [] no_values (λ us. next (params us)) (λ us q. h (params us) q)

    values_stay : {m : _} (row : Row_of-Binding m) (p : Site) (f : Focus) → f.node < length w.tree → (k : Calls) → CallsStay k
        → (vs : List Value) → AreInside vs → (us : List Value) → AreInside us
        → (next : List Value → Trace Task) → ((ws : List Value) → AreInside ws → Stays (next ws)) → Stays (values_trace row p w k f vs us next)
    values_stay end_of-Binding p f n k d vs v us u next h = h us u
    values_stay (more_of-Binding site name content others) p f n k d vs v us u next h =
        content_stays content p f n k d vs v (λ x. values_trace others p w k f vs (us ++ x ∷ []) next)
        (λ x q. values_stay others p f n k d vs v (us ++ x ∷ []) (more_values us x u q) next h)

    choice_stays : (choice : Choice) (p : Site) (f : Focus) → f.node < length w.tree → (k : Calls) → CallsStay k → (vs : List Value) → AreInside vs
        → Stays (choice_trace choice p w k f vs)
    choice_stays (Choice' m row otherwise) p f n k d vs v =
        whens_stay row p f n k d vs v (body_trace otherwise w k f vs) (body_stays otherwise f n k d vs v)

    whens_stay : {m : _} (row : Row_of-When m) (p : Site) (f : Focus) → f.node < length w.tree → (k : Calls) → CallsStay k
        → (vs : List Value) → AreInside vs → (o : Trace Task) → Stays o → Stays (whens_trace row p w k f vs o)
    whens_stay end_of-When p f n k d vs v o h = h
    whens_stay (more_of-When (When' test body) others) p f n k d vs v o h =
        let x : Bool → Trace Task = λ b. cond b (body_trace body w k f vs) (whens_trace others p w k f vs o) in
        any_valued p (test_run w test f vs) x (λ b.
        one-of b (body_trace body w k f vs) (whens_trace others p w k f vs o) (body_stays body f n k d vs v) (whens_stay others p f n k d vs v o h))

    fallbacks_stay : (fallbacks : Fallbacks) (p : Site) (f : Focus) → f.node < length w.tree → (k : Calls) → CallsStay k → (vs : List Value) → AreInside vs
        → Stays (fallbacks_trace fallbacks p w k f vs)
    fallbacks_stay (Fallbacks' m row) p f n k d vs v = unless_stays row p (bodies_trace row w k f vs) (bodies_stay row f n k d vs v)

    bodies_stay : {m : _} (row : Row_of-Body m) (f : Focus) → f.node < length w.tree → (k : Calls) → CallsStay k → (vs : List Value) → AreInside vs
        → Stays (bodies_trace row w k f vs)
    bodies_stay end_of-Body f n k d vs v = tt
    bodies_stay (more_of-Body body others) f n k d vs v =
        joined (body_trace body w k f vs) (bodies_trace others w k f vs) (body_stays body f n k d vs v) (bodies_stay others f n k d vs v)

  -- ---- templates
  abbrev IsInIf : Option Value → Type 0
  IsInIf None = Unit {0}
  IsInIf (Some v) = IsIn w.tree v

  last_in : (name : Label) (found : Option Value) (bs : List Binding) (vs : List Value) → IsInIf found → AreInside vs
      → IsInIf (last_passed name found bs vs)
  last_in name found [] vs h v = h
  last_in name found (b ∷ bs) [] h v = h
  last_in name found (b ∷ bs) (u ∷ us) h v =
      last_in name (cond (is_same_label name b.name) (Some u) found) bs us (by_name (is_same_label name b.name)) (All-tail (IsIn w.tree) u us v)
    where
      by_name : (t : Bool) → IsInIf (cond t (Some u) found)
      by_name true = All-head (IsIn w.tree) u us v
      by_name false = h

  param_stays : (o : Option Value) → IsInIf o → (content : Content) (p : Site) (f : Focus) → f.node < length w.tree → (k : Calls) → CallsStay k
      → (vs : List Value) → AreInside vs → (next : Value → Trace Task) → ((u : Value) → IsIn w.tree u → Stays (next u))
      → Stays (param_trace o content p w k f vs next)
  param_stays None i content p f n k d vs v next h = content_stays content p f n k d vs v next h
  param_stays (Some u) i content p f n k d vs v next h = h u i

  params_stay : (bs : List Binding) (ps : Params) → AreInside ps.values → (f : Focus) → f.node < length w.tree → (k : Calls) → CallsStay k
      → (vs : List Value) → AreInside vs → (next : List Value → Trace Task) → ((us : List Value) → AreInside us → Stays (next us))
      → Stays (params_trace bs ps w k f vs next)
  params_stay [] ps q f n k d vs v next h = h vs v
  params_stay (b ∷ bs) ps q f n k d vs v next h =
      let x : Value → Trace Task = λ u. params_trace bs ps w k f (vs ++ u ∷ []) next in
      param_stays (value_passed b.name ps) (last_in b.name None ps.bindings ps.values tt q) b.content b.site f n k d vs v x
      (λ u i. params_stay bs ps q f n k d (vs ++ u ∷ []) (more_values vs u v i) next h)

  template_stays : (o : Option Template) (ps : Params) → AreInside ps.values → (f : Focus) → f.node < length w.tree → (k : Calls) → CallsStay k
      → Stays (template_trace o ps w k f)
  template_stays None ps q f n k d = tt
  template_stays (Some t) ps q f n k d = params_stay t.params ps q f n k d [] no_values (body_trace t.body w k f) (λ vs v. body_stays t.body f n k d vs v)

  built_in_stays : (mode : ℕ) (p : Site) (f : Focus) (k : Calls) → CallsStay k → (r : Record) → Stays (built_in w k mode p f r)
  built_in_stays mode p f k d r =
      one-of (has_content r.kind) (applied w k mode no_params p f (children w.tree f.node))
      (cond (is_text_kind r.kind || is_attribute_kind r.kind) (chars p r.text) [])
      (applied_stays k d mode no_params no_values p f (children w.tree f.node) (children_in w.tree f.node))
      (one-of (is_text_kind r.kind || is_attribute_kind r.kind) (chars p r.text) [] (chars_stay p r.text) tt)

  rule_stays : (o : Option ℕ) (mode : ℕ) (ps : Params) → AreInside ps.values → (p : Site) (f : Focus) → f.node < length w.tree → (k : Calls) → CallsStay k
      → Stays (ruled o mode ps w k p f)
  rule_stays None mode ps q p f n k d = built_in_stays mode p f k d (at w.tree f.node)
  rule_stays (Some rule) mode ps q p f n k d = template_stays (slice_get w.sheet.templates rule) ps q (by_rule rule mode f) n k d

  -- ---- attribute sets
  instrs_stay : (is : List Instr) (f : Focus) → f.node < length w.tree → (k : Calls) → CallsStay k → (vs : List Value) → AreInside vs
      → Stays (instrs_trace is w k f vs)
  instrs_stay [] f n k d vs v = tt
  instrs_stay (i ∷ is) f n k d vs v = instr_stays i.kind i.site f n k d vs v (instrs_trace is w k f) (λ us q. instrs_stay is f n k d us q)

  declared_stays : (ss : List AttrSet) (f : Focus) → f.node < length w.tree → (k : Calls) → CallsStay k → Stays (declared_trace ss w k f)
  declared_stays [] f n k d = tt
  declared_stays (s ∷ ss) f n k d =
      joined (k (using s.sets) s.site f ⨾ instrs_trace s.attributes w k f []) (declared_trace ss w k f)
      (joined (k (using s.sets) s.site f) (instrs_trace s.attributes w k f []) (d (using s.sets) tt s.site f n)
      (instrs_stay s.attributes f n k d [] no_values)) (declared_stays ss f n k d)

  sets_stay : (names : List Label) (f : Focus) → f.node < length w.tree → (k : Calls) → CallsStay k → Stays (sets_trace names w k f)
  sets_stay [] f n k d = tt
  sets_stay (name ∷ names) f n k d =
      joined (declared_trace (declarations_of w.sheet.sets name) w k f) (sets_trace names w k f)
      (declared_stays (declarations_of w.sheet.sets name) f n k d) (sets_stay names f n k d)

  -- ---- what is entered, level by level
  entry_stays : (e : Entry) → IsEntryIn e → (p : Site) (f : Focus) → f.node < length w.tree → (k : Calls) → CallsStay k → Stays (entered e w k p f)
  entry_stays (named i ps) q p f n k d = template_stays (slice_get w.sheet.templates i) ps q f n k d
  entry_stays (fitting mode ps) q p f n k d = rule_stays (rule_for w mode f.node) mode ps q p f n k d
  entry_stays (overridden current) q p f n k d = rule_stays (import_for w current f) f.mode no_params no_values p f n k d
  entry_stays (using names) q p f n k d = sets_stay names f n k d

  called_stays : (e : Entry) → IsEntryIn e → (d l : ℕ) (p : Site) (f : Focus) → f.node < length w.tree → Stays (called e w d l p f)
  called_stays (using names) q d zero p f n = tt
  called_stays (using names) q d (suc l) p f n =
      entry_stays (using names) tt p (with_levels d l f) n (λ e. called e w d l) (λ e r s g m. called_stays e r d l s g m)
  called_stays (named i ps) q zero l p f n = tt
  called_stays (named i ps) q (suc d) l p f n =
      entry_stays (named i ps) q p (with_levels d (all_set_levels w) f) n (λ e. called e w d (all_set_levels w))
      (λ e r s g m. called_stays e r d (all_set_levels w) s g m)
  called_stays (fitting mode ps) q zero l p f n = tt
  called_stays (fitting mode ps) q (suc d) l p f n =
      entry_stays (fitting mode ps) q p (with_levels d (all_set_levels w) f) n (λ e. called e w d (all_set_levels w))
      (λ e r s g m. called_stays e r d (all_set_levels w) s g m)
  called_stays (overridden current) q zero l p f n = tt
  called_stays (overridden current) q (suc d) l p f n =
      entry_stays (overridden current) q p (with_levels d (all_set_levels w) f) n (λ e. called e w d (all_set_levels w))
      (λ e r s g m. called_stays e r d (all_set_levels w) s g m)

  calls_stay : (f : Focus) → CallsStay (calls_at w f)
  calls_stay f = λ e q p g n. called_stays e q f.depth f.set_levels p g n

  -- ---- tasks
  job_stays : (job : Job) → IsJobIn w.tree job → (p : Site) (f g : Focus) → g.node < length w.tree → Stays (job_trace job w (calls_at w f) p g)
  job_stays (body_job body vs) j p f g n = body_stays body g n (calls_at w f) (calls_stay f) vs j
  job_stays (rules_job mode ps) j p f g n = calls_stay f (fitting mode ps) j p g n

  pub task_stays : (t : Task) → IsTaskIn w.tree t → Stays (task_trace w t)
  task_stays t h =
      each_stays t.site (job_trace t.job w (calls_at w t.focus) t.site) t.focus t.first t.nodes h.nodes (λ g n. job_stays t.job h.job t.site t.focus g n)
