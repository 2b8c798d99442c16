-- What instructions, templates and attribute sets put can be written, where the parts of which it is made can be.
use Rattle.std.proofs.Common.{◌≡◌, ℕ, zero, suc, ◌+◌, ◌||◌, length, List, [], ◌∷◌, ◌++◌, slice_get, Option, Some, None, Bool, true, false, cond, filter, refl, sym}
use Rattle.std.proofs.Common.{◌∙◌, ap, subst}
use Rattle.std.specs.List.{AllByRecursion}
use Rattle.std.proofs.lemmas.List.{append-nil}
use Rattle.xs_sheet.specs.Sets.{is_same_label}
use Rattle.xs_sheet.specs.declared.body.Binding.{Binding}
use Rattle.xs_sheet.specs.declared.body.Body.{Body, Body', Row_of-Instr, end_of-Instr, more_of-Instr}
use Rattle.xs_sheet.specs.declared.body.Choice.{Choice, Choice', Row_of-When, end_of-When, more_of-When}
use Rattle.xs_sheet.specs.declared.body.Content.{Content}
use Rattle.xs_sheet.specs.declared.body.Content.TheVariants.{Empty, Select, Body as Fragment}
use Rattle.xs_sheet.specs.declared.body.Fallbacks.{Fallbacks, Fallbacks', Row_of-Body, end_of-Body, more_of-Body}
use Rattle.xs_sheet.specs.declared.body.Instr.{Instr}
use Rattle.xs_sheet.specs.declared.body.InstrKind.{InstrKind, Variable'}
use Rattle.xs_sheet.specs.declared.body.InstrKind.TheVariants.{ApplyTemplates, CallTemplate, ApplyImports, ForEach, ValueOf, CopyOf, Copy, Number, Choose, If}
use Rattle.xs_sheet.specs.declared.body.InstrKind.TheVariants.{Text, Element, Attribute, Comment, Pi, Message, Literal, Extension}
use Rattle.xs_sheet.specs.declared.body.Passed.{Passed, Passed', out-Passed, Row_of-Binding, end_of-Binding, more_of-Binding}
use Rattle.xs_sheet.specs.declared.body.When.{When'}
use Rattle.xs_sheet.specs.declared.declarations.AttrSet.{AttrSet}
use Rattle.xs_sheet.specs.declared.declarations.Template.{Template}
use Rattle.xs_sheet.specs.declared.scoped.ValueTemplate.{ValueTemplate}
use Rattle.xs_trace.specs.Label.{Label}
use Rattle.xs_trace.specs.Mark.{Put, Trace, ◌⨾◌, GoesOn, captured, events_of}
use Rattle.xs_trace.specs.Run.{Run, evaluated}
use Rattle.xs_trace.specs.declared.event.Event.{Event}
use Rattle.xs_trace.specs.declared.event.Event.TheVariants as event
use Rattle.xs_trace.specs.declared.fault.Fault.TheVariants as fault
use Rattle.xs_trace.specs.declared.item.Site.{Site}
use Rattle.xs_tree.specs.Kinds.{has_content, is_attribute_kind, is_text_kind}
use Rattle.xs_tree.specs.Record.{Record, at, children}
use Rattle.xs_tree.specs.declared.kinds.Kind.{Kind}
use Rattle.xs_tree.specs.declared.kinds.Kind.TheVariants as kind
use Rattle.xs_value.specs.declared.value.Value.{Value}
use Rattle.xs_value.specs.declared.value.Value.TheVariants.{Chars as String, Piece}
use Rattle.xs_value.specs.Conversion.{fragment_text}
use Rattle.xs_making.specs.Copies.{shallow_copy}
use Rattle.xs_making.specs.Laws.{IsWellNamed, IsWellPut}
use Rattle.xs_making.specs.Names.{is_target}
use Rattle.xs_result_laws.specs.Events.{is_balanced}
use Rattle.xs_attribute_sets.specs.Declarations.{by_precedence, declarations_of, has_name, has_precedence, highest, ranked}
use Rattle.xs_body_spec.specs.declared.focus.Focus.{Focus}
use Rattle.xs_body_spec.specs.declared.made.Made.{Made}
use Rattle.xs_body_spec.specs.declared.made.Made.TheVariants as made
use Rattle.xs_body_spec.specs.Making.{attribute_events, attribute_label, content_text, made_events, name_run, target_run, value_events}
use Rattle.xs_body_spec.specs.Rules.{import_for, rule_for}
use Rattle.xs_body_spec.specs.Tasks.{Job, Params, Task, below, body_job, grain_over, last_passed, no_params, rules_job, value_passed}
use Rattle.xs_body_spec.specs.Trace.{Called, Calls, Entry, applied, begins, bodies_trace, body_trace, built_in, by_number, by_rules, called, called_with, calls_at, chars}
use Rattle.xs_body_spec.specs.Trace.{choice_trace, content_trace, copied_node, declared_trace, each, ended_if, entered, fallbacks_trace, fitting, fragment_of, imports}
use Rattle.xs_body_spec.specs.Trace.{instr_trace, instrs_trace, job_trace, literal_attributes, makes, named, overridden, param_trace, params_trace, passing, puts_all}
use Rattle.xs_body_spec.specs.Trace.{row_trace, ruled, says, sets_trace, spread, spread_by, task_trace, template_trace, unless_none, using, values_trace, whens_trace}
use Rattle.xs_body_spec.specs.Numbers.{number_run}
use Rattle.xs_body_spec.specs.World.{World, all_set_levels, applied_nodes, at_node, by_rule, captured_in, in_list, looped_nodes, template_run, test_run, text_run}
use Rattle.xs_body_spec.specs.World.{value_run, with_levels, without_rule}
use Rattle.xs_result_laws.specs.Named.{AreNamedBindings, AreNamedBodies, AreNamedInstrs, AreNamedValues, AreNamedWhens, IsNamedBinding, IsNamedBody, IsNamedChoice}
use Rattle.xs_result_laws.specs.Named.{IsNamedContent, IsNamedEntry, IsNamedFallbacks, IsNamedJob, IsNamedKind, IsNamedLabel, IsNamedPassed, IsNamedRow}
use Rattle.xs_result_laws.specs.Named.{IsNamedSet, IsNamedTemplate, IsNamedValue, IsNamedWorld}
use Rattle.xs_result_laws.proofs.ItemLemmas.{OptionHas, all_filtered, all_joined, item_has}
use Rattle.xs_result_laws.proofs.PartLemmas.{Parts, Well}
use Rattle.xs_result_laws.proofs.PutLemmas.{PutsBetween, begun, captures, deeper, ended, has_any, joined, nothing, said, stopped, ticked, valued}
use Rattle.xs_result_laws.proofs.CopyLemmas.{Shifts, all_put, balanced_none, flat_shifts, is_begun, shallow_shifts}

module _ (w : World) (world : IsNamedWorld w) (parts : Parts w) where
  -- what is entered
  abbrev pub CallsPut : Calls → Type 0
  CallsPut k = (e : Entry) → IsNamedEntry e → (p : Site) (f : Focus) → Well (k e p f)

  events_put : (p : Site) (e : Event) → IsWellPut e → Shifts false false (e ∷ []) → Well (puts_all p (e ∷ []))
  events_put p e h s = all_put p (e ∷ []) (h, tt) s

  one-of : {a b : Bool} (t : Bool) (x y : Trace Task) → PutsBetween a b x → PutsBetween a b y → PutsBetween a b (cond t x y)
  one-of true x y h k = h
  one-of false x y h k = k

  -- what follows a start, up to its end
  closed : (sets : List Label) (k : Calls) (p : Site) (f : Focus) (x : Trace Task) → CallsPut k → Well x
      → PutsBetween true false (k (using sets) p f ⨾ (x ⨾ Put event.End ∷ []))
  closed sets k p f x d h =
      joined (k (using sets) p f) (x ⨾ Put event.End ∷ []) (deeper true (k (using sets) p f) (d (using sets) tt p f))
      (joined x (Put event.End ∷ []) (deeper true x h) ended)

  -- ---- what is made of content
  made_put : (m : Made) (p : Site) (x : Trace Task) → ((text : List ℕ) → Well (puts_all p (made_events m text))) → Well (makes m p x)
  made_put m p x h = captures x (λ es. puts_all p (made_events m (content_text es))) (λ g. h (content_text (events_of x)))

  message_put : (p : Site) (terminate : Bool) (text : List ℕ) → Well (says p text ⨾ ended_if terminate p)
  message_put p terminate text = joined (says p text) (ended_if terminate p) (said p text) (by_end terminate)
    where
      by_end : (t : Bool) → Well (ended_if t p)
      by_end true = stopped fault.Terminated p
      by_end false = nothing false

  attributes_put : (xs : List (Label × ValueTemplate)) (p : Site) (f : Focus) (vs : List Value)
      → AllByRecursion (λ (a : Label × ValueTemplate). IsNamedLabel a.0) xs → Well (literal_attributes xs p w f vs)
  attributes_put [] p f vs h = nothing false
  attributes_put (a ∷ xs) p f vs h =
      let put : List ℕ → Trace Task = λ text. puts_all p (attribute_events (attribute_label w.sheet.aliases a.0) text) in
      joined (evaluated p (template_run w a.1 f vs) put) (literal_attributes xs p w f vs)
      (valued (λ text. Unit {0}) p (template_run w a.1 f vs) put (has_any (template_run w a.1 f vs).end) (λ text u. parts.attributes a.0 text p h.0))
      (attributes_put xs p f vs h.1)

  -- ---- runs over nodes, and what calls do
  each_put : (p : Site) (x : Focus → Trace Task) (f : Focus) (i : ℕ) (ns : List ℕ) → ((g : Focus) → Well (x g)) → Well (each p x f i ns)
  each_put p x f i [] h = nothing false
  each_put p x f i (n ∷ ns) h =
      ticked p (x (at_node n i f) ⨾ each p x f (i + 1) ns)
      (joined (x (at_node n i f)) (each p x f (i + 1) ns) (h (at_node n i f)) (each_put p x f (i + 1) ns h))

  -- nothing is left to tasks where there is no grain
  no_grain : (f : Focus) (size : ℕ) → grain_over w f size ≡ None
  no_grain f size = by_captured f.is_captured
    where
      by_captured : (b : Bool) → cond b None (below size w.grain) ≡ None
      by_captured true = refl
      by_captured false = ap (below size) world.whole

  spread_put : (job : Job) (p : Site) (x : Focus → Trace Task) (f : Focus) (ns : List ℕ) → ((g : Focus) → Well (x g)) → Well (spread w job p x f ns)
  spread_put job p x f ns h = subst (λ g. Well (spread_by g job p x f ns)) (sym (no_grain f (length ns))) (each_put p x f 1 ns h)

  applied_put : (k : Calls) → CallsPut k → (mode : ℕ) (ps : Params) → AreNamedValues ps.values → (p : Site) (f : Focus) (ns : List ℕ)
      → Well (applied w k mode ps p f ns)
  applied_put k d mode ps h p f ns = spread_put (rules_job mode ps) p (k (fitting mode ps) p) (in_list (length ns) f) ns (λ g. d (fitting mode ps) h p g)

  call_put : (k : Calls) → CallsPut k → (callee : Called) (ps : Params) → AreNamedValues ps.values → (p : Site) (f : Focus)
      → Well (called_with w k callee ps p f)
  call_put k d (by_number i) ps h p f = ticked p (k (named i ps) p f) (d (named i ps) h p f)
  call_put k d (by_rules mode ns) ps h p f = applied_put k d mode ps h p f ns

  imports_put : (k : Calls) → CallsPut k → (p : Site) (f : Focus) (o : Option ℕ) → Well (imports k p f o)
  imports_put k d p f None = stopped fault.NoRule p
  imports_put k d p f (Some rule) = ticked p (k (overridden rule) p f) (d (overridden rule) tt p f)

  unless_put : {m : _} (row : Row_of-Body m) (p : Site) (x : Trace Task) → Well x → Well (unless_none row p x)
  unless_put end_of-Body p x h = stopped fault.NoExtension p
  unless_put (more_of-Body body others) p x h = h

  -- ---- values
  named_more : (vs : List Value) (v : Value) → AreNamedValues vs → IsNamedValue v → AreNamedValues (vs ++ v ∷ [])
  named_more [] v h k = (k, tt)
  named_more (u ∷ us) v h k = (h.0, named_more us v h.1 k)

  -- what content put, where it went on, is a result
  pub whole_named : (x : Trace Task) → Well x → GoesOn x → IsNamedValue (Piece (fragment_of (events_of x)))
  whole_named x h g = parts.kept (events_of x) h.named (ap (is_balanced 0) (sym (append-nil (events_of x))) ∙ h.balanced g 0 [] ∙ none_open)
    where
      none_open : is_balanced 0 [] ≡ true
      none_open = balanced_none

  -- ---- copies
  copied_put : (sets : List Label) (k : Calls) → CallsPut k → (p : Site) (f : Focus) (x : Trace Task) → Well x
      → Well (copied_node (at w.tree f.node).kind sets w k p f x)
  copied_put sets k d p f x h = by_kind (at w.tree f.node).kind refl
    where
      before : (K : Kind) → (at w.tree f.node).kind ≡ K → PutsBetween false (is_begun K) (puts_all p (shallow_copy w.tree f.node))
      before K is = all_put p (shallow_copy w.tree f.node) (parts.shallow f.node)
          (subst (λ j. Shifts false (is_begun j) (shallow_copy w.tree f.node)) is (shallow_shifts (at w.tree f.node).kind w.tree f.node))

      by_kind : (K : Kind) → (at w.tree f.node).kind ≡ K → Well (copied_node K sets w k p f x)
      by_kind kind.Element is =
          joined (puts_all p (shallow_copy w.tree f.node)) (k (using sets) p f ⨾ (x ⨾ Put event.End ∷ [])) (before kind.Element is) (closed sets k p f x d h)
      by_kind kind.Root is = joined (puts_all p (shallow_copy w.tree f.node)) x (before kind.Root is) h
      by_kind kind.Attribute is = joined (puts_all p (shallow_copy w.tree f.node)) [] (before kind.Attribute is) (nothing false)
      by_kind kind.Space is = joined (puts_all p (shallow_copy w.tree f.node)) [] (before kind.Space is) (nothing false)
      by_kind kind.Text is = joined (puts_all p (shallow_copy w.tree f.node)) [] (before kind.Text is) (nothing false)
      by_kind kind.Comment is = joined (puts_all p (shallow_copy w.tree f.node)) [] (before kind.Comment is) (nothing false)
      by_kind kind.Pi is = joined (puts_all p (shallow_copy w.tree f.node)) [] (before kind.Pi is) (nothing false)

  comment_well : (p : Site) (text : List ℕ) → Well (puts_all p (made_events made.Comment text))
  comment_well p text = all_put p (made_events made.Comment text) (tt, tt) (flat_shifts false (made_events made.Comment text) (refl, tt))

  target_well : (p : Site) (target text : List ℕ) → is_target target ≡ true → Well (puts_all p (made_events (made.Instruction target) text))
  target_well p target text h =
      all_put p (made_events (made.Instruction target) text) (h, tt) (flat_shifts false (made_events (made.Instruction target) text) (refl, tt))

  -- ---- instructions
  mutual
    instr_put : (i : InstrKind) → IsNamedKind i → (p : Site) (f : Focus) (k : Calls) → CallsPut k → (vs : List Value) → AreNamedValues vs
        → (next : List Value → Trace Task) → ((us : List Value) → AreNamedValues us → Well (next us)) → Well (instr_trace i p w k f vs next)
    instr_put (ApplyTemplates nodes passed) n p f k d vs v next h =
        let x : List ℕ → Trace Task = λ ns. passing passed p w k f vs (λ ps. called_with w k (by_rules nodes.mode ns) ps p f) in
        let run : Run (List ℕ) = applied_nodes w nodes.select nodes.sorts f vs in
        joined (evaluated p run x) (next vs)
        (valued (λ ns. Unit {0}) p run x (has_any run.end) (λ ns u.
        passing_put passed n p f k d vs v (λ ps. called_with w k (by_rules nodes.mode ns) ps p f) (λ ps q. call_put k d (by_rules nodes.mode ns) ps q p f)))
        (h vs v)
    instr_put (CallTemplate i passed) n p f k d vs v next h =
        joined (passing passed p w k f vs (λ ps. called_with w k (by_number i) ps p f)) (next vs)
        (passing_put passed n p f k d vs v (λ ps. called_with w k (by_number i) ps p f) (λ ps q. call_put k d (by_number i) ps q p f)) (h vs v)
    instr_put ApplyImports n p f k d vs v next h = joined (imports k p f f.rule) (next vs) (imports_put k d p f f.rule) (h vs v)
    instr_put (ForEach select sorts body) n p f k d vs v next h =
        let g : List ℕ → Focus = λ ns. in_list (length ns) (without_rule f) in
        let x : List ℕ → Trace Task = λ ns. spread w (body_job body vs) p (λ j. body_trace body w k j vs) (g ns) ns in
        let run : Run (List ℕ) = looped_nodes w select sorts f vs in
        joined (evaluated p run x) (next vs)
        (valued (λ ns. Unit {0}) p run x (has_any run.end) (λ ns u.
        spread_put (body_job body vs) p (λ j. body_trace body w k j vs) (g ns) ns (λ j. body_put body n j k d vs v))) (h vs v)
    instr_put (ValueOf select) n p f k d vs v next h =
        joined (evaluated p (text_run w select f vs) (chars p)) (next vs)
        (valued (λ t. Unit {0}) p (text_run w select f vs) (chars p) (has_any (text_run w select f vs).end) (λ t u. parts.chars p t)) (h vs v)
    instr_put (CopyOf select) n p f k d vs v next h =
        let put : Value → Trace Task = λ x. puts_all p (value_events w.tree x) in
        joined (evaluated p (value_run w select f vs) put) (next vs)
        (valued IsNamedValue p (value_run w select f vs) put (parts.values select f vs v) (λ x q.
        let c = parts.copied x q in all_put p (value_events w.tree x) c.0 c.1)) (h vs v)
    instr_put (Copy sets body) n p f k d vs v next h =
        joined (copied_node (at w.tree f.node).kind sets w k p f (body_trace body w k f vs)) (next vs)
        (copied_put sets k d p f (body_trace body w k f vs) (body_put body n f k d vs v)) (h vs v)
    instr_put (Number decl) n p f k d vs v next h =
        joined (evaluated p (number_run w decl f vs) (chars p)) (next vs)
        (valued (λ t. Unit {0}) p (number_run w decl f vs) (chars p) (has_any (number_run w decl f vs).end) (λ t u. parts.chars p t)) (h vs v)
    instr_put (Choose choice) n p f k d vs v next h = joined (choice_trace choice p w k f vs) (next vs) (choice_put choice n p f k d vs v) (h vs v)
    instr_put (If test body) n p f k d vs v next h =
        let x : Bool → Trace Task = λ b. cond b (body_trace body w k f vs) [] in
        joined (evaluated p (test_run w test f vs) x) (next vs)
        (valued (λ b. Unit {0}) p (test_run w test f vs) x (has_any (test_run w test f vs).end) (λ b u.
        one-of b (body_trace body w k f vs) [] (body_put body n f k d vs v) (nothing false))) (h vs v)
    instr_put (Text text) n p f k d vs v next h = joined (chars p text) (next vs) (parts.chars p text) (h vs v)
    instr_put (Element name sets body) n p f k d vs v next h =
        let inside : Trace Task = k (using sets) p f ⨾ (body_trace body w k f vs ⨾ Put event.End ∷ []) in
        let x : Label → Trace Task = λ label. Put (event.Start label) ∷ inside in
        joined (evaluated p (name_run w false name f vs) x) (next vs)
        (valued IsWellNamed p (name_run w false name f vs) x (parts.names false name f vs n.0) (λ label q.
        joined (Put (event.Start label) ∷ []) inside (begun label q) (closed sets k p f (body_trace body w k f vs) d (body_put body n.1 f k d vs v)))) (h vs v)
    instr_put (Attribute name body) n p f k d vs v next h =
        let content : Trace Task = body_trace body w k (captured_in f) vs in
        let x : Label → Trace Task = λ label. makes (made.Attribute label) p content in
        joined (evaluated p (name_run w true name f vs) x) (next vs)
        (valued IsWellNamed p (name_run w true name f vs) x (parts.names true name f vs n.0) (λ label q.
        made_put (made.Attribute label) p content (λ text. parts.made label text p q))) (h vs v)
    instr_put (Comment body) n p f k d vs v next h =
        joined (makes made.Comment p (body_trace body w k (captured_in f) vs)) (next vs)
        (made_put made.Comment p (body_trace body w k (captured_in f) vs) (comment_well p)) (h vs v)
    instr_put (Pi name body) n p f k d vs v next h =
        let content : Trace Task = body_trace body w k (captured_in f) vs in
        let x : List ℕ → Trace Task = λ target. makes (made.Instruction target) p content in
        joined (evaluated p (target_run w name f vs) x) (next vs)
        (valued (λ t. is_target t ≡ true) p (target_run w name f vs) x (parts.targets name f vs) (λ target q.
        made_put (made.Instruction target) p content (λ text. target_well p target text q))) (h vs v)
    instr_put (Message terminate body) n p f k d vs v next h =
        let content : Trace Task = body_trace body w k (captured_in f) vs in
        let x : List Event → Trace Task = λ es. says p (fragment_text es) ⨾ ended_if terminate p in
        joined (captured content x) (next vs) (captures content x (λ g. message_put p terminate (fragment_text (events_of content)))) (h vs v)
    instr_put (Variable' site name content) n p f k d vs v next h =
        content_put content n p f k d vs v (λ u. next (vs ++ u ∷ [])) (λ u q. h (vs ++ u ∷ []) (named_more vs u v q))
    instr_put (Literal start body) n p f k d vs v next h =
        let x : Trace Task = body_trace body w k f vs in
        let attributes : Trace Task = literal_attributes start.attributes p w f vs in
        let inside : Trace Task = attributes ⨾ (x ⨾ Put event.End ∷ []) in
        joined (begins w start p ⨾ (k (using start.sets) p f ⨾ inside)) (next vs)
        (joined (begins w start p) (k (using start.sets) p f ⨾ inside) (parts.begun start p n.0)
        (joined (k (using start.sets) p f) inside (deeper true (k (using start.sets) p f) (d (using start.sets) tt p f))
        (joined attributes (x ⨾ Put event.End ∷ []) (deeper true attributes (attributes_put start.attributes p f vs n.0.attributes))
        (joined x (Put event.End ∷ []) (deeper true x (body_put body n.1 f k d vs v)) ended)))) (h vs v)
    instr_put (Extension fallbacks) n p f k d vs v next h =
        joined (fallbacks_trace fallbacks p w k f vs) (next vs) (fallbacks_put fallbacks n p f k d vs v) (h vs v)

    pub body_put : (body : Body) → IsNamedBody body → (f : Focus) (k : Calls) → CallsPut k → (vs : List Value) → AreNamedValues vs
        → Well (body_trace body w k f vs)
    body_put (Body' m row) n f k d vs v = row_put row n f k d vs v

    row_put : {m : _} (row : Row_of-Instr m) → IsNamedRow row → (f : Focus) (k : Calls) → CallsPut k → (vs : List Value) → AreNamedValues vs
        → Well (row_trace row w k f vs)
    row_put end_of-Instr n f k d vs v = nothing false
    row_put (more_of-Instr p i others) n f k d vs v =
        ticked p (instr_trace i p w k f vs (row_trace others w k f))
        (instr_put i n.0 p f k d vs v (row_trace others w k f) (λ us q. row_put others n.1 f k d us q))

    content_put : (content : Content) → IsNamedContent content → (p : Site) (f : Focus) (k : Calls) → CallsPut k → (vs : List Value) → AreNamedValues vs
        → (next : Value → Trace Task) → ((u : Value) → IsNamedValue u → Well (next u)) → Well (content_trace content p w k f vs next)
    content_put Empty n p f k d vs v next h = h (String []) tt
    content_put (Select e) n p f k d vs v next h = valued IsNamedValue p (value_run w e f vs) next (parts.values e f vs v) h
    content_put (Fragment body) n p f k d vs v next h =
        let x : Trace Task = body_trace body w k (captured_in f) vs in
        captures x (λ es. next (Piece (fragment_of es)))
        (λ g. h (Piece (fragment_of (events_of x))) (whole_named x (body_put body n (captured_in f) k d vs v) g))

    passing_put : (passed : Passed) → IsNamedPassed passed → (p : Site) (f : Focus) (k : Calls) → CallsPut k → (vs : List Value) → AreNamedValues vs
        → (next : Params → Trace Task) → ((ps : Params) → AreNamedValues ps.values → Well (next ps)) → Well (passing passed p w k f vs next)
    passing_put (Passed' m row) n p f k d vs v next h =
        let params : List Value → Params = λ us. record { bindings = (out-Passed (Passed' m row)).params; values = us } in
        values_put row n p f k d vs v [] tt (λ us. next (params us)) (λ us q. h (params us) q)

    values_put : {m : _} (row : Row_of-Binding m) → AreNamedBindings row → (p : Site) (f : Focus) (k : Calls) → CallsPut k
        → (vs : List Value) → AreNamedValues vs → (us : List Value) → AreNamedValues us
        → (next : List Value → Trace Task) → ((ws : List Value) → AreNamedValues ws → Well (next ws)) → Well (values_trace row p w k f vs us next)
    values_put end_of-Binding n p f k d vs v us u next h = h us u
    values_put (more_of-Binding site name content others) n p f k d vs v us u next h =
        content_put content n.0 p f k d vs v (λ x. values_trace others p w k f vs (us ++ x ∷ []) next)
        (λ x q. values_put others n.1 p f k d vs v (us ++ x ∷ []) (named_more us x u q) next h)

    choice_put : (choice : Choice) → IsNamedChoice choice → (p : Site) (f : Focus) (k : Calls) → CallsPut k → (vs : List Value) → AreNamedValues vs
        → Well (choice_trace choice p w k f vs)
    choice_put (Choice' m row otherwise) n p f k d vs v =
        whens_put row n.0 p f k d vs v (body_trace otherwise w k f vs) (body_put otherwise n.1 f k d vs v)

    whens_put : {m : _} (row : Row_of-When m) → AreNamedWhens row → (p : Site) (f : Focus) (k : Calls) → CallsPut k → (vs : List Value) → AreNamedValues vs
        → (o : Trace Task) → Well o → Well (whens_trace row p w k f vs o)
    whens_put end_of-When n p f k d vs v o h = h
    whens_put (more_of-When (When' test body) others) n p f k d vs v o h =
        let x : Bool → Trace Task = λ b. cond b (body_trace body w k f vs) (whens_trace others p w k f vs o) in
        valued (λ b. Unit {0}) p (test_run w test f vs) x (has_any (test_run w test f vs).end) (λ b u.
        one-of b (body_trace body w k f vs) (whens_trace others p w k f vs o) (body_put body n.0 f k d vs v) (whens_put others n.1 p f k d vs v o h))

    fallbacks_put : (fallbacks : Fallbacks) → IsNamedFallbacks fallbacks → (p : Site) (f : Focus) (k : Calls) → CallsPut k → (vs : List Value)
        → AreNamedValues vs → Well (fallbacks_trace fallbacks p w k f vs)
    fallbacks_put (Fallbacks' m row) n p f k d vs v = unless_put row p (bodies_trace row w k f vs) (bodies_put row n f k d vs v)

    bodies_put : {m : _} (row : Row_of-Body m) → AreNamedBodies row → (f : Focus) (k : Calls) → CallsPut k → (vs : List Value) → AreNamedValues vs
        → Well (bodies_trace row w k f vs)
    bodies_put end_of-Body n f k d vs v = nothing false
    bodies_put (more_of-Body body others) n f k d vs v =
        joined (body_trace body w k f vs) (bodies_trace others w k f vs) (body_put body n.0 f k d vs v) (bodies_put others n.1 f k d vs v)

  -- ---- templates
  abbrev IsNamedIf : Option Value → Type 0
  IsNamedIf None = Unit {0}
  IsNamedIf (Some v) = IsNamedValue v

  last_named : (name : Label) (found : Option Value) (bs : List Binding) (vs : List Value) → IsNamedIf found → AreNamedValues vs
      → IsNamedIf (last_passed name found bs vs)
  last_named name found [] vs h v = h
  last_named name found (b ∷ bs) [] h v = h
  last_named name found (b ∷ bs) (u ∷ us) h v = last_named name (cond (is_same_label name b.name) (Some u) found) bs us
      (by_name (is_same_label name b.name)) v.1
    where
      by_name : (t : Bool) → IsNamedIf (cond t (Some u) found)
      by_name true = v.0
      by_name false = h

  param_put : (o : Option Value) → IsNamedIf o → (content : Content) → IsNamedContent content → (p : Site) (f : Focus) (k : Calls) → CallsPut k
      → (vs : List Value) → AreNamedValues vs → (next : Value → Trace Task) → ((u : Value) → IsNamedValue u → Well (next u))
      → Well (param_trace o content p w k f vs next)
  param_put None i content n p f k d vs v next h = content_put content n p f k d vs v next h
  param_put (Some u) i content n p f k d vs v next h = h u i

  params_put : (bs : List Binding) → AllByRecursion IsNamedBinding bs → (ps : Params) → AreNamedValues ps.values → (f : Focus) (k : Calls) → CallsPut k
      → (vs : List Value) → AreNamedValues vs → (next : List Value → Trace Task) → ((us : List Value) → AreNamedValues us → Well (next us))
      → Well (params_trace bs ps w k f vs next)
  params_put [] n ps q f k d vs v next h = h vs v
  params_put (b ∷ bs) n ps q f k d vs v next h =
      let x : Value → Trace Task = λ u. params_trace bs ps w k f (vs ++ u ∷ []) next in
      ticked b.site (param_trace (value_passed b.name ps) b.content b.site w k f vs x)
      (param_put (value_passed b.name ps) (last_named b.name None ps.bindings ps.values tt q) b.content n.0 b.site f k d vs v x
      (λ u i. params_put bs n.1 ps q f k d (vs ++ u ∷ []) (named_more vs u v i) next h))

  abbrev IsNamedTemplateIf : Option Template → Type 0
  IsNamedTemplateIf o = OptionHas IsNamedTemplate o

  template_put : (o : Option Template) → IsNamedTemplateIf o → (ps : Params) → AreNamedValues ps.values → (f : Focus) (k : Calls) → CallsPut k
      → Well (template_trace o ps w k f)
  template_put None n ps q f k d = nothing false
  template_put (Some t) n ps q f k d = params_put t.params n.params ps q f k d [] tt (body_trace t.body w k f) (λ vs v. body_put t.body n.body f k d vs v)

  -- the template of a number
  template_at : (i : ℕ) → IsNamedTemplateIf (slice_get w.sheet.templates i)
  template_at i = item_has IsNamedTemplate w.sheet.templates i world.sheet.templates

  built_in_put : (mode : ℕ) (p : Site) (f : Focus) (k : Calls) → CallsPut k → (r : Record) → Well (built_in w k mode p f r)
  built_in_put mode p f k d r =
      one-of (has_content r.kind) (applied w k mode no_params p f (children w.tree f.node))
      (cond (is_text_kind r.kind || is_attribute_kind r.kind) (chars p r.text) [])
      (applied_put k d mode no_params tt p f (children w.tree f.node))
      (one-of (is_text_kind r.kind || is_attribute_kind r.kind) (chars p r.text) [] (parts.chars p r.text) (nothing false))

  rule_put : (o : Option ℕ) (mode : ℕ) (ps : Params) → AreNamedValues ps.values → (p : Site) (f : Focus) (k : Calls) → CallsPut k →
      Well (ruled o mode ps w k p f)
  rule_put None mode ps q p f k d = built_in_put mode p f k d (at w.tree f.node)
  rule_put (Some rule) mode ps q p f k d = template_put (slice_get w.sheet.templates rule) (template_at rule) ps q (by_rule rule mode f) k d

  -- ---- attribute sets
  instrs_put : (is : List Instr) → AreNamedInstrs is → (f : Focus) (k : Calls) → CallsPut k → (vs : List Value) → AreNamedValues vs →
      Well (instrs_trace is w k f vs)
  instrs_put [] n f k d vs v = nothing false
  instrs_put (i ∷ is) n f k d vs v =
      ticked i.site (instr_trace i.kind i.site w k f vs (instrs_trace is w k f))
      (instr_put i.kind n.0 i.site f k d vs v (instrs_trace is w k f) (λ us q. instrs_put is n.1 f k d us q))

  declared_put : (ss : List AttrSet) → AllByRecursion IsNamedSet ss → (f : Focus) (k : Calls) → CallsPut k → Well (declared_trace ss w k f)
  declared_put [] n f k d = nothing false
  declared_put (s ∷ ss) n f k d =
      joined (k (using s.sets) s.site f ⨾ instrs_trace s.attributes w k f []) (declared_trace ss w k f)
      (joined (k (using s.sets) s.site f) (instrs_trace s.attributes w k f []) (d (using s.sets) tt s.site f) (instrs_put s.attributes n.0 f k d [] tt))
      (declared_put ss n.1 f k d)

  -- declarations of a name are some of the stylesheet's
  ranked_named : (n : ℕ) (ss : List AttrSet) → AllByRecursion IsNamedSet ss → AllByRecursion IsNamedSet (ranked n ss)
  ranked_named zero ss h = tt
  ranked_named (suc n) ss h =
      all_joined IsNamedSet (ranked n ss) (filter (has_precedence n) ss) (ranked_named n ss h) (all_filtered IsNamedSet (has_precedence n) ss h)

  declarations_named : (name : Label) → AllByRecursion IsNamedSet (declarations_of w.sheet.sets name)
  declarations_named name =
      all_filtered IsNamedSet (has_name name) (by_precedence w.sheet.sets)
      (ranked_named (suc (highest w.sheet.sets)) w.sheet.sets world.sheet.sets)

  sets_put : (names : List Label) (f : Focus) (k : Calls) → CallsPut k → Well (sets_trace names w k f)
  sets_put [] f k d = nothing false
  sets_put (name ∷ names) f k d =
      joined (declared_trace (declarations_of w.sheet.sets name) w k f) (sets_trace names w k f)
      (declared_put (declarations_of w.sheet.sets name) (declarations_named name) f k d) (sets_put names f k d)

  entry_put : (e : Entry) → IsNamedEntry e → (p : Site) (f : Focus) (k : Calls) → CallsPut k → Well (entered e w k p f)
  entry_put (named i ps) q p f k d = template_put (slice_get w.sheet.templates i) (template_at i) ps q f k d
  entry_put (fitting mode ps) q p f k d = rule_put (rule_for w mode f.node) mode ps q p f k d
  entry_put (overridden current) q p f k d = rule_put (import_for w current f) f.mode no_params tt p f k d
  entry_put (using names) q p f k d = sets_put names f k d

  called_put : (e : Entry) → IsNamedEntry e → (d n : ℕ) (p : Site) (f : Focus) → Well (called e w d n p f)
  called_put (using names) q d zero p f = nothing false
  called_put (using names) q d (suc n) p f = entry_put (using names) tt p (with_levels d n f) (λ e. called e w d n) (λ e r s g. called_put e r d n s g)
  called_put (named i ps) q zero n p f = stopped fault.TooDeep p
  called_put (named i ps) q (suc d) n p f =
      entry_put (named i ps) q p (with_levels d (all_set_levels w) f) (λ e. called e w d (all_set_levels w))
      (λ e r s g. called_put e r d (all_set_levels w) s g)
  called_put (fitting mode ps) q zero n p f = stopped fault.TooDeep p
  called_put (fitting mode ps) q (suc d) n p f =
      entry_put (fitting mode ps) q p (with_levels d (all_set_levels w) f) (λ e. called e w d (all_set_levels w))
      (λ e r s g. called_put e r d (all_set_levels w) s g)
  called_put (overridden current) q zero n p f = stopped fault.TooDeep p
  called_put (overridden current) q (suc d) n p f =
      entry_put (overridden current) q p (with_levels d (all_set_levels w) f) (λ e. called e w d (all_set_levels w))
      (λ e r s g. called_put e r d (all_set_levels w) s g)

  pub calls_put : (f : Focus) → CallsPut (calls_at w f)
  calls_put f = λ e q p g. called_put e q f.depth f.set_levels p g

  job_put : (job : Job) → IsNamedJob job → (p : Site) (f g : Focus) → Well (job_trace job w (calls_at w f) p g)
  job_put (body_job body vs) n p f g = body_put body n.0 g (calls_at w f) (calls_put f) vs n.1
  job_put (rules_job mode ps) n p f g = calls_put f (fitting mode ps) n p g

  pub task_put : (t : Task) → IsNamedJob t.job → Well (task_trace w t)
  task_put t n = each_put t.site (job_trace t.job w (calls_at w t.focus) t.site) t.focus t.first t.nodes (λ g. job_put t.job n t.site t.focus g)
