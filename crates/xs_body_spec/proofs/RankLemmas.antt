-- The rank falls from a task to those that it leaves.
use Rattle.std.proofs.Common.{◌≡◌, ◌<◌, ◌≤◌, ℕ, zero, suc, ◌+◌, ◌-◌, ◌/◌, ◌==◌, ◌||◌, length, List, [], ◌∷◌, ◌++◌, map, slice_get, Option, Some, None, Bool}
use Rattle.std.proofs.Common.{true, false, cond, filter, refl, ap, arith}
use Rattle.std.proofs.lemmas.List.Elements.{All-append, All-cons, All-filter, All-head, All-nil, All-tail}
use Rattle.std.specs.List.{All}
use Rattle.xs_sheet.specs.declared.body.Binding.{Binding}
use Rattle.xs_sheet.specs.declared.body.Body.{Body, Body', Row_of-Instr, end_of-Instr, more_of-Instr}
use Rattle.xs_sheet.specs.declared.body.Choice.{Choice, Choice', Row_of-When, end_of-When, more_of-When}
use Rattle.xs_sheet.specs.declared.body.Content.{Content}
use Rattle.xs_sheet.specs.declared.body.Content.TheVariants.{Empty, Select, Body as Fragment}
use Rattle.xs_sheet.specs.declared.body.Fallbacks.{Fallbacks, Fallbacks', Row_of-Body, end_of-Body, more_of-Body}
use Rattle.xs_sheet.specs.declared.body.Instr.{Instr}
use Rattle.xs_sheet.specs.declared.body.InstrKind.{InstrKind, Variable'}
use Rattle.xs_sheet.specs.declared.body.InstrKind.TheVariants.{ApplyTemplates, CallTemplate, ApplyImports, ForEach, ValueOf, CopyOf, Copy, Number, Choose, If}
use Rattle.xs_sheet.specs.declared.body.InstrKind.TheVariants.{Text, Element, Attribute, Comment, Pi, Message, Literal, Extension}
use Rattle.xs_sheet.specs.declared.body.Passed.{Passed, Passed', out-Passed, Row_of-Binding, end_of-Binding, more_of-Binding}
use Rattle.xs_sheet.specs.declared.body.When.{When'}
use Rattle.xs_sheet.specs.declared.declarations.AttrSet.{AttrSet}
use Rattle.xs_sheet.specs.declared.declarations.Template.{Template}
use Rattle.xs_sheet.specs.declared.scoped.ValueTemplate.{ValueTemplate}
use Rattle.xs_trace.specs.Event.{text_of}
use Rattle.xs_trace.specs.Fill.{HolesAre, tasks_of}
use Rattle.xs_trace.specs.Label.{Label}
use Rattle.xs_trace.specs.Mark.{Tick, Put, Say, Stop, Need, Hole, Trace, ◌⨾◌, captured, events_of, without_puts}
use Rattle.xs_trace.specs.Mark as mark
use Rattle.xs_trace.specs.Run.{Run, Answer, Gives, Faults, Lacks, on_answer, evaluated}
use Rattle.xs_trace.specs.declared.event.Event.{Event}
use Rattle.xs_trace.specs.declared.event.Event.TheVariants.{Start, Chars, End}
use Rattle.xs_trace.specs.declared.fault.Fault.TheVariants as fault
use Rattle.xs_trace.specs.declared.item.Site.{Site}
use Rattle.xs_tree.specs.Kinds.{has_content, is_attribute_kind, is_element_kind, is_root_kind, is_text_kind}
use Rattle.xs_tree.specs.Record.{Record, at, children}
use Rattle.xs_tree.specs.declared.kinds.Kind.{Kind}
use Rattle.xs_value.specs.declared.value.Value.{Value}
use Rattle.xs_value.specs.declared.value.Value.TheVariants.{Chars as String, Piece}
use Rattle.xs_value.specs.Conversion.{fragment_text}
use Rattle.xs_making.specs.Copies.{shallow_copy}
use Rattle.xs_attribute_sets.specs.Declarations.{by_precedence, declarations_of, has_name, has_precedence, highest, ranked}
use Rattle.xs_body_spec.specs.declared.focus.Focus.{Focus}
use Rattle.xs_body_spec.specs.declared.made.Made.{Made}
use Rattle.xs_body_spec.specs.declared.made.Made.TheVariants as made
use Rattle.xs_body_spec.specs.World.{World, all_set_levels, at_node, in_list, captured_in, with_levels, by_rule, without_rule}
use Rattle.xs_body_spec.specs.Numbers.{number_run}
use Rattle.xs_body_spec.specs.World.{applied_nodes, looped_nodes, template_run, test_run, text_run, value_run}
use Rattle.xs_body_spec.specs.Making.{attribute_events, attribute_label, content_text, element_label, literal_spaces, made_events, name_run, target_run}
use Rattle.xs_body_spec.specs.Making.{value_events}
use Rattle.xs_body_spec.specs.Tasks.{Params, no_params, value_passed, Job, body_job, rules_job, Task, shared, task_behind, with_node}
use Rattle.xs_body_spec.specs.Rules.{rule_for, import_for}
use Rattle.xs_body_spec.specs.Trace.{Entry, named, fitting, overridden, using, spread, spread_by, applied, Called, by_number, by_rules}
use Rattle.xs_body_spec.specs.Trace.{called_with, passing, imports, puts, puts_all, chars, says, ended_if, begins, literal_attributes, makes, fragment_of}
use Rattle.xs_body_spec.specs.Trace.{copied_content, copied_node, instr_trace, body_trace, row_trace, content_trace, values_trace, choice_trace, whens_trace}
use Rattle.xs_body_spec.specs.Trace.{fallbacks_trace, unless_none, bodies_trace, param_trace, params_trace, template_trace, built_in, ruled, instrs_trace}
use Rattle.xs_body_spec.specs.Trace.{declared_trace, sets_trace, entered, called, calls_at, job_trace, task_trace}
use Rattle.xs_body_spec.specs.Ranks.{body_size, bodies_size, choice_size, fallbacks_size, instrs_size, job_size, kind_size, level_rank, rank_at, rank_of}
use Rattle.xs_body_spec.specs.Ranks.{row_size, sets_size, sheet_size, templates_size, whens_size}
use Rattle.xs_body_spec.proofs.FullLemmas.{holes-captured, holes-each, holes-more, holes-then}
use Rattle.xs_body_spec.proofs.GrainLemmas.{captured-leaves}

-- no hole is left where no task is
none-left : (P : Task → Type 0) (x : Trace Task) → tasks_of x ≡ [] → HolesAre P x
none-left P [] e = tt
none-left P (Tick p ∷ x) e = none-left P x e
none-left P (Put v ∷ x) e = none-left P x e
none-left P (Say t ∷ x) e = none-left P x e
none-left P (Stop f p ∷ x) e = none-left P x e
none-left P (Need g p ∷ x) e = none-left P x e
none-left P (Hole t ∷ x) e = cc

-- what all declarations of attribute sets are, those of each rank are
all-ranked : (P : AttrSet → Type 0) (n : ℕ) (ss : List AttrSet) → All P ss → All P (ranked n ss)
all-ranked P zero ss h = All-nil P
all-ranked P (suc n) ss h = All-append P (ranked n ss) (filter (has_precedence n) ss) (all-ranked P n ss h) (All-filter (has_precedence n) P ss h)

-- levels
level-up : (s l d n : ℕ) → level_rank s l d n + suc s ≤ level_rank s l d (suc n)
level-up s l zero n = omega arith
level-up s l (suc d) n = omega arith

level-first : (s l d n : ℕ) → level_rank s l d l + suc s ≤ level_rank s l (suc d) n
level-first s l d zero = omega arith
level-first s l d (suc n) = let e = level-first s l d n in let o = level-up s l (suc d) n in omega (arith, e, o)

module _ (w : World) where
  -- all that is left is below
  abbrev Below : ℕ → Trace Task → Type 0
  Below m x = HolesAre (λ c. rank_of w c < m) x

  more-below : (m n : ℕ) → m ≤ n → (x : Trace Task) → Below m x → Below n x
  more-below m n le x h = holes-more (λ c. rank_of w c < m) (λ c. rank_of w c < n) (λ c lt. omega (arith, lt, le)) x h

  joined : (m : ℕ) (x y : Trace Task) → Below m x → Below m y → Below m (x ⨾ y)
  joined m x y h k = holes-then (λ c. rank_of w c < m) x y h k

  one-of : (m : ℕ) (b : Bool) (x y : Trace Task) → Below m x → Below m y → Below m (cond b x y)
  one-of m true x y h k = h
  one-of m false x y h k = k

  ticks-below : (m : ℕ) (p : Site) (n : ℕ) (x : Trace Task) → Below m x → Below m (mark.ticks p n x)
  ticks-below m p zero x h = h
  ticks-below m p (suc n) x h = ticks-below m p n x h

  puts-below : (m : ℕ) (p : Site) (e : Event) → Below m (puts p e)
  puts-below m p e = ticks-below m p (length (text_of e) / 256) (Put e ∷ []) tt

  events-below : (m : ℕ) (p : Site) (es : List Event) → Below m (puts_all p es)
  events-below m p [] = tt
  events-below m p (e ∷ es) = joined m (puts p e) (puts_all p es) (puts-below m p e) (events-below m p es)

  chars-below : (m : ℕ) (p : Site) (t : List ℕ) → Below m (chars p t)
  chars-below m p t = one-of m (length t == 0) [] (puts p (Chars t)) tt (puts-below m p (Chars t))

  message-below : (m : ℕ) (p : Site) (terminate : Bool) (t : List ℕ) → Below m (says p t ⨾ ended_if terminate p)
  message-below m p terminate t =
      joined m (says p t) (ended_if terminate p) (ticks-below m p (length t / 256) (Say t ∷ []) tt)
      (one-of m terminate (Stop fault.Terminated p ∷ []) [] tt tt)

  answer-below : {A : Type 0} (m : ℕ) (p : Site) (a : Answer A) (h : A → Trace Task) → ((x : A) → Below m (h x)) → Below m (on_answer p a h)
  answer-below m p (Gives x) h e = e x
  answer-below m p (Faults n) h e = tt
  answer-below m p (Lacks g) h e = tt

  valued : {A : Type 0} (m : ℕ) (p : Site) (r : Run A) (h : A → Trace Task) → ((x : A) → Below m (h x)) → Below m (evaluated p r h)
  valued m p r h e = ticks-below m p r.cost (on_answer p r.end h) (answer-below m p r.end h e)

  -- captured content leaves nothing
  captures-below : (m : ℕ) (body : Body) (f : Focus) (vs : List Value) (h : List Event → Trace Task) → ((es : List Event) → Below m (h es)) →
      Below m (captured (body_trace body w (calls_at w f) (captured_in f) vs) h)
  captures-below m body f vs h e =
      let x : Trace Task = body_trace body w (calls_at w f) (captured_in f) vs in
      joined m (without_puts x) (h (events_of x))
      (holes-captured (λ c. rank_of w c < m) x (none-left (λ c. rank_of w c < m) x (captured-leaves w body f vs))) (e (events_of x))

  makes-below : (m : ℕ) (q : Made) (p : Site) (body : Body) (f : Focus) (vs : List Value) →
      Below m (makes q p (body_trace body w (calls_at w f) (captured_in f) vs))
  makes-below m q p body f vs =
      captures-below m body f vs (λ es. puts_all p (made_events q (content_text es))) (λ es. events-below m p (made_events q (content_text es)))

  attributes-below : (m : ℕ) (xs : List (Label × ValueTemplate)) (p : Site) (f : Focus) (vs : List Value) → Below m (literal_attributes xs p w f vs)
  attributes-below m [] p f vs = tt
  attributes-below m (a ∷ xs) p f vs =
      let put : List ℕ → Trace Task = λ text. puts_all p (attribute_events (attribute_label w.sheet.aliases a.0) text) in
      joined m (evaluated p (template_run w a.1 f vs) put) (literal_attributes xs p w f vs)
      (valued m p (template_run w a.1 f vs) put (λ text. events-below m p (attribute_events (attribute_label w.sheet.aliases a.0) text)))
      (attributes-below m xs p f vs)

  -- tasks for a run have its rank
  abbrev base : Focus → ℕ
  base f = rank_at w f.depth f.set_levels

  shared-below : (m grain room : ℕ) (t : Task) (ns : List ℕ) → rank_of w t < m → Below m (map Hole (shared grain room t ns))
  shared-below m grain room t [] h = (h, tt)
  shared-below m grain zero t (n ∷ ns) h = (h, shared-below m grain (grain - 1) (task_behind t n) ns h)
  shared-below m grain (suc room) t (n ∷ ns) h = shared-below m grain room (with_node t n) ns h

  spread-by-below : (m : ℕ) (o : Option ℕ) (job : Job) (p : Site) (x : Focus → Trace Task) (f : Focus) (ns : List ℕ) → base f + job_size job < m →
      ((n i : ℕ) → Below m (x (at_node n i f))) → Below m (spread_by o job p x f ns)
  spread-by-below m None job p x f ns h e = holes-each (λ c. rank_of w c < m) p x f e 1 ns
  spread-by-below m (Some grain) job p x f ns h e = shared-below m grain grain (record { job = job; site = p; focus = f; first = 1; nodes = [] }) ns h

  spread-below : (m : ℕ) (job : Job) (p : Site) (x : Focus → Trace Task) (f : Focus) (ns : List ℕ) → base f + job_size job < m →
      ((n i : ℕ) → Below m (x (at_node n i f))) → Below m (spread w job p x f ns)
  spread-below m job p x f ns h e = spread-by-below m _ job p x f ns h e

  -- what is entered at these levels is below their rank
  abbrev CallsFall : (depth set_levels : ℕ) → Type 0
  CallsFall d n = (e : Entry) (p : Site) (f : Focus) → Below (rank_at w d n) (called e w d n p f)

  abbrev Fall : Focus → Type 0
  Fall f = CallsFall f.depth f.set_levels

  call-below : (m : ℕ) (f : Focus) → Fall f → base f ≤ m → (e : Entry) (p : Site) (g : Focus) → Below m (calls_at w f e p g)
  call-below m f d le e p g = more-below (base f) m le (calls_at w f e p g) (d e p g)

  applied-below : (m : ℕ) (mode : ℕ) (ps : Params) (p : Site) (f : Focus) → Fall f → base f < m → (ns : List ℕ) →
      Below m (applied w (calls_at w f) mode ps p f ns)
  applied-below m mode ps p f d lt ns =
      spread-below m (rules_job mode ps) p (calls_at w f (fitting mode ps) p) (in_list (length ns) f) ns (omega (arith, lt))
      (λ n i. call-below m f d (omega (arith, lt)) (fitting mode ps) p (at_node n i (in_list (length ns) f)))

  callee-below : (m : ℕ) (callee : Called) (ps : Params) (p : Site) (f : Focus) → Fall f → base f < m → Below m (called_with w (calls_at w f) callee ps p f)
  callee-below m (by_number i) ps p f d lt = call-below m f d (omega (arith, lt)) (named i ps) p f
  callee-below m (by_rules mode ns) ps p f d lt = applied-below m mode ps p f d lt ns

  imports-below : (m : ℕ) (p : Site) (f : Focus) → Fall f → base f ≤ m → (o : Option ℕ) → Below m (imports (calls_at w f) p f o)
  imports-below m p f d le None = tt
  imports-below m p f d le (Some rule) = call-below m f d le (overridden rule) p f

  inside-below : (m : ℕ) (sets : List Label) (p : Site) (f : Focus) → Fall f → base f ≤ m → (x : Trace Task) → Below m x →
      Below m (calls_at w f (using sets) p f ⨾ (x ⨾ Put End ∷ []))
  inside-below m sets p f d le x h =
      joined m (calls_at w f (using sets) p f) (x ⨾ Put End ∷ []) (call-below m f d le (using sets) p f) (joined m x (Put End ∷ []) h tt)

  copied-below : (m : ℕ) (kind : Kind) (sets : List Label) (p : Site) (f : Focus) → Fall f → base f ≤ m → (x : Trace Task) → Below m x →
      Below m (copied_node kind sets w (calls_at w f) p f x)
  copied-below m kind sets p f d le x h =
      joined m (puts_all p (shallow_copy w.tree f.node)) (copied_content kind sets (calls_at w f) p f x) (events-below m p (shallow_copy w.tree f.node))
      (one-of m (is_element_kind kind) (calls_at w f (using sets) p f ⨾ (x ⨾ Put End ∷ [])) (cond (is_root_kind kind) x [])
      (inside-below m sets p f d le x h) (one-of m (is_root_kind kind) x [] h tt))

  unless-below : (m : ℕ) {n : _} (row : Row_of-Body n) (p : Site) (x : Trace Task) → Below m x → Below m (unless_none row p x)
  unless-below m end_of-Body p x h = tt
  unless-below m (more_of-Body body others) p x h = h

  -- the value of a binding, which is captured, and what follows it
  content-below : (m : ℕ) (content : Content) (p : Site) (f : Focus) (vs : List Value) (next : Value → Trace Task) → ((v : Value) → Below m (next v)) →
      Below m (content_trace content p w (calls_at w f) f vs next)
  content-below m Empty p f vs next h = h (String [])
  content-below m (Select e) p f vs next h = valued m p (value_run w e f vs) next h
  content-below m (Fragment body) p f vs next h =
      captures-below m body f vs (λ es. next (Piece (fragment_of es))) (λ es. h (Piece (fragment_of es)))

  values-below : (m : ℕ) {n : _} (row : Row_of-Binding n) (p : Site) (f : Focus) (vs us : List Value) (next : List Value → Trace Task) →
      ((ws : List Value) → Below m (next ws)) → Below m (values_trace row p w (calls_at w f) f vs us next)
  values-below m end_of-Binding p f vs us next h = h us
  values-below m (more_of-Binding site name content others) p f vs us next h =
      content-below m content p f vs (λ v. values_trace others p w (calls_at w f) f vs (us ++ v ∷ []) next)
      (λ v. values-below m others p f vs (us ++ v ∷ []) next h)

  passing-below : (m : ℕ) (passed : Passed) (p : Site) (f : Focus) (vs : List Value) (next : Params → Trace Task) → ((ps : Params) → Below m (next ps)) →
      Below m (passing passed p w (calls_at w f) f vs next)
  passing-below m (Passed' n row) p f vs next h =
      let params : List Value → Params = λ us. record { bindings = (out-Passed (Passed' n row)).params; values = us } in
      values-below m row p f vs [] (λ us. next (params us)) (λ us. h (params us))

  -- instructions
  mutual
    instr-below : (kind : InstrKind) (m : ℕ) (p : Site) (f : Focus) → Fall f → base f + kind_size kind ≤ m → (vs : List Value)
        (next : List Value → Trace Task) → ((us : List Value) → Below m (next us)) → Below m (instr_trace kind p w (calls_at w f) f vs next)
    instr-below (ApplyTemplates nodes passed) m p f d le vs next h =
        let x : List ℕ → Trace Task =
        λ ns. passing passed p w (calls_at w f) f vs (λ ps. called_with w (calls_at w f) (by_rules nodes.mode ns) ps p f) in
        joined m (evaluated p (applied_nodes w nodes.select nodes.sorts f vs) x) (next vs)
        (valued m p (applied_nodes w nodes.select nodes.sorts f vs) x (λ ns.
        passing-below m passed p f vs (λ ps. called_with w (calls_at w f) (by_rules nodes.mode ns) ps p f) (λ ps.
        callee-below m (by_rules nodes.mode ns) ps p f d (omega (arith, le))))) (h vs)
    instr-below (CallTemplate i passed) m p f d le vs next h =
        joined m (passing passed p w (calls_at w f) f vs (λ ps. called_with w (calls_at w f) (by_number i) ps p f)) (next vs)
        (passing-below m passed p f vs (λ ps. called_with w (calls_at w f) (by_number i) ps p f) (λ ps.
        call-below m f d (omega (arith, le)) (named i ps) p f)) (h vs)
    instr-below ApplyImports m p f d le vs next h =
        joined m (imports (calls_at w f) p f f.rule) (next vs) (imports-below m p f d (omega (arith, le)) f.rule) (h vs)
    instr-below (ForEach select sorts body) m p f d le vs next h =
        let g : List ℕ → Focus = λ ns. in_list (length ns) (without_rule f) in
        let x : List ℕ → Trace Task = λ ns. spread w (body_job body vs) p (λ j. body_trace body w (calls_at w f) j vs) (g ns) ns in
        joined m (evaluated p (looped_nodes w select sorts f vs) x) (next vs)
        (valued m p (looped_nodes w select sorts f vs) x (λ ns.
        spread-below m (body_job body vs) p (λ j. body_trace body w (calls_at w f) j vs) (g ns) ns (omega (arith, le))
        (λ n i. body-below body m (at_node n i (g ns)) d (omega (arith, le)) vs))) (h vs)
    instr-below (ValueOf select) m p f d le vs next h =
        joined m (evaluated p (text_run w select f vs) (chars p)) (next vs) (valued m p (text_run w select f vs) (chars p) (λ t. chars-below m p t)) (h vs)
    instr-below (CopyOf select) m p f d le vs next h =
        let put : Value → Trace Task = λ v. puts_all p (value_events w.tree v) in
        joined m (evaluated p (value_run w select f vs) put) (next vs)
        (valued m p (value_run w select f vs) put (λ v. events-below m p (value_events w.tree v))) (h vs)
    instr-below (Copy sets body) m p f d le vs next h =
        let x : Trace Task = body_trace body w (calls_at w f) f vs in
        joined m (copied_node (at w.tree f.node).kind sets w (calls_at w f) p f x) (next vs)
        (copied-below m (at w.tree f.node).kind sets p f d (omega (arith, le)) x (body-below body m f d le vs)) (h vs)
    instr-below (Number decl) m p f d le vs next h =
        joined m (evaluated p (number_run w decl f vs) (chars p)) (next vs) (valued m p (number_run w decl f vs) (chars p) (λ t. chars-below m p t)) (h vs)
    instr-below (Choose choice) m p f d le vs next h =
        joined m (choice_trace choice p w (calls_at w f) f vs) (next vs) (choice-below choice m p f d le vs) (h vs)
    instr-below (If test body) m p f d le vs next h =
        let x : Bool → Trace Task = λ b. cond b (body_trace body w (calls_at w f) f vs) [] in
        joined m (evaluated p (test_run w test f vs) x) (next vs)
        (valued m p (test_run w test f vs) x (λ b. one-of m b (body_trace body w (calls_at w f) f vs) [] (body-below body m f d le vs) tt)) (h vs)
    instr-below (Text text) m p f d le vs next h = joined m (chars p text) (next vs) (chars-below m p text) (h vs)
    instr-below (Element name sets body) m p f d le vs next h =
        let x : Trace Task = body_trace body w (calls_at w f) f vs in
        let y : Label → Trace Task = λ label. Put (Start label) ∷ (calls_at w f (using sets) p f ⨾ (x ⨾ Put End ∷ [])) in
        joined m (evaluated p (name_run w false name f vs) y) (next vs)
        (valued m p (name_run w false name f vs) y (λ label. inside-below m sets p f d (omega (arith, le)) x (body-below body m f d le vs))) (h vs)
    instr-below (Attribute name body) m p f d le vs next h =
        let y : Label → Trace Task = λ label. makes (made.Attribute label) p (body_trace body w (calls_at w f) (captured_in f) vs) in
        joined m (evaluated p (name_run w true name f vs) y) (next vs)
        (valued m p (name_run w true name f vs) y (λ label. makes-below m (made.Attribute label) p body f vs)) (h vs)
    instr-below (Comment body) m p f d le vs next h =
        joined m (makes made.Comment p (body_trace body w (calls_at w f) (captured_in f) vs)) (next vs) (makes-below m made.Comment p body f vs) (h vs)
    instr-below (Pi name body) m p f d le vs next h =
        let y : List ℕ → Trace Task = λ target. makes (made.Instruction target) p (body_trace body w (calls_at w f) (captured_in f) vs) in
        joined m (evaluated p (target_run w name f vs) y) (next vs)
        (valued m p (target_run w name f vs) y (λ target. makes-below m (made.Instruction target) p body f vs)) (h vs)
    instr-below (Message terminate body) m p f d le vs next h =
        let x : List Event → Trace Task = λ es. says p (fragment_text es) ⨾ ended_if terminate p in
        joined m (captured (body_trace body w (calls_at w f) (captured_in f) vs) x) (next vs)
        (captures-below m body f vs x (λ es. message-below m p terminate (fragment_text es))) (h vs)
    instr-below (Variable' site name content) m p f d le vs next h =
        content-below m content p f vs (λ v. next (vs ++ v ∷ [])) (λ v. h (vs ++ v ∷ []))
    instr-below (Literal start body) m p f d le vs next h =
        let x : Trace Task = body_trace body w (calls_at w f) f vs ⨾ Put End ∷ [] in
        let attributes : Trace Task = literal_attributes start.attributes p w f vs in
        let sets : Trace Task = calls_at w f (using start.sets) p f in
        joined m (begins w start p ⨾ (sets ⨾ (attributes ⨾ x))) (next vs)
        (joined m (begins w start p) (sets ⨾ (attributes ⨾ x))
        (events-below m p (Start (element_label w.sheet.aliases start.name) ∷ literal_spaces w.sheet.aliases start.spaces))
        (joined m sets (attributes ⨾ x) (call-below m f d (omega (arith, le)) (using start.sets) p f)
        (joined m attributes x (attributes-below m start.attributes p f vs)
        (joined m (body_trace body w (calls_at w f) f vs) (Put End ∷ []) (body-below body m f d le vs) tt)))) (h vs)
    instr-below (Extension fallbacks) m p f d le vs next h =
        joined m (fallbacks_trace fallbacks p w (calls_at w f) f vs) (next vs) (fallbacks-below fallbacks m p f d le vs) (h vs)

    body-below : (body : Body) (m : ℕ) (f : Focus) → Fall f → base f + body_size body ≤ m → (vs : List Value) → Below m (body_trace body w (calls_at w f) f vs)
    body-below (Body' n row) m f d le vs = row-below row m f d le vs

    row-below : {n : _} (row : Row_of-Instr n) (m : ℕ) (f : Focus) → Fall f → base f + row_size row ≤ m → (vs : List Value) →
        Below m (row_trace row w (calls_at w f) f vs)
    row-below end_of-Instr m f d le vs = tt
    row-below (more_of-Instr p kind others) m f d le vs =
        instr-below kind m p f d (omega (arith, le)) vs (row_trace others w (calls_at w f) f) (λ us. row-below others m f d (omega (arith, le)) us)

    choice-below : (choice : Choice) (m : ℕ) (p : Site) (f : Focus) → Fall f → base f + choice_size choice ≤ m → (vs : List Value) →
        Below m (choice_trace choice p w (calls_at w f) f vs)
    choice-below (Choice' n row otherwise) m p f d le vs =
        whens-below row m p f d (omega (arith, le)) vs (body_trace otherwise w (calls_at w f) f vs) (body-below otherwise m f d (omega (arith, le)) vs)

    whens-below : {n : _} (row : Row_of-When n) (m : ℕ) (p : Site) (f : Focus) → Fall f → base f + whens_size row ≤ m → (vs : List Value) (o : Trace Task) →
        Below m o → Below m (whens_trace row p w (calls_at w f) f vs o)
    whens-below end_of-When m p f d le vs o h = h
    whens-below (more_of-When (When' test body) others) m p f d le vs o h =
        let x : Trace Task = body_trace body w (calls_at w f) f vs in
        let y : Trace Task = whens_trace others p w (calls_at w f) f vs o in
        valued m p (test_run w test f vs) (λ b. cond b x y) (λ b.
        one-of m b x y (body-below body m f d (omega (arith, le)) vs) (whens-below others m p f d (omega (arith, le)) vs o h))

    fallbacks-below : (fallbacks : Fallbacks) (m : ℕ) (p : Site) (f : Focus) → Fall f → base f + fallbacks_size fallbacks ≤ m → (vs : List Value) →
        Below m (fallbacks_trace fallbacks p w (calls_at w f) f vs)
    fallbacks-below (Fallbacks' n row) m p f d le vs =
        unless-below m row p (bodies_trace row w (calls_at w f) f vs) (bodies-below row m f d le vs)

    bodies-below : {n : _} (row : Row_of-Body n) (m : ℕ) (f : Focus) → Fall f → base f + bodies_size row ≤ m → (vs : List Value) →
        Below m (bodies_trace row w (calls_at w f) f vs)
    bodies-below end_of-Body m f d le vs = tt
    bodies-below (more_of-Body body others) m f d le vs =
        joined m (body_trace body w (calls_at w f) f vs) (bodies_trace others w (calls_at w f) f vs) (body-below body m f d (omega (arith, le)) vs)
        (bodies-below others m f d (omega (arith, le)) vs)

  -- templates
  params-below : (m : ℕ) (bs : List Binding) (ps : Params) (f : Focus) (vs : List Value) (next : List Value → Trace Task) →
      ((us : List Value) → Below m (next us)) → Below m (params_trace bs ps w (calls_at w f) f vs next)
  params-below m [] ps f vs next h = h vs
  params-below m (b ∷ bs) ps f vs next h = by_value (value_passed b.name ps) (λ v. params-below m bs ps f (vs ++ v ∷ []) next h)
    where
      x : Value → Trace Task
      x = λ v. params_trace bs ps w (calls_at w f) f (vs ++ v ∷ []) next

      by_value : (o : Option Value) → ((v : Value) → Below m (x v)) → Below m (param_trace o b.content b.site w (calls_at w f) f vs x)
      by_value None k = content-below m b.content b.site f vs x k
      by_value (Some v) k = k v

  template-size : (ts : List Template) (i : ℕ) (t : Template) → slice_get ts i ≡ Some t → body_size t.body ≤ templates_size ts
  template-size [] i t e = cc
  template-size (s ∷ ts) zero t e = let q : body_size s.body ≡ body_size t.body = ap (λ o. size-of o) e in omega (arith, q)
    where
      size-of : Option Template → ℕ
      size-of None = 0
      size-of (Some u) = body_size u.body
  template-size (s ∷ ts) (suc i) t e = let q = template-size ts i t e in omega (arith, q)

  template-below : (m : ℕ) (i : ℕ) (ps : Params) (f : Focus) → Fall f → base f + sheet_size w.sheet ≤ m →
      Below m (template_trace (slice_get w.sheet.templates i) ps w (calls_at w f) f)
  template-below m i ps f d le = by_template (slice_get w.sheet.templates i) refl
    where
      by_template : (o : Option Template) → slice_get w.sheet.templates i ≡ o → Below m (template_trace o ps w (calls_at w f) f)
      by_template None e = tt
      by_template (Some t) e =
          let q = template-size w.sheet.templates i t e in
          params-below m t.params ps f [] (λ vs. body_trace t.body w (calls_at w f) f vs) (λ vs. body-below t.body m f d (omega (arith, le, q)) vs)

  built_in-below : (m : ℕ) (mode : ℕ) (p : Site) (f : Focus) → Fall f → base f < m → (r : Record) → Below m (built_in w (calls_at w f) mode p f r)
  built_in-below m mode p f d lt r =
      one-of m (has_content r.kind) (applied w (calls_at w f) mode no_params p f (children w.tree f.node))
      (cond (is_text_kind r.kind || is_attribute_kind r.kind) (chars p r.text) []) (applied-below m mode no_params p f d lt (children w.tree f.node))
      (one-of m (is_text_kind r.kind || is_attribute_kind r.kind) (chars p r.text) [] (chars-below m p r.text) tt)

  rule-below : (m : ℕ) (o : Option ℕ) (mode : ℕ) (ps : Params) (p : Site) (f : Focus) → Fall f → base f + suc (sheet_size w.sheet) ≤ m →
      Below m (ruled o mode ps w (calls_at w f) p f)
  rule-below m None mode ps p f d le = built_in-below m mode p f d (omega (arith, le)) (at w.tree f.node)
  rule-below m (Some rule) mode ps p f d le = template-below m rule ps (by_rule rule mode f) d (omega (arith, le))

  -- attribute sets
  instrs-below : (m : ℕ) (is : List Instr) (f : Focus) → Fall f → base f + instrs_size is ≤ m → (vs : List Value) →
      Below m (instrs_trace is w (calls_at w f) f vs)
  instrs-below m [] f d le vs = tt
  instrs-below m (i ∷ is) f d le vs =
      instr-below i.kind m i.site f d (omega (arith, le)) vs (instrs_trace is w (calls_at w f) f) (λ us. instrs-below m is f d (omega (arith, le)) us)

  abbrev IsSmall : AttrSet → Type 0
  IsSmall s = instrs_size s.attributes ≤ sets_size w.sheet.sets

  all-small : (n : ℕ) (ss : List AttrSet) → sets_size ss ≤ n → All (λ s. instrs_size s.attributes ≤ n) ss
  all-small n [] le = All-nil (λ s. instrs_size s.attributes ≤ n)
  all-small n (s ∷ ss) le = All-cons (λ t. instrs_size t.attributes ≤ n) s ss (omega (arith, le)) (all-small n ss (omega (arith, le)))

  declared-small : (name : Label) → All IsSmall (declarations_of w.sheet.sets name)
  declared-small name =
      All-filter (has_name name) IsSmall (by_precedence w.sheet.sets)
      (all-ranked IsSmall (suc (highest w.sheet.sets)) w.sheet.sets (all-small (sets_size w.sheet.sets) w.sheet.sets (omega arith)))

  declared-below : (m : ℕ) (ss : List AttrSet) (f : Focus) → Fall f → base f + sheet_size w.sheet ≤ m → All IsSmall ss →
      Below m (declared_trace ss w (calls_at w f) f)
  declared-below m [] f d le h = tt
  declared-below m (s ∷ ss) f d le h =
      let own : Trace Task = instrs_trace s.attributes w (calls_at w f) f [] in
      let q = All-head IsSmall s ss h in
      joined m (calls_at w f (using s.sets) s.site f ⨾ own) (declared_trace ss w (calls_at w f) f)
      (joined m (calls_at w f (using s.sets) s.site f) own (call-below m f d (omega (arith, le)) (using s.sets) s.site f)
      (instrs-below m s.attributes f d (omega (arith, le, q)) [])) (declared-below m ss f d le (All-tail IsSmall s ss h))

  sets-below : (m : ℕ) (names : List Label) (f : Focus) → Fall f → base f + sheet_size w.sheet ≤ m → Below m (sets_trace names w (calls_at w f) f)
  sets-below m [] f d le = tt
  sets-below m (name ∷ names) f d le =
      joined m (declared_trace (declarations_of w.sheet.sets name) w (calls_at w f) f) (sets_trace names w (calls_at w f) f)
      (declared-below m (declarations_of w.sheet.sets name) f d le (declared-small name)) (sets-below m names f d le)

  entry-below : (m : ℕ) (e : Entry) (p : Site) (f : Focus) → Fall f → base f + suc (sheet_size w.sheet) ≤ m → Below m (entered e w (calls_at w f) p f)
  entry-below m (named i ps) p f d le = template-below m i ps f d (omega (arith, le))
  entry-below m (fitting mode ps) p f d le = rule-below m (rule_for w mode f.node) mode ps p f d le
  entry-below m (overridden current) p f d le = rule-below m (import_for w current f) f.mode no_params p f d le
  entry-below m (using names) p f d le = sets-below m names f d (omega (arith, le))

  -- level by level
  called-below : (e : Entry) (d n : ℕ) (p : Site) (f : Focus) → Below (rank_at w d n) (called e w d n p f)
  called-below (using names) d zero p f = tt
  called-below (using names) d (suc n) p f =
      entry-below (rank_at w d (suc n)) (using names) p (with_levels d n f) (λ e q g. called-below e d n q g)
      (level-up (sheet_size w.sheet) (all_set_levels w) d n)
  called-below (named i ps) zero n p f = tt
  called-below (named i ps) (suc d) n p f =
      entry-below (rank_at w (suc d) n) (named i ps) p (with_levels d (all_set_levels w) f) (λ e q g. called-below e d (all_set_levels w) q g)
      (level-first (sheet_size w.sheet) (all_set_levels w) d n)
  called-below (fitting mode ps) zero n p f = tt
  called-below (fitting mode ps) (suc d) n p f =
      entry-below (rank_at w (suc d) n) (fitting mode ps) p (with_levels d (all_set_levels w) f) (λ e q g. called-below e d (all_set_levels w) q g)
      (level-first (sheet_size w.sheet) (all_set_levels w) d n)
  called-below (overridden current) zero n p f = tt
  called-below (overridden current) (suc d) n p f =
      entry-below (rank_at w (suc d) n) (overridden current) p (with_levels d (all_set_levels w) f) (λ e q g. called-below e d (all_set_levels w) q g)
      (level-first (sheet_size w.sheet) (all_set_levels w) d n)

  job-below : (job : Job) (p : Site) (f : Focus) (n i : ℕ) → Below (base f + job_size job) (job_trace job w (calls_at w f) p (at_node n i f))
  job-below (body_job body vs) p f n i =
      body-below body (base f + body_size body) (at_node n i f) (λ e q g. called-below e f.depth f.set_levels q g) (omega arith) vs
  job-below (rules_job mode ps) p f n i =
      call-below (base f + 0) f (λ e q g. called-below e f.depth f.set_levels q g) (omega arith) (fitting mode ps) p (at_node n i f)

  task-below : (t : Task) → Below (rank_of w t) (task_trace w t)
  task-below t =
      holes-each (λ c. rank_of w c < rank_of w t) t.site (job_trace t.job w (calls_at w t.focus) t.site) t.focus (job-below t.job t.site t.focus)
      t.first t.nodes

pub tasks-fall : (w : World) (t : Task) → HolesAre (λ c. rank_of w c < rank_of w t) (task_trace w t)
tasks-fall w t = task-below w t
