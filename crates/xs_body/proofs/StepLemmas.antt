-- A step reports the beginning of what the stack represents, and leaves the rest to be done: by cases, without an induction.
use Rattle.std.proofs.Common.{◌≡◌, ℕ, zero, suc, ◌+◌, ◌-◌, ◌/◌, ◌==◌, ◌||◌, drop, length, List, [], ◌∷◌, ◌++◌, map, slice_get, Option, Some, None, Bool, true}
use Rattle.std.proofs.Common.{false, cond, refl, sym, ap, ◌∙◌, arith}
use Rattle.std.proofs.lemmas.Bool.Decides.{nat_tests}
use Rattle.xs_sheet.specs.declared.body.Binding.{Binding}
use Rattle.xs_sheet.specs.declared.body.Body.{Body}
use Rattle.xs_sheet.specs.declared.body.Choice.{Choice, Choice', Row_of-When, end_of-When, more_of-When, items-the_row-When}
use Rattle.xs_sheet.specs.declared.body.Choice.{items_shown-the_row-When-1, outs-Choice'}
use Rattle.xs_sheet.specs.declared.body.Content.{Content}
use Rattle.xs_sheet.specs.declared.body.Content.TheVariants.{Empty, Select, Body as Fragment}
use Rattle.xs_sheet.specs.declared.body.Instr.{Instr}
use Rattle.xs_sheet.specs.declared.body.InstrKind.{InstrKind, Variable'}
use Rattle.xs_sheet.specs.declared.body.InstrKind.TheVariants.{ApplyTemplates, CallTemplate, ApplyImports, ForEach, ValueOf, CopyOf, Copy, Number, Choose, If}
use Rattle.xs_sheet.specs.declared.body.InstrKind.TheVariants.{Text, Element, Attribute, Comment, Pi, Message, Literal, Extension}
use Rattle.xs_sheet.specs.declared.body.LiteralStart.{LiteralStart}
use Rattle.xs_sheet.specs.declared.body.Passed.{Passed}
use Rattle.xs_sheet.specs.declared.body.When.{When', out-When}
use Rattle.xs_sheet.specs.declared.declarations.AttrSet.{AttrSet}
use Rattle.xs_sheet.specs.declared.declarations.Template.{Template}
use Rattle.xs_sheet.specs.declared.scoped.ScopedExpr.{ScopedExpr}
use Rattle.xs_trace.specs.Cut.{Fault}
use Rattle.xs_trace.specs.Label.{Label}
use Rattle.xs_trace.specs.Mark.{Tick, Put, Stop, Hole, Trace, ◌⨾◌, captured}
use Rattle.xs_trace.specs.Run.{Run, Gives, give, limited, evaluated}
use Rattle.xs_trace.specs.State.{State, opened, popped, top}
use Rattle.xs_trace.specs.Play.{Step, Goes, Reported, and_then, goes, ticked, ticked_by, put, put_at, stops, play}
use Rattle.xs_trace.specs.declared.event.Event.{Event}
use Rattle.xs_trace.specs.declared.event.Event.TheVariants.{Start, Chars, End}
use Rattle.xs_trace.specs.declared.fault.Fault.TheVariants as fault
use Rattle.xs_trace.specs.declared.item.Site.{Site}
use Rattle.xs_trace.proofs.PlayLemmas.{then-same, then-then, play-then, play-put, play-say, play-captured}
use Rattle.xs_trace.proofs.RunLemmas.{limited-bind, limited-end, play-evaluated}
use Rattle.xs_tree.specs.Kinds.{has_content, is_attribute_kind, is_element_kind, is_root_kind, is_text_kind}
use Rattle.xs_tree.specs.Record.{Record, at, children}
use Rattle.xs_tree.specs.declared.kinds.Kind.{Kind}
use Rattle.xs_value.specs.declared.value.Value.{Value}
use Rattle.xs_value.specs.declared.value.Value.TheVariants.{Chars as String, Piece}
use Rattle.xs_value.specs.Conversion.{fragment_text}
use Rattle.xs_making.specs.Copies.{shallow_copy}
use Rattle.xs_attribute_sets.specs.Declarations.{declarations_of}
use Rattle.xs_attribute_sets.specs.Indexed.{IsSetIndex, declarations_in}
use Rattle.xs_body_spec.specs.declared.focus.Focus.{Focus}
use Rattle.xs_body_spec.specs.declared.made.Made.{Made}
use Rattle.xs_body_spec.specs.declared.made.Made.TheVariants as made
use Rattle.xs_body.specs.declared.frames.Scope.{Scope}
use Rattle.xs_body_spec.specs.World.{World, all_set_levels, at_node, in_list, captured_in, with_levels, by_rule, without_rule}
use Rattle.xs_body_spec.specs.World.{applied_nodes, looped_nodes, test_run, text_run, value_run}
use Rattle.xs_body_spec.specs.Numbers.{number_run}
use Rattle.xs_body_spec.specs.Making.{content_text, made_events, name_run, target_run, text_events, value_events}
use Rattle.xs_body_spec.specs.Tasks.{Params, no_params, value_passed, Job, body_job, rules_job, Task, tasks_for, grain_over}
use Rattle.xs_body_spec.specs.Rules.{rule_for, import_for}
use Rattle.xs_body_spec.specs.Trace.{Entry, named, fitting, overridden, using, Calls, each, spread_by, spread, applied, Called, by_number, by_rules}
use Rattle.xs_body_spec.specs.Trace.{called_with, passing, imports, puts, puts_all, chars, says, ended_if, begins, literal_attributes, makes, fragment_of}
use Rattle.xs_body_spec.specs.Trace.{copied_content, instr_trace, body_trace, content_trace, choice_trace, whens_trace, fallbacks_trace}
use Rattle.xs_body_spec.specs.Trace.{param_trace, params_trace, template_trace, built_in, ruled, instrs_trace, declared_trace, sets_trace, entered, called}
use Rattle.xs_body_spec.specs.Trace.{calls_at}
use Rattle.xs_body.specs.steps.Frames.{Work, rest, fill, each_left, apply_left, bodies_left, end_element, sets_left, declared_left, attributes_left}
use Rattle.xs_body.specs.steps.Frames.{make, say, pass, take_value, params_left, Evaluation, last}
use Rattle.xs_body.specs.steps.Frames.{without, inner, outer, over, captured_scope, more, bound, after, bindings_of, instrs_of, bodies_of}
use Rattle.xs_body.specs.steps.Frames.{all_bodies, chosen_of, chosen, filled, ended, message_steps, message_ended, fragment_at}
use Rattle.xs_body.specs.steps.Frames.{passing_left, work_steps, stack_steps, stack_reported, pushed, slots_are, filled_up, stays, chars_steps}
use Rattle.xs_body.specs.steps.Frames.{run_by, run_begun, applied_begun, template_begun, built_in_begun, rule_begun, entry_begun, entering}
use Rattle.xs_body.specs.steps.Frames.{content_in, declaration_begun, declared_begun, declared_works, sets_left_works, sets_works, inside_begun}
use Rattle.xs_body.specs.steps.Frames.{copied_begun, element_put, literal_inside, lone_by, lone_steps, made_begun, made_of, selected_text}
use Rattle.xs_body.specs.steps.Frames.{call_begun, imports_begun, content_begun, passes_on, pass_begun, params_first, param_begun, fallbacks_begun}
use Rattle.xs_body.specs.steps.Frames.{begun, advanced, rest_works, value_steps, rest_begun, params_entered, template_entered}
use Rattle.xs_body.specs.steps.Frames.{in_template, rule_entered, entering_fitting}
use Rattle.xs_body.specs.steps.Making.{attributes_steps, copy_steps, fixed_text, literal_steps, made_at, made_ended, made_steps, selected, text_ticked}
use Rattle.xs_making.specs.Putting.{events_steps}
use Rattle.xs_body.proofs.AloneLemmas.{content-alone, opened-run, opened-text, opened-tick}
use Rattle.xs_body.proofs.MakingLemmas.{attributes-reported, copy-reported, ended-reported as made-ended, events-reported, literal-reported, made-reported, name-reported, target-reported}
use Rattle.xs_body.proofs.SetLemmas.{served}
use Rattle.xs_body.proofs.SlotLemmas.{last-more, without-more, last-none, without-none, more-none}
use Rattle.xs_body.proofs.RowLemmas.{body-instrs, passing-bindings, fallbacks-bodies, fallback_trace}

-- what is put

chars-reported : (p : Site) (t : List ℕ) (s : State Task) → chars_steps p t s ≡ play (chars p t) s
chars-reported p t s = by_test (length t == 0)
  where
    by_test : (b : Bool) → cond b (goes s) (put_at p (Chars t) s) ≡ play (cond b [] (puts p (Chars t))) s
    by_test true = refl
    by_test false = play-put p (Chars t) s

ended-reported : (terminate : Bool) (p : Site) (s : State Task) → ended terminate p s ≡ play (ended_if terminate p) s
ended-reported true p s = refl
ended-reported false p s = refl

message-reported : (p : Site) (terminate : Bool) (t : List ℕ) (s : State Task) → message_steps p terminate t s ≡ play (says p t ⨾ ended_if terminate p) s
message-reported p terminate t s =
    ap (λ g. and_then g (λ u m. ended terminate p m)) (play-say p t s)
    ∙ then-same (play (says p t) s) (λ u m. ended terminate p m) (λ u m. play (ended_if terminate p) m) (λ u m. ended-reported terminate p m)
    ∙ sym (play-then (says p t) (ended_if terminate p) s)

-- two ways on, behind the same
before : {A C D : Type 0} (g : Reported Task) (f : State Task → Step Task C) (k : C → State Task → Step Task D) (h : State Task → Step Task A)
    (j : A → State Task → Step Task D) →
    ((m : State Task) → and_then (f m) k ≡ and_then (h m) j) → and_then (and_then g (λ u m. f m)) k ≡ and_then (and_then g (λ u m. h m)) j
before g f k h j e = then-then g (λ u m. f m) k ∙ then-same g (λ u m. and_then (f m) k) (λ u m. and_then (h m) j) (λ u m. e m) ∙ sym
    (then-then g (λ u m. h m) j)

-- one of two bodies
either : (b : Bool) (x y : Trace Task) (body : Body) (r : Run Body) (p : Site) (next : Body → State Task → Reported Task) (s : State Task) →
    play x s ≡ next body s → play y s ≡ and_then (limited p r s) next → play (cond b x y) s ≡ and_then (limited p (cond b (give body) r) s) next
either true x y body r p next s e o = e ∙ ap (λ g. and_then g next) (sym (limited-end p (Gives body) s))
either false x y body r p next s e o = o

-- the body of the first test that holds
chooses : {m : _} (row : Row_of-When m) (otherwise : Body) (p : Site) (w : World) (k : Calls) (f : Focus) (vs : List Value) (s : State Task) →
    play (whens_trace row p w k f vs (body_trace otherwise w k f vs)) s
    ≡ and_then (limited p (chosen_of (items-the_row-When m row) otherwise w f vs) s) (λ body n. play (body_trace body w k f vs) n)
unfolding out-When denote.Hole.Carrier.out
chooses end_of-When otherwise p w k f vs s = ap (λ g. and_then g (λ body n. play (body_trace body w k f vs) n)) (sym (limited-end p (Gives otherwise) s))
chooses (more_of-When (When' test body) others) otherwise p w k f vs s =
    let r : Run Bool = test_run w test f vs in
    let next : Body → State Task → Reported Task = λ b n. play (body_trace b w k f vs) n in
    let x : Trace Task = body_trace body w k f vs in
    let y : Trace Task = whens_trace others p w k f vs (body_trace otherwise w k f vs) in
    let more_run : Run Body = chosen_of (items-the_row-When _ others) otherwise w f vs in
    play-evaluated p r (λ b. cond b x y) s
    ∙ then-same (limited p r s) (λ b n. play (cond b x y) n) (λ b n. and_then (limited p (cond b (give body) more_run) n) next) (λ b n.
    either b x y body more_run p next n refl (chooses others otherwise p w k f vs n))
    ∙ sym (then-then (limited p r s) (λ b n. limited p (cond b (give body) more_run) n) next)
    ∙ ap (λ g. and_then g next) (sym (limited-bind p r (λ b. cond b (give body) more_run) s))

chooses-body : (choice : Choice) (p : Site) (w : World) (k : Calls) (f : Focus) (vs : List Value) (s : State Task) →
    play (choice_trace choice p w k f vs) s ≡ and_then (limited p (chosen choice w f vs) s) (λ body n. play (body_trace body w k f vs) n)
chooses-body (Choice' n row otherwise) p w k f vs s =
    let next : Body → State Task → Reported Task = λ b n. play (body_trace b w k f vs) n in
    chooses row otherwise p w k f vs s
    ∙ ap (λ ts. and_then (limited p (chosen_of ts otherwise w f vs) s) next) (sym (items_shown-the_row-When-1 n row))
    ∙ ap (λ c. and_then (limited p (chosen_of c.whens c.otherwise w f vs) s) next) (sym (outs-Choice' n row otherwise))

abbrev Go : Evaluation → State Task → Reported Task
Go t m = stack_reported t m

-- a trace that is reported, and then what a stack reports; the same where the stack's values have changed
abbrev Then : Trace Task → Evaluation → State Task → Reported Task
Then x t s = and_then (play x s) (λ u m. Go t m)

-- how it goes on behind a work that reports a trace
behind : (x : Trace Task) (vs : List Value) (t : Evaluation) (s : State Task) →
    Then x (slots_are vs t) s ≡ and_then (filled x vs s) (λ us m. stack_steps t.world t.works us m)
behind x vs t s = sym (then-then (play x s) (λ u m. Goes vs m) (λ us m. stack_steps t.world t.works us m))

alone : (x : Trace Task) (g : Reported Task) (t : Evaluation) (s : State Task) → g ≡ play x s → Then x t s ≡ and_then (stays g t) Go
alone x g t s e = ap (λ j. and_then j (λ u m. Go t m)) (sym e) ∙ sym (then-then g (λ u m. Goes t m) Go)

-- two traces, the second of which a work reports
twice : (x y : Trace Task) (vs : List Value) (b : Work) (t : Evaluation) (s : State Task) →
    ((m : State Task) → work_steps t.world b t.slots m ≡ filled y vs m) →
    Then (x ⨾ y) (slots_are vs t) s ≡ Then x (pushed (b ∷ []) t) s
twice x y vs b t s e =
    ap (λ g. and_then g (λ u m. Go (slots_are vs t) m)) (play-then x y s)
    ∙ then-then (play x s) (λ u m. play y m) (λ u m. Go (slots_are vs t) m)
    ∙ then-same (play x s) (λ u m. Then y (slots_are vs t) m) (λ u m. Go (pushed (b ∷ []) t) m) (λ u m.
    behind y vs t m ∙ ap (λ g. and_then g (λ us n. stack_steps t.world t.works us n)) (sym (e m)))

-- the same of what any works report
followed : (x y : Trace Task) (t v : Evaluation) (s : State Task) → ((m : State Task) → Then y t m ≡ Go v m) → Then (x ⨾ y) t s ≡ Then x v s
followed x y t v s e =
    ap (λ g. and_then g (λ u m. Go t m)) (play-then x y s)
    ∙ then-then (play x s) (λ u m. play y m) (λ u m. Go t m)
    ∙ then-same (play x s) (λ u m. Then y t m) (λ u m. Go v m) (λ u m. e m)

-- a tick, and what it begins
ticks : (p : Site) (x : Trace Task) (v t : Evaluation) (h : State Task → Step Task Evaluation) (s : State Task) →
    ((m : State Task) → Then x v m ≡ and_then (h m) Go) →
    Then (Tick p ∷ x) v s ≡ and_then (and_then (ticked p s) (λ u m. h m)) Go
ticks p x v t h s e = before (ticked p s) (λ m. play x m) (λ u m. Go v m) h Go e

-- a value, and then what it begins
brings : {A : Type 0} (p : Site) (r : Run A) (h : A → Trace Task) (v : Evaluation) (f : A → State Task → Step Task Evaluation) (s : State Task) →
    ((x : A) (m : State Task) → Then (h x) v m ≡ and_then (f x m) Go) → Then (evaluated p r h) v s ≡ and_then (and_then (limited p r s) f) Go
brings p r h v f s e =
    ap (λ j. and_then j (λ u m. Go v m)) (play-evaluated p r h s)
    ∙ then-then (limited p r s) (λ x m. play (h x) m) (λ u m. Go v m)
    ∙ then-same (limited p r s) (λ x m. Then (h x) v m) (λ x m. and_then (f x m) Go) e
    ∙ sym (then-then (limited p r s) f Go)

-- a body in a scope inside another
inside : (body : Body) (c : Scope) (t : Evaluation) (s : State Task) →
    Then (body_trace body t.world (calls_at t.world c.focus) c.focus (last c.seen t.slots)) t s ≡ Go (pushed (rest (instrs_of body) (inner c) ∷ []) t) s
inside body c t s =
    let x : Trace Task = instrs_trace (instrs_of body) t.world (calls_at t.world c.focus) c.focus (last c.seen t.slots) in
    ap (λ y. Then y t s) (body-instrs body t.world (calls_at t.world c.focus) c.focus (last c.seen t.slots))
    ∙ ap (λ vs. Then x (slots_are vs t) s) (sym (without-none t.slots)) ∙ behind x (without 0 t.slots) t s

-- a body at its end, without values of its own, is nothing to be done
end-same : (n : ℕ) (c : Scope) (t : Evaluation) (s : State Task) →
    Go (slots_are (without n t.slots) t) s ≡ Go (pushed (cond (n == 0) [] (rest [] (record { focus = c.focus; seen = c.seen; own = n }) ∷ [])) t) s
end-same zero c t s = ap (λ vs. Go (slots_are vs t) s) (without-none t.slots)
end-same (suc n) c t s =
    let q : (suc n == 0) ≡ false = grind (arith, nat_tests) in
    ap (λ b. Go (pushed (cond b [] (rest [] (record { focus = c.focus; seen = c.seen; own = suc n }) ∷ [])) t) s) (sym q)

rest-same : (is : List Instr) (c : Scope) (t : Evaluation) (s : State Task) → Go (pushed (rest is c ∷ []) t) s ≡ Go (pushed (rest_works is c) t) s
rest-same [] c t s = end-same c.own c t s
rest-same (i ∷ is) c t s = refl

-- a body, and then the end of its element
inside-ends : (body : Body) (c : Scope) (t : Evaluation) (s : State Task) →
    Then (body_trace body t.world (calls_at t.world c.focus) c.focus (last c.seen t.slots) ⨾ Put End ∷ []) t s ≡ Go (content_in body c t) s
inside-ends body c t s =
    let x : Trace Task = body_trace body t.world (calls_at t.world c.focus) c.focus (last c.seen t.slots) in
    twice x (Put End ∷ []) t.slots end_element t s (λ m. sym (then-then (put End m) (λ u n. goes n) (λ u n. Goes t.slots n)))
    ∙ inside body c (pushed (end_element ∷ []) t) s
    ∙ rest-same (instrs_of body) (inner c) (pushed (end_element ∷ []) t) s

-- captured content, and the works behind it, which take what it put
captures : (body : Body) (c : Scope) (h : List Event → Trace Task) (v t : Evaluation) (s : State Task) →
    ((m : State Task) → Then (h (top m.captures)) v (popped m) ≡ Go t m) →
    Then (captured (body_trace body t.world (calls_at t.world c.focus) (captured_in c.focus) (last c.seen t.slots)) h) v s
    ≡ Go (pushed (rest (instrs_of body) (captured_scope c) ∷ []) t) (opened s)
captures body c h v t s e =
    let x : Trace Task = body_trace body t.world (calls_at t.world c.focus) (captured_in c.focus) (last c.seen t.slots) in
    ap (λ g. and_then g (λ u m. Go v m)) (sym (play-captured x h s))
    ∙ then-then (play x (opened s)) (λ u m. play (h (top m.captures)) (popped m)) (λ u m. Go v m)
    ∙ then-same (play x (opened s)) (λ u m. Then (h (top m.captures)) v (popped m)) (λ u m. Go t m) (λ u m. e m)
    ∙ inside body (captured_scope c) t (opened s)

-- a run over nodes, which a work goes through where they are no more than the grain
runs-by : (g : Option ℕ) (job : Job) (p : Site) (body : Focus → Trace Task) (f : Focus) (ns : List ℕ) (b : Work) (t : Evaluation) (s : State Task) →
    ((m : State Task) → work_steps t.world b t.slots m ≡ filled (each p body f 1 ns) t.slots m) →
    Then (spread_by g job p body f ns) t s ≡ and_then (run_by g job p f ns b t s) Go
runs-by None job p body f ns b t s e = behind (each p body f 1 ns) t.slots t s ∙ ap (λ j. and_then j (λ us m. stack_steps t.world t.works us m)) (sym (e s))
runs-by (Some grain) job p body f ns b t s e = alone (map Hole (tasks_for grain job p f ns)) (play (map Hole (tasks_for grain job p f ns)) s) t s refl

runs : (job : Job) (p : Site) (body : Focus → Trace Task) (f : Focus) (ns : List ℕ) (b : Work) (t : Evaluation) (s : State Task) →
    ((m : State Task) → work_steps t.world b t.slots m ≡ filled (each p body f 1 ns) t.slots m) →
    Then (spread t.world job p body f ns) t s ≡ and_then (run_begun job p f ns b t s) Go
runs job p body f ns b t s e = runs-by (grain_over t.world f (length ns)) job p body f ns b t s e

applies : (mode : ℕ) (ps : Params) (p : Site) (f : Focus) (ns : List ℕ) (t : Evaluation) (s : State Task) →
    Then (applied t.world (calls_at t.world f) mode ps p f ns) t s ≡ and_then (applied_begun mode ps p f ns t s) Go
applies mode ps p f ns t s =
    runs (rules_job mode ps) p (calls_at t.world f (fitting mode ps) p) (in_list (length ns) f) ns (apply_left mode ps p (in_list (length ns) f) 1 ns) t s
    (λ m. refl)

-- the parameters of a template that are left, or else its body
params-same : (bs : List Binding) (ps : Params) (body : Body) (c : Scope) (w : World) (vs : List Value) (s : State Task) →
    work_steps w (params_left bs ps body c) vs s ≡ work_steps w (params_first bs ps body c) vs s
params-same [] ps body c w vs s =
    ap (λ x. filled x (without c.own vs) s) (body-instrs body w (calls_at w c.focus) c.focus (last c.seen vs))
params-same (b ∷ bs) ps body c w vs s = refl

-- templates
template-begins : (o : Option Template) (ps : Params) (f : Focus) (t : Evaluation) (s : State Task) →
    Then (template_trace o ps t.world (calls_at t.world f) f) t s ≡ Go (template_begun o ps f t) s
template-begins None ps f t s = refl
template-begins (Some template) ps f t s =
    let x : List Value → Trace Task = λ vs. params_trace template.params ps t.world (calls_at t.world f) f vs
    (body_trace template.body t.world (calls_at t.world f) f) in
    ap (λ vs. Then (x vs) t s) (sym (last-none t.slots))
    ∙ ap (λ vs. Then (x (last 0 t.slots)) (slots_are vs t) s) (sym (without-none t.slots))
    ∙ behind (x (last 0 t.slots)) (without 0 t.slots) t s
    ∙ ap (λ g. and_then g (λ us m. stack_steps t.world t.works us m)) (params-same template.params ps template.body (outer f) t.world t.slots s)

built-in-begins : (mode : ℕ) (p : Site) (f : Focus) (r : Record) (t : Evaluation) (s : State Task) →
    Then (built_in t.world (calls_at t.world f) mode p f r) t s ≡ and_then (built_in_begun mode p f r t s) Go
built-in-begins mode p f r t s = by_content (has_content r.kind)
  where
    by_text : (q : Bool) → Then (cond q (chars p r.text) []) t s ≡ and_then (cond q (stays (chars_steps p r.text s) t) (Goes t s)) Go
    by_text true = alone (chars p r.text) (chars_steps p r.text s) t s (chars-reported p r.text s)
    by_text false = refl

    by_content : (q : Bool) → Then (cond q (applied t.world (calls_at t.world f) mode no_params p f (children t.world.tree f.node))
        (cond (is_text_kind r.kind || is_attribute_kind r.kind) (chars p r.text) [])) t s
        ≡ and_then (cond q (applied_begun mode no_params p f (children t.world.tree f.node) t s)
        (cond (is_text_kind r.kind || is_attribute_kind r.kind) (stays (chars_steps p r.text s) t) (Goes t s))) Go
    by_content true = applies mode no_params p f (children t.world.tree f.node) t s
    by_content false = by_text (is_text_kind r.kind || is_attribute_kind r.kind)

rule-begins : (o : Option ℕ) (mode : ℕ) (ps : Params) (p : Site) (f : Focus) (t : Evaluation) (s : State Task) →
    Then (ruled o mode ps t.world (calls_at t.world f) p f) t s ≡ and_then (rule_begun o mode ps p f t s) Go
rule-begins None mode ps p f t s = built-in-begins mode p f (at t.world.tree f.node) t s
rule-begins (Some rule) mode ps p f t s = template-begins (slice_get t.world.sheet.templates rule) ps (by_rule rule mode f) t s

entry-begins : (e : Entry) (p : Site) (f : Focus) (t : Evaluation) (s : State Task) →
    Then (entered e t.world (calls_at t.world f) p f) t s ≡ and_then (entry_begun e p f t s) Go
entry-begins (named i ps) p f t s = template-begins (slice_get t.world.sheet.templates i) ps f t s
entry-begins (fitting mode ps) p f t s = rule-begins (rule_for t.world mode f.node) mode ps p f t s
entry-begins (overridden current) p f t s = rule-begins (import_for t.world current f) f.mode no_params p f t s
entry-begins (using names) p f t s = behind (sets_trace names t.world (calls_at t.world f) f) t.slots t s

-- one level deeper
enters-by : (x : ℕ → Trace Task) (depth : ℕ) (e : Entry) (p : Site) (f : Focus) (t : Evaluation) (s : State Task) → x zero ≡ Stop fault.TooDeep p ∷ [] →
    ((d : ℕ) → Then (x (suc d)) t s ≡ and_then (entry_begun e p (with_levels d (all_set_levels t.world) f) t s) Go) →
    Then (x depth) t s
    ≡ and_then (cond (depth == 0) (stops (Fault fault.TooDeep p) s) (entry_begun e p (with_levels (depth - 1) (all_set_levels t.world) f) t s)) Go
enters-by x zero e p f t s o h = ap (λ y. Then y t s) o
enters-by x (suc d) e p f t s o h =
    let n : ℕ = all_set_levels t.world in
    let q : (suc d == 0) ≡ false = grind (arith, nat_tests) in
    let k : d ≡ suc d - 1 = omega arith in
    h d
    ∙ ap (λ m. and_then (entry_begun e p (with_levels m n f) t s) Go) k
    ∙ ap (λ b. and_then (cond b (stops (Fault fault.TooDeep p) s) (entry_begun e p (with_levels (suc d - 1) n f) t s)) Go) (sym q)

abbrev IsTemplate : Entry → Type 0
IsTemplate (named i ps) = Unit {0}
IsTemplate (fitting mode ps) = Unit {0}
IsTemplate (overridden current) = Unit {0}
IsTemplate (using names) = ⊥

enters : (e : Entry) → IsTemplate e → (p : Site) (f : Focus) (t : Evaluation) (s : State Task) →
    Then (calls_at t.world f e p f) t s ≡ and_then (entering e p f t s) Go
enters (named i ps) is p f t s =
    enters-by (λ d. called (named i ps) t.world d f.set_levels p f) f.depth (named i ps) p f t s refl
    (λ d. entry-begins (named i ps) p (with_levels d (all_set_levels t.world) f) t s)
enters (fitting mode ps) is p f t s =
    enters-by (λ d. called (fitting mode ps) t.world d f.set_levels p f) f.depth (fitting mode ps) p f t s refl
    (λ d. entry-begins (fitting mode ps) p (with_levels d (all_set_levels t.world) f) t s)
enters (overridden current) is p f t s =
    enters-by (λ d. called (overridden current) t.world d f.set_levels p f) f.depth (overridden current) p f t s refl
    (λ d. entry-begins (overridden current) p (with_levels d (all_set_levels t.world) f) t s)
enters (using names) is p f t s = absurd is

-- attribute sets, a level deeper
sets-at : (names : List Label) (d n : ℕ) (p : Site) (f : Focus) (t : Evaluation) (s : State Task) →
    Then (called (using names) t.world d n p f) t s
    ≡ Go (pushed (cond (length names == 0) [] (cond (n == 0) [] (sets_left names (with_levels d (n - 1) f) ∷ []))) t) s
sets-at [] d zero p f t s = refl
sets-at [] d (suc n) p f t s = refl
sets-at (name ∷ names) d zero p f t s =
    let q : (length (name ∷ names) == 0) ≡ false = grind (arith, nat_tests) in
    ap (λ b. Go (pushed (cond b [] []) t) s) (sym q)
sets-at (name ∷ names) d (suc n) p f t s =
    let q : (length (name ∷ names) == 0) ≡ false = grind (arith, nat_tests) in
    let o : (suc n == 0) ≡ false = grind (arith, nat_tests) in
    let k : n ≡ suc n - 1 = omega arith in
    let deeper : Focus = with_levels d n f in
    behind (sets_trace (name ∷ names) t.world (calls_at t.world deeper) deeper) t.slots t s
    ∙ ap (λ m. Go (pushed (sets_left (name ∷ names) (with_levels d m f) ∷ []) t) s) k
    ∙ ap (λ b. Go (pushed (cond b [] (sets_left (name ∷ names) (with_levels d (suc n - 1) f) ∷ [])) t) s) (sym o)
    ∙ ap (λ b. Go (pushed (cond b [] (cond (suc n == 0) [] (sets_left (name ∷ names) (with_levels d (suc n - 1) f) ∷ []))) t) s) (sym q)

sets-begin : (names : List Label) (p : Site) (f : Focus) (t : Evaluation) (s : State Task) →
    Then (calls_at t.world f (using names) p f) t s ≡ Go (pushed (sets_works names f) t) s
sets-begin names p f t s = sets-at names f.depth f.set_levels p f t s

-- the declaration at a place, and those after it
abbrev front : Option AttrSet → List AttrSet → List AttrSet
front None ds = []
front (Some d) ds = d ∷ ds

drop-front : (ds : List AttrSet) (i : ℕ) → drop i ds ≡ front (slice_get ds i) (drop (i + 1) ds)
drop-front [] zero = refl
drop-front [] (suc i) = refl
drop-front (d ∷ ds) zero = refl
drop-front (d ∷ ds) (suc i) =
    let e : suc (i + 1) ≡ suc i + 1 = omega arith in drop-front ds i ∙ ap (λ n. front (slice_get ds i) (drop n (d ∷ ds))) e

-- the declarations of a set from a place on, if there is one at that place
declared-same : (name : Label) (i : ℕ) (f : Focus) (t : Evaluation) (s : State Task) →
    Go (pushed (declared_left name i f ∷ []) t) s ≡ Go (pushed (declared_works (slice_get (declarations_in t.world.index name) i) name i f) t) s
declared-same name i f t s = by_place (slice_get ds i) refl
  where
    ds : List AttrSet
    ds = declarations_in t.world.index name

    by_place : (o : Option AttrSet) → slice_get ds i ≡ o →
        Go (pushed (declared_left name i f ∷ []) t) s ≡ Go (pushed (declared_works (slice_get ds i) name i f) t) s
    by_place None e =
        ap (λ xs. and_then (filled (declared_trace xs t.world (calls_at t.world f) f) t.slots s) (λ us m. stack_steps t.world t.works us m))
        (drop-front ds i ∙ ap (λ o. front o (drop (i + 1) ds)) e)
        ∙ ap (λ o. Go (pushed (declared_works o name i f) t) s) (sym e)
    by_place (Some d) e = ap (λ o. Go (pushed (declared_works o name i f) t) s) (sym e)

declaration-begins : (o : Option AttrSet) (name : Label) (i : ℕ) (f : Focus) (t : Evaluation) (s : State Task) →
    Then (declared_trace (front o (drop (i + 1) (declarations_in t.world.index name))) t.world (calls_at t.world f) f) t s
    ≡ Go (declaration_begun o (slice_get (declarations_in t.world.index name) (i + 1)) name i f t) s
declaration-begins None name i f t s = refl
declaration-begins (Some d) name i f t s =
    let w : World = t.world in
    let ds : List AttrSet = declarations_in w.index name in
    let x : Trace Task = calls_at w f (using d.sets) d.site f in
    let own : Trace Task = instrs_trace d.attributes w (calls_at w f) f [] in
    let y : Trace Task = declared_trace (drop (i + 1) ds) w (calls_at w f) f in
    let u : Evaluation = pushed (declared_works (slice_get ds (i + 1)) name (i + 1) f) t in
    let v : Evaluation = pushed (rest d.attributes (outer f) ∷ []) u in
    twice (x ⨾ own) y t.slots (declared_left name (i + 1) f) t s (λ m. refl)
    ∙ then-same (play (x ⨾ own) s) (λ q m. Go (pushed (declared_left name (i + 1) f ∷ []) t) m) (λ q m. Go u m) (λ q m. declared-same name (i + 1) f t m)
    ∙ followed x own u v s (λ m.
    ap (λ vs. Then (instrs_trace d.attributes w (calls_at w f) f vs) u m) (sym (last-none t.slots))
    ∙ ap (λ vs. Then (instrs_trace d.attributes w (calls_at w f) f (last 0 t.slots)) (slots_are vs u) m) (sym (without-none t.slots))
    ∙ behind (instrs_trace d.attributes w (calls_at w f) f (last 0 t.slots)) (without 0 t.slots) u m)
    ∙ sets-begin d.sets d.site f v s

declarations-begin : (name : Label) (i : ℕ) (f : Focus) (t : Evaluation) (s : State Task) →
    Then (declared_trace (drop i (declarations_in t.world.index name)) t.world (calls_at t.world f) f) t s ≡ Go (declared_begun name i f t) s
declarations-begin name i f t s =
    let ds : List AttrSet = declarations_in t.world.index name in
    ap (λ xs. Then (declared_trace xs t.world (calls_at t.world f) f) t s) (drop-front ds i) ∙ declaration-begins (slice_get ds i) name i f t s

-- the sets that are left, if there are any
sets-same : (names : List Label) (f : Focus) (t : Evaluation) (s : State Task) →
    Go (pushed (sets_left names f ∷ []) t) s ≡ Go (pushed (sets_left_works names f) t) s
sets-same [] f t s = refl
sets-same (name ∷ names) f t s =
    let q : (length (name ∷ names) == 0) ≡ false = grind (arith, nat_tests) in
    ap (λ b. Go (pushed (cond b [] (sets_left (name ∷ names) f ∷ [])) t) s) (sym q)

-- what is in an element, after the attributes of sets
inside-begins : (sets : List Label) (p : Site) (body : Body) (c : Scope) (t : Evaluation) (s : State Task) →
    Then (calls_at t.world c.focus (using sets) p c.focus
    ⨾ (body_trace body t.world (calls_at t.world c.focus) c.focus (last c.seen t.slots) ⨾ Put End ∷ [])) t s
    ≡ Go (inside_begun sets body c t) s
inside-begins sets p body c t s =
    let u : Evaluation = content_in body c t in
    followed (calls_at t.world c.focus (using sets) p c.focus)
    (body_trace body t.world (calls_at t.world c.focus) c.focus (last c.seen t.slots) ⨾ Put End ∷ []) t u s (λ m. inside-ends body c t m)
    ∙ sets-begin sets p c.focus u s

-- what is in a literal element
literal-begins : (start : LiteralStart) (p : Site) (body : Body) (c : Scope) (t : Evaluation) (s : State Task) →
    Then (calls_at t.world c.focus (using start.sets) p c.focus ⨾ (literal_attributes start.attributes p t.world c.focus (last c.seen t.slots)
    ⨾ (body_trace body t.world (calls_at t.world c.focus) c.focus (last c.seen t.slots) ⨾ Put End ∷ []))) t s
    ≡ and_then (literal_inside start body p c t s) Go
literal-begins start p body c t s =
    followed sets (attributes ⨾ x) t v s (λ m. followed attributes x t u m (λ q. inside-ends body c t q) ∙ behind attributes u.slots u m)
    ∙ sets-begin start.sets p c.focus v s
    ∙ by_test (length start.sets == 0)
  where
    x : Trace Task
    x = body_trace body t.world (calls_at t.world c.focus) c.focus (last c.seen t.slots) ⨾ Put End ∷ []

    attributes : Trace Task
    attributes = literal_attributes start.attributes p t.world c.focus (last c.seen t.slots)

    sets : Trace Task
    sets = calls_at t.world c.focus (using start.sets) p c.focus

    u : Evaluation
    u = content_in body c t

    v : Evaluation
    v = pushed (attributes_left start.attributes p c ∷ []) u

    own : Reported Task
    own = attributes_steps t.world p c.focus (last c.seen t.slots) start.attributes s

    used : List Work
    used = cond (c.focus.set_levels == 0) [] (sets_left start.sets (with_levels c.focus.depth (c.focus.set_levels - 1) c.focus) ∷ [])

    by_test : (b : Bool) → Go (pushed (cond b [] used) v) s ≡ and_then (cond b (stays own u) (Goes (pushed (cond b [] used) v) s)) Go
    by_test true = sym (behind attributes u.slots u s) ∙ alone attributes own u s (attributes-reported t.world p c.focus (last c.seen t.slots)
        start.attributes s)
    by_test false = refl

copied-begins : (kind : Kind) (sets : List Label) (p : Site) (body : Body) (c : Scope) (t : Evaluation) (s : State Task) →
    Then (copied_content kind sets (calls_at t.world c.focus) p c.focus (body_trace body t.world (calls_at t.world c.focus) c.focus (last c.seen t.slots))) t s
    ≡ Go (copied_begun kind sets body c t) s
copied-begins kind sets p body c t s = by_element (is_element_kind kind)
  where
    x : Trace Task
    x = body_trace body t.world (calls_at t.world c.focus) c.focus (last c.seen t.slots)

    by_root : (q : Bool) → Then (cond q x []) t s ≡ Go (cond q (pushed (rest (instrs_of body) (inner c) ∷ []) t) t) s
    by_root true = inside body c t s
    by_root false = refl

    by_element : (q : Bool) → Then (cond q (calls_at t.world c.focus (using sets) p c.focus ⨾ (x ⨾ Put End ∷ [])) (cond (is_root_kind kind) x [])) t s
        ≡ Go (cond q (inside_begun sets body c t) (cond (is_root_kind kind) (pushed (rest (instrs_of body) (inner c) ∷ []) t) t)) s
    by_element true = inside-begins sets p body c t s
    by_element false = by_root (is_root_kind kind)

call-begins : (callee : Called) (ps : Params) (p : Site) (f : Focus) (t : Evaluation) (s : State Task) →
    Then (called_with t.world (calls_at t.world f) callee ps p f) t s ≡ and_then (call_begun callee ps p f t s) Go
call-begins (by_number i) ps p f t s = ticks p (calls_at t.world f (named i ps) p f) t t (λ m. entering (named i ps) p f t m) s (enters (named i ps) tt p f t)
call-begins (by_rules mode ns) ps p f t s = applies mode ps p f ns t s

imports-begin : (p : Site) (f : Focus) (o : Option ℕ) (t : Evaluation) (s : State Task) → Then (imports (calls_at t.world f) p f o) t s ≡ and_then
    (imports_begun p f o t s) Go
imports-begin p f None t s = refl
imports-begin p f (Some rule) t s = ticks p (calls_at t.world f (overridden rule) p f) t t (λ m. entering (overridden rule) p f t m) s
    (enters (overridden rule) tt p f t)

-- what goes on with one slot more
binds : (x : List Value → Trace Task) (c : Scope) (t : Evaluation) (v : Value) (s : State Task) →
    Then (x (last c.seen t.slots ++ v ∷ [])) (slots_are (without c.own t.slots) t) s
    ≡ and_then (filled (x (last (c.seen + 1) (t.slots ++ v ∷ []))) (without (c.own + 1) (t.slots ++ v ∷ [])) s) (λ us m. stack_steps t.world t.works us m)
binds x c t v s =
    ap (λ us. Then (x us) (slots_are (without c.own t.slots) t) s) (sym (last-more c.seen t.slots v))
    ∙ ap (λ us. Then (x (last (c.seen + 1) (t.slots ++ v ∷ []))) (slots_are us t) s) (sym (without-more c.own t.slots v))
    ∙ behind (x (last (c.seen + 1) (t.slots ++ v ∷ []))) (without (c.own + 1) (t.slots ++ v ∷ [])) t s

-- the value of a binding, which fills a slot of the works behind it
content-begins : (content : Content) (p : Site) (c : Scope) (next : Value → Trace Task) (v t : Evaluation) (s : State Task) →
    ((x : Value) (m : State Task) → Then (next x) v m ≡ Go (filled_up (x ∷ []) t) m) →
    Then (content_trace content p t.world (calls_at t.world c.focus) c.focus (last c.seen t.slots) next) v s ≡ and_then (content_begun content p c t s) Go
content-begins Empty p c next v t s e = e (String []) s
content-begins (Select x) p c next v t s e = brings p (value_run t.world x c.focus (last c.seen t.slots)) next v (λ y m. Goes (filled_up (y ∷ []) t) m) s e
content-begins (Fragment body) p c next v t s e = captures body c (λ es. next (Piece (fragment_of es))) v (pushed (fill ∷ []) t) s
    (λ m. e (fragment_at m) (popped m))

param-begins : (o : Option Value) (content : Content) (p : Site) (c : Scope) (next : Value → Trace Task) (v t : Evaluation) (s : State Task) →
    ((x : Value) (m : State Task) → Then (next x) v m ≡ Go (filled_up (x ∷ []) t) m) →
    Then (param_trace o content p t.world (calls_at t.world c.focus) c.focus (last c.seen t.slots) next) v s ≡ and_then (param_begun o content p c t s) Go
param-begins None content p c next v t s e = content-begins content p c next v t s e
param-begins (Some x) content p c next v t s e = e x s

-- the parameters of a call that are left, or else what is called
passes-on : (left all : List Binding) (us : List Value) (callee : Called) (p : Site) (c : Scope) (t : Evaluation) (s : State Task) →
    Then (passing_left left all callee t.world p c.focus (last c.seen t.slots) us) t s ≡ and_then (passes_on left all us callee p c t s) Go
passes-on [] all us callee p c t s = call-begins callee (record { bindings = all; values = us }) p c.focus t s
passes-on (b ∷ left) all us callee p c t s = behind (passing_left (b ∷ left) all callee t.world p c.focus (last c.seen t.slots) us) t.slots t s

-- a value that is passed
pass-begins : (content : Content) (left all : List Binding) (us : List Value) (callee : Called) (p : Site) (c : Scope) (t : Evaluation) (s : State Task) →
    Then (content_trace content p t.world (calls_at t.world c.focus) c.focus (last c.seen t.slots)
    (λ x. passing_left left all callee t.world p c.focus (last c.seen t.slots) (us ++ x ∷ []))) t s
    ≡ and_then (pass_begun content left all us callee p c t s) Go
pass-begins Empty left all us callee p c t s = passes-on left all (us ++ String [] ∷ []) callee p c t s
pass-begins (Select e) left all us callee p c t s =
    let next : Value → Trace Task = λ x. passing_left left all callee t.world p c.focus (last c.seen t.slots) (us ++ x ∷ []) in
    brings p (value_run t.world e c.focus (last c.seen t.slots)) next t (λ x m. passes_on left all (us ++ x ∷ []) callee p c t m) s
    (λ x m. passes-on left all (us ++ x ∷ []) callee p c t m)
pass-begins (Fragment body) left all us callee p c t s =
    let next : Value → Trace Task = λ x. passing_left left all callee t.world p c.focus (last c.seen t.slots) (us ++ x ∷ []) in
    captures body c (λ es. next (Piece (fragment_of es))) t (pushed (take_value left all us callee p c ∷ []) t) s
    (λ m. behind (next (fragment_at m)) t.slots t (popped m))

passing-begins : (passed : Passed) (callee : Called) (p : Site) (c : Scope) (t : Evaluation) (s : State Task) →
    Then (passing passed p t.world (calls_at t.world c.focus) c.focus (last c.seen t.slots)
    (λ ps. called_with t.world (calls_at t.world c.focus) callee ps p c.focus)) t s
    ≡ and_then (passes_on (bindings_of passed) (bindings_of passed) [] callee p c t s) Go
passing-begins passed callee p c t s =
    ap (λ x. Then x t s) (passing-bindings passed p t.world (calls_at t.world c.focus) c.focus (last c.seen t.slots)
    (λ ps. called_with t.world (calls_at t.world c.focus) callee ps p c.focus))
    ∙ passes-on (bindings_of passed) (bindings_of passed) [] callee p c t s

if-begins : (b : Bool) (body : Body) (c : Scope) (t : Evaluation) (s : State Task) →
    Then (cond b (body_trace body t.world (calls_at t.world c.focus) c.focus (last c.seen t.slots)) []) t s ≡ Go
    (pushed (cond b (rest (instrs_of body) (inner c) ∷ []) []) t) s
if-begins true body c t s = inside body c t s
if-begins false body c t s = refl

fallbacks-begin : (bs : List Body) (p : Site) (c : Scope) (t : Evaluation) (s : State Task) →
    Then (fallback_trace bs p t.world (calls_at t.world c.focus) c.focus (last c.seen t.slots)) t s ≡ and_then (fallbacks_begun bs p c t s) Go
fallbacks-begin [] p c t s = refl
fallbacks-begin (b ∷ bs) p c t s = behind (all_bodies (b ∷ bs) t.world (calls_at t.world c.focus) c.focus (last c.seen t.slots)) t.slots t s

-- an instruction, and what is left of its body, which works report
joined : (x : Trace Task) (is : List Instr) (c : Scope) (t : Evaluation) (s : State Task) →
    Then (x ⨾ instrs_trace is t.world (calls_at t.world c.focus) c.focus (last c.seen t.slots)) (slots_are (without c.own t.slots) t) s
    ≡ Then x (pushed (rest_works is (more 0 c)) t) s
joined x is c t s =
    twice x (instrs_trace is t.world (calls_at t.world c.focus) c.focus (last c.seen t.slots)) (without c.own t.slots) (rest is c) t s (λ m. refl)
    ∙ ap (λ (d : Scope). Then x (pushed (rest is d ∷ []) t) s) (sym (more-none c))
    ∙ then-same (play x s) (λ u m. Go (pushed (rest is (more 0 c) ∷ []) t) m) (λ u m. Go (pushed (rest_works is (more 0 c)) t) m)
    (λ u m. rest-same is (more 0 c) t m)

nothing : (is : List Instr) (c : Scope) (t : Evaluation) (s : State Task) →
    Then (instrs_trace is t.world (calls_at t.world c.focus) c.focus (last c.seen t.slots)) (slots_are (without c.own t.slots) t) s ≡ Go
    (pushed (rest_works is (more 0 c)) t) s
nothing is c t s = joined [] is c t s

-- a text, and the string of an expression
text-begins : (text : List ℕ) (p : Site) (is : List Instr) (c : Scope) (t : Evaluation) (s : State Task) →
    Then (instr_trace (Text text) p t.world (calls_at t.world c.focus) c.focus (last c.seen t.slots)
    (instrs_trace is t.world (calls_at t.world c.focus) c.focus)) (slots_are (without c.own t.slots) t) s
    ≡ and_then (stays (chars_steps p text s) (pushed (rest_works is (more 0 c)) t)) Go
text-begins text p is c t s = joined (chars p text) is c t s ∙ alone (chars p text) (chars_steps p text s) (pushed (rest_works is (more 0 c)) t) s
    (chars-reported p text s)

value-begins : (select : ScopedExpr) (p : Site) (is : List Instr) (c : Scope) (t : Evaluation) (s : State Task) →
    Then (instr_trace (ValueOf select) p t.world (calls_at t.world c.focus) c.focus (last c.seen t.slots)
    (instrs_trace is t.world (calls_at t.world c.focus) c.focus)) (slots_are (without c.own t.slots) t) s
    ≡ and_then (stays (value_steps select p c t s) (pushed (rest_works is (more 0 c)) t)) Go
value-begins select p is c t s =
    let u : Evaluation = pushed (rest_works is (more 0 c)) t in
    let r : Run (List ℕ) = text_run t.world select c.focus (last c.seen t.slots) in
    joined (evaluated p r (chars p)) is c t s
    ∙ alone (evaluated p r (chars p)) (and_then (limited p r s) (λ text m. chars_steps p text m)) u s
    (then-same (limited p r s) (λ text m. chars_steps p text m) (λ text m. play (chars p text) m) (λ text m. chars-reported p text m) ∙ sym
    (play-evaluated p r (chars p) s))

-- what is made of captured content
captured-begins : (m : Made) (body : Body) (p : Site) (c : Scope) (t : Evaluation) (s : State Task) →
    Then (makes m p (body_trace body t.world (calls_at t.world c.focus) (captured_in c.focus) (last c.seen t.slots))) t s
    ≡ Go (pushed (rest (instrs_of body) (captured_scope c) ∷ make m p ∷ []) t) (opened s)
captured-begins m body p c t s =
    captures body c (λ es. puts_all p (made_events m (content_text es))) t (pushed (make m p ∷ []) t) s
    (λ q. behind (puts_all p (made_at m q)) t.slots t (popped q))

-- what is made of a text, once its ticks are reported
made-text : (m : Made) (p q : Site) (text : List ℕ) (body : Body) (c : Scope) (t : Evaluation) (s : State Task) →
    and_then (chars_steps q text (opened s)) (λ u n. Go (pushed (make m p ∷ []) t) n)
    ≡ and_then (text_ticked q text s) (λ found n. and_then (made_of found m body p c t n) Go)
made-text m p q text body c t s =
    let made : List ℕ → Trace Task = λ xs. puts_all p (made_events m xs) in
    let at_end : List Event → State Task → Reported Task = λ es n. Then (made (content_text es)) t n in
    then-same (chars_steps q text (opened s)) (λ u n. Go (pushed (make m p ∷ []) t) n) (λ u n. at_end (top n.captures) (popped n))
    (λ u n. sym (behind (puts_all p (made_at m n)) t.slots t (popped n)))
    ∙ opened-text q text at_end s
    ∙ then-same (ticked_by (length text / 256) q s) (λ u n. at_end (text_events text) n) (λ u n. and_then (stays (made_steps m text p n) t) Go) (λ u n.
    ap (λ xs. Then (made xs) t n) (content-alone text) ∙ alone (made text) (made_steps m text p n) t n (made-reported m text p n))
    ∙ sym (then-then (ticked_by (length text / 256) q s) (λ u n. Goes (Some text) n) (λ found n. and_then (made_of found m body p c t n) Go))

-- content of one instruction that puts a text, and what is made of it
made-alone : (m : Made) (p q : Site) (body : Body) (c : Scope) (t : Evaluation) (g : State Task → Reported Task)
    (h : State Task → Step Task (Option (List ℕ))) (s : State Task) →
    ((n : State Task) → and_then (g (opened n)) (λ u o. Go (pushed (make m p ∷ []) t) o)
    ≡ and_then (h n) (λ found o. and_then (made_of found m body p c t o) Go)) →
    and_then (and_then (ticked q (opened s)) (λ u n. stays (g n) (pushed (make m p ∷ []) t))) Go
    ≡ and_then (and_then (and_then (ticked q s) (λ u n. h n)) (λ found n. made_of found m body p c t n)) Go
made-alone m p q body c t g h s e =
    let v : Evaluation = pushed (make m p ∷ []) t in
    let next : Option (List ℕ) → State Task → Step Task Evaluation = λ found n. made_of found m body p c t n in
    let all : Step Task (Option (List ℕ)) = and_then (ticked q s) (λ u n. h n) in
    then-then (ticked q (opened s)) (λ u n. stays (g n) v) Go
    ∙ opened-tick q (λ u n. and_then (stays (g n) v) Go) s
    ∙ then-same (ticked q s) (λ u n. and_then (stays (g (opened n)) v) Go) (λ u n. and_then (h n) (λ found o. and_then (next found o) Go)) (λ u n.
    then-then (g (opened n)) (λ u o. Goes v o) Go ∙ e n)
    ∙ sym (then-then (ticked q s) (λ u n. h n) (λ found o. and_then (next found o) Go))
    ∙ sym (then-then all next Go)

-- what is made of content that is one instruction, by its kind
lone-begins : (kind : InstrKind) (q : Site) (m : Made) (body : Body) (p : Site) (c : Scope) (t : Evaluation) (s : State Task) →
    instrs_of body ≡ record { site = q; kind = kind } ∷ [] →
    Go (pushed (rest (instrs_of body) (captured_scope c) ∷ make m p ∷ []) t) (opened s)
    ≡ and_then (and_then (lone_by (fixed_text kind) (selected kind) q c t s) (λ found n. made_of found m body p c t n)) Go
lone-begins (Text text) q m body p c t s is =
    let v : Evaluation = pushed (make m p ∷ []) t in
    let d : Scope = captured_scope c in
    let x : Trace Task = instr_trace (Text text) q t.world (calls_at t.world d.focus) d.focus (last d.seen v.slots)
    (instrs_trace [] t.world (calls_at t.world d.focus) d.focus) in
    ap (λ xs. Go (pushed (rest xs d ∷ []) v) (opened s)) is
    ∙ sym (behind (Tick q ∷ x) (without 0 v.slots) v (opened s))
    ∙ ticks q x (slots_are (without 0 v.slots) v) v (λ n. stays (chars_steps q text n) v) (opened s) (λ n. text-begins text q [] d v n)
    ∙ made-alone m p q body c t (λ n. chars_steps q text n) (λ n. text_ticked q text n) s (λ n. made-text m p q text body c t n)
lone-begins (ValueOf select) q m body p c t s is =
    let v : Evaluation = pushed (make m p ∷ []) t in
    let d : Scope = captured_scope c in
    let x : Trace Task = instr_trace (ValueOf select) q t.world (calls_at t.world d.focus) d.focus (last d.seen v.slots)
    (instrs_trace [] t.world (calls_at t.world d.focus) d.focus) in
    let r : Run (List ℕ) = text_run t.world select c.focus (last c.seen t.slots) in
    let reported : Option (List ℕ) → State Task → Reported Task = λ found o. and_then (made_of found m body p c t o) Go in
    ap (λ xs. Go (pushed (rest xs d ∷ []) v) (opened s)) is
    ∙ sym (behind (Tick q ∷ x) (without 0 v.slots) v (opened s))
    ∙ ticks q x (slots_are (without 0 v.slots) v) v (λ n. stays (value_steps select q d v n) v) (opened s) (λ n. value-begins select q [] d v n)
    ∙ made-alone m p q body c t (λ n. value_steps select q d v n) (λ n. selected_text select q c t n) s (λ n.
    then-then (limited q r (opened n)) (λ text o. chars_steps q text o) (λ u o. Go v o)
    ∙ opened-run q r (λ text o. and_then (chars_steps q text o) (λ u i. Go v i)) n
    ∙ then-same (limited q r n) (λ text o. and_then (chars_steps q text (opened o)) (λ u i. Go v i)) (λ text o. and_then (text_ticked q text o) reported)
    (λ text o. made-text m p q text body c t o)
    ∙ sym (then-then (limited q r n) (λ text o. text_ticked q text o) reported))
lone-begins (ApplyTemplates nodes passed) q m body p c t s is = refl
lone-begins (CallTemplate i passed) q m body p c t s is = refl
lone-begins ApplyImports q m body p c t s is = refl
lone-begins (ForEach select sorts x) q m body p c t s is = refl
lone-begins (CopyOf select) q m body p c t s is = refl
lone-begins (Copy sets x) q m body p c t s is = refl
lone-begins (Number decl) q m body p c t s is = refl
lone-begins (Choose choice) q m body p c t s is = refl
lone-begins (If test x) q m body p c t s is = refl
lone-begins (Element name sets x) q m body p c t s is = refl
lone-begins (Attribute name x) q m body p c t s is = refl
lone-begins (Comment x) q m body p c t s is = refl
lone-begins (Pi name x) q m body p c t s is = refl
lone-begins (Message terminate x) q m body p c t s is = refl
lone-begins (Variable' site name content) q m body p c t s is = refl
lone-begins (Literal start x) q m body p c t s is = refl
lone-begins (Extension fallbacks) q m body p c t s is = refl

made-begins : (m : Made) (body : Body) (p : Site) (c : Scope) (t : Evaluation) (s : State Task) →
    Then (makes m p (body_trace body t.world (calls_at t.world c.focus) (captured_in c.focus) (last c.seen t.slots))) t s
    ≡ and_then (made_begun m body p c t s) Go
made-begins m body p c t s = captured-begins m body p c t s ∙ by_content (instrs_of body) refl
  where
    by_content : (is : List Instr) → instrs_of body ≡ is →
        Go (pushed (rest (instrs_of body) (captured_scope c) ∷ make m p ∷ []) t) (opened s)
        ≡ and_then (and_then (lone_steps is c t s) (λ text n. made_of text m body p c t n)) Go
    by_content [] e = refl
    by_content (i ∷ []) e = lone-begins i.kind i.site m body p c t s e
    by_content (i ∷ j ∷ is) e = refl

-- each kind of instruction
begins-so : (kind : InstrKind) (p : Site) (is : List Instr) (c : Scope) (t : Evaluation) (s : State Task) →
    Then (instr_trace kind p t.world (calls_at t.world c.focus) c.focus (last c.seen t.slots) (instrs_trace is t.world (calls_at t.world c.focus) c.focus))
    (slots_are (without c.own t.slots) t) s
    ≡ and_then (begun kind p c (pushed (rest_works is (after kind c)) t) s) Go
begins-so (ApplyTemplates nodes passed) p is c t s =
    let u : Evaluation = pushed (rest_works is (more 0 c)) t in
    let vs : List Value = last c.seen t.slots in
    let h : List ℕ → Trace Task = λ ns. passing passed p t.world (calls_at t.world c.focus) c.focus vs
    (λ ps. called_with t.world (calls_at t.world c.focus) (by_rules nodes.mode ns) ps p c.focus) in
    joined (evaluated p (applied_nodes t.world nodes.select nodes.sorts c.focus vs) h) is c t s
    ∙ brings p (applied_nodes t.world nodes.select nodes.sorts c.focus vs) h u
    (λ ns m. passes_on (bindings_of passed) (bindings_of passed) [] (by_rules nodes.mode ns) p c u m) s (λ ns m.
    passing-begins passed (by_rules nodes.mode ns) p c u m)
begins-so (CallTemplate i passed) p is c t s =
    joined (passing passed p t.world (calls_at t.world c.focus) c.focus (last c.seen t.slots)
    (λ ps. called_with t.world (calls_at t.world c.focus) (by_number i) ps p c.focus)) is
    c t s
    ∙ passing-begins passed (by_number i) p c (pushed (rest_works is (more 0 c)) t) s
begins-so ApplyImports p is c t s =
    joined (imports (calls_at t.world c.focus) p c.focus c.focus.rule) is c t s ∙ imports-begin p c.focus c.focus.rule (pushed (rest_works is (more 0 c)) t) s
begins-so (ForEach select sorts body) p is c t s =
    let u : Evaluation = pushed (rest_works is (more 0 c)) t in
    let vs : List Value = last c.seen t.slots in
    let f : List ℕ → Focus = λ ns. in_list (length ns) (without_rule c.focus) in
    let h : List ℕ → Trace Task = λ ns. spread t.world (body_job body vs) p (λ g. body_trace body t.world (calls_at t.world c.focus) g vs) (f ns) ns in
    joined (evaluated p (looped_nodes t.world select sorts c.focus vs) h) is c t s
    ∙ brings p (looped_nodes t.world select sorts c.focus vs) h u
    (λ ns m. run_begun (body_job body vs) p (f ns) ns (each_left body p (over (f ns) c) 1 ns) u m) s (λ ns m.
    runs (body_job body vs) p (λ g. body_trace body t.world (calls_at t.world c.focus) g vs) (f ns) ns (each_left body p (over (f ns) c) 1 ns) u m (λ n. refl))
begins-so (ValueOf select) p is c t s = value-begins select p is c t s
begins-so (CopyOf select) p is c t s =
    let u : Evaluation = pushed (rest_works is (more 0 c)) t in
    let r : Run Value = value_run t.world select c.focus (last c.seen t.slots) in
    let h : Value → Trace Task = λ v. puts_all p (value_events t.world.tree v) in
    joined (evaluated p r h) is c t s
    ∙ alone (evaluated p r h) (and_then (limited p r s) (λ v m. copy_steps t.world.tree p v m)) u s
    (then-same (limited p r s) (λ v m. copy_steps t.world.tree p v m) (λ v m. play (h v) m) (λ v m. copy-reported t.world.tree p v m)
    ∙ sym (play-evaluated p r h s))
begins-so (Copy sets body) p is c t s =
    let u : Evaluation = pushed (rest_works is (more 0 c)) t in
    let kind : Kind = (at t.world.tree c.focus.node).kind in
    let x : Trace Task = puts_all p (shallow_copy t.world.tree c.focus.node) in
    let y : Trace Task = copied_content kind sets (calls_at t.world c.focus) p c.focus
    (body_trace body t.world (calls_at t.world c.focus) c.focus (last c.seen t.slots)) in
    joined (x ⨾ y) is c t s
    ∙ ap (λ g. and_then g (λ q m. Go u m)) (play-then x y s)
    ∙ ap (λ g. and_then (and_then g (λ q m. play y m)) (λ q m. Go u m)) (sym (events-reported p (shallow_copy t.world.tree c.focus.node) s))
    ∙ before (events_steps p (shallow_copy t.world.tree c.focus.node) s) (λ m. play y m) (λ q m. Go u m)
    (λ m. Goes (copied_begun kind sets body c u) m) Go (λ m. copied-begins kind sets p body c u m)
begins-so (Number decl) p is c t s =
    let u : Evaluation = pushed (rest_works is (more 0 c)) t in
    let r : Run (List ℕ) = number_run t.world decl c.focus (last c.seen t.slots) in
    joined (evaluated p r (chars p)) is c t s
    ∙ alone (evaluated p r (chars p)) (and_then (limited p r s) (λ text m. chars_steps p text m)) u s
    (then-same (limited p r s) (λ text m. chars_steps p text m) (λ text m. play (chars p text) m) (λ text m. chars-reported p text m) ∙ sym
    (play-evaluated p r (chars p) s))
begins-so (Choose choice) p is c t s =
    let u : Evaluation = pushed (rest_works is (more 0 c)) t in
    let vs : List Value = last c.seen t.slots in
    let r : Run Body = chosen choice t.world c.focus vs in
    joined (choice_trace choice p t.world (calls_at t.world c.focus) c.focus vs) is c t s
    ∙ ap (λ g. and_then g (λ v m. Go u m)) (chooses-body choice p t.world (calls_at t.world c.focus) c.focus vs s)
    ∙ then-then (limited p r s) (λ body m. play (body_trace body t.world (calls_at t.world c.focus) c.focus vs) m) (λ v m. Go u m)
    ∙ then-same (limited p r s) (λ body m. Then (body_trace body t.world (calls_at t.world c.focus) c.focus vs) u m)
    (λ body m. Go (pushed (rest (instrs_of body) (inner c) ∷ []) u) m) (λ body m. inside body c u m)
    ∙ sym (then-then (limited p r s) (λ body m. Goes (pushed (rest (instrs_of body) (inner c) ∷ []) u) m) Go)
begins-so (If test body) p is c t s =
    let u : Evaluation = pushed (rest_works is (more 0 c)) t in
    let r : Run Bool = test_run t.world test c.focus (last c.seen t.slots) in
    let h : Bool → Trace Task = λ b. cond b (body_trace body t.world (calls_at t.world c.focus) c.focus (last c.seen t.slots)) [] in
    joined (evaluated p r h) is c t s ∙ brings p r h u (λ b m. Goes (pushed (cond b (rest (instrs_of body) (inner c) ∷ []) []) u) m) s
    (λ b m. if-begins b body c u m)
begins-so (Text text) p is c t s = text-begins text p is c t s
begins-so (Element name sets body) p is c t s =
    let u : Evaluation = pushed (rest_works is (more 0 c)) t in
    let r : Run Label = name_run t.world false name c.focus (last c.seen t.slots) in
    let y : Trace Task = calls_at t.world c.focus (using sets) p c.focus
    ⨾ (body_trace body t.world (calls_at t.world c.focus) c.focus (last c.seen t.slots) ⨾ Put End ∷ []) in
    let h : Label → Trace Task = λ label. Put (Start label) ∷ y in
    let f : Label → State Task → Step Task Evaluation = λ label m. element_put label sets body c u m in
    joined (evaluated p r h) is c t s ∙ brings p r h u f s (λ label m.
    before (put (Start label) m) (λ n. play y n) (λ q n. Go u n) (λ n. Goes (inside_begun sets body c u) n) Go (λ n. inside-begins sets p body c u n))
    ∙ ap (λ g. and_then (and_then g f) Go) (sym (name-reported t.world p c.focus (last c.seen t.slots) false name s))
begins-so (Attribute name body) p is c t s =
    let u : Evaluation = pushed (rest_works is (more 0 c)) t in
    let r : Run Label = name_run t.world true name c.focus (last c.seen t.slots) in
    let content : Trace Task = body_trace body t.world (calls_at t.world c.focus) (captured_in c.focus) (last c.seen t.slots) in
    let h : Label → Trace Task = λ label. makes (made.Attribute label) p content in
    let f : Label → State Task → Step Task Evaluation = λ label m. made_begun (made.Attribute label) body p c u m in
    joined (evaluated p r h) is c t s ∙ brings p r h u f s (λ label m. made-begins (made.Attribute label) body p c u m)
    ∙ ap (λ g. and_then (and_then g f) Go) (sym (name-reported t.world p c.focus (last c.seen t.slots) true name s))
begins-so (Comment body) p is c t s =
    joined (makes made.Comment p (body_trace body t.world (calls_at t.world c.focus) (captured_in c.focus) (last c.seen t.slots))) is c t s
    ∙ made-begins made.Comment body p c (pushed (rest_works is (more 0 c)) t) s
begins-so (Pi name body) p is c t s =
    let u : Evaluation = pushed (rest_works is (more 0 c)) t in
    let r : Run (List ℕ) = target_run t.world name c.focus (last c.seen t.slots) in
    let content : Trace Task = body_trace body t.world (calls_at t.world c.focus) (captured_in c.focus) (last c.seen t.slots) in
    let h : List ℕ → Trace Task = λ target. makes (made.Instruction target) p content in
    let f : List ℕ → State Task → Step Task Evaluation = λ target m. made_begun (made.Instruction target) body p c u m in
    joined (evaluated p r h) is c t s ∙ brings p r h u f s (λ target m. made-begins (made.Instruction target) body p c u m)
    ∙ ap (λ g. and_then (and_then g f) Go) (sym (target-reported t.world p c.focus (last c.seen t.slots) name s))
begins-so (Message terminate body) p is c t s =
    let u : Evaluation = pushed (rest_works is (more 0 c)) t in
    let h : List Event → Trace Task = λ es. says p (fragment_text es) ⨾ ended_if terminate p in
    joined (captured (body_trace body t.world (calls_at t.world c.focus) (captured_in c.focus) (last c.seen t.slots)) h) is c t s
    ∙ captures body c h u (pushed (say p terminate ∷ []) u) s (λ m.
    ap (λ g. and_then g (λ v n. Go u n)) (sym (message-reported p terminate (fragment_text (top m.captures)) (popped m)))
    ∙ sym (then-then (message_ended p terminate m) (λ v n. Goes u.slots n) (λ us n. stack_steps t.world u.works us n)))
begins-so (Variable' site name content) p is c t s =
    content-begins content p c (λ x. instrs_trace is t.world (calls_at t.world c.focus) c.focus (last c.seen t.slots ++ x ∷ []))
    (slots_are (without c.own t.slots) t)
    (pushed (rest_works is (bound c)) t) s (λ x m.
    binds (instrs_trace is t.world (calls_at t.world c.focus) c.focus) c t x m ∙ rest-same is (bound c) (filled_up (x ∷ []) t) m)
begins-so (Literal start body) p is c t s =
    let u : Evaluation = pushed (rest_works is (more 0 c)) t in
    let x : Trace Task = body_trace body t.world (calls_at t.world c.focus) c.focus (last c.seen t.slots) ⨾ Put End ∷ [] in
    let attributes : Trace Task = literal_attributes start.attributes p t.world c.focus (last c.seen t.slots) in
    let y : Trace Task = calls_at t.world c.focus (using start.sets) p c.focus ⨾ (attributes ⨾ x) in
    let z : Trace Task = begins t.world start p in
    joined (z ⨾ y) is c t s
    ∙ ap (λ g. and_then g (λ q m. Go u m)) (play-then z y s)
    ∙ ap (λ g. and_then (and_then g (λ q m. play y m)) (λ q m. Go u m)) (sym (literal-reported t.world p start s))
    ∙ before (literal_steps t.world.sheet.aliases p start s) (λ m. play y m) (λ q m. Go u m) (λ m. literal_inside start body p c u m) Go
    (λ m. literal-begins start p body c u m)
begins-so (Extension fallbacks) p is c t s =
    let u : Evaluation = pushed (rest_works is (more 0 c)) t in
    joined (fallbacks_trace fallbacks p t.world (calls_at t.world c.focus) c.focus (last c.seen t.slots)) is c t s
    ∙ ap (λ x. Then x u s) (fallbacks-bodies fallbacks p t.world (calls_at t.world c.focus) c.focus (last c.seen t.slots))
    ∙ fallbacks-begin (bodies_of fallbacks) p c u s

-- a body, of which the next instruction begins
rest-begins : (is : List Instr) (c : Scope) (t : Evaluation) (s : State Task) → Go (pushed (rest is c ∷ []) t) s ≡ and_then (rest_begun is c t s) Go
rest-begins [] c t s = refl
rest-begins (i ∷ is) c t s =
    let x : Trace Task = instr_trace i.kind i.site t.world (calls_at t.world c.focus) c.focus (last c.seen t.slots)
    (instrs_trace is t.world (calls_at t.world c.focus) c.focus) in
    sym (behind (Tick i.site ∷ x) (without c.own t.slots) t s)
    ∙ ticks i.site x (slots_are (without c.own t.slots) t) (pushed (rest_works is (after i.kind c)) t)
    (λ m. begun i.kind i.site c (pushed (rest_works is (after i.kind c)) t) m) s (begins-so i.kind i.site is c t)

-- a template that begins at once does what one does that is pushed
params-enter : (bs : List Binding) (ps : Params) (body : Body) (c : Scope) (t : Evaluation) (s : State Task) →
    Go (pushed (params_first bs ps body c ∷ []) t) s ≡ and_then (params_entered bs ps body c t s) Go
params-enter [] ps body c t s = rest-begins (instrs_of body) c t s
params-enter (b ∷ bs) ps body c t s = refl

template-enters : (o : Option Template) (ps : Params) (f : Focus) (t : Evaluation) (s : State Task) →
    Go (template_begun o ps f t) s ≡ and_then (template_entered o ps f t s) Go
template-enters None ps f t s = refl
template-enters (Some template) ps f t s = params-enter template.params ps template.body (outer f) t s

rule-enters : (o : Option ℕ) (mode : ℕ) (ps : Params) (p : Site) (f : Focus) (t : Evaluation) (s : State Task) →
    and_then (rule_begun o mode ps p f t s) Go ≡ and_then (rule_entered o mode ps p f t s) Go
rule-enters None mode ps p f t s = refl
rule-enters (Some rule) mode ps p f t s = template-enters (slice_get t.world.sheet.templates rule) ps (by_rule rule mode f) t s

if-enters : (q : Bool) (g x y : Step Task Evaluation) → and_then x Go ≡ and_then y Go → and_then (cond q g x) Go ≡ and_then (cond q g y) Go
if-enters true g x y e = refl
if-enters false g x y e = e

fitting-enters : (mode : ℕ) (ps : Params) (p : Site) (f : Focus) (t : Evaluation) (s : State Task) →
    Then (calls_at t.world f (fitting mode ps) p f) t s ≡ and_then (entering_fitting mode ps p f t s) Go
fitting-enters mode ps p f t s =
    let g : Focus = in_template t.world f in
    let o : Option ℕ = rule_for t.world mode f.node in
    enters (fitting mode ps) tt p f t s
    ∙ if-enters (f.depth == 0) (stops (Fault fault.TooDeep p) s) (rule_begun o mode ps p g t s) (rule_entered o mode ps p g t s) (rule-enters o mode ps p g t s)

-- each kind of work
pub advances : (b : Work) (t : Evaluation) → IsSetIndex t.world.sheet.sets t.world.index → (s : State Task) →
    Go (pushed (b ∷ []) t) s ≡ and_then (advanced b t s) Go
advances (rest is c) t index s = rest-begins is c t s
advances fill t index s = refl
advances (each_left body p c i []) t index s = refl
advances (each_left body p c i (n ∷ ns)) t index s =
    let b : Work = each_left body p c (i + 1) ns in
    let here : Scope = over (at_node n i c.focus) c in
    let f : Focus → Trace Task = λ g. body_trace body t.world (calls_at t.world c.focus) g (last c.seen t.slots) in
    sym (behind (each p f c.focus i (n ∷ ns)) t.slots t s)
    ∙ ticks p (f (at_node n i c.focus) ⨾ each p f c.focus (i + 1) ns) t t
    (λ m. rest_begun (instrs_of body) here (pushed (b ∷ []) t) m) s (λ m.
    twice (f (at_node n i c.focus)) (each p f c.focus (i + 1) ns) t.slots b t m (λ q. refl)
    ∙ inside body here (pushed (b ∷ []) t) m
    ∙ rest-begins (instrs_of body) here (pushed (b ∷ []) t) m)
advances (apply_left mode ps p f i []) t index s = refl
advances (apply_left mode ps p f i (n ∷ ns)) t index s =
    let b : Work = apply_left mode ps p f (i + 1) ns in
    let x : Focus → Trace Task = calls_at t.world f (fitting mode ps) p in
    sym (behind (each p x f i (n ∷ ns)) t.slots t s)
    ∙ ticks p (x (at_node n i f) ⨾ each p x f (i + 1) ns) t t (λ m. entering_fitting mode ps p (at_node n i f) (pushed (b ∷ []) t) m) s (λ m.
    twice (x (at_node n i f)) (each p x f (i + 1) ns) t.slots b t m (λ q. refl) ∙ fitting-enters mode ps p (at_node n i f) (pushed (b ∷ []) t) m)
advances (bodies_left [] c) t index s = refl
advances (bodies_left (b ∷ bs) c) t index s =
    let f : Body → Trace Task = λ body. body_trace body t.world (calls_at t.world c.focus) c.focus (last c.seen t.slots) in
    let others : Trace Task = all_bodies bs t.world (calls_at t.world c.focus) c.focus (last c.seen t.slots) in
    sym (behind (f b ⨾ others) t.slots t s) ∙ twice (f b) others t.slots (bodies_left bs c) t s (λ m. refl) ∙ inside b c (pushed (bodies_left bs c ∷ []) t) s
advances end_element t index s = then-then (put End s) (λ u m. Goes t.slots m) (λ us m. stack_steps t.world t.works us m) ∙ sym
    (then-then (put End s) (λ u m. Goes t m) Go)
advances (sets_left [] f) t index s = refl
advances (sets_left (name ∷ names) f) t index s =
    let x : Trace Task = declared_trace (declarations_of t.world.sheet.sets name) t.world (calls_at t.world f) f in
    let y : Trace Task = sets_trace names t.world (calls_at t.world f) f in
    let u : Evaluation = pushed (sets_left_works names f) t in
    sym (behind (x ⨾ y) t.slots t s)
    ∙ twice x y t.slots (sets_left names f) t s (λ m. refl)
    ∙ then-same (play x s) (λ q m. Go (pushed (sets_left names f ∷ []) t) m) (λ q m. Go u m) (λ q m. sets-same names f t m)
    ∙ ap (λ z. Then z u s) (served t.world index f name)
    ∙ declarations-begin name 0 f u s
advances (declared_left name i f) t index s =
    sym (behind (declared_trace (drop i (declarations_in t.world.index name)) t.world (calls_at t.world f) f) t.slots t s) ∙ declarations-begin name i f t s
advances (attributes_left xs p c) t index s =
    let x : Trace Task = literal_attributes xs p t.world c.focus (last c.seen t.slots) in
    sym (behind x t.slots t s)
    ∙ alone x (attributes_steps t.world p c.focus (last c.seen t.slots) xs s) t s (attributes-reported t.world p c.focus (last c.seen t.slots) xs s)
advances (make m p) t index s =
    let x : Trace Task = puts_all p (made_at m s) in
    sym (behind x t.slots t (popped s)) ∙ alone x (made_ended m p s) t (popped s) (made-ended m p s)
advances (say p terminate) t index s =
    then-then (message_ended p terminate s) (λ u m. Goes t.slots m) (λ us m. stack_steps t.world t.works us m) ∙ sym
    (then-then (message_ended p terminate s) (λ u m. Goes t m) Go)
advances (pass [] all us callee p c) t index s =
    sym (behind (passing_left [] all callee t.world p c.focus (last c.seen t.slots) us) t.slots t s) ∙ call-begins callee
    (record { bindings = all; values = us }) p c.focus t s
advances (pass (b ∷ left) all us callee p c) t index s =
    sym (behind (passing_left (b ∷ left) all callee t.world p c.focus (last c.seen t.slots) us) t.slots t s) ∙ pass-begins b.content left all us callee p c t s
advances (take_value left all us callee p c) t index s =
    let vs : List Value = us ++ fragment_at s ∷ [] in
    sym (behind (passing_left left all callee t.world p c.focus (last c.seen t.slots) vs) t.slots t (popped s)) ∙ passes-on left all vs callee p c t (popped s)
advances (params_left [] ps body c) t index s =
    ap (λ x. and_then (filled x (without c.own t.slots) s) (λ us m. stack_steps t.world t.works us m))
    (body-instrs body t.world (calls_at t.world c.focus) c.focus (last c.seen t.slots))
advances (params_left (b ∷ bs) ps body c) t index s =
    let v : Evaluation = slots_are (without c.own t.slots) t in
    let u : Evaluation = pushed (params_first bs ps body (bound c) ∷ []) t in
    let x : List Value → Trace Task = λ vs. params_trace bs ps t.world (calls_at t.world c.focus) c.focus vs
    (body_trace body t.world (calls_at t.world c.focus) c.focus) in
    let next : Value → Trace Task = λ y. x (last c.seen t.slots ++ y ∷ []) in
    let first : Trace Task = param_trace (value_passed b.name ps) b.content b.site t.world (calls_at t.world c.focus) c.focus (last c.seen t.slots) next in
    sym (behind (Tick b.site ∷ first) (without c.own t.slots) t s)
    ∙ ticks b.site first v u (λ m. param_begun (value_passed b.name ps) b.content b.site c u m) s (λ m.
    param-begins (value_passed b.name ps) b.content b.site c next v u m (λ y n.
    binds x c t y n ∙ ap (λ g. and_then g (λ us q. stack_steps t.world t.works us q)) (params-same bs ps body (bound c) t.world (t.slots ++ y ∷ []) n)))
