-- The rows of a stylesheet do what the lists of their items do.
use Rattle.std.proofs.Common.{◌≡◌, List, [], ◌∷◌, ◌++◌, refl, sym, ap, ◌∙◌}
use Rattle.std.proofs.Math.Path.{fun_ext}
use Rattle.xs_sheet.specs.declared.body.Body.{Body, Body', Row_of-Instr, end_of-Instr, more_of-Instr, items-the_row-Instr}
use Rattle.xs_sheet.specs.declared.body.Body.{items_shown-the_row-Instr-0, outs-Body'}
use Rattle.xs_sheet.specs.declared.body.Fallbacks.{Fallbacks, Fallbacks', Row_of-Body, end_of-Body, more_of-Body, items-the_row-Body}
use Rattle.xs_sheet.specs.declared.body.Fallbacks.{items_shown-the_row-Body-2, outs-Fallbacks'}
use Rattle.xs_sheet.specs.declared.body.Passed.{Passed, Passed', Row_of-Binding, end_of-Binding, more_of-Binding, items-the_row-Binding}
use Rattle.xs_sheet.specs.declared.body.Passed.{items_shown-the_row-Binding-3, outs-Passed'}
use Rattle.xs_trace.specs.Mark.{Trace, Tick, Stop, ◌⨾◌}
use Rattle.xs_trace.specs.declared.fault.Fault.TheVariants as fault
use Rattle.xs_trace.specs.declared.item.Site.{Site}
use Rattle.xs_value.specs.declared.value.Value.{Value}
use Rattle.xs_body_spec.specs.declared.focus.Focus.{Focus}
use Rattle.xs_body_spec.specs.World.{World}
use Rattle.xs_body_spec.specs.Tasks.{Params, Task}
use Rattle.xs_body_spec.specs.Trace.{Calls, instr_trace, body_trace, row_trace, content_trace, passing, values_trace, fallbacks_trace}
use Rattle.xs_body_spec.specs.Trace.{unless_none, bodies_trace}
use Rattle.xs_body_spec.specs.Trace.{instrs_trace}
use Rattle.xs_body.specs.steps.Frames.{instrs_of, bindings_of, bodies_of, bindings_trace, all_bodies}

row-instrs : {m : _} (row : Row_of-Instr m) (w : World) (k : Calls) (f : Focus) (vs : List Value) →
    row_trace row w k f vs ≡ instrs_trace (items-the_row-Instr m row) w k f vs
row-instrs end_of-Instr w k f vs = refl
row-instrs (more_of-Instr p kind rest) w k f vs = ap (λ next. Tick p ∷ instr_trace kind p w k f vs next) (fun_ext (row-instrs rest w k f))

pub body-instrs : (body : Body) (w : World) (k : Calls) (f : Focus) (vs : List Value) → body_trace body w k f vs ≡ instrs_trace (instrs_of body) w k f vs
body-instrs (Body' n row) w k f vs =
    row-instrs row w k f vs ∙ ap (λ is. instrs_trace is w k f vs) (sym (items_shown-the_row-Instr-0 n row))
    ∙ ap (λ b. instrs_trace b.instrs w k f vs) (sym (outs-Body' n row))

row-bindings : {m : _} (row : Row_of-Binding m) (p : Site) (w : World) (k : Calls) (f : Focus) (vs us : List Value) (next : List Value → Trace Task) →
    values_trace row p w k f vs us next ≡ bindings_trace (items-the_row-Binding m row) p w k f vs us next
row-bindings end_of-Binding p w k f vs us next = refl
row-bindings (more_of-Binding site name content rest) p w k f vs us next =
    ap (content_trace content p w k f vs) (fun_ext (λ v. row-bindings rest p w k f vs (us ++ v ∷ []) next))

pub passing-bindings : (passed : Passed) (p : Site) (w : World) (k : Calls) (f : Focus) (vs : List Value) (next : Params → Trace Task) →
    passing passed p w k f vs next ≡ bindings_trace (bindings_of passed) p w k f vs [] (λ us. next (record { bindings = bindings_of passed; values = us }))
passing-bindings (Passed' n row) p w k f vs next =
    let last : List Value → Trace Task = λ us. next (record { bindings = bindings_of (Passed' n row); values = us }) in
    row-bindings row p w k f vs [] last ∙ ap (λ bs. bindings_trace bs p w k f vs [] last) (sym (items_shown-the_row-Binding-3 n row))
    ∙ ap (λ b. bindings_trace b.params p w k f vs [] last) (sym (outs-Passed' n row))

row-bodies : {m : _} (row : Row_of-Body m) (w : World) (k : Calls) (f : Focus) (vs : List Value) →
    bodies_trace row w k f vs ≡ all_bodies (items-the_row-Body m row) w k f vs
row-bodies end_of-Body w k f vs = refl
row-bodies (more_of-Body body rest) w k f vs = ap (λ x. body_trace body w k f vs ⨾ x) (row-bodies rest w k f vs)

-- the fallbacks of an extension element, or that there are none
abbrev pub fallback_trace : List Body → Site → World → Calls → Focus → List Value → Trace Task
fallback_trace [] p w k f vs = Stop fault.NoExtension p ∷ []
fallback_trace (b ∷ bs) p w k f vs = all_bodies (b ∷ bs) w k f vs

row-fallbacks : {m : _} (row : Row_of-Body m) (p : Site) (w : World) (k : Calls) (f : Focus) (vs : List Value) →
    unless_none row p (bodies_trace row w k f vs) ≡ fallback_trace (items-the_row-Body m row) p w k f vs
row-fallbacks end_of-Body p w k f vs = refl
row-fallbacks (more_of-Body body rest) p w k f vs = row-bodies (more_of-Body body rest) w k f vs

pub fallbacks-bodies : (fallbacks : Fallbacks) (p : Site) (w : World) (k : Calls) (f : Focus) (vs : List Value) →
    fallbacks_trace fallbacks p w k f vs ≡ fallback_trace (bodies_of fallbacks) p w k f vs
fallbacks-bodies (Fallbacks' n row) p w k f vs =
    row-fallbacks row p w k f vs ∙ ap (λ bs. fallback_trace bs p w k f vs) (sym (items_shown-the_row-Body-2 n row))
    ∙ ap (λ b. fallback_trace b.bodies p w k f vs) (sym (outs-Fallbacks' n row))
