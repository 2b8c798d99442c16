use Rattle.std.proofs.Common.{◌<◌, List, false, length, refl, rules, sym, subst}
use Rattle.std.proofs.lemmas.Result.{err_from_is_err_and}
use Rattle.xs_sheet.specs.declared.body.InstrKind.{InstrKind}
use Rattle.xs_sheet.specs.declared.body.SortDecl.{SortDecl}
use Rattle.xs_trace.specs.Play.{IsStepBy, and_then}
use Rattle.xs_trace.specs.Run.{limited}
use Rattle.xs_body_spec.specs.World.{looped_nodes}
use Rattle.xs_body.specs.steps.Lists.{nodes_in}
use Rattle.xs_body.specs.steps.Frames.{Evaluation, begun, chars_steps, copy_of_steps, element_put, last, loop_begun, number_steps, value_steps}
use Rattle.xs_body.specs.steps.Making.{name_steps}
use Rattle.xs_body.proofs.ExitLemmas.{stack-exit, stays-reported}
use Rattle.xs_body.proofs.GrowthLemmas.{element-grows, loop-grows}
use Rattle.xs_body.proofs.evaluator.Evaluator.begin.Goals as goal

pub returns-in-ValueOf-clause-reported : goal.returns-in-ValueOf-clause-reported
returns-in-ValueOf-clause-reported g c =
    let t : Evaluation = c.args.self.now in
    let s = g.R.Tally.state c.args.recorder.now in
    subst (λ (k : InstrKind). IsStepBy {A = Evaluation} {B = Unit {0}} (λ u. t) (begun k c.args.site c.args.scope t s) c.put_value.result
    (g.R.Tally.state c.put_value.new.recorder)) (sym c.in-ValueOf.is)
    (stays-reported (value_steps c.in-ValueOf.select c.args.site c.args.scope t s) t t _ c.put_value.result refl c.put_value.ensures.reported)

pub returns-in-Text-clause-reported : goal.returns-in-Text-clause-reported
returns-in-Text-clause-reported g c =
    let t : Evaluation = c.args.self.now in
    let v : Evaluation = c.put_fixed_text.new.self in
    let s = g.R.Tally.state c.args.recorder.now in
    subst (λ (k : InstrKind). IsStepBy {A = Evaluation} {B = Unit {0}} (λ u. v) (begun k c.args.site c.args.scope t s) c.put_fixed_text.result
    (g.R.Tally.state c.put_fixed_text.new.recorder)) (sym c.in-Text.is)
    (stays-reported (chars_steps c.args.site c.in-Text.text s) t v _ c.put_fixed_text.result c.put_fixed_text.ensures.same c.put_fixed_text.ensures.reported)

pub returns-in-CopyOf-clause-reported : goal.returns-in-CopyOf-clause-reported
returns-in-CopyOf-clause-reported g c =
    let t : Evaluation = c.args.self.now in
    let v : Evaluation = c.put_copy.new.self in
    let s = g.R.Tally.state c.args.recorder.now in
    subst (λ (k : InstrKind). IsStepBy {A = Evaluation} {B = Unit {0}} (λ u. v) (begun k c.args.site c.args.scope t s) c.put_copy.result
    (g.R.Tally.state c.put_copy.new.recorder)) (sym c.in-CopyOf.is)
    (stays-reported (copy_of_steps c.in-CopyOf.select c.args.site c.args.scope t s) t v _ c.put_copy.result c.put_copy.ensures.same c.put_copy.ensures.reported)

pub returns-in_err-name-in-Element-clause-reported : goal.returns-in_err-name-in-Element-clause-reported
returns-in_err-name-in-Element-clause-reported g c =
    let p = err_from_is_err_and c.from_residual-in_err-name-in-Element.result c.from_residual-in_err-name-in-Element.ensures.1 in
    let t : Evaluation = c.args.self.now in
    let v : Evaluation = c.made_name.new.self in
    let s = g.R.Tally.state c.args.recorder.now in
    let sets = c.in-Element.sets in
    let body = c.in-Element.body in
    subst (λ (k : InstrKind). IsStepBy {A = Evaluation} {B = Unit {0}} (λ u. v) (begun k c.args.site c.args.scope t s)
    c.from_residual-in_err-name-in-Element.result (g.R.Tally.state c.made_name.new.recorder)) (sym c.in-Element.is)
    (stack-exit (λ x. x) (name_steps t.world c.args.site c.args.scope.focus (last c.args.scope.seen t.slots) false c.in-Element.name s)
    (λ label m. element_put label sets body c.args.scope t m) v _ c.from_residual-in_err-name-in-Element.result _ _
    (λ label. element-grows label sets body c.args.scope t) p.1 p.2 c.in_err-name-in-Element.ensures.reported)

pub begin_element-requires-sync-K : goal.begin_element-requires-sync-K
begin_element-requires-sync-K g c κs within =
    let same = c.in_ok-name-in-Element.ensures.same in
    let node = subst (λ (t : Evaluation). c.args.scope.focus.node < length t.world.tree) (sym same) c.requires.node in
    (search rules, ((refl, tt), node))

pub returns-in-Number-clause-reported : goal.returns-in-Number-clause-reported
returns-in-Number-clause-reported g c =
    let t : Evaluation = c.args.self.now in
    let s = g.R.Tally.state c.args.recorder.now in
    subst (λ (k : InstrKind). IsStepBy {A = Evaluation} {B = Unit {0}} (λ u. t) (begun k c.args.site c.args.scope t s) c.put_number.result
    (g.R.Tally.state c.put_number.new.recorder)) (sym c.in-Number.is)
    (stays-reported (number_steps c.in-Number.decl c.args.site c.args.scope t s) t t _ c.put_number.result refl c.put_number.ensures.reported)

pub returns-in_err-nodes-in-ForEach-clause-reported : goal.returns-in_err-nodes-in-ForEach-clause-reported
returns-in_err-nodes-in-ForEach-clause-reported g c =
    let p = err_from_is_err_and c.from_residual.result c.from_residual.ensures.1 in
    let t : Evaluation = c.args.self.now in
    let s = g.R.Tally.state c.args.recorder.now in
    let m = g.R.Tally.state c.looped_nodes.new.recorder in
    let body = c.in-ForEach.body in
    let site = c.args.site in
    let scope = c.args.scope in
    subst (λ (k : InstrKind). IsStepBy {A = Evaluation} {B = Unit {0}} (λ u. t) (begun k site scope t s) c.from_residual.result m) (sym c.in-ForEach.is)
    (subst (λ (sorts : List SortDecl). IsStepBy {A = Evaluation} {B = Unit {0}} (λ u. t)
    (and_then (limited site (looped_nodes t.world c.in-ForEach.select sorts scope.focus (last scope.seen t.slots)) s)
    (λ ns n. loop_begun body site scope ns t n)) c.from_residual.result m) c.as_slice.ensures
    (stack-exit (λ l. nodes_in l)
    (limited site (looped_nodes t.world c.in-ForEach.select c.as_slice.result.now scope.focus (last scope.seen t.slots)) s)
    (λ ns n. loop_begun body site scope ns t n) t _ c.from_residual.result _ _
    (λ ns. loop-grows body site scope ns t) p.1 p.2 c.in_err-nodes-in-ForEach.ensures.reported))
