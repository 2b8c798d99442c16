use Rattle.std.proofs.Common.{◌∷◌, ◌++◌, [], ap, sym, ◌∙◌}
use Rattle.std.proofs.lemmas.Result.{err_from_is_err_and}
use Rattle.xs_trace.specs.Run.{Run, limited}
use Rattle.xs_trace.specs.State.{State}
use Rattle.xs_trace.specs.Play.{Step, and_then}
use Rattle.xs_trace.proofs.GrowthLemmas.{passes}
use Rattle.xs_value.specs.declared.value.Value.{Value}
use Rattle.xs_body_spec.specs.Tasks.{Task}
use Rattle.xs_body_spec.specs.World.{value_run}
use Rattle.xs_body.specs.declared.frames.Passing.{Passing}
use Rattle.xs_body.specs.declared.frames.Scope.{Scope}
use Rattle.xs_body.specs.steps.Frames.{Evaluation, called_of, last, passes_on}
use Rattle.xs_body.proofs.GrowthLemmas.{passes-grow}
use Rattle.xs_body.proofs.evaluator.Evaluator.pass_selected.Goals as goal

pub returns-in_err-value-clause-reported : goal.returns-in_err-value-clause-reported
returns-in_err-value-clause-reported g c =
    let p = err_from_is_err_and c.from_residual.result c.from_residual.ensures.1 in
    let t = c.args.self.now in
    let q = c.args.passing.value in
    let s = g.R.Tally.state c.args.recorder.now in
    let at = c.deref.result.now in
    let from = c.deref-2.result.now in
    let next : Value → State Task → Step Task Evaluation = λ v m.
    passes_on q.left.now q.all.now (q.values.items ++ v ∷ []) (called_of q.callee) q.site q.scope t m in
    let run : Scope → Run Value = λ b. value_run t.world c.args.expr.now b.focus (last b.seen t.slots) in
    passes (λ x. x) _ _ (limited at.site (run from.scope) s) next (g.R.Tally.state c.value.new.tally) c.from_residual.result _ _
    (ap (λ (p : Passing). and_then (limited p.site (run q.scope) s) next) (sym c.deref.ensures)
    ∙ ap (λ (p : Passing). and_then (limited at.site (run p.scope) s) next) (sym c.deref-2.ensures))
    (λ v. passes-grow q.left.now q.all.now (q.values.items ++ v ∷ []) (called_of q.callee) q.site q.scope t) p.1 p.2 c.in_err-value.ensures.reported
