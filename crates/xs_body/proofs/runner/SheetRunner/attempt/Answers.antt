use Rattle.std.proofs.Common.{◌≡◌, IfOk, None, false, true, ap, refl, rules, slice_get, subst, ◌∙◌}
use Rattle.xs_trace.specs.Kept.{marks_of}
use Rattle.xs_trace.specs.Mark.{messages_of}
use Rattle.xs_body_spec.specs.Globals.{attempt_cut, attempt_value}
use Rattle.xs_body.specs.Results.{IsAttempt}
use Rattle.xs_body_spec.specs.Tasks.{Task}
use Rattle.xs_body_spec.specs.World.{World}
use Rattle.xs_body.proofs.AttemptLemmas.{attempt-comes}
use Rattle.xs_body.proofs.WholeLemmas.{no-grain}
use Rattle.xs_body.proofs.runner.SheetRunner.attempt.Goals as goal

pub report_global-reported-requires-sync-K : goal.report_global-reported-requires-sync-K
report_global-reported-requires-sync-K g c κs within =
    let v : c.self.inside.world ≡ c.args.self.now = c.self.view_is in
    let e : c.self.inside.world.grain ≡ None = ap (λ (x : World). x.grain) v ∙ c.requires.whole in
    (search rules, ((refl, tt), no-grain {A = false ≡ true} c.self.inside.world.grain e))

pub returns-clause-attempt : goal.returns-clause-attempt
returns-clause-attempt g c =
    let v : c.self.inside.world ≡ c.args.self.now = c.self.view_is in
    let w : World = c.self.inside.world in
    subst (λ (x : World). IfOk c.attempt_of.result (λ a. IsAttempt (attempt_cut x c.args.global c.args.limit)
    (attempt_value x (slice_get x.sheet.globals c.args.global)) a)) v
    (attempt-comes w (slice_get w.sheet.globals c.args.global) c.args.limit _ _ _ _ _ _ c.report_global-reported.result c.attempt_of.result
    c.new-brief.ensures.begins c.finish-items.ensures.items c.left.ensures.left
    (c.in_ok-says.ensures ∙ ap (λ is. messages_of {H = Task} (marks_of is)) c.deref.ensures.value) (search rules) c.report_global-reported.ensures.reported
    c.attempt_of.ensures)
