use denote.Param.Send.{param_send}
use mir.Syntax.{named}
use Rattle.std.proofs.Common.{◌∙◌, Some, ap, arith, refl, subst, sym}
use Rattle.xs_body_spec.specs.Inside.{IsWorld}
use Rattle.xs_globals.specs.Results.{reported_in}
use Rattle.xs_body_spec.specs.Globals.{with_globals}
use Rattle.xs_body_spec.specs.World.{World, with_grain}
use Rattle.xs_reply.specs.Reply.{job_data}
use Rattle.xs_reply.proofs.RanLemmas.{is_ran, ready, run_within}
use Rattle.xs_sheet_pieces.proofs.SyncLemmas.{pieces_sync, task_send}
use Rattle.xs_engine.proofs.SettledLemmas.{all_settled}
use Rattle.xs_engine.proofs.evaluation.root_reply.Goals as goal

pub returns-clause-answer : goal.returns-clause-answer
returns-clause-answer g c =
    let grain = c.args.job.now.grain in
    c.executed_reply.ensures.answer c.args.world.now (reported_in c.args.settled.now) (ap (λ (w : World). w.sheet) c.world.view_is)
    (sym c.deref-2.ensures.value) refl
    (all_settled (job_data c.args.job.now) c.args.world.now c.args.settled.now c.requires.settled c.requires.none)
    (is_ran (job_data c.args.job.now) c.args.world.now (reported_in c.args.settled.now) c.new-runner.result c.in_ok-root.root c.in_ok-executed.executed
    c.requires.whole
    (c.new-runner.ensures ∙ ap (λ (w : World). with_grain (Some grain) (with_globals w c.deref.result.now)) c.world.view_is
    ∙ ap (λ vs. with_grain (Some grain) (with_globals c.args.world.now vs)) c.deref.ensures.value)
    c.in_ok-root.ensures.task c.whole_is_run.ensures c.in_ok-executed.ensures.cut c.args.job.now.workers c.in_ok-executed.ensures.claims
    c.in_ok-executed.ensures.whole c.in_ok-executed.ensures.taken c.in_ok-executed.ensures.only_above c.in_ok-executed.ensures.overspent
    c.in_ok-executed.ensures.worked
    c.in_ok-executed.ensures.missing)

pub execute-requires-clause-ready : goal.execute-requires-clause-ready
execute-requires-clause-ready g c = λ κs o.
    let grain = c.args.job.now.grain in
    ready c.sheet_is_ready.ensures.ready c.new-runner.result c.args.world.now c.args.settled.now.values.items grain
    (c.new-runner.ensures ∙ ap (λ (w : World). with_grain (Some grain) (with_globals w c.deref.result.now)) c.world.view_is
    ∙ ap (λ vs. with_grain (Some grain) (with_globals c.args.world.now vs)) c.deref.ensures.value)
    (subst IsWorld c.world.view_is c.world.invariant.0) c.requires.inside c.requires.values c.requires.job.grain

-- threads share the runner, and send its tasks
pub execute-requires-sync-R : goal.execute-requires-sync-R
execute-requires-sync-R g c κs o = search (pieces_sync (record { mir = named 6; lft = κs.1.1.1.1.1.1.0 }))

pub execute-requires-send-R-Task : goal.execute-requires-send-R-Task
execute-requires-send-R-Task g c κs o =
    let sent = param_send 4 _ (task_send (record { mir = named 6; lft = κs.1.1.1.1.1.1.0 })) in
    record { owned = sent.owned; leaving = sent.leaving }

pub executed_reply-requires : goal.executed_reply-requires
executed_reply-requires g c =
    let few = run_within c.new-runner.result c.in_ok-root.root _ _ c.in_ok-executed.executed c.in_ok-executed.ensures.cut in
    omega (arith, few, c.requires.within)
