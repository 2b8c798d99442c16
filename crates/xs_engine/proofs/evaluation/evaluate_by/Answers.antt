use mir.Syntax.{named}
use Rattle.xs_making.specs.Laws.{AreWell}
use Rattle.xs_globals.specs.Results.{reported_in}
use Rattle.xs_lookup.proofs.SyncLemmas.{finder_sync}
use Rattle.xs_lookup.specs.Ready.{tables_in}
use Rattle.xs_body_spec.specs.World.{ground}
use Rattle.xs_result_laws.specs.Named.{IsNamedSheet, IsNamedWorld}
use Rattle.xs_reply.specs.Evaluation.{IsEvaluated}
use Rattle.xs_reply.specs.Reply.{job_data}
use Rattle.xs_reply.proofs.EvaluationLemmas.{ended_in_globals}
use Rattle.xs_reply.proofs.ReadBackLemmas.{ground_named}
use Rattle.xs_reply.proofs.ReplyLemmas.{replies_so}
use Rattle.xs_engine.proofs.SettledLemmas.{ended_globals}
use Rattle.xs_engine.proofs.evaluation.evaluate_by.Goals as goal

pub returns-in-Some-clause-answer : goal.returns-in-Some-clause-answer
returns-in-Some-clause-answer g c =
    let w = ground c.args.sheet.now c.args.index.now c.args.tree.now (tables_in c.args.finder.now) in
    ended_in_globals (job_data c.args.job.now) w (reported_in c.in_ok-settled.settled) c.args.job.now.workers c.stopped_reply.result
    (IsNamedSheet c.args.sheet.now × AreWell c.args.tree.now) c.in-Some.spot
    (ended_globals (job_data c.args.job.now) w c.in_ok-settled.settled (rw c.deref.ensures.value at c.in_ok-settled.ensures.settles)
    c.in-Some.spot c.in-Some.is)
    (rw c.deref-in-Some.ensures.value at c.stopped_reply.ensures)

pub returns-clause-answer : goal.returns-clause-answer
returns-clause-answer g c =
    let w = ground c.args.sheet.now c.args.index.now c.args.tree.now (tables_in c.args.finder.now) in
    replies_so c.args.job.now.workers c.root_reply.result (IsNamedWorld w) (IsNamedSheet c.args.sheet.now × AreWell c.args.tree.now)
    (IsEvaluated (job_data c.args.job.now) w) (IsEvaluated (job_data c.args.job.now) w)
    (λ h.
    ground_named c.args.sheet.now c.args.index.now c.args.tree.now (tables_in c.args.finder.now)
    h.0 c.len-count.ensures.tree h.1)
    (λ a is. is) c.root_reply.ensures.answer

pub settle-requires-sync-K : goal.settle-requires-sync-K
settle-requires-sync-K g c κs = search (finder_sync (record { mir = named 3; lft = κs.1.1.1.0 }))
