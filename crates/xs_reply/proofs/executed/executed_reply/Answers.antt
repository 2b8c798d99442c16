use Rattle.std.proofs.Common.{refl}
use Rattle.xs_result_laws.specs.Named.{IsNamedWorld}
use Rattle.xs_reply.specs.Ran.{pieces_of}
use Rattle.xs_reply.specs.Reply.{job_data}
use Rattle.xs_reply.proofs.EvaluationLemmas.{stopped_in_root, whole_in_root}
use Rattle.xs_reply.proofs.executed.executed_reply.Goals as goal

pub returns-in-None-clause-answer : goal.returns-in-None-clause-answer
returns-in-None-clause-answer c = λ w t of said took settles ran.
    whole_in_root (job_data c.args.job.now) w t c.args.sheet.now of c.args.says.now said c.args.ticks took settles c.args.executed c.args.job.now.workers ran
    c.runs_put_results.ensures c.with_stats.result c.in_ok-reply-in-None.reply
    (pieces_of c.args.executed)
    c.in-None.is refl refl refl (rw c.deref.ensures.value at c.in_ok-reply-in-None.ensures.answer) c.in_ok-reply-in-None.ensures.reads_back
    c.with_stats.ensures.answer c.with_stats.ensures.pieces

pub returns-clause-answer : goal.returns-clause-answer
returns-clause-answer c = λ w t of said took settles ran.
    stopped_in_root (job_data c.args.job.now) w t c.args.sheet.now of c.args.says.now said c.args.ticks took settles c.args.executed c.args.job.now.workers ran
    (IsNamedWorld w) c.in_ok-reply-in-Some.reply c.with_pieces.result
    (pieces_of c.args.executed)
    c.in-Some.spot c.in-Some.is refl refl refl (rw c.deref-in-Some.ensures.value at c.in_ok-reply-in-Some.ensures)
    c.with_pieces.ensures.answer c.with_pieces.ensures.pieces

pub returns-in-None-clause-pieces : goal.returns-in-None-clause-pieces
returns-in-None-clause-pieces c = c.with_stats.ensures.pieces

pub returns-clause-pieces : goal.returns-clause-pieces
returns-clause-pieces c = c.with_pieces.ensures.pieces
