use Rattle.xs_words.specs.Results.{texts}
use Rattle.xs_reply.specs.Job.{is_streamed, request_of, workers_of}
use Rattle.xs_reply.specs.Reply.{account_of, answer_of}
use Rattle.xs_reply.proofs.GivesLemmas.{at_once, claimed, gives, gives_nothing, gives_only, nothing_at_once}
use Rattle.xs_reply.proofs.JobLemmas.{never_streamed}
use Rattle.xs_reply.proofs.RefusalLemmas.{decides, decides_nothing, listed_fault, never_listed, own_or_cut}
use Rattle.xs_engine.proofs.top.transform.Goals as goal

-- There is a reply, and it was written.
pub returns-in-Ok-clause-gives : goal.returns-in-Ok-clause-gives
returns-in-Ok-clause-gives g c = λ _. (
  answer_of c.in-Ok.reply c.in-Ok.ensures.expected.document c.in-Ok.ensures.expected.pieces,
  c.in-Ok.ensures.expected.answers,
  gives (is_streamed (request_of (texts c.args.words.now))) (workers_of (request_of (texts c.args.words.now))) (account_of c.report_of.result)
      (g.O.Sink.held c.args.out.now) (g.O.Sink.held c.deliver-status.new.out) (g.E.Sink.held c.args.err.now) (g.E.Sink.held c.deliver-status.new.err)
      c.in-Ok.reply c.in-Ok.ensures.expected.document c.in-Ok.ensures.expected.pieces c.deliver-status.result c.report_of.ensures.status
      c.report_of.ensures.ticks
      c.report_of.ensures.fault
      (claimed c.in-Ok.reply (workers_of (request_of (texts c.args.words.now))) c.in-Ok.ensures.expected.document
      c.in-Ok.ensures.expected.pieces (account_of c.report_of.result)
      c.in-Ok.ensures.expected.run c.report_of.ensures.pieces c.report_of.ensures.claims c.report_of.ensures.inline c.report_of.ensures.worked)
      c.deliver-status.ensures.writes (c.in-Ok.ensures.expected.reads tt),
)

pub returns-in-Ok-clause-only : goal.returns-in-Ok-clause-only
returns-in-Ok-clause-only g c =
    gives_only (g.L.Library.files c.args.library.now) _ (g.L.Library.failed c.args.library.now) (g.L.Library.failed c.reply_to.new.library)
    (answer_of c.in-Ok.reply c.in-Ok.ensures.expected.document c.in-Ok.ensures.expected.pieces) (is_streamed (request_of (texts c.args.words.now)))
    (workers_of (request_of (texts c.args.words.now))) (account_of c.report_of.result)
    (g.O.Sink.held c.args.out.now) (g.O.Sink.held c.deliver-status.new.out) (g.E.Sink.held c.args.err.now) (g.E.Sink.held c.deliver-status.new.err)
    c.in-Ok.ensures.expected.answers
    (gives (is_streamed (request_of (texts c.args.words.now))) (workers_of (request_of (texts c.args.words.now))) (account_of c.report_of.result)
    (g.O.Sink.held c.args.out.now) (g.O.Sink.held c.deliver-status.new.out) (g.E.Sink.held c.args.err.now) (g.E.Sink.held c.deliver-status.new.err)
    c.in-Ok.reply c.in-Ok.ensures.expected.document c.in-Ok.ensures.expected.pieces c.deliver-status.result c.report_of.ensures.status c.report_of.ensures.ticks
    c.report_of.ensures.fault
    (claimed c.in-Ok.reply (workers_of (request_of (texts c.args.words.now))) c.in-Ok.ensures.expected.document
    c.in-Ok.ensures.expected.pieces (account_of c.report_of.result)
    c.in-Ok.ensures.expected.run c.report_of.ensures.pieces c.report_of.ensures.claims c.report_of.ensures.inline c.report_of.ensures.worked)
    c.deliver-status.ensures.writes (c.in-Ok.ensures.expected.reads tt))

pub returns-in-Ok-clause-at_once : goal.returns-in-Ok-clause-at_once
returns-in-Ok-clause-at_once g c = λ _.
    at_once c.deliver-status.result c.report_of.result.status (g.O.Sink.held c.args.out.now) (g.O.Sink.held c.deliver-status.new.out)
    (g.O.Sink.faults c.args.out.now) (g.O.Sink.faults c.deliver-status.new.out)
    (g.E.Sink.faults c.args.err.now) (g.E.Sink.faults c.deliver-status.new.err) c.report_of.ensures.status
    c.deliver-status.ensures.untouched c.deliver-status.ensures.write_fault c.deliver-status.ensures.no_fault

pub returns-in-Ok-clause-unstreamed : goal.returns-in-Ok-clause-unstreamed
returns-in-Ok-clause-unstreamed g c = never_streamed (texts c.args.words.now)

pub returns-in-Ok-clause-refused_only : goal.returns-in-Ok-clause-refused_only
returns-in-Ok-clause-refused_only g c =
    listed_fault (g.L.Library.files c.args.library.now) (request_of (texts c.args.words.now)) (g.L.Library.failed c.args.library.now)
    (g.L.Library.failed c.reply_to.new.library) (answer_of c.in-Ok.reply c.in-Ok.ensures.expected.document c.in-Ok.ensures.expected.pieces)
    c.report_of.result.status
    c.report_of.result.fault c.in-Ok.ensures.expected.answers
    (own_or_cut (answer_of c.in-Ok.reply c.in-Ok.ensures.expected.document c.in-Ok.ensures.expected.pieces)
    c.deliver-status.result c.report_of.result.status c.report_of.ensures.status
    c.deliver-status.ensures.status)
    c.report_of.ensures.fault

pub returns-in-Ok-clause-decided : goal.returns-in-Ok-clause-decided
returns-in-Ok-clause-decided g c = λ stays.
    decides (g.L.Library.files c.args.library.now) (request_of (texts c.args.words.now)) (g.L.Library.failed c.args.library.now)
    (g.L.Library.failed c.reply_to.new.library) (answer_of c.in-Ok.reply c.in-Ok.ensures.expected.document c.in-Ok.ensures.expected.pieces)
    c.report_of.result.status
    c.in-Ok.ensures.expected.answers stays
    (own_or_cut (answer_of c.in-Ok.reply c.in-Ok.ensures.expected.document c.in-Ok.ensures.expected.pieces)
    c.deliver-status.result c.report_of.result.status c.report_of.ensures.status
    c.deliver-status.ensures.status)

-- Memory ran out.
pub returns-in-Err-clause-refused_only : goal.returns-in-Err-clause-refused_only
returns-in-Err-clause-refused_only g c =
    never_listed (g.L.Library.files c.args.library.now) (request_of (texts c.args.words.now)) c.refused_memory.result.status
    c.refused_memory.result.fault c.refused_memory.ensures.status

pub returns-in-Err-clause-decided : goal.returns-in-Err-clause-decided
returns-in-Err-clause-decided g c = λ stays.
    decides_nothing (g.L.Library.files c.args.library.now) (request_of (texts c.args.words.now)) c.refused_memory.result.status
    c.refused_memory.ensures.status

pub returns-in-Err-clause-only : goal.returns-in-Err-clause-only
returns-in-Err-clause-only g c =
    gives_nothing (g.L.Library.files c.args.library.now) _ (g.L.Library.failed c.args.library.now) (g.L.Library.failed c.reply_to.new.library)
    (is_streamed (request_of (texts c.args.words.now))) (workers_of (request_of (texts c.args.words.now)))
    (account_of c.refused_memory.result) (g.O.Sink.held c.args.out.now)
    (g.E.Sink.held c.args.err.now) c.refused_memory.ensures.status

pub returns-in-Err-clause-at_once : goal.returns-in-Err-clause-at_once
returns-in-Err-clause-at_once g c = λ _.
    nothing_at_once c.refused_memory.result.status (g.O.Sink.held c.args.out.now) (g.O.Sink.faults c.args.out.now)
    (g.E.Sink.faults c.args.err.now) c.refused_memory.ensures.status

pub returns-in-Err-clause-unstreamed : goal.returns-in-Err-clause-unstreamed
returns-in-Err-clause-unstreamed g c = never_streamed (texts c.args.words.now)
