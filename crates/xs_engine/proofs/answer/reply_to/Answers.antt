use Rattle.xs_words.specs.Results.{texts}
use Rattle.xs_reply.specs.Job.{request_of, workers_of}
use Rattle.xs_reply.specs.Reply.{request_data}
use Rattle.xs_reply.proofs.ExpectedLemmas.{job_owed, usage_owed}
use Rattle.xs_reply.proofs.FetchLemmas.{nothing_asked}
use Rattle.xs_engine.proofs.answer.reply_to.Goals as goal

pub returns-in-None-clause-expected : goal.returns-in-None-clause-expected
returns-in-None-clause-expected g c =
    job_owed c.job_reply.result (Unit {0}) (g.L.Library.files c.args.library.now) (request_of (texts c.args.words.now)) (request_data c.in-Ok.request)
    (g.L.Library.failed c.args.library.now) (g.L.Library.failed c.job_reply.new.library) c.in-Ok.ensures.gives c.in-None.is c.job_reply.ensures.expected

pub returns-in-Err-Usage-clause-expected : goal.returns-in-Err-Usage-clause-expected
returns-in-Err-Usage-clause-expected g c =
    usage_owed (workers_of (request_of (texts c.args.words.now))) c.usage_reply.result (Unit {0}) (g.L.Library.files c.args.library.now)
    (request_of (texts c.args.words.now)) (g.L.Library.failed c.args.library.now)
    (rw c.in-Err-Usage.field-0-is at c.in-Err-Usage.ensures.gives) c.usage_reply.ensures

pub returns-clause-fetches : goal.returns-clause-fetches
returns-clause-fetches g c =
    nothing_asked _ (g.L.Library.files c.args.library.now) (g.L.Library.asked c.args.library.now) (g.L.Library.failed c.args.library.now)
