use Rattle.std.proofs.Common.{refl}
use Rattle.xs_modules.specs.Results.{modules_data}
use Rattle.xs_reply.specs.Reply.{job_data}
use Rattle.xs_reply.proofs.ExpectedLemmas.{checked_owed, run_owed, static_owed}
use Rattle.xs_reply.proofs.FetchLemmas.{sheet_asked_for, source_left}
use Rattle.xs_result_laws.specs.Named.{IsNamedSheet}
use Rattle.xs_engine.proofs.answer.modules_reply.Goals as goal

-- A run of a compiled stylesheet.
pub returns-in-Ok-clause-asks : goal.returns-in-Ok-clause-asks
returns-in-Ok-clause-asks g c =
    sheet_asked_for (g.L.Library.files c.args.library.now) (job_data c.args.job.now) (modules_data c.args.modules.now) _
    (g.L.Library.asked c.args.library.now) (g.L.Library.asked c.run_reply.new.library)
    (g.L.Library.failed c.args.library.now) (g.L.Library.failed c.run_reply.new.library) c.in-Some.is
    c.in-Ok.ensures.accepted c.run_reply.ensures.asks

pub returns-in-Ok-clause-expected : goal.returns-in-Ok-clause-expected
returns-in-Ok-clause-expected g c =
    run_owed (g.L.Library.files c.args.library.now) (job_data c.args.job.now) (modules_data c.args.modules.now)
    (g.L.Library.failed c.args.library.now) (g.L.Library.failed c.run_reply.new.library) c.args.job.now.workers c.run_reply.result
    (IsNamedSheet c.in-Ok.sheet) c.in-Ok.sheet _
    (c.sheets_are_named.ensures (modules_data c.args.modules.now) c.in-Ok.sheet c.requires.sound c.modules_are_trees.ensures c.in-Ok.ensures.stands)
    c.in-Some.is c.in-Ok.ensures.accepted c.in-Ok.ensures.stands c.run_reply.ensures.expected

-- A static fault, or out of memory.
pub returns-in-Err-Refused-clause-asks : goal.returns-in-Err-Refused-clause-asks
returns-in-Err-Refused-clause-asks g c = source_left _ _ _ _ _ _ _ refl refl

pub returns-in-Err-Refused-clause-expected : goal.returns-in-Err-Refused-clause-expected
returns-in-Err-Refused-clause-expected g c =
    let first = rw c.in-Err-Refused.field-0-is at c.in-Err-Refused.ensures in
    static_owed (g.L.Library.files c.args.library.now) (job_data c.args.job.now) (modules_data c.args.modules.now)
    (g.L.Library.failed c.args.library.now) (g.L.Library.failed c.args.library.now) c.args.job.now.workers c.static_reply.result
    c.in-Err-Refused.fault refl first
    (rw c.in-Err-Refused.fault-is at c.static_reply.ensures.answer)

pub returns-in-Err-NoMemory-clause-asks : goal.returns-in-Err-NoMemory-clause-asks
returns-in-Err-NoMemory-clause-asks g c = source_left _ _ _ _ _ _ _ refl refl

-- The stylesheet is only checked.
pub returns-in-None-clause-asks : goal.returns-in-None-clause-asks
returns-in-None-clause-asks g c = source_left _ _ _ _ _ _ _ refl refl

pub returns-in-None-clause-expected : goal.returns-in-None-clause-expected
returns-in-None-clause-expected g c =
    checked_owed (g.L.Library.files c.args.library.now) (job_data c.args.job.now) (modules_data c.args.modules.now)
    (g.L.Library.failed c.args.library.now) (g.L.Library.failed c.args.library.now) c.args.job.now.workers c.check_reply.result
    c.in-None.is refl c.check_reply.ensures.answer
