use Rattle.xs_modules.specs.Results.{modules_data}
use Rattle.xs_modules.specs.Reading.{refused, unread, out_of_memory}
use Rattle.xs_reply.specs.Reply.{job_data}
use Rattle.xs_reply.proofs.ExpectedLemmas.{module_owed, modules_owed, fault_owed}
use Rattle.xs_reply.proofs.FetchLemmas.{named, modules_asked, all_asked}
use Rattle.xs_engine.proofs.answer.job_reply.Goals as goal

-- The modules were read.
pub returns-in-Ok-clause-fetches : goal.returns-in-Ok-clause-fetches
returns-in-Ok-clause-fetches g c =
    all_asked (job_data c.args.job.now) (g.L.Library.files c.args.library.now) c.in-Ok.ensures.modules.0 (modules_data c.in-Ok.modules)
    (g.L.Library.asked c.args.library.now) (g.L.Library.asked c.read_modules.new.library) (g.L.Library.asked c.modules_reply.new.library)
    (g.L.Library.failed c.args.library.now) (g.L.Library.failed c.read_modules.new.library) (g.L.Library.failed c.modules_reply.new.library)
    (named _ _ c.as_str.result.now c.args.job.now.sheet _ _ _ _ c.as_str.ensures.text c.in-Ok.ensures.modules.1)
    c.in-Ok.ensures.modules.2 (rw c.in-Ok.ensures.files at c.modules_reply.ensures.asks)

pub returns-in-Ok-clause-expected : goal.returns-in-Ok-clause-expected
returns-in-Ok-clause-expected g c =
    modules_owed c.args.job.now.workers c.modules_reply.result (g.L.Library.files c.args.library.now) (job_data c.args.job.now) c.in-Ok.ensures.modules.0
    (modules_data c.in-Ok.modules) (g.L.Library.asked c.args.library.now) (g.L.Library.asked c.read_modules.new.library)
    (g.L.Library.failed c.args.library.now) (g.L.Library.failed c.read_modules.new.library) (g.L.Library.failed c.modules_reply.new.library)
    (named _ _ c.as_str.result.now c.args.job.now.sheet _ _ _ _ c.as_str.ensures.text c.in-Ok.ensures.modules.1)
    c.in-Ok.ensures.modules.2 (rw c.in-Ok.ensures.files at c.modules_reply.ensures.expected)

-- One was not.
pub returns-in-Err-Failed-clause-fetches : goal.returns-in-Err-Failed-clause-fetches
returns-in-Err-Failed-clause-fetches g c =
    let comes = rw c.in-Err-Failed.field-0-is at c.in-Err-Failed.ensures.modules in
    modules_asked (job_data c.args.job.now) (g.L.Library.files c.args.library.now) (unread c.in-Err-Failed.name) _ _ _ _
    (named _ _ c.as_str.result.now c.args.job.now.sheet _ _ _ _ c.as_str.ensures.text comes)

pub returns-in-Err-Failed-clause-expected : goal.returns-in-Err-Failed-clause-expected
returns-in-Err-Failed-clause-expected g c =
    let comes = rw c.in-Err-Failed.field-0-is at c.in-Err-Failed.ensures.modules in
    fault_owed c.args.job.now.workers c.read_fault_reply.result (Unit {0}) _ (g.L.Library.failed c.args.library.now)
    (g.L.Library.failed c.read_modules.new.library)
    c.in-Err-Failed.name comes.fails c.read_fault_reply.ensures

pub returns-in-Err-Refused-clause-fetches : goal.returns-in-Err-Refused-clause-fetches
returns-in-Err-Refused-clause-fetches g c =
    let comes = rw c.in-Err-Refused.field-0-is at c.in-Err-Refused.ensures.modules in
    modules_asked (job_data c.args.job.now) (g.L.Library.files c.args.library.now)
    (refused c.in-Err-Refused.number c.in-Err-Refused.module c.in-Err-Refused.line) _ _ _ _
    (named _ _ c.as_str.result.now c.args.job.now.sheet _ _ _ _ c.as_str.ensures.text comes)

pub returns-in-Err-Refused-clause-expected : goal.returns-in-Err-Refused-clause-expected
returns-in-Err-Refused-clause-expected g c =
    let comes = rw c.in-Err-Refused.field-0-is at c.in-Err-Refused.ensures.modules in
    module_owed c.args.job.now.workers c.refused_reply.result (g.L.Library.files c.args.library.now) (job_data c.args.job.now) c.in-Err-Refused.number
    c.in-Err-Refused.line c.in-Err-Refused.module _ _ _ _ (named _ _ c.as_str.result.now c.args.job.now.sheet _ _ _ _ c.as_str.ensures.text comes)
    c.refused_reply.ensures

pub returns-in-Err-NoMemory-clause-fetches : goal.returns-in-Err-NoMemory-clause-fetches
returns-in-Err-NoMemory-clause-fetches g c =
    let comes = rw c.in-Err-NoMemory.field-0-is at c.in-Err-NoMemory.ensures.modules in
    modules_asked (job_data c.args.job.now) (g.L.Library.files c.args.library.now) out_of_memory _ _ _ _
    (named _ _ c.as_str.result.now c.args.job.now.sheet _ _ _ _ c.as_str.ensures.text comes)
