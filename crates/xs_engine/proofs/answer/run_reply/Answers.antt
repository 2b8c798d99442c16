use Rattle.std.proofs.Common.{refl}
use Rattle.xs_making.specs.Laws.{AreWell}
use Rattle.xs_result_laws.specs.Named.{IsNamedSheet}
use Rattle.xs_reply.specs.Reply.{job_data}
use Rattle.xs_reply.proofs.ExpectedLemmas.{evaluated_owed, fault_owed, refused_owed}
use Rattle.xs_reply.proofs.FetchLemmas.{after_source}
use Rattle.xs_engine.proofs.answer.run_reply.Goals as goal

-- The source is asked for.
pub returns-in-Ok-Ok-clause-asks : goal.returns-in-Ok-Ok-clause-asks
returns-in-Ok-Ok-clause-asks g c =
    after_source c.read_source.result c.as_str.result.now c.args.source.now _ _ _ _ _ _ c.as_str.ensures.text
    c.read_source.ensures.asked c.read_source.ensures.failed

pub returns-in-Ok-Err-clause-asks : goal.returns-in-Ok-Err-clause-asks
returns-in-Ok-Err-clause-asks g c =
    after_source c.read_source.result c.as_str.result.now c.args.source.now _ _ _ _ _ _ c.as_str.ensures.text
    c.read_source.ensures.asked c.read_source.ensures.failed

pub returns-in-Err-Failed-clause-asks : goal.returns-in-Err-Failed-clause-asks
returns-in-Err-Failed-clause-asks g c =
    after_source c.read_source.result c.as_str.result.now c.args.source.now _ _ _ _ _ _ c.as_str.ensures.text
    c.read_source.ensures.asked c.read_source.ensures.failed

pub returns-in-Err-NoMemory-clause-asks : goal.returns-in-Err-NoMemory-clause-asks
returns-in-Err-NoMemory-clause-asks g c =
    after_source c.read_source.result c.as_str.result.now c.args.source.now _ _ _ _ _ _ c.as_str.ensures.text
    c.read_source.ensures.asked c.read_source.ensures.failed

pub returns-in-Ok-Ok-clause-expected : goal.returns-in-Ok-Ok-clause-expected
returns-in-Ok-Ok-clause-expected g c =
    let gives = rw c.in-Ok-Ok.field-0-is at c.in-Ok-Ok.ensures.tree in
    let well : AreWell c.in-Ok-Ok.tree = rw c.in-Ok-Ok.field-0-is at c.in-Ok-Ok.ensures.well in
    evaluated_owed (g.L.Library.files c.args.library.now) (job_data c.args.job.now) c.args.sheet.now c.args.source.now
    (g.L.Library.failed c.args.library.now) (g.L.Library.failed c.read_source.new.library)
    c.args.job.now.workers c.evaluate.result (IsNamedSheet c.args.sheet.now) (AreWell c.in-Ok-Ok.tree) c.in-Ok-Ok.tree c.as_str.result.now well
    refl c.as_str.ensures.text c.in-Ok-Ok.ensures.failed gives c.evaluate.ensures.answer

pub returns-in-Ok-Err-clause-expected : goal.returns-in-Ok-Err-clause-expected
returns-in-Ok-Err-clause-expected g c =
    let gives = rw c.in-Ok-Err.field-0-is at c.in-Ok-Err.ensures.tree in
    refused_owed (g.L.Library.files c.args.library.now) (job_data c.args.job.now) c.args.sheet.now c.args.source.now
    (g.L.Library.failed c.args.library.now) (g.L.Library.failed c.read_source.new.library)
    c.args.job.now.workers c.refused_reply.result (IsNamedSheet c.args.sheet.now) c.in-Ok-Err.fault.number c.in-Ok-Err.fault.line c.as_str.result.now
    c.as_str.ensures.text c.in-Ok-Err.ensures.failed gives c.refused_reply.ensures

pub returns-in-Err-Failed-clause-expected : goal.returns-in-Err-Failed-clause-expected
returns-in-Err-Failed-clause-expected g c =
    let grew = rw (c.in-Err-Failed.field-0-is, c.as_str.ensures.text) at c.in-Err-Failed.ensures.failed in
    fault_owed c.args.job.now.workers c.read_fault_reply.result (IsNamedSheet c.args.sheet.now) _ (g.L.Library.failed c.args.library.now)
    (g.L.Library.failed c.read_source.new.library) c.args.source.now grew c.read_fault_reply.ensures
