use Rattle.xs_making.specs.Laws.{AreWell}
use Rattle.xs_result_laws.specs.Named.{IsNamedSheet}
use Rattle.xs_reply.specs.Reply.{job_data}
use Rattle.xs_reply.proofs.EvaluationLemmas.{over_index}
use Rattle.xs_engine.proofs.evaluation.evaluate_over.Goals as goal

pub returns-clause-answer : goal.returns-clause-answer
returns-clause-answer g c =
    over_index c.args.job.now.workers c.evaluate_by.result (IsNamedSheet c.args.sheet.now × AreWell c.args.tree.now) (job_data c.args.job.now) c.args.sheet.now
    c.in_ok-index.index c.args.tree.now _ c.in_ok-finder.ensures.tables c.evaluate_by.ensures.answer
