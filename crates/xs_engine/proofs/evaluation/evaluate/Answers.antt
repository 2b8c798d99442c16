use Rattle.xs_making.specs.Laws.{AreWell}
use Rattle.xs_result_laws.specs.Named.{IsNamedSheet}
use Rattle.xs_reply.specs.Reply.{job_data}
use Rattle.xs_reply.proofs.EvaluationLemmas.{from_stripped}
use Rattle.xs_reply.proofs.ReadBackLemmas.{stripped_well}
use Rattle.xs_engine.proofs.evaluation.evaluate.Goals as goal

pub returns-clause-answer : goal.returns-clause-answer
returns-clause-answer g c =
    from_stripped c.args.job.now.workers c.evaluate_over.result (IsNamedSheet c.args.sheet.now × AreWell c.strip.new.tree)
    (IsNamedSheet c.args.sheet.now × AreWell c.args.source)
    (job_data c.args.job.now) c.args.sheet.now c.as_slice.result.now c.args.source c.strip.new.tree
    (λ h. (h.0, stripped_well c.stripped_are_well.ensures c.as_slice.result.now c.args.source c.strip.new.tree c.in_ok-strip.ensures.stripped h.1))
    c.as_slice.ensures c.in_ok-strip.ensures.stripped c.evaluate_over.ensures.answer
