use Rattle.std.proofs.Common.{◌≡◌, ◌∙◌, ap, List, arith}
use Rattle.xs_trace.proofs.KeptLemmas.{need-comes-from-need}
use Rattle.unit_tests.specs.Table.{whole_marks}
use Rattle.unit_tests.specs.declared.table.Row.{Row}
use Rattle.unit_tests.specs.declared.table.RowTask.{RowTask}
use Rattle.unit_tests.proofs.PieceLemmas.{whole-is}
use Rattle.unit_tests.proofs.TableLemmas.{whole-needs}
use Rattle.unit_tests.proofs.table.TableRunnerRunner.run_whole.Goals as goal

pub finish-finished-requires : goal.finish-finished-requires
finish-finished-requires c =
    record {
      settled = need-comes-from-need RowTask (whole_marks c.deref.result.now c.args.task.now) _ _ c.record_whole-reported.result
          (whole-needs c.deref.result.now c.args.task.now)
          c.record_whole-reported.ensures.reported;
    }

pub returns-clause-outcome : goal.returns-clause-outcome
returns-clause-outcome c =
    whole-is c.finish-finished.result.outcome (whole_marks c.deref.result.now c.args.task.now) (whole_marks c.args.self.now.rows.items c.args.task.now)
    c.args.limits _ _ _ _ _ _ _ c.record_whole-reported.result _ _ _ _ _ _
    (ap (λ (rows : List Row). whole_marks rows c.args.task.now) c.deref.ensures.value) c.record_whole-reported.ensures.kept c.new-recorder.ensures.kept
    c.new-recorder.ensures.begins c.record_whole-reported.ensures.reported c.finish-finished.ensures.piece c.new-total.ensures.most c.new-total.ensures.added
    (let k : c.finish-finished.result.total.others ≡ 0 = c.finish-finished.ensures.kept ∙ ap (λ z. z.total) (c.record_whole-reported.ensures.kept
    ∙ c.new-recorder.ensures.kept) ∙ c.new-total.ensures.kept in
    omega (arith, c.finish-finished.result.total.exact, k))
