use Rattle.std.proofs.Common.{ap, List}
use Rattle.xs_trace.proofs.KeptLemmas.{need-comes-from-need}
use Rattle.unit_tests.specs.Table.{own_marks}
use Rattle.unit_tests.specs.declared.table.Row.{Row}
use Rattle.unit_tests.specs.declared.table.RowTask.{RowTask}
use Rattle.unit_tests.proofs.PieceLemmas.{piece-is}
use Rattle.unit_tests.proofs.TableLemmas.{needs-nothing}
use Rattle.unit_tests.proofs.table.TableRunnerPieceRunner.run.Goals as goal

pub finish-outcome-requires : goal.finish-outcome-requires
finish-outcome-requires g c =
    record {
      settled = need-comes-from-need RowTask (own_marks c.deref.result.now c.args.task.now) _ _ c.record_own-reported.result
          (needs-nothing c.deref.result.now c.args.task.now)
          c.record_own-reported.ensures.reported;
    }

pub returns-clause-piece : goal.returns-clause-piece
returns-clause-piece g c =
    piece-is c.finish-outcome.result.outcome (own_marks c.deref.result.now c.args.task.now) (own_marks c.args.self.now.rows.items c.args.task.now)
    c.args.limits (g.T.Total.kept c.args.desk.share) (g.T.Total.most c.args.desk.share) (g.T.Total.last c.args.desk.share)
    (g.T.Total.added c.args.desk.share) c.args.desk.pool _ _ c.record_own-reported.result _ _ _ _ _ _
    (ap (λ (rows : List Row). own_marks rows c.args.task.now) c.deref.ensures.value) c.record_own-reported.ensures.kept c.new-recorder.ensures.kept
    c.new-recorder.ensures.begins c.record_own-reported.ensures.reported c.finish-outcome.ensures.piece
