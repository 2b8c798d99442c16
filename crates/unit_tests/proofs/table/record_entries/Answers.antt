use Rattle.std.proofs.Common.{◌∷◌, [], ◌+◌, ◌∙◌, drop}
use Rattle.std.proofs.lemmas.Result.{err_from_is_err_and}
use Rattle.xs_trace.specs.Mark.{Hole}
use Rattle.xs_trace.specs.Play.{play}
use Rattle.xs_trace.proofs.GrowthLemmas.{passes, play-grows}
use Rattle.unit_tests.specs.Table.{child_of, number_after, entries_marks}
use Rattle.unit_tests.proofs.TableLemmas.{more-entries}
use Rattle.unit_tests.proofs.table.record_entries.Goals as goal

pub returns-in_err-record_entry-clause-reported : goal.returns-in_err-record_entry-clause-reported
returns-in_err-record_entry-clause-reported g c =
    let p = err_from_is_err_and c.from_residual.result c.from_residual.ensures.1 in
    passes (λ x. x) (λ x. x) _ _
    (λ u m. play (entries_marks (λ n k. Hole (child_of c.args.task.now n k) ∷ []) (number_after c.entry-item.result c.loop-entry.number)
    (drop (c.loop-entry.entry-index + 1) c.args.entries.now)) m)
    (g.R.Tally.state c.record_entry.new.recorder) c.from_residual.result _ _
    (c.loop-entry.invariant.reported
    ∙ more-entries (λ n k. Hole (child_of c.args.task.now n k) ∷ []) c.args.entries.now c.loop-entry.entry-index c.loop-entry.number c.entry-item.result
    (g.R.Tally.state c.loop-entry.recorder) c.loop-entry-test.true c.entry-item.is)
    (λ u. play-grows (entries_marks (λ n k. Hole (child_of c.args.task.now n k) ∷ []) (number_after c.entry-item.result c.loop-entry.number)
    (drop (c.loop-entry.entry-index + 1) c.args.entries.now)))
    p.1 p.2 c.in_err-record_entry.ensures.reported
