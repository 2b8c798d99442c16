use Rattle.std.proofs.Common.{◌≡◌, ◌+◌, ◌∙◌, ap, sym, subst, drop, Some, slice_get, arith}
use Rattle.std.proofs.lemmas.Result.{err_from_is_err_and}
use Rattle.xs_core.proofs.PartsLemmas.{there}
use Rattle.xs_trace.specs.Play.{Reported, IsStep, and_then, play}
use Rattle.xs_trace.proofs.GrowthLemmas.{passes, play-grows}
use Rattle.unit_tests.specs.Table.{child_of, number_after, entries_marks, whole_marks}
use Rattle.unit_tests.specs.declared.table.RowTask.{RowTask}
use Rattle.unit_tests.proofs.TableLemmas.{more-entries, row-reported, no-row-reported, whole-reported}
use Rattle.unit_tests.proofs.table.+whole.Goals as goal

pub record_whole_entries-returns-in_err-record_whole_entry-clause-reported : goal.record_whole_entries-returns-in_err-record_whole_entry-clause-reported
record_whole_entries-returns-in_err-record_whole_entry-clause-reported g t c =
    let p = err_from_is_err_and c.from_residual.result c.from_residual.ensures.1 in
    passes (λ x. x) (λ x. x) _ _
    (λ u m. play (entries_marks (λ n k. whole_marks c.args.rows.now (child_of c.args.task.now n k)) (number_after c.entry-item.result c.loop-entry.number)
    (drop (c.loop-entry.entry-index + 1) c.args.entries.now)) m)
    (g.R.Tally.state c.record_whole_entry.new.recorder) c.from_residual.result _ _
    (c.loop-entry.invariant.reported
    ∙ more-entries (λ n k. whole_marks c.args.rows.now
    (child_of c.args.task.now n k)) c.args.entries.now c.loop-entry.entry-index c.loop-entry.number c.entry-item.result
    (g.R.Tally.state c.loop-entry.recorder) c.loop-entry-test.true c.entry-item.is)
    (λ u. play-grows (entries_marks (λ n k. whole_marks c.args.rows.now (child_of c.args.task.now n k))
    (number_after c.entry-item.result c.loop-entry.number) (drop (c.loop-entry.entry-index + 1) c.args.entries.now)))
    p.1 p.2 c.in_err-record_whole_entry.ensures.reported

pub record_whole_entries-loop-entry-preserved : goal.record_whole_entries-loop-entry-preserved
record_whole_entries-loop-entry-preserved g t c =
    let i = c.loop-entry.invariant in
    record {
      reported = i.reported
          ∙ more-entries (λ n k. whole_marks c.args.rows.now
          (child_of c.args.task.now n k)) c.args.entries.now c.loop-entry.entry-index c.loop-entry.number c.entry-item.result
          (g.R.Tally.state c.loop-entry.recorder) c.loop-entry-test.true c.entry-item.is
          ∙ ap (λ j. and_then j
          (λ u m. play (entries_marks (λ n k. whole_marks c.args.rows.now (child_of c.args.task.now n k)) (number_after c.entry-item.result c.loop-entry.number)
          (drop (c.loop-entry.entry-index + 1) c.args.entries.now)) m)) c.in_ok-record_whole_entry.ensures.reported
          ∙ ap (λ x. play (entries_marks (λ n k. whole_marks c.args.rows.now (child_of c.args.task.now n k)) x
          (drop (c.loop-entry.entry-index + 1) c.args.entries.now)) (g.R.Tally.state c.record_whole_entry.new.recorder))
          (sym c.number_after-number.ensures.number);
      room = omega (arith, i.room, c.number_after-number.ensures.more);
      kept = c.in_ok-record_whole_entry.ensures.kept ∙ i.kept;
    }

pub record_whole-returns-in_err-tick-in-Some-clause-reported : goal.record_whole-returns-in_err-tick-in-Some-clause-reported
record_whole-returns-in_err-tick-in-Some-clause-reported g t c =
    let p = err_from_is_err_and c.from_residual.result c.from_residual.ensures.1 in
    let r = c.in-Some.row.now in
    let at : slice_get c.args.rows.now c.args.task.now.row ≡ Some r =
    there c.args.rows.now c.args.task.now.row r c.in-Some.ensures.lookup.3.0 c.in-Some.ensures.lookup.1 in
    passes (λ x. x) (λ x. x) _ _ (λ u m. play (entries_marks (λ n k. whole_marks c.args.rows.now (child_of c.args.task.now n k)) 0 r.entries.items) m)
    (g.R.Tally.state c.tick-in-Some.new.self) c.from_residual.result _ _
    (whole-reported c.args.rows.now c.args.task.now (g.R.Tally.state c.args.recorder.now)
    ∙ row-reported (λ n k. whole_marks c.args.rows.now (child_of c.args.task.now n k)) c.args.rows.now c.args.task.now.row r
    (g.R.Tally.state c.args.recorder.now) at)
    (λ u. play-grows (entries_marks (λ n k. whole_marks c.args.rows.now (child_of c.args.task.now n k)) 0 r.entries.items))
    p.1 p.2 c.in_err-tick-in-Some.ensures.reported

pub record_whole-returns-in-None-clause-reported : goal.record_whole-returns-in-None-clause-reported
record_whole-returns-in-None-clause-reported g t c =
    subst (λ (z : Reported RowTask). IsStep z c.tick.result (g.R.Tally.state c.tick.new.self))
    (sym (whole-reported c.args.rows.now c.args.task.now (g.R.Tally.state c.args.recorder.now)
    ∙ no-row-reported (λ n k. whole_marks c.args.rows.now (child_of c.args.task.now n k)) c.args.rows.now c.args.task.now.row
    (g.R.Tally.state c.args.recorder.now)
    c.in-None.ensures.lookup.3)) c.tick.ensures.reported

pub record_whole-returns-in_ok-tick-in-Some-clause-reported : goal.record_whole-returns-in_ok-tick-in-Some-clause-reported
record_whole-returns-in_ok-tick-in-Some-clause-reported g t c =
    let r = c.in-Some.row.now in
    let at : slice_get c.args.rows.now c.args.task.now.row ≡ Some r =
    there c.args.rows.now c.args.task.now.row r c.in-Some.ensures.lookup.3.0 c.in-Some.ensures.lookup.1 in
    subst (λ (z : Reported RowTask). IsStep z c.record_whole_entries.result (g.R.Tally.state c.record_whole_entries.new.recorder))
    (sym (whole-reported c.args.rows.now c.args.task.now (g.R.Tally.state c.args.recorder.now)
    ∙ row-reported (λ n k. whole_marks c.args.rows.now (child_of c.args.task.now n k)) c.args.rows.now c.args.task.now.row r
    (g.R.Tally.state c.args.recorder.now) at
    ∙ ap (λ j. and_then j (λ u m. play (entries_marks (λ n k. whole_marks c.args.rows.now
    (child_of c.args.task.now n k)) 0 r.entries.items) m)) c.in_ok-tick-in-Some.ensures.reported
    ∙ ap (λ es. play (entries_marks (λ n k. whole_marks c.args.rows.now (child_of c.args.task.now n k)) 0 es) (g.R.Tally.state c.tick-in-Some.new.self))
    (sym c.deref.ensures.value)))
    c.record_whole_entries.ensures.reported
