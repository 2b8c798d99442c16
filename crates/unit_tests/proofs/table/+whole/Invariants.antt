use Rattle.std.proofs.Common.{◌≡◌, ◌≤◌, ◌+◌, ◌-◌, ◌*◌, drop, length}
use Rattle.xs_trace.specs.Play.{play}
use Rattle.unit_tests.specs.Table.{child_of, entries_marks, whole_marks}
use Rattle.unit_tests.proofs.table.+whole.Given as goal

-- how many rows come from a task's row on
abbrev pub decreases-record_whole : goal.decreases-record_whole
decreases-record_whole g l = 3 * (length l.rows.now - l.task.now.row)

abbrev pub decreases-record_whole_entries : goal.decreases-record_whole_entries
decreases-record_whole_entries g l = 3 * (length l.rows.now - (l.task.now.row + 1)) + 2

abbrev pub decreases-record_whole_entry : goal.decreases-record_whole_entry
decreases-record_whole_entry g l = 3 * (length l.rows.now - (l.task.now.row + 1)) + 1

abbrev pub invariant-record_whole_entries-loop-entry : goal.invariant-record_whole_entries-loop-entry
invariant-record_whole_entries-loop-entry g l = record {
  reported : play (entries_marks (λ n k. whole_marks l.rows (child_of l.task n k)) 0 l.entries) (g.R.Tally.state l.fn.recorder) ≡
      play (entries_marks (λ n k. whole_marks l.rows (child_of l.task n k)) l.number (drop l.entry-index l.entries)) (g.R.Tally.state l.recorder);
  room : l.number ≤ l.entry-index;
  kept : g.R.Tally.kept l.recorder ≡ g.R.Tally.kept l.fn.recorder;
}
