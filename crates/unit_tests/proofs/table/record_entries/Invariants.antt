use Rattle.std.proofs.Common.{◌≡◌, ◌≤◌, ◌∷◌, [], drop}
use Rattle.xs_trace.specs.Mark.{Hole}
use Rattle.xs_trace.specs.Play.{play}
use Rattle.unit_tests.specs.Table.{child_of, entries_marks}
use Rattle.unit_tests.proofs.table.record_entries.Given as goal

abbrev pub invariant-loop-entry : goal.invariant-loop-entry
invariant-loop-entry g l = record {
  reported : play (entries_marks (λ n k. Hole (child_of l.task n k) ∷ []) 0 l.entries) (g.R.Tally.state l.fn.recorder) ≡
      play (entries_marks (λ n k. Hole (child_of l.task n k) ∷ []) l.number (drop l.entry-index l.entries)) (g.R.Tally.state l.recorder);
  room : l.number ≤ l.entry-index;
  kept : g.R.Tally.kept l.recorder ≡ g.R.Tally.kept l.fn.recorder;
}
