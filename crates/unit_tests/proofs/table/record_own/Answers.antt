use Rattle.std.proofs.Common.{◌≡◌, ◌∷◌, [], ◌∙◌, ap, sym, subst, Some, slice_get}
use Rattle.std.proofs.lemmas.Result.{err_from_is_err_and}
use Rattle.xs_core.proofs.PartsLemmas.{there}
use Rattle.xs_trace.specs.Mark.{Hole}
use Rattle.xs_trace.specs.Play.{Reported, IsStep, and_then, play}
use Rattle.xs_trace.proofs.GrowthLemmas.{passes, play-grows}
use Rattle.unit_tests.specs.Table.{child_of, entries_marks}
use Rattle.unit_tests.specs.declared.table.RowTask.{RowTask}
use Rattle.unit_tests.proofs.TableLemmas.{row-reported, no-row-reported}
use Rattle.unit_tests.proofs.table.record_own.Goals as goal

pub returns-in_err-tick-in-Some-clause-reported : goal.returns-in_err-tick-in-Some-clause-reported
returns-in_err-tick-in-Some-clause-reported g c =
    let p = err_from_is_err_and c.from_residual.result c.from_residual.ensures.1 in
    let r = c.in-Some.row.now in
    let at : slice_get c.args.rows.now c.args.task.now.row ≡ Some r =
    there c.args.rows.now c.args.task.now.row r c.in-Some.ensures.lookup.3.0 c.in-Some.ensures.lookup.1 in
    passes (λ x. x) (λ x. x) _ _ (λ u m. play (entries_marks (λ n k. Hole (child_of c.args.task.now n k) ∷ []) 0 r.entries.items) m)
    (g.R.Tally.state c.tick-in-Some.new.self) c.from_residual.result _ _
    (row-reported (λ n k. Hole (child_of c.args.task.now n k) ∷ []) c.args.rows.now c.args.task.now.row r (g.R.Tally.state c.args.recorder.now) at)
    (λ u. play-grows (entries_marks (λ n k. Hole (child_of c.args.task.now n k) ∷ []) 0 r.entries.items))
    p.1 p.2 c.in_err-tick-in-Some.ensures.reported

pub returns-in-None-clause-reported : goal.returns-in-None-clause-reported
returns-in-None-clause-reported g c =
    subst (λ (z : Reported RowTask). IsStep z c.tick.result (g.R.Tally.state c.tick.new.self))
    (sym (no-row-reported (λ n k. Hole (child_of c.args.task.now n k) ∷ []) c.args.rows.now c.args.task.now.row
    (g.R.Tally.state c.args.recorder.now) c.in-None.ensures.lookup.3))
    c.tick.ensures.reported

pub returns-in_ok-tick-in-Some-clause-reported : goal.returns-in_ok-tick-in-Some-clause-reported
returns-in_ok-tick-in-Some-clause-reported g c =
    let r = c.in-Some.row.now in
    let at : slice_get c.args.rows.now c.args.task.now.row ≡ Some r =
    there c.args.rows.now c.args.task.now.row r c.in-Some.ensures.lookup.3.0 c.in-Some.ensures.lookup.1 in
    subst (λ (z : Reported RowTask). IsStep z c.record_entries.result (g.R.Tally.state c.record_entries.new.recorder))
    (sym (row-reported (λ n k. Hole (child_of c.args.task.now n k) ∷ []) c.args.rows.now c.args.task.now.row r (g.R.Tally.state c.args.recorder.now) at
    ∙ ap (λ j. and_then j (λ u m. play (entries_marks (λ n k. Hole (child_of c.args.task.now n k) ∷ []) 0 r.entries.items) m))
    c.in_ok-tick-in-Some.ensures.reported
    ∙ ap (λ es. play (entries_marks (λ n k. Hole (child_of c.args.task.now n k) ∷ []) 0 es) (g.R.Tally.state c.tick-in-Some.new.self))
    (sym c.deref.ensures.value)))
    c.record_entries.ensures.reported
