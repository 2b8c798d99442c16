-- What a compiled stylesheet makes of a source, cut at the limits of a job.
use Rattle.std.specs.Prelude.{◌≡◌, ℕ, ◌+◌, ◌-◌, Bool, List, ◌++◌, Some}
use Rattle.xs_body_spec.specs.Globals.{SettlesAll, Table, ended, settled, with_globals}
use Rattle.xs_body_spec.specs.Tasks.{Task}
use Rattle.xs_body_spec.specs.Trace.{root_task, task_trace}
use Rattle.xs_body_spec.specs.World.{World, ground, with_grain}
use Rattle.xs_reply.specs.Answer.{Answer, Pieces, no_pieces, stopped_answer, whole_answer}
use Rattle.xs_reply.specs.Inputs.{Document, joined}
use Rattle.xs_reply.specs.Job.{Job}
use Rattle.xs_reply.specs.Places.{reached_places, taken_at, task_places}
use Rattle.xs_keys.specs.KeyTables.{tables_of}
use Rattle.xs_rules.specs.WhiteSpace.{stripped}
use Rattle.xs_attribute_sets.specs.declared.index.SetIndex.{SetIndex}
use Rattle.xs_sheet.specs.declared.sheet.Sheet.{Sheet}
use Rattle.xs_trace.specs.Cut.{Cut, End, Whole, Fault, Needs, Spent, Full, cut}
use Rattle.xs_trace.specs.Kept.{spot}
use Rattle.xs_trace.specs.Mark.{Trace, events_of, messages_of, tick_count}
use Rattle.xs_trace.specs.declared.fault.Fault.TheVariants.{Budget, TooManyEvents}
use Rattle.xs_trace.specs.declared.item.Spot.{Spot}
use Rattle.xs_tree.specs.Record.{Record}
use Rattle.xs_tree.specs.Stripping.{without}

-- By the end of a cut, whose messages and ticks are these with those before it, and by its pieces. Once all globals have values
-- nothing needs one.
abbrev pub IsEndAnswer : (stats : Bool) → Sheet → End → Trace Task → (says : List (List ℕ)) → (ticks : ℕ) → Pieces → Answer → Type 0
IsEndAnswer stats sheet Whole passed says ticks pieces answer =
    answer ≡ whole_answer sheet.method stats says (events_of passed) ticks pieces
IsEndAnswer stats sheet (Fault fault site) passed says ticks pieces answer =
    answer ≡ stopped_answer sheet.modules (spot fault site) says ticks pieces
IsEndAnswer stats sheet (Needs global site) passed says ticks pieces answer = ⊥
IsEndAnswer stats sheet (Spent site) passed says ticks pieces answer =
    answer ≡ stopped_answer sheet.modules (spot Budget site) says ticks pieces
IsEndAnswer stats sheet (Full site) passed says ticks pieces answer =
    answer ≡ stopped_answer sheet.modules (spot TooManyEvents site) says ticks pieces

-- after what was said and taken for the globals
abbrev pub IsCutAnswer : (stats : Bool) → Sheet → Table → Pieces → Cut Task → Answer → Type 0
IsCutAnswer stats sheet t pieces c answer =
    IsEndAnswer stats sheet c.end c.passed (t.says ++ messages_of c.passed) (t.ticks + tick_count c.passed) pieces answer

-- what the root of the source takes over the values of the globals, cut at what is left of the budget and at the most events
-- (XSLT 1.0, 5.1)
abbrev pub root_cut : Job → World → Table → Cut Task
root_cut job w t = cut (task_trace (with_globals w t.values) (root_task (with_globals w t.values))) (job.budget - t.ticks) job.most_events

-- the world in which more nodes than the grain are left to further pieces
abbrev pub in_pieces : Job → World → Table → World
in_pieces job w t = with_grain (Some job.grain) (with_globals w t.values)

-- the pieces into which the root's trace is cut up; by what they put, say and take they change nothing
abbrev pub root_pieces : Job → World → Table → Pieces
root_pieces job w t = record {
  places = task_places (in_pieces job w t) (root_task (in_pieces job w t));
  reached = reached_places (in_pieces job w t) (job.budget - t.ticks) job.most_events (root_task (in_pieces job w t));
  taken = taken_at (in_pieces job w t) (job.budget - t.ticks) job.most_events (root_task (in_pieces job w t));
  limit = job.budget - t.ticks;
  ticks = tick_count (root_cut job w t).passed;
}

-- The globals are settled first, by the texts that are given (11.4), and then the root of the source takes its template; the run may
-- end in either.
pub data IsEvaluated (job : Job) (w : World) (answer : Answer) : Type 0 where
  in_globals : {t : Table} {s : Spot} → SettlesAll w job.given job.budget (ended t s)
      → answer ≡ stopped_answer w.sheet.modules s t.says t.ticks no_pieces → IsEvaluated job w answer
  in_root : {t : Table} → SettlesAll w job.given job.budget (settled t)
      → IsCutAnswer job.stats w.sheet t (root_pieces job w t) (root_cut job w t) answer → IsEvaluated job w answer

-- Over a tree, with the tables of its keys (12.2); by which index the attribute sets are found (7.1.4) changes nothing.
abbrev pub IsEvaluatedOn : Job → Sheet → List Record → Answer → Type 0
IsEvaluatedOn job sheet records answer = (index : SetIndex) × IsEvaluated job (ground sheet index records (tables_of records sheet.keys)) answer

-- over a tree of which white space is stripped first (3.4)
abbrev pub IsEvaluatedFrom : Job → Sheet → List Record → Answer → Type 0
IsEvaluatedFrom job sheet records answer = IsEvaluatedOn job sheet (without (stripped sheet.strips records) records) answer

-- over all documents
abbrev pub IsEvaluatedOver : Job → Sheet → List Document → Answer → Type 0
IsEvaluatedOver job sheet documents answer = IsEvaluatedFrom job sheet (joined documents) answer
