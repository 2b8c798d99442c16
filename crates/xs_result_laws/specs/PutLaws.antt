-- What a stylesheet puts can be written.
use Rattle.std.specs.Prelude.{◌≡◌, ℕ, All, Bool, List, Option}
use Rattle.std.specs.List.{AllByRecursion}
use Rattle.xs_trace.specs.Cut.{Cut, Whole, cut}
use Rattle.xs_trace.specs.Mark.{Trace, GoesOn, events_of}
use Rattle.xs_tree.specs.Record.{Record}
use Rattle.xs_tree.specs.Stripping.{without}
use Rattle.xs_making.specs.Laws.{AreWell, IsWellPut}
use Rattle.xs_result_laws.specs.Events.{IsResult}
use Rattle.xs_body_spec.specs.Globals.{SettlesAll, Table, settled, with_globals}
use Rattle.xs_body_spec.specs.Tasks.{Task}
use Rattle.xs_body_spec.specs.Trace.{root_task, task_trace}
use Rattle.xs_body_spec.specs.World.{World}
use Rattle.xs_result_laws.specs.Named.{IsNamedGlobal, IsNamedJob, IsNamedWorld}

-- Each event that is put can be written, also where the trace stops in a fault; where it does not, each element that begins ends.
pub record PutsWell {H : Type 0} (x : Trace H) : Type 0 where
  pub named : All IsWellPut (events_of x)
  pub whole : GoesOn x → IsResult (events_of x)

abbrev pub TasksPutWell : Type 0
TasksPutWell = (w : World) (t : Task) → IsNamedWorld w → IsNamedJob t.job → PutsWell (task_trace w t)

-- the values to which globals are settled are named: their fragments are results (XSLT 1.0, 11.1 and 11.4)
abbrev pub SettledAreNamed : Type 0
SettledAreNamed = (w : World) (given : List (List ℕ × List ℕ)) (budget : ℕ) (t : Table) → IsNamedWorld w → SettlesAll w given budget (settled t)
    → AllByRecursion IsNamedGlobal t.values

-- what the root of the source puts, once the globals are settled, under limits (XSLT 1.0, 5.1)
abbrev pub root_cut : World → Table → (limit : ℕ) → (most : Option ℕ) → Cut Task
root_cut w t limit most = cut (task_trace (with_globals w t.values) (root_task (with_globals w t.values))) limit most

-- where that comes to its end, it is a result
abbrev pub RunsPutResults : Type 0
RunsPutResults = (w : World) (given : List (List ℕ × List ℕ)) (budget : ℕ) (t : Table) (limit : ℕ) (most : Option ℕ) → IsNamedWorld w
    → SettlesAll w given budget (settled t) → (root_cut w t limit most).end ≡ Whole → IsResult (events_of (root_cut w t limit most).passed)

-- a tree whose nodes have names as those of documents has them also without some of its text nodes (XSLT 1.0, 3.4)
abbrev pub StrippedAreWell : Type 0
StrippedAreWell = (marks : List Bool) (rs : List Record) → AreWell rs → AreWell (without marks rs)
