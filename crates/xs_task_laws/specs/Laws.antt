-- What is true of the tree of tasks of a stylesheet.
use Rattle.std.specs.Prelude.{◌≡◌, ℕ, Option, None, Some}
use Rattle.std.specs.List.{All}
use Rattle.std.specs.Option.{IsSome}
use Rattle.xs_trace.specs.Cut.{Cut, cut}
use Rattle.xs_trace.specs.Fill.{HolesAre}
use Rattle.xs_trace.specs.Mark.{events_of, messages_of, tick_count}
use Rattle.xs_body_spec.specs.Inside.{IsTaskIn, IsWorld}
use Rattle.xs_pieces.specs.Ready.{IsReady}
use Rattle.xs_pieces.specs.Tree.{Falls}
use Rattle.xs_body_spec.specs.Ranks.{rank_of}
use Rattle.xs_body_spec.specs.Tasks.{Task}
use Rattle.xs_body_spec.specs.Trace.{task_trace}
use Rattle.xs_body_spec.specs.World.{World, with_grain}
use Rattle.xs_task_laws.specs.Placed.{IsOwn, Placed, own, whole}

-- what a task leaves whose nodes are in the documents has its nodes there too
abbrev pub TasksStayInside : Type 0
TasksStayInside = (w : World) (t : Task) → IsWorld w → IsTaskIn w.tree t → HolesAre (IsTaskIn w.tree) (task_trace w t)

-- where all globals have values, and the grain is not 0
abbrev pub SheetIsReady : Type 0
SheetIsReady = (w : World) → IsWorld w → All IsSome w.globals → (w.grain ≡ Some 0 → ⊥) → IsReady (IsOwn w) (λ t. t.place) (own w) (whole w)

-- the rank falls from a task to those that it leaves
abbrev pub SheetFalls : Type 0
SheetFalls = (w : World) → Falls (λ t. rank_of w t.task) (own w)

-- two cuts end alike, after the same events, messages and ticks
pub record Agree (c : Cut Placed) (d : Cut Task) : Type 0 where
  pub end : c.end ≡ d.end
  pub events : events_of c.passed ≡ events_of d.passed
  pub messages : messages_of c.passed ≡ messages_of d.passed
  pub ticks : tick_count c.passed ≡ tick_count d.passed

-- all that a task does with what it leaves is, under any limits, what it does without a grain
abbrev pub WholeIsRun : Type 0
WholeIsRun = (w : World) (t : Placed) (limit : ℕ) (most : Option ℕ) →
    Agree (cut (whole w t) limit most) (cut (task_trace (with_grain None w) t.task) limit most)
