-- What a stream keeps of the events that it took: what a builder has of them, without what is settled.
use Rattle.std.specs.Prelude.{◌≡◌, ℕ, false, List, [], ◌++◌}
use Rattle.xs_result.specs.Building.{State, nothing, taken_all}
use Rattle.xs_trace.specs.declared.event.Event.{Event}
use Rattle.xs_result_lines.specs.Laws.{begins_in_tag}
use Rattle.xs_result_lines.specs.Lines.{OpenElement, bytes_of, lines, open_after}
use Rattle.xs_result_lines.specs.Settled.{settled}

-- what was built, with these events before it
abbrev pub after : List Event → State → State
after events s = record { closed = events ++ s.closed; tag = s.tag; text = s.text; depth = s.depth }

pub record Keeps (s : State) (around : List OpenElement) (es : List Event) : Type 0 where
  pub taken : taken_all nothing es ≡ after (settled es) s
  pub forgotten : s.closed ≡ []
  pub begins : begins_in_tag s.tag ≡ false
  pub opened : around ≡ open_after [] (settled es)

-- with the bytes that were there first, and those now
abbrev pub IsTaken : State → List OpenElement → (old new : List ℕ) → List Event → Type 0
IsTaken s around old new es = (new ≡ old ++ bytes_of (lines [] (settled es))) × Keeps s around es
