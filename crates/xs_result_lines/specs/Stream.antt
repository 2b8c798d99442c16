-- A stream that took some events: the lines of what is settled are written, and it keeps the rest.
use Rattle.std.specs.Prelude.{◌≡◌, ℕ, List, [], ◌++◌}
use Rattle.xs_trace.specs.declared.event.Event.{Event}
use Rattle.xs_result_lines.specs.Lines.{bytes_of, lines}
use Rattle.xs_result_lines.specs.Settled.{settled}
use Rattle.xs_result_lines.specs.declared.stream.PyxStream.{PyxStream}
use Rattle.xs_result_lines.specs.Kept.{kept}
use Rattle.xs_result_lines.specs.Keeping.{Keeps}

-- the bytes that were there first, and those now
abbrev pub HasTaken : PyxStream → (old new : List ℕ) → List Event → Type 0
HasTaken stream old new es = (new ≡ old ++ bytes_of (lines [] (settled es))) × Keeps (kept stream.pending) stream.writer es
