-- What the lines of a result say: the document that the run put.
use Rattle.std.specs.Prelude.{ℕ, List, Option, Some, None}
use Rattle.xs_result_laws.specs.ResultLaws.{IsReadBack}
use Rattle.xs_trace.specs.declared.event.Event.{Event}
use Rattle.xs_reply.specs.Answer.{Answer}

-- these bytes read back as these events; of a result that is no document nothing is said
abbrev pub ReadsAs : Option (List Event) → List ℕ → Type 0
ReadsAs None bytes = Unit {0}
ReadsAs (Some events) bytes = IsReadBack bytes events

-- the result of an answer reads back as what stays of the events that the run put
abbrev pub ReadsBack : Answer → Type 0
ReadsBack answer = ReadsAs answer.document answer.result
