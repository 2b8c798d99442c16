-- An attempt at a global, reported to a recorder.
use Rattle.std.specs.Prelude.{◌≡◌, ℕ, [], List, Option, Result, Ok, Err}
use Rattle.xs_sheet.specs.declared.body.Binding.{Binding}
use Rattle.xs_sheet.specs.declared.body.Body.{Body}
use Rattle.xs_sheet.specs.declared.declarations.Global.{Global}
use Rattle.xs_trace.specs.Play.{Step, Goes, and_then, play}
use Rattle.xs_trace.specs.State.{State, opened, popped}
use Rattle.xs_trace.specs.Kept.{spot}
use Rattle.xs_trace.specs.declared.fault.Fault.TheVariants as fault
use Rattle.xs_trace.specs.declared.item.Spot.{Spot}
use Rattle.xs_trace.specs.declared.recorder.Halt.{Halt}
use Rattle.xs_trace.specs.declared.recorder.Halt.TheVariants as halt
use Rattle.xs_value.specs.declared.value.Value.{Value}
use Rattle.xs_body.specs.declared.attempts.Attempt.{Attempt}
use Rattle.xs_body.specs.declared.attempts.Attempt.TheVariants as attempt
use Rattle.xs_body_spec.specs.World.{World}
use Rattle.xs_body_spec.specs.Tasks.{Task}
use Rattle.xs_body_spec.specs.Trace.{body_trace, calls_at}
use Rattle.xs_body_spec.specs.Globals.{attempt_trace, attempt_value, binding_trace, content_value, global_focus}
use Rattle.xs_body.specs.steps.Frames.{fragment_at}

abbrev pub binding_steps : World → Binding → State Task → Step Task Value
binding_steps w b s = and_then (play (binding_trace w b) s) (λ u m. Goes (content_value w b.content) m)

-- the fragment that captured content makes
abbrev pub fragment_steps : World → Body → State Task → Step Task Value
fragment_steps w body s =
    and_then (play (body_trace body w (calls_at w (global_focus w)) (global_focus w) []) (opened s)) (λ u m. Goes (fragment_at m) (popped m))

abbrev pub attempt_steps : World → Option Global → State Task → Step Task Value
attempt_steps w g s = and_then (play (attempt_trace w g) s) (λ u m. Goes (attempt_value w g) m)

-- what an attempt answers, by what its last call gave; of one that lacked memory nothing is said
abbrev pub StopsAt : Result Value Halt → Spot → Type 0
StopsAt (Ok v) q = ⊥
StopsAt (Err (halt.Fault f p)) q = q ≡ spot f p
StopsAt (Err (halt.Needs g p)) q = ⊥
StopsAt (Err (halt.Spent p)) q = q ≡ spot fault.Budget p
StopsAt (Err (halt.Full p)) q = ⊥
StopsAt (Err (halt.Over t)) q = ⊥
StopsAt (Err halt.NoMemory) q = ⊥

abbrev pub IsAttemptOf : Result Value Halt → List (List ℕ) → ℕ → Attempt → Type 0
IsAttemptOf reported says ticks (attempt.Done v s n) = (reported ≡ Ok v) × ((s.items ≡ says) × (n ≡ ticks))
IsAttemptOf reported says ticks (attempt.Stopped s n q) = StopsAt reported q × ((s.items ≡ says) × (n ≡ ticks))
IsAttemptOf reported says ticks (attempt.Needs g p s n) = (reported ≡ Err (halt.Needs g p)) × ((s.items ≡ says) × (n ≡ ticks))
