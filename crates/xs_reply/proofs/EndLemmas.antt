-- The answer of a cut, by the fault in which it ended.
use Rattle.std.proofs.Common.{◌≡◌, ℕ, Bool, List, Some, None, refl, ap}
use Rattle.xs_assemble.specs.Assembled.{EndsIn}
use Rattle.xs_body_spec.specs.Tasks.{Task}
use Rattle.xs_sheet.specs.declared.sheet.Sheet.{Sheet}
use Rattle.xs_trace.specs.Mark.{Trace, events_of}
use Rattle.xs_trace.specs.Cut.{End, Whole, Fault, Needs, Spent, Full}
use Rattle.xs_trace.specs.Kept.{spot}
use Rattle.xs_trace.specs.declared.fault.Fault.TheVariants.{Budget, TooManyEvents}
use Rattle.xs_trace.specs.declared.item.Spot.{Spot}
use Rattle.xs_reply.specs.Answer.{Pieces, stopped_answer, whole_answer}
use Rattle.xs_reply.specs.Evaluation.{IsEndAnswer}

-- the fault is the one in which it ended
same-spot : (s t : Spot) → Some s ≡ Some t → s ≡ t
same-spot s t e = cc

-- it ended in none
pub whole_end : (e : End) → EndsIn e None → e ≡ Whole
whole_end Whole h = refl
whole_end (Fault f p) h = absurd (cc)
whole_end (Needs g p) h = absurd h
whole_end (Spent p) h = absurd (cc)
whole_end (Full p) h = absurd (cc)

module _ (stats : Bool) (sheet : Sheet) (passed : Trace Task) (says : List (List ℕ)) (ticks : ℕ) (pieces : Pieces) where
  pub whole_answers : (e : End) → EndsIn e None
      → IsEndAnswer stats sheet e passed says ticks pieces (whole_answer sheet.method stats says (events_of passed) ticks pieces)
  whole_answers Whole h = refl
  whole_answers (Fault f p) h = absurd (cc)
  whole_answers (Needs g p) h = absurd h
  whole_answers (Spent p) h = absurd (cc)
  whole_answers (Full p) h = absurd (cc)

  pub stopped_answers : (e : End) (s : Spot) → EndsIn e (Some s)
      → IsEndAnswer stats sheet e passed says ticks pieces (stopped_answer sheet.modules s says ticks pieces)
  stopped_answers Whole s h = absurd (cc)
  stopped_answers (Fault f p) s h = ap (λ (t : Spot). stopped_answer sheet.modules t says ticks pieces) (same-spot s (spot f p) h)
  stopped_answers (Needs g p) s h = absurd h
  stopped_answers (Spent p) s h = ap (λ (t : Spot). stopped_answer sheet.modules t says ticks pieces) (same-spot s (spot Budget p) h)
  stopped_answers (Full p) s h = ap (λ (t : Spot). stopped_answer sheet.modules t says ticks pieces) (same-spot s (spot TooManyEvents p) h)
