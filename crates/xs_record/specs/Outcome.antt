-- What a run of a piece gives: its parts, with holes by number.
use Rattle.std.specs.Prelude.{◌≡◌, ◌+◌, ℕ, suc, List, [], ◌∷◌, ◌++◌, map, Option, Some, None, Bool, true, false}
use Rattle.xs_block.specs.Chain.{blocks_of}
use Rattle.xs_trace.specs.Mark.{Hole, Trace, tick_count}
use Rattle.xs_trace.specs.Cut.{cut}
use Rattle.xs_trace.specs.Fill.{numbered}
use Rattle.xs_trace.specs.Kept.{marks_of, ended_by, IsPacked}
use Rattle.xs_trace.specs.declared.item.Ended.{Ended}
use Rattle.xs_trace.specs.declared.item.Ended.TheVariants as end
use Rattle.xs_trace.specs.declared.item.Item.{Item}
use Rattle.xs_trace.specs.declared.item.Limits.{Limits}
use Rattle.xs_record.specs.Segment.{items_of}
use Rattle.xs_record.specs.declared.outcome.Outcome.{Outcome}
use Rattle.xs_record.specs.declared.outcome.Part.{Part}

abbrev pub hole_mark : Option ℕ → Trace ℕ
hole_mark None = []
hole_mark (Some k) = Hole k ∷ []

-- the marks of parts
abbrev pub part_marks : List Part → Trace ℕ
part_marks [] = []
part_marks (p ∷ ps) = (marks_of (items_of p.items) ++ hole_mark p.hole) ++ part_marks ps

-- the same of parts that holes follow, with the tasks that fill these
abbrev pub section_marks : {H : Type 0} → List Part → List H → Trace H
section_marks [] ts = []
section_marks (p ∷ ps) [] = []
section_marks (p ∷ ps) (t ∷ ts) = (marks_of (items_of p.items) ++ Hole t ∷ []) ++ section_marks ps ts

-- Parts that holes follow, by their numbers from n on; the items of each are packed.
abbrev pub AreSections : ℕ → List Part → Type 0
AreSections n [] = Unit {0}
AreSections n (p ∷ ps) = (p.hole ≡ Some n) × (IsPacked (items_of p.items) × AreSections (suc n) ps)

-- The parts of a piece: a hole follows each but the last, by its number from n on; the items of each are packed.
abbrev pub AreParts : ℕ → List Part → Type 0
AreParts n [] = ⊥
AreParts n (p ∷ []) = (p.hole ≡ None) × IsPacked (items_of p.items)
AreParts n (p ∷ q ∷ ps) = (p.hole ≡ Some n) × (IsPacked (items_of p.items) × AreParts (suc n) (q ∷ ps))

-- the blocks of a pool that parts hold
abbrev pub part_blocks : List Part → ℕ
part_blocks [] = 0
part_blocks (p ∷ ps) = blocks_of p.items + part_blocks ps

-- What a run gives of a trace under limits: the marks that passed its cut, with the holes by their numbers; the end; the ticks.
pub record IsOutcome {H : Type 0} (x : Trace H) (l : Limits) (o : Outcome) : Type 0 where
  pub marks : part_marks o.parts.items ≡ (cut (numbered 0 x) l.ticks l.events).passed
  pub parts : AreParts 0 o.parts.items
  pub ended : ended_by (cut (numbered 0 x) l.ticks l.events).end ≡ Some o.ended
  pub ticks : o.ticks ≡ tick_count (cut (numbered 0 x) l.ticks l.events).passed

-- a run that ended by itself, and not in the total that it shares
abbrev pub is_done : Ended → Bool
is_done end.Whole = true
is_done (end.Fault s) = true
is_done (end.Spent s) = true
is_done (end.Full s) = true
is_done (end.Over t) = false

-- a part, except how its items lie in blocks
abbrev pub shown : Part → List Item × Option ℕ
shown p = (items_of p.items, p.hole)

-- two outcomes are the same, except how items lie in blocks
pub record Agree (o p : Outcome) : Type 0 where
  pub parts : map shown o.parts.items ≡ map shown p.parts.items
  pub ended : o.ended ≡ p.ended
  pub ticks : o.ticks ≡ p.ticks

abbrev pub OutcomesAgree : Type 0 → Type 0
OutcomesAgree H = (x : Trace H) (l : Limits) (o p : Outcome) → IsOutcome x l o → IsOutcome x l p → Agree o p
