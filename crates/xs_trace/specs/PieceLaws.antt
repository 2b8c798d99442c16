-- Laws of the cuts of traces with holes.
use Rattle.std.specs.Prelude.{◌≡◌, ◌≤◌, ℕ, [], Option, Some}
use Rattle.xs_trace.specs.Mark.{Trace, ◌⨾◌, tick_count}
use Rattle.xs_trace.specs.Cut.{cut_from, Within}
use Rattle.xs_trace.specs.Fill.{fill, numbered}
use Rattle.xs_trace.specs.Known.{known}
use Rattle.xs_trace.specs.State.{State, Log, Shared}
use Rattle.xs_trace.specs.Play.{play}
use Rattle.xs_trace.specs.declared.item.Site.{Site}

-- A cut at some limits serves all remainders that are no larger, whatever fills the holes and whatever follows.
abbrev pub CutServes : (H K : Type 0) → Type 0
CutServes H K = (f : H → Trace K) (x : Trace H) (y : Trace K) (from at : Site) (b r : ℕ) (m s : Option ℕ) → r ≤ b → Within s m →
    cut_from (fill f (known (cut_from x from b m)) ⨾ y) at r s ≡ cut_from (fill f x ⨾ y) at r s

-- a state with limits, outside captures
abbrev pub plain : {H : Type 0} → Log H → Site → ℕ → Option ℕ → Shared → State H
plain l at b m h = record { reported = l; captures = []; at = Some at; room = m; left = Some b; shared = h }

-- What is recorded of two traces is the same where their cuts are.
abbrev pub CutsTellSame : Type 0 → Type 0
CutsTellSame H = (x z : Trace H) (l : Log H) (at : Site) (b : ℕ) (m : Option ℕ) (h : Shared) → cut_from x at b m ≡ cut_from z at b m →
    play x (plain l at b m h) ≡ play z (plain l at b m h)

-- Holes are numbered before or after the cut, and the ticks are as many.
pub record NumberedLaws (H : Type 0) : Type 0 where
  pub cuts : (x : Trace H) (at : Site) (b : ℕ) (m : Option ℕ) (n : ℕ) →
      cut_from (numbered n x) at b m ≡ record { passed = numbered n (cut_from x at b m).passed; end = (cut_from x at b m).end }
  pub ticks : (n : ℕ) (x : Trace H) → tick_count (numbered n x) ≡ tick_count x
