-- The marks that kept items represent.
use Rattle.std.specs.Prelude.{◌≡◌, ◌<◌, List, [], ◌∷◌, ◌++◌, Option, Some, None, Result, Ok, Err}
use Rattle.xs_trace.specs.Mark.{Put, Say, Trace, ticks}
use Rattle.xs_trace.specs.Cut.{End, Whole, Fault, Needs, Spent, Full}
use Rattle.xs_trace.specs.declared.item.Item.{Item}
use Rattle.xs_trace.specs.declared.item.Item.TheVariants as item
use Rattle.xs_trace.specs.declared.fault.Fault.{Fault as RunFault}
use Rattle.xs_trace.specs.declared.fault.Fault.TheVariants as fault
use Rattle.xs_trace.specs.declared.item.Site.{Site}
use Rattle.xs_trace.specs.declared.recorder.Halt.{Halt}
use Rattle.xs_trace.specs.declared.recorder.Halt.TheVariants as halt
use Rattle.xs_trace.specs.declared.item.Spot.{Spot}
use Rattle.xs_trace.specs.declared.item.Ended.{Ended}
use Rattle.xs_trace.specs.declared.item.Ended.TheVariants as ended

-- a run is that many ticks at one place
abbrev pub item_marks : {H : Type 0} → Item → Trace H
item_marks (item.Run m l n) = ticks (record { «module» = m; line = l }) n []
item_marks (item.Put e) = Put e ∷ []
item_marks (item.Say t) = Say t ∷ []

abbrev pub marks_of : {H : Type 0} → List Item → Trace H
marks_of [] = []
marks_of (i ∷ is) = item_marks i ++ marks_of is

-- the place of the run that comes first, if one does
abbrev pub first_run : List Item → Option Site
first_run [] = None
first_run (item.Run m l n ∷ is) = Some (record { «module» = m; line = l })
first_run (item.Put e ∷ is) = None
first_run (item.Say t ∷ is) = None

-- an item that is no run of ticks
abbrev pub IsSingle : Item → Type 0
IsSingle (item.Run m l n) = ⊥
IsSingle (item.Put e) = Unit {0}
IsSingle (item.Say t) = Unit {0}

-- no run is empty, and none stands beside one at the same place
abbrev pub IsPacked : List Item → Type 0
IsPacked [] = Unit {0}
IsPacked (item.Run m l n ∷ is) = (0 < n) × ((first_run is ≡ Some (record { «module» = m; line = l }) → ⊥) × IsPacked is)
IsPacked (item.Put e ∷ is) = IsPacked is
IsPacked (item.Say t ∷ is) = IsPacked is

abbrev pub spot : RunFault → Site → Spot
spot f p = record { fault = f; «module» = p.«module»; line = p.line }

-- How a run ended, by the end of its cut; a limit on ticks that is passed is the fault Budget, one on events TooManyEvents.
-- To need a global is no end of a run: what follows is for those who settle globals to say.
abbrev pub ended_by : End → Option Ended
ended_by Whole = Some ended.Whole
ended_by (Fault f p) = Some (ended.Fault (spot f p))
ended_by (Needs g p) = None
ended_by (Spent p) = Some (ended.Spent (spot fault.Budget p))
ended_by (Full p) = Some (ended.Full (spot fault.TooManyEvents p))

-- what was answered is no need of a global
abbrev pub NeedsNone : Result (Unit {0}) Halt → Type 0
NeedsNone (Ok u) = Unit {0}
NeedsNone (Err (halt.Fault f p)) = Unit {0}
NeedsNone (Err (halt.Needs g p)) = ⊥
NeedsNone (Err (halt.Spent p)) = Unit {0}
NeedsNone (Err (halt.Full p)) = Unit {0}
NeedsNone (Err (halt.Over t)) = Unit {0}
NeedsNone (Err halt.NoMemory) = Unit {0}

-- how a run ended, by what its last call gave; of a run that lacked memory nothing is said
abbrev pub IsEnded : Result (Unit {0}) Halt → Ended → Type 0
IsEnded (Ok u) e = ended_by Whole ≡ Some e
IsEnded (Err (halt.Fault f p)) e = ended_by (Fault f p) ≡ Some e
IsEnded (Err (halt.Needs g p)) e = ⊥
IsEnded (Err (halt.Spent p)) e = ended_by (Spent p) ≡ Some e
IsEnded (Err (halt.Full p)) e = ended_by (Full p) ≡ Some e
IsEnded (Err (halt.Over t)) e = e ≡ ended.Over t
IsEnded (Err halt.NoMemory) e = ⊥
