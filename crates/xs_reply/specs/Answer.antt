-- What is expected of a run.
use Rattle.std.specs.Prelude.{ℕ, Bool, true, false, List, [], ◌∷◌, ◌++◌, length, Option, Some, None, codes, slice_get}
use Rattle.std.specs.Fmt.{decimal}
use Rattle.std.specs.List.{flat_map}
use Rattle.std.specs.Option.{unwrap_or}
use Rattle.xs_text.specs.Escapes.{escaped}
use Rattle.xs_result.specs.Built.{built}
use Rattle.xs_result.specs.Text.{text_in}
use Rattle.xs_sheet.specs.declared.declarations.Method.{Method}
use Rattle.xs_sheet.specs.declared.declarations.Method.TheVariants.{Pyx, Text}
use Rattle.xs_trace.specs.declared.event.Event.{Event}
use Rattle.xs_trace.specs.Fault.{fault_number}
use Rattle.xs_trace.specs.declared.item.Spot.{Spot}
use Rattle.xs_result_lines.specs.Lines.{pyx}
use Rattle.xs_reply.specs.declared.faults.TheConstants.{UNREADABLE}
use Rattle.xs_reply.specs.declared.reply.ReportedFault.{ReportedFault}
use Rattle.xs_reply.specs.declared.status.TheConstants.{OK, USAGE, READ_FAULT, REFUSED, RUN_FAULT}
use Rattle.xs_reply.specs.Faults.{fault_name, run_fault_name}

-- a place in a run: the numbers of the holes that lead to it
abbrev pub Place : Type 0
Place = List ℕ

-- The pieces of a run: the places of all of them in order, those to which holes lead of what each does, cut at its limits, how many
-- ticks the piece at a place takes itself, how many all may take, and how many of these passed the cut.
pub record Pieces : Type 0 where
  pub places : List Place
  pub reached : List Place
  pub taken : Place → ℕ
  pub limit : ℕ
  pub ticks : ℕ

-- a run that does not come to pieces
abbrev pub no_pieces : Pieces
no_pieces = record { places = []; reached = []; taken = λ p. 0; limit = 0; ticks = 0 }

-- its status, the bytes of the result, the bytes of the lines for the user, the fault that ended it, the ticks that it spent, its
-- pieces, and, where the result is the lines of a document, the events of that
pub record Answer : Type 0 where
  pub status : ℕ
  pub result : List ℕ
  pub lines : List ℕ
  pub fault : Option ReportedFault
  pub ticks : ℕ
  pub pieces : Pieces
  pub document : Option (List Event)

-- the line that refuses the arguments
abbrev pub usage_line : List ℕ
usage_line =
    codes "usage: xslt [--budget N] [--max-events N] [--workers N] [--grain N] [--stats] [--profile] [--at N] [--stream] "
    ++ codes "[--check] [--load N] SHEET SOURCE [name=text]... [@name=path]..." ++ 10 ∷ []

-- the line of a fault: its number and name, the module, written as PYX data, and the line in it; line 0 is the module as a whole
abbrev pub fault_line : (number : ℕ) → (fault : List ℕ) → (name : List ℕ) → (line : ℕ) → List ℕ
fault_line number fault name line =
    codes "fault " ++ decimal number ++ codes " " ++ fault ++ codes " " ++ escaped name ++ codes " " ++ decimal line ++ 10 ∷ []

-- a fault, by its number, the module, and the line in it
abbrev pub reported : (number : ℕ) → (name : List ℕ) → (line : ℕ) → ReportedFault
reported number name line = record { number = number; «module» = name; line = line }

-- the line of a fault of a file
abbrev pub file_fault_line : (fault : ℕ) → (name : List ℕ) → (line : ℕ) → List ℕ
file_fault_line fault name line = fault_line fault (fault_name fault) name line

-- the line of a message, its text written as PYX data
abbrev pub message_line : List ℕ → List ℕ
message_line text = codes "message " ++ escaped text ++ 10 ∷ []

-- the arguments are refused
abbrev pub usage : Answer
usage = record { status = USAGE; result = []; lines = usage_line; fault = None; ticks = 0; pieces = no_pieces; document = None }

-- a name could not be read
abbrev pub read_fault : List ℕ → Answer
read_fault name = record {
  status = READ_FAULT;
  result = [];
  lines = file_fault_line UNREADABLE name 0;
  fault = Some (reported UNREADABLE name 0);
  ticks = 0;
  pieces = no_pieces;
  document = None;
}

-- a file is refused: it has this fault at this line
abbrev pub refused_file : ℕ → List ℕ → ℕ → Answer
refused_file fault name line = record {
  status = REFUSED;
  result = [];
  lines = file_fault_line fault name line;
  fault = Some (reported fault name line);
  ticks = 0;
  pieces = no_pieces;
  document = None;
}

-- a stylesheet that was only checked has no fault
abbrev pub faultless : Answer
faultless = record { status = OK; result = []; lines = []; fault = None; ticks = 0; pieces = no_pieces; document = None }

-- the lines of all messages, in order
abbrev pub message_lines : List (List ℕ) → List ℕ
message_lines texts = flat_map message_line texts

-- The bytes of a result, of the events that stay of these, as a method writes them: the lines of a document, or the text of the text
-- nodes (XSLT 1.0, 16.3).
abbrev pub result_of : Method → List Event → List ℕ
result_of Pyx events = pyx events
result_of Text events = text_in (built events)

-- the events that stay, where the result is the lines of a document
abbrev pub document_of : Method → List Event → Option (List Event)
document_of Pyx events = Some (built events)
document_of Text events = None

-- the line that reports how many ticks and pieces a run took
abbrev pub stats_line : (ticks pieces : ℕ) → List ℕ
stats_line ticks pieces = codes "stats " ++ decimal ticks ++ codes " " ++ decimal pieces ++ 10 ∷ []

-- it is there where it is asked for
abbrev pub stats_lines : (stats : Bool) → (ticks pieces : ℕ) → List ℕ
stats_lines false ticks pieces = []
stats_lines true ticks pieces = stats_line ticks pieces

-- The evaluation came to its end: the result is that of these events.
abbrev pub whole_answer : Method → (stats : Bool) → (says : List (List ℕ)) → List Event → (ticks : ℕ) → Pieces → Answer
whole_answer method stats says events ticks pieces = record {
  status = OK;
  result = result_of method events;
  lines = message_lines says ++ stats_lines stats ticks (length pieces.places);
  fault = None;
  ticks = ticks;
  pieces = pieces;
  document = document_of method events;
}

-- the name of the module of this number
abbrev pub name_in : List (List ℕ) → ℕ → List ℕ
name_in names n = unwrap_or (slice_get names n) []

-- The evaluation ended in a fault, at a line of a module: there are the messages before it, and no result.
abbrev pub stopped_answer : (names : List (List ℕ)) → Spot → (says : List (List ℕ)) → (ticks : ℕ) → Pieces → Answer
stopped_answer names spot says ticks pieces = record {
  status = RUN_FAULT;
  result = [];
  lines = message_lines says
      ++ fault_line (fault_number spot.fault) (run_fault_name spot.fault) (name_in names spot.«module») spot.line;
  fault = Some (reported (fault_number spot.fault) (name_in names spot.«module») spot.line);
  ticks = ticks;
  pieces = pieces;
  document = None;
}
