-- The parts of a value template so far, and the least fault so far.
use Rattle.std.specs.Prelude.{ℕ, List, Vec, [], ◌∷◌, ◌++◌, Option, Some, None, Result, Ok, Err}
use Rattle.std.specs.declared.alloc.Global.{Global}
use Rattle.xs_xpath.specs.declared.avt.AvtPart.{AvtPart}
use Rattle.xs_xpath.specs.AvtParts.{part_from, parts_from}
use Rattle.xs_xpath.specs.Templates.{Part}
use Rattle.xs_parser.specs.declared.avt.SoFar.{SoFar}
use Rattle.xs_parser.specs.declared.avt.Written.{Written}
use Rattle.xs_parser.specs.declared.avt.Written.TheVariants.{Plain, Braced}
use Rattle.xs_parser.specs.declared.fault.Fault.{Fault}
use Rattle.xs_parser.specs.Templates.{lesser}

-- how many brackets are around the text of a piece at the least
abbrev pub brackets : Written → ℕ
brackets Plain = 0
brackets Braced = 2

abbrev pub part_answer : Result AvtPart Fault → Result Part Fault
part_answer (Ok part) = Ok (part_from part)
part_answer (Err fault) = Err fault

-- parts, if there is no fault
abbrev pub unless : Option Fault → List Part → Result (List Part) Fault
unless None parts = Ok parts
unless (Some fault) parts = Err fault

abbrev pub so_far : SoFar → Result (List Part) Fault
so_far s = unless s.fault (parts_from s.parts.items)

abbrev pub template_answer : Result (Vec AvtPart Global) Fault → Result (List Part) Fault
template_answer (Ok parts) = Ok (parts_from parts.items)
template_answer (Err fault) = Err fault

abbrev pub earlier : Option Fault → Fault → Fault
earlier None g = g
earlier (Some f) g = lesser f g

-- with one part more, or with its fault
abbrev pub with_part : Option Fault → List Part → Result Part Fault → Result (List Part) Fault
with_part fault parts (Ok part) = unless fault (parts ++ part ∷ [])
with_part fault parts (Err g) = Err (earlier fault g)

-- parts, and those after them
abbrev pub followed_by : Result (List Part) Fault → Result (List Part) Fault → Result (List Part) Fault
followed_by (Ok parts) (Ok more) = Ok (parts ++ more)
followed_by (Ok parts) (Err g) = Err g
followed_by (Err f) (Ok more) = Err f
followed_by (Err f) (Err g) = Err (lesser f g)
