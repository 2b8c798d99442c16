-- What a reader has, and what it has more once it has read what some mentions name.
use Rattle.std.specs.Prelude.{◌≡◌, ◌≤◌, ◌<◌, ℕ, List, [], ◌∷◌, ◌++◌, map, length, get_or, Option, Result, Ok, Err}
use Rattle.std.specs.List.{All}
use Rattle.xs_outside.specs.Edge.{Files}
use Rattle.xs_tree.specs.Record.{Record}
use Rattle.xs_modules.specs.declared.reading.Reader.{Reader}
use Rattle.xs_modules.specs.declared.modules.ModulesEnd.{ModulesEnd}
use Rattle.xs_modules.specs.declared.modules.ModulesEnd.TheVariants.{Failed, Refused, NoMemory}
use Rattle.xs_modules.specs.Mentions.{Mention, elements, mention_at}
use Rattle.xs_modules.specs.Mentioned.{Mentioned}
use Rattle.xs_modules.specs.Numbering.{PartData, part_of, parts}
use Rattle.xs_modules.specs.Precedence.{Imports, imports, no_imports, joined}
use Rattle.xs_modules.specs.Reading.{whole, Reads, IsAsked, IsRead, failed_names, most_modules}
use Rattle.xs_modules.specs.Results.{ComesTo, end_of}
use Rattle.xs_modules.specs.steps.Views.{part_data, no_part}

-- how many modules it has
abbrev pub number_of : Reader → ℕ
number_of r = length r.parts.items

abbrev pub parts_of : Reader → List PartData
parts_of r = map part_data r.parts.items

-- the module of a number
abbrev pub part_at : Reader → ℕ → PartData
part_at r number = get_or (parts_of r) number no_part

-- the mention by an element of a module of this number
abbrev pub part_mention : ℕ → PartData → ℕ → Mention
part_mention number part n = mention_at number part.name part.records part.lines n

-- the mention by an element of the module of a number
abbrev pub mention_in : Reader → ℕ → ℕ → Mention
mention_in r number n = part_mention number (part_at r number) n

-- The module of a number is there, these nodes are of it, and each of its nodes has a line.
pub record HasNodes (r : Reader) (number : ℕ) (nodes : List ℕ) : Type 0 where
  pub there : number < number_of r
  pub inside : All (λ n. n < length (part_at r number).records) nodes
  pub each : length (part_at r number).lines ≡ length (part_at r number).records

-- a reader that has these modules more, of which some are part of this stylesheet, and is where it was; these import more besides
pub record Gains (before after : Reader) (sheet : ℕ) (imports_before imports_after : Imports) (read : Mentioned) : Type 0 where
  pub parts : parts_of after ≡ parts_of before ++ parts sheet (number_of before) read
  pub path : after.path.items ≡ before.path.items
  pub few : number_of after ≤ most_modules
  pub imports : imports_after ≡ joined imports_before (imports (number_of before) read)

-- one module was read, and not yet what its elements mention
pub record GainsPart (files : Option Files) (before after : Reader) (m : Mention) (sheet : ℕ) (found : List ℕ)
    (asked asked_after failed failed_after : List (List ℕ)) : Type 0 where
  pub records : List Record
  pub lines : List ℕ
  pub read : IsRead files before.path.items (number_of before) m records lines
  pub finds : found ≡ elements records
  pub nodes : HasNodes after (number_of before) found
  pub parts : parts_of after ≡ parts_of before ++ part_of m records lines sheet ∷ []
  pub path : after.path.items ≡ before.path.items ++ m.name ∷ []
  pub few : number_of after ≤ most_modules
  pub asks : asked_after ≡ asked ++ m.name ∷ []
  pub fails : failed_after ≡ failed

-- P, where a part of the work is done; where it is not, that is the end
abbrev pub ComesOr : {A : Type 0} → (A → Type 0) → Result A ModulesEnd → Option Files → (above : List (List ℕ)) → (number : ℕ) → List Mention
    → (asked asked_after failed failed_after : List (List ℕ)) → Type 0
ComesOr P (Ok x) files above number ms asked asked_after failed failed_after = P x
ComesOr P (Err e) files above number ms asked asked_after failed failed_after =
    ComesTo (end_of e) files above number ms asked asked_after failed failed_after

-- a mention may be asked for, or that it may not is the end; memory may run out
abbrev pub Checks : Result (Unit {0}) ModulesEnd → (above : List (List ℕ)) → (number : ℕ) → Mention → Type 0
Checks (Ok _) above number m = IsAsked above number m
Checks (Err e) above number m = ((files : Option Files) → Reads files above number (m ∷ []) [] (end_of e)) × (failed_names (end_of e) ≡ [])

-- a refusal of a mention by a fault of this number; memory may run out
abbrev pub IsRefusal : Result (Unit {0}) ModulesEnd → ℕ → Mention → Type 0
IsRefusal (Ok _) fault m = ⊥
IsRefusal (Err (Failed name)) fault m = ⊥
IsRefusal (Err (Refused number name line)) fault m = (number ≡ fault) × (name ≡ m.from) × (line ≡ m.line)
IsRefusal (Err NoMemory) fault m = Unit {0}

-- what some mentions name was read, so far without trouble
pub record SoFar (files : Option Files) (before after : Reader) (sheet : ℕ) (imports : Imports) (ms : List Mention)
    (asked asked_after failed failed_after : List (List ℕ)) : Type 0 where
  pub read : Mentioned
  pub comes : ComesTo (whole read) files before.path.items (number_of before) ms asked asked_after failed failed_after
  pub gains : Gains before after sheet no_imports imports read
