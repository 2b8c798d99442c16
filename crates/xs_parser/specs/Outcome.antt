-- What the answers of the parser represent.
use Rattle.std.specs.Prelude.{◌≡◌, ℕ, List, Vec, Result, Ok, Err}
use Rattle.std.specs.declared.alloc.Global.{Global}
use Rattle.xs_xpath.specs.declared.avt.AvtPart.{AvtPart}
use Rattle.xs_xpath.specs.declared.expr.Expr.{Expr}
use Rattle.xs_xpath.specs.declared.pattern.Pattern.{Pattern}
use Rattle.xs_xpath.specs.AvtParts.{parts_from}
use Rattle.xs_xpath.specs.Exprs.{tree_from, trees_from}
use Rattle.xs_xpath.specs.Patterns.{alternatives}
use Rattle.xs_xpath.specs.Templates.{Part}
use Rattle.xs_xpath.specs.Tree.{Tree}
use Rattle.xs_parser.specs.declared.fault.Fault.{Fault}
use Rattle.xs_parser.specs.declared.fault.Fault.TheVariants.{Syntax, UnknownFunction, ArgCount, BadLiteral, TooNested, NotPattern, UnboundPrefix}
use Rattle.xs_parser.specs.declared.fault.ParseFault.{ParseFault}
use Rattle.xs_parser.specs.declared.fault.ParseFault.TheVariants.{Bad, NoMemory}

abbrev pub answer_of : Result Expr Fault → Result Tree Fault
answer_of (Ok e) = Ok (tree_from e)
answer_of (Err fault) = Err fault

-- the number of a fault, and the place of its first byte
abbrev pub number_of_fault : Fault → ℕ
number_of_fault Syntax = 20
number_of_fault (UnknownFunction at) = 21
number_of_fault (ArgCount at) = 22
number_of_fault (BadLiteral at) = 23
number_of_fault (TooNested at) = 24
number_of_fault (NotPattern at) = 25
number_of_fault (UnboundPrefix at) = 38

abbrev pub place_of_fault : Fault → ℕ
place_of_fault Syntax = 0
place_of_fault (UnknownFunction at) = at
place_of_fault (ArgCount at) = at
place_of_fault (BadLiteral at) = at
place_of_fault (TooNested at) = at
place_of_fault (NotPattern at) = at
place_of_fault (UnboundPrefix at) = at

-- an outcome is this fault at this place
abbrev pub IsFault : ℕ → ℕ → Result Tree Fault → Type 0
IsFault number at (Ok e) = ⊥
IsFault number at (Err fault) = (number ≡ number_of_fault fault) × (at ≡ place_of_fault fault)

-- an answer says what the outcome is, except out of memory
abbrev pub IsParsed : Result Expr ParseFault → Result Tree Fault → Type 0
IsParsed (Ok e) outcome = outcome ≡ Ok (tree_from e)
IsParsed (Err (Bad number at)) outcome = IsFault number at outcome
IsParsed (Err NoMemory) outcome = Unit {0}

abbrev pub HasAlternatives : List Tree → Result Tree Fault → Type 0
HasAlternatives es (Ok e) = es ≡ alternatives e
HasAlternatives es (Err fault) = ⊥

abbrev pub IsPatternParsed : Result Pattern ParseFault → Result Tree Fault → Type 0
IsPatternParsed (Ok p) outcome = HasAlternatives (trees_from p.alternatives.items) outcome
IsPatternParsed (Err (Bad number at)) outcome = IsFault number at outcome
IsPatternParsed (Err NoMemory) outcome = Unit {0}

-- the same of the parts of a value template
abbrev pub IsTemplateFault : ℕ → ℕ → Result (List Part) Fault → Type 0
IsTemplateFault number at (Ok parts) = ⊥
IsTemplateFault number at (Err fault) = (number ≡ number_of_fault fault) × (at ≡ place_of_fault fault)

abbrev pub IsTemplateParsed : Result (Vec AvtPart Global) ParseFault → Result (List Part) Fault → Type 0
IsTemplateParsed (Ok parts) outcome = outcome ≡ Ok (parts_from parts.items)
IsTemplateParsed (Err (Bad number at)) outcome = IsTemplateFault number at outcome
IsTemplateParsed (Err NoMemory) outcome = Unit {0}
