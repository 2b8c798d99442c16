-- What becomes of results and of values.
use Rattle.std.specs.Prelude.{◌≡◌, ℕ, List, Result, Ok, Err, pos}
use Rattle.xs_num.specs.Number.{bounded}
use Rattle.xs_num.specs.declared.number.Number.{Number}
use Rattle.xs_num.specs.declared.number.NumFault.{NumFault}
use Rattle.xs_num.specs.declared.number.NumFault.TheVariants as number
use Rattle.xs_trace.specs.Run.{Run, give, fail}
use Rattle.xs_trace.specs.declared.fault.Fault.{Fault}
use Rattle.xs_trace.specs.declared.fault.Fault.TheVariants.{Fraction, Range, NotNodes}
use Rattle.xs_trace.specs.declared.item.Site.{Site}
use Rattle.xs_trace.specs.declared.recorder.Halt.{Halt}
use Rattle.xs_trace.specs.declared.recorder.Halt.TheVariants as halt
use Rattle.xs_value.specs.declared.value.Value.{Value}
use Rattle.xs_value.specs.declared.value.Value.TheVariants.{Bool as Boolean, Number as Numeral, Chars, Nodes, Piece}
use Rattle.xs_eval_spec.specs.declared.trouble.Trouble.{Trouble}
use Rattle.xs_eval_spec.specs.declared.trouble.Trouble.TheVariants as trouble

abbrev pub fault_of : NumFault → Fault
fault_of number.Fraction = Fraction
fault_of number.Range = Range

-- a value or a fault, and what follows a value
abbrev pub Outcome : Type 0 → Type 0
Outcome A = Result A Fault

infixl 10 ◌>>=◌
abbrev pub ◌>>=◌ : {A B : Type 0} → Outcome A → (A → Outcome B) → Outcome B
(Ok x) >>= f = f x
(Err e) >>= f = Err e

-- a result of numbers, or its fault
abbrev pub numeric : {A : Type 0} → Result A NumFault → Outcome A
numeric (Ok x) = Ok x
numeric (Err f) = Err (fault_of f)

-- a whole number of any size, where it is in range
abbrev pub natural : ℕ → Outcome Number
natural n = numeric (bounded (pos n))

-- the nodes of a value, which has to be a node-set (XPath 1.0, 3.3)
abbrev pub nodes_in : Value → Outcome (List ℕ)
nodes_in (Nodes ns) = Ok ns
nodes_in (Boolean b) = Err NotNodes
nodes_in (Numeral n) = Err NotNodes
nodes_in (Chars text) = Err NotNodes
nodes_in (Piece events) = Err NotNodes

-- an outcome as a run, which takes no ticks
abbrev pub given : {A : Type 0} → Outcome A → Run A
given (Ok x) = give x
given (Err f) = fail f

-- what a function of the code answers: what is expected, or that memory ran out
abbrev pub AnswersBy : {A B : Type 0} → (B → A) → Outcome A → Result B Trouble → Type 0
AnswersBy view expected (Ok x) = expected ≡ Ok (view x)
AnswersBy view expected (Err (trouble.Fault f)) = expected ≡ Err f
AnswersBy view expected (Err trouble.NoMemory) = Unit {0}

abbrev pub Answers : {A : Type 0} → Outcome A → Result A Trouble → Type 0
Answers = AnswersBy (λ x. x)

-- how a run ends in a trouble at an instruction
abbrev pub halted : Trouble → Site → Halt
halted (trouble.Fault f) p = halt.Fault f p
halted trouble.NoMemory p = halt.NoMemory

-- what the code answers at an instruction, of what a function of it answers
abbrev pub settled : {A : Type 0} → Site → Result A Trouble → Result A Halt
settled p (Ok x) = Ok x
settled p (Err t) = Err (halted t p)
