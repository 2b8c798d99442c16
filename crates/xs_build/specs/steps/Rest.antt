-- What is left to do with the lines that follow.
use Rattle.std.specs.Prelude.{◌≡◌, ℕ, ◌-◌, List, [], ◌∷◌, ◌++◌, Option, None, Some, Result, Ok, Err, Bool, ◌==◌, if◌then◌else◌}
use Rattle.xs_pyx.specs.Row.{Row, rows_of}
use Rattle.xs_pyx.specs.declared.rest.Rest.{Rest}
use Rattle.xs_pyx.specs.Views.{bytes_left}
use Rattle.xs_tree.specs.Record.{Record}
use Rattle.xs_build.specs.declared.fault.BuildFault.{BuildFault}
use Rattle.xs_build.specs.declared.fault.BuildFault.TheVariants.{Bad, NoMemory}
use Rattle.xs_build.specs.Faults.{bad_line, bad_utf8}
use Rattle.xs_build.specs.Start.{text_ahead}
use Rattle.xs_build.specs.steps.Lines.{innermost, at_end, meaning}
use Rattle.xs_build.specs.Document.{Outcome, tree, refused}
use Rattle.xs_build.specs.steps.State.{State, context, with_text_node}

-- a text and what goes on with it; an empty one is none, and nothing does
abbrev pub going_on : List ℕ → List ℕ → List ℕ
going_on [] ahead = []
going_on (b ∷ text) ahead = b ∷ (text ++ ahead)

-- these nodes were read before the others
abbrev pub behind : List Record → List ℕ → Outcome → Outcome
behind records lines (tree nodes more) = tree (records ++ nodes) (lines ++ more)
behind records lines (refused number line) = refused number line

-- what was read and these lines represent
unfoldable pub left : State → List Row → Outcome
left s rows = behind (with_text_node s.records (innermost s.around) (going_on s.text (text_ahead rows))) s.lines (meaning (context s) s.line rows)

-- what was read represents by itself
unfoldable pub concluded : State → Outcome
concluded s = behind (with_text_node s.records (innermost s.around) s.text) s.lines (at_end (context s) (s.line - 1))

-- the fault of a line that says nothing, where that is an attribute that follows no start tag and where not
abbrev pub fault_at : Bool → ℕ → ℕ
fault_at stray number = if stray then (if number == bad_utf8 then bad_utf8 else bad_line) else number

-- One line was read: what is left to do is what the new state leaves to do with the bytes behind it. Memory may run out.
abbrev pub Goes : Result (Option Rest) BuildFault → State → State → List ℕ → Type 0
Goes (Ok None) old new bytes = left old (rows_of bytes) ≡ concluded new
Goes (Ok (Some rest)) old new bytes = left old (rows_of bytes) ≡ left new (rows_of (bytes_left rest))
Goes (Err (Bad number line)) old new bytes = left old (rows_of bytes) ≡ refused number line
Goes (Err NoMemory) old new bytes = Unit {0}

-- The end of the lines was read: what was read by itself is these records and lines, or is refused. Memory may run out.
abbrev pub Concludes : {X : Type 0} → Result X BuildFault → Outcome → State → Type 0
Concludes (Ok x) outcome now = outcome ≡ tree now.records now.lines
Concludes (Err (Bad number line)) outcome now = outcome ≡ refused number line
Concludes (Err NoMemory) outcome now = Unit {0}
