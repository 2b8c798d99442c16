-- The names of the faults that a run reports to its user: 1 to 12 of a document, 20 to 25 and 32 to 46 of a stylesheet, 30 and 31 of
-- a mention of a module, 70 of a file that could not be read; and those of an evaluation.
use Rattle.std.specs.Prelude.{ℕ, List, [], codes, if◌then◌else◌, ◌==◌, nat_le}
use Rattle.xs_trace.specs.declared.fault.Fault.{Fault}
use Rattle.xs_trace.specs.declared.fault.Fault.TheVariants.{Budget, Fraction, Range, NotNodes, NoKey, TooDeep, NoRule, Terminated, NoExtension, Circular}
use Rattle.xs_trace.specs.declared.fault.Fault.TheVariants.{BadResultName, UnboundResultPrefix, BadValue, TooManyEvents, NoDocument}

-- the name of a fault of a document; none of another number
unfoldable pub document_fault_name : ℕ → List ℕ
document_fault_name fault =
    if fault == 1 then codes "BadLine" else (
    if fault == 2 then codes "BadEscape" else (
    if fault == 3 then codes "BadUtf8" else (
    if fault == 4 then codes "NoFinalLineFeed" else (
    if fault == 5 then codes "Unbalanced" else (
    if fault == 6 then codes "NoRoot" else (
    if fault == 7 then codes "BadName" else (
    if fault == 8 then codes "UnboundPrefix" else (
    if fault == 9 then codes "DoubleAttribute" else (
    if fault == 10 then codes "BadNamespace" else (
    if fault == 11 then codes "TooLarge" else (
    if fault == 12 then codes "Truncated" else (
    []))))))))))))

-- that of a stylesheet
unfoldable pub stylesheet_fault_name : ℕ → List ℕ
stylesheet_fault_name fault =
    if fault == 20 then codes "Syntax" else (
    if fault == 21 then codes "UnknownFunction" else (
    if fault == 22 then codes "ArgCount" else (
    if fault == 23 then codes "BadLiteral" else (
    if fault == 24 then codes "TooNested" else (
    if fault == 25 then codes "NotPattern" else (
    if fault == 30 then codes "CircularModule" else (
    if fault == 31 then codes "TooManyModules" else (
    if fault == 32 then codes "BadRoot" else (
    if fault == 33 then codes "Unsupported" else (
    if fault == 34 then codes "MissingAttribute" else (
    if fault == 35 then codes "UnknownAttribute" else (
    if fault == 36 then codes "BadAttribute" else (
    if fault == 37 then codes "Misplaced" else (
    if fault == 38 then codes "UnboundPrefix" else (
    if fault == 39 then codes "UnknownVariable" else (
    if fault == 40 then codes "Shadowing" else (
    if fault == 41 then codes "DoubleGlobal" else (
    if fault == 42 then codes "DoubleTemplate" else (
    if fault == 43 then codes "UnknownTemplate" else (
    if fault == 44 then codes "CircularSet" else (
    if fault == 45 then codes "Forbidden" else (
    if fault == 46 then codes "ModuleTooDeep" else (
    [])))))))))))))))))))))))

-- that of a file that could not be read
unfoldable pub file_fault_name : ℕ → List ℕ
file_fault_name fault =
    if fault == 70 then codes "ReadFault" else []

-- the name of a fault of a file, which its line bears; none of another number
abbrev pub fault_name : ℕ → List ℕ
fault_name fault = if nat_le fault 12 then document_fault_name fault else (if nat_le fault 46 then stylesheet_fault_name fault else file_fault_name fault)

-- the name of a fault of an evaluation
abbrev pub run_fault_name : Fault → List ℕ
run_fault_name Budget = codes "Budget"
run_fault_name Fraction = codes "Fraction"
run_fault_name Range = codes "Range"
run_fault_name NotNodes = codes "NotNodes"
run_fault_name NoKey = codes "NoKey"
run_fault_name TooDeep = codes "TooDeep"
run_fault_name NoRule = codes "NoRule"
run_fault_name Terminated = codes "Terminated"
run_fault_name NoExtension = codes "NoExtension"
run_fault_name Circular = codes "Circular"
run_fault_name BadResultName = codes "BadResultName"
run_fault_name UnboundResultPrefix = codes "UnboundResultPrefix"
run_fault_name BadValue = codes "BadValue"
run_fault_name TooManyEvents = codes "TooManyEvents"
run_fault_name NoDocument = codes "NoDocument"
