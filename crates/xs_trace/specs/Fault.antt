-- The numbers of the faults in which a run can end.
use Rattle.std.specs.Prelude.{ℕ}
use Rattle.xs_trace.specs.declared.fault.Fault.{Fault}
use Rattle.xs_trace.specs.declared.fault.Fault.TheVariants.{Budget, Fraction, Range, NotNodes, NoKey, TooDeep, NoRule, Terminated, NoExtension, Circular}
use Rattle.xs_trace.specs.declared.fault.Fault.TheVariants.{BadResultName, UnboundResultPrefix, BadValue, TooManyEvents, NoDocument}

abbrev pub fault_number : Fault → ℕ
fault_number Budget = 50
fault_number Fraction = 51
fault_number Range = 52
fault_number NotNodes = 53
fault_number NoKey = 54
fault_number TooDeep = 55
fault_number NoRule = 56
fault_number Terminated = 57
fault_number NoExtension = 58
fault_number Circular = 59
fault_number BadResultName = 60
fault_number UnboundResultPrefix = 61
fault_number BadValue = 62
fault_number TooManyEvents = 63
fault_number NoDocument = 64
