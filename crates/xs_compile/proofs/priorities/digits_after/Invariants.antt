use Rattle.std.proofs.Common.{◌+◌, ◌*◌, ◌^◌, length}
use Rattle.std.specs.Str.Parse.{digits_value_after}
use Rattle.xs_compile.proofs.PriorityLemmas.{IsRead}
use Rattle.xs_compile.proofs.priorities.digits_after.Given as goal

-- the digits that are left, behind the value so far
abbrev pub invariant-loop-digit : goal.invariant-loop-digit
invariant-loop-digit l =
    IsRead l.digits l.digit-index l.value ((l.before + 1) * 10 ^ length l.digits) (digits_value_after 10 l.before l.digits)
