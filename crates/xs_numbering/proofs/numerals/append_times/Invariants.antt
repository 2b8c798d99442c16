use Rattle.std.proofs.Common.{◌≡◌, ◌≤◌, ◌-◌, ◌++◌, replicate, string_bytes}
use Rattle.xs_numbering.proofs.numerals.append_times.Given as goal

abbrev pub invariant-loop-done : goal.invariant-loop-done
invariant-loop-done l = record {
  made : string_bytes l.out ≡ string_bytes l.initial.out ++ replicate l.done l.flag;
  most : l.done ≤ l.count;
}

abbrev pub decreases-loop-done : goal.decreases-loop-done
decreases-loop-done l = l.count - l.done
