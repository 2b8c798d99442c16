use Rattle.std.proofs.Common.{◌≡◌, ℕ, List, ◌++◌, length}
use Rattle.xs_outside.proofs.WriteLemmas.{HoldsMore}
use Rattle.xs_outside.proofs.whole.write_whole.Given as goal

abbrev pub invariant-loop-rest : goal.invariant-loop-rest
invariant-loop-rest g l = record {
  count : g.S.Sink.faults l.sink ≡ g.S.Sink.faults l.initial.sink;
  part : (done : List ℕ) × (l.bytes ≡ done ++ l.rest) × HoldsMore (g.S.Sink.held l.initial.sink) (g.S.Sink.held l.sink) done;
}

abbrev pub decreases-loop-rest : goal.decreases-loop-rest
decreases-loop-rest g l = length l.rest
