use Rattle.std.proofs.Common.{◌≡◌, [], true, None, reverse, length}
use Rattle.xs_parser.specs.steps.Scan.{scan, scanned}
use Rattle.xs_parser.proofs.arity.first_wrong.Given as goal

abbrev pub invariant-loop-placed : goal.invariant-loop-placed
invariant-loop-placed l = scanned l.lexemes (scan [] true None) ≡ scanned l.rest (scan (reverse l.counts.items) l.ends l.found)

abbrev pub decreases-loop-placed : goal.decreases-loop-placed
decreases-loop-placed l = length l.rest
