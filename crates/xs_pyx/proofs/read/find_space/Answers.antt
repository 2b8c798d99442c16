use Rattle.std.proofs.Common.{rules, arith}
use Rattle.xs_pyx.specs.Reading.{ends_name}
use Rattle.xs_pyx.proofs.SearchLemmas.{first_at, first_nowhere}
use Rattle.xs_pyx.proofs.read.find_space.Goals as goal

pub returns-then-byte-eq32 : goal.returns-then-byte-eq32
returns-then-byte-eq32 c = first_at ends_name c.args.bytes.now c.loop-place.place (omega arith) c.loop-place.invariant (search rules)

pub returns : goal.returns
returns c = first_nowhere ends_name c.args.bytes.now (λ j h. c.loop-place.invariant j (omega arith))
