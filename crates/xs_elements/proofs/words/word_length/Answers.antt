use Rattle.std.proofs.Common.{arith}
use Rattle.xs_elements.proofs.WordLemmas.{space-at, space-nowhere}
use Rattle.xs_elements.proofs.words.word_length.Goals as goal

pub returns-then-is_space_byte : goal.returns-then-is_space_byte
returns-then-is_space_byte c =
    space-at c.args.text.now c.loop-byte.count c.is_space_byte.result (omega arith) c.loop-byte.invariant.bare
    (rw c.loop-byte.invariant.so_far c.is_space_byte.ensures) c.if-is_space_byte.true

pub returns : goal.returns
returns c = space-nowhere c.args.text.now c.loop-byte.count (omega arith) (omega arith) c.loop-byte.invariant.bare
