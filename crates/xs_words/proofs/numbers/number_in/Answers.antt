use Rattle.xs_words.proofs.DigitLemmas.{value_read, not_refused}
use Rattle.xs_words.proofs.numbers.number_in.Goals as goal

pub returns : goal.returns
returns c = value_read c.args.digits.now c.in-Ok.number c.requires c.in-Ok.ensures.value.0

pub unreachable-requires : goal.unreachable-requires
unreachable-requires c = absurd (not_refused c.args.digits.now c.requires c.in-Err.ensures.value.0)
