use Rattle.std.proofs.Common.{◌+◌, arith}
use Rattle.std.proofs.lemmas.Int.Digits.{digits_value_more}
use Rattle.xs_num.proofs.DigitLemmas.{digit_within, digit_value-is, digits_value-take-le}
use Rattle.xs_num.proofs.reading.magnitude.Goals as goal

pub overflow_sub-digit : goal.overflow_sub-digit
overflow_sub-digit c = (digit_within c.args.digits.now c.loop-digit.digit-index c.requires (omega arith)).0

pub returns-then-value : goal.returns-then-value
returns-then-value c =
    let range = digit_within c.args.digits.now c.loop-digit.digit-index c.requires (omega arith) in
    let digit = digit_value-is _ range in
    let more = digits_value_more 10 c.args.digits.now c.loop-digit.digit-index (omega arith) in
    let part = digits_value-take-le c.args.digits.now (c.loop-digit.digit-index + 1) in
    λ small. omega (arith, digit, more, part, small, range.0, c.loop-digit.invariant.0, c.from.ensures)

pub loop-digit-preserved : goal.loop-digit-preserved
loop-digit-preserved c =
    let range = digit_within c.args.digits.now c.loop-digit.digit-index c.requires (omega arith) in
    let digit = digit_value-is _ range in
    let more = digits_value_more 10 c.args.digits.now c.loop-digit.digit-index (omega arith) in
    (omega (arith, digit, more, range.0, c.loop-digit.invariant.0, c.from.ensures), omega arith)
