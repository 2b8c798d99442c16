use Rattle.std.proofs.Common.{◌*◌, ◌+◌, ◌^◌, arith, length, subst, sym, ℕ}
use Rattle.std.specs.Str.Parse.{digits_value_after}
use Rattle.xs_compile.proofs.PriorityLemmas.{IsRead, digit_more, digit_next}
use Rattle.xs_compile.proofs.priorities.digits_after.Goals as goal

pub overflow_mul-value : goal.overflow_mul-value
overflow_mul-value c =
    let next = digit_next c.args.digits.now c.loop-digit.digit-index c.loop-digit.value _ _ c.loop-digit-test.true c.loop-digit.invariant in
    omega (arith, next.room, c.requires.few)

pub overflow_add-value : goal.overflow_add-value
overflow_add-value c =
    let next = digit_next c.args.digits.now c.loop-digit.digit-index c.loop-digit.value _ _ c.loop-digit-test.true c.loop-digit.invariant in
    omega (arith, next.room, next.small, c.from.ensures, c.requires.few)

pub loop-digit-preserved : goal.loop-digit-preserved
loop-digit-preserved c =
    let digits = c.args.digits.now in
    let i = c.loop-digit.digit-index in
    let v = c.loop-digit.value in
    let whole = (c.args.before + 1) * 10 ^ length digits in
    let total = digits_value_after 10 c.args.before digits in
    subst (λ (d : ℕ). IsRead digits (i + 1) (v * 10 + d) whole total) (sym c.from.ensures)
    (digit_more digits i v whole total c.loop-digit-test.true c.loop-digit.invariant)
