use Rattle.std.proofs.Common.{rules, arith, sym}
use Rattle.xs_num.proofs.SpaceLemmas.{without_trailing_space_is}
use Rattle.xs_num.proofs.reading.trim_end.Goals as goal
use Rattle.xs_num.proofs.reading.trim_end.Goals.{then-loop-end-test+else-is_space_byte, else-loop-end-test}

pub returns : goal.returns
returns c =
    let past = without_trailing_space_is c.args.text.now c.loop-end.end c.loop-end.invariant.0 c.loop-end.invariant.1 in
    elim c.loop-end-test.branch [
      | then-loop-end-test+else-is_space_byte w ↦ sym (past (λ _. search rules))
      | else-loop-end-test w ↦ sym (past (λ h. absurd (omega arith)))
    ]
