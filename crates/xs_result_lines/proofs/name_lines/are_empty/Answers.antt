use Rattle.std.proofs.Common.{◌≡◌, ◌∙◌, ◌+◌, ◌<◌, ap, arith, drop, false, length, sym}
use Rattle.std.specs.Prelude.{◌==◌}
use Rattle.xs_result.specs.Built.{is_empty}
use Rattle.xs_result_lines.specs.steps.Pending.{joined}
use Rattle.xs_result_lines.proofs.PendingLemmas.{full_first, next}
use Rattle.xs_result_lines.proofs.name_lines.are_empty.Goals as goal

pub returns-then-not-is_empty : goal.returns-then-not-is_empty
returns-then-not-is_empty c =
    let t = c.text-item.result in
    let i = c.loop-text.text-index in
    let texts = c.args.texts.now in
    let lt : i < length texts = omega arith in
    let full : (length t.now == 0) ≡ false = sym c.is_empty.ensures.empty ∙ c.if-not-is_empty.true in
    sym (full_first t.now (joined (drop (i + 1) texts)) full) ∙ ap (λ ts. is_empty (joined ts)) (sym (next texts i t lt c.text-item.is))
    ∙ c.loop-text.invariant
