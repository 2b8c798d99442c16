use Rattle.std.proofs.Common.{◌∙◌, rules, sym}
use Rattle.xs_result_lines.proofs.PlainTextLemmas.{printed_first, printed_none}
use Rattle.xs_result_lines.proofs.plain_text.is_printed.Goals as goal

pub loop-byte-preserved : goal.loop-byte-preserved
loop-byte-preserved c =
    λ h. c.loop-byte.invariant
    (printed_first c.loop-byte.rest.now c.in-Some.behind.now c.in-Some.byte.now (search rules)
    (sym c.is_printed_byte.ensures ∙ c.if-not-is_printed_byte.false) h)

pub returns : goal.returns
returns c = λ h. c.loop-byte.invariant (printed_none c.loop-byte.rest.now (search rules))
