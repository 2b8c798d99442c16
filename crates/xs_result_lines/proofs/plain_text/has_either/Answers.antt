use Rattle.std.proofs.Common.{◌∙◌}
use Rattle.memchr.specs.Find.{is_byte2}
use Rattle.xs_result_lines.proofs.PlainTextLemmas.{is_some-searched}
use Rattle.xs_result_lines.proofs.plain_text.has_either.Goals as goal

pub returns : goal.returns
returns c =
    c.is_some.ensures ∙ is_some-searched (is_byte2 c.args.one c.args.other) c.args.text.now c.memchr2.result c.memchr2.ensures
