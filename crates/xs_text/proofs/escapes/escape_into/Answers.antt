use Rattle.std.proofs.Common.{sym, ◌∙◌}
use Rattle.xs_text.proofs.Utf8Lemmas.{IsUtf8-append_escaped}
use Rattle.xs_text.proofs.UnescapeLemmas.{unescaped-escaped}
use Rattle.xs_text.proofs.escapes.escape_into.Goals as goal

pub returns-then-is_err-clause-read_back : goal.returns-then-is_err-clause-read_back
returns-then-is_err-clause-read_back c = unescaped-escaped c.args.s.now

pub returns-else-is_err-clause-read_back : goal.returns-else-is_err-clause-read_back
returns-else-is_err-clause-read_back c = unescaped-escaped c.args.s.now

pub returns-else-is_err-clause-utf8 : goal.returns-else-is_err-clause-utf8
returns-else-is_err-clause-utf8 c =
    IsUtf8-append_escaped c.append_escaped-outcome.result _ _ _ (sym c.is_err.ensures.value
    ∙ c.if-is_err.false) c.append_escaped-outcome.ensures.ok c.as_bytes.ensures.utf8
