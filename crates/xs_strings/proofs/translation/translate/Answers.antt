use Rattle.std.proofs.Common.{sym, ◌∙◌}
use Rattle.xs_text.proofs.Utf8Lemmas.{IsUtf8-appended_ok}
use Rattle.xs_strings.proofs.Utf8Lemmas.{IsUtf8-translated}
use Rattle.xs_strings.proofs.translation.translate.Goals as goal

pub returns-else-is_err-clause-utf8 : goal.returns-else-is_err-clause-utf8
returns-else-is_err-clause-utf8 c =
    IsUtf8-appended_ok c.append_translated-outcome.result _ _ _ (sym c.is_err.ensures.value ∙ c.if-is_err.false)
    c.append_translated-outcome.ensures.ok (IsUtf8-translated c.args.s.now c.args.from.now c.args.to.now c.utf8.s c.utf8.to)
