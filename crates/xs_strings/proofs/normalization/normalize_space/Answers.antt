use Rattle.std.proofs.Common.{sym, ◌∙◌}
use Rattle.xs_text.proofs.Utf8Lemmas.{IsUtf8-appended_ok}
use Rattle.xs_strings.proofs.Utf8Lemmas.{IsUtf8-normalized}
use Rattle.xs_strings.proofs.normalization.normalize_space.Goals as goal

pub returns-else-is_err-clause-utf8 : goal.returns-else-is_err-clause-utf8
returns-else-is_err-clause-utf8 c =
    IsUtf8-appended_ok c.append_words-outcome.result _ _ _ (sym c.is_err.ensures.value ∙ c.if-is_err.false) c.append_words-outcome.ensures.ok
    (IsUtf8-normalized c.args.s.now c.utf8.s)
