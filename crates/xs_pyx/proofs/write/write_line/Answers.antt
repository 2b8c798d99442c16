use Rattle.std.proofs.Common.{sym, ◌∙◌}
use Rattle.xs_text.proofs.Utf8Lemmas.{IsUtf8-appended_ok}
use Rattle.xs_pyx.proofs.WriteLemmas.{reads_back, IsUtf8-written}
use Rattle.xs_pyx.proofs.LineLemmas.{line_before}
use Rattle.xs_pyx.proofs.write.write_line.Goals as goal

pub returns-then-is_err-clause-read_back : goal.returns-then-is_err-clause-read_back
returns-then-is_err-clause-read_back c = reads_back c.args.line.now c.append_line-outcome.ensures.texts

pub returns-else-is_err-clause-read_back : goal.returns-else-is_err-clause-read_back
returns-else-is_err-clause-read_back c = reads_back c.args.line.now c.append_line-outcome.ensures.texts

pub returns-then-is_err-clause-lines : goal.returns-then-is_err-clause-lines
returns-then-is_err-clause-lines c = λ plain. line_before c.args.line.now (reads_back c.args.line.now c.append_line-outcome.ensures.texts plain)

pub returns-else-is_err-clause-lines : goal.returns-else-is_err-clause-lines
returns-else-is_err-clause-lines c = λ plain. line_before c.args.line.now (reads_back c.args.line.now c.append_line-outcome.ensures.texts plain)

pub returns-else-is_err-clause-utf8 : goal.returns-else-is_err-clause-utf8
returns-else-is_err-clause-utf8 c =
    IsUtf8-appended_ok c.append_line-outcome.result _ _ _ (sym c.is_err.ensures.value ∙ c.if-is_err.false) c.append_line-outcome.ensures.ok
    (IsUtf8-written c.args.line.now c.append_line-outcome.ensures.texts)
