use Rattle.std.proofs.Common.{rules}
use Rattle.xs_text.proofs.Utf8Lemmas.{IsUtf8-extended}
use Rattle.xs_num.proofs.ReadBackLemmas.{number_in-signed_decimal, number_in-nan, IsUtf8-nan}
use Rattle.xs_num.proofs.writing.write_num.Goals as goal

pub returns-in-Whole-clause-utf8 : goal.returns-in-Whole-clause-utf8
returns-in-Whole-clause-utf8 c =
    IsUtf8-extended c.extend_from_slice.result _ _ _ c.extend_from_slice.ensures.items c.as_bytes.ensures.utf8

pub returns-in-NaN-clause-utf8 : goal.returns-in-NaN-clause-utf8
returns-in-NaN-clause-utf8 c =
    IsUtf8-extended c.extend_from_slice-in-NaN.result _ _ _ c.extend_from_slice-in-NaN.ensures.items IsUtf8-nan

pub returns-in-Whole-clause-reads_back : goal.returns-in-Whole-clause-reads_back
returns-in-Whole-clause-reads_back c = search (rules, number_in-signed_decimal)

pub returns-in-NaN-clause-reads_back : goal.returns-in-NaN-clause-reads_back
returns-in-NaN-clause-reads_back c = search (rules, number_in-nan)
