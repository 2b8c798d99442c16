use Rattle.xs_text.proofs.Utf8Lemmas.{IsUtf8-extended}
use Rattle.xs_result_lines.proofs.name_lines.append_several.Goals as goal

pub returns-clause-utf8 : goal.returns-clause-utf8
returns-clause-utf8 c = IsUtf8-extended c.extend_from_slice.result _ _ _ c.extend_from_slice.ensures.items c.as_bytes.ensures.utf8
