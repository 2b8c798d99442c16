use Rattle.xs_tree.proofs.Utf8Lemmas.{IsUtf8-extended}
use Rattle.xs_eval.proofs.operand.append_text.Goals as goal

pub returns-clause-utf8 : goal.returns-clause-utf8
returns-clause-utf8 c =
    IsUtf8-extended _ c.args.out.now.items c.extend_from_slice.new.self.items c.as_bytes.result.now c.extend_from_slice.ensures.items c.as_bytes.ensures.utf8
