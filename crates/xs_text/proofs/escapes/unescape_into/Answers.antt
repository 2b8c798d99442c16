use Rattle.std.proofs.Common.{sym, ◌∙◌}
use Rattle.xs_text.proofs.Utf8Lemmas.{IsUtf8-append_unescaped}
use Rattle.xs_text.proofs.UnescapeLemmas.{unescaped_by_rules}
use Rattle.xs_text.proofs.escapes.unescape_into.Goals as goal

pub returns-then-is_ok-clause-rules : goal.returns-then-is_ok-clause-rules
returns-then-is_ok-clause-rules c = unescaped_by_rules c.args.s.now

pub returns-then-is_well_escaped-clause-rules : goal.returns-then-is_well_escaped-clause-rules
returns-then-is_well_escaped-clause-rules c = unescaped_by_rules c.args.s.now

pub returns-else-is_well_escaped-clause-rules : goal.returns-else-is_well_escaped-clause-rules
returns-else-is_well_escaped-clause-rules c = unescaped_by_rules c.args.s.now

pub returns-then-is_ok-clause-utf8 : goal.returns-then-is_ok-clause-utf8
returns-then-is_ok-clause-utf8 c =
    IsUtf8-append_unescaped c.append_unescaped.result _ _ _ (sym c.is_ok.ensures.value ∙ c.if-is_ok.true) c.append_unescaped.ensures.ok c.as_bytes.ensures.utf8
