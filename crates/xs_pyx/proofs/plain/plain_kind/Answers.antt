use Rattle.xs_pyx.proofs.ReadLemmas.{cut_behind_kind}
use Rattle.xs_pyx.proofs.plain.plain_kind.Goals as goal

pub range_from-requires : goal.range_from-requires
range_from-requires c =
    λ _. cut_behind_kind c.args.text.now c.as_bytes.result.now c.begins_line.result c.as_bytes.ensures.value c.in-len1-up.len_at_least
    c.begins_line.ensures c.if-begins_line.true c.utf8.text
