use Rattle.xs_pyx.proofs.TextRowLemmas.{escaped_found, is_feed, is_no_feed, plain_found, plain_nowhere}
use Rattle.xs_pyx.proofs.rows.find_end.Goals as goal

pub returns-then-bytes-place-eq10-clause-plain : goal.returns-then-bytes-place-eq10-clause-plain
returns-then-bytes-place-eq10-clause-plain c =
    λ _. plain_found c.args.bytes.now c.in-Some.place c.in-Some.ensures (is_feed _ c.if-bytes-place-eq10.true)

pub returns-in-None-clause-plain : goal.returns-in-None-clause-plain
returns-in-None-clause-plain c = λ _. plain_nowhere c.args.bytes.now c.in-None.ensures

pub returns-else-bytes-place-eq10-clause-escaped : goal.returns-else-bytes-place-eq10-clause-escaped
returns-else-bytes-place-eq10-clause-escaped c =
    λ _. escaped_found c.args.bytes.now c.in-Some.place c.memchr.result c.in-Some.ensures (is_no_feed _ c.if-bytes-place-eq10.false) c.memchr.ensures
