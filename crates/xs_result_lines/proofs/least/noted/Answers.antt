use Rattle.std.proofs.Common.{rules}
use Rattle.xs_result_lines.proofs.TableLemmas.{noted_made}
use Rattle.xs_result_lines.proofs.least.noted.Goals as goal

pub returns : goal.returns
returns c =
    noted_made (λ t. t.entries) c.with_least.result c.args.by_uri.entries c.args.prefix.now c.args.uri.now c.in_ok-key.key c.is_empty.result c.is_less.result
    c.in_ok-least.least (search rules) c.if-is_empty.false c.in_ok-key.ensures c.in_ok-least.ensures c.is_less.ensures c.if-not-is_less.false
    c.with_least.ensures
