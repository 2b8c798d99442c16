use Rattle.std.proofs.Common.{sym, ◌∙◌}
use Rattle.xs_numbering.proofs.PieceLemmas.{pair_none, pair_some}
use Rattle.xs_numbering.proofs.formats.split_pair.Goals as goal

pub returns-then-is_empty : goal.returns-then-is_empty
returns-then-is_empty c =
    pair_none c.args.rest.now c.split_separator.result.1.now c.requires c.split_separator.ensures.rest
    (sym c.is_empty.ensures ∙ c.if-is_empty.true)

pub returns : goal.returns
returns c =
    pair_some c.args.rest.now c.split_separator.result.0.now c.split_separator.result.1.now c.split_token.result.0.now
    c.split_token.result.1.now c.requires c.split_separator.ensures.separator c.split_separator.ensures.rest c.split_token.ensures.token
    c.split_token.ensures.rest (sym c.is_empty.ensures ∙ c.if-is_empty.false)
