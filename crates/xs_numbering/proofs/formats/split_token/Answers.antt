use Rattle.std.proofs.Common.{sym, ◌∙◌, ap, subst}
use Rattle.std.specs.List.{prefix_len}
use Rattle.std.specs.Str.{IsCharBoundary}
use Rattle.std.specs.Char.{is_ascii_alphanumeric}
use Rattle.xs_numbering.proofs.BoundaryLemmas.{token-boundary}
use Rattle.xs_numbering.proofs.formats.split_token.Goals as goal

pub split_at-requires : goal.split_at-requires
split_at-requires c =
    subst (IsCharBoundary c.args.text.now) (sym (c.token_len.ensures ∙ ap (prefix_len is_ascii_alphanumeric) c.as_bytes.ensures.value))
    (token-boundary c.args.text.now c.utf8.text)
