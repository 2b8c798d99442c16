use Rattle.std.proofs.Common.{sym, ◌∙◌, ap, subst}
use Rattle.std.specs.List.{prefix_len}
use Rattle.std.specs.Str.{IsCharBoundary}
use Rattle.xs_numbering.specs.Formats.{is_separator}
use Rattle.xs_numbering.proofs.BoundaryLemmas.{separator-boundary}
use Rattle.xs_numbering.proofs.formats.split_separator.Goals as goal

pub split_at-requires : goal.split_at-requires
split_at-requires c =
    subst (IsCharBoundary c.args.text.now) (sym (c.separator_len.ensures ∙ ap (prefix_len is_separator) c.as_bytes.ensures.value))
    (separator-boundary c.args.text.now c.utf8.text)
