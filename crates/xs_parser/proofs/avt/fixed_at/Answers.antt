use Rattle.std.proofs.Common.{sym, ◌∙◌, ap, subst}
use Rattle.std.specs.List.{prefix_len}
use Rattle.std.specs.Str.{IsCharBoundary}
use Rattle.xs_parser.specs.Templates.{is_fixed}
use Rattle.xs_parser.proofs.PieceLemmas.{fixed-boundary}
use Rattle.xs_parser.proofs.avt.fixed_at.Goals as goal

pub split_at-requires : goal.split_at-requires
split_at-requires c =
    subst (IsCharBoundary c.args.text.now) (sym (c.fixed_len.ensures.len ∙ ap (prefix_len is_fixed) c.as_bytes.ensures.value))
    (fixed-boundary c.args.text.now)
