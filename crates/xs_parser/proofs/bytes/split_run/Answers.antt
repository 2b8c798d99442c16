use Rattle.std.proofs.Common.{sym, ◌∙◌, ap, subst}
use Rattle.std.specs.List.{prefix_len}
use Rattle.std.specs.Str.{IsCharBoundary}
use Rattle.xs_parser.specs.Lexing.{passes}
use Rattle.xs_parser.proofs.RunLemmas.{run-boundary}
use Rattle.xs_parser.proofs.bytes.split_run.Goals as goal

pub split_at-requires : goal.split_at-requires
split_at-requires c =
    subst (IsCharBoundary c.args.text.now) (sym (c.run_len.ensures.len ∙ ap (prefix_len (passes c.args.class)) c.as_bytes.ensures.value))
    (run-boundary c.args.class c.args.text.now c.requires.cut c.utf8.text)
