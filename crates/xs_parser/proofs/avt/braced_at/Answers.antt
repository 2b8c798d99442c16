use Rattle.std.proofs.Common.{◌≡◌, None, ◌∙◌, ap, arith}
use Rattle.xs_parser.specs.Lexing.{first}
use Rattle.xs_parser.specs.Templates.{inside}
use Rattle.xs_parser.proofs.PieceLemmas.{end-boundary, end-first}
use Rattle.xs_parser.proofs.avt.braced_at.Goals as goal

pub split_at-requires : goal.split_at-requires
split_at-requires c = end-boundary c.args.text.now c.in-Some.n (c.in-Some.ensures.inside ∙ ap (inside None) c.as_bytes.ensures.value)

pub skip_one-requires-clause-some : goal.skip_one-requires-clause-some
skip_one-requires-clause-some c =
    let e : first c.split_at.result.1.now ≡ 125 = ap first c.split_at.ensures.back
    ∙ end-first c.args.text.now c.in-Some.n (c.in-Some.ensures.inside ∙ ap (inside None) c.as_bytes.ensures.value) in
    omega arith

pub skip_one-requires-clause-ascii : goal.skip_one-requires-clause-ascii
skip_one-requires-clause-ascii c =
    let e : first c.split_at.result.1.now ≡ 125 = ap first c.split_at.ensures.back
    ∙ end-first c.args.text.now c.in-Some.n (c.in-Some.ensures.inside ∙ ap (inside None) c.as_bytes.ensures.value) in
    omega arith
