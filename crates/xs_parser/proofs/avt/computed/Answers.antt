use Rattle.std.proofs.Common.{◌≡◌, false, Err, arith, ◌∙◌, ap, sym}
use Rattle.xs_parser.specs.Faults.{expr_in}
use Rattle.xs_parser.specs.Outcome.{answer_of}
use Rattle.xs_parser.proofs.PlaceLemmas.{place-within}
use Rattle.xs_parser.proofs.avt.computed.Goals as goal

pub moved-requires : goal.moved-requires
moved-requires c =
    let f : c.in-Ok-Err.field-0 ≡ Err c.in-Ok-Err.fault = cc in
    let h : expr_in c.args.scope.now.pairs.items c.args.text.now ≡ Err c.in-Ok-Err.fault = sym c.in-Ok-Err.ensures.answer ∙ ap answer_of f in
    omega (arith, place-within false c.args.scope.now.pairs.items c.args.text.now c.in-Ok-Err.fault h, c.requires)
