use Rattle.std.proofs.Common.{sym, subst, IsOk}
use Rattle.xs_compile.proofs.ValidLemmas.{said_expr}
use Rattle.xs_structure.specs.Parts.{pairs_at}
use Rattle.xs_compile.specs.steps.State.{modules_of}
use Rattle.xs_parser.specs.Faults.{expr_in}
use Rattle.xs_compile.proofs.compiler.Compiler.expr_of.Goals as goal

pub expr-requires-clause-valid : goal.expr-requires-clause-valid
expr-requires-clause-valid c =
    let ms = modules_of c.args.self.now in
    let ready = c.requires.ready in
    subst (λ text. IsOk (expr_in (pairs_at ms (c.args.number, c.args.n)) text)) (sym c.said_at-text.ensures)
    (said_expr ms ready.state.accepted (c.args.number, c.args.n) ready.within ready.seen c.args.local.now c.requires.form c.requires.needed)
