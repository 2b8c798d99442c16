use Rattle.std.proofs.Common.{sym, subst, IsOk}
use Rattle.xs_compile.proofs.ValidLemmas.{said_pattern}
use Rattle.xs_structure.specs.Parts.{pairs_at}
use Rattle.xs_compile.specs.steps.State.{modules_of}
use Rattle.xs_parser.specs.Faults.{pattern_in}
use Rattle.xs_compile.proofs.compiler.Compiler.pattern_of.Goals as goal

pub pattern-requires-clause-valid : goal.pattern-requires-clause-valid
pattern-requires-clause-valid c =
    let ms = modules_of c.args.self.now in
    let ready = c.requires.ready in
    subst (λ text. IsOk (pattern_in (pairs_at ms (c.args.number, c.args.n)) text)) (sym c.said_at-text.ensures)
    (said_pattern ms ready.state.accepted (c.args.number, c.args.n) ready.within ready.seen c.args.local.now c.requires.form c.requires.needed)
