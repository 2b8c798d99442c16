use Rattle.std.proofs.Common.{sym}
use Rattle.xs_compile.proofs.ValidLemmas.{valid_pattern}
use Rattle.xs_compile.specs.steps.State.{modules_of}
use Rattle.xs_compile.proofs.compiler.Compiler.pattern_if.Goals as goal

pub pattern-requires-clause-valid : goal.pattern-requires-clause-valid
pattern-requires-clause-valid c =
    let ready = c.requires.ready in
    valid_pattern (modules_of c.args.self.now) ready.state.accepted (c.args.number, c.args.n) ready.within ready.seen c.args.local.now c.in-Some.text.now
    c.requires.form (sym c.in-Some.ensures)
