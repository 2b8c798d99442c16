use Rattle.std.proofs.Common.{◌∙◌, sym}
use Rattle.xs_compile.proofs.ValidLemmas.{named}
use Rattle.xs_compile.specs.steps.State.{modules_of}
use Rattle.xs_compile.proofs.compiler.Compiler.name.Goals as goal

pub unreachable-requires : goal.unreachable-requires
unreachable-requires c =
    let ready = c.requires.ready in
    named (modules_of c.args.self.now) ready.state.accepted (c.args.number, c.args.n) ready.within ready.seen c.requires.named
    (sym c.in_ok-name.ensures ∙ c.in-None.is)
