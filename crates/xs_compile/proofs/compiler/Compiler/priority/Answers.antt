use Rattle.std.proofs.Common.{sym}
use Rattle.xs_compile.proofs.ValidLemmas.{valid_priority}
use Rattle.xs_compile.specs.steps.State.{modules_of}
use Rattle.xs_compile.proofs.compiler.Compiler.priority.Goals as goal

pub priority_in-requires : goal.priority_in-requires
priority_in-requires c =
    let ready = c.requires.ready in
    valid_priority (modules_of c.args.self.now) ready.state.accepted (c.args.number, c.args.n) ready.within ready.seen c.in-Some.text.now
    c.requires.tag (sym c.in-Some.ensures)
