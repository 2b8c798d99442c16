use Rattle.std.proofs.Common.{sym}
use Rattle.xs_compile.proofs.ValidLemmas.{valid_template}
use Rattle.xs_compile.specs.steps.State.{modules_of}
use Rattle.xs_compile.proofs.compiler.Compiler.template_if.Goals as goal

pub template-requires-clause-valid : goal.template-requires-clause-valid
template-requires-clause-valid c =
    let ready = c.requires.ready in
    valid_template (modules_of c.args.self.now) ready.state.accepted (c.args.number, c.args.n) ready.within ready.seen c.args.local.now c.in-Some.text.now
    c.requires.form (sym c.in-Some.ensures)
