use Rattle.std.proofs.Common.{sym, subst, IsOk}
use Rattle.xs_compile.proofs.ValidLemmas.{said_template}
use Rattle.xs_structure.specs.Parts.{pairs_at}
use Rattle.xs_compile.specs.steps.State.{modules_of}
use Rattle.xs_parser.specs.Templates.{template_in}
use Rattle.xs_compile.proofs.compiler.Compiler.template_of.Goals as goal

pub template-requires-clause-valid : goal.template-requires-clause-valid
template-requires-clause-valid c =
    let ms = modules_of c.args.self.now in
    let ready = c.requires.ready in
    subst (λ text. IsOk (template_in (pairs_at ms (c.args.number, c.args.n)) text)) (sym c.said_at-text.ensures)
    (said_template ms ready.state.accepted (c.args.number, c.args.n) ready.within ready.seen c.args.local.now c.requires.form c.requires.needed)
