use Rattle.std.proofs.Common.{subst, sym, IsOk}
use Rattle.xs_compile.proofs.ValidLemmas.{valid_put}
use Rattle.xs_structure.specs.Parts.{pairs_at}
use Rattle.xs_compile.specs.steps.State.{modules_of}
use Rattle.xs_structure.specs.Modules.{Place}
use Rattle.xs_parser.specs.Templates.{template_in}
use Rattle.xs_compile.proofs.compiler.Compiler.put_attribute.Goals as goal

pub template-requires-clause-valid : goal.template-requires-clause-valid
template-requires-clause-valid c =
    let ms = modules_of c.args.self.now in
    let p : Place = (c.args.number, c.args.n) in
    let ready = c.requires.ready in
    subst (λ text. IsOk (template_in (pairs_at ms p) text)) (sym c.own_text-text.ensures)
    (valid_put ms ready.state.accepted p ready.within ready.seen c.args.attribute c.requires.literal c.requires.inside c.requires.attribute c.requires.put)
