use Rattle.std.proofs.Common.{ap, sym}
use Rattle.std.specs.Prelude.{codes}
use Rattle.xs_compile.proofs.DotLemmas.{dot-ok}
use Rattle.xs_compile.proofs.ValidLemmas.{valid_expr}
use Rattle.xs_structure.specs.Parts.{pairs_at}
use Rattle.xs_compile.specs.steps.Tags.{takes_expression}
use Rattle.xs_compile.specs.steps.State.{modules_of}
use Rattle.xs_elements.specs.declared.tags.Tag.{Tag}
use Rattle.xs_structure.specs.Modules.{Place}
use Rattle.xs_compile.proofs.compiler.Compiler.sort_select.Goals as goal

pub expr-requires-clause-valid : goal.expr-requires-clause-valid
expr-requires-clause-valid c =
    let ready = c.requires.ready in
    let p : Place = (c.args.number, c.args.n) in
    valid_expr (modules_of c.args.self.now) ready.state.accepted p ready.within ready.seen (codes "select") c.in-Some.text.now
    (ap (λ (r : Tag). takes_expression r (codes "select")) c.requires.tag) (sym c.in-Some.ensures)

pub expr-requires-in-None-clause-valid : goal.expr-requires-in-None-clause-valid
expr-requires-in-None-clause-valid c =
    let p : Place = (c.args.number, c.args.n) in
    dot-ok (pairs_at (modules_of c.args.self.now) p)
