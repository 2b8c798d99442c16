use Rattle.std.proofs.Common.{◌∙◌, ◌+◌, filter, subst, sym, take}
use Rattle.std.specs.List.{AllZip}
use Rattle.xs_compile.proofs.DeclaredLemmas.{declared-item, one-more}
use Rattle.xs_compile.specs.Declarations.{IsTemplate}
use Rattle.xs_compile.specs.steps.State.{modules_of, source_of}
use Rattle.xs_structure.specs.Order.{is_template_place}
use Rattle.xs_compile.proofs.compiler.Compiler.templates.Goals as goal

pub is_template-requires : goal.is_template-requires
is_template-requires c = record {
  at = (declared-item c.args.self.now c.requires.state c.args.declared.now c.requires.all c.loop-place.place-index c.place-item.result c.loop-place-test.true
      c.place-item.is).within;
}

pub template_at-requires-clause-ready : goal.template_at-requires-clause-ready
template_at-requires-clause-ready c =
    declared-item c.args.self.now c.requires.state c.args.declared.now c.requires.all c.loop-place.place-index c.place-item.result c.loop-place-test.true
    c.place-item.is

-- one declaration more
pub loop-place-preserved : goal.loop-place-preserved
loop-place-preserved c =
    let stands = IsTemplate (source_of c.args.self.now) in
    let test = is_template_place (modules_of c.args.self.now) in
    let declared = c.args.declared.now in
    let i = c.loop-place.place-index in
    subst (λ found. AllZip stands (filter test (take (i + 1) declared)) found) (sym c.in_ok-push.ensures.items)
    (one-more stands test declared i c.place-item.result c.loop-place.templates.items c.in_ok-template.template c.loop-place-test.true c.place-item.is
    c.loop-place.invariant
    (sym c.is_template.ensures ∙ c.if-not-is_template.false) c.in_ok-template.ensures)
