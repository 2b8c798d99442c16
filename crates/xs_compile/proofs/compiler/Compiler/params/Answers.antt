use Rattle.std.proofs.Common.{◌∙◌, ◌+◌, ap, subst, sym, take, All, List}
use Rattle.std.specs.List.{AllZip}
use Rattle.xs_compile.proofs.ZipLemmas.{item-of, zip-end, zip-more}
use Rattle.xs_compile.specs.declared.parts.Part.TheVariants.{Param}
use Rattle.xs_compile.specs.Declarations.{IsBinding}
use Rattle.xs_compile.specs.steps.Tags.{is_binding}
use Rattle.xs_compile.specs.steps.State.{IsPartOf, source_of}
use Rattle.xs_structure.specs.Modules.{Place}
use Rattle.xs_compile.proofs.compiler.Compiler.params.Goals as goal

pub binding-requires-clause-tag : goal.binding-requires-clause-tag
binding-requires-clause-tag c =
    let part = IsPartOf c.args.self.now (c.args.number, c.args.n) Param in
    let items = c.deref-place-items.result.now in
    ap is_binding (item-of part items c.loop-place.place-index c.place-item.result
    (subst (λ (ps : List Place). All part ps) (sym c.deref-place-items.ensures.value) c.in_ok-places.ensures.parts) c.loop-place-test.true c.place-item.is).tag

pub loop-place-preserved : goal.loop-place-preserved
loop-place-preserved c =
    let stands = IsBinding (source_of c.args.self.now) in
    let items = c.deref-place-items.result.now in
    let i = c.loop-place.place-index in
    subst (λ found. AllZip stands (take (i + 1) items) found) (sym c.in_ok-push.ensures.items)
    (zip-more stands items c.loop-place.params.items i c.place-item.result c.in_ok-param.param c.loop-place-test.true c.place-item.is
    c.loop-place.invariant c.in_ok-param.ensures)

pub returns : goal.returns
returns c =
    let stands = IsBinding (source_of c.args.self.now) in
    let found = c.loop-place.params.items in
    subst (λ (ps : List Place). AllZip stands ps found) (c.deref-place-items.ensures.value ∙ c.in_ok-places.ensures.places)
    (zip-end stands c.deref-place-items.result.now found c.loop-place.place-index c.loop-place-test.false c.loop-place.invariant)
