use Rattle.std.proofs.Common.{◌∙◌, ◌<◌, ◌+◌, ap, sym, subst, arith, length, take, List, All}
use Rattle.std.specs.List.{AllZip}
use Rattle.xs_compile.proofs.ZipLemmas.{item-of, zip-end, zip-more}
use Rattle.xs_compile.specs.Bodies.{IsSort}
use Rattle.xs_compile.specs.declared.parts.Part.TheVariants.{Sort as SortPart}
use Rattle.xs_compile.specs.steps.State.{IsPartOf, source_of}
use Rattle.xs_elements.specs.declared.reading.Reading.{Reading}
use Rattle.xs_elements.specs.Reading.{shows}
use Rattle.xs_structure.specs.Modules.{Place}
use Rattle.xs_compile.proofs.compiler.Compiler.sorts.Goals as goal

pub parts-requires-clause-shown : goal.parts-requires-clause-shown
parts-requires-clause-shown c = λ tag h. ap (λ (r : Reading). shows r tag) c.requires.known

pub sort-requires-clause-ready : goal.sort-requires-clause-ready
sort-requires-clause-ready c =
    let inside : Place = (c.args.number, c.args.n) in
    (item-of (IsPartOf c.args.self.now inside SortPart) c.deref-place-items.result.now c.loop-place.place-index c.place-item.result
    (subst (λ (qs : List Place). All (IsPartOf c.args.self.now inside SortPart) qs) (sym c.deref-place-items.ensures.value) c.in_ok-places.ensures.parts)
    (omega arith) c.place-item.is).ready

pub sort-requires-clause-tag : goal.sort-requires-clause-tag
sort-requires-clause-tag c =
    let inside : Place = (c.args.number, c.args.n) in
    (item-of (IsPartOf c.args.self.now inside SortPart) c.deref-place-items.result.now c.loop-place.place-index c.place-item.result
    (subst (λ (qs : List Place). All (IsPartOf c.args.self.now inside SortPart) qs) (sym c.deref-place-items.ensures.value) c.in_ok-places.ensures.parts)
    (omega arith) c.place-item.is).tag

pub loop-place-preserved : goal.loop-place-preserved
loop-place-preserved c =
    let s = source_of c.args.self.now in
    let i = c.loop-place.place-index in
    let items = c.deref-place-items.result.now in
    let lt : i < length items = omega arith in
    subst (AllZip (IsSort s) (take (i + 1) items)) (sym c.in_ok-push.ensures.items)
    (zip-more (IsSort s) items c.loop-place.sorts.items i c.place-item.result c.in_ok-sort.sort lt c.place-item.is c.loop-place.invariant c.in_ok-sort.ensures)

pub returns : goal.returns
returns c =
    let s = source_of c.args.self.now in
    let items = c.deref-place-items.result.now in
    subst (λ (qs : List Place). AllZip (IsSort s) qs c.loop-place.sorts.items) (c.deref-place-items.ensures.value ∙ c.in_ok-places.ensures.places)
    (zip-end (IsSort s) items c.loop-place.sorts.items c.loop-place.place-index (omega arith) c.loop-place.invariant)
