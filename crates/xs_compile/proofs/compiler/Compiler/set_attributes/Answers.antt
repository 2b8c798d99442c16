use Rattle.std.proofs.Common.{◌≡◌, ◌∙◌, ◌+◌, ℕ, ap, false, subst, sym, take, All, List}
use Rattle.std.specs.List.{AllZip}
use Rattle.xs_compile.proofs.ShownLemmas.{inner-child}
use Rattle.xs_compile.proofs.ZipLemmas.{item-of, zip-end, zip-more}
use Rattle.xs_compile.specs.declared.parts.Part.TheVariants.{Attribute}
use Rattle.xs_compile.specs.Declarations.{IsInstr}
use Rattle.xs_compile.specs.steps.Tags.{is_body_tag}
use Rattle.xs_compile.specs.steps.State.{IsPartOf, modules_of, source_of}
use Rattle.xs_elements.specs.Tags.{is_stylesheet, is_top_level}
use Rattle.xs_structure.specs.Modules.{Place, records_at}
use Rattle.xs_compile.proofs.compiler.Compiler.set_attributes.Goals as goal

pub add_instr-requires : goal.add_instr-requires
add_instr-requires c =
    let ms = modules_of c.args.self.now in
    let inside : Place = (c.args.number, c.args.n) in
    let part = IsPartOf c.args.self.now inside Attribute in
    let items = c.deref-place-items.result.now in
    let p = c.place-item.result in
    let h = item-of part items c.loop-place.place-index p
    (subst (λ (ps : List Place). All part ps) (sym c.deref-place-items.ensures.value) c.in_ok-places.ensures.parts) c.loop-place-test.true c.place-item.is in
    record {
      ready = h.ready;
      tag = ap is_body_tag h.tag;
      inner = subst (λ (m : ℕ). is_top_level (records_at ms m) p.1 ≡ false) (sym h.«module»)
          (inner-child (records_at ms c.args.number) c.args.n p.1 h.parent (ap is_stylesheet c.requires.tag));
    }

pub loop-place-preserved : goal.loop-place-preserved
loop-place-preserved c =
    let stands = IsInstr (source_of c.args.self.now) in
    let items = c.deref-place-items.result.now in
    let i = c.loop-place.place-index in
    let more = c.in_ok-add_instr.ensures in
    subst (λ found. AllZip stands (take (i + 1) items) found) (sym more.grown)
    (zip-more stands items c.loop-place.attributes.items i c.place-item.result more.instr c.loop-place-test.true c.place-item.is
    c.loop-place.invariant more.stands)

pub returns : goal.returns
returns c =
    let stands = IsInstr (source_of c.args.self.now) in
    let found = c.loop-place.attributes.items in
    subst (λ (ps : List Place). AllZip stands ps found) (c.deref-place-items.ensures.value ∙ c.in_ok-places.ensures.places)
    (zip-end stands c.deref-place-items.result.now found c.loop-place.place-index c.loop-place-test.false c.loop-place.invariant)
