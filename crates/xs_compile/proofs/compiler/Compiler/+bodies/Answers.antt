use Rattle.std.proofs.Common.{◌≡◌, ◌∙◌, ◌<◌, ◌+◌, ap, refl, sym, subst, arith, length, take, List, [], All, None}
use Rattle.std.specs.List.{AllZip}
use Rattle.std.specs.Prelude.{slice_get}
use Rattle.xs_compile.proofs.BodyLemmas.{body-empty, gains-instr, none-in, some-in, body-is, body-some, choice-is, fallbacks-are, passed-are}
use Rattle.xs_compile.proofs.TagLemmas.{binding-named, binding-takes, body-tag-is, first-none, other-reading, tag-body, tag-holds, tag-known}
use Rattle.xs_compile.proofs.ZipLemmas.{behind-falls, first-of, item-of, zip-end, zip-more}
use Rattle.xs_compile.specs.Bodies.{IsBody, IsWhen, first_body, is_otherwise}
use Rattle.xs_compile.specs.Declarations.{IsBinding, IsInstr}
use Rattle.xs_structure.specs.Parts.{body_at, children_with}
use Rattle.xs_structure.specs.declared.standing.Standing.{Standing}
use Rattle.xs_compile.specs.declared.parts.Part.TheVariants.{Fallback as FallbackPart, Otherwise as OtherwisePart, When as WhenPart, WithParam as WithParamPart}
use Rattle.xs_compile.specs.steps.Tags.{is_binding}
use Rattle.xs_compile.specs.steps.State.{IsInBody, IsPartOf, modules_of, source_of}
use Rattle.xs_elements.specs.declared.reading.Reading.{Reading}
use Rattle.xs_elements.specs.declared.tags.Tag.TheVariants.{Choose, Fallback, ForEach, Otherwise, WithParam}
use Rattle.xs_elements.specs.Contents.{is_with_param}
use Rattle.xs_elements.specs.Reading.{shows}
use Rattle.xs_elements.specs.Tags.{is_fallback, is_when}
use Rattle.xs_structure.specs.Modules.{Place, records_at}
use Rattle.xs_sheet.specs.declared.body.Body.{out-Body, out-roll-Body, roll-Body}
use Rattle.xs_sheet.specs.declared.body.Choice.{out-roll-Choice, roll-Choice}
use Rattle.xs_sheet.specs.declared.body.Fallbacks.{out-roll-Fallbacks, roll-Fallbacks}
use Rattle.xs_sheet.specs.declared.body.Passed.{out-roll-Passed, roll-Passed}
use Rattle.xs_compile.proofs.compiler.Compiler.+bodies.Goals as goal

pub body-add_instr-requires : goal.body-add_instr-requires
body-add_instr-requires t c =
    let inside : Place = (c.args.number, c.args.n) in
    let h =
    item-of (IsInBody c.args.self.now inside) c.deref-place-items.result.now c.loop-place.place-index c.place-item.result
    (subst (λ (qs : List Place). All (IsInBody c.args.self.now inside) qs) (sym c.deref-place-items.ensures.value) c.in_ok-places.ensures.body)
    (omega arith) c.place-item.is in (
      behind-falls (modules_of c.args.self.now) inside c.place-item.result 7 0 t c.decreases h.«module» h.behind h.instruction.ready.within.node (omega arith),
      h.instruction,
    )

pub body-loop-place-preserved : goal.body-loop-place-preserved
body-loop-place-preserved t c =
    let i = c.loop-place.place-index in
    let items = c.deref-place-items.result.now in
    let lt : i < length items = omega arith in
    let more = c.in_ok-add_instr.ensures in
    subst (AllZip (IsInstr (source_of c.args.self.now)) (take (i + 1) items)) (sym more.grown)
    (zip-more (IsInstr (source_of c.args.self.now)) items c.loop-place.instrs.items i c.place-item.result more.instr lt c.place-item.is
    c.loop-place.invariant more.stands)

pub body-returns : goal.body-returns
body-returns t c =
    let s = source_of c.args.self.now in
    let inside : Place = (c.args.number, c.args.n) in
    let items = c.deref-place-items.result.now in
    body-is s (body_at (modules_of c.args.self.now) inside) (roll-Body (record { instrs = c.of.result }))
    (subst (AllZip (IsInstr (source_of c.args.self.now)) (body_at (modules_of c.args.self.now) inside))
    (sym (ap (λ b. b.instrs) (out-roll-Body (record { instrs = c.of.result })) ∙ c.of.ensures))
    (subst (λ (qs : List Place). AllZip (IsInstr (source_of c.args.self.now)) qs c.loop-place.instrs.items) (c.deref-place-items.ensures.value
    ∙ c.in_ok-places.ensures.places)
    (zip-end (IsInstr (source_of c.args.self.now)) items c.loop-place.instrs.items c.loop-place.place-index (omega arith) c.loop-place.invariant)))

pub add_instr-returns : goal.add_instr-returns
add_instr-returns t c =
    gains-instr (source_of c.args.self.now) (c.args.number, c.args.n) c.kind-kind.result c.site_at-site.result c.push_instr.result c.args.instrs.now.items
    c.push_instr.new.instrs.items c.site_at-site.ensures c.kind-kind.ensures c.push_instr.ensures

pub for_each-sorts-requires-clause-known : goal.for_each-sorts-requires-clause-known
for_each-sorts-requires-clause-known t c =
    let p : Place = (c.args.number, c.args.n) in
    tag-known (modules_of c.args.self.now) p ForEach c.requires.tag (λ a b. refl)

pub whens-parts-requires-clause-shown : goal.whens-parts-requires-clause-shown
whens-parts-requires-clause-shown t c =
    let p : Place = (c.args.number, c.args.n) in
    λ tag h. ap (λ (r : Reading). shows r tag) (tag-known (modules_of c.args.self.now) p Choose c.requires.tag (λ a b. refl))

pub whens-when-requires : goal.whens-when-requires
whens-when-requires t c =
    let inside : Place = (c.args.number, c.args.n) in
    let h =
    item-of (IsPartOf c.args.self.now inside WhenPart) c.deref-place-items.result.now c.loop-place.place-index c.place-item.result
    (subst (λ (qs : List Place). All (IsPartOf c.args.self.now inside WhenPart) qs) (sym c.deref-place-items.ensures.value) c.in_ok-places.ensures.parts)
    (omega arith) c.place-item.is in (
      behind-falls (modules_of c.args.self.now) inside c.place-item.result 1 2 t c.decreases h.«module» h.behind h.ready.within.node (omega arith),
      (h.ready, h.tag),
    )

pub whens-loop-place-preserved : goal.whens-loop-place-preserved
whens-loop-place-preserved t c =
    let i = c.loop-place.place-index in
    let items = c.deref-place-items.result.now in
    let lt : i < length items = omega arith in
    subst (AllZip (IsWhen (source_of c.args.self.now)) (take (i + 1) items)) (sym c.in_ok-push.ensures.items)
    (zip-more (IsWhen (source_of c.args.self.now)) items c.loop-place.whens.items i c.place-item.result c.in_ok-when.when lt c.place-item.is
    c.loop-place.invariant c.in_ok-when.ensures)

pub whens-returns : goal.whens-returns
whens-returns t c =
    let inside : Place = (c.args.number, c.args.n) in
    let items = c.deref-place-items.result.now in
    subst (λ (qs : List Place). AllZip (IsWhen (source_of c.args.self.now)) qs c.loop-place.whens.items) (c.deref-place-items.ensures.value
    ∙ c.in_ok-places.ensures.places)
    (zip-end (IsWhen (source_of c.args.self.now)) items c.loop-place.whens.items c.loop-place.place-index (omega arith) c.loop-place.invariant)

pub passed-parts-requires-clause-shown : goal.passed-parts-requires-clause-shown
passed-parts-requires-clause-shown t c = λ tag h. ap (λ (r : Reading). shows r tag) (c.requires.known)

pub passed-binding-requires : goal.passed-binding-requires
passed-binding-requires t c =
    let inside : Place = (c.args.number, c.args.n) in
    let h =
    item-of (IsPartOf c.args.self.now inside WithParamPart) c.deref-place-items.result.now c.loop-place.place-index c.place-item.result
    (subst (λ (qs : List Place). All (IsPartOf c.args.self.now inside WithParamPart) qs) (sym c.deref-place-items.ensures.value) c.in_ok-places.ensures.parts)
    (omega arith) c.place-item.is in (
      behind-falls (modules_of c.args.self.now) inside c.place-item.result 3 4 t c.decreases h.«module» h.behind h.ready.within.node (omega arith),
      (h.ready, tag-holds is_binding WithParam _ h.tag refl),
    )

pub passed-loop-place-preserved : goal.passed-loop-place-preserved
passed-loop-place-preserved t c =
    let i = c.loop-place.place-index in
    let items = c.deref-place-items.result.now in
    let lt : i < length items = omega arith in
    subst (AllZip (IsBinding (source_of c.args.self.now)) (take (i + 1) items)) (sym c.in_ok-push.ensures.items)
    (zip-more (IsBinding (source_of c.args.self.now)) items c.loop-place.params.items i c.place-item.result c.in_ok-param.param lt c.place-item.is
    c.loop-place.invariant c.in_ok-param.ensures)

pub passed-returns : goal.passed-returns
passed-returns t c =
    let s = source_of c.args.self.now in
    let inside : Place = (c.args.number, c.args.n) in
    let items = c.deref-place-items.result.now in
    passed-are s (children_with is_with_param (modules_of c.args.self.now) inside) (roll-Passed (record { params = c.of.result }))
    (subst (AllZip (IsBinding (source_of c.args.self.now)) (children_with is_with_param (modules_of c.args.self.now) inside))
    (sym (ap (λ b. b.params) (out-roll-Passed (record { params = c.of.result })) ∙ c.of.ensures))
    (subst (λ (qs : List Place). AllZip (IsBinding (source_of c.args.self.now)) qs c.loop-place.params.items) (c.deref-place-items.ensures.value
    ∙ c.in_ok-places.ensures.places)
    (zip-end (IsBinding (source_of c.args.self.now)) items c.loop-place.params.items c.loop-place.place-index (omega arith) c.loop-place.invariant)))

pub fallbacks-parts-requires-clause-shown : goal.fallbacks-parts-requires-clause-shown
fallbacks-parts-requires-clause-shown t c = λ tag h. ap (λ (r : Reading). shows r tag) c.requires.extension ∙ h

pub fallbacks-body-requires : goal.fallbacks-body-requires
fallbacks-body-requires t c =
    let inside : Place = (c.args.number, c.args.n) in
    let h =
    item-of (IsPartOf c.args.self.now inside FallbackPart) c.deref-place-items.result.now c.loop-place.place-index c.place-item.result
    (subst (λ (qs : List Place). All (IsPartOf c.args.self.now inside FallbackPart) qs) (sym c.deref-place-items.ensures.value) c.in_ok-places.ensures.parts)
    (omega arith) c.place-item.is in (
      behind-falls (modules_of c.args.self.now) inside c.place-item.result 0 1 t c.decreases h.«module» h.behind h.ready.within.node (omega arith),
      (h.ready, tag-body (records_at (modules_of c.args.self.now) c.place-item.result.0) c.place-item.result.1 Fallback h.tag (λ a b s. refl)),
    )

pub fallbacks-loop-place-preserved : goal.fallbacks-loop-place-preserved
fallbacks-loop-place-preserved t c =
    let i = c.loop-place.place-index in
    let items = c.deref-place-items.result.now in
    let lt : i < length items = omega arith in
    subst (AllZip (λ (p : Place). IsBody (source_of c.args.self.now) (body_at (modules_of c.args.self.now) p)) (take (i + 1) items))
    (sym c.in_ok-push.ensures.items)
    (zip-more (λ (p : Place). IsBody (source_of c.args.self.now) (body_at (modules_of c.args.self.now) p)) items c.loop-place.bodies.items i
    c.place-item.result c.in_ok-body.body lt c.place-item.is c.loop-place.invariant c.in_ok-body.ensures)

pub fallbacks-returns : goal.fallbacks-returns
fallbacks-returns t c =
    let s = source_of c.args.self.now in
    let inside : Place = (c.args.number, c.args.n) in
    let items = c.deref-place-items.result.now in
    fallbacks-are s (children_with is_fallback (modules_of c.args.self.now) inside) (roll-Fallbacks (record { bodies = c.of.result }))
    (subst (AllZip (λ (p : Place). IsBody (source_of c.args.self.now) (body_at (modules_of c.args.self.now) p))
    (children_with is_fallback (modules_of c.args.self.now) inside))
    (sym (ap (λ b. b.bodies) (out-roll-Fallbacks (record { bodies = c.of.result })) ∙ c.of.ensures))
    (subst (λ (qs : List Place). AllZip (λ (p : Place). IsBody (source_of c.args.self.now) (body_at (modules_of c.args.self.now) p)) qs
    c.loop-place.bodies.items) (c.deref-place-items.ensures.value ∙ c.in_ok-places.ensures.places)
    (zip-end (λ (p : Place). IsBody (source_of c.args.self.now) (body_at (modules_of c.args.self.now) p)) items c.loop-place.bodies.items
    c.loop-place.place-index (omega arith) c.loop-place.invariant)))

pub content-own_expr_if-requires-clause-form : goal.content-own_expr_if-requires-clause-form
content-own_expr_if-requires-clause-form t c = binding-takes _ c.requires.tag

pub own_content-returns-then-is_empty : goal.own_content-returns-then-is_empty
own_content-returns-then-is_empty t c =
    let p : Place = (c.args.number, c.args.n) in
    let b = c.in_ok-body.body in (
      c.requires.none,
      body-empty (source_of c.args.self.now) (body_at (modules_of c.args.self.now) p) b c.in_ok-body.ensures
          (none-in (out-Body b).instrs _ c.is_empty.result (ap length c.as_slice.ensures) c.is_empty.ensures c.if-is_empty.true),
    )

pub own_content-returns-else-is_empty : goal.own_content-returns-else-is_empty
own_content-returns-else-is_empty t c =
    let p : Place = (c.args.number, c.args.n) in
    let b = c.in_ok-body.body in (
      c.requires.none,
      body-some (source_of c.args.self.now) (body_at (modules_of c.args.self.now) p) b c.in_ok-body.ensures
          (some-in (out-Body b).instrs _ c.is_empty.result (ap length c.as_slice.ensures) c.is_empty.ensures c.if-is_empty.false),
      c.in_ok-body.ensures,
    )

pub binding-own_name-requires-clause-named : goal.binding-own_name-requires-clause-named
binding-own_name-requires-clause-named t c = binding-named _ c.requires.tag

pub otherwise-parts-requires-clause-shown : goal.otherwise-parts-requires-clause-shown
otherwise-parts-requires-clause-shown t c =
    let p : Place = (c.args.number, c.args.n) in
    λ tag h. ap (λ (r : Reading). shows r tag) (tag-known (modules_of c.args.self.now) p Choose c.requires.tag (λ a b. refl))

pub otherwise-body-requires : goal.otherwise-body-requires
otherwise-body-requires t c =
    let inside : Place = (c.args.number, c.args.n) in
    let h =
    first-of (IsPartOf c.args.self.now inside OtherwisePart) c.in_ok-places.places.items c.in-Some.place.now c.in_ok-places.ensures.parts
    (ap (λ (qs : List Place). slice_get qs 0) (sym c.deref.ensures.value) ∙ sym c.in-Some.ensures.value) in (
      behind-falls (modules_of c.args.self.now) inside c.in-Some.place.now 0 1 t c.decreases h.«module» h.behind h.ready.within.node (omega arith),
      (h.ready, tag-body (records_at (modules_of c.args.self.now) c.in-Some.place.now.0) c.in-Some.place.now.1 Otherwise h.tag (λ a b s. refl)),
    )

pub otherwise-returns : goal.otherwise-returns
otherwise-returns t c =
    let s = source_of c.args.self.now in
    let p : Place = (c.args.number, c.args.n) in
    let none : slice_get (children_with is_otherwise (modules_of c.args.self.now) p) 0 ≡ None
    = ap (λ (qs : List Place). slice_get qs 0) (sym (c.deref.ensures.value ∙ c.in_ok-places.ensures.places)) ∙ sym c.in-None.ensures.value in
    subst (λ (qs : List Place). IsBody s qs (roll-Body (record { instrs = c.new.result })))
    (sym (first-none s (children_with is_otherwise (modules_of c.args.self.now) p) none))
    (body-is s [] (roll-Body (record { instrs = c.new.result }))
    (subst (AllZip (IsInstr s) []) (sym (ap (λ b. b.instrs) (out-roll-Body (record { instrs = c.new.result })) ∙ c.new.ensures)) tt))

pub kind-unreachable-requires : goal.kind-unreachable-requires
kind-unreachable-requires t c =
    body-tag-is _ c.requires.tag (record {
      not_NoElement = λ e. c.in_default.not-NoElement (c.tag_at.ensures ∙ e);
      not_Text = λ e. c.in_default.not-Text (c.tag_at.ensures ∙ e);
      not_ApplyTemplates = λ e. c.in_default.not-ApplyTemplates (c.tag_at.ensures ∙ e);
      not_CallTemplate = λ e. c.in_default.not-CallTemplate (c.tag_at.ensures ∙ e);
      not_ApplyImports = λ e. c.in_default.not-ApplyImports (c.tag_at.ensures ∙ e);
      not_ForEach = λ e. c.in_default.not-ForEach (c.tag_at.ensures ∙ e);
      not_ValueOf = λ e. c.in_default.not-ValueOf (c.tag_at.ensures ∙ e);
      not_CopyOf = λ e. c.in_default.not-CopyOf (c.tag_at.ensures ∙ e);
      not_Copy = λ e. c.in_default.not-Copy (c.tag_at.ensures ∙ e);
      not_Number = λ e. c.in_default.not-Number (c.tag_at.ensures ∙ e);
      not_Choose = λ e. c.in_default.not-Choose (c.tag_at.ensures ∙ e);
      not_If = λ e. c.in_default.not-If (c.tag_at.ensures ∙ e);
      not_Variable = λ e. c.in_default.not-Variable (c.tag_at.ensures ∙ e);
      not_Element = λ e. c.in_default.not-Element (c.tag_at.ensures ∙ e);
      not_Attribute = λ e. c.in_default.not-Attribute (c.tag_at.ensures ∙ e);
      not_Comment = λ e. c.in_default.not-Comment (c.tag_at.ensures ∙ e);
      not_ProcessingInstruction = λ e. c.in_default.not-ProcessingInstruction (c.tag_at.ensures ∙ e);
      not_Message = λ e. c.in_default.not-Message (c.tag_at.ensures ∙ e);
      not_Other = λ e. c.in_default.not-Other (c.tag_at.ensures ∙ e);
    })

pub other-literal_start-requires-clause-literal : goal.other-literal_start-requires-clause-literal
other-literal_start-requires-clause-literal t c = sym (ap (λ (s : Standing). s.reading) c.standing.ensures) ∙ c.in-Literal.is

pub other-unreachable-requires : goal.other-unreachable-requires
other-unreachable-requires t c =
    other-reading (records_at (modules_of c.args.self.now) c.args.number) c.args.n c.requires.tag c.requires.instruction.inner
    (λ e. c.in_default.not-Literal (ap (λ (s : Standing). s.reading) c.standing.ensures
    ∙ e)) (λ e. c.in_default.not-Extension (ap (λ (s : Standing). s.reading) c.standing.ensures ∙ e))

pub choose-returns : goal.choose-returns
choose-returns t c =
    let s = source_of c.args.self.now in
    let p : Place = (c.args.number, c.args.n) in (
      c.requires.tag,
      choice-is s p (roll-Choice (record { whens = c.of.result; otherwise = c.in_ok-otherwise.otherwise }))
          (subst (AllZip (IsWhen s) (children_with is_when (modules_of c.args.self.now) p))
          (sym (ap (λ x. x.whens) (out-roll-Choice (record { whens = c.of.result; otherwise = c.in_ok-otherwise.otherwise })) ∙ c.of.ensures))
          c.in_ok-whens.ensures)
          (subst (IsBody s (first_body s (children_with is_otherwise (modules_of c.args.self.now) p)))
          (sym (ap (λ x. x.otherwise) (out-roll-Choice (record { whens = c.of.result; otherwise = c.in_ok-otherwise.otherwise }))))
          c.in_ok-otherwise.ensures),
    )
