-- What stays of a result is fit to be read: each start tag in the bindings around it, one top element, and no text outside it.
use Rattle.std.proofs.Common.{◌≡◌, ℕ, zero, suc, ◌+◌, ◌<◌, ◌^◌, List, [], ◌∷◌, ◌++◌, Bool, true, false, refl, ap, arith, length, map}
use Rattle.std.specs.Prelude.{not, ◌||◌}
use Rattle.std.specs.List.{AllByRecursion}
use Rattle.std.specs.Str.{IsUtf8}
use Rattle.std.proofs.lemmas.Bool.{and_parts}
use Rattle.xs_pyx.specs.declared.line.Line.{Line}
use Rattle.xs_pyx.specs.Writing.{HasTexts, IsPlain, IsPlainName}
use Rattle.xs_text.specs.Names.{is_ncname}
use Rattle.xs_trace.specs.Label.{Label}
use Rattle.xs_trace.specs.declared.event.Event.{Event}
use Rattle.xs_trace.specs.declared.event.Event.TheVariants.{Start, Space, Attr, Chars, End, Comment, Pi}
use Rattle.xs_build.specs.DocumentTree.{is_target}
use Rattle.xs_build.specs.Namespaces.{is_xml}
use Rattle.xs_build.specs.Namespaces as read
use Rattle.xs_result.specs.Built.{is_empty}
use Rattle.xs_result_lines.specs.Bindings.{Attribute, Binding, attributes_in, bindings_before, with_attribute}
use Rattle.xs_result_lines.specs.Laws.{NamesResolve}
use Rattle.xs_result_lines.specs.Lines.{OpenElement, attribute_lines, declaration, entered, lines, scope_of, tag_lines}
use Rattle.xs_result_laws.specs.Events.{has_one_top}
use Rattle.xs_result_laws.proofs.NameLemmas.{ncname_plain}
use Rattle.xs_result_laws.proofs.ScopeLemmas.{IsForce, force_outermost}
use Rattle.xs_result_laws.proofs.FitLemmas.{AreAttributes, IsDeclaration, IsFitTag, declared_by, scope_inside, tag_fit}
use Rattle.xs_result_laws.proofs.ShapeLemmas.{AreSound, IsOrderly}
use Rattle.xs_result_laws.proofs.StartLemmas.{element_good}

-- Events from a place on, in these open elements: whether an element has begun, a text stands just before, and an attribute may follow.
unfoldable pub IsFit : List OpenElement → Bool → Bool → Bool → List Event → Type 0
IsFit os begun text tag [] = (read.is_empty os ≡ true) × (begun ≡ true)
IsFit os begun text tag (Start name ∷ es) =
    ((not begun || not (read.is_empty os)) ≡ true) × IsFitTag (scope_of os) name es × IsFit (entered os name es) true false true es
IsFit os begun text tag (Space prefix uri ∷ es) = (tag ≡ true) × IsFit os begun text true es
IsFit os begun text tag (Attr name value ∷ es) = (tag ≡ true) × IsFit os begun text true es
IsFit os begun text tag (Chars more ∷ es) =
    (read.is_empty os ≡ false) × (text ≡ false) × (read.is_empty more ≡ false) × IsUtf8 more × IsFit os begun true false es
IsFit [] begun text tag (End ∷ es) = ⊥
IsFit (o ∷ os) begun text tag (End ∷ es) = IsFit os begun false false es
IsFit os begun text tag (Comment more ∷ es) = IsUtf8 more × IsFit os begun false false es
IsFit os begun text tag (Pi target value ∷ es) = (is_target target ≡ true) × IsUtf8 target × IsUtf8 value × IsFit os begun false false es

unfoldable pub depth_of : List OpenElement → ℕ
depth_of [] = zero
depth_of (o ∷ os) = suc (depth_of os)

abbrev pub AreForces : List OpenElement → Type 0
AreForces os = AllByRecursion (λ (o : OpenElement). IsForce o.scope) os

force_of : (os : List OpenElement) → AreForces os → IsForce (scope_of os)
force_of [] f = force_outermost
force_of (o ∷ os) f = f.0

inside_any : (b : Bool) → (b || true) ≡ true
inside_any true = refl
inside_any false = refl

full_read : (text : List ℕ) → is_empty text ≡ false → read.is_empty text ≡ false
full_read [] h = h
full_read (b ∷ text) h = refl

pub all_fit : NamesResolve → (es : List Event) (os : List OpenElement) (begun text tag : Bool) (names : List Label) → AreForces os
    → IsOrderly true text tag (depth_of os) names es → AreSound es → has_one_top (depth_of os) begun es ≡ true → length es < 2 ^ 64 + depth_of os
    → IsFit os begun text tag es
unfolding IsOrderly IsFit has_one_top depth_of
all_fit resolve [] [] begun text tag names f h s top small = (refl, top)
all_fit resolve [] (o ∷ os) begun text tag names f h s top small = absurd (cc)
all_fit resolve (Start name ∷ es) [] begun text tag names f h s top small =
    let parts = and_parts (not begun) (has_one_top 1 true es) top in
    let fit = tag_fit resolve (scope_of []) name es (force_of [] f) (element_good name es 0 s.0 s.1 h small) in (
      ap (λ t. t || false) parts.0,
      fit,
      all_fit resolve es (entered [] name es) true false true [] (fit.force, tt) h s.1 parts.1 (omega (arith, small)),
    )
all_fit resolve (Start name ∷ es) (o ∷ os) begun text tag names f h s top small =
    let fit = tag_fit resolve (scope_of (o ∷ os)) name es (force_of (o ∷ os) f) (element_good name es (suc (depth_of os)) s.0 s.1 h small) in (
      inside_any (not begun),
      fit,
      all_fit resolve es (entered (o ∷ os) name es) true false true [] (fit.force, f) h s.1 top (omega (arith, small)),
    )
all_fit resolve (Space prefix uri ∷ es) os begun text tag names f h s top small =
    (h.0, all_fit resolve es os begun text true names f h.1 s.1 top (omega (arith, small)))
all_fit resolve (Attr name value ∷ es) os begun text tag names f h s top small =
    (h.0, all_fit resolve es os begun text true (name ∷ names) f h.2 s.1 top (omega (arith, small)))
all_fit resolve (Chars more ∷ es) [] begun text tag names f h s top small = absurd (cc)
all_fit resolve (Chars more ∷ es) (o ∷ os) begun text tag names f h s top small =
    (refl, h.0, full_read more h.1, s.0, all_fit resolve es (o ∷ os) begun true false [] f h.2 s.1 top (omega (arith, small)))
all_fit resolve (End ∷ es) [] begun text tag names f h s top small = absurd h
all_fit resolve (End ∷ es) (o ∷ os) begun text tag names f h s top small =
    all_fit resolve es os begun false false [] f.1 h s.1 top (omega (arith, small))
all_fit resolve (Comment more ∷ es) os begun text tag names f h s top small =
    (s.0, all_fit resolve es os begun false false [] f h s.1 top (omega (arith, small)))
all_fit resolve (Pi target value ∷ es) os begun text tag names f h s top small =
    (s.0.0, s.0.1, s.0.2, all_fit resolve es os begun false false [] f h s.1 top (omega (arith, small)))

-- ---- the lines of what is fit can be read
abbrev pub IsReadable : Line → Type 0
IsReadable l = HasTexts l × IsPlain l

abbrev pub AreReadable : List Line → Type 0
AreReadable ls = AllByRecursion IsReadable ls

all_joined : (xs ys : List Line) → AreReadable xs → AreReadable ys → AreReadable (xs ++ ys)
all_joined [] ys a b = b
all_joined (x ∷ xs) ys a b = (a.0, all_joined xs ys a.1 b)

declarations_readable : (ds : List Binding) → AllByRecursion IsDeclaration ds → AreReadable (map declaration ds)
declarations_readable [] h = tt
declarations_readable (d ∷ ds) h = (((h.0.name.text, h.0.uri_text), h.0.name.plain), declarations_readable ds h.1)

attributes_readable : (scope : read.Bindings) (attrs : List Attribute) (m : List Binding) → AreAttributes scope m attrs → AreReadable (attribute_lines m attrs)
unfolding attribute_lines
attributes_readable scope [] m h = tt
attributes_readable scope (a ∷ more) m h =
    (((h.0.name_is.text, h.1), h.0.name_is.plain), attributes_readable scope more (with_attribute m a.name) h.2)

tag_readable : (os : List OpenElement) (name : Label) (es : List Event) → IsFitTag (scope_of os) name es → AreReadable (tag_lines os name es)
tag_readable os name es fit = (
  (fit.own.text, fit.own.plain),
  all_joined (map declaration (declared_by (scope_of os) name es)) (attribute_lines (bindings_before name es) (attributes_in es))
      (declarations_readable (declared_by (scope_of os) name es) fit.declarations)
      (attributes_readable (scope_inside (scope_of os) name es) (attributes_in es) (bindings_before name es) fit.attributes),
)

abbrev pub AreReadableNames : List OpenElement → Type 0
AreReadableNames os = AllByRecursion (λ (o : OpenElement). IsUtf8 o.name × IsPlainName o.name) os

pub lines_readable : (es : List Event) (os : List OpenElement) (begun text tag : Bool) → IsFit os begun text tag es → AreReadableNames os
    → AreReadable (lines os es)
unfolding lines IsFit
lines_readable [] os begun text tag fit names = tt
lines_readable (Start name ∷ es) os begun text tag fit names =
    all_joined (tag_lines os name es) (lines (entered os name es) es) (tag_readable os name es fit.1)
    (lines_readable es (entered os name es) true false true fit.2 ((fit.1.own.text, fit.1.own.plain), names))
lines_readable (Space prefix uri ∷ es) os begun text tag fit names = lines_readable es os begun text true fit.1 names
lines_readable (Attr name value ∷ es) os begun text tag fit names = lines_readable es os begun text true fit.1 names
lines_readable (Chars more ∷ es) os begun text tag fit names = ((fit.3, tt), lines_readable es os begun true false fit.4 names)
lines_readable (End ∷ es) [] begun text tag fit names = absurd fit
lines_readable (End ∷ es) (o ∷ os) begun text tag fit names = ((names.0.0, names.0.1), lines_readable es os begun false false fit names.1)
lines_readable (Comment more ∷ es) os begun text tag fit names = ((fit.0, tt), lines_readable es os begun false false fit.1 names)
lines_readable (Pi target value ∷ es) os begun text tag fit names = (
  ((fit.1, fit.2), ncname_plain target fit.1 (and_parts (is_ncname target) (not (is_xml target)) fit.0).0),
  lines_readable es os begun false false fit.3 names,
)
