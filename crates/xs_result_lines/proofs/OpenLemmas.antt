-- The open elements, with one more.
use Rattle.std.proofs.Common.{◌≡◌, ℕ, List, [], ◌∷◌, ◌++◌, Option, Some, drop, length, map, refl, reverse, sym, ◌∙◌, ap, subst, append_assoc}
use Rattle.std.proofs.lemmas.List.{length-map, reverse-append}
use Rattle.xs_pyx.specs.declared.line.Line.{Line}
use Rattle.xs_pyx.specs.declared.line.Line.TheVariants as line
use Rattle.xs_trace.specs.Label.{Label}
use Rattle.xs_trace.specs.declared.event.Event.{Event}
use Rattle.xs_result_lines.specs.Bindings.{Binding, attributes_in, bindings, bindings_before, declared, outermost, with_attributes}
use Rattle.xs_result_lines.specs.Lines.{OpenElement, attribute_lines, declaration, element_name, scope_of}
use Rattle.xs_result_lines.specs.declared.scope.Declared.{Declared}
use Rattle.xs_result_lines.specs.declared.tag.StartTag.{StartTag}
use Rattle.xs_result_lines.specs.declared.writer.Frame.{Frame}
use Rattle.xs_result_lines.specs.steps.Open.{AreStillTheirs, AreTheirs, binding, bindings_of, in_force, opened}
use Rattle.xs_result_lines.specs.steps.Tags.{IsTag}

drop-front : (xs ys : List Binding) → drop (length xs) (xs ++ ys) ≡ ys
drop-front [] ys = refl
drop-front (x ∷ xs) ys = drop-front xs ys

-- the bindings in force in the innermost open element
scope-opened : (fs : List Frame) (ds : List Binding) → AreTheirs fs ds → scope_of (opened fs ds) ≡ ds ++ outermost
scope-opened [] ds theirs = ap (λ xs. xs ++ outermost) (sym theirs)
scope-opened (f ∷ fs) ds theirs = refl

pub scope_is : (around : List OpenElement) (fs : List Frame) (ds : List Binding) → opened fs ds ≡ around → AreTheirs fs ds → scope_of around ≡ ds ++ outermost
scope_is around fs ds view theirs = ap scope_of (sym view) ∙ scope-opened fs ds theirs

one_opened : (fs : List Frame) (f : Frame) (ds more : List Binding) → f.declared ≡ length more → AreTheirs fs ds
    → opened (f ∷ fs) (more ++ ds) ≡ record { name = f.name; scope = more ++ scope_of (opened fs ds) } ∷ opened fs ds
one_opened fs f ds more count theirs =
    let same : drop f.declared (more ++ ds) ≡ ds = ap (λ n. drop n (more ++ ds)) count ∙ drop-front more ds in
    ap (λ xs. record { name = f.name; scope = (more ++ ds) ++ outermost } ∷ opened fs xs) same
    ∙ ap (λ s. record { name = f.name; scope = s } ∷ opened fs ds) (append_assoc more ds outermost ∙ ap (λ s. more ++ s) (sym (scope-opened fs ds theirs)))

-- ---- as a vector has them, the innermost last
turned : (items now : List Frame) (f : Frame) → now ≡ items ++ f ∷ [] → reverse now ≡ f ∷ reverse items
turned items now f is = ap reverse is ∙ reverse-append items (f ∷ [])

pub entered_opened : (items now : List Frame) (f : Frame) (ds new : List Binding) (all : List Declared) (around : List OpenElement) → now ≡ items ++ f ∷ []
    → new ≡ bindings_of all ++ ds → f.declared ≡ length all → AreTheirs (reverse items) ds → opened (reverse items) ds ≡ around
    → opened (reverse now) new ≡ record { name = f.name; scope = bindings_of all ++ scope_of around } ∷ around
entered_opened items now f ds new all around more is count theirs view =
    let counted : f.declared ≡ length (bindings_of all) = count ∙ sym (length-map all binding) in
    ap (λ fs. opened fs new) (turned items now f more) ∙ ap (opened (f ∷ reverse items)) is
    ∙ one_opened (reverse items) f ds (bindings_of all) counted theirs
    ∙ ap (λ os. record { name = f.name; scope = bindings_of all ++ scope_of os } ∷ os) view

-- ---- a start tag, by its parts
pub tag_is : (tag : StartTag) (around : List OpenElement) (name : Label) (es : List Event) (m all : List Binding) (start : List ℕ)
    (begun first joined last : List Line)
    → m ≡ bindings_before name es → all ≡ with_attributes m (attributes_in es)
    → last ≡ attribute_lines m (attributes_in es) → start ≡ element_name name
    → bindings_of tag.declared.items ≡ declared (scope_of around) all → begun ≡ line.Start start ∷ []
    → first ≡ map declaration (bindings_of tag.declared.items) → joined ≡ begun ++ first → tag.lines.items ≡ joined ++ last → IsTag tag around name es
unfolding bindings
tag_is tag around name es m all start begun first joined last is whole attributes named new starts firsts more end =
    let bound : all ≡ bindings name es = whole ∙ ap (λ x. with_attributes x (attributes_in es)) is in
    let declares : bindings_of tag.declared.items ≡ declared (scope_of around) (bindings name es) =
    new ∙ ap (declared (scope_of around)) bound in
    let lasts : last ≡ attribute_lines (bindings_before name es) (attributes_in es) = attributes ∙ ap (λ x. attribute_lines x (attributes_in es)) is in
    record {
      declared = declares;
      lines =
          end ∙ ap (λ x. x ++ last) (more ∙ ap (λ x. x ++ first) starts) ∙ ap (λ n. line.Start n ∷ first ++ last) named
          ∙ ap (λ x. line.Start (element_name name) ∷ x ++ last) (firsts ∙ ap (map declaration) declares)
          ∙ ap (λ x. line.Start (element_name name) ∷ map declaration (declared (scope_of around) (bindings name es)) ++ x) lasts;
    }

-- ---- where it is still known what is in force
pub still_opened : (around : List OpenElement) (fs : List Frame) (known : Option (List Binding)) (ds : List Binding) → known ≡ Some ds
    → opened fs (in_force known) ≡ around → opened fs ds ≡ around
still_opened around fs known ds is view = subst (λ k. opened fs (in_force k) ≡ around) is view

pub still_theirs : (fs : List Frame) (known : Option (List Binding)) (ds : List Binding) → known ≡ Some ds → AreStillTheirs fs known → AreTheirs fs ds
still_theirs fs known ds is theirs = subst (AreStillTheirs fs) is theirs

pub scope_still : (around : List OpenElement) (fs : List Frame) (known : Option (List Binding)) (ds : List Binding) → known ≡ Some ds
    → opened fs (in_force known) ≡ around → AreStillTheirs fs known → scope_of around ≡ ds ++ outermost
scope_still around fs known ds is view theirs = scope_is around fs ds (still_opened around fs known ds is view) (still_theirs fs known ds is theirs)
