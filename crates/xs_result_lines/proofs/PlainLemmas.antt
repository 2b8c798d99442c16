-- A start tag that declares nothing.
use Rattle.std.proofs.Common.{◌≡◌, ℕ, Bool, true, false, if◌then◌else◌, List, [], ◌∷◌, ◌++◌, Option, None, Some, cond, refl, sym, ◌∙◌, ap, subst, unwrap_or}
use Rattle.std.proofs.Common.{Result, Ok, Err}
use Rattle.std.specs.Prelude.{◌&&◌, OnOk, filter, not}
use Rattle.std.specs.BTreeMap.{insert_entry, is_at}
use Rattle.std.specs.List.{AllByRecursion}
use Rattle.std.specs.Ordering.{match_ordering}
use Rattle.std.specs.Str.{bytes_eq}
use Rattle.std.specs.declared.cmp.Ordering.{Ordering}
use Rattle.std.specs.declared.cmp.Ordering.TheVariants.{Less, Equal, Greater}
use Rattle.std.proofs.lemmas.Bool.{and_parts}
use Rattle.std.proofs.lemmas.Map.Lookups.{exact_bytes}
use Rattle.std.proofs.lemmas.Slice.Eq.{bytes_eq-Decides}
use Rattle.xs_pyx.specs.declared.line.Line.TheVariants as line
use Rattle.xs_result.specs.Built.{is_empty}
use Rattle.xs_trace.specs.Label.{Label}
use Rattle.xs_trace.specs.declared.event.Event.{Event}
use Rattle.xs_trace.specs.declared.event.Event.TheVariants.{Start, Space, Attr, Chars, End, Comment, Pi}
use Rattle.xs_result_lines.specs.Bindings.{Attribute, Binding, added, attribute_prefix, attributes_in, bindings, bindings_before, binds, declared, is_in_tag, is_new}
use Rattle.xs_result_lines.specs.Bindings.{keeps_prefix, needs_prefix, order_of_prefixes, own_binding, spaces_in, uri_in, with_attribute, with_attributes}
use Rattle.xs_result_lines.specs.Bindings.{with_spaces}
use Rattle.xs_result_lines.specs.Lines.{OpenElement, attribute_lines, bytes_of, element_name, entered, name_with, scope_of, tag_lines}
use Rattle.xs_result_lines.specs.steps.InForce.{are_plain, is_in_force, is_plain, is_plain_tag, keeps_own, own_lines, plain_lines}
use Rattle.xs_result_lines.proofs.OrderLemmas.{same_at, uri_in-first}
use Rattle.xs_result_lines.proofs.TagLemmas.{attributes-first, attributes-past, spaces-first, spaces-past}

-- ---- bindings that are all in force
abbrev IsOld : List Binding → Binding → Type 0
IsOld around b = is_in_force around b.0 b.1 ≡ true

abbrev AllOld : List Binding → List Binding → Type 0
AllOld around m = AllByRecursion (IsOld around) m

not_true : (t : Bool) → not t ≡ true → t ≡ false
not_true true h = absurd (cc)
not_true false h = refl

-- none of them is declared
none_declared : (around m : List Binding) → AllOld around m → declared around m ≡ []
unfolding declared
none_declared around [] all = refl
none_declared around (b ∷ bs) all =
    ap (λ t. cond t (b ∷ filter (is_new around) bs) (filter (is_new around) bs)) (not_true (is_new around b) all.0)
    ∙ none_declared around bs all.1

inserted-old : (around m : List Binding) (k v : List ℕ) → IsOld around (k, v) → AllOld around m → AllOld around (insert_entry order_of_prefixes m k v)
inserted-old around [] k v old all = (old, tt)
inserted-old around (e ∷ es) k v old all = by_order (order_of_prefixes k e.0) refl (inserted-old around es k v old all.1)
  where
    by_order : (o : Ordering) → order_of_prefixes k e.0 ≡ o → AllOld around (insert_entry order_of_prefixes es k v)
        → AllOld around (match_ordering o ((k, v) ∷ e ∷ es) ((e.0, v) ∷ es) (e ∷ insert_entry order_of_prefixes es k v))
    by_order Less is rest = (old, all)
    by_order Equal is rest = (subst (λ p. IsOld around (p, v)) (exact_bytes k e.0 is) old, all.1)
    by_order Greater is rest = (all.0, rest)

added-old : (around m : List Binding) (b : Binding) → IsOld around b → AllOld around m → AllOld around (added m b)
added-old around m b old all = by_test (binds m b.0)
  where
    by_test : (t : Bool) → AllOld around (if t then m else insert_entry order_of_prefixes m b.0 b.1)
    by_test true = all
    by_test false = inserted-old around m b.0 b.1 old all

spaces-old : (around bs m : List Binding) → AllOld around bs → AllOld around m → AllOld around (with_spaces m bs)
unfolding with_spaces
spaces-old around [] m new all = all
spaces-old around (b ∷ bs) m new all = spaces-old around bs (added m b) new.1 (added-old around m b new.0 all)

-- what one of them binds is what is in force
bound-old : (around m : List Binding) (p uri : List ℕ) → AllOld around m → uri_in m p ≡ Some uri → is_in_force around p uri ≡ true
unfolding uri_in
bound-old around [] p uri all h = absurd (cc)
bound-old around (b ∷ bs) p uri all h =
    by_place (is_at (order_of_prefixes b.0) p) refl (sym (uri_in-first b bs p) ∙ h) (λ g. bound-old around bs p uri all.1 g)
  where
    by_place : (t : Bool) → is_at (order_of_prefixes b.0) p ≡ t → cond t (Some b.1) (uri_in bs p) ≡ Some uri
        → (uri_in bs p ≡ Some uri → is_in_force around p uri ≡ true) → is_in_force around p uri ≡ true
    by_place true at g more =
        let is : b.1 ≡ uri = cc in
        subst (λ u. is_in_force around p u ≡ true) is (subst (λ q. is_in_force around q b.1 ≡ true) (same_at b.0 p at) all.0)
    by_place false at g more = more g

-- ---- an attribute that keeps its prefix
uri_is : (around : List Binding) (p uri : List ℕ) → is_in_force around p uri ≡ true → unwrap_or (uri_in around p) [] ≡ uri
uri_is around p uri h = (bytes_eq-Decides (unwrap_or (uri_in around p) []) uri).0 (twice (bytes_eq (unwrap_or (uri_in around p) []) uri) h)
  where
    twice : (t : Bool) → not (not t) ≡ true → t ≡ true
    twice true g = refl
    twice false g = g

same_kept : (uri : List ℕ) (o : Option (List ℕ)) → ((other : List ℕ) → o ≡ Some other → other ≡ uri) → bytes_eq (unwrap_or o uri) uri ≡ true
same_kept uri None h = (bytes_eq-Decides uri uri).1 refl
same_kept uri (Some other) h = (bytes_eq-Decides other uri).1 (h other refl)

kept-old : (around m : List Binding) (name : Label) → AllOld around m → is_empty name.prefix ≡ false → is_in_force around name.prefix name.uri ≡ true
    → keeps_prefix m name ≡ true
kept-old around m name all full old =
    ap (λ t. not t && bytes_eq (unwrap_or (uri_in m name.prefix) name.uri) name.uri) full
    ∙ same_kept name.uri (uri_in m name.prefix) (λ other is.
    sym (uri_is around name.prefix other (bound-old around m name.prefix other all is)) ∙ uri_is around name.prefix name.uri old)

record IsKept (around m : List Binding) (name : Label) : Type 0 where
  written : attribute_prefix m name ≡ name.prefix
  after : AllOld around (with_attribute m name)

attribute-kept : (around m : List Binding) (name : Label) → AllOld around m → keeps_own around name ≡ true → IsKept around m name
unfolding attribute_prefix with_attribute
attribute-kept around m name all keeps = by_need (needs_prefix name) refl keeps
  where
    by_need : (t : Bool) → needs_prefix name ≡ t
        → (if t then not (is_empty name.prefix) && is_in_force around name.prefix name.uri else true) ≡ true → IsKept around m name
    by_need false is h = record {
      written = rw is refl;
      after = rw is all;
    }
    by_need true is h =
        let parts = and_parts (not (is_empty name.prefix)) (is_in_force around name.prefix name.uri) h in
        let kept : keeps_prefix m name ≡ true = kept-old around m name all (not_true (is_empty name.prefix) parts.0) parts.1 in
        record {
          written = rw (is, kept) refl;
          after = rw (is, kept) (added-old around m (name.prefix, name.uri) parts.1 all);
        }

abbrev AllKept : List Binding → List Attribute → Type 0
AllKept around attributes = AllByRecursion (λ (a : Attribute). keeps_own around a.name ≡ true) attributes

attributes-old : (around : List Binding) (more : List Attribute) (m : List Binding) → AllKept around more → AllOld around m
    → AllOld around (with_attributes m more)
unfolding with_attributes
attributes-old around [] m kept all = all
attributes-old around (a ∷ more) m kept all =
    attributes-old around more (with_attribute m a.name) kept.1 (attribute-kept around m a.name all kept.0).after

attributes-own : (around : List Binding) (more : List Attribute) (m : List Binding) → AllKept around more → AllOld around m
    → attribute_lines m more ≡ own_lines more
unfolding attribute_lines
attributes-own around [] m kept all = refl
attributes-own around (a ∷ more) m kept all =
    let here = attribute-kept around m a.name all kept.0 in
    ap (λ p. line.Attr (name_with p a.name.local) a.value ∷ attribute_lines (with_attribute m a.name) more) here.written
    ∙ ap (λ ls. line.Attr (element_name a.name) a.value ∷ ls) (attributes-own around more (with_attribute m a.name) kept.1 here.after)

-- ---- the events of a start tag
record ArePlain (around : List Binding) (es : List Event) : Type 0 where
  spaces : AllOld around (spaces_in es)
  attributes : AllKept around (attributes_in es)

plain-past : (around : List Binding) (e : Event) (es : List Event) → is_in_tag e ≡ false → ArePlain around (e ∷ es)
plain-past around e es past = record {
  spaces = subst (AllOld around) (sym (spaces-past e es past)) tt;
  attributes = subst (AllKept around) (sym (attributes-past e es past)) tt;
}

plain-first : (around : List Binding) (e : Event) (es : List Event) → is_in_tag e ≡ true → is_plain around e ≡ true → ArePlain around es
    → ArePlain around (e ∷ es)
plain-first around (Space prefix uri) es inside plain rest = record {
  spaces = subst (AllOld around) (sym (spaces-first (Space prefix uri) es inside)) (plain, rest.spaces);
  attributes = subst (AllKept around) (sym (attributes-first (Space prefix uri) es inside)) rest.attributes;
}
plain-first around (Attr name value) es inside plain rest = record {
  spaces = subst (AllOld around) (sym (spaces-first (Attr name value) es inside)) rest.spaces;
  attributes = subst (AllKept around) (sym (attributes-first (Attr name value) es inside)) (plain, rest.attributes);
}
plain-first around (Start name) es inside plain rest = absurd (cc)
plain-first around (Chars text) es inside plain rest = absurd (cc)
plain-first around End es inside plain rest = absurd (cc)
plain-first around (Comment text) es inside plain rest = absurd (cc)
plain-first around (Pi target value) es inside plain rest = absurd (cc)

plain-all : (around : List Binding) (es : List Event) → are_plain around es ≡ true → ArePlain around es
unfolding are_plain spaces_in attributes_in
plain-all around [] h = record { spaces = tt; attributes = tt }
plain-all around (e ∷ es) h = by_place (is_in_tag e) refl h (λ g. plain-all around es g)
  where
    by_place : (t : Bool) → is_in_tag e ≡ t → (if t then is_plain around e && are_plain around es else true) ≡ true
        → (are_plain around es ≡ true → ArePlain around es) → ArePlain around (e ∷ es)
    by_place true inside g more =
        let parts = and_parts (is_plain around e) (are_plain around es) g in plain-first around e es inside parts.0 (more parts.1)
    by_place false past g more = plain-past around e es past

-- ---- the whole tag
record DeclaresNothing (around : List Binding) (name : Label) (es : List Event) : Type 0 where
  none : declared around (bindings name es) ≡ []
  own : attribute_lines (bindings_before name es) (attributes_in es) ≡ own_lines (attributes_in es)

declares-nothing : (around : List Binding) (name : Label) (es : List Event) → is_plain_tag around name es ≡ true → DeclaresNothing around name es
unfolding bindings bindings_before
declares-nothing around name es h =
    let parts = and_parts (is_in_force around name.prefix name.uri) (are_plain around es) h in
    let events : ArePlain around es = plain-all around es parts.1 in
    let before : AllOld around (bindings_before name es) = spaces-old around (spaces_in es) (own_binding name) events.spaces (parts.0, tt) in
    record {
      none = none_declared around (bindings name es) (attributes-old around (attributes_in es) (bindings_before name es) events.attributes before);
      own = attributes-own around (attributes_in es) (bindings_before name es) events.attributes before;
    }

pub plain_lines-are : (around : List OpenElement) (name : Label) (es : List Event) → is_plain_tag (scope_of around) name es ≡ true
    → plain_lines name es ≡ tag_lines around name es
plain_lines-are around name es h =
    let nothing = declares-nothing (scope_of around) name es h in
    sym (rw (nothing.none, nothing.own) refl)

pub plain_entered : (around : List OpenElement) (name : Label) (es : List Event) → is_plain_tag (scope_of around) name es ≡ true
    → entered around name es ≡ record { name = element_name name; scope = scope_of around } ∷ around
plain_entered around name es h =
    let nothing = declares-nothing (scope_of around) name es h in rw nothing.none refl

-- ---- as the writer has it
pub plain_written : {X E : Type 0} (r : Result X E) (around : List OpenElement) (name : Label) (es : List Event) (old new : List ℕ)
    → is_plain_tag (scope_of around) name es ≡ true → new ≡ old ++ bytes_of (plain_lines name es)
    → OnOk r (new ≡ old ++ bytes_of (tag_lines around name es))
plain_written (Ok x) around name es old new h is = is ∙ ap (λ ls. old ++ bytes_of ls) (plain_lines-are around name es h)
plain_written (Err e) around name es old new h is = tt

pub plain_opened : {X E : Type 0} (r : Result X E) (around now : List OpenElement) (name : Label) (es : List Event) (none : List Binding)
    → is_plain_tag (scope_of around) name es ≡ true → none ≡ []
    → OnOk r (now ≡ record { name = element_name name; scope = none ++ scope_of around } ∷ around) → OnOk r (now ≡ entered around name es)
plain_opened (Ok x) around now name es none h no_binding is =
    is ∙ ap (λ ds. record { name = element_name name; scope = ds ++ scope_of around } ∷ around) no_binding ∙ sym (plain_entered around name es h)
plain_opened (Err e) around now name es none h no_binding is = tt
