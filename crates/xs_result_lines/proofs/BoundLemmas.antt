-- A start tag of which each attribute keeps its prefix.
use Rattle.std.proofs.Common.{◌≡◌, ℕ, Bool, true, false, if◌then◌else◌, List, [], ◌∷◌, ◌++◌, Option, None, Some, is_some, refl, sym, ◌∙◌, ap, subst, unwrap_or, append_assoc}
use Rattle.std.specs.Prelude.{◌&&◌, not}
use Rattle.std.specs.BTreeMap.{insert_entry}
use Rattle.std.specs.List.{AllByRecursion}
use Rattle.std.specs.Str.{bytes_eq}
use Rattle.std.proofs.lemmas.Bool.{and_parts}
use Rattle.std.proofs.lemmas.List.{append-nil}
use Rattle.std.proofs.lemmas.Slice.Eq.{bytes_eq-Decides}
use Rattle.xs_pyx.specs.declared.line.Line.{Line}
use Rattle.xs_pyx.specs.declared.line.Line.TheVariants as line
use Rattle.xs_result.specs.Built.{is_empty}
use Rattle.xs_trace.specs.Label.{Label}
use Rattle.xs_trace.specs.declared.event.Event.{Event}
use Rattle.xs_trace.specs.declared.event.Event.TheVariants.{Start, Space, Attr, Chars, End, Comment, Pi}
use Rattle.xs_result_lines.specs.Bindings.{Attribute, Binding, attribute_prefix, attributes_in, bindings, bindings_before, declared, is_in_tag}
use Rattle.xs_result_lines.specs.Bindings.{keeps_prefix, needs_prefix, order_of_prefixes, uri_in, with_attribute, with_attributes, xml_uri}
use Rattle.xs_result_lines.specs.Lines.{OpenElement, attribute_lines, bytes_of, element_name, entered, lines, name_with, open_after, scope_of, tag_lines}
use Rattle.xs_result_lines.specs.steps.Bound.{bound_lines, keep_own, may_keep}
use Rattle.xs_result_lines.specs.steps.InForce.{is_in_force, keeps_own, own_lines}
use Rattle.xs_result_lines.specs.steps.Pending.{is_simple}
use Rattle.xs_result_lines.proofs.PendingLemmas.{inside-lines, inside-opens}
use Rattle.xs_result_lines.proofs.StreamLemmas.{bytes-append}
use Rattle.xs_result_lines.proofs.TagLemmas.{attributes-first, attributes-past}

-- ---- one attribute
not_true : (t : Bool) → not t ≡ true → t ≡ false
not_true true h = absurd (cc)
not_true false h = refl

not_false : (t : Bool) → not (not t) ≡ true → t ≡ true
not_false true h = refl
not_false false h = absurd (cc)

-- a prefix that is bound to a URI that is not empty
record IsBound (o : Option (List ℕ)) (uri : List ℕ) : Type 0 where
  some : is_some o ≡ true
  same : bytes_eq (unwrap_or o uri) uri ≡ true

no_cons : (x : ℕ) (xs : List ℕ) → [] ≡ x ∷ xs → IsBound None (x ∷ xs)
no_cons x xs e = absurd (cc)

bound-is : (o : Option (List ℕ)) (uri : List ℕ) → is_empty uri ≡ false → bytes_eq (unwrap_or o []) uri ≡ true → IsBound o uri
bound-is None [] full h = absurd (let no : true ≡ false = full in cc)
bound-is None (b ∷ bs) full h = no_cons b bs ((bytes_eq-Decides [] (b ∷ bs)).0 h)
bound-is (Some other) uri full h = record { some = refl; same = h }

record IsKept (m : List Binding) (name : Label) : Type 0 where
  written : attribute_prefix m name ≡ name.prefix
  after : with_attribute m name ≡ m

attribute-kept : (m : List Binding) (name : Label) → keeps_own m name ≡ true → IsKept m name
unfolding attribute_prefix with_attribute
attribute-kept m name keeps = by_need (needs_prefix name) refl keeps
  where
    by_need : (t : Bool) → needs_prefix name ≡ t
        → (if t then not (is_empty name.prefix) && is_in_force m name.prefix name.uri else true) ≡ true → IsKept m name
    by_need false is h = record {
      written = rw is refl;
      after = rw is refl;
    }
    by_need true is h =
        let parts = and_parts (not (is_empty name.prefix)) (is_in_force m name.prefix name.uri) h in
        let needs = and_parts (not (is_empty name.uri)) (not (bytes_eq name.uri xml_uri)) is in
        let bound = bound-is (uri_in m name.prefix) name.uri (not_true (is_empty name.uri) needs.0)
        (not_false (bytes_eq (unwrap_or (uri_in m name.prefix) []) name.uri) parts.1) in
        let kept : keeps_prefix m name ≡ true =
        ap (λ t. not t && bytes_eq (unwrap_or (uri_in m name.prefix) name.uri) name.uri) (not_true (is_empty name.prefix) parts.0) ∙ bound.same in
        record {
          written = rw (is, kept) refl;
          after = rw (is, kept) (ap (λ t. if t then m else insert_entry order_of_prefixes m name.prefix name.uri) bound.some);
        }

-- ---- all attributes
abbrev AllKept : List Binding → List Attribute → Type 0
AllKept m attributes = AllByRecursion (λ (a : Attribute). keeps_own m a.name ≡ true) attributes

attributes-same : (m : List Binding) (more : List Attribute) → AllKept m more → with_attributes m more ≡ m
unfolding with_attributes
attributes-same m [] kept = refl
attributes-same m (a ∷ more) kept =
    ap (λ n. with_attributes n more) (attribute-kept m a.name kept.0).after ∙ attributes-same m more kept.1

attributes-own : (m : List Binding) (more : List Attribute) → AllKept m more → attribute_lines m more ≡ own_lines more
unfolding attribute_lines
attributes-own m [] kept = refl
attributes-own m (a ∷ more) kept =
    let here = attribute-kept m a.name kept.0 in
    ap (λ p. line.Attr (name_with p a.name.local) a.value ∷ attribute_lines (with_attribute m a.name) more) here.written
    ∙ ap (λ n. line.Attr (element_name a.name) a.value ∷ attribute_lines n more) here.after
    ∙ ap (λ ls. line.Attr (element_name a.name) a.value ∷ ls) (attributes-own m more kept.1)

-- ---- the events of a start tag
kept-first : (m : List Binding) (e : Event) (es : List Event) → is_in_tag e ≡ true → may_keep m e ≡ true → AllKept m (attributes_in es)
    → AllKept m (attributes_in (e ∷ es))
kept-first m (Space prefix uri) es inside keeps rest = subst (AllKept m) (sym (attributes-first (Space prefix uri) es inside)) rest
kept-first m (Attr name value) es inside keeps rest =
    subst (AllKept m) (sym (attributes-first (Attr name value) es inside)) (keeps, rest)
kept-first m (Start name) es inside keeps rest = absurd (cc)
kept-first m (Chars text) es inside keeps rest = absurd (cc)
kept-first m End es inside keeps rest = absurd (cc)
kept-first m (Comment text) es inside keeps rest = absurd (cc)
kept-first m (Pi target value) es inside keeps rest = absurd (cc)

kept-all : (m : List Binding) (es : List Event) → keep_own m es ≡ true → AllKept m (attributes_in es)
unfolding keep_own attributes_in
kept-all m [] h = tt
kept-all m (e ∷ es) h =
    let parts = and_parts (may_keep m e) (keep_own m es) h in by_place (is_in_tag e) refl parts.0 (kept-all m es parts.1)
  where
    by_place : (t : Bool) → is_in_tag e ≡ t → may_keep m e ≡ true → AllKept m (attributes_in es) → AllKept m (attributes_in (e ∷ es))
    by_place true inside keeps rest = kept-first m e es inside keeps rest
    by_place false past keeps rest = subst (AllKept m) (sym (attributes-past e es past)) tt

-- ---- the whole tag
none-more : (name : Label) (es : List Event) → keep_own (bindings_before name es) es ≡ true → bindings name es ≡ bindings_before name es
unfolding bindings
none-more name es h = attributes-same (bindings_before name es) (attributes_in es) (kept-all (bindings_before name es) es h)

bound_lines-are : (w : List OpenElement) (name : Label) (es : List Event) (ds : List Binding) → keep_own (bindings_before name es) es ≡ true
    → ds ≡ declared (scope_of w) (bindings_before name es) → bound_lines ds name es ≡ tag_lines w name es
bound_lines-are w name es ds h is =
    sym (rw (none-more name es h, attributes-own (bindings_before name es) (attributes_in es) (kept-all (bindings_before name es) es h), sym is) refl)

bound-entered : (w : List OpenElement) (name : Label) (es : List Event) (ds : List Binding) → keep_own (bindings_before name es) es ≡ true
    → ds ≡ declared (scope_of w) (bindings_before name es)
    → entered w name es ≡ record { name = element_name name; scope = ds ++ scope_of w } ∷ w
bound-entered w name es ds h is = rw (none-more name es h, sym is) refl

pub bound_written : (w : List OpenElement) (name : Label) (es : List Event) (m ds : List Binding) (old new : List ℕ) → m ≡ bindings_before name es
    → keep_own m es ≡ true → is_simple es ≡ true → ds ≡ declared (scope_of w) m → new ≡ old ++ bytes_of (bound_lines ds name es)
    → new ≡ old ++ bytes_of (lines w (Start name ∷ es))
unfolding lines
bound_written w name es m ds old new before own simple declares is =
    is
    ∙ ap (λ ls. old ++ bytes_of ls) (bound_lines-are w name es ds (ap (λ n. keep_own n es) (sym before) ∙ own) (declares ∙ ap (declared (scope_of w)) before)
    ∙ sym (append-nil (tag_lines w name es)) ∙ ap (λ ls. tag_lines w name es ++ ls) (sym (inside-lines (entered w name es) es simple)))

pub bound_opened : (w v : List OpenElement) (name : Label) (es : List Event) (m ds : List Binding) → m ≡ bindings_before name es
    → keep_own m es ≡ true → is_simple es ≡ true → ds ≡ declared (scope_of w) m
    → v ≡ record { name = element_name name; scope = ds ++ scope_of w } ∷ w → v ≡ open_after w (Start name ∷ es)
unfolding open_after
bound_opened w v name es m ds before own simple declares is =
    is ∙ sym (bound-entered w name es ds (ap (λ n. keep_own n es) (sym before) ∙ own) (declares ∙ ap (declared (scope_of w)) before))
    ∙ sym (inside-opens (entered w name es) es simple)

-- the declarations, and then the attributes
pub bound_bytes : (old one two new start : List ℕ) (ds own : List Line) → one ≡ old ++ start → two ≡ one ++ bytes_of ds → new ≡ two ++ bytes_of own
    → new ≡ old ++ (start ++ bytes_of (ds ++ own))
bound_bytes old one two new start ds own h i j =
    j ∙ ap (λ x. x ++ bytes_of own) i ∙ append_assoc one (bytes_of ds) (bytes_of own) ∙ ap (λ x. one ++ x) (sym (bytes-append ds own))
    ∙ ap (λ x. x ++ bytes_of (ds ++ own)) h ∙ append_assoc old start (bytes_of (ds ++ own))
