-- The start tag of an element that can be written is read as it was meant.
use Rattle.std.proofs.Common.{◌≡◌, ℕ, ◌+◌, ◌<◌, ◌≤◌, ◌^◌, List, [], ◌∷◌, ◌++◌, None, Some, Bool, true, false, if◌then◌else◌, refl, sym, ◌∙◌, ap, subst}
use Rattle.std.proofs.Common.{append_assoc, arith, length, map, option_map, unwrap_or}
use Rattle.std.specs.Prelude.{not, ◌&&◌, ◌||◌, codes}
use Rattle.std.specs.List.{AllByRecursion, list_any}
use Rattle.std.specs.Str.{bytes_eq, IsUtf8}
use Rattle.std.proofs.lemmas.Bool.{false_from_ne_true, or_from, or_parts}
use Rattle.std.proofs.lemmas.List.Folds.{list_any-append}
use Rattle.std.proofs.lemmas.Slice.Eq.{bytes_eq-Decides}
use Rattle.xs_trace.specs.Label.{Label}
use Rattle.xs_trace.specs.declared.event.Event.{Event}
use Rattle.xs_tree.specs.declared.names.Name.{Name}
use Rattle.xs_build.specs.declared.tag_names.Expanded.{Expanded}
use Rattle.xs_build.specs.Namespaces.{Bindings, attribute_name, declared_prefix, element_name, is_bad_binding, is_empty, uri_in, xml_uri, xmlns_uri}
use Rattle.xs_build.specs.steps.Lines as step
use Rattle.xs_build.specs.steps.Lines.{same_name}
use Rattle.xs_build.proofs.WellFormedLemmas.ScopeLemmas.{IsAllowed, IsScope, not_bad}
use Rattle.xs_result.specs.Built as kept
use Rattle.xs_result.specs.Built.{is_same_name}
use Rattle.xs_result_lines.specs.Bindings.{Attribute, Binding, attribute_prefix, attributes_in, bindings, bindings_before, chosen_prefix, declared, needs_prefix}
use Rattle.xs_result_lines.specs.Bindings.{own_binding, spaces_in, with_attribute, with_attributes}
use Rattle.xs_result_lines.specs.Laws.{AttributesResolve, NamesResolve, Resolves, resolved}
use Rattle.xs_result_lines.specs.Lines as written
use Rattle.xs_result_lines.specs.Lines.{declaration_name, name_with}
use Rattle.xs_result_laws.proofs.NameLemmas.{IsBindable, IsWritten, declaration_written, declared_parts, name_written, no_bool, qname}
use Rattle.xs_result_laws.proofs.ScopeLemmas.{IsForce, force_more, given, in_force}
use Rattle.xs_result_laws.proofs.TagLemmas.{AreApart, AreFew, AreGoodNames, IsGoodName, IsGoodTag, MayBind, attributes_length, chosen_bindable, few_here, few_more}
use Rattle.xs_result_laws.proofs.TagLemmas.{full_text, good_attribute, good_attributes, good_declared, good_spaces, spaces_length}

-- a name with this prefix
abbrev pub named_with : List ℕ → Label → Name
named_with prefix name = record { uri = name.uri; local = name.local; prefix = prefix }

-- ---- how the lines of a start tag are read
-- a declaration is read as the binding that it declares, which is not forbidden
pub record IsDeclaration (d : Binding) : Type 0 where
  pub name : IsWritten (declaration_name d.0) (declared_parts d.0).prefix (declared_parts d.0).local
  pub declares : declared_prefix (qname (declared_parts d.0).prefix (declared_parts d.0).local) ≡ Some d.0
  pub allowed : is_bad_binding d.0 d.1 ≡ false
  pub uri_text : IsUtf8 d.1

-- an attribute that is written with this prefix is read with its URI and its local part
pub record IsAttribute (scope : Bindings) (prefix : List ℕ) (name : Label) : Type 0 where
  pub name_is : IsWritten (name_with prefix name.local) prefix name.local
  pub declares : declared_prefix (qname prefix name.local) ≡ None
  pub bound : attribute_name scope (qname prefix name.local) ≡ Some (named_with prefix name)

abbrev pub AreAttributes : Bindings → List Binding → List Attribute → Type 0
AreAttributes scope m [] = Unit {0}
AreAttributes scope m (a ∷ more) =
    IsAttribute scope (attribute_prefix m a.name) a.name × IsUtf8 a.value × AreAttributes scope (with_attribute m a.name) more

abbrev pub expanded : Attribute → Expanded
expanded a = record { uri = a.name.uri; local = a.name.local }

-- each of these names is another than those before it
abbrev pub AreNew : List Expanded → List Expanded → Type 0
AreNew seen [] = Unit {0}
AreNew seen (x ∷ xs) = (list_any (same_name x) seen ≡ false) × AreNew (seen ++ x ∷ []) xs

abbrev pub names_declared : List Binding → List Expanded
names_declared ds = map (λ (d : Binding). step.declaration_name d.0) ds

-- what a start tag declares, and the bindings that are in force in it
abbrev pub declared_by : List Binding → Label → List Event → List Binding
declared_by around name es = declared around (bindings name es)

abbrev pub scope_inside : List Binding → Label → List Event → Bindings
scope_inside around name es = in_force (declared_by around name es ++ around)

pub record IsFitTag (around : List Binding) (name : Label) (es : List Event) : Type 0 where
  pub own : IsWritten (written.element_name name) name.prefix name.local
  pub bound : element_name (scope_inside around name es) (qname name.prefix name.local) ≡ Some (named_with name.prefix name)
  pub declarations : AllByRecursion IsDeclaration (declared_by around name es)
  pub attributes : AreAttributes (scope_inside around name es) (bindings_before name es) (attributes_in es)
  pub new : AreNew [] (names_declared (declared_by around name es) ++ map expanded (attributes_in es))
  pub force : IsForce (declared_by around name es ++ around)

-- ---- a start tag that can be written
-- each attribute has another name than these and those before it
abbrev pub AreFresh : List Label → List Attribute → Type 0
AreFresh names [] = Unit {0}
AreFresh names (a ∷ more) = (list_any (is_same_name a.name) names ≡ false) × AreFresh (a.name ∷ names) more

pub record IsGoodAttribute (a : Attribute) : Type 0 where
  pub named : IsGoodName a.name
  pub plain : (kept.is_empty a.name.uri && bytes_eq a.name.local (codes "xmlns")) ≡ false
  pub text : IsUtf8 a.value

pub record IsGoodElement (name : Label) (es : List Event) : Type 0 where
  pub own : IsGoodName name
  pub spaces : AllByRecursion MayBind (spaces_in es)
  pub attributes : AllByRecursion IsGoodAttribute (attributes_in es)
  pub fresh : AreFresh [] (attributes_in es)
  pub few : 1 + length (spaces_in es) + length (attributes_in es) < 2 ^ 64

-- ---- the bindings in force
given_full : (u : List ℕ) → is_empty u ≡ false → given u ≡ Some u
given_full [] h = absurd (cc)
given_full (b ∷ u) h = refl

given_whole : (u : List ℕ) → unwrap_or (given u) [] ≡ u
given_whole [] = refl
given_whole (b ∷ u) = refl

prefixed_full : (p u : List ℕ) → IsBindable p u → is_empty p ≡ false → is_empty u ≡ false
prefixed_full p u b some =
    false_from_ne_true (is_empty u) (λ e. no_bool (is_empty p) (ap is_empty (b.none e)) some)

in_scope : (ds : List Binding) (q u : List ℕ) → IsForce ds → resolved ds q ≡ u → uri_in (in_force ds) q ≡ given u
unfolding uri_in
in_scope ds q u f h = f.same q ∙ ap given h

-- ---- an element
element_bound : (scope : Bindings) (name : Label) (p : List ℕ) → uri_in scope p ≡ given name.uri → (is_empty p ≡ false → is_empty name.uri ≡ false)
    → element_name scope (qname p name.local) ≡ Some (named_with p name)
unfolding element_name
element_bound scope name [] h full =
    ap (λ u. Some (record { uri = u; local = name.local; prefix = [] })) (ap (λ o. unwrap_or o []) h ∙ given_whole name.uri)
element_bound scope name (b ∷ p) h full =
    ap (option_map (λ u. record { uri = u; local = name.local; prefix = b ∷ p })) (h ∙ given_full name.uri (full refl))

-- ---- an attribute
prefixed_bound : (scope : Bindings) (name : Label) (p : List ℕ) → is_empty p ≡ false → uri_in scope p ≡ Some name.uri
    → attribute_name scope (qname p name.local) ≡ Some (named_with p name)
unfolding attribute_name
prefixed_bound scope name [] some h = absurd (cc)
prefixed_bound scope name (b ∷ p) some h = ap (option_map (λ u. record { uri = u; local = name.local; prefix = b ∷ p })) h

prefixed_declares : (p local : List ℕ) → is_empty p ≡ false → bytes_eq p (codes "xmlns") ≡ false → declared_prefix (qname p local) ≡ None
unfolding declared_prefix
prefixed_declares p local some other = rw (some, other) refl

prefixed_attribute : (scope : Bindings) (name : Label) (p : List ℕ) → IsBindable p name.uri → IsGoodName name → is_empty p ≡ false
    → uri_in scope p ≡ Some name.uri → IsAttribute scope p name
prefixed_attribute scope name p b n some h = record {
  name_is = name_written p name.local b.named n.local b.prefix_text n.local_text;
  declares = prefixed_declares p name.local some b.other;
  bound = prefixed_bound scope name p some h;
}

alone_declares : (local : List ℕ) → bytes_eq local (codes "xmlns") ≡ false → declared_prefix (qname [] local) ≡ None
unfolding declared_prefix
alone_declares local other = rw other refl

alone_bound : (scope : Bindings) (name : Label) → name.uri ≡ [] → attribute_name scope (qname [] name.local) ≡ Some (named_with [] name)
unfolding attribute_name
alone_bound scope name none = ap (λ u. Some (record { uri = u; local = name.local; prefix = [] })) (sym none)

no_uri : (u : List ℕ) → kept.is_empty u ≡ true → u ≡ []
no_uri [] h = refl
no_uri (b ∷ u) h = absurd (cc)

second_false : (s t : Bool) → s ≡ true → (s && t) ≡ false → t ≡ false
second_false true t e h = h
second_false false t e h = absurd (cc)

empty_either : (u : List ℕ) → kept.is_empty u ≡ true → is_empty u ≡ true
empty_either [] h = refl
empty_either (b ∷ u) h = absurd (cc)

-- one in no namespace has no prefix
alone_attribute : (scope : Bindings) (a : Attribute) → IsGoodAttribute a → kept.is_empty a.name.uri ≡ true → IsAttribute scope a.name.prefix a.name
alone_attribute scope a g none =
    let p : a.name.prefix ≡ [] = g.named.bindable.none (empty_either a.name.uri none) in
    subst (λ q. IsAttribute scope q a.name) (sym p) (record {
      name_is = name_written [] a.name.local (λ some. absurd (cc)) g.named.local (subst IsUtf8 p g.named.bindable.prefix_text) g.named.local_text;
      declares = alone_declares a.name.local (second_false (kept.is_empty a.name.uri) (bytes_eq a.name.local (codes "xmlns")) none g.plain);
      bound = alone_bound scope a.name (no_uri a.name.uri none);
    })

xml_in : (scope : Bindings) → IsScope scope → uri_in scope (codes "xml") ≡ Some xml_uri
unfolding uri_in
xml_in scope s = s.xml

xml_attribute : (scope : Bindings) (name : Label) → IsScope scope → IsGoodName name → bytes_eq name.uri xml_uri ≡ true → IsAttribute scope name.prefix name
xml_attribute scope name s n is =
    let p : name.prefix ≡ codes "xml" = n.bindable.xml is in
    let u : name.uri ≡ xml_uri = (bytes_eq-Decides name.uri xml_uri).0 is in
    prefixed_attribute scope name name.prefix n.bindable n (ap is_empty p) (ap (uri_in scope) p ∙ xml_in scope s ∙ ap Some (sym u))

attribute_fit : (ds m : List Binding) (a : Attribute) → IsForce ds → IsGoodTag m → length m < 2 ^ 64 → IsGoodAttribute a
    → (needs_prefix a.name ≡ true → (resolved ds (attribute_prefix m a.name) ≡ a.name.uri) × (kept.is_empty (attribute_prefix m a.name) ≡ false))
    → IsAttribute (in_force ds) (attribute_prefix m a.name) a.name
unfolding attribute_prefix
attribute_fit ds m a f g small good resolves = by_needs (needs_prefix a.name) refl resolves
  where
    other : (s : Bool) → kept.is_empty a.name.uri ≡ s → (t : Bool) → bytes_eq a.name.uri xml_uri ≡ t → (not s && not t) ≡ false
        → IsAttribute (in_force ds) a.name.prefix a.name
    other true e t h no_need = alone_attribute (in_force ds) a good e
    other false e true h no_need = xml_attribute (in_force ds) a.name f.scoped good.named h
    other false e false h no_need = absurd (cc)

    by_needs : (t : Bool) → needs_prefix a.name ≡ t
        → (t ≡ true → (resolved ds (if t then chosen_prefix m a.name else a.name.prefix) ≡ a.name.uri)
        × (kept.is_empty (if t then chosen_prefix m a.name else a.name.prefix) ≡ false))
        → IsAttribute (in_force ds) (if t then chosen_prefix m a.name else a.name.prefix) a.name
    by_needs true needs r =
        let b = chosen_bindable m a.name g good.named small needs in
        let some = full_text (chosen_prefix m a.name) (r refl).1 in
        prefixed_attribute (in_force ds) a.name (chosen_prefix m a.name) b good.named some
        (in_scope ds (chosen_prefix m a.name) a.name.uri f (r refl).0 ∙ given_full a.name.uri (prefixed_full (chosen_prefix m a.name) a.name.uri b some))
    by_needs false needs r = other (kept.is_empty a.name.uri) refl (bytes_eq a.name.uri xml_uri) refl needs

attributes_fit : (attrs : List Attribute) (ds m : List Binding) → IsForce ds → IsGoodTag m → AreFew m attrs → AllByRecursion IsGoodAttribute attrs
    → AttributesResolve ds m attrs → AreAttributes (in_force ds) m attrs
attributes_fit [] ds m f g few good resolve = tt
attributes_fit (a ∷ more) ds m f g few good resolve =
    let small = few_here m a more few in (
      attribute_fit ds m a f g small good.0 resolve.0,
      good.0.text,
      attributes_fit more ds (with_attribute m a.name) f (good_attribute m a.name g good.0.named small) (few_more m a more few) good.1 resolve.1,
    )

good_names : (attrs : List Attribute) → AllByRecursion IsGoodAttribute attrs → AreGoodNames attrs
good_names [] good = tt
good_names (a ∷ more) good = (good.0.named, good_names more good.1)

-- ---- declarations
declares : (p : List ℕ) → declared_prefix (declared_parts p) ≡ Some p
unfolding declared_prefix
declares [] = refl
declares (b ∷ p) = refl

declaration_fit : (d : Binding) → MayBind d → IsDeclaration d
declaration_fit d may = record {
  name = declaration_written d.0 may.named may.prefix_text;
  declares = declares d.0;
  allowed = not_bad d.0 d.1 may.allowed;
  uri_text = may.uri_text;
}

declarations_fit : (ds : List Binding) → AllByRecursion MayBind ds → AllByRecursion IsDeclaration ds
declarations_fit [] may = tt
declarations_fit (d ∷ ds) may = (declaration_fit d may.0, declarations_fit ds may.1)

all_allowed : (ds : List Binding) → AllByRecursion MayBind ds → AllByRecursion IsAllowed ds
all_allowed [] may = tt
all_allowed (d ∷ ds) may = (may.0.allowed, all_allowed ds may.1)

-- ---- no name twice
other_bytes : (a b : List ℕ) → (a ≡ b → ⊥) → bytes_eq a b ≡ false
other_bytes a b apart = false_from_ne_true (bytes_eq a b) (λ e. apart ((bytes_eq-Decides a b).0 e))

one_more : (x : Expanded) (seen : List Expanded) (y : Expanded) → list_any (same_name x) seen ≡ false → same_name x y ≡ false
    → list_any (same_name x) (seen ++ y ∷ []) ≡ false
one_more x seen y h k =
    list_any-append (same_name x) seen (y ∷ []) ∙ or_from (list_any (same_name x) seen) (same_name x y || false) h (or_from (same_name x y) false k refl)

later_new : (d : Binding) (ds : List Binding) (seen : List Expanded) → AllByRecursion (λ (e : Binding). e.0 ≡ d.0 → ⊥) ds
    → AllByRecursion (λ (e : Binding). list_any (same_name (step.declaration_name e.0)) seen ≡ false) ds
    → AllByRecursion (λ (e : Binding). list_any (same_name (step.declaration_name e.0)) (seen ++ step.declaration_name d.0 ∷ []) ≡ false) ds
later_new d [] seen apart new = tt
later_new d (e ∷ es) seen apart new = (
  one_more (step.declaration_name e.0) seen (step.declaration_name d.0) new.0 (other_bytes e.0 d.0 apart.0),
  later_new d es seen apart.1 new.1,
)

declarations_new : (ds : List Binding) (seen more : List Expanded) → AreApart ds
    → AllByRecursion (λ (e : Binding). list_any (same_name (step.declaration_name e.0)) seen ≡ false) ds
    → AreNew (seen ++ names_declared ds) more → AreNew seen (names_declared ds ++ more)
declarations_new [] seen more apart new rest = subst (λ xs. AreNew xs more) (append_nil seen) rest
  where
    append_nil : (xs : List Expanded) → xs ++ [] ≡ xs
    append_nil [] = refl
    append_nil (x ∷ xs) = ap (λ ys. x ∷ ys) (append_nil xs)
declarations_new (d ∷ ds) seen more apart new rest = (
  new.0,
  declarations_new ds (seen ++ step.declaration_name d.0 ∷ []) more apart.1 (later_new d ds seen apart.0 new.1)
      (subst (λ xs. AreNew xs more) (sym (append_assoc seen (step.declaration_name d.0 ∷ []) (names_declared ds))) rest),
)

-- no name of an attribute is that of a declaration
no_declaration : (name : Label) (ds : List Binding) → bytes_eq name.uri xmlns_uri ≡ false
    → list_any (same_name (record { uri = name.uri; local = name.local })) (names_declared ds) ≡ false
no_declaration name [] other = refl
no_declaration name (d ∷ ds) other =
    or_from (bytes_eq name.uri xmlns_uri && bytes_eq name.local d.0)
    (list_any (same_name (record { uri = name.uri; local = name.local })) (names_declared ds))
    (ap (λ t. t && bytes_eq name.local d.0) other) (no_declaration name ds other)

-- a name that is none of these labels is none of these names
abbrev Covers : List Label → List Expanded → Type 0
Covers names seen = (name : Label) → bytes_eq name.uri xmlns_uri ≡ false → list_any (is_same_name name) names ≡ false
    → list_any (same_name (record { uri = name.uri; local = name.local })) seen ≡ false

attributes_new : (attrs : List Attribute) (names : List Label) (seen : List Expanded) → Covers names seen → AreGoodNames attrs → AreFresh names attrs
    → AreNew seen (map expanded attrs)
attributes_new [] names seen covers good fresh = tt
attributes_new (a ∷ more) names seen covers good fresh = (
  covers a.name good.0.bindable.not_xmlns fresh.0,
  attributes_new more (a.name ∷ names) (seen ++ expanded a ∷ []) (λ name other none.
      let parts = or_parts (is_same_name name a.name) (list_any (is_same_name name) names) none in
      one_more (record { uri = name.uri; local = name.local }) seen (expanded a) (covers name other parts.1) parts.0) good.1 fresh.1,
)

none_seen : (ds : List Binding) → AllByRecursion (λ (e : Binding). list_any (same_name (step.declaration_name e.0)) [] ≡ false) ds
none_seen [] = tt
none_seen (d ∷ ds) = (refl, none_seen ds)

-- ---- the whole start tag
before_good : (name : Label) (es : List Event) → IsGoodElement name es → IsGoodTag (bindings_before name es)
unfolding bindings_before
before_good name es g =
    good_spaces (spaces_in es) (own_binding name) g.spaces (record { allowed = (g.own.bindable, tt); apart = (tt, tt) })

before_length : (name : Label) (es : List Event) → length (bindings_before name es) ≤ 1 + length (spaces_in es)
unfolding bindings_before
before_length name es = spaces_length (spaces_in es) (own_binding name)

before_few : (name : Label) (es : List Event) → IsGoodElement name es → AreFew (bindings_before name es) (attributes_in es)
before_few name es g =
    let before : length (bindings_before name es) ≤ 1 + length (spaces_in es) = before_length name es in
    omega (arith, g.few, before)

whole_good : (name : Label) (es : List Event) → IsGoodElement name es → IsGoodTag (bindings name es)
unfolding bindings
whole_good name es g =
    good_attributes (attributes_in es) (bindings_before name es) (good_names (attributes_in es) g.attributes) (before_few name es g) (before_good name es g)

whole_small : (name : Label) (es : List Event) → IsGoodElement name es → length (bindings name es) < 2 ^ 64
unfolding bindings
whole_small name es g =
    let few : length (bindings_before name es) + length (attributes_in es) < 2 ^ 64 = before_few name es g in
    let most : length (with_attributes (bindings_before name es) (attributes_in es)) ≤ length (bindings_before name es) + length (attributes_in es) =
    attributes_length (attributes_in es) (bindings_before name es) in
    omega (arith, few, most)

pub tag_fit : NamesResolve → (around : List Binding) (name : Label) (es : List Event) → IsForce around → IsGoodElement name es → IsFitTag around name es
tag_fit resolve around name es f g =
    let ds = declared_by around name es in
    let good : IsGoodTag (declared around (bindings name es)) = good_declared around (bindings name es) (whole_good name es g) in
    let force : IsForce (ds ++ around) = force_more ds around (all_allowed ds good.allowed) f in
    let r : Resolves around name es = resolve around name es (whole_small name es g) in
    record {
      own = name_written name.prefix name.local g.own.bindable.named g.own.local g.own.bindable.prefix_text g.own.local_text;
      bound = element_bound (scope_inside around name es) name name.prefix (in_scope (ds ++ around) name.prefix name.uri force r.element)
          (prefixed_full name.prefix name.uri g.own.bindable);
      declarations = declarations_fit ds good.allowed;
      attributes = attributes_fit (attributes_in es) (ds ++ around) (bindings_before name es) force (before_good name es g) (before_few name es g)
          g.attributes r.attributes;
      new = declarations_new ds [] (map expanded (attributes_in es)) good.apart (none_seen ds)
          (attributes_new (attributes_in es) [] (names_declared ds) (λ n other none. no_declaration n ds other)
          (good_names (attributes_in es) g.attributes) g.fresh);
      force = force;
    }
