-- The nodes of documents have names that can be written.
use Rattle.std.proofs.Common.{◌≡◌, ℕ, ◌<◌, ◌≤◌, List, [], ◌∷◌, ◌++◌, Option, None, Some, Bool, true, false, if◌then◌else◌, refl, sym, ◌∙◌, ap, subst}
use Rattle.std.proofs.Common.{arith, cond, filter, get_or, length}
use Rattle.std.specs.Prelude.{not, ◌&&◌, ◌||◌, ◌==◌, IsTrue, MatchOption, codes}
use Rattle.std.specs.List.{list_any}
use Rattle.std.specs.Str.{bytes_eq}
use Rattle.std.proofs.lemmas.Bool.{and_from, and_parts}
use Rattle.std.proofs.lemmas.Bool.Decides.{nat_tests}
use Rattle.std.proofs.lemmas.List.Folds.{list_any_at}
use Rattle.std.proofs.lemmas.List.FromFn.{get_or-range_with_len, length-range_with_len}
use Rattle.std.proofs.lemmas.Slice.Eq.{bytes_eq-Decides}
use Rattle.xs_text.specs.Names.{is_ncname}
use Rattle.xs_tree.specs.declared.kinds.Kind.{Kind}
use Rattle.xs_tree.specs.declared.kinds.Kind.TheVariants.{Root, Element, Attribute, Space, Text, Comment, Pi}
use Rattle.xs_tree.specs.Axis.{root_of}
use Rattle.xs_tree.specs.Kinds.{can_hold, is_attribute_kind, is_namespace_kind}
use Rattle.xs_tree.specs.Record.{Record, at, attributes, is_attribute, is_namespace, is_place, local_at, name_local, name_prefix, name_uri, namespaces, places, prefix_at}
use Rattle.xs_tree.specs.Record.{uri_at}
use Rattle.xs_tree.specs.Shape.{IsPlaced, IsTree}
use Rattle.xs_tree.proofs.RootLemmas.{root_of-kind, root_of-le}
use Rattle.xs_tree.proofs.WalkLemmas.{IsPlaced-at, passing-passes, passing-within}
use Rattle.xs_build.specs.DocumentTree.{IsDocument, IsElement, binds, has_default, is_attribute_in_scope, is_named_as, is_prefix, may_be_bound}
use Rattle.xs_build.specs.Namespaces.{is_bad_binding, is_empty, xml_uri, xmlns_uri}
use Rattle.xs_build.proofs.WellFormedLemmas.ScopeLemmas.{not_bad}
use Rattle.xs_making.specs.Laws as made
use Rattle.xs_making.specs.Laws.{AreWell, IsNamed, IsSpace, IsWellAs}
use Rattle.xs_result_laws.specs.ResultLaws.{AreDocuments, DocumentsAreWell}
use Rattle.xs_result_laws.proofs.NameLemmas.{no_bool}

-- ---- members of a list
some_at : (p : ℕ → Bool) (xs : List ℕ) → list_any p xs ≡ true
    → (before : List ℕ) × (after : List ℕ) × (k : ℕ) × (xs ≡ before ++ k ∷ after) × (p k ≡ true)
some_at p [] h = absurd (cc)
some_at p (x ∷ xs) h = by_test (p x) refl h (λ g. some_at p xs g)
  where
    by_test : (t : Bool) → p x ≡ t → (t || list_any p xs) ≡ true
        → (list_any p xs ≡ true → (before : List ℕ) × (after : List ℕ) × (k : ℕ) × (xs ≡ before ++ k ∷ after) × (p k ≡ true))
        → (before : List ℕ) × (after : List ℕ) × (k : ℕ) × (x ∷ xs ≡ before ++ k ∷ after) × (p k ≡ true)
    by_test true is g more = ([], xs, x, refl, is)
    by_test false is g more = let r = more g in (x ∷ r.0, r.1, r.2, ap (λ ys. x ∷ ys) r.3, r.4)

or_more : (s a b : Bool) → (a ≡ true → b ≡ true) → (s || a) ≡ true → (s || b) ≡ true
or_more true a b more h = refl
or_more false a b more h = more h

any_filtered : (p test : ℕ → Bool) (xs : List ℕ) → list_any (λ x. test x && p x) xs ≡ true → list_any p (filter test xs) ≡ true
any_filtered p test [] h = h
any_filtered p test (x ∷ xs) h = by_test (test x) h (λ g. any_filtered p test xs g)
  where
    by_test : (t : Bool) → ((t && p x) || list_any (λ y. test y && p y) xs) ≡ true
        → (list_any (λ y. test y && p y) xs ≡ true → list_any p (filter test xs) ≡ true) → list_any p (cond t (x ∷ filter test xs) (filter test xs)) ≡ true
    by_test true g more = or_more (p x) (list_any (λ y. test y && p y) xs) (list_any p (filter test xs)) more g
    by_test false g more = more g

-- a place of the tree that passes both tests
any_place : (p test : ℕ → Bool) (rs : List Record) (k : ℕ) → k < length rs → test k ≡ true → p k ≡ true → list_any p (filter test (places rs)) ≡ true
any_place p test rs k within t h =
    let count : length (places rs) ≡ length rs = length-range_with_len 0 (length rs) in
    let is : get_or (places rs) k 0 ≡ k = get_or-range_with_len 0 (length rs) k 0 within ∙ (omega arith) in
    any_filtered p test (places rs)
    (list_any_at (λ x. test x && p x) (places rs) k 0 (omega (arith, count, within))
    (subst (λ x. (test x && p x) ≡ true) (sym is) (and_from (test k) (p k) t h)))

-- ---- what may be bound
bad_parts : (a b c d e : Bool) → (a || b || c || d || e) ≡ false → (b ≡ false) × (c ≡ false) × (e ≡ false)
bad_parts true b c d e h = absurd (cc)
bad_parts false true c d e h = absurd (cc)
bad_parts false false true d e h = absurd (cc)
bad_parts false false false true e h = absurd (cc)
bad_parts false false false false e h = (refl, refl, h)

record IsBound (p u : List ℕ) : Type 0 where
  spelled : is_prefix p ≡ true
  other : bytes_eq p (codes "xmlns") ≡ false
  xml : (bytes_eq p (codes "xml") && not (bytes_eq u xml_uri)) ≡ false
  uri : bytes_eq u xmlns_uri ≡ false

bound_parts : (p u : List ℕ) → may_be_bound p u ≡ true → IsBound p u
unfolding is_bad_binding
bound_parts p u h =
    let parts = bad_parts (not (is_empty p) && is_empty u) (bytes_eq p (codes "xmlns")) (bytes_eq p (codes "xml") && not (bytes_eq u xml_uri))
    (not (bytes_eq p (codes "xml")) && bytes_eq u xml_uri) (bytes_eq u xmlns_uri) (not_bad p u h) in
    record { spelled = (and_parts (is_prefix p) (not (is_bad_binding p u)) h).0; other = parts.0; xml = parts.1; uri = parts.2 }

made_prefix : (p : List ℕ) → is_prefix p ≡ true → made.is_prefix p ≡ true
made_prefix [] h = refl
made_prefix (b ∷ p) h = h

-- ---- a namespace node
xml_reserved : (s t u : Bool) → t ≡ false → (s && not u) ≡ false → (s || t) ≡ true → u ≡ true
xml_reserved true t true other xml h = refl
xml_reserved true t false other xml h = absurd (cc)
xml_reserved false true u other xml h = absurd (cc)
xml_reserved false false u other xml h = absurd (cc)

space_well : (r : Record) → may_be_bound (name_local r) r.text ≡ true → IsSpace r
space_well r h =
    let b = bound_parts (name_local r) r.text h in
    record {
      prefix = made_prefix (name_local r) b.spelled;
      uri = b.uri;
      reserved = xml_reserved (bytes_eq (name_local r) (codes "xml")) (bytes_eq (name_local r) (codes "xmlns")) (bytes_eq r.text xml_uri) b.other b.xml;
    }

-- ---- the document that a node is in
document_at : (rs : List Record) (k : ℕ) → IsTree rs → AreDocuments rs → k < length rs → IsDocument rs (root_of rs k)
document_at rs k tree docs within =
    docs (root_of rs k) (let before : root_of rs k ≤ k = root_of-le rs k in omega (arith, before, within)) (root_of-kind rs k tree)

space_kind : (kind : Kind) → is_namespace_kind kind ≡ true → kind ≡ Space
space_kind Root h = absurd (cc)
space_kind Element h = absurd (cc)
space_kind Attribute h = absurd (cc)
space_kind Space h = refl
space_kind Text h = absurd (cc)
space_kind Comment h = absurd (cc)
space_kind Pi h = absurd (cc)

-- what a namespace node of a node binds is not the namespace of `xmlns`
bound_uri : (rs : List Record) (n : ℕ) (p u : List ℕ) → IsTree rs → AreDocuments rs → list_any (binds rs p u) (namespaces rs n) ≡ true
    → bytes_eq u xmlns_uri ≡ false
bound_uri rs n p u tree docs h =
    let found = some_at (binds rs p u) (namespaces rs n) h in
    let within : found.2 < length rs = passing-within (is_namespace rs n) rs found.0 found.1 found.2 found.3 in
    let passes : is_namespace rs n found.2 ≡ true = passing-passes (is_namespace rs n) rs found.0 found.1 found.2 found.3 in
    let kind : (at rs found.2).kind ≡ Space =
    space_kind (at rs found.2).kind (and_parts (is_place n (at rs found.2).parent) (is_namespace_kind (at rs found.2).kind) passes).1 in
    let named : is_named_as (at rs found.2).kind (at rs found.2) ≡ true = (document_at rs found.2 tree docs within).names found.2 (within, refl) in
    let may : may_be_bound (name_local (at rs found.2)) (at rs found.2).text ≡ true = subst (λ x. is_named_as x (at rs found.2) ≡ true) kind named in
    let same : (at rs found.2).text ≡ u =
    (bytes_eq-Decides (at rs found.2).text u).0 (and_parts (bytes_eq (local_at rs found.2) p) (bytes_eq (at rs found.2).text u) found.4).1 in
    subst (λ x. bytes_eq x xmlns_uri ≡ false) same (bound_parts (name_local (at rs found.2)) (at rs found.2).text may).uri

-- ---- an element and an attribute
not_empty : (a d : Bool) → (a && false && d) ≡ true → ⊥
not_empty true d h = absurd (cc)
not_empty false d h = absurd (cc)

element_uri : (rs : List Record) (n : ℕ) (p u : List ℕ) (d : Bool) → IsTree rs → AreDocuments rs
    → (list_any (binds rs p u) (namespaces rs n) || is_empty p && is_empty u && d) ≡ true → bytes_eq u xmlns_uri ≡ false
element_uri rs n p [] d tree docs h = refl
element_uri rs n p (b ∷ u) d tree docs h = by_test (list_any (binds rs p (b ∷ u)) (namespaces rs n)) refl h
  where
    by_test : (t : Bool) → list_any (binds rs p (b ∷ u)) (namespaces rs n) ≡ t → (t || is_empty p && false && d) ≡ true → bytes_eq (b ∷ u) xmlns_uri ≡ false
    by_test true is g = bound_uri rs n p (b ∷ u) tree docs is
    by_test false is g = absurd (not_empty (is_empty p) d g)

attribute_uri : (rs : List Record) (n : ℕ) (p u : List ℕ) (d : Bool) → IsTree rs → AreDocuments rs
    → (if is_empty p then is_empty u && d else list_any (binds rs p u) (namespaces rs n)) ≡ true → bytes_eq u xmlns_uri ≡ false
attribute_uri rs n [] [] d tree docs h = refl
attribute_uri rs n [] (b ∷ u) d tree docs h = absurd (cc)
attribute_uri rs n (c ∷ p) u d tree docs h = bound_uri rs n (c ∷ p) u tree docs h

named_well : (r : Record) → (is_prefix (name_prefix r) && is_ncname (name_local r)) ≡ true → bytes_eq (name_uri r) xmlns_uri ≡ false → IsNamed r
named_well r h u =
    let parts = and_parts (is_prefix (name_prefix r)) (is_ncname (name_local r)) h in
    record { local = parts.1; prefix = made_prefix (name_prefix r) parts.0; uri = u }

holder : (kind : Kind) → IsTrue (can_hold kind Attribute) → kind ≡ Element
holder Root h = absurd (cc)
holder Element h = refl
holder Attribute h = absurd (cc)
holder Space h = absurd (cc)
holder Text h = absurd (cc)
holder Comment h = absurd (cc)
holder Pi h = absurd (cc)

same_number : (n : ℕ) → (n == n) ≡ true
same_number n = grind (arith, nat_tests)

-- an attribute is in the bindings of its element
in_scope : (rs : List Record) (k p : ℕ) → IsTree rs → AreDocuments rs → k < length rs → (at rs k).kind ≡ Attribute → (at rs k).parent ≡ Some p
    → is_attribute_in_scope rs p k ≡ true
in_scope rs k p tree docs within kind parent = by_test (is_attribute_in_scope rs p k) refl
  where
    placed : IsPlaced rs k p
    placed = IsPlaced-at rs k p tree within parent

    held : (at rs p).kind ≡ Element
    held = holder (at rs p).kind (subst (λ x. IsTrue (can_hold (at rs p).kind x)) kind placed.held)

    inside : p < length rs
    inside = let before : p < k = placed.before in omega (arith, before, within)

    is_own : is_attribute rs p k ≡ true
    is_own = and_from (is_place p (at rs k).parent) (is_attribute_kind (at rs k).kind) (ap (is_place p) parent ∙ same_number p) (ap is_attribute_kind kind)

    element : IsElement rs p
    element = (document_at rs p tree docs inside).elements p (inside, refl) held

    by_test : (t : Bool) → is_attribute_in_scope rs p k ≡ t → t ≡ true
    by_test true is = refl
    by_test false is =
        no_bool (list_any (λ j. not (is_attribute_in_scope rs p j)) (attributes rs p))
        (any_place (λ j. not (is_attribute_in_scope rs p j)) (is_attribute rs p) rs k within is_own (ap not is)) element.attributes

attribute_well : (rs : List Record) (k : ℕ) → IsTree rs → AreDocuments rs → k < length rs → (at rs k).kind ≡ Attribute
    → (is_prefix (prefix_at rs k) && is_ncname (local_at rs k)) ≡ true → IsNamed (at rs k)
attribute_well rs k tree docs within kind h = by_parent (at rs k).parent refl (tree.placed k within)
  where
    by_parent : (o : Option ℕ) → (at rs k).parent ≡ o → MatchOption o ((at rs k).kind ≡ Root) (λ p. IsPlaced rs k p) → IsNamed (at rs k)
    by_parent None is root = absurd (let no_kind : Attribute ≡ Root = sym kind ∙ root in cc)
    by_parent (Some p) is placed =
        named_well (at rs k) h (attribute_uri rs p (prefix_at rs k) (uri_at rs k) (not (bytes_eq (local_at rs k) (codes "xmlns"))) tree docs
        (in_scope rs k p tree docs within kind is))

-- ---- all nodes
pub documents_are_well : DocumentsAreWell
documents_are_well rs tree docs k within = by_kind (at rs k).kind refl named
  where
    named : is_named_as (at rs k).kind (at rs k) ≡ true
    named = (document_at rs k tree docs within).names k (within, refl)

    by_kind : (kind : Kind) → (at rs k).kind ≡ kind → is_named_as kind (at rs k) ≡ true → IsWellAs kind (at rs k)
    by_kind Root is h = tt
    by_kind Element is h =
        named_well (at rs k) h (element_uri rs k (prefix_at rs k) (uri_at rs k) (not (has_default rs k)) tree docs
        ((document_at rs k tree docs within).elements k (within, refl) is).scope)
    by_kind Attribute is h = attribute_well rs k tree docs within is h
    by_kind Space is h = space_well (at rs k) h
    by_kind Text is h = tt
    by_kind Comment is h = tt
    by_kind Pi is h = h
