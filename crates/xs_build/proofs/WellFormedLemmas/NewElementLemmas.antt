-- An element with its namespace nodes is whole when it is given, and stays so with one more attribute.
use Rattle.std.proofs.Common.{◌≡◌, ℕ, List, [], ◌∷◌, ◌++◌, Option, None, Some, Bool, true, false, refl, sym, ◌∙◌, ap, subst, map, cond, inl, inr, eq-eqb}
use Rattle.std.proofs.Common.{unwrap_or, option_map}
use Rattle.std.specs.Prelude.{not, ◌&&◌, ◌||◌, ◌==◌, codes}
use Rattle.std.specs.BTreeMap.{is_at}
use Rattle.std.specs.List.{AllByRecursion, IsDistinct, list_any}
use Rattle.std.specs.List.Sorted.{IsStrictlySortedBy}
use Rattle.std.specs.Map.{keys_of, lookup}
use Rattle.std.specs.Str.{bytes_eq}
use Rattle.std.proofs.lemmas.Bool.{cases_Bool}
use Rattle.std.proofs.lemmas.List.Folds.{list_any-append}
use Rattle.std.proofs.lemmas.Slice.Eq.{bytes_eq-Decides}
use Rattle.xs_tree.specs.Kinds.{is_attribute_kind, is_namespace_kind}
use Rattle.xs_tree.specs.Names.{order_of_texts}
use Rattle.xs_tree.specs.Record.{Record, is_place}
use Rattle.xs_tree.specs.declared.names.Name.{Name}
use Rattle.xs_build.specs.declared.tag_names.Expanded.{Expanded}
use Rattle.xs_tree.specs.Record.{name_uri, name_local}
use Rattle.xs_build.specs.DocumentTree.{is_prefix, is_well_named}
use Rattle.xs_build.specs.Namespaces.{Bindings, is_empty, is_ncname, named, uri_of, QName, uri_in, element_name, attribute_name, declared_prefix, xml_uri}
use Rattle.xs_build.specs.steps.Lines.{same_name}
use Rattle.xs_build.specs.Nodes.{element, attribute, space, spaces}
use Rattle.xs_build.proofs.WellFormedLemmas.OwnNodeLemmas.{has_local, own_spaces, own_attributes, represents, is_default, is_unnamed, same_names, is_scoped}
use Rattle.xs_build.proofs.WellFormedLemmas.OwnNodeLemmas.{is_named, IsWhole}
use Rattle.xs_build.proofs.WellFormedLemmas.ScopeLemmas.{IsAllowed, IsScope, IsWritten, has_key, key_later, keys_sorted, found_among, none_default, none_empty}

-- the namespace nodes represent the bindings
locals_spaces : (p : ℕ) (scope : Bindings) → map name_local (spaces p scope) ≡ keys_of scope
locals_spaces p [] = refl
locals_spaces p (b ∷ scope) = ap (λ (ks : List (List ℕ)). b.0 ∷ ks) (locals_spaces p scope)

any_spaces : (f : Record → Bool) (p : ℕ) (scope : Bindings) → list_any f (spaces p scope) ≡ list_any (λ b. f (space p b)) scope
any_spaces f p [] = refl
any_spaces f p (b ∷ scope) = ap (λ x. f (space p b) || x) (any_spaces f p scope)

stands_found : (p : ℕ) (scope : Bindings) (prefix uri : List ℕ) → lookup (is_at (order_of_texts prefix)) scope ≡ Some uri
    → list_any (represents prefix uri) (spaces p scope) ≡ true
stands_found p scope prefix uri h = any_spaces (represents prefix uri) p scope ∙ found_among scope prefix uri h

or_true : (a : Bool) → (a || true) ≡ true
or_true true = refl
or_true false = refl

-- the name of an element
plain_named : (p : ℕ) (scope : Bindings) (local : List ℕ) (parent : ℕ) (o : Option (List ℕ)) → lookup (is_at (order_of_texts [])) scope ≡ o →
    is_named (spaces p scope) (element (record { uri = unwrap_or o []; local = local; prefix = [] }) parent) ≡ true
plain_named p scope local parent (Some uri) is = rw (stands_found p scope [] uri is) refl
plain_named p scope local parent None is = rw (any_spaces is_default p scope ∙ none_default scope is) (or_true (list_any (represents [] []) (spaces p scope)))

prefix_named : (p : ℕ) (scope : Bindings) (b : ℕ) (prefix local : List ℕ) (parent : ℕ) (full : Name) (o : Option (List ℕ))
    → lookup (is_at (order_of_texts (b ∷ prefix))) scope ≡ o →
    option_map (λ uri. record { uri = uri; local = local; prefix = b ∷ prefix }) o ≡ Some full → is_named (spaces p scope) (element full parent) ≡ true
prefix_named p scope b prefix local parent full None is h = cc
prefix_named p scope b prefix local parent full (Some uri) is h =
    let same : full ≡ record { uri = uri; local = local; prefix = b ∷ prefix } = cc in
    rw (same, stands_found p scope (b ∷ prefix) uri is) refl

pub element_named : (p : ℕ) (scope : Bindings) (prefix local : List ℕ) (parent : ℕ) (full : Name)
    → element_name scope (record { prefix = prefix; local = local }) ≡ Some full → is_named (spaces p scope) (element full parent) ≡ true
unfolding element_name uri_in
element_named p scope [] local parent full h =
    let plain : Name = record { uri = unwrap_or (lookup (is_at (order_of_texts [])) scope) []; local = local; prefix = [] } in
    let same : plain ≡ full = cc in
    subst (λ (x : Name). is_named (spaces p scope) (element x parent) ≡ true) same
    (plain_named p scope local parent (lookup (is_at (order_of_texts [])) scope) refl)
element_named p scope (b ∷ prefix) local parent full h =
    prefix_named p scope b prefix local parent full (lookup (is_at (order_of_texts (b ∷ prefix))) scope) refl h

-- the name of an attribute that declares nothing
no_declaration : (local : List ℕ) → declared_prefix (record { prefix = []; local = local }) ≡ None → bytes_eq local (codes "xmlns") ≡ false
unfolding declared_prefix
no_declaration local h =
    elim (cases_Bool (bytes_eq local (codes "xmlns"))) [
      | inl t ↦ absurd (let no : Some [] ≡ None = rw t at h in cc)
      | inr f ↦ f
    ]

prefix_scoped : (p : ℕ) (scope : Bindings) (b : ℕ) (prefix local value : List ℕ) (parent : ℕ) (full : Name) (o : Option (List ℕ))
    → lookup (is_at (order_of_texts (b ∷ prefix))) scope ≡ o →
    option_map (λ uri. record { uri = uri; local = local; prefix = b ∷ prefix }) o ≡ Some full → is_scoped (spaces p scope) (attribute full value parent) ≡ true
prefix_scoped p scope b prefix local value parent full None is h = cc
prefix_scoped p scope b prefix local value parent full (Some uri) is h =
    let same : full ≡ record { uri = uri; local = local; prefix = b ∷ prefix } = cc in
    rw (same, stands_found p scope (b ∷ prefix) uri is) refl

pub attribute_scoped : (p : ℕ) (scope : Bindings) (prefix local value : List ℕ) (parent : ℕ) (full : Name)
    → declared_prefix (record { prefix = prefix; local = local }) ≡ None → attribute_name scope (record { prefix = prefix; local = local }) ≡ Some full
    → is_scoped (spaces p scope) (attribute full value parent) ≡ true
unfolding attribute_name uri_in
attribute_scoped p scope [] local value parent full none h =
    let same : full ≡ record { uri = []; local = local; prefix = [] } = cc in
    rw (same, no_declaration local none) refl
attribute_scoped p scope (b ∷ prefix) local value parent full none h =
    prefix_scoped p scope b prefix local value parent full (lookup (is_at (order_of_texts (b ∷ prefix))) scope) refl h

-- an element that is given
pub new_whole : (p : ℕ) (scope : Bindings) (w : QName) (parent : ℕ) (full : Name) → IsScope scope → element_name scope w ≡ Some full
    → IsWhole (element full parent) (spaces p scope) []
unfolding IsDistinct
new_whole p scope w parent full s h = record {
  order = subst (IsStrictlySortedBy order_of_texts) (sym (locals_spaces p scope)) (keys_sorted scope s.order);
  xml = stands_found p scope (codes "xml") xml_uri s.xml;
  full = any_spaces is_unnamed p scope ∙ none_empty scope s.full;
  scope = element_named p scope w.prefix w.local parent full h;
  distinct = tt;
  attributes = refl;
}

-- one more attribute
all_added : {X : Type 0} (P : X → Type 0) (xs : List X) (y : X) → AllByRecursion P xs → P y → AllByRecursion P (xs ++ y ∷ [])
all_added P [] y a p = (p, tt)
all_added P (x ∷ xs) y a p = (a.0, all_added P xs y a.1 p)

distinct_added : (e : Record → Record → Bool) (xs : List Record) (y : Record) → IsDistinct e xs → AllByRecursion (λ x. e x y ≡ false) xs
    → IsDistinct e (xs ++ y ∷ [])
unfolding IsDistinct
distinct_added e [] y d a = (tt, tt)
distinct_added e (x ∷ xs) y d a = (all_added (λ z. e x z ≡ false) xs y d.0 a.0, distinct_added e xs y d.1 a.1)

pub whole_added : (e : Record) (ss attrs : List Record) (a : Record) → IsWhole e ss attrs → is_scoped ss a ≡ true
    → AllByRecursion (λ x. same_names x a ≡ false) attrs → IsWhole e ss (attrs ++ a ∷ [])
whole_added e ss attrs a w scoped apart = record {
  order = w.order;
  xml = w.xml;
  full = w.full;
  scope = w.scope;
  distinct = distinct_added same_names attrs a w.distinct apart;
  attributes = list_any-append (λ x. not (is_scoped ss x)) attrs (a ∷ []) ∙ rw (w.attributes, scoped) refl;
}

-- the names of a start tag
abbrev pub reported : Record → Expanded
reported a = record { uri = name_uri a; local = name_local a }

-- a name that none of the start tag has is that of none of these attributes
abbrev pub Tagged : List Record → List Expanded → Type 0
Tagged attrs seen = (x : Expanded) → list_any (same_name x) seen ≡ false → AllByRecursion (λ a. same_name x (reported a) ≡ false) attrs

or_false : (a b : Bool) → (a || b) ≡ false → (a ≡ false) × (b ≡ false)
or_false true b h = absurd (let no : true ≡ false = h in cc)
or_false false b h = (refl, h)

any_front : (p : Expanded → Bool) (xs : List Expanded) (y : Expanded) → list_any p (xs ++ y ∷ []) ≡ false → (list_any p xs ≡ false) × (p y ≡ false)
any_front p [] y h = (refl, (or_false (p y) false h).0)
any_front p (x ∷ xs) y h =
    let o : (p x ≡ false) × (list_any p (xs ++ y ∷ []) ≡ false) = or_false (p x) (list_any p (xs ++ y ∷ [])) h in
    let r : (list_any p xs ≡ false) × (p y ≡ false) = any_front p xs y o.1 in
    (rw o.0 r.0, r.1)

pub tagged_none : Tagged [] []
tagged_none = λ x h. tt

pub tagged_more : (attrs : List Record) (seen : List Expanded) (y : Expanded) → Tagged attrs seen → Tagged attrs (seen ++ y ∷ [])
tagged_more attrs seen y t = λ x h. t x (any_front (same_name x) seen y h).0

pub tagged_added : (attrs : List Record) (seen : List Expanded) (a : Record) → Tagged attrs seen → Tagged (attrs ++ a ∷ []) (seen ++ reported a ∷ [])
tagged_added attrs seen a t = λ x h. all_added (λ b. same_name x (reported b) ≡ false) attrs a (t x (any_front (same_name x) seen (reported a) h).0)
    (any_front (same_name x) seen (reported a) h).1

bytes_flip : (a b : List ℕ) → bytes_eq a b ≡ bytes_eq b a
bytes_flip a b =
    elim (cases_Bool (bytes_eq a b)) [
      | inl t ↦ t ∙ sym ((bytes_eq-Decides b a).1 (sym ((bytes_eq-Decides a b).0 t)))
      | inr f ↦ elim (cases_Bool (bytes_eq b a)) [
        | inl t ↦ absurd (let no : true ≡ false = sym ((bytes_eq-Decides a b).1 (sym ((bytes_eq-Decides b a).0 t))) ∙ f in cc)
        | inr g ↦ f ∙ sym g
      ]
    ]

names_flip : (a b : Record) → same_names a b ≡ same_name (reported b) (reported a)
names_flip a b = rw (bytes_flip (name_uri a) (name_uri b), bytes_flip (name_local a) (name_local b)) refl

pub all_flipped : (attrs : List Record) (a : Record) → AllByRecursion (λ x. same_name (reported a) (reported x) ≡ false) attrs
    → AllByRecursion (λ x. same_names x a ≡ false) attrs
all_flipped [] a h = tt
all_flipped (x ∷ attrs) a h = (names_flip x a ∙ h.0, all_flipped attrs a h.1)

-- which nodes are whose
abbrev pub Quiet : ℕ → List Record → Type 0
Quiet n xs = (own_spaces n xs ≡ []) × (own_attributes n xs ≡ [])

left_out : (b c : Bool) (r : Record) → c ≡ false → cond (b && c) (r ∷ []) [] ≡ []
left_out true c r h = rw h refl
left_out false c r h = refl

pub quiet_kind : (n : ℕ) (r : Record) → is_namespace_kind r.kind ≡ false → is_attribute_kind r.kind ≡ false → Quiet n (r ∷ [])
quiet_kind n r a b = (left_out (is_place n r.parent) (is_namespace_kind r.kind) r a, left_out (is_place n r.parent) (is_attribute_kind r.kind) r b)

pub quiet_attribute : (n p : ℕ) (full : Name) (value : List ℕ) → (p == n) ≡ false → Quiet n (attribute full value p ∷ [])
quiet_attribute n p full value h = (left_out (p == n) false (attribute full value p) refl, rw h refl)

pub attribute_no_space : (n p : ℕ) (full : Name) (value : List ℕ) → own_spaces n (attribute full value p ∷ []) ≡ []
attribute_no_space n p full value = left_out (p == n) false (attribute full value p) refl

pub own_attribute : (p : ℕ) (full : Name) (value : List ℕ) → own_attributes p (attribute full value p ∷ []) ≡ attribute full value p ∷ []
own_attribute p full value = rw (eq-eqb p p refl) refl

past_element : (b : Bool) (r : Record) (xs : List Record) → cond (b && false) (r ∷ xs) xs ≡ xs
past_element true r xs = refl
past_element false r xs = refl

spaces_quiet : (n p : ℕ) (scope : Bindings) → (p == n) ≡ false → own_spaces n (spaces p scope) ≡ []
spaces_quiet n p [] h = refl
spaces_quiet n p (b ∷ scope) h = rw h (spaces_quiet n p scope h)

spaces_no_attribute : (n p : ℕ) (scope : Bindings) → own_attributes n (spaces p scope) ≡ []
spaces_no_attribute n p [] = refl
spaces_no_attribute n p (b ∷ scope) = past_element (p == n) (space p b) (own_attributes n (spaces p scope)) ∙ spaces_no_attribute n p scope

spaces_own : (p : ℕ) (scope : Bindings) → own_spaces p (spaces p scope) ≡ spaces p scope
spaces_own p [] = refl
spaces_own p (b ∷ scope) = rw (eq-eqb p p refl) (ap (λ (xs : List Record). space p b ∷ xs) (spaces_own p scope))

pub quiet_element : (n p parent : ℕ) (full : Name) (scope : Bindings) → (p == n) ≡ false → Quiet n (element full parent ∷ spaces p scope)
quiet_element n p parent full scope h = (
  past_element (parent == n) (element full parent) (own_spaces n (spaces p scope)) ∙ spaces_quiet n p scope h,
  past_element (parent == n) (element full parent) (own_attributes n (spaces p scope)) ∙ spaces_no_attribute n p scope,
)

pub own_element : (p parent : ℕ) (full : Name) (scope : Bindings) → (own_spaces p (element full parent ∷ spaces p scope) ≡ spaces p scope)
    × (own_attributes p (element full parent ∷ spaces p scope) ≡ [])
own_element p parent full scope = (
  past_element (parent == p) (element full parent) (own_spaces p (spaces p scope)) ∙ spaces_own p scope,
  past_element (parent == p) (element full parent) (own_attributes p (spaces p scope)) ∙ spaces_no_attribute p p scope,
)

-- names
abbrev pub IsNamed : Record → Type 0
IsNamed r = is_well_named r ≡ true

pub spaces_named : (p : ℕ) (scope : Bindings) → AllByRecursion IsAllowed scope → AllByRecursion IsNamed (spaces p scope)
spaces_named p [] a = tt
spaces_named p (b ∷ scope) a = (a.0, spaces_named p scope a.1)

written_named : (w : QName) (o : Option (List ℕ)) (full : Name) → IsWritten w → option_map (named w) o ≡ Some full
    → (is_prefix full.prefix && is_ncname full.local) ≡ true
written_named w None full is h = cc
written_named w (Some uri) full is h =
    let same : named w uri ≡ full = cc in
    subst (λ (x : Name). (is_prefix x.prefix && is_ncname x.local) ≡ true) same (rw (is.0, is.1) refl)

pub element_qname : (scope : Bindings) (w : QName) (full : Name) (parent : ℕ) → IsWritten w → element_name scope w ≡ Some full → IsNamed (element full parent)
unfolding element_name
element_qname scope w full parent is h = written_named w (uri_of scope (unwrap_or (uri_in scope []) []) w.prefix) full is h

pub attribute_qname : (scope : Bindings) (w : QName) (full : Name) (value : List ℕ) (parent : ℕ) → IsWritten w → attribute_name scope w ≡ Some full
    → IsNamed (attribute full value parent)
unfolding attribute_name
attribute_qname scope w full value parent is h = written_named w (uri_of scope [] w.prefix) full is h

-- what is bound outside has a namespace node inside
first_handed : (k : List ℕ) (empty has : Bool) → (empty ≡ false → has ≡ true) → (not empty && not has) ≡ false
first_handed k true has h = refl
first_handed k false has h = rw (h refl) refl

pub spaces_handed : (p n : ℕ) (outer inner : Bindings) → ((q : List ℕ) → is_empty q ≡ false → has_key q outer ≡ true → has_key q inner ≡ true)
    → list_any (λ s. not (is_empty (name_local s)) && not (has_local (spaces n inner) (name_local s))) (spaces p outer) ≡ false
spaces_handed p n [] inner h = refl
spaces_handed p n (b ∷ outer) inner h =
    let here : (not (is_empty b.0) && not (has_local (spaces n inner) b.0)) ≡ false =
    first_handed b.0 (is_empty b.0) (has_local (spaces n inner) b.0)
    (λ some. any_spaces (λ t. bytes_eq (name_local t) b.0) n inner ∙ h b.0 some (ap (λ x. x || has_key b.0 outer) ((bytes_eq-Decides b.0 b.0).1 refl))) in
    ap (λ x. x || list_any (λ s. not (is_empty (name_local s)) && not (has_local (spaces n inner) (name_local s))) (spaces p outer)) here
    ∙ spaces_handed p n outer inner (λ q some k. h q some (key_later (bytes_eq b.0 q) (has_key q outer) k))
