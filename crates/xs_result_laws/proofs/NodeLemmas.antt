-- The names of nodes of a stylesheet, where its modules have names as those of documents.
use Rattle.std.proofs.Common.{◌≡◌, ◌<◌, ℕ, List, [], ◌∷◌, ◌++◌, Option, Some, None, Bool, true, false, refl, sym, ◌∙◌, ap, subst, append_assoc}
use Rattle.std.proofs.Common.{cond, filter, inl, inr, length, map}
use Rattle.std.specs.Prelude.{not, ◌||◌, codes, if◌then◌else◌}
use Rattle.std.specs.List.{AllByRecursion, AllZip, list_any}
use Rattle.std.specs.Option.{unwrap_or}
use Rattle.std.specs.Str.{bytes_eq}
use Rattle.std.proofs.lemmas.Bool.{and_parts}
use Rattle.std.proofs.lemmas.List.{get_or_past}
use Rattle.xs_tree.specs.declared.kinds.Kind.{Kind}
use Rattle.xs_tree.specs.declared.kinds.Kind.TheVariants.{Root, Element, Attribute, Space, Text, Comment, Pi}
use Rattle.xs_tree.specs.Kinds.{is_attribute_kind, is_element_kind, is_namespace_kind}
use Rattle.xs_tree.specs.Record.{Record, at, attributes, is_attribute, is_namespace, is_place, local_at, name_local, namespaces, places, root_record, uri_at}
use Rattle.xs_tree.proofs.WalkLemmas.{le_or_gt, passing-passes, passing-within}
use Rattle.xs_elements.specs.declared.reading.Reading.TheVariants.{Literal}
use Rattle.xs_elements.specs.declared.tags.Tag.{Tag}
use Rattle.xs_elements.specs.declared.tags.Tag.TheVariants.{NoElement, Other}
use Rattle.xs_elements.specs.Nodes.{ancestors_or_self, pair_at, scope_at}
use Rattle.xs_elements.specs.Reading.{declares_extension, is_in_extension, reading_by, reading_of}
use Rattle.xs_elements.specs.Tags.{is_top_level, tag_named, xslt_uri}
use Rattle.xs_elements.specs.WhiteSpace.{xml_uri}
use Rattle.xs_making.specs.Labels.{is_reserved, xmlns_uri}
use Rattle.xs_making.specs.Laws.{AreWell, BindsNoXmlns, IsNamed, IsSpace, IsWellAs}
use Rattle.xs_structure.specs.Excluded.{copied_spaces, excludes, is_left_out}
use Rattle.xs_compile.specs.Aliases.{prefix_uri}
use Rattle.xs_compile.specs.Labels.{own_label}
use Rattle.xs_xpath.specs.Names.{is_nil, uri_in}
use Rattle.xs_result_laws.specs.Named.{IsNamedLabel, IsNamedSpace}

-- ---- lists
pub all_passing : {A : Type 0} (P : A → Type 0) (test : A → Bool) (xs : List A) → AllByRecursion P xs
    → AllByRecursion (λ (x : A). P x × (test x ≡ true)) (filter test xs)
all_passing P test [] h = tt
all_passing {A} P test (x ∷ xs) h = by_test (test x) refl (all_passing P test xs h.1)
  where
    by_test : (t : Bool) → test x ≡ t → AllByRecursion (λ (y : A). P y × (test y ≡ true)) (filter test xs)
        → AllByRecursion (λ (y : A). P y × (test y ≡ true)) (cond t (x ∷ filter test xs) (filter test xs))
    by_test true is rest = ((h.0, is), rest)
    by_test false is rest = rest

pub all_mapped : {A B : Type 0} (P : B → Type 0) (Q : A → Type 0) (f : A → B) → ((x : A) → Q x → P (f x)) → (xs : List A) → AllByRecursion Q xs
    → AllByRecursion P (map f xs)
all_mapped P Q f step [] h = tt
all_mapped P Q f step (x ∷ xs) h = (step x h.0, all_mapped P Q f step xs h.1)

pub all_zipped : {A B : Type 0} (R : A → B → Type 0) (Q : A → Type 0) (P : B → Type 0) → ((x : A) (y : B) → Q x → R x y → P y)
    → (xs : List A) (ys : List B) → AllByRecursion Q xs → AllZip R xs ys → AllByRecursion P ys
all_zipped R Q P step [] [] h z = tt
all_zipped R Q P step [] (y ∷ ys) h z = absurd z
all_zipped R Q P step (x ∷ xs) [] h z = absurd z
all_zipped R Q P step (x ∷ xs) (y ∷ ys) h z = (step x y h.0 z.0, all_zipped R Q P step xs ys h.1 z.1)

pub all_any : {A : Type 0} (xs : List A) → AllByRecursion (λ (x : A). Unit {0}) xs
all_any [] = tt
all_any (x ∷ xs) = (tt, all_any xs)

-- each of the places that pass a test is one of the tree
abbrev pub Passes : (ℕ → Bool) → List Record → ℕ → Type 0
Passes test rs k = (k < length rs) × (test k ≡ true)

passing_from : (test : ℕ → Bool) (rs : List Record) (before after : List ℕ) → filter test (places rs) ≡ before ++ after
    → AllByRecursion (Passes test rs) after
passing_from test rs before [] e = tt
passing_from test rs before (k ∷ after) e = (
  (passing-within test rs before after k e, passing-passes test rs before after k e),
  passing_from test rs (before ++ k ∷ []) after (e ∙ sym (append_assoc before (k ∷ []) after)),
)

all_passes : (test : ℕ → Bool) (rs : List Record) → AllByRecursion (Passes test rs) (filter test (places rs))
all_passes test rs = passing_from test rs [] (filter test (places rs)) refl

-- ---- kinds of nodes
space_kind : (kind : Kind) → is_namespace_kind kind ≡ true → kind ≡ Space
space_kind Root h = absurd (cc)
space_kind Element h = absurd (cc)
space_kind Attribute h = absurd (cc)
space_kind Space h = refl
space_kind Text h = absurd (cc)
space_kind Comment h = absurd (cc)
space_kind Pi h = absurd (cc)

attribute_kind : (kind : Kind) → is_attribute_kind kind ≡ true → kind ≡ Attribute
attribute_kind Root h = absurd (cc)
attribute_kind Element h = absurd (cc)
attribute_kind Attribute h = refl
attribute_kind Space h = absurd (cc)
attribute_kind Text h = absurd (cc)
attribute_kind Comment h = absurd (cc)
attribute_kind Pi h = absurd (cc)

literal_kind : (kind : Kind) (row : Tag) (top extension : Bool) → reading_by (if is_element_kind kind then row else NoElement) top extension ≡ Literal
    → kind ≡ Element
literal_kind Root row top extension h = absurd (cc)
literal_kind Element row top extension h = refl
literal_kind Attribute row top extension h = absurd (cc)
literal_kind Space row top extension h = absurd (cc)
literal_kind Text row top extension h = absurd (cc)
literal_kind Comment row top extension h = absurd (cc)
literal_kind Pi row top extension h = absurd (cc)

-- a literal element is an element
literal_element : (rs : List Record) (n : ℕ) → reading_of rs n ≡ Literal → (at rs n).kind ≡ Element
literal_element rs n h =
    literal_kind (at rs n).kind (if bytes_eq (uri_at rs n) xslt_uri then tag_named (local_at rs n) else Other) (is_top_level rs n) (is_in_extension rs n) h

element_within : (rs : List Record) (n : ℕ) → (at rs n).kind ≡ Element → n < length rs
element_within rs n kind = elim (le_or_gt (length rs) n) [
  | inl le ↦ absurd (let past : at rs n ≡ root_record = get_or_past rs n root_record le in
      let no : Root ≡ Element = sym (ap (λ (r : Record). r.kind) past) ∙ kind in cc)
  | inr within ↦ within
]

-- ---- names
label_named : (rs : List Record) (n : ℕ) → IsNamed (at rs n) → IsNamedLabel (own_label rs n)
label_named rs n h = record { local = h.local; prefix = h.prefix; uri = h.uri }

pub literal_named : (rs : List Record) → AreWell rs → (n : ℕ) → reading_of rs n ≡ Literal → IsNamedLabel (own_label rs n)
literal_named rs well n h =
    let kind : (at rs n).kind ≡ Element = literal_element rs n h in
    label_named rs n (subst (λ K. IsWellAs K (at rs n)) kind (well n (element_within rs n kind)))

attribute_named : (rs : List Record) → AreWell rs → (n a : ℕ) → Passes (is_attribute rs n) rs a → IsNamedLabel (own_label rs a)
attribute_named rs well n a passes =
    let kind : (at rs a).kind ≡ Attribute =
    attribute_kind (at rs a).kind (and_parts (is_place n (at rs a).parent) (is_attribute_kind (at rs a).kind) passes.1).1 in
    label_named rs a (subst (λ K. IsWellAs K (at rs a)) kind (well a passes.0))

pub attributes_named : (rs : List Record) → AreWell rs → (n : ℕ) (test : ℕ → Bool)
    → AllByRecursion (λ a. IsNamedLabel (own_label rs a) × (test a ≡ true)) (filter test (attributes rs n))
attributes_named rs well n test =
    all_passing (λ a. IsNamedLabel (own_label rs a)) test (attributes rs n)
    (all_named (attributes rs n) (all_passes (is_attribute rs n) rs))
  where
    all_named : (found : List ℕ) → AllByRecursion (Passes (is_attribute rs n) rs) found → AllByRecursion (λ a. IsNamedLabel (own_label rs a)) found
    all_named [] h = tt
    all_named (a ∷ found) h = (attribute_named rs well n a h.0, all_named found h.1)

-- ---- namespace nodes
space_well : (rs : List Record) → AreWell rs → (n s : ℕ) → Passes (is_namespace rs n) rs s → IsSpace (at rs s)
space_well rs well n s passes =
    let kind : (at rs s).kind ≡ Space =
    space_kind (at rs s).kind (and_parts (is_place n (at rs s).parent) (is_namespace_kind (at rs s).kind) passes.1).1 in
    subst (λ K. IsWellAs K (at rs s)) kind (well s passes.0)

all_spaces : (rs : List Record) → AreWell rs → (n : ℕ) → AllByRecursion (λ s. IsSpace (at rs s)) (namespaces rs n)
all_spaces rs well n = all_well (namespaces rs n) (all_passes (is_namespace rs n) rs)
  where
    all_well : (ss : List ℕ) → AllByRecursion (Passes (is_namespace rs n) rs) ss → AllByRecursion (λ s. IsSpace (at rs s)) ss
    all_well [] h = tt
    all_well (s ∷ ss) h = (space_well rs well n s h.0, all_well ss h.1)

not_xml : (a b c d : Bool) → not (a || b || c || d) ≡ true → b ≡ false
not_xml true b c d h = absurd (cc)
not_xml false true c d h = absurd (cc)
not_xml false false c d h = refl

-- a prefix of another namespace than that of `xml` is not reserved
free_space : (r : Record) → IsSpace r → bytes_eq r.text xml_uri ≡ false → is_reserved (name_local r) ≡ false
free_space r h other = by_test (is_reserved (name_local r)) refl
  where
    by_test : (t : Bool) → is_reserved (name_local r) ≡ t → t ≡ false
    by_test true is = absurd (let no : true ≡ false = sym (h.reserved is) ∙ other in cc)
    by_test false is = refl

pub spaces_named : (rs : List Record) → AreWell rs → (n : ℕ) → AllByRecursion IsNamedSpace (copied_spaces rs n)
spaces_named rs well n =
    all_mapped IsNamedSpace (λ s. IsSpace (at rs s) × (not (is_left_out rs n (at rs s).text) ≡ true)) (pair_at rs) named
    (filter (λ s. not (is_left_out rs n (at rs s).text)) (namespaces rs n))
    (all_passing (λ s. IsSpace (at rs s)) (λ s. not (is_left_out rs n (at rs s).text)) (namespaces rs n) (all_spaces rs well n))
  where
    named : (s : ℕ) → IsSpace (at rs s) × (not (is_left_out rs n (at rs s).text) ≡ true) → IsNamedSpace (pair_at rs s)
    named s h =
        let uri : List ℕ = (at rs s).text in
        let other : bytes_eq uri xml_uri ≡ false =
        not_xml (bytes_eq uri xslt_uri) (bytes_eq uri xml_uri) (list_any (declares_extension rs uri) (ancestors_or_self rs n))
        (list_any (excludes rs uri) (ancestors_or_self rs n)) h.1 in
        record { prefix = h.0.prefix; free = free_space (at rs s) h.0 other; uri = h.0.uri }

-- ---- scopes
abbrev IsOther : List ℕ × List ℕ → Type 0
IsOther pair = bytes_eq pair.1 xmlns_uri ≡ false

scope_other : (rs : List Record) → AreWell rs → (n : ℕ) → AllByRecursion IsOther (scope_at rs n)
scope_other rs well n = all_mapped IsOther (λ s. IsSpace (at rs s)) (pair_at rs) (λ s h. h.uri) (namespaces rs n) (all_spaces rs well n)

abbrev IsOtherIf : Option (List ℕ) → Type 0
IsOtherIf None = Unit {0}
IsOtherIf (Some uri) = bytes_eq uri xmlns_uri ≡ false

uri_other : (pairs : List (List ℕ × List ℕ)) (prefix : List ℕ) → AllByRecursion IsOther pairs → IsOtherIf (uri_in pairs prefix)
uri_other [] prefix h = tt
uri_other (pair ∷ pairs) prefix h = by_test (bytes_eq pair.0 prefix) (uri_other pairs prefix h.1)
  where
    by_test : (t : Bool) → IsOtherIf (uri_in pairs prefix) → IsOtherIf (if t then Some pair.1 else uri_in pairs prefix)
    by_test true rest = h.0
    by_test false rest = rest

pub scope_binds : (rs : List Record) → AreWell rs → (n : ℕ) → BindsNoXmlns (scope_at rs n)
scope_binds rs well n prefix uri e = subst IsOtherIf e (uri_other (scope_at rs n) prefix (scope_other rs well n))

unwrapped_other : (o : Option (List ℕ)) → IsOtherIf o → bytes_eq (unwrap_or o []) xmlns_uri ≡ false
unwrapped_other None h = refl
unwrapped_other (Some uri) h = h

-- the namespace that a prefix of an alias means
pub alias_other : (rs : List Record) → AreWell rs → (n : ℕ) (prefix : List ℕ) → bytes_eq (prefix_uri (scope_at rs n) prefix) xmlns_uri ≡ false
alias_other rs well n prefix = by_test (bytes_eq prefix (codes "#default")) (is_nil prefix)
  where
    bound : (p : List ℕ) → bytes_eq (unwrap_or (uri_in (scope_at rs n) p) []) xmlns_uri ≡ false
    bound p = unwrapped_other (uri_in (scope_at rs n) p) (uri_other (scope_at rs n) p (scope_other rs well n))

    by_test : (t u : Bool)
        → bytes_eq (if t then unwrap_or (uri_in (scope_at rs n) []) [] else (if u then [] else unwrap_or (uri_in (scope_at rs n) prefix) [])) xmlns_uri
        ≡ false
    by_test true u = bound []
    by_test false true = refl
    by_test false false = bound prefix
