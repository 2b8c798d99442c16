-- Which elements hold bindings, and where these stand.
use Rattle.std.proofs.Common.{◌≡◌, ◌∙◌, ◌<◌, ℕ, ap, arith, refl, sym, List, Bool, true, false, Option, Some, None, filter, length, inl, inr}
use Rattle.std.proofs.lemmas.Bool.{and_from, and_parts, false≢true, lt-ltb, or_cases, true≢false}
use Rattle.std.specs.List.{list_all}
use Rattle.std.specs.Option.{option_map_or}
use Rattle.std.specs.Prelude.{◌&&◌, ◌||◌, codes, nat_lt, not}
use Rattle.xs_structure.proofs.AroundLemmas.{around-some}
use Rattle.xs_compile.proofs.AmongLemmas.{all-of, among-filter, among-map, place-among}
use Rattle.xs_compile.proofs.CleanLemmas.{shows-none}
use Rattle.xs_compile.proofs.LevelLemmas.{is_own}
use Rattle.xs_structure.proofs.TopLemmas.{is_place-true}
use Rattle.xs_compile.proofs.ReachLemmas.{place-is}
use Rattle.xs_compile.proofs.ShownLemmas.{child-stands, root-other}
use Rattle.xs_compile.proofs.ValidLemmas.{read-element}
use Rattle.xs_elements.specs.declared.contents.Content.{Content}
use Rattle.xs_elements.specs.declared.contents.Content.TheVariants.{Attributes, SortsAndParameters, Parameters, Branches, Body, ParametersAndBody, SortsAndBody, Unread as UnreadContent}
use Rattle.xs_elements.specs.declared.reading.Reading.{Reading}
use Rattle.xs_elements.specs.declared.reading.Reading.TheVariants.{Known, Extension}
use Rattle.xs_elements.specs.declared.tags.Tag.{Tag}
use Rattle.xs_elements.specs.declared.tags.Tag.TheVariants.{Variable, Param, When, Otherwise, Attribute, Sort, WithParam, NoElement}
use Rattle.xs_elements.specs.Contents.{is_attribute, is_in_body as is_body_element, is_with_param, may_stand, stands_in_choose, stands_in_loop}
use Rattle.xs_elements.specs.Nodes.{has as has_attribute}
use Rattle.xs_elements.specs.Reading.{content_at, content_by, has_version, has_version_by, is_in_extension, is_none, is_seen, is_shown, reading_by, reading_of, shows, shows_at}
use Rattle.xs_elements.specs.Tags.{is_document_element, is_param, is_sheet, is_sort, is_top_level, is_variable, tag_of}
use Rattle.xs_elements.specs.WhiteSpace.{is_kept_text}
use Rattle.xs_modules.specs.Numbering.{ModuleData}
use Rattle.xs_structure.specs.Bindings.{is_local}
use Rattle.xs_static.specs.Faults.{IsFirstFault, bad_root}
use Rattle.xs_structure.specs.Modules.{records_at}
use Rattle.xs_static.specs.Placing.{content_before}
use Rattle.xs_structure.specs.Parts.{is_content}
use Rattle.xs_tree.specs.declared.kinds.Kind.{Kind}
use Rattle.xs_tree.specs.declared.kinds.Kind.TheVariants.{Element as ElementKind}
use Rattle.xs_tree.specs.Kinds.{is_child_kind, is_element_kind}
use Rattle.xs_tree.specs.Record.{Record, at, children, is_child, is_place, places, uri_at}
use Rattle.xs_tree.specs.Shape.{IsTree}

-- ---- tags
pub element-child : (kind : Kind) → is_element_kind kind ≡ true → is_child_kind kind ≡ true
element-child ElementKind e = refl
element-child kind e = absurd (false≢true e)

variable-known : (tag : Tag) → is_variable tag ≡ true → (x y : Bool) → reading_by tag x y ≡ Known
variable-known Variable e x y = refl
variable-known Param e x y = refl
variable-known tag e x y = absurd (false≢true e)

pub param-variable : (tag : Tag) → is_param tag ≡ true → is_variable tag ≡ true
param-variable Param e = refl
param-variable tag e = absurd (false≢true e)

pub variable-element : (rs : List Record) (n : ℕ) → is_variable (tag_of rs n) ≡ true → is_element_kind (at rs n).kind ≡ true
variable-element rs n e =
    read-element rs n Known (variable-known (tag_of rs n) e (is_top_level rs n) (is_in_extension rs n)) (λ f. cc (f))

-- ---- contents
-- no binding may stand in such content
abbrev pub is_without : Content → Bool
is_without Attributes = true
is_without SortsAndParameters = true
is_without Parameters = true
is_without Branches = true
is_without _ = false

-- a body, except that of a template
abbrev pub is_plain : Content → Bool
is_plain Body = true
is_plain SortsAndBody = true
is_plain _ = false

attribute-tag : (tag : Tag) → is_attribute tag ≡ true → is_variable tag ≡ false
attribute-tag Attribute e = refl
attribute-tag tag e = absurd (false≢true e)

applied-tag : (tag : Tag) → (is_sort tag || is_with_param tag) ≡ true → is_variable tag ≡ false
applied-tag Sort e = refl
applied-tag WithParam e = refl
applied-tag tag e = absurd (false≢true e)

passed-tag : (tag : Tag) → is_with_param tag ≡ true → is_variable tag ≡ false
passed-tag WithParam e = refl
passed-tag tag e = absurd (false≢true e)

branch-tag : (tag : Tag) (before : List Tag) → stands_in_choose tag before ≡ true → is_variable tag ≡ false
branch-tag When before e = refl
branch-tag Otherwise before e = refl
branch-tag tag before e = absurd (false≢true e)

without-binding : (content : Content) (tag : Tag) (has_namespace : Bool) (before : List Tag) → is_without content ≡ true
    → may_stand content tag has_namespace before ≡ true → is_variable tag ≡ false
without-binding Attributes tag s before h e = attribute-tag tag e
without-binding SortsAndParameters tag s before h e = applied-tag tag e
without-binding Parameters tag s before h e = passed-tag tag e
without-binding Branches tag s before h e = branch-tag tag before e
without-binding content tag s before h e = absurd (false≢true h)

body-param : (tag : Tag) → is_body_element tag ≡ true → is_param tag ≡ false
body-param Param e = absurd (false≢true e)
body-param tag e = refl

loop-param : (tag : Tag) (before : List Tag) → stands_in_loop tag before ≡ true → is_param tag ≡ false
loop-param Param before e = absurd (false≢true e)
loop-param tag before e = refl

plain-param : (content : Content) (tag : Tag) (has_namespace : Bool) (before : List Tag) → is_plain content ≡ true
    → may_stand content tag has_namespace before ≡ true → is_param tag ≡ false
plain-param Body tag s before h e = body-param tag e
plain-param SortsAndBody tag s before h e = loop-param tag before e
plain-param content tag s before h e = absurd (false≢true h)

-- what has such content is an element
inner-element : (rs : List Record) (n : ℕ) (test : Content → Bool) → test UnreadContent ≡ false → test (content_at rs n) ≡ true
    → tag_of rs n ≡ NoElement → ⊥
inner-element rs n test none h e =
    false≢true (sym none ∙ sym (ap (λ (r : Tag). test (content_by (reading_by r (is_top_level rs n) (is_in_extension rs n)) r
    (has_attribute rs n (codes "select")))) e) ∙ h)

-- ---- the local bindings in an element
pub record IsOwn (rs : List Record) (n b : ℕ) : Type 0 where
  pub tag : is_variable (tag_of rs b) ≡ true
  pub inner : not (is_top_level rs b) ≡ true
  pub seen : is_seen rs b ≡ true
  pub parent : (at rs b).parent ≡ Some n

pub own-parts : (rs : List Record) (n b : ℕ) → is_own rs n b ≡ true → IsOwn rs n b
own-parts rs n b h =
    let both = and_parts (is_local rs b) (is_place n (at rs b).parent) h in
    let parts = and_parts (is_variable (tag_of rs b) && not (is_top_level rs b)) (is_seen rs b) both.0 in
    let front = and_parts (is_variable (tag_of rs b)) (not (is_top_level rs b)) parts.0 in
    record { tag = front.0; inner = front.1; seen = parts.1; parent = is_place-true n (at rs b).parent both.1 }

-- what stands before a node passes a test that all of it does
pub before-passes : (rs : List Record) (n k b : ℕ) (test : Tag → Bool) → b < k → b < length rs → (at rs b).parent ≡ Some n
    → is_element_kind (at rs b).kind ≡ true → list_all test (content_before rs n k) ≡ true → test (tag_of rs b) ≡ true
before-passes rs n k b test before inside parent element h =
    let child : is_child rs n b ≡ true =
    and_from (is_place n (at rs b).parent) (is_child_kind (at rs b).kind) (place-is n (at rs b).parent parent) (element-child (at rs b).kind element) in
    let content : is_content rs n b ≡ true = ap (λ (x : Bool). x || is_kept_text rs n b) element in
    all-of test (tag_of rs b) (content_before rs n k) h
    (among-map (tag_of rs) b (filter (λ j. nat_lt j k && is_content rs n j) (children rs n))
    (among-filter (λ j. nat_lt j k && is_content rs n j) b (children rs n)
    (among-filter (is_child rs n) b (places rs) (place-among b 0 (length rs) (omega arith) (omega (arith, inside))) child)
    (and_from (nat_lt b k) (is_content rs n b) (lt-ltb b k before) content)))

module _ (ms : List ModuleData) (accepted : IsFirstFault ms None) (m : ℕ) (known : m < length ms) (tree : IsTree (records_at ms m)) where
  abbrev rs : List Record
  rs = records_at ms m

  module _ (n : ℕ) (test : Content → Bool) (unread : test UnreadContent ≡ false) (content : test (content_at rs n) ≡ true) where
    -- an element in it stands where it may
    pub stands-there : (k : ℕ) → k < length rs → is_seen rs k ≡ true → is_element_kind (at rs k).kind ≡ true → (at rs k).parent ≡ Some n
        → may_stand (content_at rs n) (tag_of rs k) (not (is_none (uri_at rs k))) (content_before rs n k) ≡ true
    stands-there k inside seen element parent =
        child-stands ms accepted m n k tree (record { «module» = known; node = inside }) seen element parent (inner-element rs n test unread content)

  pub none-held : (n : ℕ) → is_without (content_at rs n) ≡ true → (b : ℕ) → b < length rs → is_own rs n b ≡ true → ⊥
  none-held n content b inside h =
      let own = own-parts rs n b h in
      let stands = stands-there n is_without refl content b inside own.seen (variable-element rs b own.tag) own.parent in
      true≢false (sym own.tag ∙ without-binding (content_at rs n) (tag_of rs b) (not (is_none (uri_at rs b))) (content_before rs n b) content stands)

  -- no parameter stands in a body but in that of a template
  pub no-param : (n : ℕ) → is_plain (content_at rs n) ≡ true → (k : ℕ) → k < length rs → is_seen rs k ≡ true → (at rs k).parent ≡ Some n
      → is_param (tag_of rs k) ≡ true → ⊥
  no-param n content k inside seen parent tag =
      let stands = stands-there n is_plain refl content k inside seen (variable-element rs k (param-variable (tag_of rs k) tag)) parent in
      true≢false (sym tag ∙ plain-param (content_at rs n) (tag_of rs k) (not (is_none (uri_at rs k))) (content_before rs n k) content stands)

  -- nothing but sort keys stands before a sort key of a loop, and nothing but parameters before a parameter of a template
  abbrev is_loop : Content → Bool
  is_loop SortsAndBody = true
  is_loop _ = false

  abbrev is_template_content : Content → Bool
  is_template_content ParametersAndBody = true
  is_template_content _ = false

  loop-sorts : (content : Content) (tag : Tag) (has_namespace : Bool) (before : List Tag) → is_loop content ≡ true → is_sort tag ≡ true
      → may_stand content tag has_namespace before ≡ true → list_all is_sort before ≡ true
  loop-sorts SortsAndBody Sort s before h e g = g
  loop-sorts SortsAndBody tag s before h e g = absurd (false≢true e)
  loop-sorts content tag s before h e g = absurd (false≢true h)

  template-params : (content : Content) (tag : Tag) (has_namespace : Bool) (before : List Tag) → is_template_content content ≡ true
      → is_param tag ≡ true → may_stand content tag has_namespace before ≡ true → list_all is_param before ≡ true
  template-params ParametersAndBody Param s before h e g = g
  template-params ParametersAndBody tag s before h e g = absurd (false≢true e)
  template-params content tag s before h e g = absurd (false≢true h)

  variable-sort : (tag : Tag) → is_variable tag ≡ true → is_sort tag ≡ true → ⊥
  variable-sort Sort e f = false≢true e
  variable-sort tag e f = false≢true f

  sort-element : (k : ℕ) → is_sort (tag_of rs k) ≡ true → is_element_kind (at rs k).kind ≡ true
  sort-element k e = read-element rs k Known (sort-known (tag_of rs k) e (is_top_level rs k) (is_in_extension rs k)) (λ f. cc (f))
    where
      sort-known : (tag : Tag) → is_sort tag ≡ true → (x y : Bool) → reading_by tag x y ≡ Known
      sort-known Sort e x y = refl
      sort-known tag e x y = absurd (false≢true e)

  pub none-before-sort : (n : ℕ) → content_at rs n ≡ SortsAndBody → (k : ℕ) → k < length rs → is_seen rs k ≡ true → (at rs k).parent ≡ Some n
      → is_sort (tag_of rs k) ≡ true → (b : ℕ) → b < k → is_own rs n b ≡ true → ⊥
  none-before-sort n content k inside seen parent tag b before h =
      let own = own-parts rs n b h in
      let loop : is_loop (content_at rs n) ≡ true = ap is_loop content in
      let stands = stands-there n is_loop refl loop k inside seen (sort-element k tag) parent in
      let sorts = loop-sorts (content_at rs n) (tag_of rs k) (not (is_none (uri_at rs k))) (content_before rs n k) loop tag stands in
      variable-sort (tag_of rs b) own.tag
      (before-passes rs n k b is_sort before (omega (arith, before, inside)) own.parent (variable-element rs b own.tag) sorts)

  pub params-before : (n : ℕ) → content_at rs n ≡ ParametersAndBody → (k : ℕ) → k < length rs → is_seen rs k ≡ true → (at rs k).parent ≡ Some n
      → is_param (tag_of rs k) ≡ true → (b : ℕ) → b < k → is_own rs n b ≡ true → is_param (tag_of rs b) ≡ true
  params-before n content k inside seen parent tag b before h =
      let own = own-parts rs n b h in
      let template : is_template_content (content_at rs n) ≡ true = ap is_template_content content in
      let stands = stands-there n is_template_content refl template k inside seen (variable-element rs k (param-variable (tag_of rs k) tag)) parent in
      let params = template-params (content_at rs n) (tag_of rs k) (not (is_none (uri_at rs k))) (content_before rs n k) template tag stands in
      before-passes rs n k b is_param before (omega (arith, before, inside)) own.parent (variable-element rs b own.tag) params

  -- an extension element shows no binding
  pub none-in-extension : (n : ℕ) → reading_of rs n ≡ Extension → (b : ℕ) → b < length rs → is_own rs n b ≡ true → ⊥
  none-in-extension n reading b inside h =
      let own = own-parts rs n b h in
      let shown : is_shown rs b ≡ true = (and_parts (is_shown rs b) (is_seen rs n)
      (sym (ap (list_all (is_shown rs)) (around-some rs tree b n inside own.parent)) ∙ own.seen)).0 in
      let at-parent : shows_at rs n b ≡ true = sym (ap (λ (o : Option ℕ). option_map_or (λ p. shows_at rs p b) o true) own.parent) ∙ shown in
      elim (or_cases (is_document_element rs b) (shows (reading_of rs n) (tag_of rs b)) at-parent) [
        | inl document ↦ (let root : n ≡ 0 = some-same n 0 (sym own.parent ∙ is_place-true 0 (at rs b).parent document) in
            extension-root (tag_of rs n) (is_top_level rs n) (is_in_extension rs n) reading
            (ap (λ (x : ℕ). tag_of rs x) root ∙ root-other rs tree))
        | inr shown ↦ no-fallback (tag_of rs b) own.tag (sym (ap (λ (r : Reading). shows r (tag_of rs b)) reading) ∙ shown)
      ]
    where
      some-same : (x y : ℕ) → Some x ≡ Some y → x ≡ y
      some-same x y e = cc (e)

      extension-root : (tag : Tag) (x y : Bool) → reading_by tag x y ≡ Extension → tag ≡ NoElement → ⊥
      extension-root tag x y e f = cc (sym (ap (λ (r : Tag). reading_by r x y) f) ∙ e)

      no-fallback : (tag : Tag) → is_variable tag ≡ true → shows Extension tag ≡ true → ⊥
      no-fallback Variable e f = false≢true f
      no-fallback Param e f = false≢true f
      no-fallback tag e f = false≢true e

  -- ---- the root and the top level have none
  pub none-in-root : (b : ℕ) → b < length rs → is_own rs 0 b ≡ true → ⊥
  none-in-root b inside h =
      let own = own-parts rs 0 b h in
      let element = variable-element rs b own.tag in
      let clean = shows-none ms accepted bad_root (m, b) (record { «module» = known; node = inside }) element (λ g. g) own.seen in
      let document : is_document_element rs b ≡ true = place-is 0 (at rs b).parent own.parent in
      false≢true (sym clean ∙ and_from (is_document_element rs b) (not (has_version rs b)) document (no-version (tag_of rs b) own.tag))
    where
      no-version : (tag : Tag) → is_variable tag ≡ true → not (has_version_by tag rs b) ≡ true
      no-version Variable e = refl
      no-version Param e = refl
      no-version tag e = absurd (false≢true e)

  pub none-in-sheet : (n : ℕ) → is_sheet rs n ≡ true → (b : ℕ) → is_own rs n b ≡ true → ⊥
  none-in-sheet n sheet b h =
      let own = own-parts rs n b h in
      let top : is_top_level rs b ≡ true = ap (λ (o : Option ℕ). option_map_or (is_sheet rs) o false) own.parent ∙ sheet in
      false≢true (sym (ap not top) ∙ own.inner)
