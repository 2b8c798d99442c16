-- The children of an element that is looked at.
use Rattle.std.proofs.Common.{◌≡◌, ℕ, ap, refl, sym, subst, All, Bool, true, false, List}
use Rattle.std.proofs.lemmas.Bool.{and_parts, or_parts, or_right, false≢true, true≢false}
use Rattle.std.proofs.lemmas.List.Elements.{All-filter, All-map, filter_passes}
use Rattle.std.specs.Prelude.{◌||◌, not, codes, if◌then◌else◌}
use Rattle.std.specs.Str.{bytes_eq}
use Rattle.xs_compile.proofs.ShownLemmas.{IsChildOf, all-children, child-behind, child-stands, inner-child}
use Rattle.xs_structure.proofs.TopLemmas.{seen-child}
use Rattle.xs_compile.proofs.StateLemmas.{tree-at}
use Rattle.xs_compile.specs.declared.compiler.Compiler.{Compiler}
use Rattle.xs_compile.specs.declared.parts.Part.{Part}
use Rattle.xs_compile.specs.declared.parts.Part.TheVariants.{Attribute as AttributePart, Fallback as FallbackPart, Otherwise as OtherwisePart, Param as ParamPart, Sort as SortPart, When as WhenPart, WithParam as WithParamPart}
use Rattle.xs_structure.specs.Parts.{body_at, children_at, children_with, is_in_body, reading_at, tag_at, is_content}
use Rattle.xs_compile.specs.steps.Tags.{holds_body, is_body_tag, is_text_node, part_tag, part_test}
use Rattle.xs_compile.specs.steps.State.{IsInBody, IsPartOf, IsReady, modules_of}
use Rattle.xs_elements.specs.declared.contents.Content.{Content}
use Rattle.xs_elements.specs.declared.contents.Content.TheVariants.{Nothing, TopLevel, Attributes, SortsAndParameters, Parameters, Branches, TextAlone, Body, ParametersAndBody, SortsAndBody, Unread as UnreadContent}
use Rattle.xs_elements.specs.declared.reading.Reading.{Reading}
use Rattle.xs_elements.specs.declared.reading.Reading.TheVariants.{Known, Literal, Extension, Unread}
use Rattle.xs_elements.specs.declared.tags.Tag.{Tag}
use Rattle.xs_elements.specs.declared.tags.Tag.TheVariants.{Stylesheet, Param, When, Otherwise, Attribute, Fallback, Sort, WithParam, Other, NoElement}
use Rattle.xs_elements.specs.Contents.{is_in_body as is_body_element, may_stand, stands_in_loop, stands_in_template}
use Rattle.xs_elements.specs.Nodes.{has as has_attribute}
use Rattle.xs_elements.specs.Reading.{content_at, content_by, is_in_extension, is_none, reading_by, reading_of, shows}
use Rattle.xs_elements.specs.Tags.{is_param, is_sort, is_stylesheet, is_top_level, tag_named, tag_of, xslt_uri}
use Rattle.xs_modules.specs.Numbering.{ModuleData}
use Rattle.xs_structure.specs.Modules.{Place, records_at}
use Rattle.xs_static.specs.Placing.{content_before}
use Rattle.xs_tree.specs.Kinds.{is_element_kind}
use Rattle.xs_tree.specs.Record.{Record, at, children, local_at, uri_at}

-- a child that its parent shows can be compiled
pub child-ready : (c : Compiler) (m n k : ℕ) → IsReady c (m, n) → IsChildOf (records_at (modules_of c) m) n k
    → shows (reading_at (modules_of c) (m, n)) (tag_at (modules_of c) (m, k)) ≡ true → IsReady c (m, k)
child-ready c m n k ready child shown =
    let rs = records_at (modules_of c) m in
    let tree = tree-at (modules_of c) c.locals.items ready.state.locals m ready.within.«module» in
    record {
      state = ready.state;
      within = record { «module» = ready.within.«module»; node = child.inside };
      seen = seen-child rs tree n k child.inside child.parent shown ready.seen;
    }

-- ---- parts of an element
part-is : (part : Part) (tag : Tag) → part_test part tag ≡ true → tag ≡ part_tag part
part-is AttributePart Attribute e = refl
part-is AttributePart _ e = absurd (false≢true e)
part-is FallbackPart Fallback e = refl
part-is FallbackPart _ e = absurd (false≢true e)
part-is OtherwisePart Otherwise e = refl
part-is OtherwisePart _ e = absurd (false≢true e)
part-is ParamPart Param e = refl
part-is ParamPart _ e = absurd (false≢true e)
part-is SortPart Sort e = refl
part-is SortPart _ e = absurd (false≢true e)
part-is WhenPart When e = refl
part-is WhenPart _ e = absurd (false≢true e)
part-is WithParamPart WithParam e = refl
part-is WithParamPart _ e = absurd (false≢true e)

-- a place is a child of another one
record IsPlacedIn (ms : List ModuleData) (inside q : Place) : Type 0 where
  node : ℕ
  place : q ≡ (inside.0, node)
  child : IsChildOf (records_at ms inside.0) inside.1 node

all-placed : (ms : List ModuleData) (inside : Place) → All (IsPlacedIn ms inside) (children_at ms inside)
all-placed ms inside =
    All-map (IsPlacedIn ms inside) (λ k. (inside.0, k)) (children (records_at ms inside.0) inside.1)
    (λ i d h. record { node = _; place = refl; child = all-children (records_at ms inside.0) inside.1 i d h })

part-of : (c : Compiler) (inside : Place) (part : Part) → IsReady c inside
    → ((tag : Tag) → part_test part tag ≡ true → shows (reading_at (modules_of c) inside) tag ≡ true)
    → (q : Place) → IsPlacedIn (modules_of c) inside q → part_test part (tag_at (modules_of c) q) ≡ true → IsPartOf c inside part q
part-of c inside part ready shown q placed passes =
    let ms = modules_of c in
    let tag = subst (λ (x : Place). part_test part (tag_at ms x) ≡ true) placed.place passes in
    let tree = tree-at ms c.locals.items ready.state.locals inside.0 ready.within.«module» in
    subst (IsPartOf c inside part) (sym placed.place) (record {
      ready = child-ready c inside.0 inside.1 placed.node ready placed.child (shown (tag_at ms (inside.0, placed.node)) tag);
      tag = part-is part (tag_at ms (inside.0, placed.node)) tag;
      «module» = refl;
      parent = placed.child.parent;
      behind = child-behind (records_at ms inside.0) tree inside.1 placed.node placed.child;
    })

pub all-parts : (c : Compiler) (inside : Place) (part : Part) → IsReady c inside
    → ((tag : Tag) → part_test part tag ≡ true → shows (reading_at (modules_of c) inside) tag ≡ true)
    → All (IsPartOf c inside part) (children_with (part_test part) (modules_of c) inside)
all-parts c inside part ready shown = λ i d h.
    part-of c inside part ready shown _
    (All-filter (λ q. part_test part (tag_at (modules_of c) q)) (IsPlacedIn (modules_of c) inside) (children_at (modules_of c) inside)
    (all-placed (modules_of c) inside) i d h)
    (filter_passes (λ q. part_test part (tag_at (modules_of c) q)) (children_at (modules_of c) inside) i d h)

-- ---- the body of an element
-- what has a body shows all its children, and is no stylesheet's element
record HasBody (reading : Reading) (tag : Tag) : Type 0 where
  shows_all : (child : Tag) → shows reading child ≡ true
  other : is_stylesheet tag ≡ false
  element : tag ≡ NoElement → ⊥

body-by : (reading : Reading) (tag : Tag) (a b has_select : Bool) → reading ≡ reading_by tag a b → holds_body (content_by reading tag has_select) ≡ true
    → HasBody reading tag
body-by Unread tag a b s e h = absurd (false≢true h)
body-by Extension tag a b s e h = absurd (false≢true h)
body-by Literal Other a b s e h = record { shows_all = λ child. refl; other = refl; element = λ f. cc (f) }
body-by Literal Stylesheet a b s e h = absurd (false≢true h)
body-by Literal NoElement a b s e h = absurd (false≢true h)
body-by Literal tag a b s e h = record { shows_all = λ child. refl; other = refl; element = λ f. cc (f) }
body-by Known Stylesheet a b s e h = absurd (false≢true h)
body-by Known NoElement a b s e h = absurd (false≢true h)
body-by Known tag a b s e h = record { shows_all = λ child. refl; other = refl; element = λ f. cc (f) }

template-tag : (tag : Tag) (before : List Tag) → stands_in_template tag before ≡ true → is_param tag ≡ false → is_body_element tag ≡ true
template-tag Param before e f = absurd (true≢false f)
template-tag tag before e f = e

loop-tag : (tag : Tag) (before : List Tag) → stands_in_loop tag before ≡ true → is_sort tag ≡ false → is_body_element tag ≡ true
loop-tag Sort before e f = absurd (true≢false f)
loop-tag tag before e f = e

may-body : (content : Content) (tag : Tag) (has_namespace : Bool) (before : List Tag) → holds_body content ≡ true
    → may_stand content tag has_namespace before ≡ true → (is_param tag || is_sort tag) ≡ false → is_body_element tag ≡ true
may-body Body tag s before h e f = e
may-body ParametersAndBody tag s before h e f = template-tag tag before e (or_parts (is_param tag) (is_sort tag) f).0
may-body SortsAndBody tag s before h e f = loop-tag tag before e (or_parts (is_param tag) (is_sort tag) f).1
may-body Nothing tag s before h e f = absurd (false≢true h)
may-body TopLevel tag s before h e f = absurd (false≢true h)
may-body Attributes tag s before h e f = absurd (false≢true h)
may-body SortsAndParameters tag s before h e f = absurd (false≢true h)
may-body Parameters tag s before h e f = absurd (false≢true h)
may-body Branches tag s before h e f = absurd (false≢true h)
may-body TextAlone tag s before h e f = absurd (false≢true h)
may-body UnreadContent tag s before h e f = absurd (false≢true h)

not-true : (b : Bool) → not b ≡ true → b ≡ false
not-true true e = absurd (false≢true e)
not-true false e = refl

-- what is in a body is an instruction, a literal element or a text
body-tag : (c : Compiler) (m n k : ℕ) → IsReady c (m, n) → IsReady c (m, k) → IsChildOf (records_at (modules_of c) m) n k
    → holds_body (content_at (records_at (modules_of c) m) n) ≡ true → (tag_of (records_at (modules_of c) m) n ≡ NoElement → ⊥)
    → (is_param (tag_of (records_at (modules_of c) m) k) || is_sort (tag_of (records_at (modules_of c) m) k)) ≡ false
    → is_body_tag (tag_of (records_at (modules_of c) m) k) ≡ true
body-tag c m n k ready own child content outer other = by_kind (is_element_kind (at rs k).kind) refl
  where
    rs : List Record
    rs = records_at (modules_of c) m

    tag_by : Bool → Tag
    tag_by b = if b then (if bytes_eq (uri_at (records_at (modules_of c) m) k) xslt_uri then tag_named (local_at (records_at (modules_of c) m) k) else Other)
        else NoElement

    by_kind : (b : Bool) → is_element_kind (at (records_at (modules_of c) m) k).kind ≡ b → is_body_tag (tag_of (records_at (modules_of c) m) k) ≡ true
    by_kind false e = ap (λ (b : Bool). is_body_tag (tag_by b)) e
    by_kind true e =
        or_right (is_text_node (tag_of (records_at (modules_of c) m) k)) (is_body_element (tag_of (records_at (modules_of c) m) k))
        (may-body (content_at (records_at (modules_of c) m) n) (tag_of (records_at (modules_of c) m) k) (not (is_none (uri_at (records_at (modules_of c) m) k)))
        (content_before (records_at (modules_of c) m) n k) content
        (child-stands (modules_of c) ready.state.accepted m n k
        (tree-at (modules_of c) c.locals.items ready.state.locals m ready.within.«module») own.within own.seen e child.parent outer)
        other)

in-body-of : (c : Compiler) (inside : Place) → IsReady c inside → holds_body (content_at (records_at (modules_of c) inside.0) inside.1) ≡ true
    → (q : Place) → IsPlacedIn (modules_of c) inside q → is_in_body (modules_of c) inside q ≡ true → IsInBody c inside q
in-body-of c inside ready content q placed passes =
    let ms = modules_of c in
    let rs = records_at ms inside.0 in
    let k = placed.node in
    let has = body-by (reading_of rs inside.1) (tag_of rs inside.1) (is_top_level rs inside.1) (is_in_extension rs inside.1)
    (has_attribute rs inside.1 (codes "select")) refl
    content in
    let tree = tree-at ms c.locals.items ready.state.locals inside.0 ready.within.«module» in
    let own = child-ready c inside.0 inside.1 k ready placed.child (has.shows_all (tag_of rs k)) in
    let passes_here = subst (λ (x : Place). is_in_body ms inside x ≡ true) placed.place passes in
    let other = not-true (is_param (tag_of rs k) || is_sort (tag_of rs k))
    (and_parts (is_content rs inside.1 k) (not (is_param (tag_of rs k) || is_sort (tag_of rs k))) passes_here).1 in
    subst (IsInBody c inside) (sym placed.place) (record {
      instruction = record {
        ready = own;
        tag = body-tag c inside.0 inside.1 k ready own placed.child content has.element other;
        inner = inner-child rs inside.1 k placed.child.parent has.other;
      };
      «module» = refl;
      behind = child-behind rs tree inside.1 k placed.child;
    })

pub all-body : (c : Compiler) (inside : Place) → IsReady c inside → holds_body (content_at (records_at (modules_of c) inside.0) inside.1) ≡ true
    → All (IsInBody c inside) (body_at (modules_of c) inside)
all-body c inside ready content = λ i d h.
    in-body-of c inside ready content _
    (All-filter (is_in_body (modules_of c) inside) (IsPlacedIn (modules_of c) inside) (children_at (modules_of c) inside) (all-placed (modules_of c) inside)
    i d h)
    (filter_passes (is_in_body (modules_of c) inside) (children_at (modules_of c) inside) i d h)
