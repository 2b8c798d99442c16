-- The values of an element's attributes stand where the element does.
use Rattle.std.proofs.Common.{◌≡◌, ◌∙◌, ◌<◌, ℕ, ap, refl, sym, subst, List, [], ◌∷◌, Bool, true, false, Option, Some, None, All, length}
use Rattle.std.proofs.lemmas.Bool.{and_from, false≢true}
use Rattle.std.proofs.lemmas.List.Elements.{All-head, All-tail}
use Rattle.std.specs.List.{AllZip, list_all, list_any}
use Rattle.std.specs.Option.{option_map_or, unwrap_or}
use Rattle.std.specs.Prelude.{◌&&◌, codes, is_some, not, option_map, if◌then◌else◌}
use Rattle.xs_compile.proofs.AmongLemmas.{all-among, among-kept, place-below}
use Rattle.xs_compile.proofs.BoundLemmas.{expr-stands, template-stands}
use Rattle.xs_compile.proofs.CleanLemmas.{none-passing}
use Rattle.xs_compile.proofs.DotLemmas.{dot-known}
use Rattle.xs_compile.proofs.FitLemmas.{At}
use Rattle.xs_compile.proofs.FreeLemmas.{number_pattern_free}
use Rattle.xs_compile.proofs.ValidLemmas.{clean-all, clean-known, clean-literal, needed, read-element, value-of}
use Rattle.xs_compile.specs.Bodies.{IsExprIf, IsExprOf, IsMadeName, IsNumber, IsPutAttribute, IsSort, IsTemplateIf, IsTemplateOf, Source, put_attributes}
use Rattle.xs_compile.specs.Counted.{globals}
use Rattle.xs_compile.specs.Parsed.{Both, IsExpr, IsValueTemplate}
use Rattle.xs_structure.specs.Parts.{pairs_at, reading_at, tag_at, said_at, value_at}
use Rattle.xs_compile.specs.steps.Tags.{needs}
use Rattle.xs_elements.specs.declared.forms.Form.{Form}
use Rattle.xs_elements.specs.declared.forms.Form.TheVariants.{Expression, ValueTemplate}
use Rattle.xs_elements.specs.declared.reading.Reading.{Reading}
use Rattle.xs_elements.specs.declared.reading.Reading.TheVariants.{Known, Literal}
use Rattle.xs_elements.specs.declared.tags.Tag.{Tag}
use Rattle.xs_elements.specs.declared.tags.Tag.TheVariants.{Number, Sort}
use Rattle.xs_elements.specs.Nodes.{attribute_of, has}
use Rattle.xs_elements.specs.Reading.{allowed_form, form_by, form_of, is_xslt}
use Rattle.xs_sheet.specs.declared.body.MadeName.{MadeName}
use Rattle.xs_sheet.specs.declared.body.NumberDecl.{NumberDecl}
use Rattle.xs_sheet.specs.declared.body.SortDecl.{SortDecl}
use Rattle.xs_sheet.specs.declared.scoped.ScopedExpr.{ScopedExpr}
use Rattle.xs_sheet.specs.declared.scoped.ValueTemplate.{ValueTemplate as Template}
use Rattle.xs_sheet.specs.Standing.{Counts, expr_stands, expr_stands_if, name_stands, number_stands, pattern_is_free_if, sort_stands, template_stands, template_stands_if}
use Rattle.xs_static.specs.Names.{is_known}
use Rattle.xs_static.specs.Expressions.{expressions_of, has_unknown}
use Rattle.xs_static.specs.Faults.{IsFirstFault, of_form, unknown_variable}
use Rattle.xs_structure.specs.Modules.{Place, records_at}
use Rattle.xs_trace.specs.Label.{Label}
use Rattle.xs_tree.specs.Record.{Record, at, attributes, is_attribute, local_at, places, uri_at}
use Rattle.xs_tree.specs.Shape.{IsTree}

-- R gives a test of each item that represents a place
pub zip-all : {X Y : Type 0} (R : X → Y → Type 0) (P : X → Type 0) (test : Y → Bool) → ((x : X) (y : Y) → P x → R x y → test y ≡ true)
    → (xs : List X) (ys : List Y) → All P xs → AllZip R xs ys → list_all test ys ≡ true
zip-all R P test f [] [] a z = refl
zip-all R P test f [] (y ∷ ys) a z = absurd z
zip-all R P test f (x ∷ xs) [] a z = absurd z
zip-all R P test f (x ∷ xs) (y ∷ ys) a z =
    and_from (test y) (list_all test ys) (f x y (All-head P x xs a) z.0) (zip-all R P test f xs ys (All-tail P x xs a) z.1)

module _ (s : Source) (trees : (m : ℕ) → m < length s.modules → IsTree (records_at s.modules m)) (accepted : IsFirstFault s.modules None)
    (counts : Counts) (some_globals : counts.globals ≡ length (globals s.modules)) (p : Place) (locals : ℕ) (h : At s.modules locals p) where
  abbrev rs : List Record
  rs = records_at s.modules p.0

  -- it holds no unknown variable
  abbrev has_unknown_in : Form → List ℕ → Bool
  has_unknown_in form value = list_any (has_unknown (is_known s.modules form p)) (expressions_of form (pairs_at s.modules p) value)

  value-known : reading_at s.modules p ≡ Known → (local value : List ℕ) (form : Form) → value_at s.modules p local ≡ Some value
      → allowed_form (tag_at s.modules p) local ≡ Some form → has_unknown_in form value ≡ false
  value-known known local value form said formed =
      let clean = clean-known s.modules accepted p h.within h.seen known in
      value-of s.modules accepted p h.within h.seen local value has_unknown_in form known
      (clean-all s.modules accepted p h.within clean has_unknown_in (clean.shown unknown_variable (λ g. g))) said formed

  expr-at : reading_at s.modules p ≡ Known → (local value : List ℕ) → value_at s.modules p local ≡ Some value
      → allowed_form (tag_at s.modules p) local ≡ Some Expression → (e : ScopedExpr) → IsExpr s.modules p value e → expr_stands counts locals e ≡ true
  expr-at known local value said formed e is =
      expr-stands s.modules counts some_globals p (trees p.0 h.within.«module») h.within.node locals h.enough value e is
      (value-known known local value Expression said formed)

  template-at : reading_at s.modules p ≡ Known → (local value : List ℕ) → value_at s.modules p local ≡ Some value
      → allowed_form (tag_at s.modules p) local ≡ Some ValueTemplate → (v : Template) → IsValueTemplate s.modules p value v
      → template_stands counts locals v ≡ true
  template-at known local value said formed v is =
      template-stands s.modules counts some_globals p (trees p.0 h.within.«module») h.within.node locals h.enough value v is
      (value-known known local value ValueTemplate said formed)

  said-is : (local value : List ℕ) → value_at s.modules p local ≡ Some value → said_at s.modules p local ≡ value
  said-is local value e = ap (λ (o : Option (List ℕ)). unwrap_or o []) e

  -- ---- of one that has to be there
  pub expr-of : reading_at s.modules p ≡ Known → (local : List ℕ) → needs (tag_at s.modules p) local ≡ true
      → allowed_form (tag_at s.modules p) local ≡ Some Expression → (e : ScopedExpr) → IsExprOf s p local e → expr_stands counts locals e ≡ true
  expr-of known local required formed e is =
      let v = needed s.modules accepted p h.within h.seen local known required in
      expr-at known local v.0 v.1 formed e (subst (λ x. IsExpr s.modules p x e) (said-is local v.0 v.1) is)

  pub template-of : reading_at s.modules p ≡ Known → (local : List ℕ) → needs (tag_at s.modules p) local ≡ true
      → allowed_form (tag_at s.modules p) local ≡ Some ValueTemplate → (v : Template) → IsTemplateOf s p local v → template_stands counts locals v ≡ true
  template-of known local required formed v is =
      let w = needed s.modules accepted p h.within h.seen local known required in
      template-at known local w.0 w.1 formed v (subst (λ x. IsValueTemplate s.modules p x v) (said-is local w.0 w.1) is)

  -- ---- of one that may be there
  pub expr-if : reading_at s.modules p ≡ Known → (local : List ℕ) → allowed_form (tag_at s.modules p) local ≡ Some Expression
      → (e : Option ScopedExpr) → IsExprIf s p local e → expr_stands_if counts locals e ≡ true
  expr-if known local formed e is = by (value_at s.modules p local) e refl is
    where
      by : (o : Option (List ℕ)) (e : Option ScopedExpr) → value_at s.modules p local ≡ o → Both (IsExpr s.modules p) o e
          → expr_stands_if counts locals e ≡ true
      by None None said is = refl
      by None (Some e) said is = absurd is
      by (Some value) None said is = absurd is
      by (Some value) (Some e) said is = expr-at known local value said formed e is

  pub template-if : reading_at s.modules p ≡ Known → (local : List ℕ) → allowed_form (tag_at s.modules p) local ≡ Some ValueTemplate
      → (v : Option Template) → IsTemplateIf s p local v → template_stands_if counts locals v ≡ true
  template-if known local formed v is = by (value_at s.modules p local) v refl is
    where
      by : (o : Option (List ℕ)) (v : Option Template) → value_at s.modules p local ≡ o → Both (IsValueTemplate s.modules p) o v
          → template_stands_if counts locals v ≡ true
      by None None said is = refl
      by None (Some v) said is = absurd is
      by (Some value) None said is = absurd is
      by (Some value) (Some v) said is = template-at known local value said formed v is

  -- the expression of a binding that has one
  pub selected : reading_at s.modules p ≡ Known → has rs p.1 (codes "select") ≡ true
      → allowed_form (tag_at s.modules p) (codes "select") ≡ Some Expression → (e : ScopedExpr) → IsExprOf s p (codes "select") e
      → expr_stands counts locals e ≡ true
  selected known there formed e is = by (attribute_of rs p.1 [] (codes "select")) refl there
    where
      by : (o : Option ℕ) → attribute_of rs p.1 [] (codes "select") ≡ o → is_some o ≡ true → expr_stands counts locals e ≡ true
      by None said g = absurd (false≢true g)
      by (Some a) said g =
          let value = ap (λ (o : Option ℕ). option_map (λ k. (at rs k).text) o) said in
          expr-at known (codes "select") (at rs a).text value formed e
          (subst (λ x. IsExpr s.modules p x e) (said-is (codes "select") (at rs a).text value) is)

  -- ---- parts of instructions
  pub name-stands : reading_at s.modules p ≡ Known → needs (tag_at s.modules p) (codes "name") ≡ true
      → allowed_form (tag_at s.modules p) (codes "name") ≡ Some ValueTemplate → allowed_form (tag_at s.modules p) (codes "namespace") ≡ Some ValueTemplate
      → (n : MadeName) → IsMadeName s p n → name_stands counts locals n ≡ true
  name-stands known required formed other n is =
      and_from (template_stands counts locals n.name) (template_stands_if counts locals n.namespace)
      (template-of known (codes "name") required formed n.name is.name) (template-if known (codes "namespace") other n.namespace is.namespace)

  pub sort-stands : tag_at s.modules p ≡ Sort → reading_at s.modules p ≡ Known → (d : SortDecl) → IsSort s p d → sort_stands counts locals d ≡ true
  sort-stands tag known d is =
      let data_type = template-if known (codes "data-type") (ap (λ (r : Tag). allowed_form r (codes "data-type")) tag) d.data_type is.data_type in
      let order = template-if known (codes "order") (ap (λ (r : Tag). allowed_form r (codes "order")) tag) d.order is.order in
      and_from (expr_stands counts locals d.select && template_stands_if counts locals d.data_type) (template_stands_if counts locals d.order)
      (and_from (expr_stands counts locals d.select) (template_stands_if counts locals d.data_type)
      (by (value_at s.modules p (codes "select")) refl is.select) data_type)
      order
    where
      by : (o : Option (List ℕ)) → value_at s.modules p (codes "select") ≡ o → IsExpr s.modules p (unwrap_or o (codes ".")) d.select
          → expr_stands counts locals d.select ≡ true
      by (Some value) said e =
          expr-at known (codes "select") value said (ap (λ (r : Tag). allowed_form r (codes "select")) tag) d.select e
      by None said e =
          expr-stands s.modules counts some_globals p (trees p.0 h.within.«module») h.within.node locals h.enough (codes ".") d.select e
          (dot-known (is_known s.modules Expression p) (pairs_at s.modules p))

  pub number-stands : tag_at s.modules p ≡ Number → reading_at s.modules p ≡ Known → (d : NumberDecl) → IsNumber s p d
      → number_stands counts locals d ≡ true
  number-stands tag known d is =
      let clean = clean-known s.modules accepted p h.within h.seen known in
      let element = read-element rs p.1 Known known (λ f. cc (f)) in
      let pattern = number_pattern_free s.modules accepted p h.within h.seen element clean.read known in
      let formed : (local : List ℕ) → allowed_form (tag_at s.modules p) local ≡ allowed_form Number local = λ local. ap (λ (r : Tag). allowed_form r local)
      tag in
      let count = pattern_is_free_if d.count in
      let start = pattern_is_free_if d.«from» in
      let value = expr_stands_if counts locals d.value in
      let format = template_stands_if counts locals d.format in
      let separator = template_stands_if counts locals d.grouping_separator in
      let size = template_stands_if counts locals d.grouping_size in
      and_from ((((count && start) && value) && format) && separator) size
      (and_from (((count && start) && value) && format) separator
      (and_from ((count && start) && value) format
      (and_from (count && start) value
      (and_from count start (pattern (codes "count") (formed (codes "count")) d.count is.count)
      (pattern (codes "from") (formed (codes "from")) d.«from» is.«from»))
      (expr-if known (codes "value") (formed (codes "value")) d.value is.value))
      (template-if known (codes "format") (formed (codes "format")) d.format is.format))
      (template-if known (codes "grouping-separator") (formed (codes "grouping-separator")) d.grouping_separator is.grouping_separator))
      (template-if known (codes "grouping-size") (formed (codes "grouping-size")) d.grouping_size is.grouping_size)

  -- ---- the attributes of a literal element
  record IsPut (a : ℕ) : Type 0 where
    inside : a < length rs
    owned : is_attribute rs p.1 a ≡ true
    other : is_xslt (uri_at rs a) ≡ false

  all-put : All IsPut (put_attributes s p)
  all-put =
      all-among IsPut (put_attributes s p) (λ a g.
      let kept = among-kept (λ k. not (is_xslt (uri_at rs k))) a (attributes rs p.1) g in
      let own = among-kept (is_attribute rs p.1) a (places rs) kept.0 in
      record { inside = place-below rs a own.0; owned = own.1; other = not-true (is_xslt (uri_at rs a)) kept.1 })
    where
      not-true : (b : Bool) → not b ≡ true → b ≡ false
      not-true true e = absurd (false≢true e)
      not-true false e = refl

  put-stands : reading_at s.modules p ≡ Literal → (a : ℕ) (put : Label × Template) → IsPut a → IsPutAttribute s p a put
      → template_stands counts locals put.1 ≡ true
  put-stands literal a put i is =
      let clean = clean-literal s.modules accepted p h.within h.seen literal in
      let formed : form_of rs p.1 a ≡ Some ValueTemplate
      = ap (λ (r : Reading). form_by r (tag_at s.modules p) (uri_at rs a) (local_at rs a)) literal
      ∙ ap (λ (b : Bool). if b then allowed_form (tag_at s.modules p) (local_at rs a) else Some ValueTemplate) i.other in
      let none = none-passing (of_form rs p.1 has_unknown_in) (is_attribute rs p.1) (length rs) a i.inside i.owned
      (clean-all s.modules accepted p h.within clean has_unknown_in (clean.shown unknown_variable (λ g. g))) in
      template-stands s.modules counts some_globals p (trees p.0 h.within.«module») h.within.node locals h.enough (at rs a).text put.1 is.1
      (sym (ap (λ (o : Option Form). option_map_or (λ form. has_unknown_in form (at rs a).text) o false) formed) ∙ none)

  pub puts-stand : reading_at s.modules p ≡ Literal → (puts : List (Label × Template)) → AllZip (IsPutAttribute s p) (put_attributes s p) puts
      → list_all (λ (put : Label × Template). template_stands counts locals put.1) puts ≡ true
  puts-stand literal puts z =
      zip-all (IsPutAttribute s p) IsPut (λ (put : Label × Template). template_stands counts locals put.1) (put-stands literal) (put_attributes s p) puts
      all-put z
