-- Compiled bodies refer to what is there.
use Rattle.std.proofs.Common.{◌≡◌, ◌∙◌, ◌<◌, ◌+◌, ℕ, ap, arith, refl, subst, All, List, [], ◌∷◌, Bool, true, false, Option, Some, None, cond, length}
use Rattle.std.proofs.lemmas.Bool.{and_from, false≢true, lt-ltb, ltb-true}
use Rattle.std.proofs.lemmas.List.Elements.{All-head, All-tail}
use Rattle.std.proofs.lemmas.Option.{none-some}
use Rattle.std.specs.List.{list_all, position, position_or_len}
use Rattle.std.specs.Option.{option_and_then}
use Rattle.std.specs.Prelude.{◌&&◌, codes, nat_lt}
use Rattle.xs_compile.proofs.FitLemmas.{Along, At, Opens, body-along}
use Rattle.xs_compile.proofs.KeyLemmas.{site-stands}
use Rattle.xs_compile.proofs.OpenLemmas.{one_if}
use Rattle.xs_compile.proofs.OpeningLemmas.{Part, binding-known, extension-other, extension-parts, known-tag, literal-other, loop-sorts, opens-binding, opens-literal, opens-tag, parts-without}
use Rattle.xs_compile.proofs.ValueLemmas.{expr-if, expr-of, name-stands, number-stands, puts-stand, selected, sort-stands, template-of, zip-all}
use Rattle.xs_compile.specs.Bodies.{AreBindings, AreBodies, AreFallbacks, AreInstrs, AreSorts, AreWhens, IsApplied, IsBody, IsChoice, IsContent, IsExprOf, IsKind, IsMadeName, IsPassed, IsSort, Source, first_body, is_otherwise, is_text_or_element}
use Rattle.xs_compile.specs.Counted.{counted, globals, named, template_number, templates}
use Rattle.xs_structure.specs.Parts.{body_at, children_with, name_at, tag_at}
use Rattle.xs_compile.specs.steps.Tags.{is_binding, needs}
use Rattle.xs_elements.specs.declared.forms.Form.TheVariants.{Expression, ValueTemplate}
use Rattle.xs_elements.specs.declared.reading.Reading.TheVariants.{Known}
use Rattle.xs_elements.specs.declared.tags.Tag.{Tag}
use Rattle.xs_elements.specs.declared.tags.Tag.TheVariants.{Variable as VariableTag, Param, ApplyTemplates as ApplyTemplatesTag, CallTemplate as CallTemplateTag, ForEach as ForEachTag, ValueOf as ValueOfTag, CopyOf as CopyOfTag, Copy as CopyTag, Number as NumberTag, Choose as ChooseTag, When as WhenTag, Otherwise as OtherwiseTag, If as IfTag, Text as TextTag, Element as ElementTag, Attribute as AttributeTag, Comment as CommentTag, ProcessingInstruction as PiTag, Message as MessageTag, Fallback as FallbackTag, Sort as SortTag, WithParam, NoElement}
use Rattle.xs_elements.specs.Contents.{is_with_param}
use Rattle.xs_elements.specs.Nodes.{Name}
use Rattle.xs_elements.specs.Reading.{allowed_form, is_in_extension, reading_by}
use Rattle.xs_elements.specs.Tags.{is_fallback, is_sort, is_template, is_top_level, is_variable, is_when}
use Rattle.xs_sheet.specs.declared.body.Applied.{Applied}
use Rattle.xs_sheet.specs.declared.body.Body.{Body, Body', Row_of-Instr, end_of-Instr, more_of-Instr}
use Rattle.xs_sheet.specs.declared.body.Choice.{Choice, Choice', Row_of-When, end_of-When, more_of-When}
use Rattle.xs_sheet.specs.declared.body.Content.{Content}
use Rattle.xs_sheet.specs.declared.body.Content.TheVariants.{Empty, Select, Body as Fragment}
use Rattle.xs_sheet.specs.declared.body.Fallbacks.{Fallbacks, Fallbacks', Row_of-Body, end_of-Body, more_of-Body}
use Rattle.xs_sheet.specs.declared.body.InstrKind.{InstrKind, Variable'}
use Rattle.xs_sheet.specs.declared.body.InstrKind.TheVariants.{ApplyTemplates, CallTemplate, ApplyImports, ForEach, ValueOf, CopyOf, Copy, Number, Choose, If, Text, Element, Attribute, Comment, Pi, Message, Literal as Literal', Extension as Extension'}
use Rattle.xs_sheet.specs.declared.body.MadeName.{MadeName}
use Rattle.xs_sheet.specs.declared.body.Passed.{Passed, Passed', Row_of-Binding, end_of-Binding, more_of-Binding}
use Rattle.xs_sheet.specs.declared.body.SortDecl.{SortDecl}
use Rattle.xs_sheet.specs.declared.body.When.{When'}
use Rattle.xs_sheet.specs.declared.scoped.ScopedExpr.{ScopedExpr}
use Rattle.xs_sheet.specs.Slots.{slots_taken}
use Rattle.xs_sheet.specs.Standing.{Counts, bindings_stand, bodies_stand, body_stands, choice_stands, content_stands, expr_stands, expr_stands_if, fallbacks_stand, instrs_stand, kind_stands, name_stands, nodes_stand, passed_stands, site_stands, sort_stands, template_stands, whens_stand}
use Rattle.xs_static.specs.Faults.{IsFirstFault}
use Rattle.xs_structure.specs.Modules.{Place, is_same_place, records_at}
use Rattle.xs_tree.specs.Shape.{IsTree}

-- ---- what is found in a list has its number below the length
position-below : {X : Type 0} (test : X → Bool) (xs : List X) (k : ℕ) → position test xs ≡ Some k → k < length xs
position-below test xs k e = by (nat_lt (position_or_len test xs) (length xs)) refl e
  where
    some-is : (a b : ℕ) → Some a ≡ Some b → a ≡ b
    some-is a b f = cc (f)

    by : (b : Bool) → nat_lt (position_or_len test xs) (length xs) ≡ b → cond b (Some (position_or_len test xs)) None ≡ Some k → k < length xs
    by true f g =
        let inside = ltb-true (position_or_len test xs) (length xs) f in
        let same = some-is (position_or_len test xs) k g in
        omega (arith, inside, same)
    by false f g = absurd (none-some k g)

-- ---- tags
text-slots : (tag : Tag) → is_text_or_element tag ≡ true → one_if (is_variable tag) ≡ 0
text-slots NoElement e = refl
text-slots TextTag e = refl
text-slots tag e = absurd (false≢true e)

binding-form : (tag : Tag) → is_binding tag ≡ true → allowed_form tag (codes "select") ≡ Some Expression
binding-form VariableTag e = refl
binding-form Param e = refl
binding-form WithParam e = refl
binding-form tag e = absurd (false≢true e)

with-param-binding : (tag : Tag) → is_with_param tag ≡ true → is_binding tag ≡ true
with-param-binding WithParam e = refl
with-param-binding tag e = absurd (false≢true e)

when-tag : (tag : Tag) → is_when tag ≡ true → tag ≡ WhenTag
when-tag WhenTag e = refl
when-tag tag e = absurd (false≢true e)

otherwise-tag : (tag : Tag) → is_otherwise tag ≡ true → tag ≡ OtherwiseTag
otherwise-tag OtherwiseTag e = refl
otherwise-tag tag e = absurd (false≢true e)

fallback-tag : (tag : Tag) → is_fallback tag ≡ true → tag ≡ FallbackTag
fallback-tag FallbackTag e = refl
fallback-tag tag e = absurd (false≢true e)

sort-tag : (tag : Tag) → is_sort tag ≡ true → tag ≡ SortTag
sort-tag SortTag e = refl
sort-tag tag e = absurd (false≢true e)

module _ (s : Source) (trees : (m : ℕ) → m < length s.modules → IsTree (records_at s.modules m)) (accepted : IsFirstFault s.modules None)
    (counts : Counts) (some_globals : counts.globals ≡ length (globals s.modules)) (some_templates : counts.templates ≡ length (templates s.modules))
    (some_modules : counts.modules ≡ length s.modules)
    (small : (m : ℕ) → m < length s.modules → length (records_at s.modules m) + length (records_at s.modules m) < counts.bound) where
  abbrev Here : ℕ → Place → Type 0
  Here locals p = At s.modules locals p

  -- ---- slots
  slots-kind : (p : Place) (kind : InstrKind) → IsKind s p kind → one_if (is_variable (tag_at s.modules p)) ≡ slots_taken kind
  slots-kind p (ApplyTemplates nodes passed) is = ap (λ (r : Tag). one_if (is_variable r)) is.0
  slots-kind p (CallTemplate template passed) is = ap (λ (r : Tag). one_if (is_variable r)) is.0
  slots-kind p ApplyImports is = ap (λ (r : Tag). one_if (is_variable r)) is
  slots-kind p (ForEach select sorts body) is = ap (λ (r : Tag). one_if (is_variable r)) is.0
  slots-kind p (ValueOf select) is = ap (λ (r : Tag). one_if (is_variable r)) is.0
  slots-kind p (CopyOf select) is = ap (λ (r : Tag). one_if (is_variable r)) is.0
  slots-kind p (Copy sets body) is = ap (λ (r : Tag). one_if (is_variable r)) is.0
  slots-kind p (Number decl) is = ap (λ (r : Tag). one_if (is_variable r)) is.0
  slots-kind p (Choose choice) is = ap (λ (r : Tag). one_if (is_variable r)) is.0
  slots-kind p (If condition body) is = ap (λ (r : Tag). one_if (is_variable r)) is.0
  slots-kind p (Text bytes) is = text-slots (tag_at s.modules p) is.0
  slots-kind p (Element name sets body) is = ap (λ (r : Tag). one_if (is_variable r)) is.0
  slots-kind p (Attribute name body) is = ap (λ (r : Tag). one_if (is_variable r)) is.0
  slots-kind p (Comment body) is = ap (λ (r : Tag). one_if (is_variable r)) is.0
  slots-kind p (Pi name body) is = ap (λ (r : Tag). one_if (is_variable r)) is.0
  slots-kind p (Message terminate body) is = ap (λ (r : Tag). one_if (is_variable r)) is.0
  slots-kind p (Variable' site name content) is = ap (λ (r : Tag). one_if (is_variable r)) is.0
  slots-kind p (Literal' start body) is =
      let rs = records_at s.modules p.0 in
      ap (λ (r : Tag). one_if (is_variable r)) (literal-other (tag_at s.modules p) (is_top_level rs p.1) (is_in_extension rs p.1) is.0)
  slots-kind p (Extension' fallbacks) is =
      let rs = records_at s.modules p.0 in
      ap (λ (r : Tag). one_if (is_variable r)) (extension-other (tag_at s.modules p) (is_top_level rs p.1) (is_in_extension rs p.1) is.0)

  -- ---- without a body
  template-below : (p : Place) (template : ℕ) → option_and_then (template_number s.modules) (name_at s.modules p) ≡ Some template
      → nat_lt template counts.templates ≡ true
  template-below p template e = by_name (name_at s.modules p) e
    where
      by_place : (o : Option Place) → option_and_then (λ q. position (is_same_place q) (templates s.modules)) o ≡ Some template
          → nat_lt template counts.templates ≡ true
      by_place None f = absurd (none-some template f)
      by_place (Some q) f =
          let found = position-below (is_same_place q) (templates s.modules) template f in
          lt-ltb template counts.templates (omega (arith, found, some_templates))

      by_name : (o : Option Name) → option_and_then (template_number s.modules) o ≡ Some template → nat_lt template counts.templates ≡ true
      by_name None f = absurd (none-some template f)
      by_name (Some name) f = by_place (counted s.modules (named is_template s.modules name)) f

  sorts-stand : (locals : ℕ) (p : Place) (sorts : List SortDecl) → All (Part s trees accepted locals is_sort) (children_with is_sort s.modules p) → AreSorts
      s p sorts
      → list_all (sort_stands counts locals) sorts ≡ true
  sorts-stand locals p sorts all z =
      zip-all (IsSort s) (Part s trees accepted locals is_sort) (sort_stands counts locals) (λ q d part is.
      let tag = sort-tag (tag_at s.modules q) part.tag in
      sort-stands s trees accepted counts some_globals q locals part.here tag (known-tag s q SortTag tag (λ x y. refl)) d is)
      (children_with is_sort s.modules p) sorts all z

  nodes-stand : (locals : ℕ) (p : Place) (a : Applied) → Here locals p → tag_at s.modules p ≡ ApplyTemplatesTag → IsApplied s p a
      → nodes_stand counts locals a ≡ true
  nodes-stand locals p a h tag is =
      and_from (expr_stands_if counts locals a.select) (list_all (sort_stands counts locals) a.sorts)
      (expr-if s trees accepted counts some_globals p locals h (known-tag s p ApplyTemplatesTag tag (λ x y. refl)) (codes "select")
      (ap (λ (r : Tag). allowed_form r (codes "select")) tag) a.select is.select)
      (sorts-stand locals p a.sorts (parts-without s trees accepted locals p ApplyTemplatesTag is_sort h tag (λ x y. refl) (λ x. refl)) is.sorts)

  -- the expression that an instruction has to have
  expr-here : (locals : ℕ) (p : Place) (tag : Tag) (local : List ℕ) → Here locals p → tag_at s.modules p ≡ tag
      → ((x y : Bool) → reading_by tag x y ≡ Known) → needs tag local ≡ true → allowed_form tag local ≡ Some Expression → (expr : ScopedExpr)
      → IsExprOf s p local expr → expr_stands counts locals expr ≡ true
  expr-here locals p tag local h e reads required formed expr is =
      expr-of s trees accepted counts some_globals p locals h (known-tag s p tag e reads) local (ap (λ (r : Tag). needs r local) e ∙ required)
      (ap (λ (r : Tag). allowed_form r local) e ∙ formed) expr is

  name-here : (locals : ℕ) (p : Place) (tag : Tag) → Here locals p → tag_at s.modules p ≡ tag → ((x y : Bool) → reading_by tag x y ≡ Known)
      → needs tag (codes "name") ≡ true → allowed_form tag (codes "name") ≡ Some ValueTemplate → allowed_form tag (codes "namespace") ≡ Some ValueTemplate
      → (n : MadeName) → IsMadeName s p n → name_stands counts locals n ≡ true
  name-here locals p tag h e reads required formed other n is =
      name-stands s trees accepted counts some_globals p locals h (known-tag s p tag e reads)
      (ap (λ (r : Tag). needs r (codes "name")) e ∙ required) (ap (λ (r : Tag). allowed_form r (codes "name")) e ∙ formed)
      (ap (λ (r : Tag). allowed_form r (codes "namespace")) e ∙ other) n is

  -- ---- bodies
  abbrev Fits : ℕ → List Place → Type 0
  Fits locals ps = Along (At s.modules) (λ n. n < counts.bound) (λ q. one_if (is_variable (tag_at s.modules q))) locals ps

  fits : (locals : ℕ) (p : Place) → Opens s.modules locals p → Fits locals (body_at s.modules p)
  fits locals p o = body-along s.modules counts.bound trees accepted locals p o (small p.0 o.within.«module»)

  fits-more : (locals : ℕ) (p : Place) (ps : List Place) (kind : InstrKind) → IsKind s p kind → Fits locals (p ∷ ps) → Fits (locals + slots_taken kind) ps
  fits-more locals p ps kind is f = subst (λ n. Fits (locals + n) ps) (slots-kind p kind is) f.1

  first-fits : (locals : ℕ) (p : Place) → Here locals p → (ps : List Place) → All (Part s trees accepted locals is_otherwise) ps → Fits locals (first_body s ps)
  first-fits locals p h [] all =
      let few = h.few in
      let node = h.within.node in
      let room = small p.0 h.within.«module» in
      omega (arith, few, node, room)
  first-fits locals p h (q ∷ qs) all =
      let own = All-head (Part s trees accepted locals is_otherwise) q qs all in
      fits locals q (opens-tag s trees accepted locals q OtherwiseTag own.here (otherwise-tag (tag_at s.modules q) own.tag) (λ x y. refl) (λ x. refl))

  mutual
    pub body-stands : (locals : ℕ) (ps : List Place) (b : Body) → Fits locals ps → IsBody s ps b → body_stands counts locals b ≡ true
    body-stands locals ps (Body' shape tag) f is = instrs-stand locals ps tag f is

    instrs-stand : {n : _} (locals : ℕ) (ps : List Place) (tag : Row_of-Instr n) → Fits locals ps → AreInstrs s ps tag
        → instrs_stand counts locals tag ≡ true
    instrs-stand locals [] end_of-Instr f is = lt-ltb locals counts.bound f
    instrs-stand locals (p ∷ ps) end_of-Instr f is = absurd is
    instrs-stand locals [] (more_of-Instr site kind rest) f is = absurd is
    instrs-stand locals (p ∷ ps) (more_of-Instr site kind rest) f is =
        and_from (site_stands counts site && kind_stands counts locals kind) (instrs_stand counts (locals + slots_taken kind) rest)
        (and_from (site_stands counts site) (kind_stands counts locals kind)
        (site-stands s.modules counts some_modules p f.0.within.«module» site is.0) (kind-stands locals p kind f.0 is.1))
        (instrs-stand (locals + slots_taken kind) ps rest (fits-more locals p ps kind is.1 f) is.2)

    pub kind-stands : (locals : ℕ) (p : Place) (kind : InstrKind) → Here locals p → IsKind s p kind → kind_stands counts locals kind ≡ true
    kind-stands locals p (ApplyTemplates nodes passed) h is =
        and_from (nodes_stand counts locals nodes) (passed_stands counts locals passed) (nodes-stand locals p nodes h is.0 is.1)
        (passed-stand locals (children_with is_with_param s.modules p) passed
        (parts-without s trees accepted locals p ApplyTemplatesTag is_with_param h is.0 (λ x y. refl) (λ x. refl)) is.2)
    kind-stands locals p (CallTemplate template passed) h is =
        and_from (nat_lt template counts.templates) (passed_stands counts locals passed) (template-below p template is.1)
        (passed-stand locals (children_with is_with_param s.modules p) passed
        (parts-without s trees accepted locals p CallTemplateTag is_with_param h is.0 (λ x y. refl) (λ x. refl)) is.2)
    kind-stands locals p ApplyImports h is = refl
    kind-stands locals p (ForEach select sorts body) h is =
        and_from (expr_stands counts locals select && list_all (sort_stands counts locals) sorts) (body_stands counts locals body)
        (and_from (expr_stands counts locals select) (list_all (sort_stands counts locals) sorts)
        (expr-here locals p ForEachTag (codes "select") h is.0 (λ x y. refl) refl refl select is.1)
        (sorts-stand locals p sorts (loop-sorts s trees accepted locals p h is.0) is.2))
        (body-stands locals (body_at s.modules p) body (fits locals p (opens-tag s trees accepted locals p ForEachTag h is.0 (λ x y. refl) (λ x. refl))) is.3)
    kind-stands locals p (ValueOf select) h is = expr-here locals p ValueOfTag (codes "select") h is.0 (λ x y. refl) refl refl select is.1
    kind-stands locals p (CopyOf select) h is = expr-here locals p CopyOfTag (codes "select") h is.0 (λ x y. refl) refl refl select is.1
    kind-stands locals p (Copy sets body) h is =
        body-stands locals (body_at s.modules p) body (fits locals p (opens-tag s trees accepted locals p CopyTag h is.0 (λ x y. refl) (λ x. refl))) is.2
    kind-stands locals p (Number decl) h is =
        number-stands s trees accepted counts some_globals p locals h is.0 (known-tag s p NumberTag is.0 (λ x y. refl)) decl is.1
    kind-stands locals p (Choose choice) h is = choice-stands locals p choice h is.0 is.1
    kind-stands locals p (If condition body) h is =
        and_from (expr_stands counts locals condition) (body_stands counts locals body)
        (expr-here locals p IfTag (codes "test") h is.0 (λ x y. refl) refl refl condition is.1)
        (body-stands locals (body_at s.modules p) body (fits locals p (opens-tag s trees accepted locals p IfTag h is.0 (λ x y. refl) (λ x. refl))) is.2)
    kind-stands locals p (Text bytes) h is = refl
    kind-stands locals p (Element name sets body) h is =
        and_from (name_stands counts locals name) (body_stands counts locals body)
        (name-here locals p ElementTag h is.0 (λ x y. refl) refl refl refl name is.1)
        (body-stands locals (body_at s.modules p) body (fits locals p (opens-tag s trees accepted locals p ElementTag h is.0 (λ x y. refl) (λ x. refl))) is.3)
    kind-stands locals p (Attribute name body) h is =
        and_from (name_stands counts locals name) (body_stands counts locals body)
        (name-here locals p AttributeTag h is.0 (λ x y. refl) refl refl refl name is.1)
        (body-stands locals (body_at s.modules p) body (fits locals p (opens-tag s trees accepted locals p AttributeTag h is.0 (λ x y. refl) (λ x. refl))) is.2)
    kind-stands locals p (Comment body) h is =
        body-stands locals (body_at s.modules p) body (fits locals p (opens-tag s trees accepted locals p CommentTag h is.0 (λ x y. refl) (λ x. refl))) is.1
    kind-stands locals p (Pi name body) h is =
        and_from (template_stands counts locals name) (body_stands counts locals body)
        (template-of s trees accepted counts some_globals p locals h (known-tag s p PiTag is.0 (λ x y. refl)) (codes "name")
        (ap (λ (r : Tag). needs r (codes "name")) is.0) (ap (λ (r : Tag). allowed_form r (codes "name")) is.0) name is.1)
        (body-stands locals (body_at s.modules p) body (fits locals p (opens-tag s trees accepted locals p PiTag h is.0 (λ x y. refl) (λ x. refl))) is.2)
    kind-stands locals p (Message terminate body) h is =
        body-stands locals (body_at s.modules p) body (fits locals p (opens-tag s trees accepted locals p MessageTag h is.0 (λ x y. refl) (λ x. refl))) is.2
    kind-stands locals p (Variable' site name content) h is =
        and_from (site_stands counts site) (content_stands counts locals content)
        (site-stands s.modules counts some_modules p h.within.«module» site is.1)
        (content-stands locals p content h (ap is_binding is.0) is.3)
    kind-stands locals p (Literal' start body) h is =
        and_from (list_all (λ a. template_stands counts locals a.1) start.attributes) (body_stands counts locals body)
        (puts-stand s trees accepted counts some_globals p locals h is.0 start.attributes is.1.attributes)
        (body-stands locals (body_at s.modules p) body (fits locals p (opens-literal s trees accepted locals p h is.0)) is.2)
    kind-stands locals p (Extension' fallbacks) h is =
        fallbacks-stand locals (children_with is_fallback s.modules p) fallbacks (extension-parts s trees accepted locals p h is.0) is.1

    pub content-stands : (locals : ℕ) (p : Place) (content : Content) → Here locals p → is_binding (tag_at s.modules p) ≡ true → IsContent s p content
        → content_stands counts locals content ≡ true
    content-stands locals p Empty h binding is = refl
    content-stands locals p (Select e) h binding is =
        let rs = records_at s.modules p.0 in
        selected s trees accepted counts some_globals p locals h
        (binding-known (tag_at s.modules p) binding (is_top_level rs p.1) (is_in_extension rs p.1)) is.0 (binding-form (tag_at s.modules p) binding) e is.1
    content-stands locals p (Fragment body) h binding is = body-stands locals (body_at s.modules p) body
        (fits locals p (opens-binding s trees accepted locals p h binding is.0)) is.2

    passed-stand : (locals : ℕ) (ps : List Place) (passed : Passed) → All (Part s trees accepted locals is_with_param) ps → IsPassed s ps passed
        → passed_stands counts locals passed ≡ true
    passed-stand locals ps (Passed' shape tag) h is = bindings-stand locals ps tag h is

    bindings-stand : {n : _} (locals : ℕ) (ps : List Place) (tag : Row_of-Binding n) → All (Part s trees accepted locals is_with_param) ps → AreBindings s ps
        tag
        → bindings_stand counts locals tag ≡ true
    bindings-stand locals ps end_of-Binding h is = refl
    bindings-stand locals [] (more_of-Binding site name content rest) h is = absurd is
    bindings-stand locals (p ∷ ps) (more_of-Binding site name content rest) h is =
        let own = All-head (Part s trees accepted locals is_with_param) p ps h in
        and_from (site_stands counts site && content_stands counts locals content) (bindings_stand counts locals rest)
        (and_from (site_stands counts site) (content_stands counts locals content)
        (site-stands s.modules counts some_modules p own.here.within.«module» site is.0)
        (content-stands locals p content own.here (with-param-binding (tag_at s.modules p) own.tag) is.2))
        (bindings-stand locals ps rest (All-tail (Part s trees accepted locals is_with_param) p ps h) is.3)

    choice-stands : (locals : ℕ) (p : Place) (choice : Choice) → Here locals p → tag_at s.modules p ≡ ChooseTag → IsChoice s p choice
        → choice_stands counts locals choice ≡ true
    choice-stands locals p (Choice' shape tag otherwise) h e is =
        and_from (whens_stand counts locals tag) (body_stands counts locals otherwise)
        (whens-stand locals (children_with is_when s.modules p) tag (parts-without s trees accepted locals p ChooseTag is_when h e (λ x y. refl) (λ x. refl))
        is.0)
        (body-stands locals (first_body s (children_with is_otherwise s.modules p)) otherwise
        (first-fits locals p h (children_with is_otherwise s.modules p)
        (parts-without s trees accepted locals p ChooseTag is_otherwise h e (λ x y. refl) (λ x. refl))) is.1)

    whens-stand : {n : _} (locals : ℕ) (ps : List Place) (tag : Row_of-When n) → All (Part s trees accepted locals is_when) ps → AreWhens s ps tag
        → whens_stand counts locals tag ≡ true
    whens-stand locals ps end_of-When h is = refl
    whens-stand locals [] (more_of-When (When' condition body) rest) h is = absurd is
    whens-stand locals (p ∷ ps) (more_of-When (When' condition body) rest) h is =
        let own = All-head (Part s trees accepted locals is_when) p ps h in
        let e = when-tag (tag_at s.modules p) own.tag in
        and_from (expr_stands counts locals condition && body_stands counts locals body) (whens_stand counts locals rest)
        (and_from (expr_stands counts locals condition) (body_stands counts locals body)
        (expr-here locals p WhenTag (codes "test") own.here e (λ x y. refl) refl refl condition is.0.0)
        (body-stands locals (body_at s.modules p) body (fits locals p (opens-tag s trees accepted locals p WhenTag own.here e (λ x y. refl) (λ x. refl)))
        is.0.1))
        (whens-stand locals ps rest (All-tail (Part s trees accepted locals is_when) p ps h) is.1)

    fallbacks-stand : (locals : ℕ) (ps : List Place) (fallbacks : Fallbacks) → All (Part s trees accepted locals is_fallback) ps → AreFallbacks s ps fallbacks
        → fallbacks_stand counts locals fallbacks ≡ true
    fallbacks-stand locals ps (Fallbacks' shape tag) h is = bodies-stand locals ps tag h is

    bodies-stand : {n : _} (locals : ℕ) (ps : List Place) (tag : Row_of-Body n) → All (Part s trees accepted locals is_fallback) ps → AreBodies s ps tag
        → bodies_stand counts locals tag ≡ true
    bodies-stand locals ps end_of-Body h is = refl
    bodies-stand locals [] (more_of-Body body rest) h is = absurd is
    bodies-stand locals (p ∷ ps) (more_of-Body body rest) h is =
        let own = All-head (Part s trees accepted locals is_fallback) p ps h in
        and_from (body_stands counts locals body) (bodies_stand counts locals rest)
        (body-stands locals (body_at s.modules p) body
        (fits locals p (opens-tag s trees accepted locals p FallbackTag own.here (fallback-tag (tag_at s.modules p) own.tag) (λ x y. refl) (λ x. refl)))
        is.0)
        (bodies-stand locals ps rest (All-tail (Part s trees accepted locals is_fallback) p ps h) is.1)
