-- Modules have one compiled stylesheet: what represents a place is pinned by it, by recursion on what was compiled.
use Rattle.std.proofs.Common.{◌≡◌, ◌∙◌, ℕ, List, [], ◌∷◌, codes, Option, Some, None, Bool, true, false, refl, sym, ap}
use Rattle.std.proofs.lemmas.Bool.{true≢false}
use Rattle.std.specs.List.{AllZip}
use Rattle.std.specs.Option.{unwrap_or}
use Rattle.xs_elements.specs.Contents.{is_with_param}
use Rattle.xs_elements.specs.Nodes.{Name}
use Rattle.xs_elements.specs.Tags.{is_attribute_set, is_fallback, is_param, is_sort, is_template, is_when}
use Rattle.xs_sheet.specs.declared.body.Applied.{Applied}
use Rattle.xs_sheet.specs.declared.body.Binding.{Binding}
use Rattle.xs_sheet.specs.declared.body.Body.{Body, Body', Row_of-Instr, end_of-Instr, more_of-Instr, items-the_row-Instr, items_shown-the_row-Instr-0, out-Body, outs-Body', roll-Body, roll-out-Body}
use Rattle.xs_sheet.specs.declared.body.Choice.{Choice, Choice', Row_of-When, end_of-When, more_of-When, items-the_row-When, items_shown-the_row-When-1, out-Choice, outs-Choice', roll-Choice, roll-out-Choice}
use Rattle.xs_sheet.specs.declared.body.Content.{Content}
use Rattle.xs_sheet.specs.declared.body.Content.TheVariants.{Empty, Select, Body as Fragment}
use Rattle.xs_sheet.specs.declared.body.Fallbacks.{Fallbacks, Fallbacks', Row_of-Body, end_of-Body, more_of-Body, items-the_row-Body, items_shown-the_row-Body-2, out-Fallbacks, outs-Fallbacks', roll-Fallbacks, roll-out-Fallbacks}
use Rattle.xs_sheet.specs.declared.body.Instr.{Instr}
use Rattle.xs_sheet.specs.declared.body.InstrKind.{InstrKind, Variable'}
use Rattle.xs_sheet.specs.declared.body.InstrKind.TheVariants.{ApplyTemplates, CallTemplate, ApplyImports, ForEach, ValueOf, CopyOf, Copy, Number, Choose, If, Text, Element, Attribute, Comment, Pi, Message, Literal, Extension}
use Rattle.xs_sheet.specs.declared.body.LiteralStart.{LiteralStart}
use Rattle.xs_sheet.specs.declared.body.MadeName.{MadeName}
use Rattle.xs_sheet.specs.declared.body.NumberDecl.{NumberDecl}
use Rattle.xs_sheet.specs.declared.body.Passed.{Passed, Passed', Row_of-Binding, end_of-Binding, more_of-Binding, items-the_row-Binding, items_shown-the_row-Binding-3, out-Passed, outs-Passed', roll-Passed, roll-out-Passed}
use Rattle.xs_sheet.specs.declared.body.SortDecl.{SortDecl}
use Rattle.xs_sheet.specs.declared.body.When.{When'}
use Rattle.xs_sheet.specs.declared.declarations.AttrSet.{AttrSet}
use Rattle.xs_sheet.specs.declared.declarations.Global.{Global}
use Rattle.xs_sheet.specs.declared.declarations.KeyDecl.{KeyDecl}
use Rattle.xs_sheet.specs.declared.declarations.Template.{Template}
use Rattle.xs_sheet.specs.declared.scoped.ScopedExpr.{ScopedExpr}
use Rattle.xs_sheet.specs.declared.scoped.ScopedPattern.{ScopedPattern}
use Rattle.xs_sheet.specs.declared.scoped.ValueTemplate.{ValueTemplate}
use Rattle.xs_sheet.specs.declared.sheet.Sheet.{Sheet}
use Rattle.xs_structure.specs.Modules.{Place, records_at}
use Rattle.xs_trace.proofs.KeptLemmas.{some_same}
use Rattle.xs_trace.specs.Label.{Label}
use Rattle.xs_tree.specs.Record.{at}
use Rattle.xs_compile.specs.Counted.{globals, templates}
use Rattle.xs_compile.specs.Labels.{IsMode, mode_at}
use Rattle.xs_compile.specs.Modes.{modes_of}
use Rattle.xs_structure.specs.Order.{all_with}
use Rattle.xs_structure.specs.Parts.{body_at, children_with, tag_at, said_at, value_at}
use Rattle.xs_compile.specs.Bodies.{Source, AreBindings, AreBodies, AreFallbacks, AreInstrs, AreWhens, IsApplied, IsBody, IsChoice, IsContent, IsKind, IsLiteralStart, IsMadeName, IsNumber, IsPassed, IsPutAttribute, IsSort, first_body, is_otherwise, put_attributes}
use Rattle.xs_compile.specs.Declarations.{IsBinding, IsGlobal, IsInstr, IsKey, IsRuleOrModule, IsSet, IsTemplate, is_attribute, is_key}
use Rattle.xs_compile.specs.Laws.{OneSheet}
use Rattle.xs_compile.specs.Parsed.{Both, IsExpr, IsPattern, IsValueTemplate}
use Rattle.xs_compile.specs.Represents.{IsSheet}
use Rattle.xs_compile.proofs.KindLemmas.{kind-kind_number, by-applies, by-calls, by-imports, by-each, by-value, by-copy-of, by-copy, by-number, by-choose, by-if, by-text, by-element, by-attribute, by-comment, by-pi, by-message, by-variable, by-literal, by-extension}

-- ---- a relation that pins, over options and lists
module _ {A B : Type 0} (R : A → B → Type 0) (one : (a : A) (b c : B) → R a b → R a c → b ≡ c) where
  one-if : (a : Option A) (b c : Option B) → Both R a b → Both R a c → b ≡ c
  one-if None None None x y = refl
  one-if None None (Some c) x y = absurd y
  one-if None (Some b) c x y = absurd x
  one-if (Some a) None c x y = absurd x
  one-if (Some a) (Some b) None x y = absurd y
  one-if (Some a) (Some b) (Some c) x y = ap Some (one a b c x y)

  one-list : (xs : List A) (bs cs : List B) → AllZip R xs bs → AllZip R xs cs → bs ≡ cs
  one-list [] [] [] x y = refl
  one-list [] [] (c ∷ cs) x y = absurd y
  one-list [] (b ∷ bs) cs x y = absurd x
  one-list (a ∷ xs) [] cs x y = absurd x
  one-list (a ∷ xs) (b ∷ bs) [] x y = absurd y
  one-list (a ∷ xs) (b ∷ bs) (c ∷ cs) x y = λ i. one a b c x.0 y.0 i ∷ one-list xs bs cs x.1 y.1 i

module _ (s : Source) where
  -- ---- values of attributes
  one-expr : (p : Place) (text : List ℕ) (e o : ScopedExpr) → IsExpr s.modules p text e → IsExpr s.modules p text o → e ≡ o
  one-expr p text e o x y = λ i. record { expr = some_same (sym x.expr ∙ y.expr) i; scope = (x.scope ∙ sym y.scope) i }

  one-pattern : (p : Place) (text : List ℕ) (e o : ScopedPattern) → IsPattern s.modules p text e → IsPattern s.modules p text o → e ≡ o
  one-pattern p text e o x y = λ i. record { pattern = some_same (sym x.pattern ∙ y.pattern) i; scope = (x.scope ∙ sym y.scope) i }

  one-value : (p : Place) (text : List ℕ) (e o : ValueTemplate) → IsValueTemplate s.modules p text e → IsValueTemplate s.modules p text o → e ≡ o
  one-value p text e o x y = λ i. record { parts = some_same (sym x.parts ∙ y.parts) i; scope = (x.scope ∙ sym y.scope) i }

  one-expr-if : (p : Place) (text : Option (List ℕ)) (e o : Option ScopedExpr) → Both (IsExpr s.modules p) text e → Both (IsExpr s.modules p) text o → e ≡ o
  one-expr-if p = one-if (IsExpr s.modules p) (one-expr p)

  one-pattern-if : (p : Place) (text : Option (List ℕ)) (e o : Option ScopedPattern) → Both (IsPattern s.modules p) text e
      → Both (IsPattern s.modules p) text o → e ≡ o
  one-pattern-if p = one-if (IsPattern s.modules p) (one-pattern p)

  one-value-if : (p : Place) (text : Option (List ℕ)) (e o : Option ValueTemplate) → Both (IsValueTemplate s.modules p) text e
      → Both (IsValueTemplate s.modules p) text o → e ≡ o
  one-value-if p = one-if (IsValueTemplate s.modules p) (one-value p)

  one-mode : (mode : Option Name) (m n : ℕ) → IsMode s.modes mode m → IsMode s.modes mode n → m ≡ n
  one-mode None m n x y = x ∙ sym y
  one-mode (Some mode) m n x y = some_same (sym x ∙ y)

  -- ---- parts of instructions without a body
  one-sort : (p : Place) (d e : SortDecl) → IsSort s p d → IsSort s p e → d ≡ e
  one-sort p d e x y = λ i. record {
    select = one-expr p (unwrap_or (value_at s.modules p (codes "select")) (codes ".")) d.select e.select x.select y.select i;
    data_type = one-value-if p (value_at s.modules p (codes "data-type")) d.data_type e.data_type x.data_type y.data_type i;
    order = one-value-if p (value_at s.modules p (codes "order")) d.order e.order x.order y.order i;
  }

  one-sorts : (p : Place) (d e : List SortDecl) → AllZip (IsSort s) (children_with is_sort s.modules p) d
      → AllZip (IsSort s) (children_with is_sort s.modules p) e → d ≡ e
  one-sorts p = one-list (IsSort s) one-sort (children_with is_sort s.modules p)

  one-applied : (p : Place) (a b : Applied) → IsApplied s p a → IsApplied s p b → a ≡ b
  one-applied p a b x y = λ i. record {
    select = one-expr-if p (value_at s.modules p (codes "select")) a.select b.select x.select y.select i;
    mode = one-mode (mode_at s.modules p) a.mode b.mode x.mode y.mode i;
    sorts = one-sorts p a.sorts b.sorts x.sorts y.sorts i;
  }

  one-number : (p : Place) (d e : NumberDecl) → IsNumber s p d → IsNumber s p e → d ≡ e
  one-number p d e x y = λ i. record {
    level = (x.level ∙ sym y.level) i;
    count = one-pattern-if p (value_at s.modules p (codes "count")) d.count e.count x.count y.count i;
    «from» = one-pattern-if p (value_at s.modules p (codes "from")) d.«from» e.«from» x.«from» y.«from» i;
    value = one-expr-if p (value_at s.modules p (codes "value")) d.value e.value x.value y.value i;
    format = one-value-if p (value_at s.modules p (codes "format")) d.format e.format x.format y.format i;
    grouping_separator =
        one-value-if p (value_at s.modules p (codes "grouping-separator")) d.grouping_separator e.grouping_separator x.grouping_separator
        y.grouping_separator i;
    grouping_size = one-value-if p (value_at s.modules p (codes "grouping-size")) d.grouping_size e.grouping_size x.grouping_size y.grouping_size i;
  }

  one-made : (p : Place) (m n : MadeName) → IsMadeName s p m → IsMadeName s p n → m ≡ n
  one-made p m n x y = λ i. record {
    name = one-value p (said_at s.modules p (codes "name")) m.name n.name x.name y.name i;
    namespace = one-value-if p (value_at s.modules p (codes "namespace")) m.namespace n.namespace x.namespace y.namespace i;
    scope = (x.scope ∙ sym y.scope) i;
  }

  one-put : (p : Place) (a : ℕ) (b c : Label × ValueTemplate) → IsPutAttribute s p a b → IsPutAttribute s p a c → b ≡ c
  one-put p a b c x y = λ i. ((x.0 ∙ sym y.0) i, one-value p (at (records_at s.modules p.0) a).text b.1 c.1 x.1 y.1 i)

  one-start : (p : Place) (k l : LiteralStart) → IsLiteralStart s p k → IsLiteralStart s p l → k ≡ l
  one-start p k l x y = λ i. record {
    name = (x.name ∙ sym y.name) i;
    spaces = (x.spaces ∙ sym y.spaces) i;
    sets = (x.sets ∙ sym y.sets) i;
    attributes = one-list (IsPutAttribute s p) (one-put p) (put_attributes s p) k.attributes l.attributes x.attributes y.attributes i;
  }

  -- ---- what a list of another type of the cycle is made of
  instrs : (n : _) (tag : Row_of-Instr _) → (out-Body (Body' n tag)).instrs ≡ items-the_row-Instr _ tag
  instrs n tag = ap (λ b. b.instrs) (outs-Body' n tag) ∙ items_shown-the_row-Instr-0 n tag

  params : (n : _) (tag : Row_of-Binding _) → (out-Passed (Passed' n tag)).params ≡ items-the_row-Binding _ tag
  params n tag = ap (λ b. b.params) (outs-Passed' n tag) ∙ items_shown-the_row-Binding-3 n tag

  bodies : (n : _) (tag : Row_of-Body _) → (out-Fallbacks (Fallbacks' n tag)).bodies ≡ items-the_row-Body _ tag
  bodies n tag = ap (λ b. b.bodies) (outs-Fallbacks' n tag) ∙ items_shown-the_row-Body-2 n tag

  whens : (n : _) (tag : Row_of-When _) (o : Body) → (out-Choice (Choice' n tag o)).whens ≡ items-the_row-When _ tag
  whens n tag o = ap (λ b. b.whens) (outs-Choice' n tag o) ∙ items_shown-the_row-When-1 n tag

  body-by : (c d : Body) → (out-Body c).instrs ≡ (out-Body d).instrs → c ≡ d
  body-by c d e = sym (roll-out-Body c) ∙ ap (λ xs. roll-Body (record { instrs = xs })) e ∙ roll-out-Body d

  passed-by : (c d : Passed) → (out-Passed c).params ≡ (out-Passed d).params → c ≡ d
  passed-by c d e = sym (roll-out-Passed c) ∙ ap (λ xs. roll-Passed (record { params = xs })) e ∙ roll-out-Passed d

  fallbacks-by : (c d : Fallbacks) → (out-Fallbacks c).bodies ≡ (out-Fallbacks d).bodies → c ≡ d
  fallbacks-by c d e = sym (roll-out-Fallbacks c) ∙ ap (λ xs. roll-Fallbacks (record { bodies = xs })) e ∙ roll-out-Fallbacks d

  choice-by : (c d : Choice) → (out-Choice c).whens ≡ (out-Choice d).whens → (out-Choice c).otherwise ≡ (out-Choice d).otherwise → c ≡ d
  choice-by c d e o = sym (roll-out-Choice c) ∙ (λ i. roll-Choice (record { whens = e i; otherwise = o i })) ∙ roll-out-Choice d

  -- ---- bodies
  mutual
    one-kind : (k l : InstrKind) (p : Place) → IsKind s p k → IsKind s p l → k ≡ l
    one-kind (ApplyTemplates nodes passed) l p x y =
        by-applies (λ k. IsKind s p k → ApplyTemplates nodes passed ≡ k)
        (λ nodes' passed' z i. ApplyTemplates
        (one-applied p nodes nodes' x.1 z.1 i)
        (one-passed passed passed' (children_with is_with_param s.modules p) x.2 z.2 i))
        l (kind-kind_number s p l y ∙ sym (kind-kind_number s p (ApplyTemplates nodes passed) x)) y
    one-kind (CallTemplate n passed) l p x y =
        by-calls (λ k. IsKind s p k → CallTemplate n passed ≡ k)
        (λ n' passed' z i. CallTemplate
        (some_same (sym x.1 ∙ z.1) i)
        (one-passed passed passed' (children_with is_with_param s.modules p) x.2 z.2 i))
        l (kind-kind_number s p l y ∙ sym (kind-kind_number s p (CallTemplate n passed) x)) y
    one-kind ApplyImports l p x y = by-imports (λ z. ApplyImports ≡ z) refl l (kind-kind_number s p l y ∙ sym (kind-kind_number s p ApplyImports x))
    one-kind (ForEach select sorts body) l p x y =
        by-each (λ k. IsKind s p k → ForEach select sorts body ≡ k)
        (λ select' sorts' body' z i. ForEach
        (one-expr p (said_at s.modules p (codes "select")) select select' x.1 z.1 i)
        (one-sorts p sorts sorts' x.2 z.2 i)
        (one-body body body' (body_at s.modules p) x.3 z.3 i))
        l (kind-kind_number s p l y ∙ sym (kind-kind_number s p (ForEach select sorts body) x)) y
    one-kind (ValueOf select) l p x y =
        by-value (λ k. IsKind s p k → ValueOf select ≡ k)
        (λ select' z i. ValueOf (one-expr p (said_at s.modules p (codes "select")) select select' x.1 z.1 i))
        l (kind-kind_number s p l y ∙ sym (kind-kind_number s p (ValueOf select) x)) y
    one-kind (CopyOf select) l p x y =
        by-copy-of (λ k. IsKind s p k → CopyOf select ≡ k)
        (λ select' z i. CopyOf (one-expr p (said_at s.modules p (codes "select")) select select' x.1 z.1 i))
        l (kind-kind_number s p l y ∙ sym (kind-kind_number s p (CopyOf select) x)) y
    one-kind (Copy sets body) l p x y =
        by-copy (λ k. IsKind s p k → Copy sets body ≡ k)
        (λ sets' body' z i. Copy ((x.1 ∙ sym z.1) i) (one-body body body' (body_at s.modules p) x.2 z.2 i))
        l (kind-kind_number s p l y ∙ sym (kind-kind_number s p (Copy sets body) x)) y
    one-kind (Number decl) l p x y =
        by-number (λ k. IsKind s p k → Number decl ≡ k)
        (λ decl' z i. Number (one-number p decl decl' x.1 z.1 i))
        l (kind-kind_number s p l y ∙ sym (kind-kind_number s p (Number decl) x)) y
    one-kind (Choose choice) l p x y =
        by-choose (λ k. IsKind s p k → Choose choice ≡ k)
        (λ choice' z i. Choose (one-choice choice choice' p x.1 z.1 i))
        l (kind-kind_number s p l y ∙ sym (kind-kind_number s p (Choose choice) x)) y
    one-kind (If test body) l p x y =
        by-if (λ k. IsKind s p k → If test body ≡ k)
        (λ test' body' z i. If
        (one-expr p (said_at s.modules p (codes "test")) test test' x.1 z.1 i)
        (one-body body body' (body_at s.modules p) x.2 z.2 i))
        l (kind-kind_number s p l y ∙ sym (kind-kind_number s p (If test body) x)) y
    one-kind (Text bytes) l p x y =
        by-text (λ k. IsKind s p k → Text bytes ≡ k)
        (λ bytes' z i. Text ((x.1 ∙ sym z.1) i))
        l (kind-kind_number s p l y ∙ sym (kind-kind_number s p (Text bytes) x)) y
    one-kind (Element name sets body) l p x y =
        by-element (λ k. IsKind s p k → Element name sets body ≡ k)
        (λ name' sets' body' z i. Element
        (one-made p name name' x.1 z.1 i)
        ((x.2 ∙ sym z.2) i)
        (one-body body body' (body_at s.modules p) x.3 z.3 i))
        l (kind-kind_number s p l y ∙ sym (kind-kind_number s p (Element name sets body) x)) y
    one-kind (Attribute name body) l p x y =
        by-attribute (λ k. IsKind s p k → Attribute name body ≡ k)
        (λ name' body' z i. Attribute (one-made p name name' x.1 z.1 i) (one-body body body' (body_at s.modules p) x.2 z.2 i))
        l (kind-kind_number s p l y ∙ sym (kind-kind_number s p (Attribute name body) x)) y
    one-kind (Comment body) l p x y =
        by-comment (λ k. IsKind s p k → Comment body ≡ k)
        (λ body' z i. Comment (one-body body body' (body_at s.modules p) x.1 z.1 i))
        l (kind-kind_number s p l y ∙ sym (kind-kind_number s p (Comment body) x)) y
    one-kind (Pi name body) l p x y =
        by-pi (λ k. IsKind s p k → Pi name body ≡ k)
        (λ name' body' z i. Pi
        (one-value p (said_at s.modules p (codes "name")) name name' x.1 z.1 i)
        (one-body body body' (body_at s.modules p) x.2 z.2 i))
        l (kind-kind_number s p l y ∙ sym (kind-kind_number s p (Pi name body) x)) y
    one-kind (Message terminate body) l p x y =
        by-message (λ k. IsKind s p k → Message terminate body ≡ k)
        (λ terminate' body' z i. Message ((x.1 ∙ sym z.1) i) (one-body body body' (body_at s.modules p) x.2 z.2 i))
        l (kind-kind_number s p l y ∙ sym (kind-kind_number s p (Message terminate body) x)) y
    one-kind (Variable' site name content) l p x y =
        by-variable (λ k. IsKind s p k → Variable' site name content ≡ k)
        (λ site' name' content' z i. Variable' ((x.1 ∙ sym z.1) i) (some_same (sym x.2 ∙ z.2) i) (one-content content content' p x.3 z.3 i))
        l (kind-kind_number s p l y ∙ sym (kind-kind_number s p (Variable' site name content) x)) y
    one-kind (Literal start body) l p x y =
        by-literal (λ k. IsKind s p k → Literal start body ≡ k)
        (λ start' body' z i. Literal (one-start p start start' x.1 z.1 i) (one-body body body' (body_at s.modules p) x.2 z.2 i))
        l (kind-kind_number s p l y ∙ sym (kind-kind_number s p (Literal start body) x)) y
    one-kind (Extension fallbacks) l p x y =
        by-extension (λ k. IsKind s p k → Extension fallbacks ≡ k)
        (λ fallbacks' z i. Extension (one-fallbacks fallbacks fallbacks' (children_with is_fallback s.modules p) x.1 z.1 i))
        l (kind-kind_number s p l y ∙ sym (kind-kind_number s p (Extension fallbacks) x)) y

    one-body : (c d : Body) (ps : List Place) → IsBody s ps c → IsBody s ps d → c ≡ d
    one-body (Body' n tag) (Body' m tags) ps x y = body-by (Body' n tag) (Body' m tags) (instrs n tag ∙ one-instrs tag tags ps x y ∙ sym (instrs m tags))

    one-instrs : {m n : _} (r : Row_of-Instr m) (t : Row_of-Instr n) (ps : List Place) → AreInstrs s ps r → AreInstrs s ps t
        → items-the_row-Instr m r ≡ items-the_row-Instr n t
    one-instrs end_of-Instr end_of-Instr [] x y = refl
    one-instrs end_of-Instr (more_of-Instr site' kind' others') [] x y = absurd y
    one-instrs (more_of-Instr site kind others) t [] x y = absurd x
    one-instrs end_of-Instr t (p ∷ ps) x y = absurd x
    one-instrs (more_of-Instr site kind others) end_of-Instr (p ∷ ps) x y = absurd y
    one-instrs (more_of-Instr site kind others) (more_of-Instr site' kind' others') (p ∷ ps) x y =
        λ i. record { site = (x.0 ∙ sym y.0) i; kind = one-kind kind kind' p x.1 y.1 i } ∷ one-instrs others others' ps x.2 y.2 i

    one-content : (c d : Content) (p : Place) → IsContent s p c → IsContent s p d → c ≡ d
    one-content Empty Empty p x y = refl
    one-content Empty (Select o) p x y = absurd (true≢false (sym y.0 ∙ x.0))
    one-content Empty (Fragment d) p x y = absurd (y.1 x.1)
    one-content (Select c) Empty p x y = absurd (true≢false (sym x.0 ∙ y.0))
    one-content (Select c) (Select d) p x y = ap Select (one-expr p (said_at s.modules p (codes "select")) c d x.1 y.1)
    one-content (Select c) (Fragment d) p x y = absurd (true≢false (sym x.0 ∙ y.0))
    one-content (Fragment c) Empty p x y = absurd (x.1 y.1)
    one-content (Fragment c) (Select d) p x y = absurd (true≢false (sym y.0 ∙ x.0))
    one-content (Fragment c) (Fragment d) p x y = ap Fragment (one-body c d (body_at s.modules p) x.2 y.2)

    one-passed : (c d : Passed) (ps : List Place) → IsPassed s ps c → IsPassed s ps d → c ≡ d
    one-passed (Passed' n tag) (Passed' m tags) ps x y =
        passed-by (Passed' n tag) (Passed' m tags) (params n tag ∙ one-bindings tag tags ps x y ∙ sym (params m tags))

    one-bindings : {m n : _} (r : Row_of-Binding m) (t : Row_of-Binding n) (ps : List Place) → AreBindings s ps r → AreBindings s ps t
        → items-the_row-Binding m r ≡ items-the_row-Binding n t
    one-bindings end_of-Binding end_of-Binding [] x y = refl
    one-bindings end_of-Binding (more_of-Binding site' name' content' others') [] x y = absurd y
    one-bindings (more_of-Binding site name content others) t [] x y = absurd x
    one-bindings end_of-Binding t (p ∷ ps) x y = absurd x
    one-bindings (more_of-Binding site name content others) end_of-Binding (p ∷ ps) x y = absurd y
    one-bindings (more_of-Binding site name content others) (more_of-Binding site' name' content' others') (p ∷ ps) x y =
        λ i. record { site = (x.0 ∙ sym y.0) i; name = some_same (sym x.1 ∙ y.1) i; content = one-content content content' p x.2 y.2 i }
        ∷ one-bindings others others' ps x.3 y.3 i

    one-choice : (c d : Choice) (p : Place) → IsChoice s p c → IsChoice s p d → c ≡ d
    one-choice (Choice' n tag o) (Choice' m tags u) p x y =
        choice-by (Choice' n tag o) (Choice' m tags u)
        (whens n tag o ∙ one-whens tag tags (children_with is_when s.modules p) x.0 y.0 ∙ sym (whens m tags u))
        (ap (λ c. c.otherwise) (outs-Choice' n tag o) ∙ one-body o u (first_body s (children_with is_otherwise s.modules p)) x.1 y.1
        ∙ sym (ap (λ c. c.otherwise) (outs-Choice' m tags u)))

    one-whens : {m n : _} (r : Row_of-When m) (t : Row_of-When n) (ps : List Place) → AreWhens s ps r → AreWhens s ps t
        → items-the_row-When m r ≡ items-the_row-When n t
    one-whens end_of-When end_of-When [] x y = refl
    one-whens end_of-When (more_of-When d others') [] x y = absurd y
    one-whens (more_of-When c others) t [] x y = absurd x
    one-whens end_of-When t (p ∷ ps) x y = absurd x
    one-whens (more_of-When c others) end_of-When (p ∷ ps) x y = absurd y
    one-whens (more_of-When (When' test body) others) (more_of-When (When' test' body') others') (p ∷ ps) x y =
        λ i. When' (one-expr p (said_at s.modules p (codes "test")) test test' x.0.0 y.0.0 i) (one-body body body' (body_at s.modules p) x.0.1 y.0.1 i)
        ∷ one-whens others others' ps x.1 y.1 i

    one-fallbacks : (c d : Fallbacks) (ps : List Place) → AreFallbacks s ps c → AreFallbacks s ps d → c ≡ d
    one-fallbacks (Fallbacks' n tag) (Fallbacks' m tags) ps x y =
        fallbacks-by (Fallbacks' n tag) (Fallbacks' m tags) (bodies n tag ∙ one-bodies tag tags ps x y ∙ sym (bodies m tags))

    one-bodies : {m n : _} (r : Row_of-Body m) (t : Row_of-Body n) (ps : List Place) → AreBodies s ps r → AreBodies s ps t
        → items-the_row-Body m r ≡ items-the_row-Body n t
    one-bodies end_of-Body end_of-Body [] x y = refl
    one-bodies end_of-Body (more_of-Body d others') [] x y = absurd y
    one-bodies (more_of-Body c others) t [] x y = absurd x
    one-bodies end_of-Body t (p ∷ ps) x y = absurd x
    one-bodies (more_of-Body c others) end_of-Body (p ∷ ps) x y = absurd y
    one-bodies (more_of-Body c others) (more_of-Body d others') (p ∷ ps) x y =
        λ i. one-body c d (body_at s.modules p) x.0 y.0 i ∷ one-bodies others others' ps x.1 y.1 i

  -- ---- declarations
  one-binding : (p : Place) (b c : Binding) → IsBinding s p b → IsBinding s p c → b ≡ c
  one-binding p b c x y = λ i. record {
    site = (x.site ∙ sym y.site) i;
    name = some_same (sym x.name ∙ y.name) i;
    content = one-content b.content c.content p x.content y.content i;
  }

  record Level (t u : Template) : Type 0 where
    pattern : t.pattern ≡ u.pattern
    name : t.name ≡ u.name
    priority : t.priority ≡ u.priority
    mode : t.mode ≡ u.mode
    params : t.params ≡ u.params
    body : t.body ≡ u.body

  one-rest : (b : Bool) (p : Place) (t u : Template) → IsRuleOrModule b s p t → IsRuleOrModule b s p u → Level t u
  one-rest true p t u x y = record {
    pattern = one-pattern-if p (value_at s.modules p (codes "match")) t.pattern u.pattern x.pattern y.pattern;
    name = x.name ∙ sym y.name;
    priority = x.priority ∙ sym y.priority;
    mode = one-mode (mode_at s.modules p) t.mode u.mode x.mode y.mode;
    params = one-list (IsBinding s) one-binding (children_with is_param s.modules p) t.params u.params x.params y.params;
    body = one-body t.body u.body (body_at s.modules p) x.body y.body;
  }
  one-rest false p t u x y = record {
    pattern = one-pattern-if p (Some (codes "/")) t.pattern u.pattern x.pattern y.pattern;
    name = x.name ∙ sym y.name;
    priority = x.priority ∙ sym y.priority;
    mode = x.mode ∙ sym y.mode;
    params = x.params ∙ sym y.params;
    body = one-body t.body u.body (p ∷ []) x.body y.body;
  }

  one-template : (p : Place) (t u : Template) → IsTemplate s p t → IsTemplate s p u → t ≡ u
  one-template p t u x y =
      let rest : Level t u = one-rest (is_template (tag_at s.modules p)) p t u x.rest y.rest in
      λ i. record {
        site = (x.site ∙ sym y.site) i;
        precedence = (x.precedence ∙ sym y.precedence) i;
        imports_from = (x.imports_from ∙ sym y.imports_from) i;
        pattern = rest.pattern i;
        name = rest.name i;
        priority = rest.priority i;
        mode = rest.mode i;
        params = rest.params i;
        body = rest.body i;
      }

  one-global : (p : Place) (g h : Global) → IsGlobal s p g → IsGlobal s p h → g ≡ h
  one-global p g h x y = λ i. record { binding = one-binding p g.binding h.binding x.binding y.binding i; param = (x.param ∙ sym y.param) i }

  one-key : (p : Place) (k l : KeyDecl) → IsKey s p k → IsKey s p l → k ≡ l
  one-key p k l x y = λ i. record {
    site = (x.site ∙ sym y.site) i;
    name = some_same (sym x.name ∙ y.name) i;
    pattern = one-pattern p (said_at s.modules p (codes "match")) k.pattern l.pattern x.pattern y.pattern i;
    value = one-expr p (said_at s.modules p (codes "use")) k.value l.value x.value y.value i;
  }

  one-instr : (p : Place) (k l : Instr) → IsInstr s p k → IsInstr s p l → k ≡ l
  one-instr p k l x y = λ i. record { site = (x.site ∙ sym y.site) i; kind = one-kind k.kind l.kind p x.kind y.kind i }

  one-set : (p : Place) (k l : AttrSet) → IsSet s p k → IsSet s p l → k ≡ l
  one-set p k l x y = λ i. record {
    site = (x.site ∙ sym y.site) i;
    precedence = (x.precedence ∙ sym y.precedence) i;
    name = some_same (sym x.name ∙ y.name) i;
    sets = (x.sets ∙ sym y.sets) i;
    attributes = one-list (IsInstr s) one-instr (children_with is_attribute s.modules p) k.attributes l.attributes x.attributes y.attributes i;
  }

  one-whole : (a b : Sheet) → IsSheet s a → IsSheet s b → a ≡ b
  one-whole a b x y = λ i. record {
    templates = one-list (IsTemplate s) one-template (templates s.modules) a.templates b.templates x.templates y.templates i;
    globals = one-list (IsGlobal s) one-global (globals s.modules) a.globals b.globals x.globals y.globals i;
    keys = one-list (IsKey s) one-key (all_with is_key s.modules) a.keys b.keys x.keys y.keys i;
    sets = one-list (IsSet s) one-set (all_with is_attribute_set s.modules) a.sets b.sets x.sets y.sets i;
    strips = (x.strips ∙ sym y.strips) i;
    aliases = (x.aliases ∙ sym y.aliases) i;
    method = (x.method ∙ sym y.method) i;
    modules = (x.modules ∙ sym y.modules) i;
    root_line = (x.root_line ∙ sym y.root_line) i;
  }

pub one_sheet : OneSheet
one_sheet ms a b x y = one-whole (record { modules = ms; modes = modes_of ms }) a b x y
