-- The parts of a compiled stylesheet have the names of what they represent.
use Rattle.std.proofs.Common.{◌≡◌, ℕ, List, [], ◌∷◌, Bool, true, false, filter, subst, sym}
use Rattle.std.specs.Prelude.{codes, not}
use Rattle.std.specs.List.{AllByRecursion, AllZip}
use Rattle.xs_trace.specs.Label.{Label}
use Rattle.xs_tree.specs.Record.{attributes, uri_at}
use Rattle.xs_elements.specs.declared.reading.Reading.TheVariants.{Literal as LiteralReading}
use Rattle.xs_elements.specs.Contents.{is_with_param}
use Rattle.xs_elements.specs.Reading.{is_xslt}
use Rattle.xs_elements.specs.Tags.{is_attribute_set, is_fallback, is_param, is_template, is_when}
use Rattle.xs_sheet.specs.declared.body.Binding.{Binding}
use Rattle.xs_sheet.specs.declared.body.Body.{Body, Body', Row_of-Instr, end_of-Instr, more_of-Instr}
use Rattle.xs_sheet.specs.declared.body.Choice.{Choice, Choice', Row_of-When, end_of-When, more_of-When}
use Rattle.xs_sheet.specs.declared.body.Content.{Content}
use Rattle.xs_sheet.specs.declared.body.Content.TheVariants.{Empty, Select, Body as Fragment}
use Rattle.xs_sheet.specs.declared.body.Fallbacks.{Fallbacks, Fallbacks', Row_of-Body, end_of-Body, more_of-Body}
use Rattle.xs_sheet.specs.declared.body.Instr.{Instr}
use Rattle.xs_sheet.specs.declared.body.InstrKind.{InstrKind, Variable'}
use Rattle.xs_sheet.specs.declared.body.InstrKind.TheVariants.{ApplyTemplates, CallTemplate, ApplyImports, ForEach, ValueOf, CopyOf, Copy, Number, Choose, If}
use Rattle.xs_sheet.specs.declared.body.InstrKind.TheVariants.{Text, Element, Attribute, Comment, Pi, Message, Literal, Extension}
use Rattle.xs_sheet.specs.declared.body.LiteralStart.{LiteralStart}
use Rattle.xs_sheet.specs.declared.body.MadeName.{MadeName}
use Rattle.xs_sheet.specs.declared.body.Passed.{Passed, Passed', Row_of-Binding, end_of-Binding, more_of-Binding}
use Rattle.xs_sheet.specs.declared.body.When.{When'}
use Rattle.xs_sheet.specs.declared.declarations.AttrSet.{AttrSet}
use Rattle.xs_sheet.specs.declared.declarations.Global.{Global}
use Rattle.xs_sheet.specs.declared.declarations.Template.{Template}
use Rattle.xs_sheet.specs.declared.scoped.ValueTemplate.{ValueTemplate}
use Rattle.xs_sheet.specs.declared.sheet.Sheet.{Sheet}
use Rattle.xs_making.specs.Laws.{AreWell, BindsNoXmlns}
use Rattle.xs_structure.specs.Modules.{Place, records_at}
use Rattle.xs_structure.specs.Order.{all_with}
use Rattle.xs_structure.specs.Parts.{body_at, children_with, reading_at, tag_at, said_at}
use Rattle.xs_compile.specs.Aliases.{alias_at, aliases, is_alias, is_counted_alias}
use Rattle.xs_compile.specs.Bodies.{AreBindings, AreBodies, AreFallbacks, AreInstrs, AreWhens, IsBody, IsChoice, IsContent, IsKind, IsLiteralStart, IsMadeName}
use Rattle.xs_compile.specs.Bodies.{IsPassed, IsPutAttribute, Source, first_body, is_otherwise, put_attributes}
use Rattle.xs_compile.specs.Counted.{globals, templates}
use Rattle.xs_compile.specs.Declarations.{IsBinding, IsGlobal, IsInstr, IsRuleOrModule, IsSet, IsTemplate, is_attribute}
use Rattle.xs_compile.specs.Labels.{own_label}
use Rattle.xs_compile.specs.Represents.{IsSheet}
use Rattle.xs_result_laws.specs.Named.{AreNamedBindings, AreNamedBodies, AreNamedWhens, IsNamedAlias, IsNamedBinding, IsNamedBody, IsNamedChoice}
use Rattle.xs_result_laws.specs.Named.{IsNamedContent, IsNamedFallbacks, IsNamedKind, IsNamedLabel, IsNamedMade, IsNamedPassed, IsNamedRow, IsNamedSet}
use Rattle.xs_result_laws.specs.Named.{IsNamedSheet, IsNamedSpace, IsNamedStart, IsNamedTemplate}
use Rattle.xs_result_laws.proofs.NodeLemmas.{alias_other, all_any, all_mapped, all_zipped, attributes_named, literal_named, scope_binds, spaces_named}

module _ (s : Source) (well : (m : ℕ) → AreWell (records_at s.modules m)) where
  -- ---- literal elements, and names that are made
  start_named : (p : Place) (l : LiteralStart) → reading_at s.modules p ≡ LiteralReading → IsLiteralStart s p l → IsNamedStart l
  start_named p l literal is = record {
    name = subst IsNamedLabel (sym is.name) (literal_named (records_at s.modules p.0) (well p.0) p.1 literal);
    spaces = subst (AllByRecursion IsNamedSpace) (sym is.spaces) (spaces_named (records_at s.modules p.0) (well p.0) p.1);
    attributes =
        all_zipped (IsPutAttribute s p)
        (λ a. IsNamedLabel (own_label (records_at s.modules p.0) a) × (not (is_xslt (uri_at (records_at s.modules p.0) a)) ≡ true))
        (λ (a : Label × ValueTemplate). IsNamedLabel a.0) (λ a put h r. subst IsNamedLabel (sym r.0) h.0) (put_attributes s p) l.attributes
        (attributes_named (records_at s.modules p.0) (well p.0) p.1 (λ a. not (is_xslt (uri_at (records_at s.modules p.0) a)))) is.attributes;
  }

  made_named : (p : Place) (n : MadeName) → IsMadeName s p n → IsNamedMade n
  made_named p n is = subst BindsNoXmlns (sym is.scope) (scope_binds (records_at s.modules p.0) (well p.0) p.1)

  -- ---- bodies
  mutual
    pub body_named : (ps : List Place) (body : Body) → IsBody s ps body → IsNamedBody body
    body_named ps (Body' shape row) is = instrs_named ps row is

    instrs_named : {m : _} (ps : List Place) (row : Row_of-Instr m) → AreInstrs s ps row → IsNamedRow row
    instrs_named [] end_of-Instr is = tt
    instrs_named [] (more_of-Instr site kind rest) is = absurd is
    instrs_named (p ∷ ps) end_of-Instr is = absurd is
    instrs_named (p ∷ ps) (more_of-Instr site kind rest) is = (kind_named p kind is.1, instrs_named ps rest is.2)

    pub kind_named : (p : Place) (kind : InstrKind) → IsKind s p kind → IsNamedKind kind
    kind_named p (ApplyTemplates nodes passed) is = passed_named (children_with is_with_param s.modules p) passed is.2
    kind_named p (CallTemplate template passed) is = passed_named (children_with is_with_param s.modules p) passed is.2
    kind_named p ApplyImports is = tt
    kind_named p (ForEach select sorts body) is = body_named (body_at s.modules p) body is.3
    kind_named p (ValueOf select) is = tt
    kind_named p (CopyOf select) is = tt
    kind_named p (Copy sets body) is = body_named (body_at s.modules p) body is.2
    kind_named p (Number decl) is = tt
    kind_named p (Choose choice) is = choice_named p choice is.1
    kind_named p (If test body) is = body_named (body_at s.modules p) body is.2
    kind_named p (Text text) is = tt
    kind_named p (Element name sets body) is = (made_named p name is.1, body_named (body_at s.modules p) body is.3)
    kind_named p (Attribute name body) is = (made_named p name is.1, body_named (body_at s.modules p) body is.2)
    kind_named p (Comment body) is = body_named (body_at s.modules p) body is.1
    kind_named p (Pi name body) is = body_named (body_at s.modules p) body is.2
    kind_named p (Message terminate body) is = body_named (body_at s.modules p) body is.2
    kind_named p (Variable' site name content) is = content_named p content is.3
    kind_named p (Literal start body) is = (start_named p start is.0 is.1, body_named (body_at s.modules p) body is.2)
    kind_named p (Extension fallbacks) is = fallbacks_named (children_with is_fallback s.modules p) fallbacks is.1

    pub content_named : (p : Place) (content : Content) → IsContent s p content → IsNamedContent content
    content_named p Empty is = tt
    content_named p (Select e) is = tt
    content_named p (Fragment body) is = body_named (body_at s.modules p) body is.2

    passed_named : (ps : List Place) (passed : Passed) → IsPassed s ps passed → IsNamedPassed passed
    passed_named ps (Passed' shape row) is = bindings_named ps row is

    bindings_named : {m : _} (ps : List Place) (row : Row_of-Binding m) → AreBindings s ps row → AreNamedBindings row
    bindings_named [] end_of-Binding is = tt
    bindings_named [] (more_of-Binding site name content rest) is = absurd is
    bindings_named (p ∷ ps) end_of-Binding is = absurd is
    bindings_named (p ∷ ps) (more_of-Binding site name content rest) is = (content_named p content is.2, bindings_named ps rest is.3)

    choice_named : (p : Place) (choice : Choice) → IsChoice s p choice → IsNamedChoice choice
    choice_named p (Choice' shape row otherwise) is = (
      whens_named (children_with is_when s.modules p) row is.0,
      body_named (first_body s (children_with is_otherwise s.modules p)) otherwise is.1,
    )

    whens_named : {m : _} (ps : List Place) (row : Row_of-When m) → AreWhens s ps row → AreNamedWhens row
    whens_named [] end_of-When is = tt
    whens_named [] (more_of-When when rest) is = absurd is
    whens_named (p ∷ ps) end_of-When is = absurd is
    whens_named (p ∷ ps) (more_of-When (When' test body) rest) is = (body_named (body_at s.modules p) body is.0.1, whens_named ps rest is.1)

    fallbacks_named : (ps : List Place) (fallbacks : Fallbacks) → AreFallbacks s ps fallbacks → IsNamedFallbacks fallbacks
    fallbacks_named ps (Fallbacks' shape row) is = bodies_named ps row is

    bodies_named : {m : _} (ps : List Place) (row : Row_of-Body m) → AreBodies s ps row → AreNamedBodies row
    bodies_named [] end_of-Body is = tt
    bodies_named [] (more_of-Body body rest) is = absurd is
    bodies_named (p ∷ ps) end_of-Body is = absurd is
    bodies_named (p ∷ ps) (more_of-Body body rest) is = (body_named (body_at s.modules p) body is.0, bodies_named ps rest is.1)

  -- ---- declarations
  -- of parts that represent places, one by one
  each_named : {B : Type 0} (R : Place → B → Type 0) (P : B → Type 0) → ((p : Place) (x : B) → R p x → P x) → (ps : List Place) (xs : List B)
      → AllZip R ps xs → AllByRecursion P xs
  each_named R P step ps xs z = all_zipped R (λ p. Unit {0}) P (λ p x u r. step p x r) ps xs (all_any ps) z

  params_named : (p : Place) (bs : List Binding) → AllZip (IsBinding s) (children_with is_param s.modules p) bs → AllByRecursion IsNamedBinding bs
  params_named p bs z = each_named (IsBinding s) IsNamedBinding (λ q b is. content_named q b.content is.content) (children_with is_param s.modules p) bs z

  rule_named : (is_rule : Bool) (p : Place) (t : Template) → IsRuleOrModule is_rule s p t → IsNamedTemplate t
  rule_named true p t is = record { params = params_named p t.params is.params; body = body_named (body_at s.modules p) t.body is.body }
  rule_named false p t is = record {
    params = subst (AllByRecursion IsNamedBinding) (sym is.params) tt;
    body = body_named (p ∷ []) t.body is.body;
  }

  template_named : (p : Place) (t : Template) → IsTemplate s p t → IsNamedTemplate t
  template_named p t is = rule_named (is_template (tag_at s.modules p)) p t is.rest

  global_named : (p : Place) (g : Global) → IsGlobal s p g → IsNamedBinding g.binding
  global_named p g is = content_named p g.binding.content is.binding.content

  instr_named : (p : Place) (i : Instr) → IsInstr s p i → IsNamedKind i.kind
  instr_named p i is = kind_named p i.kind is.kind

  set_named : (p : Place) (a : AttrSet) → IsSet s p a → IsNamedSet a
  set_named p a is =
      each_named (IsInstr s) (λ (i : Instr). IsNamedKind i.kind) instr_named (children_with is_attribute s.modules p) a.attributes is.attributes

  aliases_named : AllByRecursion IsNamedAlias (aliases s.modules)
  aliases_named =
      all_mapped IsNamedAlias (λ p. Unit {0}) (alias_at s.modules)
      (λ p u. alias_other (records_at s.modules p.0) (well p.0) p.1 (said_at s.modules p (codes "result-prefix")))
      (filter (is_counted_alias s.modules) (all_with is_alias s.modules)) (all_any (filter (is_counted_alias s.modules) (all_with is_alias s.modules)))

  pub sheet_named : (sheet : Sheet) → IsSheet s sheet → IsNamedSheet sheet
  sheet_named sheet is = record {
    templates = each_named (IsTemplate s) IsNamedTemplate template_named (templates s.modules) sheet.templates is.templates;
    globals =
        each_named (IsGlobal s) (λ (g : Global). IsNamedBinding g.binding) global_named (globals s.modules) sheet.globals is.globals;
    sets = each_named (IsSet s) IsNamedSet set_named (all_with is_attribute_set s.modules) sheet.sets is.sets;
    aliases = subst (AllByRecursion IsNamedAlias) (sym is.aliases) aliases_named;
  }
