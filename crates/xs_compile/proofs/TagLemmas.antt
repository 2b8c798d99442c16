-- What follows of the kind of an element.
use Rattle.std.proofs.Common.{◌≡◌, ◌∙◌, ap, refl, sym, subst, Bool, true, false, List, ℕ, None, [], ◌∷◌}
use Rattle.std.proofs.lemmas.Bool.{false≢true}
use Rattle.std.proofs.lemmas.Option.{none-some}
use Rattle.std.specs.Prelude.{codes, slice_get}
use Rattle.xs_compile.specs.Bodies.{Source, first_body}
use Rattle.xs_structure.specs.Parts.{reading_at, tag_at}
use Rattle.xs_compile.specs.steps.Tags.{has_name, holds_body, is_binding, is_body_tag, takes_expression}
use Rattle.xs_elements.specs.declared.reading.Reading.TheVariants.{Known, Literal, Extension}
use Rattle.xs_elements.specs.declared.tags.Tag.{Tag}
use Rattle.xs_elements.specs.declared.tags.Tag.TheVariants.{Variable, Param, ApplyTemplates, CallTemplate, ApplyImports, ForEach, ValueOf, CopyOf, Copy, Number, Choose, If, Text, Element, Attribute, Comment, ProcessingInstruction, Message, WithParam, Other, NoElement}
use Rattle.xs_elements.specs.Nodes.{has}
use Rattle.xs_elements.specs.Reading.{content_at, content_by, is_in_extension, reading_by, reading_of}
use Rattle.xs_elements.specs.Tags.{is_top_level, tag_of}
use Rattle.xs_modules.specs.Numbering.{ModuleData}
use Rattle.xs_structure.specs.Modules.{Place, records_at}
use Rattle.xs_tree.specs.Record.{Record}

-- a test of an element's kind
pub tag-holds : (test : Tag → Bool) (tag own : Tag) → own ≡ tag → test tag ≡ true → test own ≡ true
tag-holds test tag own e h = subst (λ (r : Tag). test r ≡ true) (sym e) h

-- an element of XSLT
pub tag-known : (ms : List ModuleData) (p : Place) (tag : Tag) → tag_at ms p ≡ tag → ((a b : Bool) → reading_by tag a b ≡ Known) → reading_at ms p ≡ Known
tag-known ms p tag e known =
    ap (λ (r : Tag). reading_by r (is_top_level (records_at ms p.0) p.1) (is_in_extension (records_at ms p.0) p.1)) e
    ∙ known (is_top_level (records_at ms p.0) p.1) (is_in_extension (records_at ms p.0) p.1)

-- an element that has a body
pub tag-body : (rs : List Record) (n : ℕ) (tag : Tag) → tag_of rs n ≡ tag → ((a b s : Bool) → holds_body (content_by (reading_by tag a b) tag s) ≡ true)
    → holds_body (content_at rs n) ≡ true
tag-body rs n tag e holds =
    ap (λ (r : Tag). holds_body (content_by (reading_by r (is_top_level rs n) (is_in_extension rs n)) r (has rs n (codes "select")))) e
    ∙ holds (is_top_level rs n) (is_in_extension rs n) (has rs n (codes "select"))

pub binding-takes : (tag : Tag) → is_binding tag ≡ true → takes_expression tag (codes "select") ≡ true
binding-takes Variable h = refl
binding-takes Param h = refl
binding-takes WithParam h = refl
binding-takes _ h = absurd (false≢true h)

pub binding-named : (tag : Tag) → is_binding tag ≡ true → has_name tag ≡ true
binding-named Variable h = refl
binding-named Param h = refl
binding-named WithParam h = refl
binding-named _ h = absurd (false≢true h)

-- an element that is no XSLT, and not of the top level
pub other-reading : (rs : List Record) (n : ℕ) → tag_of rs n ≡ Other → is_top_level rs n ≡ false → (reading_of rs n ≡ Literal → ⊥) → (reading_of rs n
    ≡ Extension → ⊥) → ⊥
other-reading rs n e inner literal extension = by_extension (is_in_extension rs n) refl
  where
    by_extension : (b : Bool) → is_in_extension rs n ≡ b → ⊥
    by_extension true f = extension (ap (λ (r : Tag). reading_by r (is_top_level rs n) (is_in_extension rs n)) e
        ∙ ap (λ (b : Bool). reading_by Other b (is_in_extension rs n)) inner ∙ ap (λ (b : Bool). reading_by Other false b) f)
    by_extension false f = literal (ap (λ (r : Tag). reading_by r (is_top_level rs n) (is_in_extension rs n)) e
        ∙ ap (λ (b : Bool). reading_by Other b (is_in_extension rs n)) inner ∙ ap (λ (b : Bool). reading_by Other false b) f)

-- ---- the first of some places

pub first-none : (s : Source) (ps : List Place) → slice_get ps 0 ≡ None → first_body s ps ≡ []
first-none s [] e = refl
first-none s (q ∷ qs) e = absurd (none-some q (sym e))

-- ---- what is in a body
pub record IsNone (tag : Tag) : Type 0 where
  pub not_NoElement : tag ≡ NoElement → ⊥
  pub not_Text : tag ≡ Text → ⊥
  pub not_ApplyTemplates : tag ≡ ApplyTemplates → ⊥
  pub not_CallTemplate : tag ≡ CallTemplate → ⊥
  pub not_ApplyImports : tag ≡ ApplyImports → ⊥
  pub not_ForEach : tag ≡ ForEach → ⊥
  pub not_ValueOf : tag ≡ ValueOf → ⊥
  pub not_CopyOf : tag ≡ CopyOf → ⊥
  pub not_Copy : tag ≡ Copy → ⊥
  pub not_Number : tag ≡ Number → ⊥
  pub not_Choose : tag ≡ Choose → ⊥
  pub not_If : tag ≡ If → ⊥
  pub not_Variable : tag ≡ Variable → ⊥
  pub not_Element : tag ≡ Element → ⊥
  pub not_Attribute : tag ≡ Attribute → ⊥
  pub not_Comment : tag ≡ Comment → ⊥
  pub not_ProcessingInstruction : tag ≡ ProcessingInstruction → ⊥
  pub not_Message : tag ≡ Message → ⊥
  pub not_Other : tag ≡ Other → ⊥

pub body-tag-is : (tag : Tag) → is_body_tag tag ≡ true → IsNone tag → ⊥
body-tag-is Variable h none = none.not_Variable refl
body-tag-is ApplyTemplates h none = none.not_ApplyTemplates refl
body-tag-is CallTemplate h none = none.not_CallTemplate refl
body-tag-is ApplyImports h none = none.not_ApplyImports refl
body-tag-is ForEach h none = none.not_ForEach refl
body-tag-is ValueOf h none = none.not_ValueOf refl
body-tag-is CopyOf h none = none.not_CopyOf refl
body-tag-is Copy h none = none.not_Copy refl
body-tag-is Number h none = none.not_Number refl
body-tag-is Choose h none = none.not_Choose refl
body-tag-is If h none = none.not_If refl
body-tag-is Text h none = none.not_Text refl
body-tag-is Element h none = none.not_Element refl
body-tag-is Attribute h none = none.not_Attribute refl
body-tag-is Comment h none = none.not_Comment refl
body-tag-is ProcessingInstruction h none = none.not_ProcessingInstruction refl
body-tag-is Message h none = none.not_Message refl
body-tag-is Other h none = none.not_Other refl
body-tag-is NoElement h none = none.not_NoElement refl
body-tag-is _ h none = false≢true h
