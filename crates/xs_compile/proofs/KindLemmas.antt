-- What an instruction that represents a place is, by the place alone.
use Rattle.std.proofs.Common.{◌≡◌, ℕ, ◌==◌, Bool, true, false, refl, sym, ap, ◌∙◌, arith}
use Rattle.std.proofs.lemmas.Bool.Decides.{nat_tests}
use Rattle.std.proofs.lemmas.Bool.{true≢false}
use Rattle.xs_elements.specs.declared.reading.Reading.{Reading}
use Rattle.xs_elements.specs.declared.reading.Reading.TheVariants.{Known as KnownReading, Literal as LiteralReading, Extension as ExtensionReading, Unread as UnreadReading}
use Rattle.xs_elements.specs.declared.tags.Tag.{Tag}
use Rattle.xs_elements.specs.declared.tags.Tag.TheVariants.{Variable as VariableTag, ApplyTemplates as ApplyTemplatesTag, CallTemplate as CallTemplateTag, ApplyImports as ApplyImportsTag, ForEach as ForEachTag, ValueOf as ValueOfTag, CopyOf as CopyOfTag, Copy as CopyTag, Number as NumberTag, Choose as ChooseTag, If as IfTag, Text as TextTag, Element as ElementTag, Attribute as AttributeTag, Comment as CommentTag, ProcessingInstruction as PiTag, Message as MessageTag, Other, NoElement}
use Rattle.xs_elements.specs.Reading.{reading_by, is_in_extension}
use Rattle.xs_elements.specs.Tags.{is_top_level}
use Rattle.xs_sheet.specs.declared.body.InstrKind.{InstrKind, Variable'}
use Rattle.xs_sheet.specs.declared.body.InstrKind.TheVariants.{ApplyTemplates, CallTemplate, ApplyImports, ForEach, ValueOf, CopyOf, Copy, Number, Choose, If, Text, Element, Attribute, Comment, Pi, Message, Literal, Extension}
use Rattle.xs_structure.specs.Modules.{Place, records_at}
use Rattle.xs_structure.specs.Parts.{reading_at, tag_at}
use Rattle.xs_compile.specs.Bodies.{Source, IsKind, is_text_or_element}

-- the kinds of instructions, numbered
abbrev pub kind_number : InstrKind → ℕ
kind_number (ApplyTemplates nodes passed) = 1
kind_number (CallTemplate i passed) = 2
kind_number ApplyImports = 3
kind_number (ForEach select sorts body) = 4
kind_number (ValueOf select) = 5
kind_number (CopyOf select) = 6
kind_number (Copy sets body) = 7
kind_number (Number decl) = 8
kind_number (Choose choice) = 9
kind_number (If test body) = 10
kind_number (Text text) = 11
kind_number (Element name sets body) = 12
kind_number (Attribute name body) = 13
kind_number (Comment body) = 14
kind_number (Pi name body) = 15
kind_number (Message terminate body) = 16
kind_number (Variable' site name content) = 17
kind_number (Literal start body) = 18
kind_number (Extension fallbacks) = 19

-- the same of what is read at a place
abbrev other_tag : Reading → ℕ
other_tag KnownReading = 0
other_tag LiteralReading = 18
other_tag ExtensionReading = 19
other_tag UnreadReading = 0

abbrev pub place_tag : Tag → Reading → ℕ
place_tag ApplyTemplatesTag d = 1
place_tag CallTemplateTag d = 2
place_tag ApplyImportsTag d = 3
place_tag ForEachTag d = 4
place_tag ValueOfTag d = 5
place_tag CopyOfTag d = 6
place_tag CopyTag d = 7
place_tag NumberTag d = 8
place_tag ChooseTag d = 9
place_tag IfTag d = 10
place_tag TextTag d = 11
place_tag NoElement d = 11
place_tag ElementTag d = 12
place_tag AttributeTag d = 13
place_tag CommentTag d = 14
place_tag PiTag d = 15
place_tag MessageTag d = 16
place_tag VariableTag d = 17
place_tag Other d = other_tag d
place_tag _ d = 0

text-kind_number : (r : Tag) (d : Reading) → is_text_or_element r ≡ true → 11 ≡ place_tag r d
text-kind_number NoElement d h = refl
text-kind_number TextTag d h = refl
text-kind_number _ d h = absurd (true≢false (sym h))

abbrev is_literal : Reading → Bool
is_literal LiteralReading = true
is_literal _ = false

abbrev is_extension : Reading → Bool
is_extension ExtensionReading = true
is_extension _ = false

literal-kind_number : (r : Tag) (top ext : Bool) → reading_by r top ext ≡ LiteralReading → 18 ≡ place_tag r (reading_by r top ext)
literal-kind_number Other top ext h = sym (ap (λ d. place_tag Other d) h)
literal-kind_number _ top ext h = absurd (true≢false (sym (ap is_literal h)))

extension-kind_number : (r : Tag) (top ext : Bool) → reading_by r top ext ≡ ExtensionReading → 19 ≡ place_tag r (reading_by r top ext)
extension-kind_number Other top ext h = sym (ap (λ d. place_tag Other d) h)
extension-kind_number _ top ext h = absurd (true≢false (sym (ap is_extension h)))

abbrev kind_number_at : Source → Place → ℕ
kind_number_at s p = place_tag (tag_at s.modules p) (reading_at s.modules p)

by-tag : (s : Source) (p : Place) (r : Tag) → tag_at s.modules p ≡ r → place_tag r (reading_at s.modules p) ≡ kind_number_at s p
by-tag s p r h = sym (ap (λ x. place_tag x (reading_at s.modules p)) h)

pub kind-kind_number : (s : Source) (p : Place) (k : InstrKind) → IsKind s p k → kind_number k ≡ kind_number_at s p
kind-kind_number s p (ApplyTemplates nodes passed) h = by-tag s p ApplyTemplatesTag h.0
kind-kind_number s p (CallTemplate i passed) h = by-tag s p CallTemplateTag h.0
kind-kind_number s p ApplyImports h = by-tag s p ApplyImportsTag h
kind-kind_number s p (ForEach select sorts body) h = by-tag s p ForEachTag h.0
kind-kind_number s p (ValueOf select) h = by-tag s p ValueOfTag h.0
kind-kind_number s p (CopyOf select) h = by-tag s p CopyOfTag h.0
kind-kind_number s p (Copy sets body) h = by-tag s p CopyTag h.0
kind-kind_number s p (Number decl) h = by-tag s p NumberTag h.0
kind-kind_number s p (Choose choice) h = by-tag s p ChooseTag h.0
kind-kind_number s p (If test body) h = by-tag s p IfTag h.0
kind-kind_number s p (Text text) h = text-kind_number (tag_at s.modules p) (reading_at s.modules p) h.0
kind-kind_number s p (Element name sets body) h = by-tag s p ElementTag h.0
kind-kind_number s p (Attribute name body) h = by-tag s p AttributeTag h.0
kind-kind_number s p (Comment body) h = by-tag s p CommentTag h.0
kind-kind_number s p (Pi name body) h = by-tag s p PiTag h.0
kind-kind_number s p (Message terminate body) h = by-tag s p MessageTag h.0
kind-kind_number s p (Variable' site name content) h = by-tag s p VariableTag h.0
kind-kind_number s p (Literal start body) h =
    literal-kind_number (tag_at s.modules p) (is_top_level (records_at s.modules p.0) p.1) (is_in_extension (records_at s.modules p.0) p.1) h.0
kind-kind_number s p (Extension fallbacks) h =
    extension-kind_number (tag_at s.modules p) (is_top_level (records_at s.modules p.0) p.1) (is_in_extension (records_at s.modules p.0) p.1) h.0

-- ---- an instruction with a kind_number
apart : (m n : ℕ) → (m == n) ≡ false → m ≡ n → ⊥
apart m n h e = let t : (m == n) ≡ true = grind (arith, nat_tests, e) in true≢false (sym t ∙ h)

pub by-applies : (P : InstrKind → Type 0) → ((x : _) (y : _) → P (ApplyTemplates x y)) → (k : InstrKind) → kind_number k ≡ 1 → P k
by-applies P h (ApplyTemplates x y) e = h x y
by-applies P h k e = absurd (apart (kind_number k) 1 refl e)

pub by-calls : (P : InstrKind → Type 0) → ((x : _) (y : _) → P (CallTemplate x y)) → (k : InstrKind) → kind_number k ≡ 2 → P k
by-calls P h (CallTemplate x y) e = h x y
by-calls P h k e = absurd (apart (kind_number k) 2 refl e)

pub by-imports : (P : InstrKind → Type 0) → P ApplyImports → (k : InstrKind) → kind_number k ≡ 3 → P k
by-imports P h ApplyImports e = h
by-imports P h k e = absurd (apart (kind_number k) 3 refl e)

pub by-each : (P : InstrKind → Type 0) → ((x : _) (y : _) (z : _) → P (ForEach x y z)) → (k : InstrKind) → kind_number k ≡ 4 → P k
by-each P h (ForEach x y z) e = h x y z
by-each P h k e = absurd (apart (kind_number k) 4 refl e)

pub by-value : (P : InstrKind → Type 0) → ((x : _) → P (ValueOf x)) → (k : InstrKind) → kind_number k ≡ 5 → P k
by-value P h (ValueOf x) e = h x
by-value P h k e = absurd (apart (kind_number k) 5 refl e)

pub by-copy-of : (P : InstrKind → Type 0) → ((x : _) → P (CopyOf x)) → (k : InstrKind) → kind_number k ≡ 6 → P k
by-copy-of P h (CopyOf x) e = h x
by-copy-of P h k e = absurd (apart (kind_number k) 6 refl e)

pub by-copy : (P : InstrKind → Type 0) → ((x : _) (y : _) → P (Copy x y)) → (k : InstrKind) → kind_number k ≡ 7 → P k
by-copy P h (Copy x y) e = h x y
by-copy P h k e = absurd (apart (kind_number k) 7 refl e)

pub by-number : (P : InstrKind → Type 0) → ((x : _) → P (Number x)) → (k : InstrKind) → kind_number k ≡ 8 → P k
by-number P h (Number x) e = h x
by-number P h k e = absurd (apart (kind_number k) 8 refl e)

pub by-choose : (P : InstrKind → Type 0) → ((x : _) → P (Choose x)) → (k : InstrKind) → kind_number k ≡ 9 → P k
by-choose P h (Choose x) e = h x
by-choose P h k e = absurd (apart (kind_number k) 9 refl e)

pub by-if : (P : InstrKind → Type 0) → ((x : _) (y : _) → P (If x y)) → (k : InstrKind) → kind_number k ≡ 10 → P k
by-if P h (If x y) e = h x y
by-if P h k e = absurd (apart (kind_number k) 10 refl e)

pub by-text : (P : InstrKind → Type 0) → ((x : _) → P (Text x)) → (k : InstrKind) → kind_number k ≡ 11 → P k
by-text P h (Text x) e = h x
by-text P h k e = absurd (apart (kind_number k) 11 refl e)

pub by-element : (P : InstrKind → Type 0) → ((x : _) (y : _) (z : _) → P (Element x y z)) → (k : InstrKind) → kind_number k ≡ 12 → P k
by-element P h (Element x y z) e = h x y z
by-element P h k e = absurd (apart (kind_number k) 12 refl e)

pub by-attribute : (P : InstrKind → Type 0) → ((x : _) (y : _) → P (Attribute x y)) → (k : InstrKind) → kind_number k ≡ 13 → P k
by-attribute P h (Attribute x y) e = h x y
by-attribute P h k e = absurd (apart (kind_number k) 13 refl e)

pub by-comment : (P : InstrKind → Type 0) → ((x : _) → P (Comment x)) → (k : InstrKind) → kind_number k ≡ 14 → P k
by-comment P h (Comment x) e = h x
by-comment P h k e = absurd (apart (kind_number k) 14 refl e)

pub by-pi : (P : InstrKind → Type 0) → ((x : _) (y : _) → P (Pi x y)) → (k : InstrKind) → kind_number k ≡ 15 → P k
by-pi P h (Pi x y) e = h x y
by-pi P h k e = absurd (apart (kind_number k) 15 refl e)

pub by-message : (P : InstrKind → Type 0) → ((x : _) (y : _) → P (Message x y)) → (k : InstrKind) → kind_number k ≡ 16 → P k
by-message P h (Message x y) e = h x y
by-message P h k e = absurd (apart (kind_number k) 16 refl e)

pub by-variable : (P : InstrKind → Type 0) → ((x : _) (y : _) (z : _) → P (Variable' x y z)) → (k : InstrKind) → kind_number k ≡ 17 → P k
by-variable P h (Variable' x y z) e = h x y z
by-variable P h k e = absurd (apart (kind_number k) 17 refl e)

pub by-literal : (P : InstrKind → Type 0) → ((x : _) (y : _) → P (Literal x y)) → (k : InstrKind) → kind_number k ≡ 18 → P k
by-literal P h (Literal x y) e = h x y
by-literal P h k e = absurd (apart (kind_number k) 18 refl e)

pub by-extension : (P : InstrKind → Type 0) → ((x : _) → P (Extension x)) → (k : InstrKind) → kind_number k ≡ 19 → P k
by-extension P h (Extension x) e = h x
by-extension P h k e = absurd (apart (kind_number k) 19 refl e)
