-- The attributes of each element.
use Rattle.std.specs.Prelude.{ℕ, Bool, true, false, List, [], ◌∷◌, Option, codes, find}
use Rattle.std.specs.Str.{bytes_eq}
use Rattle.xs_elements.specs.declared.attributes.Attribute.{Attribute as Entry}
use Rattle.xs_elements.specs.declared.attributes.Need.{Need}
use Rattle.xs_elements.specs.declared.attributes.Need.TheVariants.{Required, Optional}
use Rattle.xs_elements.specs.declared.forms.Form.{Form}
use Rattle.xs_elements.specs.declared.forms.Form.TheVariants.{Anything, Version, Expression, KeyUse, TemplatePattern, KeyPattern, NumberPattern, ValueTemplate, YesOrNo, Level, Name, Names, Sets, Tests, Prefix, Prefixes, Priority}
use Rattle.xs_elements.specs.declared.tags.Tag.{Tag}
use Rattle.xs_elements.specs.declared.tags.Tag.TheVariants.{Stylesheet, Import, Include, StripSpace, PreserveSpace, Output, Key, DecimalFormat, NamespaceAlias, AttributeSet, Variable, Param, Template, ApplyTemplates, CallTemplate, ApplyImports, ForEach, ValueOf, CopyOf, Copy, Number, Choose, When, Otherwise, If, Text, Element, Attribute, Comment, ProcessingInstruction, Message, Fallback, Sort, WithParam, Unknown, Other, NoElement}

-- An attribute that an element may have: its local part, whether it has to be there, and what its value has to be.
pub record Allowed : Type 0 where
  pub name : List ℕ
  pub is_required : Bool
  pub form : Form

abbrev pub required : List ℕ → Form → Allowed
required name form = record { name = name; is_required = true; form = form }

abbrev pub optional : List ℕ → Form → Allowed
optional name form = record { name = name; is_required = false; form = form }

-- the attributes of a binding (XSLT 1.0, 11 and 11.6)
abbrev pub binding_attributes : List Allowed
binding_attributes = required (codes "name") Name ∷ optional (codes "select") Expression ∷ []

-- the attributes of `xsl:output` (XSLT 1.0, 16)
abbrev pub output_attributes : List Allowed
output_attributes =
    optional (codes "method") Name
    ∷ optional (codes "version") Anything
    ∷ optional (codes "encoding") Anything
    ∷ optional (codes "omit-xml-declaration") YesOrNo
    ∷ optional (codes "standalone") YesOrNo
    ∷ optional (codes "doctype-public") Anything
    ∷ optional (codes "doctype-system") Anything
    ∷ optional (codes "cdata-section-elements") Names
    ∷ optional (codes "indent") YesOrNo
    ∷ optional (codes "media-type") Anything
    ∷ []

-- the attributes of `xsl:number` (XSLT 1.0, 7.7)
abbrev pub number_attributes : List Allowed
number_attributes =
    optional (codes "level") Level
    ∷ optional (codes "count") NumberPattern
    ∷ optional (codes "from") NumberPattern
    ∷ optional (codes "value") Expression
    ∷ optional (codes "format") ValueTemplate
    ∷ optional (codes "lang") ValueTemplate
    ∷ optional (codes "letter-value") ValueTemplate
    ∷ optional (codes "grouping-separator") ValueTemplate
    ∷ optional (codes "grouping-size") ValueTemplate
    ∷ []

-- The attributes of an element: of one of XSLT those in no namespace, of another one those in XSLT's. That the document's element
-- has a version, and a template one of `match` and `name`, is asked beside.
abbrev pub attributes_of : Tag → List Allowed
-- 2.2, 14.1, 7.1.1
attributes_of Stylesheet =
    optional (codes "version") Version
    ∷ optional (codes "id") Anything
    ∷ optional (codes "extension-element-prefixes") Prefixes
    ∷ optional (codes "exclude-result-prefixes") Prefixes
    ∷ []
-- 2.6
attributes_of Import = required (codes "href") Anything ∷ []
attributes_of Include = required (codes "href") Anything ∷ []
-- 3.4
attributes_of StripSpace = required (codes "elements") Tests ∷ []
attributes_of PreserveSpace = required (codes "elements") Tests ∷ []
-- 16
attributes_of Output = output_attributes
-- 12.2
attributes_of Key = required (codes "name") Name ∷ required (codes "match") KeyPattern ∷ required (codes "use") KeyUse ∷ []
-- 7.1.1
attributes_of NamespaceAlias = required (codes "stylesheet-prefix") Prefix ∷ required (codes "result-prefix") Prefix ∷ []
-- 7.1.4
attributes_of AttributeSet = required (codes "name") Name ∷ optional (codes "use-attribute-sets") Sets ∷ []
-- 11
attributes_of Variable = binding_attributes
attributes_of Param = binding_attributes
attributes_of WithParam = binding_attributes
-- 5.3
attributes_of Template =
    optional (codes "match") TemplatePattern
    ∷ optional (codes "name") Name
    ∷ optional (codes "priority") Priority
    ∷ optional (codes "mode") Name
    ∷ []
-- 5.4
attributes_of ApplyTemplates = optional (codes "select") Expression ∷ optional (codes "mode") Name ∷ []
-- 6
attributes_of CallTemplate = required (codes "name") Name ∷ []
-- 8
attributes_of ForEach = required (codes "select") Expression ∷ []
-- 7.6.1
attributes_of ValueOf = required (codes "select") Expression ∷ optional (codes "disable-output-escaping") YesOrNo ∷ []
-- 11.3
attributes_of CopyOf = required (codes "select") Expression ∷ []
-- 7.5
attributes_of Copy = optional (codes "use-attribute-sets") Sets ∷ []
-- 7.7
attributes_of Number = number_attributes
-- 9.1, 9.2
attributes_of If = required (codes "test") Expression ∷ []
attributes_of When = required (codes "test") Expression ∷ []
-- 7.2
attributes_of Text = optional (codes "disable-output-escaping") YesOrNo ∷ []
-- 7.1.2
attributes_of Element =
    required (codes "name") ValueTemplate ∷ optional (codes "namespace") ValueTemplate ∷ optional (codes "use-attribute-sets") Sets ∷ []
-- 7.1.3
attributes_of Attribute = required (codes "name") ValueTemplate ∷ optional (codes "namespace") ValueTemplate ∷ []
-- 7.3
attributes_of ProcessingInstruction = required (codes "name") ValueTemplate ∷ []
-- 13
attributes_of Message = optional (codes "terminate") YesOrNo ∷ []
-- 10
attributes_of Sort =
    optional (codes "select") Expression
    ∷ optional (codes "lang") ValueTemplate
    ∷ optional (codes "data-type") ValueTemplate
    ∷ optional (codes "order") ValueTemplate
    ∷ optional (codes "case-order") ValueTemplate
    ∷ []
-- 7.1.4, 7.1.1, 14.1, 2.3; that there are no others is this project's own
attributes_of Other =
    optional (codes "use-attribute-sets") Sets
    ∷ optional (codes "exclude-result-prefixes") Prefixes
    ∷ optional (codes "extension-element-prefixes") Prefixes
    ∷ optional (codes "version") Version
    ∷ []
-- 5.6, 9.2, 7.4, 15
attributes_of ApplyImports = []
attributes_of Choose = []
attributes_of Otherwise = []
attributes_of Comment = []
attributes_of Fallback = []
-- not read
attributes_of DecimalFormat = []
attributes_of Unknown = []
attributes_of NoElement = []

abbrev pub is_allowed_name : List ℕ → Allowed → Bool
is_allowed_name local a = bytes_eq a.name local

-- the attribute of an element with this local part, if it may have one
abbrev pub allowed : Tag → List ℕ → Option Allowed
allowed tag local = find (is_allowed_name local) (attributes_of tag)

-- ---- the entries of the code's tables
abbrev pub is_required : Need → Bool
is_required Required = true
is_required Optional = false

-- an entry as an attribute that an element may have
abbrev pub allowed_data : Entry → Allowed
allowed_data a = record { name = a.0.now; is_required = is_required a.1; form = a.2 }
