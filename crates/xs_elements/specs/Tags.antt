-- The elements of XSLT 1.0, by their names.
use Rattle.std.specs.Prelude.{ℕ, ◌&&◌, Bool, true, false, List, [], ◌∷◌, ◌++◌, find, codes, if◌then◌else◌}
use Rattle.std.specs.Borrow.{Bor}
use Rattle.std.specs.Option.{option_map_or}
use Rattle.std.specs.Str.{bytes_eq}
use Rattle.xs_elements.specs.declared.tags.Tag.{Tag}
use Rattle.xs_elements.specs.declared.tags.Tag.TheVariants.{Stylesheet, Import, Include, StripSpace, PreserveSpace, Output, Key, DecimalFormat, NamespaceAlias, AttributeSet, Variable, Param, Template, ApplyTemplates, CallTemplate, ApplyImports, ForEach, ValueOf, CopyOf, Copy, Number, Choose, When, Otherwise, If, Text, Element, Attribute, Comment, ProcessingInstruction, Message, Fallback, Sort, WithParam, Unknown, Other, NoElement}
use Rattle.xs_tree.specs.Kinds.{is_element_kind}
use Rattle.xs_tree.specs.Record.{Record, at, is_place, uri_at, local_at}

-- the namespace of XSLT's elements (XSLT 1.0, 2.1)
abbrev pub xslt_uri : List ℕ
xslt_uri = codes "http://www.w3.org/1999/XSL/Transform"

-- the stylesheet's element under either of its names, and the elements of the top level (XSLT 1.0, 2.2)
abbrev pub top_level_tags : List (List ℕ × Tag)
top_level_tags =
    (codes "stylesheet", Stylesheet)
    ∷ (codes "transform", Stylesheet)
    ∷ (codes "import", Import)
    ∷ (codes "include", Include)
    ∷ (codes "strip-space", StripSpace)
    ∷ (codes "preserve-space", PreserveSpace)
    ∷ (codes "output", Output)
    ∷ (codes "key", Key)
    ∷ (codes "decimal-format", DecimalFormat)
    ∷ (codes "namespace-alias", NamespaceAlias)
    ∷ (codes "attribute-set", AttributeSet)
    ∷ (codes "variable", Variable)
    ∷ (codes "param", Param)
    ∷ (codes "template", Template)
    ∷ []

-- the instructions, except variables, which stand among those above (XSLT 1.0, 5 to 9, 11 and 13)
abbrev pub instruction_tags : List (List ℕ × Tag)
instruction_tags =
    (codes "apply-templates", ApplyTemplates)
    ∷ (codes "call-template", CallTemplate)
    ∷ (codes "apply-imports", ApplyImports)
    ∷ (codes "for-each", ForEach)
    ∷ (codes "value-of", ValueOf)
    ∷ (codes "copy-of", CopyOf)
    ∷ (codes "copy", Copy)
    ∷ (codes "number", Number)
    ∷ (codes "choose", Choose)
    ∷ (codes "if", If)
    ∷ (codes "text", Text)
    ∷ (codes "element", Element)
    ∷ (codes "attribute", Attribute)
    ∷ (codes "comment", Comment)
    ∷ (codes "processing-instruction", ProcessingInstruction)
    ∷ (codes "message", Message)
    ∷ []

-- the parts of instructions (XSLT 1.0, 9.2, 10, 11.6 and 15)
abbrev pub part_tags : List (List ℕ × Tag)
part_tags =
    (codes "when", When)
    ∷ (codes "otherwise", Otherwise)
    ∷ (codes "fallback", Fallback)
    ∷ (codes "sort", Sort)
    ∷ (codes "with-param", WithParam)
    ∷ []

abbrev pub named_tags : List (List ℕ × Tag)
named_tags = top_level_tags ++ (instruction_tags ++ part_tags)

abbrev pub is_tag_name : List ℕ → List ℕ × Tag → Bool
is_tag_name local named = bytes_eq named.0 local

-- the element of XSLT with this local part; any other local part is unknown
unfoldable pub tag_named : List ℕ → Tag
tag_named local = option_map_or (λ named. named.1) (find (is_tag_name local) named_tags) Unknown

-- a name with its element as the code has them
abbrev pub tag_data : Tag × Bor (List ℕ) → List ℕ × Tag
tag_data named = (named.1.now, named.0)

-- What a node is. An element is XSLT's by its namespace, whatever its prefix (XSLT 1.0, 2.1).
abbrev pub tag_of : List Record → ℕ → Tag
tag_of rs n = if is_element_kind (at rs n).kind then (if bytes_eq (uri_at rs n) xslt_uri then tag_named (local_at rs n) else Other) else NoElement

-- ---- kinds of element
abbrev pub is_stylesheet : Tag → Bool
is_stylesheet Stylesheet = true
is_stylesheet _ = false

abbrev pub is_import : Tag → Bool
is_import Import = true
is_import _ = false

abbrev pub is_decimal_format : Tag → Bool
is_decimal_format DecimalFormat = true
is_decimal_format _ = false

-- an element that binds a variable (XSLT 1.0, 11)
abbrev pub is_variable : Tag → Bool
is_variable Variable = true
is_variable Param = true
is_variable _ = false

abbrev pub is_param : Tag → Bool
is_param Param = true
is_param _ = false

abbrev pub is_template : Tag → Bool
is_template Template = true
is_template _ = false

abbrev pub is_attribute_set : Tag → Bool
is_attribute_set AttributeSet = true
is_attribute_set _ = false

abbrev pub is_call_template : Tag → Bool
is_call_template CallTemplate = true
is_call_template _ = false

abbrev pub is_when : Tag → Bool
is_when When = true
is_when _ = false

abbrev pub is_fallback : Tag → Bool
is_fallback Fallback = true
is_fallback _ = false

abbrev pub is_sort : Tag → Bool
is_sort Sort = true
is_sort _ = false

-- an element that is not XSLT's
abbrev pub is_other : Tag → Bool
is_other Other = true
is_other _ = false

-- ---- where an element stands
-- the document's element: its parent is the root
abbrev pub is_document_element : List Record → ℕ → Bool
is_document_element rs n = is_place 0 (at rs n).parent

-- a child of an `xsl:stylesheet` that is the document's element (XSLT 1.0, 2.2)
abbrev pub is_sheet : List Record → ℕ → Bool
is_sheet rs n = is_stylesheet (tag_of rs n) && is_document_element rs n

abbrev pub is_top_level : List Record → ℕ → Bool
is_top_level rs n = option_map_or (is_sheet rs) (at rs n).parent false
