-- What may stand in each element.
use Rattle.std.specs.Prelude.{◌&&◌, ◌||◌, Bool, true, false, List, [], ◌∷◌, if◌then◌else◌}
use Rattle.std.specs.List.{list_all}
use Rattle.xs_elements.specs.declared.contents.Before.{Before}
use Rattle.xs_elements.specs.declared.contents.Content.{Content}
use Rattle.xs_elements.specs.declared.contents.Content.TheVariants.{Nothing, TopLevel, Attributes, SortsAndParameters, Parameters, Branches, TextAlone, Body, ParametersAndBody, SortsAndBody, Unread}
use Rattle.xs_elements.specs.declared.tags.Tag.{Tag}
use Rattle.xs_elements.specs.declared.tags.Tag.TheVariants.{Stylesheet, Import, Include, StripSpace, PreserveSpace, Output, Key, DecimalFormat, NamespaceAlias, AttributeSet, Variable, Param, Template, ApplyTemplates, CallTemplate, ApplyImports, ForEach, ValueOf, CopyOf, Copy, Number, Choose, When, Otherwise, If, Text, Element, Attribute, Comment, ProcessingInstruction, Message, Fallback, Sort, WithParam, Unknown, Other, NoElement}
use Rattle.xs_elements.specs.Tags.{is_import, is_param, is_sort, is_when}

-- The content of an element of XSLT. A binding with a `select` has none (XSLT 1.0, 11.2).
abbrev pub content_of : Tag → (has_select : Bool) → Content
-- 2.2
content_of Stylesheet has_select = TopLevel
-- 7.1.4
content_of AttributeSet has_select = Attributes
-- 11.2, 11.6
content_of Variable has_select = if has_select then Nothing else Body
content_of Param has_select = if has_select then Nothing else Body
content_of WithParam has_select = if has_select then Nothing else Body
-- 5.3
content_of Template has_select = ParametersAndBody
-- 5.4
content_of ApplyTemplates has_select = SortsAndParameters
-- 6
content_of CallTemplate has_select = Parameters
-- 8
content_of ForEach has_select = SortsAndBody
-- 9.2
content_of Choose has_select = Branches
content_of When has_select = Body
content_of Otherwise has_select = Body
-- 9.1
content_of If has_select = Body
-- 7.2
content_of Text has_select = TextAlone
-- 7.1.2, 7.1.3, 7.3, 7.4, 7.5, 13, 15
content_of Element has_select = Body
content_of Attribute has_select = Body
content_of ProcessingInstruction has_select = Body
content_of Comment has_select = Body
content_of Copy has_select = Body
content_of Message has_select = Body
content_of Fallback has_select = Body
-- a literal element (7.1.1)
content_of Other has_select = Body
-- 2.6, 3.4, 16, 12.2, 7.1.1, 5.6, 7.6.1, 11.3, 7.7, 10
content_of Import has_select = Nothing
content_of Include has_select = Nothing
content_of StripSpace has_select = Nothing
content_of PreserveSpace has_select = Nothing
content_of Output has_select = Nothing
content_of Key has_select = Nothing
content_of NamespaceAlias has_select = Nothing
content_of ApplyImports has_select = Nothing
content_of ValueOf has_select = Nothing
content_of CopyOf has_select = Nothing
content_of Number has_select = Nothing
content_of Sort has_select = Nothing
-- not read
content_of DecimalFormat has_select = Unread
content_of Unknown has_select = Unread
content_of NoElement has_select = Unread

-- whether text may stand there
abbrev pub holds_text : Content → Bool
holds_text Nothing = false
holds_text TopLevel = false
holds_text Attributes = false
holds_text SortsAndParameters = false
holds_text Parameters = false
holds_text Branches = false
holds_text TextAlone = true
holds_text Body = true
holds_text ParametersAndBody = true
holds_text SortsAndBody = true
holds_text Unread = true

-- the elements of the top level except imports (XSLT 1.0, 2.2), and those of a body (2.1)
abbrev pub is_declaration : Tag → Bool
is_declaration Include = true
is_declaration StripSpace = true
is_declaration PreserveSpace = true
is_declaration Output = true
is_declaration Key = true
is_declaration DecimalFormat = true
is_declaration NamespaceAlias = true
is_declaration AttributeSet = true
is_declaration Variable = true
is_declaration Param = true
is_declaration Template = true
is_declaration _ = false

abbrev pub is_in_body : Tag → Bool
is_in_body ApplyTemplates = true
is_in_body CallTemplate = true
is_in_body ApplyImports = true
is_in_body ForEach = true
is_in_body ValueOf = true
is_in_body CopyOf = true
is_in_body Copy = true
is_in_body Number = true
is_in_body Choose = true
is_in_body If = true
is_in_body Text = true
is_in_body Element = true
is_in_body Attribute = true
is_in_body Comment = true
is_in_body ProcessingInstruction = true
is_in_body Message = true
is_in_body Variable = true
is_in_body Other = true
is_in_body _ = false

-- ---- whether an element may stand in some content, behind what stands before it there: elements by their kinds, and text
-- imports before all else; an element that is not XSLT's has a namespace
abbrev pub stands_at_top : Tag → (has_namespace : Bool) → List Tag → Bool
stands_at_top Import has_namespace before = list_all is_import before
stands_at_top Other has_namespace before = has_namespace
stands_at_top tag has_namespace before = is_declaration tag

abbrev pub is_attribute : Tag → Bool
is_attribute Attribute = true
is_attribute _ = false

abbrev pub is_with_param : Tag → Bool
is_with_param WithParam = true
is_with_param _ = false

abbrev pub is_some_tag : List Tag → Bool
is_some_tag [] = false
is_some_tag (tag ∷ tags) = true

-- `xsl:when`, at least one, and then `xsl:otherwise`, at most one
abbrev pub stands_in_choose : Tag → List Tag → Bool
stands_in_choose When before = list_all is_when before
stands_in_choose Otherwise before = is_some_tag before && list_all is_when before
stands_in_choose tag before = false

-- parameters before all else
abbrev pub stands_in_template : Tag → List Tag → Bool
stands_in_template Param before = list_all is_param before
stands_in_template tag before = is_in_body tag

-- sorts before all else
abbrev pub stands_in_loop : Tag → List Tag → Bool
stands_in_loop Sort before = list_all is_sort before
stands_in_loop tag before = is_in_body tag

abbrev pub may_stand : Content → Tag → (has_namespace : Bool) → List Tag → Bool
may_stand Nothing tag has_namespace before = false
may_stand TopLevel tag has_namespace before = stands_at_top tag has_namespace before
may_stand Attributes tag has_namespace before = is_attribute tag
may_stand SortsAndParameters tag has_namespace before = is_sort tag || is_with_param tag
may_stand Parameters tag has_namespace before = is_with_param tag
may_stand Branches tag has_namespace before = stands_in_choose tag before
may_stand TextAlone tag has_namespace before = false
may_stand Body tag has_namespace before = is_in_body tag
may_stand ParametersAndBody tag has_namespace before = stands_in_template tag before
may_stand SortsAndBody tag has_namespace before = stands_in_loop tag before
may_stand Unread tag has_namespace before = true

-- whether the content is branches, of which one has to be `xsl:when`
abbrev pub are_branches : Content → Bool
are_branches Branches = true
are_branches _ = false

-- what is kept of all that stands before a node: whether there is any, and whether all of it is of one kind
abbrev pub before_of : List Tag → Before
before_of tags = record {
  is_some = is_some_tag tags;
  only_imports = list_all is_import tags;
  only_params = list_all is_param tags;
  only_sorts = list_all is_sort tags;
  only_whens = list_all is_when tags;
}
