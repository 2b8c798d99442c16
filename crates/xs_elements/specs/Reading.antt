-- How the elements of a module are read, and which of them are looked at.
use Rattle.std.specs.Prelude.{ℕ, ◌||◌, not, Bool, true, false, List, [], Option, Some, None, option_map, is_some, codes, if◌then◌else◌}
use Rattle.std.specs.List.{list_all, list_any}
use Rattle.std.specs.Option.{option_map_or, unwrap_or}
use Rattle.std.specs.Str.{bytes_eq}
use Rattle.xs_elements.specs.declared.contents.Content.{Content}
use Rattle.xs_elements.specs.declared.contents.Content.TheVariants.{Unread as UnreadContent}
use Rattle.xs_elements.specs.declared.reading.Reading.{Reading}
use Rattle.xs_elements.specs.declared.reading.Reading.TheVariants.{Known, Literal, Extension, Unread}
use Rattle.xs_elements.specs.declared.forms.Form.{Form}
use Rattle.xs_elements.specs.declared.forms.Form.TheVariants.{Anything, ValueTemplate}
use Rattle.xs_elements.specs.declared.tags.Tag.{Tag}
use Rattle.xs_elements.specs.declared.tags.Tag.TheVariants.{Stylesheet, DecimalFormat, Unknown, Other, NoElement}
use Rattle.xs_elements.specs.Attributes.{allowed}
use Rattle.xs_elements.specs.Contents.{content_of}
use Rattle.xs_elements.specs.Nodes.{ancestors_or_self, has, scope_at, value_of}
use Rattle.xs_elements.specs.Tags.{xslt_uri, tag_of, is_fallback, is_document_element, is_top_level}
use Rattle.xs_elements.specs.WhiteSpace.{words}
use Rattle.xs_tree.specs.Record.{Record, at, uri_at, local_at}
use Rattle.xs_xpath.specs.Names.{uri_in}

-- ---- extension elements (XSLT 1.0, 14.1)
-- the attribute with the prefixes of extension namespaces: of the stylesheet's element, or of one that is not XSLT's
abbrev pub extension_value : Tag → List Record → ℕ → Option (List ℕ)
extension_value Stylesheet rs n = value_of rs n [] (codes "extension-element-prefixes")
extension_value Other rs n = value_of rs n xslt_uri (codes "extension-element-prefixes")
extension_value _ rs n = None

-- the namespace that a word of it means is this one; `#default` means the default one, or none
abbrev pub means_uri : List (List ℕ × List ℕ) → List ℕ → List ℕ → Bool
means_uri pairs uri word =
    if bytes_eq word (codes "#default") then bytes_eq uri (unwrap_or (uri_in pairs []) [])
    else option_map_or (bytes_eq uri) (uri_in pairs word) false

abbrev pub declares_extension : List Record → List ℕ → ℕ → Bool
declares_extension rs uri n = option_map_or (λ value. list_any (means_uri (scope_at rs n) uri) (words value)) (extension_value (tag_of rs n) rs n) false

-- an extension namespace is one in the whole subtree of the element that declares it
abbrev pub is_in_extension : List Record → ℕ → Bool
is_in_extension rs n = list_any (declares_extension rs (uri_at rs n)) (ancestors_or_self rs n)

-- ---- how an element is read
-- Of what is not XSLT's, an element at the top level is not read (2.2), and any other is an extension element or a literal one.
abbrev pub reading_of_other : (is_top is_extension : Bool) → Reading
reading_of_other is_top is_extension = if is_top then Unread else if is_extension then Extension else Literal

abbrev pub reading_by : Tag → (is_top is_extension : Bool) → Reading
reading_by Other is_top is_extension = reading_of_other is_top is_extension
reading_by DecimalFormat is_top is_extension = Unread
reading_by Unknown is_top is_extension = Unread
reading_by NoElement is_top is_extension = Unread
reading_by tag is_top is_extension = Known

abbrev pub reading_of : List Record → ℕ → Reading
reading_of rs n = reading_by (tag_of rs n) (is_top_level rs n) (is_in_extension rs n)

-- ---- which elements are looked at
-- A child is looked at unless its parent is not read. Of an extension element the fallbacks are (15).
abbrev pub shows : Reading → Tag → Bool
shows Known child = true
shows Literal child = true
shows Extension child = is_fallback child
shows Unread child = false

-- the root shows the document's element
abbrev pub shows_at : List Record → (parent child : ℕ) → Bool
shows_at rs parent child = is_document_element rs child || shows (reading_of rs parent) (tag_of rs child)

abbrev pub is_shown : List Record → ℕ → Bool
is_shown rs n = option_map_or (λ p. shows_at rs p n) (at rs n).parent true

-- an element is looked at where it and all elements around it are shown
abbrev pub is_seen : List Record → ℕ → Bool
is_seen rs n = list_all (is_shown rs) (ancestors_or_self rs n)

-- ---- its attributes and its content
-- an element of a whole module has a version (2.2, 2.3)
abbrev pub has_version_by : Tag → List Record → ℕ → Bool
has_version_by Stylesheet rs n = has rs n (codes "version")
has_version_by Other rs n = is_some (value_of rs n xslt_uri (codes "version"))
has_version_by _ rs n = false

abbrev pub has_version : List Record → ℕ → Bool
has_version rs n = has_version_by (tag_of rs n) rs n

-- the attributes are read, except those of an element that is not XSLT's and represents a whole module without a version
abbrev pub reads_attributes : Reading → (is_whole has_version : Bool) → Bool
reads_attributes Known is_whole has_version = true
reads_attributes Literal is_whole has_version = not is_whole || has_version
reads_attributes Extension is_whole has_version = not is_whole || has_version
reads_attributes Unread is_whole has_version = false

abbrev pub has_read_attributes : List Record → ℕ → Bool
has_read_attributes rs n = reads_attributes (reading_of rs n) (is_document_element rs n) (has_version rs n)

-- the form of an attribute by its name, where an element may have it
abbrev pub allowed_form : Tag → List ℕ → Option Form
allowed_form tag local = option_map (λ a. a.form) (allowed tag local)

abbrev pub is_none : List ℕ → Bool
is_none uri = bytes_eq uri []

abbrev pub is_xslt : List ℕ → Bool
is_xslt uri = bytes_eq uri xslt_uri

-- What the value of an attribute with this name has to be, None where the element may not have it. On an element of XSLT an
-- attribute of another namespace may be anything (2.1); on a literal element any other is a value template (7.6.2).
abbrev pub form_by : Reading → Tag → (uri local : List ℕ) → Option Form
form_by Known tag uri local = if is_none uri then allowed_form tag local else if is_xslt uri then None else Some Anything
form_by Literal tag uri local = if is_xslt uri then allowed_form tag local else Some ValueTemplate
form_by Extension tag uri local = if is_xslt uri then allowed_form tag local else Some Anything
form_by Unread tag uri local = Some Anything

abbrev pub form_of : List Record → ℕ → ℕ → Option Form
form_of rs n a = form_by (reading_of rs n) (tag_of rs n) (uri_at rs a) (local_at rs a)

abbrev pub content_by : Reading → Tag → (has_select : Bool) → Content
content_by Known tag has_select = content_of tag has_select
content_by Literal tag has_select = content_of tag has_select
content_by Extension tag has_select = UnreadContent
content_by Unread tag has_select = UnreadContent

abbrev pub content_at : List Record → ℕ → Content
content_at rs n = content_by (reading_of rs n) (tag_of rs n) (has rs n (codes "select"))
