-- The names of nodes of the result (XSLT 1.0, 7.1.2, 7.1.3 and 7.3).
use Rattle.std.specs.Prelude.{ℕ, Bool, not, ◌&&◌, ◌||◌, List, [], Option, Some, None, Result, Ok, Err, codes, map, if◌then◌else◌}
use Rattle.std.specs.Char.{to_ascii_lowercase}
use Rattle.std.specs.Option.{unwrap_or}
use Rattle.std.specs.Str.{bytes_eq}
use Rattle.xs_text.specs.Names.{QName, is_ncname, qname_of}
use Rattle.xs_trace.specs.Label.{Label}
use Rattle.xs_trace.specs.declared.fault.Fault.{Fault}
use Rattle.xs_trace.specs.declared.fault.Fault.TheVariants.{BadResultName, UnboundResultPrefix}
use Rattle.xs_xpath.specs.Names.{uri_in}
use Rattle.xs_making.specs.Labels.{put_label, xml_uri, xmlns_uri}
use Rattle.xs_making.specs.Texts.{is_empty}

-- ---- the namespace of a name
-- the URI that a prefix is bound to; `xml` is bound everywhere (Namespaces in XML 1.0, 3)
abbrev pub bound_uri : List (List ℕ × List ℕ) → List ℕ → Option (List ℕ)
bound_uri scope prefix = if bytes_eq prefix (codes "xml") then Some xml_uri else uri_in scope prefix

-- The namespace of a name without a prefix: an element is in the default one, an attribute in none (XSLT 1.0, 7.1.2 and 7.1.3;
-- Namespaces in XML 1.0, 6.2).
abbrev pub default_uri : List (List ℕ × List ℕ) → Bool → List ℕ
default_uri scope is_attribute = if is_attribute then [] else unwrap_or (uri_in scope []) []

-- the namespace of a name to which none is given; none where its prefix is bound to nothing
abbrev pub implied_uri : List (List ℕ × List ℕ) → Bool → List ℕ → Option (List ℕ)
implied_uri scope is_attribute prefix = if is_empty prefix then Some (default_uri scope is_attribute) else bound_uri scope prefix

-- the namespace of a name: the one that is given, empty for none, and else the implied one
abbrev pub uri_for : List (List ℕ × List ℕ) → Bool → Option (List ℕ) → List ℕ → Option (List ℕ)
uri_for scope is_attribute None prefix = implied_uri scope is_attribute prefix
uri_for scope is_attribute (Some uri) prefix = Some uri

-- ---- the name of an element or an attribute
-- An attribute is not named `xmlns` (XSLT 1.0, 7.1.3), and nothing is in the namespace of that prefix (Namespaces in XML 1.0, 3).
abbrev pub is_forbidden : Bool → Option (List ℕ) → List ℕ → Bool
is_forbidden is_attribute uri text = is_attribute && bytes_eq text (codes "xmlns") || bytes_eq (unwrap_or uri []) xmlns_uri

abbrev pub named_in : Option (List ℕ) → QName → Result Label Fault
named_in None name = Err UnboundResultPrefix
named_in (Some uri) name = Ok (put_label uri name.local name.prefix)

abbrev pub named_as : List (List ℕ × List ℕ) → Bool → Option (List ℕ) → Option QName → Result Label Fault
named_as scope is_attribute uri None = Err BadResultName
named_as scope is_attribute uri (Some name) = named_in (uri_for scope is_attribute uri name.prefix) name

-- The name that a text is for an element or an attribute, with the namespace that is given, if one is, and the bindings that are
-- in scope; or the fault in which a run ends.
abbrev pub result_name : List (List ℕ × List ℕ) → Bool → Option (List ℕ) → List ℕ → Result Label Fault
result_name scope is_attribute uri text =
    if is_forbidden is_attribute uri text then Err BadResultName else named_as scope is_attribute uri (qname_of text)

-- ---- the target of a processing instruction
abbrev pub is_xml : List ℕ → Bool
is_xml text = bytes_eq (map to_ascii_lowercase text) (codes "xml")

-- an NCName that is not `xml`, in any case (XSLT 1.0, 7.3; XML 1.0, 2.6)
abbrev pub is_target : List ℕ → Bool
is_target text = is_ncname text && not (is_xml text)

abbrev pub pi_target : List ℕ → Result (List ℕ) Fault
pi_target text = if is_target text then Ok text else Err BadResultName
