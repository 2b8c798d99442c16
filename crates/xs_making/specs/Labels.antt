-- The names that are put into the result, with prefixes that fit their namespaces.
use Rattle.std.specs.Prelude.{ℕ, Bool, ◌||◌, List, [], codes, if◌then◌else◌}
use Rattle.std.specs.Str.{bytes_eq}
use Rattle.xs_trace.specs.Label.{Label}
pub use Rattle.xs_text.specs.Names.{xml_uri, xmlns_uri}
use Rattle.xs_making.specs.Texts.{is_empty}

-- a prefix that is bound by the standard and can't be bound otherwise (Namespaces in XML 1.0, 3)
abbrev pub is_reserved : List ℕ → Bool
is_reserved prefix = bytes_eq prefix (codes "xml") || bytes_eq prefix (codes "xmlns")

abbrev pub unreserved : List ℕ → List ℕ
unreserved prefix = if is_reserved prefix then [] else prefix

-- A name in no namespace has no prefix, one in that of `xml` has this prefix, and no other name has a reserved one.
abbrev pub put_prefix : (uri prefix : List ℕ) → List ℕ
put_prefix uri prefix = if is_empty uri then [] else if bytes_eq uri xml_uri then codes "xml" else unreserved prefix

abbrev pub put_label : (uri local prefix : List ℕ) → Label
put_label uri local prefix = record { uri = uri; local = local; prefix = put_prefix uri prefix }
