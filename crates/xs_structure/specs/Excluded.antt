-- The namespace nodes that a literal element puts (XSLT 1.0, 7.1.1).
use Rattle.std.specs.Prelude.{ℕ, ◌||◌, not, Bool, false, List, [], map, filter, Option, None, codes}
use Rattle.std.specs.List.{list_any}
use Rattle.std.specs.Option.{option_map_or}
use Rattle.std.specs.Str.{bytes_eq}
use Rattle.xs_elements.specs.declared.reading.Reading.{Reading}
use Rattle.xs_elements.specs.declared.reading.Reading.TheVariants.{Known, Literal}
use Rattle.xs_elements.specs.declared.tags.Tag.{Tag}
use Rattle.xs_elements.specs.declared.tags.Tag.TheVariants.{Stylesheet}
use Rattle.xs_elements.specs.Nodes.{ancestors_or_self, pair_at, scope_at, value_of}
use Rattle.xs_elements.specs.Reading.{declares_extension, means_uri, reading_of}
use Rattle.xs_elements.specs.Tags.{tag_of, xslt_uri}
use Rattle.xs_elements.specs.WhiteSpace.{words, xml_uri}
use Rattle.xs_tree.specs.Record.{Record, at, namespaces}

-- the attribute with the prefixes of excluded namespaces: of the stylesheet's element, or of a literal element
abbrev pub excluded_value : Reading → Tag → List Record → ℕ → Option (List ℕ)
excluded_value Known Stylesheet rs n = value_of rs n [] (codes "exclude-result-prefixes")
excluded_value Literal tag rs n = value_of rs n xslt_uri (codes "exclude-result-prefixes")
excluded_value _ tag rs n = None

-- an element excludes a namespace in its whole subtree
abbrev pub excludes : List Record → List ℕ → ℕ → Bool
excludes rs uri n =
    option_map_or (λ value. list_any (means_uri (scope_at rs n) uri) (words value)) (excluded_value (reading_of rs n) (tag_of rs n) rs n) false

-- a namespace that is not copied from a literal element: XSLT's, an extension's, an excluded one; that of `xml` is in force
-- everywhere
abbrev pub is_left_out : List Record → ℕ → List ℕ → Bool
is_left_out rs n uri =
    bytes_eq uri xslt_uri || bytes_eq uri xml_uri || list_any (declares_extension rs uri) (ancestors_or_self rs n)
    || list_any (excludes rs uri) (ancestors_or_self rs n)

-- the prefixes and URIs that are copied, in document order
abbrev pub copied_spaces : List Record → ℕ → List (List ℕ × List ℕ)
copied_spaces rs n = map (pair_at rs) (filter (λ s. not (is_left_out rs n (at rs s).text)) (namespaces rs n))
