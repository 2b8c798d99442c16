-- Which white space of a source is stripped (XSLT 1.0, 3.4).
use Rattle.std.specs.Prelude.{ℕ, ◌&&◌, not, Bool, true, false, List, filter, map, codes, Option, pos, negsuc, ℤ, nat_lt}
use Rattle.std.specs.List.{find, list_any}
use Rattle.std.specs.Option.{option_and_then, option_map_or}
use Rattle.std.specs.Str.{bytes_eq}
use Rattle.xs_elements.specs.WhiteSpace.{space_value, xml_uri}
use Rattle.xs_sheet.specs.declared.declarations.NameTest.{NameTest}
use Rattle.xs_sheet.specs.declared.declarations.NameTest.TheVariants.{Any, Uri, Name}
use Rattle.xs_sheet.specs.declared.declarations.StripRule.{StripRule}
use Rattle.xs_text.specs.WhiteSpace.{is_blank}
use Rattle.xs_tree.specs.declared.axes.Axis.TheVariants.{AncestorOrSelf}
use Rattle.xs_tree.specs.Axis.{axis_list}
use Rattle.xs_tree.specs.Kinds.{is_element_kind, is_text_kind}
use Rattle.xs_tree.specs.Record.{Record, at, attributes, name_local, name_uri, places}
use Rattle.xs_pattern_spec.specs.declared.ranks.Rank.{Rank}
use Rattle.xs_rules.specs.Ranks.{highest}

-- whether a node has a name
abbrev pub is_named : List ℕ → List ℕ → Record → Bool
is_named uri local r = bytes_eq (name_uri r) uri && bytes_eq (name_local r) local

-- ---- `xml:space`

-- the attribute `xml:space` (XML 1.0, 2.10)
abbrev pub is_space : List Record → ℕ → Bool
is_space rs k = is_named xml_uri (codes "space") (at rs k)

-- what the node at n says by its attribute
abbrev pub said_by : List Record → ℕ → Option Bool
said_by rs n = option_and_then (λ k. space_value (at rs k).text) (find (is_space rs) (attributes rs n))

abbrev pub says_preserve : List Record → ℕ → Bool
says_preserve rs n = option_map_or (λ b. b) (said_by rs n) false

abbrev pub says_default : List Record → ℕ → Bool
says_default rs n = option_map_or not (said_by rs n) false

abbrev pub any_above : (ℕ → Bool) → List Record → ℕ → Bool
any_above f rs n = list_any f (axis_list AncestorOrSelf rs n)

-- whether white space is preserved in the node at n: it or an ancestor has an `xml:space` of `preserve`, and no closer one has an
-- `xml:space` of `default`
unfoldable pub preserves : List Record → ℕ → Bool
preserves rs n = any_above (λ k. says_preserve rs k && not (any_above (λ j. nat_lt k j && says_default rs j) rs n)) rs n

-- ---- `xsl:strip-space` and `xsl:preserve-space`

-- whether a test is true of an element
abbrev pub is_true_of : Record → NameTest → Bool
is_true_of r Any = true
is_true_of r (Uri uri) = bytes_eq (name_uri r) uri
is_true_of r (Name name) = is_named name.uri name.local r

-- conflicts are resolved as those of template rules (5.5)
abbrev pub test_priority : NameTest → ℤ
test_priority Any = negsuc 4999
test_priority (Uri uri) = negsuc 2499
test_priority (Name name) = pos 0

abbrev pub rank_of : StripRule → Rank
rank_of rule = record { precedence = rule.precedence; priority = test_priority rule.test }

-- whether white space is stripped in an element: no element loses any without a test that is true of it
unfoldable pub strips : List StripRule → Record → Bool
strips rules r =
    is_element_kind r.kind
    && option_map_or (λ (rule : StripRule). rule.strip) (highest rank_of (filter (λ (rule : StripRule). is_true_of r rule.test) rules)) false

-- ---- the texts

-- whether a text is stripped: it is white space alone, its parent is an element in which white space is stripped, and none is
-- preserved there by `xml:space`
abbrev pub is_stripped_in : List StripRule → List Record → (parent : ℕ) → Bool
is_stripped_in rules rs p = strips rules (at rs p) && not (preserves rs p)

abbrev pub is_stripped : List StripRule → List Record → ℕ → Bool
is_stripped rules rs n =
    is_text_kind (at rs n).kind && is_blank (at rs n).text && option_map_or (is_stripped_in rules rs) (at rs n).parent false

-- which nodes of a source are stripped
abbrev pub stripped : List StripRule → List Record → List Bool
stripped rules rs = map (is_stripped rules rs) (places rs)
