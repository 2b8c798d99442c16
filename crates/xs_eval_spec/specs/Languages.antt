-- The language of a node (XPath 1.0, 4.3, `lang`; XML 1.0, 2.12).
use Rattle.std.specs.Prelude.{ℕ, ◌&&◌, ◌||◌, ◌++◌, Bool, false, List, [], ◌∷◌, filter, nat_eq, codes}
use Rattle.std.specs.List.{flat_map, starts_with}
use Rattle.std.specs.Str.{bytes_eq, str_to_ascii_lowercase}
use Rattle.xs_text.specs.Names.{xml_uri}
use Rattle.xs_tree.specs.declared.axes.Axis.TheVariants.{AncestorOrSelf}
use Rattle.xs_tree.specs.Record.{Record, at, attributes, uri_at, local_at}
use Rattle.xs_tree.specs.Axis.{axis_list}

-- whether an attribute is `xml:lang`
abbrev pub is_lang : List Record → ℕ → Bool
is_lang rs k = bytes_eq (uri_at rs k) xml_uri && bytes_eq (local_at rs k) (codes "lang")

-- the attributes `xml:lang` of a node and of its ancestors, the nearest first
abbrev pub lang_attributes : List Record → ℕ → List ℕ
lang_attributes rs n = flat_map (λ k. filter (is_lang rs) (attributes rs k)) (axis_list AncestorOrSelf rs n)

-- whether a language is another one, or is so without a suffix that begins with `-`; without regard to the case of letters
abbrev pub is_language : List ℕ → List ℕ → Bool
is_language language wanted =
    bytes_eq (str_to_ascii_lowercase language) (str_to_ascii_lowercase wanted)
    || starts_with nat_eq (str_to_ascii_lowercase language) (str_to_ascii_lowercase wanted ++ 45 ∷ [])

-- the language by the nearest attribute; without one there is none
abbrev pub is_lang_of : List Record → List ℕ → List ℕ → Bool
is_lang_of rs [] wanted = false
is_lang_of rs (k ∷ ks) wanted = is_language (at rs k).text wanted

-- `lang`
unfoldable pub is_in_language : List Record → ℕ → List ℕ → Bool
is_in_language rs n wanted = is_lang_of rs (lang_attributes rs n) wanted
