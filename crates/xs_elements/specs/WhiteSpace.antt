-- White space of a stylesheet (XSLT 1.0, 3.4), and words with white space between them.
use Rattle.std.specs.Prelude.{ℕ, ◌&&◌, ◌||◌, not, Bool, true, false, List, [], ◌∷◌, filter, Option, Some, None, codes, if◌then◌else◌}
use Rattle.std.specs.Borrow.{Bor}
use Rattle.std.specs.List.{slice_split}
use Rattle.std.specs.Option.{option_and_then, unwrap_or}
use Rattle.std.specs.Str.{bytes_eq}
use Rattle.xs_elements.specs.declared.tags.Tag.{Tag}
use Rattle.xs_elements.specs.declared.tags.Tag.TheVariants.{Text}
use Rattle.xs_elements.specs.Nodes.{ancestors_or_self, value_of}
use Rattle.xs_elements.specs.Tags.{tag_of}
pub use Rattle.xs_text.specs.Names.{xml_uri}
use Rattle.xs_text.specs.WhiteSpace.{is_blank, is_white_space}
use Rattle.xs_tree.specs.Kinds.{is_text_kind}
use Rattle.xs_tree.specs.Record.{Record, at}

-- whether white space is preserved, by the value of an `xml:space`: `preserve` and `default` say so, any other says nothing
abbrev pub space_value : List ℕ → Option Bool
space_value value = if bytes_eq value (codes "preserve") then Some true else if bytes_eq value (codes "default") then Some false else None

-- what an element says by its own `xml:space`
abbrev pub own_space : List Record → ℕ → Option Bool
own_space rs n = option_and_then space_value (value_of rs n xml_uri (codes "space"))

-- what the first node of a list says that says anything
abbrev pub first_said : List Record → List ℕ → Bool
first_said rs [] = false
first_said rs (n ∷ ns) = unwrap_or (own_space rs n) (first_said rs ns)

-- white space is preserved in an element where the nearest `xml:space` of `preserve` or `default` is `preserve`
abbrev pub preserves : List Record → ℕ → Bool
preserves rs n = first_said rs (ancestors_or_self rs n)

abbrev pub is_text_tag : Tag → Bool
is_text_tag Text = true
is_text_tag _ = false

-- A text inside an element is kept where it is not white space alone, where the element is `xsl:text`, and where white space is
-- preserved.
abbrev pub is_kept : List Record → (inside : ℕ) → ℕ → Bool
is_kept rs inside text = preserves rs inside || is_text_tag (tag_of rs inside) || not (is_blank (at rs text).text)

abbrev pub is_kept_text : List Record → (inside : ℕ) → ℕ → Bool
is_kept_text rs inside k = is_text_kind (at rs k).kind && is_kept rs inside k

-- ---- words
abbrev pub is_word : List ℕ → Bool
is_word [] = false
is_word (b ∷ bs) = true

-- the words of a text, with white space between them
abbrev pub words : List ℕ → List (List ℕ)
words text = filter is_word (slice_split is_white_space text)

-- the words of a text by its first word and what is behind it, if it has a word
abbrev pub words_with : Option (Bor (List ℕ) × Bor (List ℕ)) → List (List ℕ)
words_with None = []
words_with (Some parts) = parts.0.now ∷ words parts.1.now
