-- Elements and texts that stand where none may.
use Rattle.std.specs.Prelude.{ℕ, ◌&&◌, ◌||◌, not, nat_lt, Bool, false, List, map, filter}
use Rattle.std.specs.List.{list_any}
use Rattle.std.specs.Option.{option_map_or}
use Rattle.xs_elements.specs.declared.tags.Tag.{Tag}
use Rattle.xs_elements.specs.Contents.{may_stand, holds_text, are_branches}
use Rattle.xs_elements.specs.Reading.{content_at, is_none}
use Rattle.xs_elements.specs.Tags.{tag_of, is_document_element, is_when}
use Rattle.xs_elements.specs.WhiteSpace.{is_kept_text}
use Rattle.xs_structure.specs.Parts.{is_content}
use Rattle.xs_tree.specs.Record.{Record, at, children, uri_at}

-- what of the content of an element stands before a node: elements by their kinds, and texts
abbrev pub content_before : List Record → (inside : ℕ) → ℕ → List Tag
content_before rs inside n = map (tag_of rs) (filter (λ k. nat_lt k n && is_content rs inside k) (children rs inside))

abbrev pub stands_in : List Record → (inside : ℕ) → ℕ → Bool
stands_in rs inside n = may_stand (content_at rs inside) (tag_of rs n) (not (is_none (uri_at rs n))) (content_before rs inside n)

-- an element stands where none may; the document's element has no element around it
abbrev pub is_misplaced_element : List Record → ℕ → Bool
is_misplaced_element rs n = not (is_document_element rs n) && option_map_or (λ p. not (stands_in rs p n)) (at rs n).parent false

-- text stands in an element that may hold none
abbrev pub has_misplaced_text : List Record → ℕ → Bool
has_misplaced_text rs n = not (holds_text (content_at rs n)) && list_any (is_kept_text rs n) (children rs n)

-- an `xsl:choose` has no `xsl:when` (XSLT 1.0, 9.2)
abbrev pub lacks_branch : List Record → ℕ → Bool
lacks_branch rs n = are_branches (content_at rs n) && not (list_any (λ k. is_when (tag_of rs k)) (children rs n))

abbrev pub is_misplaced : List Record → ℕ → Bool
is_misplaced rs n = is_misplaced_element rs n || has_misplaced_text rs n || lacks_branch rs n
