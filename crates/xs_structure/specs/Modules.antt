-- The modules of a stylesheet, their places, and which module an element mentions.
use Rattle.std.specs.Prelude.{ℕ, ◌==◌, ◌&&◌, Bool, false, List, [], length, find, Option, slice_get, get_or}
use Rattle.std.specs.List.{range_with_len}
use Rattle.std.specs.Option.{option_map_or}
use Rattle.xs_modules.specs.Numbering.{ModuleData}
use Rattle.xs_elements.specs.Tags.{is_top_level}
use Rattle.xs_tree.specs.Kinds.{is_element_kind}
use Rattle.xs_tree.specs.Record.{Record, at}

-- the nodes of a module, the line of one of them, and the module's import precedence
abbrev pub records_at : List ModuleData → ℕ → List Record
records_at ms m = option_map_or (λ d. d.records) (slice_get ms m) []

abbrev pub line_at : List ModuleData → ℕ → ℕ → ℕ
line_at ms m n = option_map_or (λ d. get_or d.lines n 0) (slice_get ms m) 0

abbrev pub precedence_at : List ModuleData → ℕ → ℕ
precedence_at ms m = option_map_or (λ d. d.rank.precedence) (slice_get ms m) 0

-- a node of a stylesheet: the number of its module, and its place there
abbrev pub Place : Type 0
Place = ℕ × ℕ

abbrev pub is_same_place : Place → Place → Bool
is_same_place a b = a.0 == b.0 && a.1 == b.1

-- the elements of a module's top level (XSLT 1.0, 2.2)
abbrev pub is_top_level_element : List Record → ℕ → Bool
is_top_level_element rs n = is_element_kind (at rs n).kind && is_top_level rs n

-- the module that an element mentions, which has it as its mention
abbrev pub is_mentioned_by : List ModuleData → Place → ℕ → Bool
is_mentioned_by ms p m = option_map_or (λ d. option_map_or (is_same_place p) d.mention false) (slice_get ms m) false

abbrev pub mentioned : List ModuleData → Place → Option ℕ
mentioned ms p = find (is_mentioned_by ms p) (range_with_len 0 (length ms))
