-- Names, with the prefix that they are written with.
use Rattle.std.specs.Prelude.{◌≡◌, ℕ, suc, List, [], Option, Some, None, option_map, codes}
use Rattle.std.specs.List.{filter_map, position}
use Rattle.std.specs.Option.{option_and_then, option_map_or}
use Rattle.xs_modules.specs.Numbering.{ModuleData}
use Rattle.xs_elements.specs.Nodes.{Name, expanded, is_same_name}
use Rattle.xs_elements.specs.WhiteSpace.{words}
use Rattle.xs_structure.specs.Modules.{Place}
use Rattle.xs_text.specs.Names.{QName, qname_of}
use Rattle.xs_trace.specs.Label.{Label}
use Rattle.xs_tree.specs.Record.{Record, uri_at, local_at, prefix_at}
use Rattle.xs_xpath.specs.Names.{uri_of}
use Rattle.xs_structure.specs.Parts.{pairs_at, value_at}

-- a QName in a scope: without a prefix it is in no namespace (XSLT 1.0, 2.4)
abbrev pub label_of : List (List ℕ × List ℕ) → QName → Label
label_of pairs q = record { uri = uri_of pairs q.prefix; local = q.local; prefix = q.prefix }

abbrev pub label_in : List (List ℕ × List ℕ) → List ℕ → Option Label
label_in pairs text = option_map (label_of pairs) (qname_of text)

-- names with white space between them
abbrev pub labels_in : List (List ℕ × List ℕ) → Option (List ℕ) → List Label
labels_in pairs value = option_map_or (λ text. filter_map (label_in pairs) (words text)) value []

-- what the attribute `name` says
abbrev pub label_at : List ModuleData → Place → Option Label
label_at ms p = option_and_then (label_in (pairs_at ms p)) (value_at ms p (codes "name"))

-- the name of an element or an attribute itself
abbrev pub own_label : List Record → ℕ → Label
own_label rs n = record { uri = uri_at rs n; local = local_at rs n; prefix = prefix_at rs n }

-- ---- modes (5.7): a mode is known by its place in a list of modes, from 1 on, and no mode by 0
abbrev pub mode_at : List ModuleData → Place → Option Name
mode_at ms p = option_and_then (expanded (pairs_at ms p)) (value_at ms p (codes "mode"))

abbrev pub IsMode : (modes : List Name) → Option Name → ℕ → Type 0
IsMode modes None number = number ≡ 0
IsMode modes (Some mode) number = option_map suc (position (is_same_name mode) modes) ≡ Some number
