-- Which compiled stylesheet represents the modules of a stylesheet.
use Rattle.std.specs.Prelude.{◌≡◌, ℕ, ◌&&◌, Bool, List, map, find}
use Rattle.std.specs.List.{AllZip}
use Rattle.std.specs.Option.{option_map_or}
use Rattle.xs_modules.specs.Numbering.{ModuleData}
use Rattle.xs_elements.specs.Tags.{is_attribute_set, is_document_element}
use Rattle.xs_sheet.specs.declared.sheet.Sheet.{Sheet}
use Rattle.xs_structure.specs.Modules.{line_at, records_at}
use Rattle.xs_tree.specs.Kinds.{is_element_kind}
use Rattle.xs_tree.specs.Record.{Record, at, places}
use Rattle.xs_compile.specs.Bodies.{Source}
use Rattle.xs_compile.specs.Counted.{globals, templates}
use Rattle.xs_compile.specs.Declarations.{IsGlobal, IsKey, IsSet, IsTemplate, is_key}
use Rattle.xs_compile.specs.Aliases.{aliases}
use Rattle.xs_compile.specs.Modes.{modes_of}
use Rattle.xs_structure.specs.Order.{all_with}
use Rattle.xs_compile.specs.Output.{method}
use Rattle.xs_compile.specs.Spaces.{strip_rules}

-- the line of the first module's element
abbrev pub is_root_element : List Record → ℕ → Bool
is_root_element rs n = is_element_kind (at rs n).kind && is_document_element rs n

abbrev pub root_line : List ModuleData → ℕ
root_line ms = option_map_or (line_at ms 0) (find (is_root_element (records_at ms 0)) (places (records_at ms 0))) 0

-- Each list has one part for each declaration, in the order of the stylesheet: of globals, aliases and the output those that count.
pub record IsSheet (s : Source) (sheet : Sheet) : Type 0 where
  pub templates : AllZip (IsTemplate s) (templates s.modules) sheet.templates
  pub globals : AllZip (IsGlobal s) (globals s.modules) sheet.globals
  pub keys : AllZip (IsKey s) (all_with is_key s.modules) sheet.keys
  pub sets : AllZip (IsSet s) (all_with is_attribute_set s.modules) sheet.sets
  pub strips : sheet.strips ≡ strip_rules s.modules
  pub aliases : sheet.aliases ≡ aliases s.modules
  pub method : sheet.method ≡ method s.modules
  pub modules : sheet.modules ≡ map (λ d. d.name) s.modules
  pub root_line : sheet.root_line ≡ root_line s.modules

-- the numbers of modes are by their first use
abbrev pub Represents : List ModuleData → Sheet → Type 0
Represents ms sheet = IsSheet (record { modules = ms; modes = modes_of ms }) sheet
