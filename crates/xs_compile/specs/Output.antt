-- How the result is written (XSLT 1.0, 16).
use Rattle.std.specs.Prelude.{ℕ, Bool, true, false, List, filter, is_some, codes, if◌then◌else◌}
use Rattle.std.specs.Option.{option_map_or}
use Rattle.std.specs.Str.{bytes_eq}
use Rattle.xs_elements.specs.declared.tags.Tag.{Tag}
use Rattle.xs_elements.specs.declared.tags.Tag.TheVariants.{Output}
use Rattle.xs_modules.specs.Numbering.{ModuleData}
use Rattle.xs_sheet.specs.declared.declarations.Method.{Method}
use Rattle.xs_sheet.specs.declared.declarations.Method.TheVariants.{Pyx, Text}
use Rattle.xs_structure.specs.Modules.{Place}
use Rattle.xs_compile.specs.Counted.{counted}
use Rattle.xs_structure.specs.Order.{all_with}
use Rattle.xs_structure.specs.Parts.{said_at, value_at}

abbrev pub is_output : Tag → Bool
is_output Output = true
is_output _ = false

abbrev pub has_method : List ModuleData → Place → Bool
has_method ms p = is_some (value_at ms p (codes "method"))

-- `text` writes text, and any other method PYX lines
abbrev pub method_named : List ℕ → Method
method_named value = if bytes_eq value (codes "text") then Text else Pyx

-- of the values of `method` the one that counts
abbrev pub method : List ModuleData → Method
method ms = option_map_or (λ p. method_named (said_at ms p (codes "method"))) (counted ms (filter (has_method ms) (all_with is_output ms))) Pyx
