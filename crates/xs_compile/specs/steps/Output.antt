-- The method of the output, declaration by declaration.
use Rattle.std.specs.Prelude.{ℕ, nat_lt, List, Option, Some, None, option_map, codes, if◌then◌else◌}
use Rattle.std.specs.Option.{option_map_or}
use Rattle.xs_modules.specs.Numbering.{ModuleData}
use Rattle.xs_sheet.specs.declared.declarations.Method.{Method}
use Rattle.xs_structure.specs.Modules.{Place, precedence_at}
use Rattle.xs_compile.specs.Output.{is_output, method_named}
use Rattle.xs_structure.specs.Parts.{tag_at, value_at}

-- the method that an element says, if it is an `xsl:output` that says one
abbrev pub said_method : List ModuleData → Place → Option Method
said_method ms p = if is_output (tag_at ms p) then option_map method_named (value_at ms p (codes "method")) else None

-- of the method that counts so far, with its precedence, and of one more the one that counts
abbrev pub of_two : ℕ → Option (ℕ × Method) → Method → Option (ℕ × Method)
of_two precedence None said = Some (precedence, said)
of_two precedence (Some other) said = if nat_lt precedence other.0 then Some other else Some (precedence, said)

abbrev pub output_in : List ModuleData → Option (ℕ × Method) → Place → Option (ℕ × Method)
output_in ms so_far p = option_map_or (of_two (precedence_at ms p.0) so_far) (said_method ms p) so_far
