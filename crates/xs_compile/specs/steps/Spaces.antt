-- Name tests and rules of white space, as they are read.
use Rattle.std.specs.Prelude.{ℕ, Bool, List}
use Rattle.std.specs.Option.{option_map_or}
use Rattle.xs_compile.specs.Spaces.{test_in}
use Rattle.xs_compile.specs.Labels.{label_in}
use Rattle.xs_sheet.specs.declared.declarations.NameTest.{NameTest}
use Rattle.xs_sheet.specs.declared.declarations.NameTest.TheVariants.{Any, Name}
use Rattle.xs_sheet.specs.declared.declarations.StripRule.{StripRule}

-- a QName as a name test
abbrev pub named_test : List (List ℕ × List ℕ) → List ℕ → NameTest
named_test pairs word = option_map_or Name (label_in pairs word) Any

abbrev pub rule_as : Bool → List (List ℕ × List ℕ) → ℕ → List ℕ → StripRule
rule_as strip pairs precedence word = record { test = test_in pairs word; precedence = precedence; strip = strip }
