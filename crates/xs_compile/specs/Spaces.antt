-- Which white space of the source is stripped (XSLT 1.0, 3.4).
use Rattle.std.specs.Prelude.{ℕ, Bool, true, false, List, [], map, codes, if◌then◌else◌}
use Rattle.std.specs.List.{flat_map}
use Rattle.std.specs.Option.{option_map_or}
use Rattle.std.specs.Str.{bytes_eq}
use Rattle.xs_elements.specs.declared.tags.Tag.{Tag}
use Rattle.xs_elements.specs.declared.tags.Tag.TheVariants.{StripSpace, PreserveSpace}
use Rattle.xs_elements.specs.Values.{prefix_of_test}
use Rattle.xs_elements.specs.WhiteSpace.{words}
use Rattle.xs_modules.specs.Numbering.{ModuleData}
use Rattle.xs_sheet.specs.declared.declarations.NameTest.{NameTest}
use Rattle.xs_sheet.specs.declared.declarations.NameTest.TheVariants.{Any, Uri, Name}
use Rattle.xs_sheet.specs.declared.declarations.StripRule.{StripRule}
use Rattle.xs_structure.specs.Modules.{Place, precedence_at}
use Rattle.xs_xpath.specs.Names.{uri_of}
use Rattle.xs_compile.specs.Labels.{label_in}
use Rattle.xs_structure.specs.Order.{declarations}
use Rattle.xs_structure.specs.Parts.{pairs_at, tag_at, said_at}

-- a name test (XPath 1.0, 2.3)
abbrev pub test_in : List (List ℕ × List ℕ) → List ℕ → NameTest
test_in pairs word =
    if bytes_eq word (codes "*") then Any
    else option_map_or (λ prefix. Uri (uri_of pairs prefix)) (prefix_of_test word) (option_map_or Name (label_in pairs word) Any)

abbrev pub rule_of : Bool → List ModuleData → Place → List ℕ → StripRule
rule_of strip ms p word = record { test = test_in (pairs_at ms p) word; precedence = precedence_at ms p.0; strip = strip }

abbrev pub rules_of : Bool → List ModuleData → Place → List StripRule
rules_of strip ms p = map (rule_of strip ms p) (words (said_at ms p (codes "elements")))

abbrev pub rules_by : Tag → List ModuleData → Place → List StripRule
rules_by StripSpace ms p = rules_of true ms p
rules_by PreserveSpace ms p = rules_of false ms p
rules_by _ ms p = []

abbrev pub strip_rules : List ModuleData → List StripRule
strip_rules ms = flat_map (λ p. rules_by (tag_at ms p) ms p) (declarations ms)
