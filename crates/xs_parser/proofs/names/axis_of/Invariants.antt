use Rattle.std.proofs.Common.{◌≡◌, map, drop}
use Rattle.xs_xpath.specs.Rows.{first_named, row_data}
use Rattle.xs_parser.specs.Lexing.{axis_named}
use Rattle.xs_parser.proofs.names.axis_of.Given as goal

-- the first of those that are left is the first of all
abbrev pub invariant-loop-spelling : goal.invariant-loop-spelling
invariant-loop-spelling l = first_named (map row_data (drop l.spelling-index l.spelling-items)) l.name ≡ axis_named l.name
