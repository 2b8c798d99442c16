use Rattle.std.proofs.Common.{◌≡◌, ◌++◌}
use Rattle.std.specs.List.{filter_map}
use Rattle.std.specs.Str.{encode_utf8_all}
use Rattle.xs_strings.specs.Replacements.{replaced_by}
use Rattle.xs_strings.proofs.translation.append_by_table.Given as goal

abbrev pub invariant-loop-character : goal.invariant-loop-character
invariant-loop-character l = l.out.items ≡ l.fn.out.items ++ encode_utf8_all (filter_map (replaced_by l.table) l.yielded)
