use Rattle.std.proofs.Common.{◌≡◌, ◌++◌}
use Rattle.std.specs.Str.{chars, encode_utf8_all}
use Rattle.xs_strings.specs.Translation.{translated}
use Rattle.xs_strings.proofs.translation.append_in_turn.Given as goal

abbrev pub invariant-loop-character : goal.invariant-loop-character
invariant-loop-character l = l.out.items ≡ l.fn.out.items ++ encode_utf8_all (translated l.yielded (chars l.from) (chars l.to))
