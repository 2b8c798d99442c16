use denote.Shadow.{shadow}
use denote.Text.{Utf8}
use Rattle.std.proofs.Common.{◌≡◌, ◌++◌, codes, length, option_map, string_bytes, true}
use Rattle.xs_numbering.specs.Formats.{following, is_apart, pieces}
use Rattle.xs_numbering.specs.Numbers.{others_text}
use Rattle.xs_numbering.proofs.formatting.append_others.Given as goal

-- what was made, with the numbers that are left, is the whole
abbrev pub invariant-loop-number : goal.invariant-loop-number
invariant-loop-number l = record {
  separator : shadow (Utf8 l.separator);
  token : shadow (Utf8 l.token);
  ahead : shadow (Utf8 l.ahead);
  whole :
      string_bytes l.out
      ++ others_text (option_map (λ g. (g.0.now, g.1)) l.group) (following (pieces l.ahead)) (l.separator, l.token) l.left
      ≡ string_bytes l.initial.out
      ++ others_text (option_map (λ g. (g.0.now, g.1)) l.group) (following (pieces l.rest)) (codes ".", l.first) l.others;
  apart : is_apart l.ahead ≡ true;
}

abbrev pub decreases-loop-number : goal.decreases-loop-number
decreases-loop-number l = length l.left
