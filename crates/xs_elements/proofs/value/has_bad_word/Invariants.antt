use denote.Shadow.{shadow}
use denote.Text.{Utf8}
use Rattle.std.proofs.Common.{◌≡◌, length}
use Rattle.std.specs.List.{list_any}
use Rattle.xs_elements.specs.Values.{is_bad_word}
use Rattle.xs_elements.specs.WhiteSpace.{words}
use Rattle.xs_elements.proofs.value.has_bad_word.Given as goal

-- whether one of the words that are left is so
abbrev pub invariant-loop-word : goal.invariant-loop-word
invariant-loop-word l = record {
  same : list_any (is_bad_word l.form) (words l.rest) ≡ list_any (is_bad_word l.form) (words l.value);
  text : shadow (Utf8 l.rest);
}

abbrev pub decreases-loop-word : goal.decreases-loop-word
decreases-loop-word l = length l.rest
