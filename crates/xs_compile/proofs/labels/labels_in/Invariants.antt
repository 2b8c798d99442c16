use denote.Shadow.{shadow}
use denote.Text.{Utf8}
use Rattle.std.proofs.Common.{◌≡◌, ◌++◌, length}
use Rattle.std.specs.List.{filter_map}
use Rattle.xs_compile.specs.Labels.{label_in}
use Rattle.xs_elements.specs.WhiteSpace.{words}
use Rattle.xs_compile.proofs.labels.labels_in.Given as goal

-- the names so far, and those of the words that are left
abbrev pub invariant-loop-word : goal.invariant-loop-word
invariant-loop-word l = record {
  same : l.labels.items ++ filter_map (label_in l.scope.pairs.items) (words l.rest) ≡ filter_map (label_in l.scope.pairs.items) (words l.text);
  text : shadow (Utf8 l.rest);
}

abbrev pub decreases-loop-word : goal.decreases-loop-word
decreases-loop-word l = length l.rest
