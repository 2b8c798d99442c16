use Rattle.std.proofs.Common.{◌≡◌, drop}
use Rattle.xs_words.specs.Inputs.{are_new, has_distinct_names, names_of}
use Rattle.xs_words.specs.Results.{borrowed}
use Rattle.xs_words.proofs.inputs.has_distinct_names.Given as goal

abbrev pub invariant-loop-pair : goal.invariant-loop-pair
invariant-loop-pair l = are_new (borrowed l.names.keys) (names_of (drop l.pair-index l.pairs)) ≡ has_distinct_names l.pairs
