use Rattle.std.proofs.Common.{◌≡◌, drop}
use Rattle.xs_words.specs.Inputs.{all_pairs}
use Rattle.xs_words.specs.Results.{borrowed}
use Rattle.xs_words.proofs.InputLemmas.{prepended}
use Rattle.xs_words.proofs.inputs.all_pairs.Given as goal

abbrev pub invariant-loop-word : goal.invariant-loop-word
invariant-loop-word l = prepended l.pairs.items (all_pairs (borrowed (drop l.word-index l.words))) ≡ all_pairs (borrowed l.words)
