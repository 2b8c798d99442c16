use Rattle.std.proofs.Common.{◌≡◌, take}
use Rattle.std.specs.List.{flat_map}
use Rattle.xs_words.specs.Inputs.{document_in}
use Rattle.xs_words.specs.Results.{borrowed}
use Rattle.xs_words.proofs.inputs.documents_in.Given as goal

abbrev pub invariant-loop-word : goal.invariant-loop-word
invariant-loop-word l = borrowed l.words.items ≡ flat_map (λ word. document_in word.now) (take l.word-index l.inputs)
