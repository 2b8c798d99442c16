use Rattle.std.proofs.Common.{◌≡◌, ℕ, ◌<◌, false, get_or}
use Rattle.xs_text.specs.WhiteSpace.{is_white_space}
use Rattle.xs_elements.proofs.words.word_length.Given as goal

-- no byte so far is white space
abbrev pub invariant-loop-byte : goal.invariant-loop-byte
invariant-loop-byte l = record {
  so_far : l.count ≡ l.byte-index;
  bare : (k : ℕ) → k < l.count → is_white_space (get_or l.text k 0) ≡ false;
}
