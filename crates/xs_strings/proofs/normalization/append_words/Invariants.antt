use Rattle.std.proofs.Common.{◌≡◌, ◌++◌, map, List, ℕ, Bor, not}
use Rattle.std.specs.List.{join_with_byte}
use Rattle.xs_strings.proofs.WordLemmas.{is_some_piece}
use Rattle.xs_strings.proofs.normalization.append_words.Given as goal

abbrev pub invariant-loop-word : goal.invariant-loop-word
invariant-loop-word l =
    let pieces : List (List ℕ) = map (λ (x : Bor (List ℕ)). x.now) l.yielded in
    (l.out.items ≡ l.fn.out.items ++ join_with_byte 32 pieces) × (l.is_first ≡ not (is_some_piece pieces))
