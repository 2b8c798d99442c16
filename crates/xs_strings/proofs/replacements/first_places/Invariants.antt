use Rattle.std.proofs.Common.{◌≡◌, ℕ, ◌==◌, nat_eq, take}
use Rattle.std.specs.HashMap.{get}
use Rattle.std.specs.List.{position_from}
use Rattle.xs_strings.proofs.replacements.first_places.Given as goal

abbrev pub invariant-loop-place : goal.invariant-loop-place
invariant-loop-place l = (c : ℕ) → get nat_eq l.places c ≡ position_from (λ d. d == c) 0 (take l.place l.alphabet)
