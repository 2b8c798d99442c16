use denote.Shadow.{shadow}
use denote.Text.{Utf8}
use Rattle.std.proofs.Common.{◌≡◌, ℕ, List, [], length}
use Rattle.std.specs.Prelude.{◌&&◌, ◌||◌, nat_lt}
use Rattle.std.specs.List.{list_any}
use Rattle.xs_elements.specs.Reading.{means_uri}
use Rattle.xs_elements.specs.WhiteSpace.{words}
use Rattle.xs_structure.specs.InForce.{in_force_at}
use Rattle.xs_structure.proofs.namespaces.enter_words.Given as goal

-- the words that are left, and what is in force
abbrev pub invariant-loop-word : goal.invariant-loop-word
invariant-loop-word l = record {
  same : (uri : List ℕ) (k : ℕ) →
      ((list_any (means_uri l.scope.pairs.items uri) (words l.rest) && nat_lt k l.end) || in_force_at l.in_force uri [] k)
      ≡ ((list_any (means_uri l.scope.pairs.items uri) (words l.value) && nat_lt k l.end) || in_force_at l.initial.in_force uri [] k);
  text : shadow (Utf8 l.rest);
}

abbrev pub decreases-loop-word : goal.decreases-loop-word
decreases-loop-word l = length l.rest
