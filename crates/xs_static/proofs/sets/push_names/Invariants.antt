use denote.Shadow.{shadow}
use denote.Text.{Utf8}
use Rattle.std.proofs.Common.{◌≡◌, ◌++◌, map, length}
use Rattle.xs_elements.specs.Nodes.{name_data}
use Rattle.xs_static.specs.Sets.{names_in}
use Rattle.xs_static.proofs.sets.push_names.Given as goal

-- what was added, and the names that are left, are all
abbrev pub invariant-loop-word : goal.invariant-loop-word
invariant-loop-word l = record {
  same : map name_data l.out.items ++ names_in l.scope.pairs.items l.rest ≡ map name_data l.initial.out.items ++ names_in l.scope.pairs.items l.value;
  text : shadow (Utf8 l.rest);
}

abbrev pub decreases-loop-word : goal.decreases-loop-word
decreases-loop-word l = length l.rest
