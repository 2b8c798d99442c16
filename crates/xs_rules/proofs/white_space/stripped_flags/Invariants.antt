use Rattle.std.proofs.Common.{◌≡◌, map}
use Rattle.std.specs.List.{range_with_len}
use Rattle.xs_rules.specs.WhiteSpace.{is_stripped, preserves}
use Rattle.xs_rules.proofs.white_space.stripped_flags.Given as goal

abbrev pub invariant-loop-place : goal.invariant-loop-place
invariant-loop-place l = record {
  flags : l.flags.items ≡ map (is_stripped l.rules l.tree) (range_with_len 0 l.place);
  kept : l.kept.items ≡ map (preserves l.tree) (range_with_len 0 l.place);
}
