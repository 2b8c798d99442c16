use Rattle.std.proofs.Common.{◌≡◌, filter}
use Rattle.std.specs.List.{range_with_len}
use Rattle.xs_modules.specs.Mentions.{is_mention}
use Rattle.xs_modules.proofs.mentions.mention_elements.Given as goal

-- the mentions among the places so far
abbrev pub invariant-loop-place : goal.invariant-loop-place
invariant-loop-place l = l.found.items ≡ filter (is_mention l.tree) (range_with_len 0 l.place)
