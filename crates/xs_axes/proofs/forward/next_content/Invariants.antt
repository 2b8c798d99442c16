use Rattle.std.proofs.Common.{◌≡◌}
use Rattle.xs_axes.specs.Walks.{is_content, passing_between}
use Rattle.xs_axes.proofs.forward.next_content.Given as goal

-- what was passed is no content
abbrev pub invariant-loop-place : goal.invariant-loop-place
invariant-loop-place l = passing_between (is_content l.tree) l.from l.end ≡ passing_between (is_content l.tree) l.place l.end
