use Rattle.std.proofs.Common.{◌≡◌, ◌++◌}
use Rattle.std.specs.List.{flat_map}
use Rattle.xs_tree.specs.Record.{at, namespaces}
use Rattle.xs_making.specs.Copies.{space_events}
use Rattle.xs_making.specs.Putting.{events_steps}
use Rattle.xs_making.proofs.copies.put_spaces.Given as goal

-- what is said of all is said of those that are left
abbrev pub invariant-loop-space : goal.invariant-loop-space
invariant-loop-space g l =
    (goal.iterator-loop-space g).can_next l.space-iterator ×
    (goal.iterator-loop-space g).is_finite l.space-iterator ×
    (l.yielded ++ l.space-iterator ≡ namespaces l.tree l.fn.n) ×
    (events_steps l.site (flat_map (λ k. space_events (at l.tree k)) (namespaces l.tree l.fn.n)) (g.R.Tally.state l.fn.recorder)
    ≡ events_steps l.site (flat_map (λ k. space_events (at l.tree k)) l.space-iterator) (g.R.Tally.state l.recorder)) ×
    (g.R.Tally.kept l.recorder ≡ g.R.Tally.kept l.fn.recorder)
