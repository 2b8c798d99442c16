use Rattle.std.proofs.Common.{◌≡◌, ◌++◌}
use Rattle.std.specs.List.{flat_map}
use Rattle.xs_tree.specs.Record.{at, attributes}
use Rattle.xs_making.specs.Copies.{attribute_events}
use Rattle.xs_making.specs.Putting.{events_steps}
use Rattle.xs_making.proofs.copies.put_attributes.Given as goal

-- what is said of all is said of those that are left
abbrev pub invariant-loop-attribute : goal.invariant-loop-attribute
invariant-loop-attribute g l =
    (goal.iterator-loop-attribute g).can_next l.attribute-iterator ×
    (goal.iterator-loop-attribute g).is_finite l.attribute-iterator ×
    (l.yielded ++ l.attribute-iterator ≡ attributes l.tree l.fn.n) ×
    (events_steps l.site (flat_map (λ k. attribute_events (at l.tree k)) (attributes l.tree l.fn.n)) (g.R.Tally.state l.fn.recorder)
    ≡ events_steps l.site (flat_map (λ k. attribute_events (at l.tree k)) l.attribute-iterator) (g.R.Tally.state l.recorder)) ×
    (g.R.Tally.kept l.recorder ≡ g.R.Tally.kept l.fn.recorder)
