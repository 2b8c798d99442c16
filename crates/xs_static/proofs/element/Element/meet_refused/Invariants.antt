use Rattle.std.proofs.Common.{◌≡◌, ◌++◌, filter, map}
use Rattle.xs_elements.specs.Contents.{before_of}
use Rattle.xs_static.specs.steps.Elements.{records_of}
use Rattle.xs_static.specs.steps.Least.{least_of}
use Rattle.xs_static.specs.steps.Misplaced.{is_refused, misplaced_fault, refused, tags_among}
use Rattle.xs_tree.specs.Record.{children}
use Rattle.xs_static.proofs.element.Element.meet_refused.Given as goal

-- what was met, with what is left, is the whole
abbrev pub invariant-loop-child : goal.invariant-loop-child
invariant-loop-child l =
    goal.iterator-loop-child.can_next l.child-iterator ×
    goal.iterator-loop-child.is_finite l.child-iterator ×
    (l.yielded ++ l.child-iterator ≡ children (records_of l.self) l.self.node) ×
    (l.before ≡ before_of (tags_among (records_of l.self) l.self.node l.yielded)) ×
    (least_of l.least.fault (map (misplaced_fault l.«module» l.lines) (filter (is_refused (records_of l.self) l.self.node) l.child-iterator))
    ≡ least_of l.initial.least.fault (map (misplaced_fault l.«module» l.lines) (refused (records_of l.self) l.self.node)))
