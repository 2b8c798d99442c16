use Rattle.std.proofs.Common.{refl}
use Rattle.xs_tree.specs.Axis.{axis_list}
use Rattle.xs_numbering.proofs.laws.counts.Goals as goal

pub returns-clause-first : goal.returns-clause-first
unfolding axis_list
returns-clause-first c = refl

pub returns-clause-second : goal.returns-clause-second
unfolding axis_list
returns-clause-second c = refl

pub returns-clause-again : goal.returns-clause-again
unfolding axis_list
returns-clause-again c = refl

pub returns-clause-itself : goal.returns-clause-itself
unfolding axis_list
returns-clause-itself c = refl

pub returns-clause-none : goal.returns-clause-none
unfolding axis_list
returns-clause-none c = refl

pub returns-clause-all : goal.returns-clause-all
unfolding axis_list
returns-clause-all c = refl

pub returns-clause-levels : goal.returns-clause-levels
unfolding axis_list
returns-clause-levels c = refl

pub returns-clause-below : goal.returns-clause-below
unfolding axis_list
returns-clause-below c = refl

pub returns-clause-own : goal.returns-clause-own
unfolding axis_list
returns-clause-own c = refl

pub returns-clause-nearest : goal.returns-clause-nearest
unfolding axis_list
returns-clause-nearest c = refl

pub returns-clause-outer : goal.returns-clause-outer
unfolding axis_list
returns-clause-outer c = refl

pub returns-clause-past : goal.returns-clause-past
unfolding axis_list
returns-clause-past c = refl
