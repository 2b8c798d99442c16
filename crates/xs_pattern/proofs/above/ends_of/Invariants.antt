use Rattle.std.proofs.Common.{◌≡◌, true, drop, take}
use Rattle.std.specs.List.{list_all}
use Rattle.xs_xpath.specs.Exprs.{tree_from, trees_from}
use Rattle.xs_pattern.specs.Above.{EndsBy, is_plain}
use Rattle.xs_pattern.specs.steps.Climb.{backwards, is_anywhere}
use Rattle.xs_pattern.proofs.above.ends_of.Given as goal

-- the table is that of the steps that were passed
abbrev pub invariant-loop-step : goal.invariant-loop-step
invariant-loop-step l = record {
  begins : is_anywhere (tree_from l.start) ≡ true;
  ends : EndsBy l.tree (tree_from l.start) (backwards (take l.step-index l.steps)) l.ends.items;
  plain : list_all is_plain (trees_from (drop l.step-index l.steps)) ≡ list_all is_plain (trees_from l.steps);
}
