use Rattle.std.proofs.Common.{◌≡◌, true, take}
use Rattle.std.specs.List.{list_all}
use Rattle.xs_xpath.specs.Exprs.{tree_from, trees_from}
use Rattle.xs_pattern.specs.steps.Climb.{backwards, is_anywhere}
use Rattle.xs_pattern.specs.steps.PathTables.{EndsIn, is_free}
use Rattle.xs_pattern.proofs.path_tables.ends_of.Given as goal

-- the table is that of the steps that were passed
abbrev pub invariant-loop-step : goal.invariant-loop-step
invariant-loop-step l = record {
  begins : is_anywhere (tree_from l.start) ≡ true;
  ends : list_all is_free (trees_from l.steps) ≡ true
      → EndsIn l.tree l.scope.pairs.items (tree_from l.start) (backwards (take l.step-index l.steps)) l.ends.items;
}
