-- The trees of the modules.
use Rattle.std.specs.Prelude.{◌≤◌, List, length}
use Rattle.std.specs.List.{All}
use Rattle.xs_modules.specs.Numbering.{ModuleData}
use Rattle.xs_tree.specs.Limits.{most_nodes}
use Rattle.xs_tree.specs.Record.{Record}
use Rattle.xs_tree.specs.Shape.{IsTree}

-- the nodes of each module are a tree, of no more nodes than one may have
pub record HasTree (rs : List Record) : Type 0 where
  pub tree : IsTree rs
  pub few : length rs ≤ most_nodes

abbrev pub AreTrees : List ModuleData → Type 0
AreTrees ms = All (λ (d : ModuleData). HasTree d.records) ms
