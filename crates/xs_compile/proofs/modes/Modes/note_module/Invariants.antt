use Rattle.std.proofs.Common.{◌≡◌, ℕ, List, map}
use Rattle.std.specs.List.{range_with_len}
use Rattle.xs_compile.specs.Modes.{HasModes, modes_in, tree_mode, with_modes}
use Rattle.xs_tree.specs.Record.{Record}
use Rattle.xs_compile.proofs.modes.Modes.note_module.Given as goal

-- the modes of the nodes that were passed, in their order, and all that were there
abbrev pub invariant-loop-place : goal.invariant-loop-place
invariant-loop-place l = record {
  modes : HasModes l.tree l.place l.self;
  kept : (rs : List Record) (count : ℕ) → HasModes rs count l.initial.self → HasModes rs count l.self;
  order : modes_in l.self ≡ with_modes (modes_in l.initial.self) (map (tree_mode l.tree) (range_with_len 0 l.place));
}
