use Rattle.std.proofs.Common.{◌≡◌, ◌<◌, ℕ, drop, length}
use Rattle.std.specs.List.{flat_map}
use Rattle.xs_compile.specs.Modes.{HasModes, modes_in, modes_of, tree_modes, with_modes}
use Rattle.xs_modules.specs.Results.{modules_data}
use Rattle.xs_structure.specs.Modules.{records_at}
use Rattle.xs_compile.proofs.modes.Modes.of.Given as goal

-- the modes of the modules that were passed; and with those of the modules that are left they are all, in order
abbrev pub invariant-loop-module : goal.invariant-loop-module
invariant-loop-module l = record {
  modes : (k : ℕ) → k < l.module-index
      → HasModes (records_at (modules_data l.modules) k) (length (records_at (modules_data l.modules) k)) l.modes;
  order : with_modes (modes_in l.modes) (flat_map (λ d. tree_modes d.records) (drop l.module-index (modules_data l.modules)))
      ≡ modes_of (modules_data l.modules);
}
