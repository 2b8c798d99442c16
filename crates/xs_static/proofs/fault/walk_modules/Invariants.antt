use Rattle.std.proofs.Common.{◌≡◌, ◌<◌, ℕ, map, take}
use Rattle.xs_modules.specs.Results.{module_data}
use Rattle.xs_structure.specs.Modules.{records_at}
use Rattle.xs_static.specs.steps.Found.{modules_faults}
use Rattle.xs_static.specs.steps.Least.{least_of}
use Rattle.xs_static.specs.steps.Whole.{AreWalked}
use Rattle.xs_tree.specs.Shape.{IsTree}
use Rattle.xs_static.proofs.fault.walk_modules.Given as goal

-- what is known of the modules that were walked
abbrev pub invariant-loop-number : goal.invariant-loop-number
invariant-loop-number l =
    AreWalked (take l.«number» (map module_data l.modules)) l.all.items ×
    ((m : ℕ) → m < l.«number» → IsTree (records_at (map module_data l.modules) m)) ×
    (l.least.fault ≡ least_of l.initial.least.fault (modules_faults (map module_data l.modules) l.names l.«number»))
