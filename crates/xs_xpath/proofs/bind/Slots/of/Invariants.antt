use Rattle.std.proofs.Common.{◌≡◌, ℕ, List, length}
use Rattle.std.specs.HashMap.{get_by}
use Rattle.std.specs.Prelude.{◌&&◌}
use Rattle.std.specs.Str.{bytes_eq}
use Rattle.xs_xpath.specs.Binding.{slot_in}
use Rattle.xs_xpath.specs.Names.{or_else}
use Rattle.xs_xpath.proofs.bind.Slots.of.Given as goal

abbrev pub invariant-loop-name : goal.invariant-loop-name
invariant-loop-name l =
    (uri local : List ℕ) → slot_in l.entries uri local ≡ or_else (slot_in l.rest uri local)
    (get_by (λ k. bytes_eq uri k.0.now && bytes_eq local k.1.now) l.slots)

abbrev pub decreases-loop-name : goal.decreases-loop-name
decreases-loop-name l = length l.rest
