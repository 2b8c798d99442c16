-- A list of faults that covers a set of them.
use Rattle.std.specs.Prelude.{◌≡◌, ◌⊎◌, true, List, [], ◌∷◌}
use Rattle.xs_static.specs.declared.fault.StaticFault.{StaticFault}
use Rattle.xs_static.specs.Faults.{is_at_most}

-- each of a list is in a set
abbrev pub AreIn : (StaticFault → Type 0) → List StaticFault → Type 0
AreIn P [] = Unit {0}
AreIn P (f ∷ fs) = P f × AreIn P fs

-- one of a list is at most as great as a fault
abbrev pub HasAtMost : StaticFault → List StaticFault → Type 0
HasAtMost f [] = ⊥
HasAtMost f (g ∷ gs) = (is_at_most g f ≡ true) ⊎ HasAtMost f gs
