-- The least of some numbers, and the least of some faults.
use Rattle.std.specs.Prelude.{ℕ, Bool, List, [], ◌∷◌, Option, Some, None, if◌then◌else◌, min}
use Rattle.std.specs.Option.{option_map_or}
use Rattle.xs_static.specs.declared.fault.StaticFault.{StaticFault}
use Rattle.xs_static.specs.Faults.{is_at_most}

abbrev pub lesser : Option ℕ → Option ℕ → Option ℕ
lesser None b = b
lesser (Some x) None = Some x
lesser (Some x) (Some y) = Some (min x y)

abbrev pub fault_of : ℕ → ℕ → ℕ → StaticFault
fault_of m line number = record { «module» = m; line = line; number = number }

abbrev pub earlier : Option StaticFault → StaticFault → Option StaticFault
earlier None fault = Some fault
earlier (Some least) fault = if is_at_most least fault then Some least else Some fault

-- the least of some faults and of one before them
unfoldable pub least_of : Option StaticFault → List StaticFault → Option StaticFault
least_of least [] = least
least_of least (fault ∷ faults) = least_of (earlier least fault) faults

-- a fault, where there is one
abbrev pub any_fault : ℕ → ℕ → Option ℕ → List StaticFault
any_fault m line number = option_map_or (λ k. fault_of m line k ∷ []) number []

-- a fault, where something holds
abbrev pub fault_where : Bool → ℕ → ℕ → ℕ → List StaticFault
fault_where holds m line number = if holds then fault_of m line number ∷ [] else []
