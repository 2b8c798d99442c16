-- What is in force up to some place of a module: names, and namespaces, which are names with an empty local part.
use Rattle.std.specs.Prelude.{ℕ, ◌&&◌, nat_lt, Bool, false, List, Option}
use Rattle.std.specs.HashMap.{get_by}
use Rattle.std.specs.Option.{option_map_or}
use Rattle.std.specs.Str.{bytes_eq}
use Rattle.xs_structure.specs.declared.in_force.InForce.{InForce}

-- the place before which a name is in force
abbrev pub end_of : InForce → List ℕ → List ℕ → Option ℕ
end_of s uri local = get_by (λ k. bytes_eq uri k.0.now && bytes_eq local k.1.now) s.ends

-- a name is in force at a place
abbrev pub in_force_at : InForce → List ℕ → List ℕ → ℕ → Bool
in_force_at s uri local place = option_map_or (λ end. nat_lt place end) (end_of s uri local) false
