-- The modules of a list, as the code has them.
use Rattle.std.proofs.Common.{◌≡◌, ℕ, zero, suc, ◌<◌, List, [], ◌∷◌, map, length, get_or, sym, ap, arith}
use Rattle.std.proofs.lemmas.List.{length-map}
use Rattle.xs_modules.specs.declared.modules.Module.{Module}
use Rattle.xs_modules.specs.Results.{module_data}
use Rattle.xs_reply.specs.Run.{module_name}

-- how many modules there are
pub known_module : (ms : List Module) (n : ℕ) → n < length (map module_data ms) → n < length ms
known_module ms n known = omega (arith, known, length-map ms module_data)

-- the name of one of them
pub name_there : (ms : List Module) (n : ℕ) (m : Module) → n < length ms → m ≡ get_or ms n m → module_name (map module_data ms) n ≡ m.name
name_there [] n m known is = absurd (omega (arith, known))
name_there (x ∷ xs) zero m known is = ap (λ (y : Module). y.name) (sym is)
name_there (x ∷ xs) (suc n) m known is = name_there xs n m (omega (arith, known)) is
