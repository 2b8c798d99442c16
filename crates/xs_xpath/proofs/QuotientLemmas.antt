-- The last of some operators.
use Rattle.std.proofs.Common.{◌≡◌, ℕ, zero, suc, List, [], ◌∷◌, length, get_or, arith, ap}
use Rattle.std.proofs.Math.ListN.{set}
use Rattle.xs_xpath.specs.declared.token.Operator.{Operator}
use Rattle.xs_xpath.specs.Quotients.{instead_of_div, last_divided}

pub last_set : (division : Operator) (ops : List Operator) (i : ℕ) (op : Operator) → length ops ≡ suc i → op ≡ get_or ops i op
    → set ops i (instead_of_div division op) ≡ last_divided division ops
last_set division [] i op h g = absurd (omega (arith, h))
last_set division (a ∷ []) zero op h g = ap (λ o. instead_of_div division o ∷ []) g
last_set division (a ∷ []) (suc i) op h g = absurd (omega (arith, h))
last_set division (a ∷ b ∷ ops) zero op h g = absurd (omega (arith, h))
last_set division (a ∷ b ∷ ops) (suc i) op h g = ap (λ l. a ∷ l) (last_set division (b ∷ ops) i op (omega (arith, h)) g)
