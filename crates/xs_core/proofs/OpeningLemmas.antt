-- The start.
use Rattle.std.proofs.Common.{◌≡◌, ◌+◌, ◌++◌, ◌∷◌, [], List, ℕ, zero, suc, None, refl, sym, ap, ◌∙◌, arith, append_assoc}
use Rattle.xs_core.specs.Machine.{Worker, worker, idle}

idle-push : (n : ℕ) → idle (suc n) ≡ idle n ++ worker [] None ∷ []
idle-push zero = refl
idle-push (suc n) = ap (λ ws. worker [] None ∷ ws) (idle-push n)

idle-more : (n : ℕ) → idle (n + 1) ≡ idle n ++ worker [] None ∷ []
idle-more n = let e : n + 1 ≡ suc n = omega arith in ap idle e ∙ idle-push n

pub idle-after : (ws : List Worker) (n : ℕ) → (ws ++ idle n) ++ worker [] None ∷ [] ≡ ws ++ idle (n + 1)
idle-after ws n = append_assoc ws (idle n) (worker [] None ∷ []) ∙ ap (λ t. ws ++ t) (sym (idle-more n))
