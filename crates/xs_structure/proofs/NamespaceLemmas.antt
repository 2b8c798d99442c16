-- Namespaces that come into force.
use Rattle.std.proofs.Common.{◌≡◌, ◌∙◌, ◌<◌, ◌≤◌, ◌+◌, ℕ, suc, ap, sym, arith, Bool, List, length}
use Rattle.std.specs.Prelude.{◌&&◌, ◌||◌, nat_lt}
use Rattle.xs_structure.proofs.AroundLemmas.{around-more, within-end}
use Rattle.xs_structure.specs.steps.Around.{any_around}
use Rattle.xs_tree.specs.Record.{Record}
use Rattle.xs_tree.specs.Shape.{EndsAt, IsTree}

-- what the next node declares
pub declared_next : (test : ℕ → Bool) (rs : List Record) (n e k : ℕ) → IsTree rs → EndsAt rs n e → n + 1 ≤ suc k → k < length rs
    → (declares old new : Bool) → declares ≡ test n → old ≡ any_around test rs k n → new ≡ (declares && nat_lt k e || old)
    → new ≡ any_around test rs k (n + 1)
declared_next test rs n e k tree ends from inside declares old new d o h =
    h ∙ ap (λ x. x && nat_lt k e || old) d ∙ ap (λ x. test n && nat_lt k e || x) o
    ∙ ap (λ x. test n && x || any_around test rs k n) (sym (within-end rs n e k tree ends (omega (arith, from)) inside)) ∙ sym (around-more test rs k n)
