-- Where a path begins.
use Rattle.std.proofs.Common.{◌≡◌, ℕ, zero, suc, ◌≤◌, ◌==◌, ◌||◌, arith, Bool, true, false, cond, List, [], ◌∷◌, refl, sym, ap, ◌∙◌}
use Rattle.std.proofs.lemmas.Bool.{eq-eqb, ne_eqb}
use Rattle.xs_tree.specs.Axis.{root_of}
use Rattle.xs_tree.specs.Kinds.{is_root_kind}
use Rattle.xs_tree.specs.Record.{Record, at}
use Rattle.xs_tree.specs.Shape.{IsTree}
use Rattle.xs_tree.proofs.RootLemmas.{root_of-le}
use Rattle.xs_pattern_spec.specs.Predicates.{is_among}

or-none : (b : Bool) → (b || false) ≡ b
or-none true = refl
or-none false = refl

-- any node, on a relative path
pub here-among : (n : ℕ) → is_among n (n ∷ []) ≡ true
here-among n = or-none (n == n) ∙ eq-eqb n n refl

-- a root, after a slash
pub root-among : (rs : List Record) (n : ℕ) → IsTree rs → is_among n (root_of rs n ∷ []) ≡ is_root_kind (at rs n).kind
root-among rs zero t = sym (ap (λ (r : Record). is_root_kind r.kind) t.first)
root-among rs (suc k) t = by_kind (is_root_kind (at rs (suc k)).kind)
  where
    le : root_of rs k ≤ k
    le = root_of-le rs k

    by_kind : (b : Bool) → is_among (suc k) (cond b (suc k) (root_of rs k) ∷ []) ≡ b
    by_kind true = here-among (suc k)
    by_kind false = or-none (root_of rs k == suc k) ∙ ne_eqb (root_of rs k) (suc k) (λ e. omega (arith, e, le))
