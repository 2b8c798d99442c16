-- Minus signs: two of them are none.
use Rattle.std.proofs.Common.{◌≡◌, ℕ, ◌+◌, ◌%◌, arith, zero, suc, refl, ap, sym, ◌∙◌}
use Rattle.std.proofs.Math.Nat.{add-mod_right}
use Rattle.std.proofs.Math.IntN.{neg_ℤ-neg_ℤ}
use Rattle.xs_num.specs.Number.{negated}
use Rattle.xs_num.specs.declared.number.Number.{Number}
use Rattle.xs_num.specs.declared.number.Number.TheVariants.{Whole, NaN}
use Rattle.xs_eval_spec.specs.Operators.{negated_by}

twice : (n : Number) → negated (negated n) ≡ n
twice (Whole z) = ap (λ k. Whole k) (neg_ℤ-neg_ℤ z)
twice NaN = refl

two-less : (s : ℕ) → suc (suc s) % 2 ≡ s % 2
two-less s = let e : suc (suc s) ≡ s + 2 = omega arith in ap (λ k. k % 2) e ∙ add-mod_right s 2

pub negated-even : (s : ℕ) (n : Number) → s % 2 ≡ 0 → n ≡ negated_by s n
negated-even zero n h = refl
negated-even (suc zero) n h = absurd (omega (arith, h))
negated-even (suc (suc s)) n h =
    sym (twice n) ∙ ap (λ m. negated (negated m)) (negated-even s n (sym (two-less s) ∙ h))

pub negated-odd : (s : ℕ) (n : Number) → (s % 2 ≡ 0 → ⊥) → negated n ≡ negated_by s n
negated-odd zero n h = absurd (h refl)
negated-odd (suc zero) n h = refl
negated-odd (suc (suc s)) n h =
    sym (twice (negated n)) ∙ ap (λ m. negated (negated m)) (negated-odd s n (λ e. h (two-less s ∙ e)))
