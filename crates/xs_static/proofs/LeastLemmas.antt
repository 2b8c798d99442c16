-- The least number of the faults with a property.
use Rattle.std.proofs.Common.{◌≡◌, ◌∙◌, ℕ, ◌≤◌, ◌<◌, ap, refl, sym, arith, inl, inr, ◌⊎◌}
use Rattle.std.proofs.lemmas.Bool.{and_parts, both_ways, cases_lt, eq-eqb, eqb-true, or_left, or_right, true≢false}
use Rattle.std.specs.Prelude.{Bool, true, false, ◌&&◌, ◌||◌, ◌==◌, Option, Some, None, min}
use Rattle.xs_static.proofs.BooleanLemmas.{and-false}
use Rattle.xs_static.specs.Faults.{Fault, number_of}
use Rattle.xs_static.specs.steps.Elements.{if_holds}
use Rattle.xs_static.specs.steps.Least.{lesser}
use Rattle.xs_static.specs.steps.Shown.{IsLeastNumber}

-- ---- booleans
neither : (a b : Bool) → a ≡ false → b ≡ false → (a || b) ≡ false
neither true b p q = p
neither false b p q = q

not-left : (a b : Bool) → a ≡ false → (a || b) ≡ true → b ≡ true
not-left true b p h = absurd (true≢false p)
not-left false b p h = h

not-right : (a b : Bool) → b ≡ false → (a || b) ≡ true → a ≡ true
not-right true b q h = refl
not-right false b q h = absurd (both_ways b q h)

bounded : (a b : Bool) (m k : ℕ) → (a ≡ true → m ≤ k) → (b ≡ true → m ≤ k) → (a || b) ≡ true → m ≤ k
bounded true b m k p q h = p refl
bounded false b m k p q h = q h

-- ---- two sets of faults, and both together
module _ (holds p q : Fault → Bool) (both : (f : Fault) → holds f ≡ (p f || q f)) where
  lower : (x y : ℕ) → IsLeastNumber p (Some x) → IsLeastNumber q (Some y) → (f : Fault) → holds f ≡ true → min x y ≤ number_of f
  lower x y a b f h = bounded (p f) (q f) (min x y) (number_of f) (λ e. omega (arith, a.1 f e)) (λ e. omega (arith, b.1 f e)) (sym (both f) ∙ h)

  least-of : (x y : ℕ) → IsLeastNumber p (Some x) → IsLeastNumber q (Some y) → ((x < y) ⊎ (y ≤ x)) → IsLeastNumber holds (Some (min x y))
  least-of x y a b (inl s) =
      ((a.0.0, both a.0.0 ∙ or_left (p a.0.0) (q a.0.0) a.0.1, omega (arith, a.0.2, s)), lower x y a b)
  least-of x y a b (inr s) =
      ((b.0.0, both b.0.0 ∙ or_right (p b.0.0) (q b.0.0) b.0.1, omega (arith, b.0.2, s)), lower x y a b)

  pub joined : (a b : Option ℕ) → IsLeastNumber p a → IsLeastNumber q b → IsLeastNumber holds (lesser a b)
  joined None None a b = λ f. both f ∙ neither (p f) (q f) (a f) (b f)
  joined None (Some y) a b = (
    (b.0.0, both b.0.0 ∙ or_right (p b.0.0) (q b.0.0) b.0.1, b.0.2),
    λ f h. b.1 f (not-left (p f) (q f) (a f) (sym (both f) ∙ h)),
  )
  joined (Some x) None a b = (
    (a.0.0, both a.0.0 ∙ or_left (p a.0.0) (q a.0.0) a.0.1, a.0.2),
    λ f h. a.1 f (not-right (p f) (q f) (b f) (sym (both f) ∙ h)),
  )
  joined (Some x) (Some y) a b = least-of x y a b (cases_lt x y)

-- ---- the same set of faults
pub same-least : (p q : Fault → Bool) → ((f : Fault) → q f ≡ p f) → (a : Option ℕ) → IsLeastNumber p a → IsLeastNumber q a
same-least p q e None h = λ f. e f ∙ h f
same-least p q e (Some k) h = ((h.0.0, e h.0.0 ∙ h.0.1, h.0.2), λ f t. h.1 f (sym (e f) ∙ t))

-- ---- one fault, where something holds
abbrev pub only : Fault → Bool → Fault → Bool
only g holds f = (number_of f == number_of g) && holds

same-number : (n : ℕ) → (n == n) ≡ true
same-number n = eq-eqb n n refl

pub one : (g : Fault) (holds : Bool) → IsLeastNumber (only g holds) (if_holds holds (number_of g))
one g true = (
  (g, ap (λ b. b && true) (same-number (number_of g)), refl),
  λ f h. omega (arith, eqb-true (number_of f) (number_of g) (and_parts (number_of f == number_of g) true h).0),
)
one g false = λ f. and-false (number_of f == number_of g)
