-- The first static fault of modules is one alone.
use Rattle.std.proofs.Common.{◌≡◌, ℕ, List, Option, Some, None, true, refl, ap, arith}
use Rattle.std.proofs.lemmas.Bool.Decides.{nat_tests}
use Rattle.xs_modules.specs.Numbering.{ModuleData}
use Rattle.xs_static.specs.declared.fault.StaticFault.{StaticFault}
use Rattle.xs_static.specs.Faults.{IsFirstFault, is_at_most}

same_module : (f g : StaticFault) → is_at_most f g ≡ true → is_at_most g f ≡ true → f.«module» ≡ g.«module»
same_module f g p q = grind (arith, nat_tests)

same_line : (f g : StaticFault) → is_at_most f g ≡ true → is_at_most g f ≡ true → f.line ≡ g.line
same_line f g p q = grind (arith, nat_tests)

same_number : (f g : StaticFault) → is_at_most f g ≡ true → is_at_most g f ≡ true → f.number ≡ g.number
same_number f g p q = grind (arith, nat_tests)

abbrev made : ℕ → ℕ → ℕ → StaticFault
made m l n = record { «module» = m; line = l; number = n }

by_parts : (m n l k a b : ℕ) → m ≡ n → l ≡ k → a ≡ b → made m l a ≡ made n k b
by_parts m n l k a b e f h = rw (e, f, h) refl

same_fault : (f g : StaticFault) → is_at_most f g ≡ true → is_at_most g f ≡ true → f ≡ g
same_fault f g p q =
    by_parts f.«module» g.«module» f.line g.line f.number g.number (same_module f g p q) (same_line f g p q) (same_number f g p q)

pub one_fault : (ms : List ModuleData) (f g : Option StaticFault) → IsFirstFault ms f → IsFirstFault ms g → f ≡ g
one_fault ms None None p q = refl
one_fault ms None (Some g) p q = absurd (p g q.0)
one_fault ms (Some f) None p q = absurd (q f p.0)
one_fault ms (Some f) (Some g) p q = ap (λ x. Some x) (same_fault f g (p.1 g q.0) (q.1 f p.0))
