-- The least of a list of faults that covers a set is the least of the set.
use Rattle.std.proofs.Common.{◌≡◌, ◌∙◌, ℕ, ◌<◌, refl, sym, arith, inl, inr, ◌⊎◌, ⊎_elim, List, [], ◌∷◌, ◌++◌, Bool, true, false, Option, Some, None}
use Rattle.std.proofs.lemmas.Bool.{and_from, and_parts, cases_order, eq-eqb, eqb-true, le-leb, leb-false, leb-true, lt-ltb, ltb-true, or_cases, or_left, or_right, true≢false}
use Rattle.std.specs.Prelude.{◌&&◌, ◌||◌, ◌==◌, nat_lt, nat_le, if◌then◌else◌}
use Rattle.xs_static.specs.declared.fault.StaticFault.{StaticFault}
use Rattle.xs_static.specs.Faults.{IsLeastOf, is_at_most}
use Rattle.xs_static.specs.steps.Covering.{AreIn, HasAtMost}
use Rattle.xs_static.specs.steps.Least.{earlier, least_of}

-- ---- the order of numbers, and then another one
abbrev pub by_number : ℕ → ℕ → Bool → Bool
by_number a b rest = nat_lt a b || (a == b && rest)

pub less_number : (a b : ℕ) (rest : Bool) → a < b → by_number a b rest ≡ true
less_number a b rest h = or_left (nat_lt a b) (a == b && rest) (lt-ltb a b h)

pub same_number : (a b : ℕ) (rest : Bool) → a ≡ b → rest ≡ true → by_number a b rest ≡ true
same_number a b rest e r = or_right (nat_lt a b) (a == b && rest) (and_from (a == b) rest (eq-eqb a b e) r)

by-cases : (a b : ℕ) (rest : Bool) → by_number a b rest ≡ true → (a < b) ⊎ ((a ≡ b) × (rest ≡ true))
by-cases a b rest h =
    ⊎_elim (λ l. inl (ltb-true a b l)) (λ r. inr (eqb-true a b (and_parts (a == b) rest r).0, (and_parts (a == b) rest r).1))
    (or_cases (nat_lt a b) (a == b && rest) h)

trans-cases : (a b c : ℕ) (q r s : Bool) → (q ≡ true → r ≡ true → s ≡ true) → (a < b) ⊎ ((a ≡ b) × (q ≡ true))
    → (b < c) ⊎ ((b ≡ c) × (r ≡ true)) → by_number a c s ≡ true
trans-cases a b c q r s rest (inl x) (inl y) = less_number a c s (omega (arith, x, y))
trans-cases a b c q r s rest (inl x) (inr y) = less_number a c s (omega (arith, x, y.0))
trans-cases a b c q r s rest (inr x) (inl y) = less_number a c s (omega (arith, x.0, y))
trans-cases a b c q r s rest (inr x) (inr y) = same_number a c s (x.0 ∙ y.0) (rest x.1 y.1)

number-trans : (a b c : ℕ) (q r s : Bool) → (q ≡ true → r ≡ true → s ≡ true) → by_number a b q ≡ true → by_number b c r ≡ true
    → by_number a c s ≡ true
number-trans a b c q r s rest x y = trans-cases a b c q r s rest (by-cases a b q x) (by-cases b c r y)

rest-false : (a b : ℕ) (x : Bool) → a ≡ b → by_number a b x ≡ false → x ≡ false
rest-false a b true e g = absurd (true≢false (sym (same_number a b true e refl) ∙ g))
rest-false a b false e g = refl

total-cases : (a b : ℕ) (q r : Bool) → (q ≡ false → r ≡ true) → by_number a b q ≡ false → (a ≡ b) ⊎ ((a < b) ⊎ (b < a)) → by_number b a r ≡ true
total-cases a b q r rest h (inl e) = same_number b a r (sym e) (rest (rest-false a b q e h))
total-cases a b q r rest h (inr (inl l)) = absurd (true≢false (sym (less_number a b q l) ∙ h))
total-cases a b q r rest h (inr (inr g)) = less_number b a r g

number-total : (a b : ℕ) (q r : Bool) → (q ≡ false → r ≡ true) → by_number a b q ≡ false → by_number b a r ≡ true
number-total a b q r rest h = total-cases a b q r rest h (cases_order a b)

le-trans : (a b c : ℕ) → nat_le a b ≡ true → nat_le b c ≡ true → nat_le a c ≡ true
le-trans a b c x y = le-leb a c (omega (arith, leb-true a b x, leb-true b c y))

le-total : (a b : ℕ) → nat_le a b ≡ false → nat_le b a ≡ true
le-total a b x = le-leb b a (omega (arith, leb-false a b x))

-- ---- the order of faults
pub at_most_trans : (f g h : StaticFault) → is_at_most f g ≡ true → is_at_most g h ≡ true → is_at_most f h ≡ true
at_most_trans f g h =
    number-trans f.«module» g.«module» h.«module» (by_number f.line g.line (nat_le f.number g.number))
    (by_number g.line h.line (nat_le g.number h.number)) (by_number f.line h.line (nat_le f.number h.number))
    (number-trans f.line g.line h.line (nat_le f.number g.number) (nat_le g.number h.number) (nat_le f.number h.number)
    (le-trans f.number g.number h.number))

at-most-total : (f g : StaticFault) → is_at_most f g ≡ false → is_at_most g f ≡ true
at-most-total f g =
    number-total f.«module» g.«module» (by_number f.line g.line (nat_le f.number g.number)) (by_number g.line f.line (nat_le g.number f.number))
    (number-total f.line g.line (nat_le f.number g.number) (nat_le g.number f.number) (le-total f.number g.number))

-- ---- lists
pub are_in_append : (P : StaticFault → Type 0) (fs gs : List StaticFault) → AreIn P fs → AreIn P gs → AreIn P (fs ++ gs)
are_in_append P [] gs x y = y
are_in_append P (f ∷ fs) gs x y = (x.0, are_in_append P fs gs x.1 y)

pub at_most_left : (f : StaticFault) (gs hs : List StaticFault) → HasAtMost f gs → HasAtMost f (gs ++ hs)
at_most_left f [] hs x = absurd x
at_most_left f (g ∷ gs) hs (inl x) = inl x
at_most_left f (g ∷ gs) hs (inr x) = inr (at_most_left f gs hs x)

pub at_most_right : (f : StaticFault) (gs hs : List StaticFault) → HasAtMost f hs → HasAtMost f (gs ++ hs)
at_most_right f [] hs x = x
at_most_right f (g ∷ gs) hs x = inr (at_most_right f gs hs x)

-- ---- the least of a list
abbrev IsIn : (StaticFault → Type 0) → Option StaticFault → Type 0
IsIn P None = Unit {0}
IsIn P (Some f) = P f

abbrev IsAtMost : Option StaticFault → StaticFault → Type 0
IsAtMost None f = ⊥
IsAtMost (Some l) f = is_at_most l f ≡ true

either-in : (P : StaticFault → Type 0) (l g : StaticFault) → P l → P g → (b : Bool) → IsIn P (if b then Some l else Some g)
either-in P l g x y true = x
either-in P l g x y false = y

earlier-in : (P : StaticFault → Type 0) (o : Option StaticFault) (g : StaticFault) → IsIn P o → P g → IsIn P (earlier o g)
earlier-in P None g x y = y
earlier-in P (Some l) g x y = either-in P l g x y (is_at_most l g)

lesser-of : (l g f : StaticFault) (b : Bool) → is_at_most l g ≡ b → is_at_most l f ≡ true → IsAtMost (if b then Some l else Some g) f
lesser-of l g f true e x = x
lesser-of l g f false e x = at_most_trans g l f (at-most-total l g e) x

newer-of : (l g f : StaticFault) (b : Bool) → is_at_most l g ≡ b → is_at_most g f ≡ true → IsAtMost (if b then Some l else Some g) f
newer-of l g f true e x = at_most_trans l g f e x
newer-of l g f false e x = x

earlier-old : (o : Option StaticFault) (g f : StaticFault) → IsAtMost o f → IsAtMost (earlier o g) f
earlier-old None g f x = absurd x
earlier-old (Some l) g f x = lesser-of l g f (is_at_most l g) refl x

earlier-new : (o : Option StaticFault) (g f : StaticFault) → is_at_most g f ≡ true → IsAtMost (earlier o g) f
earlier-new None g f x = x
earlier-new (Some l) g f x = newer-of l g f (is_at_most l g) refl x

least-in : (P : StaticFault → Type 0) (o : Option StaticFault) (fs : List StaticFault) → IsIn P o → AreIn P fs → IsIn P (least_of o fs)
unfolding least_of
least-in P o [] x y = x
least-in P o (f ∷ fs) x y = least-in P (earlier o f) fs (earlier-in P o f x y.0) y.1

least-old : (o : Option StaticFault) (gs : List StaticFault) (f : StaticFault) → IsAtMost o f → IsAtMost (least_of o gs) f
unfolding least_of
least-old o [] f x = x
least-old o (g ∷ gs) f x = least-old (earlier o g) gs f (earlier-old o g f x)

least-new : (o : Option StaticFault) (gs : List StaticFault) (f : StaticFault) → HasAtMost f gs → IsAtMost (least_of o gs) f
unfolding least_of
least-new o [] f x = absurd x
least-new o (g ∷ gs) f (inl x) = least-old (earlier o g) gs f (earlier-new o g f x)
least-new o (g ∷ gs) f (inr x) = least-new (earlier o g) gs f x

least-is : (P : StaticFault → Type 0) (o : Option StaticFault) → IsIn P o → ((f : StaticFault) → P f → IsAtMost o f) → IsLeastOf P o
least-is P None x y = y
least-is P (Some f) x y = (x, y)

pub least_of_covering : (P : StaticFault → Type 0) (fs : List StaticFault) → AreIn P fs → ((f : StaticFault) → P f → HasAtMost f fs)
    → IsLeastOf P (least_of None fs)
least_of_covering P fs sound complete =
    least-is P (least_of None fs) (least-in P None fs tt sound) (λ f x. least-new None fs f (complete f x))
