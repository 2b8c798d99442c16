-- One number in the place of several.
use Rattle.std.proofs.Common.{◌≡◌, ℤ, ◌<ℤ◌, ◌≤ℤ◌, Bool, true, false, ◌||◌, List, [], ◌∷◌, ◌++◌, Some, None, Result, Ok, Err, refl, sym, ◌∙◌, ap, arith, ◌⊎◌, inl, inr, cond}
use Rattle.std.specs.declared.cmp.Ordering.{Ordering}
use Rattle.std.specs.declared.cmp.Ordering.TheVariants.{Less, Equal, Greater}
use Rattle.std.specs.Ordering.{MatchOrdering, int_cmp}
use Rattle.std.specs.Bool.{Decides}
use Rattle.std.specs.Cmp.{int_ranks}
use Rattle.std.proofs.lemmas.Bool.Decides.{same_from_decides, Decides-like, Decides-or, not_from_Decides}
use Rattle.std.proofs.lemmas.Int.{by_lt_z, ints}
use Rattle.xs_num.specs.Number.{comparison_of}
use Rattle.xs_num.specs.declared.number.Number.{Number}
use Rattle.xs_num.specs.declared.number.Number.TheVariants.{Whole, NaN}
use Rattle.xs_num.specs.declared.number.NumFault.{NumFault}
use Rattle.xs_value.specs.declared.comparison.CompareOp.{CompareOp}
use Rattle.xs_value.specs.declared.comparison.CompareOp.TheVariants.{Eq, Ne, Lt, Le, Gt, Ge}
use Rattle.xs_value.specs.Comparison.{by_number, holds, is_ordering, or_else, some}
use Rattle.xs_value.specs.steps.Operands.{Represents, further}
use Rattle.xs_value.proofs.ComparisonLemmas.{some-append}

-- what an operator that orders says of two whole numbers
abbrev Orders : CompareOp → ℤ → ℤ → Type 0
Orders Eq x y = Unit {0}
Orders Ne x y = Unit {0}
Orders Lt x y = x <ℤ y
Orders Le x y = x ≤ℤ y
Orders Gt x y = y <ℤ x
Orders Ge x y = y ≤ℤ x

decides-by : (op : CompareOp) (x y : ℤ) (o : Ordering) → is_ordering op ≡ true → MatchOrdering o (x <ℤ y) (x ≡ y) (y <ℤ x)
    → Decides (holds op (Some o)) (Orders op x y)
decides-by Eq x y o h m = absurd (cc)
decides-by Ne x y o h m = absurd (cc)
decides-by Lt x y Less h m = (λ e. m, λ p. refl)
decides-by Lt x y Equal h m = (λ e. absurd (cc), λ p. absurd (omega (arith, ints)))
decides-by Lt x y Greater h m = (λ e. absurd (cc), λ p. absurd (omega (arith, ints)))
decides-by Le x y Less h m = (λ e. omega (arith, ints), λ p. refl)
decides-by Le x y Equal h m = (λ e. omega (arith, ints), λ p. refl)
decides-by Le x y Greater h m = (λ e. absurd (cc), λ p. absurd (omega (arith, ints)))
decides-by Gt x y Less h m = (λ e. absurd (cc), λ p. absurd (omega (arith, ints)))
decides-by Gt x y Equal h m = (λ e. absurd (cc), λ p. absurd (omega (arith, ints)))
decides-by Gt x y Greater h m = (λ e. m, λ p. refl)
decides-by Ge x y Less h m = (λ e. absurd (cc), λ p. absurd (omega (arith, ints)))
decides-by Ge x y Equal h m = (λ e. omega (arith, ints), λ p. refl)
decides-by Ge x y Greater h m = (λ e. omega (arith, ints), λ p. refl)

decides : (op : CompareOp) (x y : ℤ) → is_ordering op ≡ true → Decides (holds op (Some (int_cmp x y))) (Orders op x y)
decides op x y h = decides-by op x y (int_cmp x y) h (int_ranks x y)

-- y is at least as far as e
through : (op : CompareOp) (x e y : ℤ) → is_ordering op ≡ true → Orders op e y → Orders op x e ⊎ Orders op x y → Orders op x y
through Eq x e y h o p = absurd (cc)
through Ne x e y h o p = absurd (cc)
through Lt x e y h o (inl p) = omega (arith, ints)
through Le x e y h o (inl p) = omega (arith, ints)
through Gt x e y h o (inl p) = omega (arith, ints)
through Ge x e y h o (inl p) = omega (arith, ints)
through Lt x e y h o (inr p) = p
through Le x e y h o (inr p) = p
through Gt x e y h o (inr p) = p
through Ge x e y h o (inr p) = p

-- e is at least as far as y
short : (op : CompareOp) (x e y : ℤ) → is_ordering op ≡ true → (Orders op e y → ⊥) → Orders op x e ⊎ Orders op x y → Orders op x e
short Eq x e y h o p = absurd (cc)
short Ne x e y h o p = absurd (cc)
short Lt x e y h o (inl p) = p
short Le x e y h o (inl p) = p
short Gt x e y h o (inl p) = p
short Ge x e y h o (inl p) = p
short Lt x e y h o (inr p) = by_lt_z e y (λ l. absurd (o l)) (λ g. omega (arith, ints))
short Le x e y h o (inr p) = by_lt_z y e (λ l. omega (arith, ints)) (λ g. absurd (o g))
short Gt x e y h o (inr p) = by_lt_z y e (λ l. absurd (o l)) (λ g. omega (arith, ints))
short Ge x e y h o (inr p) = by_lt_z e y (λ l. omega (arith, ints)) (λ g. absurd (o g))

further-whole : (op : CompareOp) (x e y : ℤ) (b : Bool) → is_ordering op ≡ true → Decides b (Orders op e y)
    → holds op (comparison_of (Whole x) (cond b (Whole y) (Whole e))) ≡ (holds op (Some (int_cmp x e)) || holds op (Some (int_cmp x y)))
further-whole op x e y true h d =
    same_from_decides (holds op (Some (int_cmp x y))) (holds op (Some (int_cmp x e)) || holds op (Some (int_cmp x y))) (decides op x y h)
    (Decides-like (holds op (Some (int_cmp x e)) || holds op (Some (int_cmp x y))) (through op x e y h (d.0 refl)) (λ p. inr p)
    (Decides-or (holds op (Some (int_cmp x e))) (holds op (Some (int_cmp x y))) (decides op x e h) (decides op x y h)))
further-whole op x e y false h d =
    same_from_decides (holds op (Some (int_cmp x e))) (holds op (Some (int_cmp x e)) || holds op (Some (int_cmp x y))) (decides op x e h)
    (Decides-like (holds op (Some (int_cmp x e)) || holds op (Some (int_cmp x y))) (short op x e y h (not_from_Decides false d refl)) (λ p. inl p)
    (Decides-or (holds op (Some (int_cmp x e))) (holds op (Some (int_cmp x y))) (decides op x e h) (decides op x y h)))

none : (op : CompareOp) → is_ordering op ≡ true → holds op None ≡ false
none Eq h = absurd (cc)
none Ne h = absurd (cc)
none Lt h = refl
none Le h = refl
none Gt h = refl
none Ge h = refl

or-none : (op : CompareOp) (b : Bool) → is_ordering op ≡ true → b ≡ (b || holds op None)
or-none op true h = refl
or-none op false h = sym (none op h)

-- the further of two numbers represents both
further-holds : (op : CompareOp) (x e y : Number) → is_ordering op ≡ true
    → holds op (comparison_of x (further op e y)) ≡ (holds op (comparison_of x e) || holds op (comparison_of x y))
further-holds op NaN e y h = rw (none op h) refl
further-holds op (Whole x) NaN y h = rw (none op h) refl
further-holds op (Whole x) (Whole e) NaN h =
    rw (none op h) (or-none op (holds op (Some (int_cmp x e))) h ∙ ap (λ b. holds op (Some (int_cmp x e)) || b) (none op h))
further-holds op (Whole x) (Whole e) (Whole y) h = further-whole op x e y (holds op (Some (int_cmp e y))) h (decides op e y h)

-- a number that represents those of a list that have no fault
abbrev pub RepresentsWhole : CompareOp → List (Result Number NumFault) → Number → Type 0
RepresentsWhole op ys e = (x : Number) → some (by_number op (Ok x)) ys ≡ Ok (holds op (comparison_of x e))

either : (b c : Bool) → or_else (Ok b) (or_else (Ok c) (Ok false)) ≡ Ok (b || c)
either true c = refl
either false true = refl
either false false = refl

pub stands-more : (op : CompareOp) (ys : List (Result Number NumFault)) (e y : Number) → is_ordering op ≡ true → RepresentsWhole op ys e
    → RepresentsWhole op (ys ++ Ok y ∷ []) (further op e y)
stands-more op ys e y h s x =
    some-append (by_number op (Ok x)) ys (Ok y ∷ [])
    ∙ ap (λ r. or_else r (or_else (Ok (holds op (comparison_of x y))) (Ok false))) (s x)
    ∙ either (holds op (comparison_of x e)) (holds op (comparison_of x y))
    ∙ ap (λ (b : Bool). Ok b) (sym (further-holds op x e y h))

-- where there is a number, a fault on the left comes first
pub stands-all : (op : CompareOp) (y : Result Number NumFault) (ys : List (Result Number NumFault)) (e : Number) → RepresentsWhole op (y ∷ ys) e
    → Represents op (y ∷ ys) e
stands-all op y ys e s (Ok x) = s x
stands-all op y ys e s (Err f) = refl
