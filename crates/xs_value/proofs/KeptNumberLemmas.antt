-- Operands as they are kept to be compared as numbers.
use Rattle.std.proofs.Common.{◌≡◌, ℕ, ◌<◌, Bool, true, false, not, ◌||◌, List, [], ◌∷◌, length, Option, Some, None, Result, Ok, Err, refl, sym, ◌∙◌, ap, arith, subst, cond, eqb, Bor}
use Rattle.std.proofs.lemmas.Bool.{eqb-true}
use Rattle.std.specs.List.{All}
use Rattle.std.specs.Option.{is_none, is_some}
use Rattle.xs_num.specs.Text.{number_in}
use Rattle.xs_num.specs.declared.number.Number.{Number}
use Rattle.xs_num.specs.declared.number.NumFault.{NumFault}
use Rattle.xs_num.specs.declared.number.NumFault.TheVariants as expected
use Rattle.xs_tree.specs.Record.{Record, string_value}
use Rattle.xs_value.specs.Comparison.{by_number, compared, is_boolean, is_numeral, is_ordering, or_else, some}
use Rattle.xs_value.specs.Conversion.{IsIn}
use Rattle.xs_value.specs.Results.{Answers, as_value_fault}
use Rattle.xs_value.specs.declared.comparison.CompareOp.{CompareOp}
use Rattle.xs_value.specs.declared.comparison.ComparedAs.TheVariants.{BesideBoolean, Numbers as AsNumbers, Strings as AsStrings}
use Rattle.xs_value.specs.declared.comparison.numbers.Numbers.{Numbers}
use Rattle.xs_value.specs.declared.comparison.numbers.Numbers.TheVariants as numbers
use Rattle.xs_value.specs.declared.value.Value.{Value}
use Rattle.xs_value.specs.declared.value.Value.TheVariants.{Bool as Boolean, Number as Numeral, Chars, Nodes, Piece}
use Rattle.xs_value.specs.declared.value.ValueFault.{ValueFault}
use Rattle.xs_value.specs.declared.value.ValueFault.TheVariants.{Fraction, Range, NoMemory}
use Rattle.xs_value.specs.steps.Operands.{AnswersRow, AreIn, CanStand, Keeps, compared_as, kept_numbers, node_numbers, numbers_of, some_numbers}
use Rattle.xs_value.proofs.ComparisonLemmas.{as_numbers, or_else-false, some-never}
use Rattle.xs_value.proofs.RowLemmas.{fault-first, rest-stands}

pub kept-are : (rs : List Record) (v : Value) (k : Numbers) → Keeps v k → kept_numbers rs k ≡ numbers_of rs v
kept-are rs (Boolean b) k h = absurd h
kept-are rs (Numeral n) (numbers.One x) h = ap (λ z. z ∷ []) h
kept-are rs (Numeral n) (numbers.Nodes ks) h = absurd h
kept-are rs (Chars t) (numbers.One x) h = ap (λ z. z ∷ []) h
kept-are rs (Chars t) (numbers.Nodes ks) h = absurd h
kept-are rs (Nodes ns) (numbers.One x) h = absurd h
kept-are rs (Nodes ns) (numbers.Nodes ks) h = ap (node_numbers rs) h
kept-are rs (Piece es) (numbers.One x) h = ap (λ z. z ∷ []) h
kept-are rs (Piece es) (numbers.Nodes ks) h = absurd h

pub kept-in : (rs : List Record) (v : Value) (k : Numbers) → Keeps v k → IsIn rs v → AreIn rs k
kept-in rs (Boolean b) k h i = absurd h
kept-in rs (Numeral n) (numbers.One x) h i = tt
kept-in rs (Numeral n) (numbers.Nodes ks) h i = absurd h
kept-in rs (Chars t) (numbers.One x) h i = tt
kept-in rs (Chars t) (numbers.Nodes ks) h i = absurd h
kept-in rs (Nodes ns) (numbers.One x) h i = absurd h
kept-in rs (Nodes ns) (numbers.Nodes ks) h i = subst (All (λ n. n < length rs)) (sym h) i
kept-in rs (Piece es) (numbers.One x) h i = tt
kept-in rs (Piece es) (numbers.Nodes ks) h i = absurd h

-- what is known of values that are compared as numbers
pub record AsNumbersFacts (op : CompareOp) (a b : Value) : Type 0 where
  pub left : is_boolean a ≡ false
  pub right : is_boolean b ≡ false
  pub numbers : (is_ordering op || (is_numeral a || is_numeral b)) ≡ true

pub number-facts : (op : CompareOp) (a b : Value) → compared_as op a b ≡ AsNumbers → AsNumbersFacts op a b
number-facts op a b h =
    let f = which (is_boolean a) (is_boolean b) (is_ordering op || (is_numeral a || is_numeral b)) h in
    record { left = f.0; right = f.1; numbers = f.2 }
  where
    which : (x y n : Bool) → cond (x || y) BesideBoolean (cond n AsNumbers AsStrings) ≡ AsNumbers → (x ≡ false) × (y ≡ false) × (n ≡ true)
    which true y n e = absurd (cc)
    which false true n e = absurd (cc)
    which false false true e = (refl, refl, refl)
    which false false false e = absurd (cc)

pub compared-kept : (rs : List Record) (op : CompareOp) (a b : Value) (l r : Numbers) → compared_as op a b ≡ AsNumbers → Keeps a l → Keeps b r
    → compared rs op a b ≡ some_numbers op (kept_numbers rs l) (kept_numbers rs r)
compared-kept rs op a b l r h k j =
    let f = number-facts op a b h in
    as_numbers rs op a b f.left f.right f.numbers
    ∙ ap (λ xs. some_numbers op xs (numbers_of rs b)) (sym (kept-are rs a l k))
    ∙ ap (some_numbers op (kept_numbers rs l)) (sym (kept-are rs b r j))

or-false : (b : Bool) → (b || false) ≡ true → b ≡ true
or-false true h = refl
or-false false h = h

-- nodes on both sides are compared as numbers only by an operator that orders
pub can-stand : (op : CompareOp) (a b : Value) (ks : Bor (List ℕ)) (r : Numbers) → compared_as op a b ≡ AsNumbers → Keeps a (numbers.Nodes ks) → Keeps b r
    → CanStand op r
can-stand op (Boolean x) b ks r h k j = absurd k
can-stand op (Numeral n) b ks r h k j = absurd k
can-stand op (Chars t) b ks r h k j = absurd k
can-stand op (Piece es) b ks r h k j = absurd k
can-stand op (Nodes ns) b ks (numbers.One y) h k j = tt
can-stand op (Nodes ns) (Boolean x) ks (numbers.Nodes js) h k j = absurd j
can-stand op (Nodes ns) (Numeral n) ks (numbers.Nodes js) h k j = absurd j
can-stand op (Nodes ns) (Chars t) ks (numbers.Nodes js) h k j = absurd j
can-stand op (Nodes ns) (Piece es) ks (numbers.Nodes js) h k j = absurd j
can-stand op (Nodes ns) (Nodes ms) ks (numbers.Nodes js) h k j = or-false (is_ordering op) (number-facts op (Nodes ns) (Nodes ms) h).numbers

-- ---- nothing on the right, and one number on the left

pub empty-right : (op : CompareOp) (xs ys : List (Result Number NumFault)) → eqb (length ys) 0 ≡ true → some_numbers op xs ys ≡ Ok false
empty-right op xs [] e = some-never xs
empty-right op xs (y ∷ ys) e = let z : length (y ∷ ys) ≡ 0 = eqb-true (length (y ∷ ys)) 0 e in absurd (omega arith)

pub one-fault : (op : CompareOp) (x : Result Number NumFault) (ys : List (Result Number NumFault)) (f : NumFault) → x ≡ Err f → 0 < length ys
    → some_numbers op (x ∷ []) ys ≡ Err f
one-fault op x ys f e l = ap (λ z. some_numbers op (z ∷ []) ys) e ∙ or_else-false (some (by_number op (Err f)) ys) ∙ fault-first op f ys l

pub one-is : (op : CompareOp) (x : Result Number NumFault) (m : Number) (ys : List (Result Number NumFault)) → x ≡ Ok m
    → some_numbers op (x ∷ []) ys ≡ some (by_number op (Ok m)) ys
one-is op x m ys e = ap (λ z. some_numbers op (z ∷ []) ys) e ∙ or_else-false (some (by_number op (Ok m)) ys)

pub row-answer : (op : CompareOp) (x : Number) (ys : List (Result Number NumFault)) (can : Type 0) (o : Option Number) → AnswersRow op x ys can (Ok o)
    → some (by_number op (Ok x)) ys ≡ Ok (is_none o)
row-answer op x ys can None h = h
row-answer op x ys can (Some e) h = h.0

pub none-is : (o : Option Number) (b : Bool) → is_some o ≡ not b → is_none o ≡ b
none-is None true h = refl
none-is None false h = absurd (cc)
none-is (Some e) true h = absurd (cc)
none-is (Some e) false h = refl

-- ---- faults handed on

pub number-fault : (of : Result Bool NumFault) (f : NumFault) → of ≡ Err f → Answers of (Err (as_value_fault f))
number-fault of expected.Fraction h = h
number-fault of expected.Range h = h

pub fault-answer : (n : Result Number NumFault) (of : Result Bool NumFault) (e : ValueFault) → Answers n (Err e)
    → ((f : NumFault) → n ≡ Err f → of ≡ Err f) → Answers of (Err e)
fault-answer n of Fraction a h = h expected.Fraction a
fault-answer n of Range a h = h expected.Range a
fault-answer n of NoMemory a h = tt

pub row-fault-answer : (op : CompareOp) (x : Number) (ys : List (Result Number NumFault)) (can : Type 0) (of : Result Bool NumFault) (e : ValueFault)
    → AnswersRow op x ys can (Err e) → of ≡ some (by_number op (Ok x)) ys → Answers of (Err e)
row-fault-answer op x ys can of Fraction a h = h ∙ a
row-fault-answer op x ys can of Range a h = h ∙ a
row-fault-answer op x ys can of NoMemory a h = tt

-- ---- nodes on the left

first-is : (rs : List Record) (op : CompareOp) (nodes rest : List ℕ) (n : ℕ) (m : Result Number NumFault) (ys : List (Result Number NumFault))
    → nodes ≡ n ∷ rest
    → number_in (string_value rs n) ≡ m
    → some_numbers op (node_numbers rs nodes) ys ≡ or_else (some (by_number op m) ys) (some_numbers op (node_numbers rs rest) ys)
first-is rs op nodes rest n m ys e h =
    ap (λ ks. some_numbers op (node_numbers rs ks) ys) e ∙ ap (λ z. or_else (some (by_number op z) ys) (some_numbers op (node_numbers rs rest) ys)) h

pub first-fault : (rs : List Record) (op : CompareOp) (nodes rest : List ℕ) (n : ℕ) (ys : List (Result Number NumFault)) → nodes ≡ n ∷ rest → 0 < length ys
    → (f : NumFault) → number_in (string_value rs n) ≡ Err f → some_numbers op (node_numbers rs nodes) ys ≡ Err f
first-fault rs op nodes rest n ys e l f h =
    first-is rs op nodes rest n (Err f) ys e h ∙ ap (λ r. or_else r (some_numbers op (node_numbers rs rest) ys)) (fault-first op f ys l)

pub first-row-fault : (rs : List Record) (op : CompareOp) (nodes rest : List ℕ) (n : ℕ) (x : Number) (ys : List (Result Number NumFault)) (can : Type 0)
    (e : ValueFault)
    → nodes ≡ n ∷ rest → number_in (string_value rs n) ≡ Ok x → AnswersRow op x ys can (Err e) → Answers (some_numbers op (node_numbers rs nodes) ys) (Err e)
first-row-fault rs op nodes rest n x ys can Fraction e h a =
    first-is rs op nodes rest n (Ok x) ys e h ∙ ap (λ r. or_else r (some_numbers op (node_numbers rs rest) ys)) a
first-row-fault rs op nodes rest n x ys can Range e h a =
    first-is rs op nodes rest n (Ok x) ys e h ∙ ap (λ r. or_else r (some_numbers op (node_numbers rs rest) ys)) a
first-row-fault rs op nodes rest n x ys can NoMemory e h a = tt

-- the first node decided nothing
pub rest-is : (rs : List Record) (op : CompareOp) (nodes rest : List ℕ) (n : ℕ) (x y : Number) (ys : List (Result Number NumFault)) (can : Type 0)
    (o : Option Number)
    → nodes ≡ n ∷ rest → number_in (string_value rs n) ≡ Ok x → AnswersRow op x ys can (Ok o) → o ≡ Some y → can
    → some_numbers op (node_numbers rs nodes) ys ≡ some (λ z. by_number op z (Ok y)) (node_numbers rs rest)
rest-is rs op nodes rest n x y ys can o e h a is c =
    let b : AnswersRow op x ys can (Ok (Some y)) = subst (λ (z : Option Number). AnswersRow op x ys can (Ok z)) is a in
    first-is rs op nodes rest n (Ok x) ys e h
    ∙ ap (λ r. or_else r (some_numbers op (node_numbers rs rest) ys)) b.0
    ∙ rest-stands op ys y (node_numbers rs rest) (b.1 c)
