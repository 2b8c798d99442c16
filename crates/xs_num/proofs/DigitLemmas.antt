-- Texts of decimal digits.
use Rattle.std.proofs.Common.{◌≡◌, ℕ, ◌+◌, ◌*◌, ◌-◌, ◌<◌, ◌≤◌, true, List, [], ◌∷◌, ◌++◌, length, get_or, take, drop, refl, sym, ap, ◌∙◌, arith, rules}
use Rattle.std.specs.Char.{digit_value}
use Rattle.std.specs.Int.{IsInRange}
use Rattle.std.specs.Str.Parse.{digits_value, digits_value_after}
use Rattle.std.proofs.lemmas.Str.Parse.{IsNumeralModel, numerals_by_value, digit_at}
use Rattle.std.proofs.lemmas.List.{take-append-drop}
use Rattle.xs_num.specs.Text.{are_digits}

-- the words for digits and their value agree with those of `parse`
pub own : IsNumeralModel (λ ds. are_digits ds ≡ true) (digits_value 10)
own = numerals_by_value _ (search rules)

-- more digits spell no smaller number
pub le-digits_value_after : (n : ℕ) (ds : List ℕ) → n ≤ digits_value_after 10 n ds
le-digits_value_after n [] = omega arith
le-digits_value_after n (c ∷ cs) = omega (arith, le-digits_value_after (n * 10 + digit_value c) cs)

pub digits_value_after-append : (n : ℕ) (xs ys : List ℕ) → digits_value_after 10 n (xs ++ ys) ≡ digits_value_after 10 (digits_value_after 10 n xs) ys
digits_value_after-append n [] ys = refl
digits_value_after-append n (c ∷ cs) ys = digits_value_after-append (n * 10 + digit_value c) cs ys

pub digits_value-take-le : (ds : List ℕ) (i : ℕ) → digits_value 10 (take i ds) ≤ digits_value 10 ds
digits_value-take-le ds i =
    let whole : digits_value 10 ds ≡ digits_value_after 10 (digits_value 10 (take i ds)) (drop i ds) =
    ap (digits_value 10) (sym (take-append-drop i ds)) ∙ digits_value_after-append 0 (take i ds) (drop i ds) in
    let more : digits_value 10 (take i ds) ≤ digits_value_after 10 (digits_value 10 (take i ds)) (drop i ds) = le-digits_value_after _ (drop i ds) in
    rw whole more

pub digit_value-is : (c : ℕ) → IsInRange 48 57 c → digit_value c ≡ c - 48
digit_value-is c h = grind arith

pub digit_within : (ds : List ℕ) (i : ℕ) → are_digits ds ≡ true → i < length ds → IsInRange 48 57 (get_or ds i 0)
digit_within ds i all lt = digit_at ds i (own.to ds all) lt
