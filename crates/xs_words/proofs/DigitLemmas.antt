-- The number that decimal digits write.
use Rattle.std.proofs.Common.{◌≡◌, ℕ, ◌<◌, ◌≤◌, ◌^◌, List, length, true, Result, Ok, Err, rules, arith, refl}
use Rattle.std.proofs.lemmas.Bool.Decides.{nat_tests}
use Rattle.std.proofs.lemmas.Str.Parse.{IsNumeralModel, numerals_by_fold, digits_value_short, parse_gives}
use Rattle.std.specs.Str.Parse.{ParsesUnsigned}
use Rattle.std.specs.List.{list_all}
use Rattle.std.specs.Char.{is_ascii_digit}
use Rattle.xs_words.specs.Numbers.{value_from, is_number}

own : IsNumeralModel (λ ds. list_all is_ascii_digit ds ≡ true) (value_from 0)
own = numerals_by_fold _ (search rules) value_from (search rules)

digits : (ds : List ℕ) → is_number ds ≡ true → list_all is_ascii_digit ds ≡ true
digits ds h = grind (arith, nat_tests)

some : (ds : List ℕ) → is_number ds ≡ true → 0 < length ds
some ds h = grind (arith, nat_tests)

few : (ds : List ℕ) → is_number ds ≡ true → length ds ≤ 13
few ds h = grind (arith, nat_tests)

fits : (ds : List ℕ) → is_number ds ≡ true → value_from 0 ds < 2 ^ 64
fits ds h = omega (arith, digits_value_short own ds 13 (digits ds h) (few ds h))

number_read : (ds : List ℕ) (r : Result ℕ ℕ) → is_number ds ≡ true → ParsesUnsigned 64 10 ds r → r ≡ Ok (value_from 0 ds)
number_read ds r h p = parse_gives own 64 ds r p (digits ds h) (some ds h) (fits ds h)

ok_same : (r : Result ℕ ℕ) (m n : ℕ) → r ≡ Ok m → r ≡ Ok n → m ≡ n
ok_same r m n e f = cc

err_not_ok : (r : Result ℕ ℕ) (x n : ℕ) → r ≡ Err x → r ≡ Ok n → ⊥
err_not_ok r x n e f = cc

-- Digits are read as the number that they write. What the reading says of its result does not depend on the error's type.
pub value_read : (ds : List ℕ) (n : ℕ) → is_number ds ≡ true → ParsesUnsigned {E = ℕ} 64 10 ds (Ok n) → n ≡ value_from 0 ds
value_read ds n h p = ok_same (Ok n) n (value_from 0 ds) refl (number_read ds (Ok n) h p)

-- and never refused
pub not_refused : (ds : List ℕ) → is_number ds ≡ true → ParsesUnsigned {E = ℕ} 64 10 ds (Err 0) → ⊥
not_refused ds h p = err_not_ok (Err 0) 0 (value_from 0 ds) refl (number_read ds (Err 0) h p)
