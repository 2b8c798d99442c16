-- Numbers, digit by digit.
use Rattle.std.proofs.Common.{◌≡◌, ◌≢◌, ◌∙◌, ℕ, zero, suc, ◌+◌, ◌-◌, ◌*◌, ◌^◌, ◌<◌, ◌≤◌, ap, refl, sym, subst, arith, lit≤, List, [], ◌∷◌, ◌++◌, drop, drop-cons, get_or, length, length-drop, take, true, inl, inr}
use Rattle.std.proofs.lemmas.Bool.{and_parts, leb-true}
use Rattle.std.proofs.lemmas.Bool.Decides.{eqb_tells}
use Rattle.std.proofs.lemmas.List.{drop_all}
use Rattle.std.proofs.lemmas.Nat.{mul-le, pow-add}
use Rattle.std.proofs.lemmas.Str.{digit_value_digit}
use Rattle.std.proofs.Math.Nat.{mul_assoc, mul-le-mul_right, one-le-pow, pow-le-pow_right, pow-succ'}
use Rattle.std.proofs.Math.Seq.{take-append-add}
use Rattle.std.specs.Char.{digit_value}
use Rattle.std.specs.List.{after_first, before_first, list_all}
use Rattle.std.specs.Prelude.{◌&&◌, nat_le, codes, pos}
use Rattle.std.specs.Str.Parse.{digits_value, digits_value_after}
use Rattle.xs_compile.specs.Priorities.{priority_in, tenthousandths}
use Rattle.xs_elements.specs.Values.{are_digits, is_number, is_point, unsigned}
use Rattle.xs_xpath.specs.Digits.{is_digit}

-- ---- a sign

pub plain_priority : (text : List ℕ) → ((rest : List ℕ) → text ≢ 45 ∷ rest) → pos (tenthousandths text) ≡ priority_in text
plain_priority [] none = refl
plain_priority (b ∷ bs) none = elim (eqb_tells b 45) [
  | inl h ↦ absurd (none bs (ap (λ c. c ∷ bs) h.1))
  | inr h ↦ rw h.0 refl
]

pub plain_number : (text : List ℕ) → ((rest : List ℕ) → text ≢ 45 ∷ rest) → is_number (unsigned text) ≡ true → is_number text ≡ true
plain_number [] none h = h
plain_number (b ∷ bs) none h = elim (eqb_tells b 45) [
  | inl e ↦ absurd (none bs (ap (λ c. c ∷ bs) e.1))
  | inr e ↦ (let same : b ∷ bs ≡ unsigned (b ∷ bs) = rw e.0 refl in ap is_number same ∙ h)
]

-- ---- the digits of a list from one on, behind a value
pub record IsRead (xs : List ℕ) (i v whole total : ℕ) : Type 0 where
  pub value : digits_value_after 10 v (drop i xs) ≡ total
  pub digits : list_all is_digit (drop i xs) ≡ true
  pub few : (v + 1) * 10 ^ length (drop i xs) ≤ whole

record IsDigit (c : ℕ) : Type 0 where
  low : 48 ≤ c
  high : c ≤ 57
  value : digit_value c ≡ c - 48

digit_is : (c : ℕ) → is_digit c ≡ true → IsDigit c
digit_is c h =
    let both = and_parts (nat_le 48 c) (nat_le c 57) h in
    let low : 48 ≤ c = leb-true 48 c both.0 in
    let high : c ≤ 57 = leb-true c 57 both.1 in
    record { low = low; high = high; value = omega (arith, digit_value_digit c (low, high)) }

-- one digit more leaves room for those behind it
room : (v c n whole : ℕ) → c ≤ 9 → (v + 1) * 10 ^ suc n ≤ whole → (v * 10 + c + 1) * 10 ^ n ≤ whole
room v c n whole small h =
    let p = 10 ^ n in
    let next : (v + 1) * 10 ^ suc n ≡ (v + 1) * 10 * p = ap (λ (k : ℕ). (v + 1) * k) (pow-succ' 10 n) ∙ sym (mul_assoc (v + 1) 10 p) in
    let less : v * 10 + c + 1 ≤ (v + 1) * 10 = omega (arith, small) in
    omega (arith, next, h, mul-le-mul_right p less)

-- ten times it is within
tenfold : (v n whole : ℕ) → (v + 1) * 10 ^ suc n ≤ whole → (v + 1) * 10 ≤ whole
tenfold v n whole h =
    let p = 10 ^ n in
    let next : (v + 1) * 10 ^ suc n ≡ (v + 1) * 10 * p = ap (λ (k : ℕ). (v + 1) * k) (pow-succ' 10 n) ∙ sym (mul_assoc (v + 1) 10 p) in
    let some : 1 ≤ p = one-le-pow n 10 (omega arith) in
    let more : (v + 1) * 10 * 1 ≤ (v + 1) * 10 * p = mul-le ((v + 1) * 10) 1 ((v + 1) * 10) p (omega arith) some in
    omega (arith, next, h, more)

-- what the next digit is
pub record IsNext (c v whole : ℕ) : Type 0 where
  pub low : 48 ≤ c
  pub small : c - 48 ≤ 9
  pub room : (v + 1) * 10 ≤ whole

module _ (xs : List ℕ) (i v whole total : ℕ) (lt : i < length xs) (h : IsRead xs i v whole total) where
  cut : drop i xs ≡ get_or xs i 0 ∷ drop (i + 1) xs
  cut = let next : suc i ≡ i + 1 = omega arith in drop-cons xs i 0 lt ∙ ap (λ (k : ℕ). get_or xs i 0 ∷ drop k xs) next

  all : (is_digit (get_or xs i 0) && list_all is_digit (drop (i + 1) xs)) ≡ true
  all = ap (list_all is_digit) (sym cut) ∙ h.digits

  digit : IsDigit (get_or xs i 0)
  digit = digit_is (get_or xs i 0) (and_parts (is_digit (get_or xs i 0)) (list_all is_digit (drop (i + 1) xs)) all).0

  size : length (drop i xs) ≡ suc (length (drop (i + 1) xs))
  size = ap length cut

  few : (v + 1) * 10 ^ suc (length (drop (i + 1) xs)) ≤ whole
  few = subst (λ (k : ℕ). (v + 1) * 10 ^ k ≤ whole) size h.few

  pub digit_next : IsNext (get_or xs i 0) v whole
  digit_next = record {
    low = digit.low;
    small = omega (arith, digit.high);
    room = tenfold v (length (drop (i + 1) xs)) whole few;
  }

  pub digit_more : IsRead xs (i + 1) (v * 10 + (get_or xs i 0 - 48)) whole total
  digit_more = record {
    value = ap (λ (d : ℕ). digits_value_after 10 (v * 10 + d) (drop (i + 1) xs)) (sym digit.value)
        ∙ ap (digits_value_after 10 v) (sym cut) ∙ h.value;
    digits = (and_parts (is_digit (get_or xs i 0)) (list_all is_digit (drop (i + 1) xs)) all).1;
    few = room v (get_or xs i 0 - 48) (length (drop (i + 1) xs)) whole (omega (arith, digit.high)) few;
  }

-- ---- what stands before the point, and four digits behind it
pub record IsParted (text whole part : List ℕ) : Type 0 where
  pub whole_digits : list_all is_digit whole ≡ true
  pub part_digits : list_all is_digit part ≡ true
  pub whole_few : length whole ≤ 9
  pub part_few : length part ≤ 4

pub parted : (text whole part : List ℕ) → is_number text ≡ true → whole ≡ before_first is_point text → part ≡ after_first is_point text
    → IsParted text whole part
parted text whole part h w p =
    let fronts = and_parts (are_digits 9 (before_first is_point text) && are_digits 4 (after_first is_point text)) _ h in
    let both = and_parts (are_digits 9 (before_first is_point text)) (are_digits 4 (after_first is_point text)) fronts.0 in
    let first : are_digits 9 whole ≡ true = ap (are_digits 9) w ∙ both.0 in
    let second : are_digits 4 part ≡ true = ap (are_digits 4) p ∙ both.1 in
    let a = and_parts (list_all is_digit whole) (nat_le (length whole) 9) first in
    let b = and_parts (list_all is_digit part) (nat_le (length part) 4) second in
    record {
      whole_digits = a.0;
      part_digits = b.0;
      whole_few = leb-true (length whole) 9 a.1;
      part_few = leb-true (length part) 4 b.1;
    }

-- with more digits behind it a value is below a greater power of ten
product : (v n k most : ℕ) → v + 1 ≤ 10 ^ k → k + n ≤ most → (v + 1) * 10 ^ n ≤ 10 ^ most
product v n k most low fits =
    let times : (v + 1) * 10 ^ n ≤ 10 ^ k * 10 ^ n = mul-le-mul_right (10 ^ n) low in
    let joined : 10 ^ (k + n) ≡ 10 ^ k * 10 ^ n = pow-add 10 k n in
    let more : 10 ^ (k + n) ≤ 10 ^ most = pow-le-pow_right (omega arith) fits in
    omega (arith, times, joined, more)

within : (v w n k most : ℕ) → w + 1 ≤ (v + 1) * 10 ^ n → v + 1 ≤ 10 ^ k → k + n ≤ most → w + 1 ≤ 10 ^ most
within v w n k most h low fits = omega (arith, h, product v n k most low fits)

-- the bounds of the three values
module _ (whole part : List ℕ) (nine : length whole ≤ 9) (four : length part ≤ 4) where
  pub whole_fits : (0 + 1) * 10 ^ length whole ≤ 10 ^ 17
  whole_fits = product 0 (length whole) 0 17 (lit≤ tt) (omega (arith, nine))

  before_low : (before : ℕ) → before + 1 ≤ (0 + 1) * 10 ^ length whole → before + 1 ≤ 10 ^ 9
  before_low before h = within 0 before (length whole) 0 9 h (lit≤ tt) (omega (arith, nine))

  pub part_fits : (before : ℕ) → before + 1 ≤ (0 + 1) * 10 ^ length whole → (before + 1) * 10 ^ length part ≤ 10 ^ 17
  part_fits before h = product before (length part) 9 17 (before_low before h) (omega (arith, four))

  all_low : (before all : ℕ) → before + 1 ≤ (0 + 1) * 10 ^ length whole → all + 1 ≤ (before + 1) * 10 ^ length part → all + 1 ≤ 10 ^ 13
  all_low before all h g = within before all (length part) 9 13 g (before_low before h) (omega (arith, four))

  module _ (zeros : List ℕ) (last : length zeros ≤ 4) where
    pub zeros_fit : (before all : ℕ) → before + 1 ≤ (0 + 1) * 10 ^ length whole → all + 1 ≤ (before + 1) * 10 ^ length part
        → (all + 1) * 10 ^ length zeros ≤ 10 ^ 17
    zeros_fit before all h g = product all (length zeros) 13 17 (all_low before all h g) (omega (arith, last))

    pub number_fits : (before all number : ℕ) → before + 1 ≤ (0 + 1) * 10 ^ length whole → all + 1 ≤ (before + 1) * 10 ^ length part
        → number + 1 ≤ (all + 1) * 10 ^ length zeros → number ≤ 10 ^ 17
    number_fits before all number h g f =
        omega (arith, within all number (length zeros) 13 17 f (all_low before all h g) (omega (arith, last)))

pub zeros_few : (k : ℕ) → length (drop k (codes "0000")) ≤ 4
zeros_few k = let e : length (drop k (codes "0000")) ≡ 4 - k = length-drop k (codes "0000") in omega (arith, e)

pub zeros_digits : (k : ℕ) → list_all is_digit (drop k (codes "0000")) ≡ true
zeros_digits zero = refl
zeros_digits (suc zero) = refl
zeros_digits (suc (suc zero)) = refl
zeros_digits (suc (suc (suc zero))) = refl
zeros_digits (suc (suc (suc (suc k)))) = ap (list_all is_digit) (drop_all k [] (omega arith))

zeros-taken : (k : ℕ) → k ≤ 4 → drop k (codes "0000") ≡ take (4 - k) (codes "0000")
zeros-taken zero h = refl
zeros-taken (suc zero) h = refl
zeros-taken (suc (suc zero)) h = refl
zeros-taken (suc (suc (suc zero))) h = refl
zeros-taken (suc (suc (suc (suc zero)))) h = refl
zeros-taken (suc (suc (suc (suc (suc k))))) h = absurd (omega (arith, h))

joined-digits : (n : ℕ) (xs ys : List ℕ) → digits_value_after 10 n (xs ++ ys) ≡ digits_value_after 10 (digits_value_after 10 n xs) ys
joined-digits n [] ys = refl
joined-digits n (x ∷ xs) ys = joined-digits (n * 10 + digit_value x) xs ys

pub number_is : (text whole part : List ℕ) (before all number : ℕ) → whole ≡ before_first is_point text → part ≡ after_first is_point text
    → length part ≤ 4 → before ≡ digits_value_after 10 0 whole → all ≡ digits_value_after 10 before part
    → number ≡ digits_value_after 10 all (drop (length part) (codes "0000")) → number ≡ tenthousandths text
number_is text whole part before all number w p few first second third =
    let k = length part in
    let four : k + (4 - k) ≡ 4 = omega (arith, few) in
    let behind : part ++ drop k (codes "0000") ≡ take 4 (part ++ codes "0000") =
    ap (λ (zs : List ℕ). part ++ zs) (zeros-taken k few) ∙ sym (take-append-add part (codes "0000") (4 - k))
    ∙ ap (λ (n : ℕ). take n (part ++ codes "0000")) four in
    third
    ∙ ap (λ (v : ℕ). digits_value_after 10 v (drop k (codes "0000"))) (second ∙ ap (λ (v : ℕ). digits_value_after 10 v part) first)
    ∙ sym (joined-digits (digits_value_after 10 0 whole) part (drop k (codes "0000")))
    ∙ sym (joined-digits 0 whole (part ++ drop k (codes "0000")))
    ∙ ap (λ (ds : List ℕ). digits_value 10 (whole ++ ds)) behind
    ∙ ap (λ (ds : List ℕ). digits_value 10 (ds ++ take 4 (part ++ codes "0000"))) w
    ∙ ap (λ (ds : List ℕ). digits_value 10 (before_first is_point text ++ take 4 (ds ++ codes "0000"))) p
