-- What is written is read back.
use Rattle.std.proofs.Common.{◌≡◌, ℕ, ◌-◌, ◌^◌, ◌<◌, suc, Bool, true, false, cond, List, [], ◌∷◌, length, get_or, take, drop, refl, ap, ◌∙◌, arith, nat_eq, unsigned_abs, ℤ, pos, negsuc, neg_ℤ, Ok}
use Rattle.std.specs.List.{before_first, after_first}
use Rattle.std.specs.Str.Parse.{digits_value, starts_with_minus}
use Rattle.std.specs.Fmt.{decimal, signed_decimal}
use Rattle.std.specs.Str.{IsUtf8, is_utf8, chars}
use lib.Utf8.{encode}
use Rattle.std.proofs.lemmas.Str.{IsUtf8-from_is_utf8}
use Rattle.std.proofs.lemmas.Fmt.{digits_decimal, digits_value-decimal, decimal_nonempty}
use Rattle.std.specs.Int.{IsInRange as IsDigit}
use Rattle.std.proofs.Math.Seq.{take-length}
use Rattle.std.proofs.lemmas.Int.{ints}
use native.Mathlib.Numerals.{unary_clauses}
use Rattle.std.proofs.Math.ListN.{drop_of_length-le}
use Rattle.std.proofs.lemmas.Grind.{common_steps}
use Rattle.xs_num.proofs.DigitLemmas.{own, digit_within}
use Rattle.xs_num.proofs.SpaceLemmas.{without_leading_space_is, without_trailing_space_is, before_point_is, after_point_is}
use Rattle.xs_num.specs.Range.{IsInRange}
use Rattle.xs_num.specs.Number.{bounded}
use Rattle.xs_text.specs.WhiteSpace.{is_white_space}
use Rattle.xs_num.specs.Text.{is_point, are_digits, signed, number_from, number_after_sign, number_within_space, number_in, without_leading_space, without_trailing_space, text_of}
use Rattle.xs_num.specs.declared.number.Number.TheVariants.{Whole, NaN}

-- a text with no white space at its ends
pub untrimmed : (s : List ℕ) → 0 < length s → is_white_space (get_or s 0 0) ≡ false → is_white_space (get_or s (length s - 1) 0) ≡ false
    → without_trailing_space (without_leading_space s) ≡ s
untrimmed s some first last =
    let front : without_leading_space s ≡ s = without_leading_space_is s 0 (omega arith) (λ k h. absurd (omega arith)) (λ _. first) in
    let back : without_trailing_space s ≡ take (length s) s =
    without_trailing_space_is s (length s) (omega arith) (λ k h l. absurd (omega arith)) (λ _. last) in
    ap without_trailing_space front ∙ back ∙ take-length s

not_point : (c : ℕ) → IsDigit 48 57 c → is_point c ≡ false
not_point c h = grind arith

pub not_space : (c : ℕ) → IsDigit 48 57 c → is_white_space c ≡ false
not_space c h = grind arith

pub not_minus : (c : ℕ) → IsDigit 48 57 c → nat_eq c 45 ≡ false
not_minus c h = grind arith

-- digits with no point
digits_alone : (negative : Bool) (ds : List ℕ) → are_digits ds ≡ true → 0 < length ds
    → number_from negative ds [] ≡ bounded (signed negative (digits_value 10 ds))
unfolding number_from
digits_alone negative ds all some = grind (arith, common_steps)

pub digits_spell : (negative : Bool) (ds : List ℕ) → are_digits ds ≡ true → 0 < length ds
    → number_after_sign negative ds ≡ bounded (signed negative (digits_value 10 ds))
unfolding number_after_sign number_from
digits_spell negative ds all some =
    let no_point : (k : ℕ) → k < length ds → is_point (get_or ds k 0) ≡ false = λ k lt. not_point _ (digit_within ds k all lt) in
    let whole : before_first is_point ds ≡ ds = before_point_is ds (length ds) (omega arith) no_point (λ h. absurd (omega arith)) ∙ take-length ds in
    let fraction : after_first is_point ds ≡ [] = after_point_is ds (length ds) (omega arith) no_point (λ h. absurd (omega arith))
    ∙ drop_of_length-le ds (omega arith) in
    let at_parts : number_after_sign negative ds ≡ number_from negative ds [] = ap (λ w. number_from negative w (after_first is_point ds)) whole
    ∙ ap (number_from negative ds) fraction in
    at_parts ∙ digits_alone negative ds all some

pub bounded-in_range : (z : ℤ) → IsInRange z → bounded z ≡ Ok (Whole z)
bounded-in_range z h = grind arith

last_within : (ds : List ℕ) → are_digits ds ≡ true → 0 < length ds → IsDigit 48 57 (get_or (45 ∷ ds) (length (45 ∷ ds) - 1) 0)
last_within [] all some = absurd (omega arith)
last_within (c ∷ cs) all some = simp unary_clauses (digit_within (c ∷ cs) (length cs) all (omega arith))

-- digits, and digits after a minus sign
unsigned_spells : (ds : List ℕ) → are_digits ds ≡ true → 0 < length ds → number_in ds ≡ bounded (pos (digits_value 10 ds))
unfolding number_in number_within_space
unsigned_spells ds all some =
    let bare : without_trailing_space (without_leading_space ds) ≡ ds =
    untrimmed ds some (not_space _ (digit_within ds 0 all some)) (not_space _ (digit_within ds (length ds - 1) all (omega arith))) in
    let plain : starts_with_minus ds ≡ false = not_minus (get_or ds 0 0) (digit_within ds 0 all some) in
    ap number_within_space bare
    ∙ ap (λ b. cond b (number_after_sign true (drop 1 ds)) (number_after_sign false ds)) plain
    ∙ digits_spell false ds all some

negative_spells : (ds : List ℕ) → are_digits ds ≡ true → 0 < length ds → number_in (45 ∷ ds) ≡ bounded (neg_ℤ (pos (digits_value 10 ds)))
unfolding number_in number_within_space
negative_spells ds all some =
    let last : is_white_space (get_or (45 ∷ ds) (length (45 ∷ ds) - 1) 0) ≡ false = not_space _ (last_within ds all some) in
    let bare : without_trailing_space (without_leading_space (45 ∷ ds)) ≡ 45 ∷ ds = untrimmed (45 ∷ ds) (omega arith) refl last in
    ap number_within_space bare ∙ digits_spell true ds all some

-- a number in range has few digits
small_magnitude : (z : ℤ) → IsInRange z → unsigned_abs z < 2 ^ 64
small_magnitude z h = grind (arith, ints)

pub number_in-signed_decimal : (z : ℤ) → IsInRange z → number_in (signed_decimal z) ≡ Ok (Whole z)
number_in-signed_decimal (pos n) h =
    let small : n < 2 ^ 64 = small_magnitude (pos n) h in
    unsigned_spells (decimal n) (digits_decimal own n small) (decimal_nonempty n small)
    ∙ ap (λ m. bounded (pos m)) (digits_value-decimal own n small) ∙ bounded-in_range (pos n) h
number_in-signed_decimal (negsuc n) h =
    let small : suc n < 2 ^ 64 = small_magnitude (negsuc n) h in
    negative_spells (decimal (suc n)) (digits_decimal own (suc n) small) (decimal_nonempty (suc n) small)
    ∙ ap (λ m. bounded (neg_ℤ (pos m))) (digits_value-decimal own (suc n) small) ∙ bounded-in_range (negsuc n) h

pub number_in-nan : number_in (text_of NaN) ≡ Ok NaN
unfolding number_in number_within_space number_after_sign number_from
number_in-nan = refl

pub IsUtf8-nan : IsUtf8 (text_of NaN)
unfolding is_utf8 chars encode
IsUtf8-nan = IsUtf8-from_is_utf8 (text_of NaN) refl
