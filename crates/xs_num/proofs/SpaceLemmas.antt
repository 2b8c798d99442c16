-- The white space round a text.
use Rattle.std.proofs.Common.{◌≡◌, ℕ, ◌+◌, ◌-◌, ◌<◌, ◌≤◌, true, false, List, length, get_or, take, drop, ap, arith}
use Rattle.std.specs.List.{before_first, after_first}
use Rattle.std.proofs.lemmas.List.Sums.{prefix_len_is, suffix_len_is, position_or_len_is}
use Rattle.xs_text.specs.WhiteSpace.{is_white_space}
use Rattle.xs_num.specs.Text.{is_point, without_leading_space, without_trailing_space}

pub without_leading_space_is : (s : List ℕ) (i : ℕ) → i ≤ length s → ((k : ℕ) → k < i → is_white_space (get_or s k 0) ≡ true)
    → (i < length s → is_white_space (get_or s i 0) ≡ false) → without_leading_space s ≡ drop i s
without_leading_space_is s i le before at = ap (λ n. drop n s) (prefix_len_is is_white_space s i 0 le before at)

pub without_trailing_space_is : (s : List ℕ) (i : ℕ) → i ≤ length s → ((k : ℕ) → i ≤ k → k < length s → is_white_space (get_or s k 0) ≡ true)
    → (0 < i → is_white_space (get_or s (i - 1) 0) ≡ false) → without_trailing_space s ≡ take i s
without_trailing_space_is s i le after at =
    let e = suffix_len_is is_white_space s i 0 le after at in
    ap (λ n. take n s) (omega (arith, e))

pub before_point_is : (s : List ℕ) (i : ℕ) → i ≤ length s → ((k : ℕ) → k < i → is_point (get_or s k 0) ≡ false)
    → (i < length s → is_point (get_or s i 0) ≡ true) → before_first is_point s ≡ take i s
before_point_is s i le before at = ap (λ n. take n s) (position_or_len_is is_point s i 0 le before at)

pub after_point_is : (s : List ℕ) (i : ℕ) → i ≤ length s → ((k : ℕ) → k < i → is_point (get_or s k 0) ≡ false)
    → (i < length s → is_point (get_or s i 0) ≡ true) → after_first is_point s ≡ drop (i + 1) s
after_point_is s i le before at = ap (λ n. drop (n + 1) s) (position_or_len_is is_point s i 0 le before at)
