-- Where a format may be cut: letters and digits are ASCII.
use Rattle.std.proofs.Common.{◌≡◌, ℕ, zero, suc, ◌+◌, ◌<◌, ◌≤◌, Bool, true, false, List, inl, inr, length, get_or, refl, sym, subst, arith}
use Rattle.std.specs.Char.{is_ascii_alphanumeric}
use Rattle.std.specs.List.{prefix_len}
use Rattle.std.specs.Str.{IsUtf8, IsCharBoundary}
use Rattle.std.proofs.lemmas.Str.{IsCharBoundary-start, IsCharBoundary-end, IsCharBoundary-before_ascii, IsCharBoundary-after_ascii}
use Rattle.std.proofs.lemmas.List.Sums.{prefix_len-le-length, prefix_len_passes, prefix_len_stops}
use Rattle.std.proofs.lemmas.Bool.{cases_lt}
use Rattle.std.proofs.lemmas.Bool.Decides.{nat_tests}
use Rattle.xs_numbering.specs.Formats.{is_separator}

-- a run of ASCII bytes ends where a character begins
after-ascii : (p : ℕ → Bool) (bs : List ℕ) (n : ℕ) → ((b : ℕ) → p b ≡ true → b < 128) → IsUtf8 bs → n ≡ prefix_len p bs → IsCharBoundary bs n
after-ascii p bs zero ascii utf8 is = IsCharBoundary-start bs utf8
after-ascii p bs (suc n) ascii utf8 is =
    let lt : n < prefix_len p bs = omega arith in
    let within : prefix_len p bs ≤ length bs = prefix_len-le-length p bs in
    let inside : n < length bs = omega arith in
    let e : n + 1 ≡ suc n = omega arith in
    subst (IsCharBoundary bs) e (IsCharBoundary-after_ascii bs n utf8 inside (ascii (get_or bs n 0) (prefix_len_passes p bs n 0 lt)))

-- so does a run that only an ASCII byte ends
before-ascii : (p : ℕ → Bool) (bs : List ℕ) → ((b : ℕ) → p b ≡ false → b < 128) → IsCharBoundary bs (prefix_len p bs)
before-ascii p bs ascii = go (prefix_len p bs) refl (prefix_len-le-length p bs)
  where
    go : (n : ℕ) → prefix_len p bs ≡ n → n ≤ length bs → IsCharBoundary bs n
    go n is le =
        elim (cases_lt n (length bs)) [
          | inl lt ↦ IsCharBoundary-before_ascii bs n lt (subst (λ k. get_or bs k 0 < 128) is
              (ascii (get_or bs (prefix_len p bs) 0) (prefix_len_stops p bs 0 (subst (λ k. k < length bs) (sym is) lt))))
          | inr ge ↦ let e : length bs ≡ n = omega arith in subst (IsCharBoundary bs) e (IsCharBoundary-end bs)
        ]

token-ascii : (b : ℕ) → is_ascii_alphanumeric b ≡ true → b < 128
token-ascii b h = grind (arith, nat_tests)

separator-ascii : (b : ℕ) → is_separator b ≡ false → b < 128
separator-ascii b h = grind (arith, nat_tests)

pub token-boundary : (bs : List ℕ) → IsUtf8 bs → IsCharBoundary bs (prefix_len is_ascii_alphanumeric bs)
token-boundary bs utf8 = after-ascii is_ascii_alphanumeric bs (prefix_len is_ascii_alphanumeric bs) token-ascii utf8 refl

pub separator-boundary : (bs : List ℕ) → IsUtf8 bs → IsCharBoundary bs (prefix_len is_separator bs)
separator-boundary bs utf8 = before-ascii is_separator bs separator-ascii
