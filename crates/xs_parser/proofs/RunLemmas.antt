-- Where a text may be cut, and runs of bytes.
use Rattle.std.proofs.Common.{◌≡◌, ℕ, zero, suc, ◌+◌, ◌<◌, ◌≤◌, Bool, true, false, IsTrue, ◌↔◌, List, [], ◌∷◌, length, get_or, refl, sym, subst, arith}
use Rattle.std.specs.List.{prefix_len}
use Rattle.std.specs.Str.{IsUtf8, IsCharBoundary}
use Rattle.std.proofs.lemmas.Str.{IsCharBoundary-start, IsCharBoundary-after_ascii}
use Rattle.std.proofs.lemmas.List.Sums.{prefix_len-le-length, prefix_len_passes}
use Rattle.std.proofs.lemmas.Bool.Decides.{nat_tests}
use Rattle.xs_xpath.specs.Digits.{is_digit}
use Rattle.xs_xpath.proofs.RunLemmas.{before-ascii}
use Rattle.xs_parser.specs.declared.bytes.Class.{Class}
use Rattle.xs_parser.specs.declared.bytes.Class.TheVariants.{Space, Digit, NameByte, Until}
use Rattle.xs_parser.specs.Lexing.{is_space, continues_name, is_other, passes, first, second, IsCut}

-- a run of ASCII bytes ends where a character begins
behind-ascii : (p : ℕ → Bool) (bs : List ℕ) (n : ℕ) → ((b : ℕ) → p b ≡ true → b < 128) → IsUtf8 bs → n ≡ prefix_len p bs → IsCharBoundary bs n
behind-ascii p bs zero ascii utf8 is = IsCharBoundary-start bs utf8
behind-ascii p bs (suc n) ascii utf8 is =
    let lt : n < prefix_len p bs = omega arith in
    let within : prefix_len p bs ≤ length bs = prefix_len-le-length p bs in
    let inside : n < length bs = omega arith in
    let e : n + 1 ≡ suc n = omega arith in
    subst (IsCharBoundary bs) e (IsCharBoundary-after_ascii bs n utf8 inside (ascii (get_or bs n 0) (prefix_len_passes p bs n 0 lt)))

space-ascii : (b : ℕ) → is_space b ≡ true → b < 128
space-ascii b h = grind (arith, nat_tests)

digit-ascii : (b : ℕ) → is_digit b ≡ true → b < 128
digit-ascii b h = grind (arith, nat_tests)

name-ascii : (b : ℕ) → continues_name b ≡ false → b < 128
name-ascii b h = grind (arith, nat_tests)

other-ascii : (quote b : ℕ) → quote < 128 → is_other quote b ≡ false → b < 128
other-ascii quote b small h = grind (arith, nat_tests)

pub run-boundary : (class : Class) (bs : List ℕ) → IsCut class → IsUtf8 bs → IsCharBoundary bs (prefix_len (passes class) bs)
run-boundary Space bs cut utf8 = behind-ascii is_space bs (prefix_len is_space bs) space-ascii utf8 refl
run-boundary Digit bs cut utf8 = behind-ascii is_digit bs (prefix_len is_digit bs) digit-ascii utf8 refl
run-boundary NameByte bs cut utf8 = before-ascii continues_name bs name-ascii
run-boundary (Until quote) bs cut utf8 = before-ascii (is_other quote) bs (λ b h. other-ascii quote b cut h)

-- after one ASCII byte
pub one-boundary : (bs : List ℕ) → IsUtf8 bs → 0 < first bs → first bs < 128 → IsCharBoundary bs 1
one-boundary [] utf8 some small = absurd (omega arith)
one-boundary (b ∷ bs) utf8 some small =
    let inside : 0 < length (b ∷ bs) = omega arith in
    IsCharBoundary-after_ascii (b ∷ bs) 0 utf8 inside small

pub first_none : (bytes : List ℕ) → length bytes ≡ 0 → first bytes ≡ 0
first_none [] h = refl
first_none (b ∷ bs) h = absurd (omega arith)

pub second_none : (bytes : List ℕ) → length bytes ≡ 0 → second bytes ≡ 0
second_none [] h = refl
second_none (b ∷ bs) h = absurd (omega arith)

pub alike : (r b : Bool) → IsTrue r ↔ IsTrue b → r ≡ b
alike true b h = sym (h.0 refl)
alike false true h = h.1 refl
alike false false h = refl
