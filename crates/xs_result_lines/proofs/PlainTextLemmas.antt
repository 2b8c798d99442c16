-- Texts of which each byte is written as itself.
use Rattle.std.proofs.Common.{◌≡◌, ℕ, ◌==◌, ◌&&◌, nat_lt, not, true, List, [], ◌∷◌, ◌++◌, Bool, false, Option, None, Some, is_some, length, sym, ◌∙◌, ap, arith}
use Rattle.std.proofs.lemmas.Bool.{and_parts, or_parts}
use Rattle.std.proofs.lemmas.Bool.Decides.{nat_tests}
use Rattle.std.specs.List.{list_any}
use Rattle.memchr.specs.Find.{IsFirstByte, is_byte2}
use Rattle.xs_text.specs.Escapes.{escaped, letter_of, written_by}
use Rattle.xs_text.proofs.EscapeLemmas.{escaped-cons, escaped-nil}
use Rattle.xs_text.proofs.FirstByteLemmas.{any-found, any-nowhere}

-- what the answer of a search says
pub is_some-searched : (p : ℕ → Bool) (xs : List ℕ) (found : Option ℕ) → IsFirstByte p xs found → is_some found ≡ list_any p xs
is_some-searched p xs None none = sym (any-nowhere p xs (λ j h. none j (omega arith) h))
is_some-searched p xs (Some k) first = sym (any-found p xs k first.0.high first.1)

no_letter : (b : ℕ) → is_byte2 10 92 b ≡ false → is_byte2 9 13 b ≡ false → letter_of b ≡ None
no_letter b one two = grind (arith, nat_tests)

pub escaped_itself : (xs : List ℕ) → list_any (is_byte2 10 92) xs ≡ false → list_any (is_byte2 9 13) xs ≡ false → escaped xs ≡ xs
escaped_itself [] one two = escaped-nil
escaped_itself (x ∷ xs) one two =
    let first = or_parts (is_byte2 10 92 x) (list_any (is_byte2 10 92) xs) one in
    let second = or_parts (is_byte2 9 13 x) (list_any (is_byte2 9 13) xs) two in
    escaped-cons x xs ∙ ap (λ o. written_by o x ++ escaped xs) (no_letter x first.0 second.0) ∙ ap (λ ys. x ∷ ys) (escaped_itself xs first.1 second.1)

no_pair : (b : ℕ) → (not (b == 92) && nat_lt 31 b) ≡ true → letter_of b ≡ None
no_pair b printed = let parts = and_parts (not (b == 92)) (nat_lt 31 b) printed in grind (arith, nat_tests)

pub printed_none : (xs : List ℕ) → length xs ≡ 0 → escaped xs ≡ xs
printed_none [] none = escaped-nil
printed_none (x ∷ xs) none = absurd (omega (arith, none))

-- a byte that is neither a backslash nor a control character, before others that are written as themselves
pub printed_first : (xs ys : List ℕ) (b : ℕ) → xs ≡ b ∷ ys → (not (b == 92) && nat_lt 31 b) ≡ true → escaped ys ≡ ys → escaped xs ≡ xs
printed_first xs ys b is printed rest =
    ap escaped is ∙ escaped-cons b ys ∙ ap (λ o. written_by o b ++ escaped ys) (no_pair b printed) ∙ ap (λ zs. b ∷ zs) rest ∙ sym is
