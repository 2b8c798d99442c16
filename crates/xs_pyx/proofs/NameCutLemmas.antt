-- A text that is cut at its first space, into a name and a value.
use Rattle.std.proofs.Common.{◌≡◌, ℕ, ◌+◌, ◌-◌, ◌<◌, true, List, [], get_or, take, drop, Some, None, sym, ◌∙◌, ap, arith}
use Rattle.std.specs.Str.{IsUtf8, IsCharBoundary}
use Rattle.std.proofs.lemmas.Bool.Decides.{nat_tests}
use Rattle.std.proofs.lemmas.Str.{IsCharBoundary-before_ascii, IsCharBoundary-after_ascii}
use Rattle.memchr.specs.Find.{IsFirstByte}
use Rattle.xs_text.proofs.FirstByteLemmas.{before-none, after-none}
use Rattle.xs_pyx.specs.Reading.{ends_name, name_in, value_in}
use Rattle.xs_pyx.proofs.SearchLemmas.{is_some-searched, position-searched}

space_below : (b : ℕ) → ends_name b ≡ true → b < 128
space_below b h = grind (arith, nat_tests)

pub cut_before_space : (bytes : List ℕ) (end : ℕ) → IsFirstByte ends_name bytes (Some end) → IsCharBoundary bytes end
cut_before_space bytes end found = IsCharBoundary-before_ascii bytes end found.0.high (space_below (get_or bytes end 0) found.1)

pub cut_behind_space : (bytes : List ℕ) (end : ℕ) → IsUtf8 bytes → IsFirstByte ends_name bytes (Some end) → IsCharBoundary bytes (end + 1)
cut_behind_space bytes end text found = IsCharBoundary-after_ascii bytes end text found.0.high (space_below (get_or bytes end 0) found.1)

pub name_found : (name bytes : List ℕ) (end : ℕ) → name ≡ take (end - 0) bytes → IsFirstByte ends_name bytes (Some end) → name ≡ name_in bytes
name_found name bytes end same found =
    let all : end - 0 ≡ end = omega arith in
    same ∙ ap (λ n. take n bytes) all ∙ ap (λ n. take n bytes) (sym (position-searched ends_name bytes end found))

pub value_found : (value bytes : List ℕ) (end : ℕ) → value ≡ drop (end + 1) bytes → IsFirstByte ends_name bytes (Some end) → value ≡ value_in bytes
value_found value bytes end same found = same ∙ ap (λ n. drop (n + 1) bytes) (sym (position-searched ends_name bytes end found))

-- where there is no space
pub name_whole : (bytes : List ℕ) → IsFirstByte ends_name bytes None → bytes ≡ name_in bytes
name_whole bytes none = sym (before-none ends_name bytes (sym (is_some-searched ends_name bytes None none)))

pub value_none : (bytes : List ℕ) → IsFirstByte ends_name bytes None → [] ≡ value_in bytes
value_none bytes none = sym (after-none ends_name bytes (sym (is_some-searched ends_name bytes None none)))
