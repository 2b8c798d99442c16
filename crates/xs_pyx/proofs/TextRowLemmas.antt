-- The first row of a text, found by a search for the first line feed or backslash.
use Rattle.std.proofs.Common.{◌≡◌, ◌≢◌, ℕ, ◌+◌, ◌-◌, ◌<◌, Bool, true, false, List, Option, Some, None, length, get_or, take, drop, sym, ◌∙◌, ap, subst, arith, ◌⊎◌, inl, inr}
use Rattle.std.specs.List.{list_any}
use Rattle.std.specs.Str.{IsUtf8, IsCharBoundary}
use Rattle.std.proofs.lemmas.Bool.{cases_lt, false≢true}
use Rattle.std.proofs.lemmas.Bool.Decides.{nat_tests}
use Rattle.std.proofs.lemmas.List.{get_or-take, length-take, take_rest, drop_all}
use Rattle.std.proofs.lemmas.Str.{IsCharBoundary-before_ascii, IsCharBoundary-after_ascii}
use Rattle.memchr.specs.Find.{IsFirstByte, is_byte2}
use Rattle.xs_text.proofs.FirstByteLemmas.{any-found, any-nowhere, before-none}
use Rattle.xs_pyx.specs.Row.{Row, first_row, behind_row, is_line_feed}
use Rattle.xs_pyx.proofs.ReadLemmas.{is_backslash}
use Rattle.xs_pyx.proofs.RowLemmas.{row-found, behind-found, behind-nowhere}
use Rattle.xs_pyx.proofs.SearchLemmas.{is_some-searched, position-searched}

abbrev is_either : ℕ → Bool
is_either b = is_byte2 10 92 b

feed_is_either : (b : ℕ) → is_line_feed b ≡ true → is_either b ≡ true
feed_is_either b h = grind (arith, nat_tests)

pub is_feed : (b : ℕ) → b ≡ 10 → is_line_feed b ≡ true
is_feed b is = ap is_line_feed is

pub is_no_feed : (b : ℕ) → b ≢ 10 → is_line_feed b ≡ false
is_no_feed b other = grind (arith, nat_tests)

backslash_is_either : (b : ℕ) → is_backslash b ≡ true → is_either b ≡ true
backslash_is_either b h = grind (arith, nat_tests)

-- the first of both, where it is a line feed
pub feed_found : (bytes : List ℕ) (place : ℕ) → IsFirstByte is_either bytes (Some place) → is_line_feed (get_or bytes place 0) ≡ true
    → IsFirstByte is_line_feed bytes (Some place)
feed_found bytes place found feed = (
  record {
    low = found.0.low;
    high = found.0.high;
    before = λ k low high is. found.0.before k low high (feed_is_either (get_or bytes k 0) is);
  },
  feed,
)

plain_before : (bytes : List ℕ) (place : ℕ) → IsFirstByte is_either bytes (Some place) → list_any is_backslash (take place bytes) ≡ false
plain_before bytes place found =
    any-nowhere is_backslash (take place bytes) (λ j h is.
    let before : j < place = omega (arith, length-take place bytes, h) in
    found.0.before j (omega arith) before
    (backslash_is_either (get_or bytes j 0) (ap is_backslash (sym (get_or-take place bytes j 0 before)) ∙ is)))

pub plain_found : (bytes : List ℕ) (place : ℕ) → IsFirstByte is_either bytes (Some place) → is_line_feed (get_or bytes place 0) ≡ true
    → list_any is_backslash (first_row bytes).bytes ≡ false
plain_found bytes place found feed =
    ap (λ k. list_any is_backslash (take k bytes)) (position-searched is_line_feed bytes place (feed_found bytes place found feed))
    ∙ plain_before bytes place found

-- the first of both, where it is a backslash: no line feed stands before it
either_is : (b : ℕ) → is_either b ≡ true → is_line_feed b ≡ false → is_backslash b ≡ true
either_is b is other = grind (arith, nat_tests)

feed_behind : (bytes : List ℕ) (place end : ℕ) → IsFirstByte is_either bytes (Some place) → is_line_feed (get_or bytes place 0) ≡ false
    → IsFirstByte is_line_feed bytes (Some end) → place < end
feed_behind bytes place end found other feed =
    elim (cases_lt end place) [
      | inl above ↦ absurd (found.0.before end (omega arith) above (feed_is_either (get_or bytes end 0) feed.1))
      | inr least ↦
          elim (cases_lt place end) [
            | inl below ↦ below
            | inr most ↦
                let same : place ≡ end = omega (arith, least, most) in
                absurd (false≢true (sym other ∙ ap (λ k. is_line_feed (get_or bytes k 0)) same ∙ feed.1))
          ]
    ]

pub escaped_found : (bytes : List ℕ) (place : ℕ) (r : Option ℕ) → IsFirstByte is_either bytes (Some place)
    → is_line_feed (get_or bytes place 0) ≡ false → IsFirstByte is_line_feed bytes r → list_any is_backslash (first_row bytes).bytes ≡ true
escaped_found bytes place None found other feed =
    ap (list_any is_backslash) (before-none is_line_feed bytes (sym (is_some-searched is_line_feed bytes None feed)))
    ∙ any-found is_backslash bytes place found.0.high (either_is (get_or bytes place 0) found.1 other)
escaped_found bytes place (Some end) found other feed =
    let within : place < end = feed_behind bytes place end found other feed in
    let high : place < length bytes = found.0.high in
    let end_high : end < length bytes = feed.0.high in
    ap (λ k. list_any is_backslash (take k bytes)) (position-searched is_line_feed bytes end feed)
    ∙ any-found is_backslash (take end bytes) place (omega (arith, length-take end bytes, within, high, end_high))
    (ap is_backslash (get_or-take end bytes place 0 within) ∙ either_is (get_or bytes place 0) found.1 other)

-- where there is none of both
pub feed_nowhere : (bytes : List ℕ) → IsFirstByte is_either bytes None → IsFirstByte is_line_feed bytes None
feed_nowhere bytes none = λ k low high is. none k low high (feed_is_either (get_or bytes k 0) is)

pub plain_nowhere : (bytes : List ℕ) → IsFirstByte is_either bytes None → list_any is_backslash (first_row bytes).bytes ≡ false
plain_nowhere bytes none =
    ap (list_any is_backslash) (before-none is_line_feed bytes (sym (is_some-searched is_line_feed bytes None (feed_nowhere bytes none))))
    ∙ any-nowhere is_backslash bytes (λ j h is. none j (omega arith) h (backslash_is_either (get_or bytes j 0) is))

-- a text may be cut before its first line feed, and behind it
feed_below : (b : ℕ) → is_line_feed b ≡ true → b < 128
feed_below b h = grind (arith, nat_tests)

pub cut_before_feed : (bytes : List ℕ) (end : ℕ) → IsFirstByte is_line_feed bytes (Some end) → IsCharBoundary bytes end
cut_before_feed bytes end found = IsCharBoundary-before_ascii bytes end found.0.high (feed_below (get_or bytes end 0) found.1)

pub cut_behind_feed : (bytes : List ℕ) (end : ℕ) → IsUtf8 bytes → IsFirstByte is_line_feed bytes (Some end) → IsCharBoundary bytes (end + 1)
cut_behind_feed bytes end text found = IsCharBoundary-after_ascii bytes end text found.0.high (feed_below (get_or bytes end 0) found.1)

-- what a search of the bytes of a text says of the text
pub found_in : (view bytes : List ℕ) (r found : Option ℕ) → view ≡ bytes → r ≡ found → IsFirstByte is_line_feed view r → IsFirstByte is_line_feed bytes found
found_in view bytes r found same is h =
    subst (λ (bs : List ℕ). IsFirstByte is_line_feed bs found) same (subst (λ (o : Option ℕ). IsFirstByte is_line_feed view o) is h)

pub text_row_found : (row bytes : List ℕ) (end : ℕ) → row ≡ take (end - 0) bytes → IsFirstByte is_line_feed bytes (Some end)
    → record { bytes = row; ended = true } ≡ first_row bytes
text_row_found row bytes end same found =
    let all : end - 0 ≡ end = omega arith in
    rw (same ∙ ap (λ n. take n bytes) all) (row-found bytes end found)

pub taken_found : (bytes : List ℕ) (end : ℕ) → IsFirstByte is_line_feed bytes (Some end) → drop (end + 1) bytes ≡ behind_row bytes
taken_found bytes end found = sym (take_rest bytes (end + 1)) ∙ behind-found bytes end found

pub taken_nowhere : (bytes : List ℕ) → IsFirstByte is_line_feed bytes None → drop (length bytes) bytes ≡ behind_row bytes
taken_nowhere bytes none = drop_all (length bytes) bytes (omega arith) ∙ behind-nowhere bytes none

pub row_plain : (row view bytes : List ℕ) (ended is_plain : Bool) → record { bytes = row; ended = ended } ≡ first_row bytes → view ≡ bytes
    → (is_plain ≡ true → list_any is_backslash (first_row view).bytes ≡ false) → is_plain ≡ true → list_any is_backslash row ≡ false
row_plain row view bytes ended is_plain is same plain known =
    ap (λ (r : Row). list_any is_backslash r.bytes) is ∙ ap (λ bs. list_any is_backslash (first_row bs).bytes) (sym same) ∙ plain known

pub row_escaped : (row view bytes : List ℕ) (ended is_plain : Bool) → record { bytes = row; ended = ended } ≡ first_row bytes → view ≡ bytes
    → (is_plain ≡ false → list_any is_backslash (first_row view).bytes ≡ true) → is_plain ≡ false → list_any is_backslash row ≡ true
row_escaped row view bytes ended is_plain is same escaped known =
    ap (λ (r : Row). list_any is_backslash r.bytes) is ∙ ap (λ bs. list_any is_backslash (first_row bs).bytes) (sym same) ∙ escaped known
