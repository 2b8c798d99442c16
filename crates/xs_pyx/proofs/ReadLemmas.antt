-- Texts without a backslash, what the first byte of a line has to be, and rows that are text.
use Rattle.std.proofs.Common.{◌≡◌, ◌≢◌, ℕ, ◌<◌, ◌≤◌, Bool, true, false, List, [], ◌∷◌, ◌++◌, length, get_or, take, drop, ◌-◌, ◌+◌, Some, Result, is_some, inl, inr, refl, sym, ◌∙◌, ap, subst, arith, append-nil}
use Rattle.std.specs.Prelude.{◌==◌, not, if◌then◌else◌}
use Rattle.std.specs.List.{list_any, position_or_len}
use Rattle.std.specs.Str.{IsUtf8, is_utf8, IsCharBoundary}
use Rattle.std.proofs.lemmas.Bool.{and_left, cases_Bool, or_parts, false_from_ne_true}
use Rattle.std.proofs.lemmas.Bool.Decides.{nat_tests}
use Rattle.std.proofs.lemmas.List.{take_rest, take-append-drop}
use Rattle.std.proofs.lemmas.List.Folds.{list_any-append}
use Rattle.std.proofs.lemmas.Str.{IsCharBoundary-after_ascii, is_utf8-from_IsUtf8, IsUtf8-from_is_utf8}
use Rattle.xs_text.specs.Escapes.{unescaped, first_and_rest}
use Rattle.xs_text.proofs.UnescapeLemmas.{unescaped-nil, unescaped-plain}
use Rattle.xs_pyx.specs.declared.view.LineView.{LineView}
use Rattle.xs_pyx.specs.declared.fault.Fault.{Fault}
use Rattle.xs_pyx.specs.declared.line.Line.{Line}
use Rattle.xs_pyx.specs.Reading.{Reading, faulty, reading, kind_reading, begins_line, ends_name, says, value_in}
use Rattle.xs_pyx.specs.Results.{TakesLine}
use Rattle.xs_pyx.specs.Row.{Row, behind_row, first_row}
use Rattle.xs_pyx.specs.Views.{IsViewing, begins_plain, says_line}

abbrev pub is_backslash : ℕ → Bool
is_backslash b = b == 92

other : (b : ℕ) → is_backslash b ≡ false → b ≢ 92
other b h = grind (arith, nat_tests)

-- a front without a backslash represents itself
pub unescaped-front : (xs ys read : List ℕ) → list_any is_backslash xs ≡ false → unescaped ys ≡ Some read → unescaped (xs ++ ys) ≡ Some (xs ++ read)
unescaped-front [] ys read none is = is
unescaped-front (x ∷ xs) ys read none is =
    let parts = or_parts (is_backslash x) (list_any is_backslash xs) none in
    unescaped-plain x (xs ++ ys) (other x parts.0) ∙ ap (λ o. first_and_rest (Some x) o) (unescaped-front xs ys read parts.1 is)

pub unescaped_itself : (xs : List ℕ) → list_any is_backslash xs ≡ false → unescaped xs ≡ Some xs
unescaped_itself xs none =
    ap unescaped (sym (append-nil xs)) ∙ unescaped-front xs [] [] none unescaped-nil ∙ ap (λ t. Some t) (append-nil xs)

-- what stands behind a place holds no backslash where the whole holds none
plain_behind : (n : ℕ) (xs : List ℕ) → list_any is_backslash xs ≡ false → list_any is_backslash (drop n xs) ≡ false
plain_behind n xs none =
    (or_parts (list_any is_backslash (take n xs)) (list_any is_backslash (drop n xs))
    (sym (list_any-append is_backslash (take n xs) (drop n xs)) ∙ ap (list_any is_backslash) (take-append-drop n xs) ∙ none)).1

pub value_plain : (rest : List ℕ) → list_any is_backslash rest ≡ false → list_any is_backslash (value_in rest) ≡ false
value_plain rest none = plain_behind (position_or_len ends_name rest + 1) rest none

pub rest_plain : (text : List ℕ) (is_plain : Bool) → (is_plain ≡ true → list_any is_backslash text ≡ false) → is_plain ≡ true
    → list_any is_backslash (take (length text - 1) (drop 1 text)) ≡ false
rest_plain text is_plain none known =
    ap (list_any is_backslash) (take_rest text 1) ∙ plain_behind 1 text (none known)

-- the first byte of a line is ASCII
kind_below : (kind : ℕ) → begins_line kind ≡ true → kind < 128
kind_below kind h = grind (arith, nat_tests)

-- a line may be cut behind its first byte
pub cut_behind_kind : (bytes view : List ℕ) (begins : Bool) → view ≡ bytes → 1 ≤ length view → begins ≡ begins_line (get_or view 0 0) → begins ≡ true
    → IsUtf8 bytes → IsCharBoundary bytes 1
cut_behind_kind bytes view begins same some is met text =
    let first : begins_line (get_or bytes 0 0) ≡ true = ap (λ bs. begins_line (get_or bs 0 0)) (sym same) ∙ sym is ∙ met in
    let long : 0 < length bytes = omega (arith, ap length same) in
    IsCharBoundary-after_ascii bytes 0 text long (kind_below (get_or bytes 0 0) first)

-- a row is read as what its text says, or is no text
pub reading_text : (bytes : List ℕ) (ended : Bool) → IsUtf8 bytes → reading (record { bytes = bytes; ended = ended }) ≡ kind_reading bytes ended
unfolding reading
reading_text bytes ended text = rw (is_utf8-from_IsUtf8 bytes text) refl

pub row_of_text : (r : Result LineView Fault) (text bytes : List ℕ) (ended : Bool) → text ≡ bytes → IsUtf8 bytes → IsViewing r (kind_reading text ended)
    → IsViewing r (reading (record { bytes = bytes; ended = ended }))
row_of_text r text bytes ended same utf8 said =
    subst (λ (what : Reading). IsViewing r what) (ap (λ bs. kind_reading bs ended) same ∙ sym (reading_text bytes ended utf8)) said

pub row_of_no_text : (bytes : List ℕ) (ended : Bool) → (IsUtf8 bytes → ⊥) → reading (record { bytes = bytes; ended = ended }) ≡ faulty 3
unfolding reading
row_of_no_text bytes ended none =
    let no_text : is_utf8 bytes ≡ false = false_from_ne_true (is_utf8 bytes) (λ h. none (IsUtf8-from_is_utf8 bytes h)) in
    rw no_text refl

-- a first line that says something, as a text cuts it off
pub plain_takes : (whole text : List ℕ) (ended : Bool) (size n : ℕ) (line : Line) → record { bytes = text; ended = ended } ≡ first_row whole
    → ended ≡ true → size ≤ length whole → drop size whole ≡ behind_row whole → n ≡ size
    → reading (record { bytes = text; ended = true }) ≡ says line → 0 < n → TakesLine whole line n
plain_takes whole text ended size n line first is within behind same said some = record {
  some = some;
  within = subst (λ k. k ≤ length whole) (sym same) within;
  says = ap reading (sym first) ∙ ap (λ e. reading (record { bytes = text; ended = e })) is ∙ said;
  behind = ap (λ k. drop k whole) same ∙ behind;
}

-- a line that no line feed ends has a fault
unended_by : (begins escaped : Bool) → says_line (if begins then (if escaped then faulty 4 else faulty 2) else faulty 1) ≡ false
unended_by true true = refl
unended_by true false = refl
unended_by false escaped = refl

kind_unended : (bytes : List ℕ) → says_line (kind_reading bytes false) ≡ false
kind_unended [] = refl
kind_unended (kind ∷ rest) = unended_by (begins_line kind) (is_some (unescaped rest))

reading_unended : (bytes : List ℕ) → says_line (reading (record { bytes = bytes; ended = false })) ≡ false
unfolding reading
reading_unended bytes =
    elim (cases_Bool (is_utf8 bytes)) [
      | inl t ↦ rw t (kind_unended bytes)
      | inr f ↦ rw f refl
    ]

pub none_of_unended : (whole text : List ℕ) (ended : Bool) → record { bytes = text; ended = ended } ≡ first_row whole → ended ≡ false
    → begins_plain whole ≡ false
none_of_unended whole text ended first is =
    and_left (says_line (reading (first_row whole))) (not (list_any is_backslash (first_row whole).bytes))
    (ap (λ (r : Row). says_line (reading r)) (sym first) ∙ ap (λ e. says_line (reading (record { bytes = text; ended = e }))) is ∙ reading_unended text)

-- and so has that of no bytes
pub none_of_none : (text : List ℕ) → length text ≡ 0 → begins_plain text ≡ false
none_of_none [] none = none_of_unended [] (first_row []).bytes false refl refl
none_of_none (b ∷ bs) none = absurd (omega arith)
