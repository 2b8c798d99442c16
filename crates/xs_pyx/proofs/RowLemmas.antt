-- The rows of bytes, from the first row and those behind it.
use Rattle.std.proofs.Common.{◌≡◌, ℕ, suc, ◌+◌, ◌-◌, ◌<◌, add-one, Bool, true, false, List, [], ◌∷◌, ◌++◌, length, take, drop, Some, None, refl, sym, ◌∙◌, ap, inl, inr, arith, append_assoc, append-nil, min}
use Rattle.std.specs.List.{list_any, position_or_len, before_first, after_first}
use Rattle.std.proofs.lemmas.Bool.{cases_Bool}
use Rattle.std.proofs.lemmas.List.{length-drop, drop_min, drop_all, take_rest}
use Rattle.memchr.specs.Find.{IsFirstByte}
use Rattle.xs_pyx.specs.Row.{Row, rows_behind, rows_of, unended, first_row, behind_row, is_line_feed}
use Rattle.xs_text.proofs.FirstByteLemmas.{before-none, after-none}
use Rattle.xs_pyx.proofs.SearchLemmas.{is_some-searched, position-searched}

-- the rows, by whether a line feed ends the first
abbrev rows_by : Bool → List ℕ → List ℕ → List ℕ → List ℕ → List Row
rows_by true front bytes before after = record { bytes = front ++ before; ended = true } ∷ rows_behind [] after
rows_by false front bytes before after = unended (front ++ bytes)

one_more : (n : ℕ) → 1 + n ≡ suc n
one_more n = omega arith

rows_step : (ended : Bool) (b : ℕ) (front bytes : List ℕ) (k : ℕ)
    → rows_by ended (front ++ b ∷ []) bytes (take k bytes) (drop (k + 1) bytes) ≡ rows_by ended front (b ∷ bytes) (take (1 + k) (b ∷ bytes))
    (drop (1 + k + 1) (b ∷ bytes))
rows_step true b front bytes k = rw (one_more k, add-one (suc k), add-one k, append_assoc front (b ∷ []) (take k bytes)) refl
rows_step false b front bytes k = rw (append_assoc front (b ∷ []) bytes) refl

rows_cut : (front bytes : List ℕ) → rows_behind front bytes ≡ rows_by (list_any is_line_feed bytes) front bytes (before_first is_line_feed bytes)
    (after_first is_line_feed bytes)
unfolding rows_behind
rows_cut front [] = rw (append-nil front) refl
rows_cut front (b ∷ bytes) =
    elim (cases_Bool (is_line_feed b)) [
      | inl t ↦ rw t (rw (append-nil front) refl)
      | inr f ↦ rw f (rows_cut (front ++ b ∷ []) bytes ∙ rows_step (list_any is_line_feed bytes) b front bytes (position_or_len is_line_feed bytes))
    ]

rows_ended : (bytes : List ℕ) (ended : Bool) → list_any is_line_feed bytes ≡ ended → 0 < length bytes
    → rows_by ended [] bytes (before_first is_line_feed bytes) (after_first is_line_feed bytes) ≡ first_row bytes ∷ rows_of (behind_row bytes)
unfolding rows_behind
rows_ended bytes true is some = rw is refl
rows_ended [] false is some = absurd (omega arith)
rows_ended (b ∷ bytes) false is some =
    rw (before-none is_line_feed (b ∷ bytes) is, after-none is_line_feed (b ∷ bytes) is, is) refl

pub rows_first : (bytes : List ℕ) → 0 < length bytes → rows_of bytes ≡ first_row bytes ∷ rows_of (behind_row bytes)
rows_first bytes some = rows_cut [] bytes ∙ rows_ended bytes (list_any is_line_feed bytes) refl some

-- what is left of the bytes reports how many were taken
behind-taken : (k : ℕ) (bytes : List ℕ) → drop (length bytes - length (drop k bytes)) bytes ≡ drop k bytes
behind-taken k bytes =
    let taken : length bytes - length (drop k bytes) ≡ min k (length bytes) = omega (arith, length-drop k bytes) in
    ap (λ n. drop n bytes) taken ∙ drop_min k bytes

-- the first row, where a search found a line feed, and where it found none
pub row-found : (bytes : List ℕ) (end : ℕ) → IsFirstByte is_line_feed bytes (Some end) → record { bytes = take end bytes; ended = true } ≡ first_row bytes
row-found bytes end found =
    rw (position-searched is_line_feed bytes end found, sym (is_some-searched is_line_feed bytes (Some end) found)) refl

pub behind-found : (bytes : List ℕ) (end : ℕ) → IsFirstByte is_line_feed bytes (Some end)
    → take (length bytes - (end + 1)) (drop (end + 1) bytes) ≡ behind_row bytes
behind-found bytes end found =
    take_rest bytes (end + 1) ∙ ap (λ n. drop (n + 1) bytes) (sym (position-searched is_line_feed bytes end found))

pub taken-found : (bytes : List ℕ) (end : ℕ) → IsFirstByte is_line_feed bytes (Some end)
    → drop (length bytes - length (take (length bytes - (end + 1)) (drop (end + 1) bytes))) bytes ≡ behind_row bytes
taken-found bytes end found =
    ap (λ rest. drop (length bytes - length rest) bytes) (take_rest bytes (end + 1)) ∙ behind-taken (end + 1) bytes
    ∙ ap (λ n. drop (n + 1) bytes) (sym (position-searched is_line_feed bytes end found))

pub row-nowhere : (bytes : List ℕ) → IsFirstByte is_line_feed bytes None → record { bytes = bytes; ended = false } ≡ first_row bytes
row-nowhere bytes none =
    let any : list_any is_line_feed bytes ≡ false = sym (is_some-searched is_line_feed bytes None none) in
    rw (before-none is_line_feed bytes any, any) refl

pub behind-nowhere : (bytes : List ℕ) → IsFirstByte is_line_feed bytes None → [] ≡ behind_row bytes
behind-nowhere bytes none = sym (after-none is_line_feed bytes (sym (is_some-searched is_line_feed bytes None none)))

pub taken-nowhere : (bytes : List ℕ) → IsFirstByte is_line_feed bytes None → drop (length bytes - 0) bytes ≡ behind_row bytes
taken-nowhere bytes none = drop_all (length bytes - 0) bytes (omega arith) ∙ behind-nowhere bytes none
