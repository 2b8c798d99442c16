-- The bytes of what the definitions give are text, where those of their arguments are.
use Rattle.std.proofs.Common.{◌≡◌, ℕ, ◌+◌, zero, suc, Bool, true, false, cond, ◌&&◌, List, [], ◌∷◌, map, refl, ap, ◌∙◌, Option, Some, None, IfSome, slice_get, nat_eq}
use Rattle.std.proofs.lemmas.Bool.{and_parts}
use Rattle.std.proofs.lemmas.Str.{scalars-chars}
use Rattle.std.proofs.str.Laws.{scalars-append}
use Rattle.std.specs.List.{enumerate_from, filter, cons_option, list_all, slice_split, onto_first, join_with_byte, position}
use Rattle.std.specs.Str.{chars, encode_utf8_all, all_scalars, IsUtf8}
use Rattle.xs_text.specs.WhiteSpace.{is_white_space}
use Rattle.xs_num.specs.declared.number.Number.{Number}
use Rattle.xs_strings.specs.Positions.{is_kept, substring_of}
use Rattle.xs_strings.specs.Normalization.{is_nonempty, words, normalized}
use Rattle.xs_strings.specs.Translation.{replacement_at, replacement, translated}
use lib.Utf8.{scalar}

and_true : (a b : Bool) → a ≡ true → b ≡ true → a && b ≡ true
and_true a b h k = ap (λ x. x && b) h ∙ k

encoded : (cs : List ℕ) → all_scalars cs ≡ true → IsUtf8 (encode_utf8_all cs)
encoded cs h = (cs, (h, refl))

-- characters by their positions
scalars-passing : (test : ℕ → Bool) (n : ℕ) (cs : List ℕ) → all_scalars cs ≡ true
    → all_scalars (map (λ (e : ℕ × ℕ). e.1) (filter (λ (e : ℕ × ℕ). test e.0) (enumerate_from n cs))) ≡ true
scalars-passing test n [] h = refl
scalars-passing test n (c ∷ cs) h =
    let parts = and_parts (scalar c) (all_scalars cs) h in
    let more : List (ℕ × ℕ) = filter (λ (e : ℕ × ℕ). test e.0) (enumerate_from (n + 1) cs) in
    elim (test n) as (λ b. all_scalars (map (λ (e : ℕ × ℕ). e.1) (cond b ((n, c) ∷ more) more)) ≡ true)
    [ true ↦ and_true (scalar c) _ parts.0 (scalars-passing test (n + 1) cs parts.1) | false ↦ scalars-passing test (n + 1) cs parts.1 ]

pub IsUtf8-substring : (s : List ℕ) (first : Number) (count : Option Number) → IsUtf8 s → IsUtf8 (encode_utf8_all (substring_of (chars s) first count))
IsUtf8-substring s first count u = encoded _ (scalars-passing (is_kept first count) 1 (chars s) (scalars-chars s u))

-- replaced characters
scalars-cons_option : (o : Option ℕ) (cs : List ℕ) → IfSome o (λ c. scalar c ≡ true) → all_scalars cs ≡ true → all_scalars (cons_option o cs) ≡ true
scalars-cons_option None cs h k = k
scalars-cons_option (Some c) cs h k = and_true (scalar c) (all_scalars cs) h k

slice_get-scalar : (cs : List ℕ) (k : ℕ) → all_scalars cs ≡ true → IfSome (slice_get cs k) (λ c. scalar c ≡ true)
slice_get-scalar [] k h = tt
slice_get-scalar (c ∷ cs) zero h = (and_parts (scalar c) (all_scalars cs) h).0
slice_get-scalar (c ∷ cs) (suc k) h = slice_get-scalar cs k (and_parts (scalar c) (all_scalars cs) h).1

replacement-scalar : (to : List ℕ) (c : ℕ) (place : Option ℕ) → all_scalars to ≡ true → scalar c ≡ true
    → IfSome (replacement_at to c place) (λ d. scalar d ≡ true)
replacement-scalar to c None h k = k
replacement-scalar to c (Some place) h k = slice_get-scalar to place h

scalars-translated : (cs from to : List ℕ) → all_scalars to ≡ true → all_scalars cs ≡ true → all_scalars (translated cs from to) ≡ true
scalars-translated [] from to h k = refl
scalars-translated (c ∷ cs) from to h k =
    let parts = and_parts (scalar c) (all_scalars cs) k in
    scalars-cons_option (replacement from to c) (translated cs from to) (replacement-scalar to c (position (λ d. nat_eq d c) from) h parts.0)
    (scalars-translated cs from to h parts.1)

pub IsUtf8-translated : (s from to : List ℕ) → IsUtf8 s → IsUtf8 to → IsUtf8 (encode_utf8_all (translated (chars s) (chars from) (chars to)))
IsUtf8-translated s from to u v = encoded _ (scalars-translated (chars s) (chars from) (chars to) (scalars-chars to v) (scalars-chars s u))

-- words
scalars-onto_first : (c : ℕ) (parts : List (List ℕ)) → scalar c ≡ true → list_all all_scalars parts ≡ true → list_all all_scalars (onto_first c parts) ≡ true
scalars-onto_first c [] h k = and_true (scalar c && true) true (and_true (scalar c) true h refl) refl
scalars-onto_first c (p ∷ ps) h k =
    let parts = and_parts (all_scalars p) (list_all all_scalars ps) k in
    and_true (scalar c && all_scalars p) (list_all all_scalars ps) (and_true (scalar c) (all_scalars p) h parts.0) parts.1

scalars-split : (cs : List ℕ) → all_scalars cs ≡ true → list_all all_scalars (slice_split is_white_space cs) ≡ true
scalars-split [] h = refl
scalars-split (c ∷ cs) h =
    let parts = and_parts (scalar c) (all_scalars cs) h in
    elim (is_white_space c) as (λ b. list_all all_scalars (cond b ([] ∷ slice_split is_white_space cs) (onto_first c (slice_split is_white_space cs))) ≡ true)
    [ true ↦ scalars-split cs parts.1 | false ↦ scalars-onto_first c (slice_split is_white_space cs) parts.0 (scalars-split cs parts.1) ]

scalars-filter : (ps : List (List ℕ)) → list_all all_scalars ps ≡ true → list_all all_scalars (filter is_nonempty ps) ≡ true
scalars-filter [] h = refl
scalars-filter (p ∷ ps) h =
    let parts = and_parts (all_scalars p) (list_all all_scalars ps) h in
    elim (is_nonempty p) as (λ b. list_all all_scalars (cond b (p ∷ filter is_nonempty ps) (filter is_nonempty ps)) ≡ true)
    [ true ↦ and_true (all_scalars p) _ parts.0 (scalars-filter ps parts.1) | false ↦ scalars-filter ps parts.1 ]

scalars-join : (ps : List (List ℕ)) → list_all all_scalars ps ≡ true → all_scalars (join_with_byte 32 ps) ≡ true
scalars-join [] h = refl
scalars-join (p ∷ []) h = (and_parts (all_scalars p) true h).0
scalars-join (p ∷ q ∷ ps) h =
    let parts = and_parts (all_scalars p) (list_all all_scalars (q ∷ ps)) h in
    scalars-append p (32 ∷ join_with_byte 32 (q ∷ ps)) parts.0 (scalars-join (q ∷ ps) parts.1)

pub IsUtf8-normalized : (s : List ℕ) → IsUtf8 s → IsUtf8 (encode_utf8_all (normalized (chars s)))
unfolding normalized
IsUtf8-normalized s u = encoded _ (scalars-join (words (chars s))
    (scalars-filter (slice_split is_white_space (chars s)) (scalars-split (chars s) (scalars-chars s u))))
