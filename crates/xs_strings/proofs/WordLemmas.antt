-- White space, by bytes and by characters.
use Rattle.std.proofs.Common.{◌≡◌, ℕ, ◌<◌, ◌≤◌, suc, Bool, true, false, cond, List, [], ◌∷◌, ◌++◌, map, length, get_or, refl, sym, ap, ◌∙◌, arith, append_assoc, append-nil, ◌||◌, ◌⊎◌, inl, inr, lit<, not}
use Rattle.std.proofs.lemmas.Bool.{cases_lt}
use Rattle.std.proofs.lemmas.Bool.Decides.{nat_tests}
use Rattle.std.proofs.lemmas.List.Splits.{slice_split-cons_yes, slice_split-cons_no}
use Rattle.std.proofs.lemmas.Str.{encode_ascii, encodes-append, inside_one, length-le-encodes, encodes-chars}
use Rattle.std.specs.Char.{encode_utf8}
use Rattle.std.specs.List.{slice_split, onto_first, filter, join_with_byte, list_any}
use Rattle.std.specs.Str.{encode_utf8_all, chars, IsUtf8}
use Rattle.xs_text.specs.WhiteSpace.{is_white_space}
use Rattle.xs_strings.specs.Normalization.{is_nonempty, words, normalized}

abbrev pub is_some_piece : List (List ℕ) → Bool
is_some_piece [] = false
is_some_piece (p ∷ ps) = true

-- one more piece at the end
pub join_push : (pieces : List (List ℕ)) (piece : List ℕ)
    → join_with_byte 32 (pieces ++ piece ∷ []) ≡ cond (is_some_piece pieces) (join_with_byte 32 pieces ++ (32 ∷ piece)) piece
join_push [] piece = refl
join_push (p ∷ []) piece = refl
join_push (p ∷ q ∷ ps) piece =
    ap (λ r. p ++ (32 ∷ r)) (join_push (q ∷ ps) piece) ∙ sym (append_assoc p (32 ∷ join_with_byte 32 (q ∷ ps)) (32 ∷ piece))

-- a piece of other elements at the front goes to the first part
onto_front : List ℕ → List (List ℕ) → List (List ℕ)
onto_front xs [] = xs ∷ []
onto_front xs (part ∷ parts) = (xs ++ part) ∷ parts

onto_front-first : (y : ℕ) (parts : List (List ℕ)) → onto_front [] (onto_first y parts) ≡ onto_first y parts
unfolding onto_front
onto_front-first y [] = refl
onto_front-first y (p ∷ ps) = refl

onto_front-nil : (ys : List ℕ) → onto_front [] (slice_split is_white_space ys) ≡ slice_split is_white_space ys
unfolding onto_front
onto_front-nil [] = refl
onto_front-nil (y ∷ ys) =
    elim (is_white_space y) as (λ b. onto_front [] (cond b ([] ∷ slice_split is_white_space ys) (onto_first y (slice_split is_white_space ys))) ≡ cond b
    ([] ∷ slice_split is_white_space ys) (onto_first y (slice_split is_white_space ys)))
    [ true ↦ refl | false ↦ onto_front-first y (slice_split is_white_space ys) ]

onto_first-front : (x : ℕ) (xs : List ℕ) (parts : List (List ℕ)) → onto_first x (onto_front xs parts) ≡ onto_front (x ∷ xs) parts
unfolding onto_front
onto_first-front x xs [] = refl
onto_first-front x xs (p ∷ ps) = refl

or_false : (a b : Bool) → a || b ≡ false → (a ≡ false) × (b ≡ false)
or_false true b h = absurd (cc)
or_false false b h = (refl, h)

split-front : (xs ys : List ℕ) → list_any is_white_space xs ≡ false → slice_split is_white_space (xs ++ ys) ≡ onto_front xs (slice_split is_white_space ys)
split-front [] ys h = sym (onto_front-nil ys)
split-front (x ∷ xs) ys h =
    let parts = or_false (is_white_space x) (list_any is_white_space xs) h in
    ap (λ b. cond b ([] ∷ slice_split is_white_space (xs ++ ys)) (onto_first x (slice_split is_white_space (xs ++ ys)))) parts.0
    ∙ ap (onto_first x) (split-front xs ys parts.1) ∙ onto_first-front x xs (slice_split is_white_space ys)

large_is_no_space : (b : ℕ) → 128 ≤ b → is_white_space b ≡ false
large_is_no_space b h = grind (arith, nat_tests)

none_any : (xs : List ℕ) → ((k : ℕ) → k < length xs → is_white_space (get_or xs k 0) ≡ false) → list_any is_white_space xs ≡ false
none_any [] h = refl
none_any (x ∷ xs) h = ap (λ b. b || list_any is_white_space xs) (h 0 (omega arith)) ∙ none_any xs (λ k lt. h (suc k) (omega arith))

space_is_ascii : (c : ℕ) → is_white_space c ≡ true → c < 128
space_is_ascii c h = grind (arith, nat_tests)

-- no byte of a character that is not white space is white space
no_space_inside : (c : ℕ) → is_white_space c ≡ false → list_any is_white_space (encode_utf8 c) ≡ false
no_space_inside c h = none_any (encode_utf8 c) (λ k lt.
    elim (cases_lt (get_or (encode_utf8 c) k 0) 128) [
      | inl low ↦ ap is_white_space (sym (inside_one c [] (encode_utf8 c) k (sym (append-nil (encode_utf8 c))) lt low)) ∙ h
      | inr high ↦ large_is_no_space (get_or (encode_utf8 c) k 0) high
    ])

bool_cases : (b : Bool) → (b ≡ true) ⊎ (b ≡ false)
bool_cases true = inl refl
bool_cases false = inr refl

front-encoded : (c : ℕ) (parts : List (List ℕ)) → onto_front (encode_utf8 c) (map encode_utf8_all parts) ≡ map encode_utf8_all (onto_first c parts)
unfolding onto_front
front-encoded c [] = ap (λ x. x ∷ []) (sym (append-nil (encode_utf8 c)))
front-encoded c (p ∷ ps) = refl

split-space : (c : ℕ) (cs : List ℕ) → is_white_space c ≡ true
    → slice_split is_white_space (encode_utf8_all cs) ≡ map encode_utf8_all (slice_split is_white_space cs)
    → slice_split is_white_space (encode_utf8_all (c ∷ cs)) ≡ map encode_utf8_all (slice_split is_white_space (c ∷ cs))
split-space c cs space below =
    ap (λ x. slice_split is_white_space (x ++ encode_utf8_all cs)) (encode_ascii c (space_is_ascii c space))
    ∙ slice_split-cons_yes is_white_space c (encode_utf8_all cs) space ∙ ap (λ x. [] ∷ x) below
    ∙ ap (map encode_utf8_all) (sym (slice_split-cons_yes is_white_space c cs space))

split-encoded : (cs : List ℕ) → slice_split is_white_space (encode_utf8_all cs) ≡ map encode_utf8_all (slice_split is_white_space cs)
split-encoded [] = refl
split-encoded (c ∷ cs) = elim (bool_cases (is_white_space c)) [
  | inl space ↦ split-space c cs space (split-encoded cs)
  | inr other ↦ split-front (encode_utf8 c) (encode_utf8_all cs) (no_space_inside c other) ∙ ap (onto_front (encode_utf8 c)) (split-encoded cs)
      ∙ front-encoded c (slice_split is_white_space cs) ∙ ap (map encode_utf8_all) (sym (slice_split-cons_no is_white_space c cs other))
]

some_length : (xs : List ℕ) → 0 < length xs → is_nonempty xs ≡ true
some_length xs h = grind (arith, nat_tests)

nonempty-encoded : (p : List ℕ) → is_nonempty (encode_utf8_all p) ≡ is_nonempty p
nonempty-encoded [] = refl
nonempty-encoded (c ∷ cs) =
    some_length (encode_utf8_all (c ∷ cs)) (let le = length-le-encodes (c ∷ cs) in omega (arith, le)) ∙ sym (some_length (c ∷ cs) (omega arith))

cond-map : (b : Bool) (p : List ℕ) (ps : List (List ℕ))
    → cond b (encode_utf8_all p ∷ map encode_utf8_all ps) (map encode_utf8_all ps) ≡ map encode_utf8_all (cond b (p ∷ ps) ps)
cond-map true p ps = refl
cond-map false p ps = refl

words-encoded : (parts : List (List ℕ)) → filter is_nonempty (map encode_utf8_all parts) ≡ map encode_utf8_all (filter is_nonempty parts)
words-encoded [] = refl
words-encoded (p ∷ ps) =
    ap (λ b. cond b (encode_utf8_all p ∷ filter is_nonempty (map encode_utf8_all ps)) (filter is_nonempty (map encode_utf8_all ps))) (nonempty-encoded p)
    ∙ ap (λ x. cond (is_nonempty p) (encode_utf8_all p ∷ x) x) (words-encoded ps) ∙ cond-map (is_nonempty p) p (filter is_nonempty ps)

join-encoded : (parts : List (List ℕ)) → join_with_byte 32 (map encode_utf8_all parts) ≡ encode_utf8_all (join_with_byte 32 parts)
join-encoded [] = refl
join-encoded (p ∷ []) = refl
join-encoded (p ∷ q ∷ ps) =
    ap (λ r. encode_utf8_all p ++ (32 ∷ r)) (join-encoded (q ∷ ps))
    ∙ ap (λ r. encode_utf8_all p ++ (r ++ encode_utf8_all (join_with_byte 32 (q ∷ ps)))) (sym (encode_ascii 32 (lit< tt)))
    ∙ sym (encodes-append p (32 ∷ join_with_byte 32 (q ∷ ps)))

-- the words of the bytes, joined, are the bytes of the normalized characters
pub normalized-encoded : (cs : List ℕ) → join_with_byte 32 (words (encode_utf8_all cs)) ≡ encode_utf8_all (normalized cs)
unfolding normalized
normalized-encoded cs =
    ap (λ parts. join_with_byte 32 (filter is_nonempty parts)) (split-encoded cs)
    ∙ ap (join_with_byte 32) (words-encoded (slice_split is_white_space cs)) ∙ join-encoded (words cs)

pub normalized-text : (s : List ℕ) → IsUtf8 s → join_with_byte 32 (words s) ≡ encode_utf8_all (normalized (chars s))
normalized-text s u = ap (λ x. join_with_byte 32 (words x)) (sym (encodes-chars s u)) ∙ normalized-encoded (chars s)

-- one more word
pub joined_more : (out : List ℕ) (pieces : List (List ℕ)) (piece : List ℕ) (is_first : Bool) → is_first ≡ not (is_some_piece pieces)
    → (out ++ join_with_byte 32 pieces) ++ cond is_first piece (32 ∷ piece) ≡ out ++ join_with_byte 32 (pieces ++ piece ∷ [])
joined_more out [] piece is_first h = ap (λ b. (out ++ []) ++ cond b piece (32 ∷ piece)) h ∙ ap (λ x. x ++ piece) (append-nil out)
joined_more out (p ∷ ps) piece is_first h =
    ap (λ b. (out ++ join_with_byte 32 (p ∷ ps)) ++ cond b piece (32 ∷ piece)) h
    ∙ append_assoc out (join_with_byte 32 (p ∷ ps)) (32 ∷ piece) ∙ ap (λ x. out ++ x) (sym (join_push (p ∷ ps) piece))

pub is_some_piece_push : (pieces : List (List ℕ)) (piece : List ℕ) → is_some_piece (pieces ++ piece ∷ []) ≡ true
is_some_piece_push [] piece = refl
is_some_piece_push (p ∷ ps) piece = refl
