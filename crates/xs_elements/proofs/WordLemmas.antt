-- Words with white space between them: the first one, and what is behind it.
use Rattle.std.proofs.Common.{◌≡◌, ℕ, zero, suc, ◌+◌, ◌<◌, ◌≤◌, List, [], ◌∷◌, Bool, true, false, not, length, take, drop, get_or, filter, refl, sym, ap, subst, ◌∙◌, arith, inl, inr, add-one, drop-cons}
use Rattle.std.proofs.lemmas.Bool.{cases_Bool}
use Rattle.std.proofs.lemmas.Bool.Decides.{leb_tells, nat_tests}
use Rattle.std.proofs.lemmas.List.{take_all, drop_all}
use Rattle.std.proofs.lemmas.List.Splits.{slice_split-cons_yes, slice_split_first}
use Rattle.std.proofs.lemmas.List.Sums.{passes_at_first, position_or_len_is}
use Rattle.std.proofs.lemmas.Str.{IsCharBoundary-after_ascii}
use Rattle.std.specs.List.{slice_split, slice_index, position_or_len}
use Rattle.std.specs.Str.{IsUtf8, IsCharBoundary}
use Rattle.xs_elements.specs.WhiteSpace.{is_word, words}
use Rattle.xs_text.specs.WhiteSpace.{is_white_space}
use Rattle.xs_xpath.proofs.RunLemmas.{before-ascii}

-- white space is ASCII
pub blank_ascii : (b : ℕ) → is_white_space b ≡ true → b < 128
blank_ascii b e = grind (arith, nat_tests)

not-false : (a : Bool) → not a ≡ false → a ≡ true
not-false true e = refl
not-false false e = absurd (cc)

-- a text may be cut behind white space, and where the bytes before the first white space end
pub blank-boundary : (text : List ℕ) → IsUtf8 text → is_white_space (slice_index text 0) ≡ true → IsCharBoundary text 1
blank-boundary [] utf8 e = absurd (cc)
blank-boundary (b ∷ bs) utf8 e =
    let inside : 0 < length (b ∷ bs) = omega arith in
    IsCharBoundary-after_ascii (b ∷ bs) 0 utf8 inside (blank_ascii b e)

pub word-boundary : (text : List ℕ) (n : ℕ) → n ≡ position_or_len is_white_space text → IsCharBoundary text n
word-boundary text n at =
    rw at (before-ascii (λ b. not (is_white_space b)) text (λ b e. blank_ascii b (not-false (is_white_space b) e)))

-- ---- the number of bytes before the first white space
abbrev IsBare : List ℕ → ℕ → Type 0
IsBare text i = (k : ℕ) → k < i → is_white_space (get_or text k 0) ≡ false

pub space-at : (text : List ℕ) (i : ℕ) (found : Bool) → i < length text → IsBare text i → found ≡ is_white_space (get_or text i 0) → found ≡ true
    → i ≡ position_or_len is_white_space text
space-at text i found inside bare is passed =
    let le : i ≤ length text = omega arith in
    sym (position_or_len_is is_white_space text i 0 le bare (λ h. sym is ∙ passed))

pub space-nowhere : (text : List ℕ) (i : ℕ) → length text ≤ i → i ≤ length text → IsBare text i → i ≡ position_or_len is_white_space text
space-nowhere text i past within bare = sym (position_or_len_is is_white_space text i 0 within bare (λ h. absurd (omega (arith, h, past))))

-- ---- a part that ends at the first byte that passes, or at the end
is_word-take : (text : List ℕ) (n : ℕ) → 0 < n → n ≤ length text → is_word (take n text) ≡ true
is_word-take [] n some le = absurd (omega arith)
is_word-take (b ∷ bs) zero some le = absurd (omega arith)
is_word-take (b ∷ bs) (suc n) some le = refl

filter-keep : (w : List ℕ) (ws : List (List ℕ)) → is_word w ≡ true → filter is_word (w ∷ ws) ≡ w ∷ filter is_word ws
filter-keep w ws e = rw e refl

split-whole : (p : ℕ → Bool) (text : List ℕ) → length text ≤ position_or_len p text → slice_split p text ≡ text ∷ []
split-whole p [] h = refl
split-whole p (b ∷ bs) h = elim (cases_Bool (p b)) [
  | inl t ↦ absurd (omega (arith, rw t at h))
  | inr f ↦ rw (f, split-whole p bs (omega (arith, rw f at h))) refl
]

abbrev IsCut : (ℕ → Bool) → List ℕ → ℕ → Type 0
IsCut p text n = filter is_word (slice_split p text) ≡ take n text ∷ filter is_word (slice_split p (drop n text))

cut-inside : (p : ℕ → Bool) (text : List ℕ) → 0 < position_or_len p text → position_or_len p text < length text → IsCut p text (position_or_len p text)
cut-inside p text some inside =
    let n = position_or_len p text in
    let le : n ≤ length text = omega arith in
    let split : slice_split p text ≡ take n text ∷ slice_split p (drop (n + 1) text) = slice_split_first p text 0 inside in
    let next : n + 1 ≡ suc n = add-one n in
    let behind : drop n text ≡ get_or text n 0 ∷ drop (n + 1) text = rw next (drop-cons text n 0 inside) in
    let skipped : filter is_word (slice_split p (drop n text)) ≡ filter is_word (slice_split p (drop (n + 1) text)) =
    ap (λ t. filter is_word (slice_split p t)) behind
    ∙ ap (filter is_word) (slice_split-cons_yes p (get_or text n 0) (drop (n + 1) text) (passes_at_first p text 0 inside)) in
    ap (filter is_word) split
    ∙ filter-keep (take n text) (slice_split p (drop (n + 1) text)) (is_word-take text n some le)
    ∙ ap (λ ws. take n text ∷ ws) (sym skipped)

cut-whole : (p : ℕ → Bool) (text : List ℕ) → 0 < length text → length text ≤ position_or_len p text → IsCut p text (position_or_len p text)
cut-whole p text some past =
    let n = position_or_len p text in
    let all : take n text ≡ text = take_all n text past in
    let none : drop n text ≡ [] = drop_all n text past in
    let le : length text ≤ length text = omega arith in
    let same : take (length text) text ≡ text = take_all (length text) text le in
    let word : is_word text ≡ true = subst (λ t. is_word t ≡ true) same (is_word-take text (length text) some le) in
    ap (filter is_word) (split-whole p text past)
    ∙ filter-keep text [] word
    ∙ ap (λ t. t ∷ []) (sym all)
    ∙ ap (λ t. take n text ∷ filter is_word (slice_split p t)) (sym none)

cut : (p : ℕ → Bool) (text : List ℕ) → 0 < position_or_len p text → 0 < length text → IsCut p text (position_or_len p text)
cut p text some full = elim (leb_tells (length text) (position_or_len p text)) [
  | inl h ↦ cut-whole p text full h.1
  | inr h ↦ cut-inside p text some h.1
]

position-some : (p : ℕ → Bool) (text : List ℕ) → 0 < length text → p (slice_index text 0) ≡ false → 0 < position_or_len p text
position-some p [] full e = absurd (omega arith)
position-some p (b ∷ bs) full e = rw e (omega arith)

-- the first word of a text that begins with one
pub words-cut : (text word behind : List ℕ) (n : ℕ) → n ≡ position_or_len is_white_space text → 0 < length text → is_white_space (slice_index text 0) ≡ false
    → word ≡ take n text → behind ≡ drop n text → words text ≡ word ∷ words behind
words-cut text word behind n at full bare front back =
    rw (front, back, at) (cut is_white_space text (position-some is_white_space text full bare) full)
