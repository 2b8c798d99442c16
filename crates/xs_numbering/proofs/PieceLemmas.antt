-- The pieces of a format, split off its front.
use Rattle.std.proofs.Common.{◌≡◌, ℕ, zero, suc, ◌+◌, ◌<◌, ◌==◌, Bool, true, false, cond, not, List, [], ◌∷◌, ◌++◌, length, drop, refl, sym, subst, ap, ◌∙◌, arith, codes}
use Rattle.std.specs.Char.{is_ascii_alphanumeric}
use Rattle.std.specs.List.{prefix_len, take_while}
use Rattle.std.proofs.lemmas.Bool.{eqb-true}
use Rattle.std.proofs.lemmas.List.{append-nil, length-drop, take-append-drop}
use Rattle.std.proofs.lemmas.List.Sums.{take_while-cons}
use Rattle.xs_numbering.specs.Formats.{Piece, Token, Separator, with_token, with_separator, pieces, prefix, without_prefix, first_token, after_token, following, suffix, is_separator, rest_of, is_apart}
use Rattle.xs_numbering.specs.steps.Pairs.{IsEnd, IsPair}

rest_of-cons : (test : ℕ → Bool) (b : ℕ) (bs : List ℕ) → rest_of test (b ∷ bs) ≡ cond (test b) (rest_of test bs) (b ∷ bs)
rest_of-cons test b bs = by (test b)
  where
    by : (t : Bool) → drop (cond t (1 + prefix_len test bs) 0) (b ∷ bs) ≡ cond t (drop (prefix_len test bs) bs) (b ∷ bs)
    by true = let e : 1 + prefix_len test bs ≡ suc (prefix_len test bs) = omega arith in ap (λ n. drop n (b ∷ bs)) e
    by false = refl

-- one byte more

pieces-token : (b : ℕ) (bs : List ℕ) → is_ascii_alphanumeric b ≡ true → pieces (b ∷ bs) ≡ with_token b (pieces bs)
unfolding pieces
pieces-token b bs is = rw is refl

pieces-separator : (b : ℕ) (bs : List ℕ) → is_ascii_alphanumeric b ≡ false → pieces (b ∷ bs) ≡ with_separator b (pieces bs)
unfolding pieces
pieces-separator b bs is = rw is refl

-- what comes before the first token, and what from there on

prefix-separator : (b : ℕ) (ps : List Piece) → prefix (with_separator b ps) ≡ b ∷ prefix ps
prefix-separator b [] = refl
prefix-separator b (Token t ∷ ps) = refl
prefix-separator b (Separator s ∷ ps) = refl

prefix-token : (b : ℕ) (ps : List Piece) → prefix (with_token b ps) ≡ []
prefix-token b [] = refl
prefix-token b (Token t ∷ ps) = refl
prefix-token b (Separator s ∷ ps) = refl

without-separator : (b : ℕ) (ps : List Piece) → without_prefix (with_separator b ps) ≡ without_prefix ps
without-separator b [] = refl
without-separator b (Token t ∷ ps) = refl
without-separator b (Separator s ∷ ps) = refl

without-token : (b : ℕ) (ps : List Piece) → without_prefix (with_token b ps) ≡ with_token b ps
without-token b [] = refl
without-token b (Token t ∷ ps) = refl
without-token b (Separator s ∷ ps) = refl

pub prefix_is : (f : List ℕ) → prefix (pieces f) ≡ take_while is_separator f
unfolding pieces
prefix_is [] = refl
prefix_is (b ∷ bs) = by (prefix_is bs) (is_ascii_alphanumeric b) ∙ sym (take_while-cons is_separator b bs)
  where
    by : prefix (pieces bs) ≡ take_while is_separator bs → (t : Bool)
        → prefix (cond t (with_token b (pieces bs)) (with_separator b (pieces bs))) ≡ cond (not t) (b ∷ take_while is_separator bs) []
    by rest true = prefix-token b (pieces bs)
    by rest false = prefix-separator b (pieces bs) ∙ ap (λ xs. b ∷ xs) rest

pub without_prefix_is : (f : List ℕ) → without_prefix (pieces f) ≡ pieces (rest_of is_separator f)
unfolding pieces
without_prefix_is [] = refl
without_prefix_is (b ∷ bs) = by (without_prefix_is bs) (is_ascii_alphanumeric b) refl ∙ ap pieces (sym (rest_of-cons is_separator b bs))
  where
    by : without_prefix (pieces bs) ≡ pieces (rest_of is_separator bs) → (t : Bool) → is_ascii_alphanumeric b ≡ t
        → without_prefix (cond t (with_token b (pieces bs)) (with_separator b (pieces bs)))
        ≡ pieces (cond (not t) (rest_of is_separator bs) (b ∷ bs))
    by rest true is = without-token b (pieces bs) ∙ sym (pieces-token b bs is)
    by rest false is = without-separator b (pieces bs) ∙ rest

-- the first piece

token-alone : (b c : ℕ) (ps : List Piece) → with_token b (with_separator c ps) ≡ Token (b ∷ []) ∷ with_separator c ps
token-alone b c [] = refl
token-alone b c (Token t ∷ ps) = refl
token-alone b c (Separator s ∷ ps) = refl

separator-alone : (b c : ℕ) (ps : List Piece) → with_separator b (with_token c ps) ≡ Separator (b ∷ []) ∷ with_token c ps
separator-alone b c [] = refl
separator-alone b c (Token t ∷ ps) = refl
separator-alone b c (Separator s ∷ ps) = refl

token-first : (b : ℕ) (bs : List ℕ) → is_ascii_alphanumeric b ≡ true
    → pieces (b ∷ bs) ≡ Token (b ∷ take_while is_ascii_alphanumeric bs) ∷ pieces (rest_of is_ascii_alphanumeric bs)
unfolding pieces
token-first b [] is = rw is refl
token-first b (c ∷ cs) is = pieces-token b (c ∷ cs) is ∙ by (token-first c cs) (is_ascii_alphanumeric c) refl
  where
    front : (t : Bool) → is_ascii_alphanumeric c ≡ t
        → take_while is_ascii_alphanumeric (c ∷ cs) ≡ cond t (c ∷ take_while is_ascii_alphanumeric cs) []
    front t at = take_while-cons is_ascii_alphanumeric c cs ∙ ap (λ u. cond u (c ∷ take_while is_ascii_alphanumeric cs) []) at

    back : (t : Bool) → is_ascii_alphanumeric c ≡ t
        → rest_of is_ascii_alphanumeric (c ∷ cs) ≡ cond t (rest_of is_ascii_alphanumeric cs) (c ∷ cs)
    back t at = rest_of-cons is_ascii_alphanumeric c cs ∙ ap (λ u. cond u (rest_of is_ascii_alphanumeric cs) (c ∷ cs)) at

    by : (is_ascii_alphanumeric c ≡ true
        → pieces (c ∷ cs) ≡ Token (c ∷ take_while is_ascii_alphanumeric cs) ∷ pieces (rest_of is_ascii_alphanumeric cs))
        → (t : Bool) → is_ascii_alphanumeric c ≡ t
        → with_token b (pieces (c ∷ cs))
        ≡ Token (b ∷ take_while is_ascii_alphanumeric (c ∷ cs)) ∷ pieces (rest_of is_ascii_alphanumeric (c ∷ cs))
    by rest true at =
        ap (with_token b) (rest at)
        ∙ ap (λ xs. Token (b ∷ xs) ∷ pieces (rest_of is_ascii_alphanumeric cs)) (sym (front true at))
        ∙ ap (λ xs. Token (b ∷ take_while is_ascii_alphanumeric (c ∷ cs)) ∷ pieces xs) (sym (back true at))
    by rest false at =
        ap (with_token b) (pieces-separator c cs at) ∙ token-alone b c (pieces cs)
        ∙ ap (λ ps. Token (b ∷ []) ∷ ps) (sym (pieces-separator c cs at))
        ∙ ap (λ xs. Token (b ∷ xs) ∷ pieces (c ∷ cs)) (sym (front false at))
        ∙ ap (λ xs. Token (b ∷ take_while is_ascii_alphanumeric (c ∷ cs)) ∷ pieces xs) (sym (back false at))

separator-first : (b : ℕ) (bs : List ℕ) → is_ascii_alphanumeric b ≡ false
    → pieces (b ∷ bs) ≡ Separator (b ∷ take_while is_separator bs) ∷ pieces (rest_of is_separator bs)
unfolding pieces
separator-first b [] is = rw is refl
separator-first b (c ∷ cs) is = pieces-separator b (c ∷ cs) is ∙ by (separator-first c cs) (is_ascii_alphanumeric c) refl
  where
    front : (t : Bool) → is_ascii_alphanumeric c ≡ t
        → take_while is_separator (c ∷ cs) ≡ cond (not t) (c ∷ take_while is_separator cs) []
    front t at = take_while-cons is_separator c cs ∙ ap (λ u. cond (not u) (c ∷ take_while is_separator cs) []) at

    back : (t : Bool) → is_ascii_alphanumeric c ≡ t → rest_of is_separator (c ∷ cs) ≡ cond (not t) (rest_of is_separator cs) (c ∷ cs)
    back t at = rest_of-cons is_separator c cs ∙ ap (λ u. cond (not u) (rest_of is_separator cs) (c ∷ cs)) at

    by : (is_ascii_alphanumeric c ≡ false
        → pieces (c ∷ cs) ≡ Separator (c ∷ take_while is_separator cs) ∷ pieces (rest_of is_separator cs))
        → (t : Bool) → is_ascii_alphanumeric c ≡ t
        → with_separator b (pieces (c ∷ cs))
        ≡ Separator (b ∷ take_while is_separator (c ∷ cs)) ∷ pieces (rest_of is_separator (c ∷ cs))
    by rest false at =
        ap (with_separator b) (rest at)
        ∙ ap (λ xs. Separator (b ∷ xs) ∷ pieces (rest_of is_separator cs)) (sym (front false at))
        ∙ ap (λ xs. Separator (b ∷ take_while is_separator (c ∷ cs)) ∷ pieces xs) (sym (back false at))
    by rest true at =
        ap (with_separator b) (pieces-token c cs at) ∙ separator-alone b c (pieces cs)
        ∙ ap (λ ps. Separator (b ∷ []) ∷ ps) (sym (pieces-token c cs at))
        ∙ ap (λ xs. Separator (b ∷ xs) ∷ pieces (c ∷ cs)) (sym (front true at))
        ∙ ap (λ xs. Separator (b ∷ take_while is_separator (c ∷ cs)) ∷ pieces xs) (sym (back true at))

-- what is at the front decides

not_false : (t : Bool) → not t ≡ true → t ≡ false
not_false false h = refl
not_false true h = absurd (cc)

split-separator : (b : ℕ) (bs : List ℕ) → is_ascii_alphanumeric b ≡ false
    → (take_while is_separator (b ∷ bs) ≡ b ∷ take_while is_separator bs) × (rest_of is_separator (b ∷ bs) ≡ rest_of is_separator bs)
split-separator b bs at = (
  take_while-cons is_separator b bs ∙ ap (λ u. cond (not u) (b ∷ take_while is_separator bs) []) at,
  rest_of-cons is_separator b bs ∙ ap (λ u. cond (not u) (rest_of is_separator bs) (b ∷ bs)) at,
)

split-token : (b : ℕ) (bs : List ℕ) → is_ascii_alphanumeric b ≡ true
    → (take_while is_ascii_alphanumeric (b ∷ bs) ≡ b ∷ take_while is_ascii_alphanumeric bs)
    × (rest_of is_ascii_alphanumeric (b ∷ bs) ≡ rest_of is_ascii_alphanumeric bs)
split-token b bs at = (
  take_while-cons is_ascii_alphanumeric b bs ∙ ap (λ u. cond u (b ∷ take_while is_ascii_alphanumeric bs) []) at,
  rest_of-cons is_ascii_alphanumeric b bs ∙ ap (λ u. cond u (rest_of is_ascii_alphanumeric bs) (b ∷ bs)) at,
)

pub apart_after : (bs : List ℕ) → is_apart (rest_of is_ascii_alphanumeric bs) ≡ true
apart_after [] = refl
apart_after (b ∷ bs) = ap is_apart (rest_of-cons is_ascii_alphanumeric b bs) ∙ by (apart_after bs) (is_ascii_alphanumeric b) refl
  where
    by : is_apart (rest_of is_ascii_alphanumeric bs) ≡ true → (t : Bool) → is_ascii_alphanumeric b ≡ t
        → is_apart (cond t (rest_of is_ascii_alphanumeric bs) (b ∷ bs)) ≡ true
    by rest true at = rest
    by rest false at = ap not at

-- what follows a separator begins with a letter or digit
at_token : (bs : List ℕ) (c : ℕ) (cs : List ℕ) → rest_of is_separator bs ≡ c ∷ cs → is_ascii_alphanumeric c ≡ true
at_token [] c cs is = absurd (cc)
at_token (b ∷ bs) c cs is = by (at_token bs c cs) (is_ascii_alphanumeric b) refl (sym (rest_of-cons is_separator b bs) ∙ is)
  where
    by : (rest_of is_separator bs ≡ c ∷ cs → is_ascii_alphanumeric c ≡ true) → (t : Bool) → is_ascii_alphanumeric b ≡ t
        → cond (not t) (rest_of is_separator bs) (b ∷ bs) ≡ c ∷ cs → is_ascii_alphanumeric c ≡ true
    by rest false at e = rest e
    by rest true at e = let same : b ≡ c = cc in subst (λ k. is_ascii_alphanumeric k ≡ true) same at

filled_is : (n : ℕ) → (n == 0) ≡ false → 0 < n
filled_is zero h = absurd (cc)
filled_is (suc n) h = omega arith

-- no token is at the front
no_token : (f : List ℕ) → length (take_while is_ascii_alphanumeric f) ≡ 0
    → (first_token (pieces f) ≡ codes "1") × (after_token (pieces f) ≡ [])
unfolding pieces
no_token [] none = (refl, refl)
no_token (b ∷ bs) none = by (is_ascii_alphanumeric b) refl
  where
    by : (t : Bool) → is_ascii_alphanumeric b ≡ t
        → (first_token (pieces (b ∷ bs)) ≡ codes "1") × (after_token (pieces (b ∷ bs)) ≡ [])
    by true at = let e : length (b ∷ take_while is_ascii_alphanumeric bs) ≡ 0 = ap length (sym (split-token b bs at).0) ∙ none in absurd (omega arith)
    by false at = rw (separator-first b bs at) (refl, refl)

a_token : (f : List ℕ) → 0 < length (take_while is_ascii_alphanumeric f)
    → (first_token (pieces f) ≡ take_while is_ascii_alphanumeric f) × (after_token (pieces f) ≡ pieces (rest_of is_ascii_alphanumeric f))
a_token [] some = absurd (omega arith)
a_token (b ∷ bs) some = by (is_ascii_alphanumeric b) refl
  where
    by : (t : Bool) → is_ascii_alphanumeric b ≡ t
        → (first_token (pieces (b ∷ bs)) ≡ take_while is_ascii_alphanumeric (b ∷ bs))
        × (after_token (pieces (b ∷ bs)) ≡ pieces (rest_of is_ascii_alphanumeric (b ∷ bs)))
    by true at =
        let cut = split-token b bs at in
        (ap first_token (token-first b bs at) ∙ sym cut.0, ap after_token (token-first b bs at) ∙ ap pieces (sym cut.1))
    by false at =
        let none : take_while is_ascii_alphanumeric (b ∷ bs) ≡ [] =
        take_while-cons is_ascii_alphanumeric b bs ∙ ap (λ u. cond u (b ∷ take_while is_ascii_alphanumeric bs) []) at in
        absurd (omega (arith, ap length none))

pub without_token : (f token : List ℕ) → token ≡ take_while is_ascii_alphanumeric f → (length token == 0) ≡ true
    → (first_token (pieces f) ≡ codes "1") × (after_token (pieces f) ≡ [])
without_token f token is empty = no_token f (ap length (sym is) ∙ eqb-true (length token) 0 empty)

pub at_a_token : (f token rest : List ℕ) → token ≡ take_while is_ascii_alphanumeric f → rest ≡ rest_of is_ascii_alphanumeric f
    → (length token == 0) ≡ false → (first_token (pieces f) ≡ token) × (after_token (pieces f) ≡ pieces rest)
at_a_token f token rest is past filled =
    let parts = a_token f (subst (λ xs. 0 < length xs) is (filled_is (length token) filled)) in
    (parts.0 ∙ sym is, parts.1 ∙ ap pieces (sym past))

nothing : (xs : List ℕ) → length xs ≡ 0 → xs ≡ []
nothing [] none = refl
nothing (x ∷ xs) none = absurd (omega arith)

-- no pair is left
pub pair_none : (rest after : List ℕ) → is_apart rest ≡ true → after ≡ rest_of is_separator rest → (length after == 0) ≡ true
    → IsEnd rest
unfolding pieces
pair_none [] after apart is none = (refl, refl)
pair_none (b ∷ bs) after apart is empty =
    let none : length after ≡ 0 = eqb-true (length after) 0 empty in
    let at : is_ascii_alphanumeric b ≡ false = not_false (is_ascii_alphanumeric b) apart in
    let cut = split-separator b bs at in
    let past : rest_of is_separator bs ≡ [] = nothing (rest_of is_separator bs) (ap length (sym cut.1 ∙ sym is) ∙ none) in
    let whole : take_while is_separator bs ≡ bs =
    sym (append-nil (take_while is_separator bs)) ∙ ap (λ xs. take_while is_separator bs ++ xs) (sym past)
    ∙ take-append-drop (prefix_len is_separator bs) bs in
    let all : pieces (b ∷ bs) ≡ Separator (b ∷ bs) ∷ [] =
    separator-first b bs at ∙ ap (λ xs. Separator (b ∷ xs) ∷ pieces (rest_of is_separator bs)) whole
    ∙ ap (λ xs. Separator (b ∷ bs) ∷ pieces xs) past in
    (ap following all, ap suffix all)

-- one is
pub pair_some : (rest separator after token behind : List ℕ) → is_apart rest ≡ true → separator ≡ take_while is_separator rest
    → after ≡ rest_of is_separator rest → token ≡ take_while is_ascii_alphanumeric after → behind ≡ rest_of is_ascii_alphanumeric after
    → (length after == 0) ≡ false → IsPair rest separator token behind
pair_some [] separator after token behind apart s a t w some = absurd (omega (arith, ap length a, filled_is (length after) some))
pair_some (b ∷ bs) separator [] token behind apart s a t w some = absurd (cc)
pair_some (b ∷ bs) separator (c ∷ cs) token behind apart s a t w some =
    let at : is_ascii_alphanumeric b ≡ false = not_false (is_ascii_alphanumeric b) apart in
    let cut = split-separator b bs at in
    let past : rest_of is_separator bs ≡ c ∷ cs = sym cut.1 ∙ sym a in
    let begins : is_ascii_alphanumeric c ≡ true = at_token bs c cs past in
    let next = split-token c cs begins in
    record {
      whole =
          separator-first b bs at ∙ ap (λ xs. Separator xs ∷ pieces (rest_of is_separator bs)) (sym (s ∙ cut.0))
          ∙ ap (λ xs. Separator separator ∷ pieces xs) past ∙ ap (λ ps. Separator separator ∷ ps) (token-first c cs begins)
          ∙ ap (λ xs. Separator separator ∷ (Token xs ∷ pieces (rest_of is_ascii_alphanumeric cs))) (sym (t ∙ next.0))
          ∙ ap (λ xs. Separator separator ∷ (Token token ∷ pieces xs)) (sym (w ∙ next.1));
      apart = ap is_apart w ∙ apart_after (c ∷ cs);
      shorter =
          omega (
            arith,
            ap length (w ∙ next.1),
            length-drop (prefix_len is_ascii_alphanumeric cs) cs,
            ap length (sym past),
            length-drop (prefix_len is_separator bs) bs,
          );
    }
