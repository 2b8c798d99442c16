-- Lists by tests that agree on the nodes of a tree are the same.
use Rattle.std.proofs.Common.{◌≡◌, ℕ, suc, ◌-◌, ◌<◌, ◌==◌, ◌&&◌, Bool, true, false, cond, not, List, [], ◌∷◌, filter, length, map, reverse, take, take_while, refl, sym, subst, ap, ◌∙◌, arith}
use Rattle.std.proofs.lemmas.List.Elements.{All-cons, All-filter, All-head, All-nil, All-tail, All-take, All-weaker}
use Rattle.std.proofs.lemmas.List.Sums.{take_while-cons}
use Rattle.std.specs.List.{All, range_with_len}
use Rattle.xs_tree.specs.declared.axes.Axis.TheVariants.{Ancestor}
use Rattle.xs_tree.specs.Axis.{axis_list, is_sibling, root_of}
use Rattle.xs_tree.specs.Record.{Record, at}
use Rattle.xs_sheet.specs.declared.body.Level.{Level}
use Rattle.xs_sheet.specs.declared.body.Level.TheVariants.{Single, Multiple, Any}
use Rattle.xs_numbering.proofs.LevelLemmas.{ancestors-inside, range-inside, reversed}
use Rattle.xs_numbering.specs.Counting.{any_number, counted, has_level, list_at, looked_at, multiple, passed, searched, sibling_number, siblings_before, single}

-- ---- tests that agree
filter-same : (p q : ℕ → Bool) (xs : List ℕ) → All (λ k. p k ≡ q k) xs → filter p xs ≡ filter q xs
filter-same p q [] h = refl
filter-same p q (x ∷ xs) h =
    ap (λ b. cond b (x ∷ filter p xs) (filter p xs)) (All-head (λ k. p k ≡ q k) x xs h)
    ∙ ap (λ l. cond (q x) (x ∷ l) l) (filter-same p q xs (All-tail (λ k. p k ≡ q k) x xs h))

while-same : (p q : ℕ → Bool) (xs : List ℕ) → All (λ k. p k ≡ q k) xs → take_while p xs ≡ take_while q xs
while-same p q [] h = refl
while-same p q (x ∷ xs) h =
    take_while-cons p x xs
    ∙ ap (λ b. cond b (x ∷ take_while p xs) []) (All-head (λ k. p k ≡ q k) x xs h)
    ∙ ap (λ l. cond (q x) (x ∷ l) []) (while-same p q xs (All-tail (λ k. p k ≡ q k) x xs h))
    ∙ sym (take_while-cons q x xs)

map-same : (f g : ℕ → ℕ) (xs : List ℕ) → All (λ k. f k ≡ g k) xs → map f xs ≡ map g xs
map-same f g [] h = refl
map-same f g (x ∷ xs) h =
    ap (λ y. y ∷ map f xs) (All-head (λ k. f k ≡ g k) x xs h) ∙ ap (λ l. g x ∷ l) (map-same f g xs (All-tail (λ k. f k ≡ g k) x xs h))

-- ---- nodes of the tree
before-inside : (rs : List Record) (n : ℕ) → n < length rs → All (λ k. k < length rs) (range_with_len 0 n)
before-inside rs n lt = range-inside (length rs) 0 n (omega (arith, lt))

while-one : (P : ℕ → Type 0) (p : ℕ → Bool) (x : ℕ) (xs : List ℕ) (b : Bool) → All P (x ∷ xs) → All P (take_while p xs)
    → All P (cond b (x ∷ take_while p xs) [])
while-one P p x xs true h rest = All-cons P x (take_while p xs) (All-head P x xs h) rest
while-one P p x xs false h rest = All-nil P

while-all : (P : ℕ → Type 0) (p : ℕ → Bool) (xs : List ℕ) → All P xs → All P (take_while p xs)
while-all P p [] h = h
while-all P p (x ∷ xs) h =
    subst (λ l. All P l) (sym (take_while-cons p x xs)) (while-one P p x xs (p x) h (while-all P p xs (All-tail P x xs h)))

-- ---- the lists of levels
abbrev Agree : List Record → (p q : ℕ → Bool) → Type 0
Agree rs p q = (k : ℕ) → k < length rs → p k ≡ q k

agree-not : (rs : List Record) (p q : ℕ → Bool) → Agree rs p q → Agree rs (λ k. not (p k)) (λ k. not (q k))
agree-not rs p q h k lt = ap not (h k lt)

agree-all : (rs : List Record) (p q : ℕ → Bool) (xs : List ℕ) → Agree rs p q → All (λ k. k < length rs) xs → All (λ k. p k ≡ q k) xs
agree-all rs p q xs h a = All-weaker (λ k. k < length rs) (λ k. p k ≡ q k) h xs a

sibling-same : (p q : ℕ → Bool) (rs : List Record) (n : ℕ) → Agree rs p q → n < length rs → sibling_number p rs n ≡ sibling_number q rs n
sibling-same p q rs n h lt =
    ap (λ l. suc (length l)) (filter-same p q (siblings_before rs n) (agree-all rs p q (siblings_before rs n) h
    (All-filter (is_sibling rs n) (λ k. k < length rs) (range_with_len 0 n) (before-inside rs n lt))))

searched-inside : (from : ℕ → Bool) (rs : List Record) (n : ℕ) → n < length rs → All (λ k. k < length rs) (searched from rs n)
searched-inside from rs n lt =
    All-cons (λ k. k < length rs) n (take_while (λ k. not (from k)) (axis_list Ancestor rs n)) lt
    (while-all (λ k. k < length rs) (λ k. not (from k)) (axis_list Ancestor rs n) (ancestors-inside rs n))

counted-same : (p q f g : ℕ → Bool) (rs : List Record) (n : ℕ) → Agree rs p q → Agree rs f g → n < length rs → counted p f rs n ≡ counted q g rs n
counted-same p q f g rs n h j lt =
    ap (λ l. filter p (n ∷ l)) (while-same (λ k. not (f k)) (λ k. not (g k)) (axis_list Ancestor rs n)
    (agree-all rs (λ k. not (f k)) (λ k. not (g k)) (axis_list Ancestor rs n) (agree-not rs f g j) (ancestors-inside rs n)))
    ∙ filter-same p q (searched g rs n) (agree-all rs p q (searched g rs n) h (searched-inside g rs n lt))

numbers-same : (p q : ℕ → Bool) (rs : List Record) (xs : List ℕ) → Agree rs p q → All (λ k. k < length rs) xs
    → map (sibling_number p rs) xs ≡ map (sibling_number q rs) xs
numbers-same p q rs xs h a =
    map-same (sibling_number p rs) (sibling_number q rs) xs
    (All-weaker (λ k. k < length rs) (λ k. sibling_number p rs k ≡ sibling_number q rs k) (λ k lt. sibling-same p q rs k h lt) xs a)

counted-inside : (p from : ℕ → Bool) (rs : List Record) (n : ℕ) → n < length rs → All (λ k. k < length rs) (counted p from rs n)
counted-inside p from rs n lt = All-filter p (λ k. k < length rs) (searched from rs n) (searched-inside from rs n lt)

single-same : (p q f g : ℕ → Bool) (rs : List Record) (n : ℕ) → Agree rs p q → Agree rs f g → n < length rs → single p f rs n ≡ single q g rs n
single-same p q f g rs n h j lt =
    ap (λ l. map (sibling_number p rs) (take 1 l)) (counted-same p q f g rs n h j lt)
    ∙ numbers-same p q rs (take 1 (counted q g rs n)) h
    (All-take (λ k. k < length rs) 1 (counted q g rs n) (counted-inside q g rs n lt))

multiple-same : (p q f g : ℕ → Bool) (rs : List Record) (n : ℕ) → Agree rs p q → Agree rs f g → n < length rs → multiple p f rs n ≡ multiple q g rs n
multiple-same p q f g rs n h j lt =
    ap (λ l. reverse (map (sibling_number p rs) l)) (counted-same p q f g rs n h j lt)
    ∙ ap reverse (numbers-same p q rs (counted q g rs n) h (counted-inside q g rs n lt))

passed-inside : (rs : List Record) (r n : ℕ) → n < length rs → All (λ k. k < length rs) (reverse (passed rs r n))
passed-inside rs r n lt =
    reversed (λ k. k < length rs) (passed rs r n)
    (All-filter (λ k. (root_of rs k == r) && has_level (at rs k)) (λ k. k < length rs) (range_with_len 0 n) (before-inside rs n lt))

any-same : (p q f g : ℕ → Bool) (rs : List Record) (n : ℕ) → Agree rs p q → Agree rs f g → n < length rs → any_number p f rs n ≡ any_number q g rs n
any-same p q f g rs n h j lt =
    let back = reverse (passed rs (root_of rs n) n) in
    ap (λ l. length (filter p (n ∷ l))) (while-same (λ k. not (f k)) (λ k. not (g k)) back
    (agree-all rs (λ k. not (f k)) (λ k. not (g k)) back (agree-not rs f g j) (passed-inside rs (root_of rs n) n lt)))
    ∙ ap (λ l. length l) (filter-same p q (n ∷ looked_at g rs (root_of rs n) n) (agree-all rs p q (n ∷ looked_at g rs (root_of rs n) n) h
    (All-cons (λ k. k < length rs) n (looked_at g rs (root_of rs n) n) lt
    (while-all (λ k. k < length rs) (λ k. not (g k)) back (passed-inside rs (root_of rs n) n lt)))))

pub list-same : (level : Level) (p q f g : ℕ → Bool) (rs : List Record) (n : ℕ) → ((k : ℕ) → k < length rs → p k ≡ q k)
    → ((k : ℕ) → k < length rs → f k ≡ g k) → n < length rs → list_at level p f rs n ≡ list_at level q g rs n
list-same Single p q f g rs n h j lt = single-same p q f g rs n h j lt
list-same Multiple p q f g rs n h j lt = multiple-same p q f g rs n h j lt
list-same Any p q f g rs n h j lt = ap (λ k. k ∷ []) (any-same p q f g rs n h j lt)
