-- The numbers of a node and its ancestors, one after another.
use Rattle.std.proofs.Common.{◌≡◌, ℕ, zero, suc, ◌+◌, ◌-◌, ◌<◌, ◌≤◌, Bool, true, false, All, cond, not, List, [], ◌∷◌, ◌++◌, filter, get_or, length, map, reverse, take, take_while, refl, sym, subst, ap, ◌∙◌, append_assoc, arith}
use Rattle.std.specs.List.{range_with_len}
use Rattle.std.proofs.lemmas.List.{get_or-reverse, length-reverse, map-append}
use Rattle.std.proofs.lemmas.List.Elements.{All-cons, All-filter, All-from_get_or, All-get_or, All-head, All-nil, All-tail, filter-append}
use Rattle.std.proofs.lemmas.List.FromFn.{get_or-map-range_with_len, length-map-range_with_len}
use Rattle.std.proofs.lemmas.List.Sums.{take_while-cons}
use Rattle.xs_tree.specs.declared.axes.Axis.TheVariants.{Ancestor}
use Rattle.xs_tree.specs.Axis.{axis_list, is_on}
use Rattle.xs_tree.specs.Record.{Record, places}
use Rattle.xs_numbering.specs.Counting.{counted}

-- ancestors are in the tree

pub range-inside : (b a n : ℕ) → a + n ≤ b → All (λ k. k < b) (range_with_len a n)
range-inside b a zero h = All-nil (λ k. k < b)
range-inside b a (suc n) h =
    All-cons (λ k. k < b) a (range_with_len (a + 1) n) (omega (arith, h)) (range-inside b (a + 1) n (omega (arith, h)))

pub reversed : (P : ℕ → Type 0) (xs : List ℕ) → All P xs → All P (reverse xs)
reversed P xs h =
    All-from_get_or P (reverse xs) 0 (λ i lt.
    let within : i < length xs = subst (λ (n : ℕ). i < n) (length-reverse xs) lt in
    subst P (sym (get_or-reverse xs i 0 within)) (All-get_or P xs (length xs - 1 - i) 0 (omega (arith, within)) h))

pub ancestors-inside : (rs : List Record) (n : ℕ) → All (λ k. k < length rs) (axis_list Ancestor rs n)
unfolding axis_list
ancestors-inside rs n =
    reversed (λ k. k < length rs) (filter (is_on Ancestor rs n) (places rs))
    (All-filter (is_on Ancestor rs n) (λ k. k < length rs) (places rs) (range-inside (length rs) 0 (length rs) (omega arith)))

after-front : (P : ℕ → Type 0) (front rest : List ℕ) (k : ℕ) → All P (front ++ k ∷ rest) → P k
after-front P [] rest k h = All-head P k rest h
after-front P (x ∷ xs) rest k h = after-front P xs rest k (All-tail P x (xs ++ k ∷ rest) h)

pub ancestor-within : (rs : List Record) (n : ℕ) (front rest : List ℕ) (k : ℕ) → front ++ k ∷ rest ≡ axis_list Ancestor rs n → k < length rs
ancestor-within rs n front rest k whole =
    after-front (λ j. j < length rs) front rest k (subst (λ xs. All (λ j. j < length rs) xs) (sym whole) (ancestors-inside rs n))

-- the number of a node in a table of all
pub number-in : (f : ℕ → ℕ) (numbers : List ℕ) (rs : List Record) (n : ℕ) → numbers ≡ map f (places rs) → n < length rs → get_or numbers n 0 ≡ f n
number-in f numbers rs n is lt = ap (λ xs. get_or xs n 0) is ∙ get_or-map-range_with_len f 0 (length rs) n n 0 lt (omega arith)

pub table-long : (f : ℕ → ℕ) (numbers : List ℕ) (rs : List Record) → numbers ≡ map f (places rs) → length numbers ≡ length rs
table-long f numbers rs is = ap length is ∙ length-map-range_with_len f 0 (length rs)

-- one ancestor more

front : (from : ℕ → Bool) (k : ℕ) (rest : List ℕ) (t : Bool) → from k ≡ t
    → take_while (λ j. not (from j)) (k ∷ rest) ≡ cond (not t) (k ∷ take_while (λ j. not (from j)) rest) []
front from k rest t is =
    take_while-cons (λ j. not (from j)) k rest ∙ ap (λ u. cond (not u) (k ∷ take_while (λ j. not (from j)) rest) []) is

pub levels-next : (f : ℕ → ℕ) (counts from : ℕ → Bool) (k : ℕ) (left rest out new whole : List ℕ) → from k ≡ false → left ≡ k ∷ rest
    → new ≡ out ++ map f (filter counts (k ∷ []))
    → out ++ map f (filter counts (take_while (λ j. not (from j)) left)) ≡ whole
    → new ++ map f (filter counts (take_while (λ j. not (from j)) rest)) ≡ whole
levels-next f counts from k left rest out new whole goes is pushed so_far =
    let later = take_while (λ j. not (from j)) rest in
    let parts : map f (filter counts (take_while (λ j. not (from j)) left)) ≡ map f (filter counts (k ∷ [])) ++ map f (filter counts later) =
    ap (λ xs. map f (filter counts xs)) (ap (take_while (λ j. not (from j))) is ∙ front from k rest false goes)
    ∙ ap (map f) (filter-append counts (k ∷ []) later) ∙ map-append f (filter counts (k ∷ [])) (filter counts later) in
    ap (λ xs. xs ++ map f (filter counts later)) pushed
    ∙ append_assoc out (map f (filter counts (k ∷ []))) (map f (filter counts later))
    ∙ ap (λ xs. out ++ xs) (sym parts) ∙ so_far

-- the first one

counts-yes : (counts : ℕ → Bool) (k : ℕ) (ks : List ℕ) → counts k ≡ true → filter counts (k ∷ ks) ≡ k ∷ filter counts ks
counts-yes counts k ks is = rw is refl

counts-no : (counts : ℕ → Bool) (k : ℕ) (ks : List ℕ) → counts k ≡ false → filter counts (k ∷ ks) ≡ filter counts ks
counts-no counts k ks is = rw is refl

pub first-itself : (counts from : ℕ → Bool) (rs : List Record) (n : ℕ) → counts n ≡ true → take 1 (counted counts from rs n) ≡ n ∷ []
first-itself counts from rs n is = ap (take 1) (counts-yes counts n (take_while (λ k. not (from k)) (axis_list Ancestor rs n)) is)

pub first-found : (counts from : ℕ → Bool) (k : ℕ) (whole left rest : List ℕ) → from k ≡ false → counts k ≡ true → left ≡ k ∷ rest
    → whole ≡ filter counts (take_while (λ j. not (from j)) left) → take 1 whole ≡ k ∷ []
first-found counts from k whole left rest goes found is so_far =
    ap (take 1)
    (so_far ∙ ap (filter counts) (ap (take_while (λ j. not (from j))) is ∙ front from k rest false goes)
    ∙ counts-yes counts k (take_while (λ j. not (from j)) rest) found)

pub first-later : (counts from : ℕ → Bool) (k : ℕ) (whole left rest : List ℕ) → from k ≡ false → counts k ≡ false → left ≡ k ∷ rest
    → whole ≡ filter counts (take_while (λ j. not (from j)) left) → whole ≡ filter counts (take_while (λ j. not (from j)) rest)
first-later counts from k whole left rest goes missing is so_far =
    so_far ∙ ap (filter counts) (ap (take_while (λ j. not (from j))) is ∙ front from k rest false goes)
    ∙ counts-no counts k (take_while (λ j. not (from j)) rest) missing
