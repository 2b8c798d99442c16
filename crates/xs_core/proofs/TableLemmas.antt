-- Facts that are sorted by place: the first for a place are found by halving, and they are those of the list that was sorted.
use Rattle.std.proofs.Common.{◌≡◌, ◌<◌, ◌≤◌, ◌+◌, ℕ, zero, suc, List, [], ◌∷◌, length, get_or, slice_get, Option, Some, None, Bool, true, false, cond, nat_lt}
use Rattle.std.proofs.Common.{refl, sym, ap, ◌∙◌, arith}
use Rattle.std.specs.Prelude.{◌&&◌, not}
use Rattle.std.specs.Cmp.{IsStrictWeakOrder, IsTotalOrder}
use Rattle.std.specs.Cmp.Lexicographic.{slice_cmp}
use Rattle.std.specs.List.{AllWithin, filter, sum_by}
use Rattle.std.specs.List.Sorted.{IsPartitionedBy, IsPermutation, IsStableBy, ties}
use Rattle.std.specs.Ordering.{is_eq, is_lt, nat_cmp, ordering_reverse}
use Rattle.std.specs.declared.cmp.Ordering.{Ordering}
use Rattle.std.specs.declared.cmp.Ordering.TheVariants.{Less, Equal, Greater}
use Rattle.std.specs.Str.{bytes_eq}
use Rattle.std.proofs.lemmas.Bool.{true≢false}
use Rattle.std.proofs.lemmas.Bool.Decides.{nat_tests}
use Rattle.std.proofs.lemmas.Cmp.{nat_list_cmp_total, same_from_slice_cmp}
use Rattle.std.proofs.lemmas.List.Sorted.{ranks_by, sorted_far, sum_by-IsPermutation}
use Rattle.std.proofs.lemmas.List.Sums.{sum_by-cons}
use Rattle.std.proofs.lemmas.Slice.Eq.{bytes_eq-Decides}
use Rattle.xs_core.specs.declared.piece.PieceFacts.{PieceFacts}
use Rattle.xs_core.specs.Facts.{AreFew, find_facts}
use Rattle.xs_core.specs.Machine.{Place}
use Rattle.xs_core.specs.Good.{total}
use Rattle.xs_core.specs.steps.Table.{IsPoint, IsSorted, is_before, is_below}

-- ---- places compared

pub compared : (a b : List ℕ) → is_eq (slice_cmp nat_cmp a b) ≡ bytes_eq a b
compared a b =
    same_from_slice_cmp nat_cmp is_eq bytes_eq refl (λ _ _. refl) (λ _ _. refl) (λ x y xs ys o h. grind (arith, nat_tests)) a b (slice_cmp nat_cmp a b) refl

less-not-equal : (o : Ordering) → is_lt o ≡ true → is_eq o ≡ false
less-not-equal Less h = refl
less-not-equal Equal h = absurd (true≢false (sym h))
less-not-equal Greater h = refl

below-differs : (a b : Place) → is_below a b ≡ true → bytes_eq a b ≡ false
below-differs a b h = sym (compared a b) ∙ less-not-equal (slice_cmp nat_cmp a b) h

neither : (o q : Ordering) → q ≡ ordering_reverse o → is_lt o ≡ false → is_lt q ≡ false → is_eq o ≡ true
neither Less q e h k = absurd (true≢false h)
neither Equal q e h k = refl
neither Greater q e h k = absurd (true≢false (sym (ap is_lt e) ∙ k))

not-below-same : (a b : Place) → is_below a b ≡ false → is_below b a ≡ false → bytes_eq a b ≡ true
not-below-same a b h k =
    let order : IsTotalOrder (slice_cmp nat_cmp) = nat_list_cmp_total in
    sym (compared a b) ∙ neither (slice_cmp nat_cmp a b) (slice_cmp nat_cmp b a) (order.antisymm b a) h k

pub weak : IsStrictWeakOrder is_before
weak = ranks_by nat_list_cmp_total (λ x. x.place)

-- ---- the first facts of a place

find-none : (xs : List PieceFacts) (p : Place) → ((k : ℕ) (d : PieceFacts) → k < length xs → bytes_eq (get_or xs k d).place p ≡ false)
    → find_facts xs p ≡ None
find-none [] p h = refl
find-none (x ∷ xs) p h =
    ap (λ c. cond c (Some x) (find_facts xs p)) (h 0 x (omega arith)) ∙ find-none xs p (λ k d lt. h (suc k) d (omega (arith, lt)))

find-at : (xs : List PieceFacts) (i : ℕ) (x : PieceFacts) (p : Place) → ((k : ℕ) (d : PieceFacts) → k < i → bytes_eq (get_or xs k d).place p ≡ false)
    → slice_get xs i ≡ Some x → bytes_eq x.place p ≡ true → find_facts xs p ≡ Some x
find-at [] i x p h e same = absurd (cc)
find-at (y ∷ xs) zero x p h e same =
    let is : y ≡ x = cc in
    ap (λ c. cond c (Some y) (find_facts xs p)) (ap (λ (z : PieceFacts). bytes_eq z.place p) is ∙ same) ∙ ap Some is
find-at (y ∷ xs) (suc i) x p h e same =
    ap (λ c. cond c (Some y) (find_facts xs p)) (h 0 y (omega arith)) ∙ find-at xs i x p (λ k d lt. h (suc k) d (omega (arith, lt))) e same

-- ---- halving

parted-by : (a b p : Place) (t : Bool) → is_below a p ≡ t → is_below b p ≡ true → is_below b a ≡ false → is_below a p ≡ true
parted-by a b p true e low far = e
parted-by a b p false e low far =
    let order : IsStrictWeakOrder is_below = ranks_by nat_list_cmp_total (λ x. x) in
    absurd (true≢false (sym low ∙ order.chain b a p far e))

pub parted : (xs : List PieceFacts) (p : Place) → IsSorted xs → IsPartitionedBy (λ y. is_below y.place p) xs
parted xs p up = λ i j d le lt low.
    parted-by (get_or xs i d).place (get_or xs j d).place p (is_below (get_or xs i d).place p) refl low (sorted_far is_before weak xs up i j d le lt)

-- before the point all places differ
front-differs : (xs : List PieceFacts) (i : ℕ) (p : Place) → AllWithin (λ (y : PieceFacts). is_below y.place p ≡ true) xs 0 i
    → (k : ℕ) (d : PieceFacts) → k < i → bytes_eq (get_or xs k d).place p ≡ false
front-differs xs i p low = λ k d lt. below-differs (get_or xs k d).place p (low k d (omega arith) lt)

pub found : (xs : List PieceFacts) (i : ℕ) (x : PieceFacts) (p : Place)
    → IsPoint xs p i → slice_get xs i ≡ Some x
    → is_eq (slice_cmp nat_cmp x.place p) ≡ true → find_facts xs p ≡ Some x
found xs i x p point at same = find-at xs i x p (front-differs xs i p point.0) at (sym (compared x.place p) ∙ same)

pub not-found-past : (xs : List PieceFacts) (i : ℕ) (p : Place)
    → IsPoint xs p i → length xs ≤ i → find_facts xs p ≡ None
not-found-past xs i p point past = find-none xs p (λ k d lt. front-differs xs i p point.0 k d (omega (arith, lt, past)))

-- after the point, where its place is another one
back-by : (a x p : Place) (t : Bool) → bytes_eq a p ≡ t → is_below a x ≡ false → is_below x p ≡ false → bytes_eq x p ≡ false → bytes_eq a p ≡ false
back-by a x p false e far high other = e
back-by a x p true e far high other =
    let at : is_below p x ≡ false = sym (ap (λ z. is_below z x) ((bytes_eq-Decides a p).0 e)) ∙ far in
    absurd (true≢false (sym (not-below-same x p high at) ∙ other))

get-there : (xs : List PieceFacts) (i : ℕ) (x d : PieceFacts) → slice_get xs i ≡ Some x → get_or xs i d ≡ x
get-there [] i x d e = absurd (cc)
get-there (y ∷ xs) zero x d e = cc
get-there (y ∷ xs) (suc i) x d e = get-there xs i x d e

get-within : (xs : List PieceFacts) (i : ℕ) (x : PieceFacts) → slice_get xs i ≡ Some x → i < length xs
get-within [] i x e = absurd (cc)
get-within (y ∷ xs) zero x e = omega arith
get-within (y ∷ xs) (suc i) x e = let a = get-within xs i x e in omega arith

back-differs : (xs : List PieceFacts) (i : ℕ) (x : PieceFacts) (p : Place) → IsSorted xs
    → AllWithin (λ (y : PieceFacts). is_below y.place p ≡ false) xs i (length xs) → slice_get xs i ≡ Some x → bytes_eq x.place p ≡ false
    → (k : ℕ) (d : PieceFacts) → i ≤ k → k < length xs → bytes_eq (get_or xs k d).place p ≡ false
back-differs xs i x p up high at other = λ k d le lt.
    let is : get_or xs i d ≡ x = get-there xs i x d at in
    let far : is_below (get_or xs k d).place x.place ≡ false =
    sym (ap (λ (z : PieceFacts). is_below (get_or xs k d).place z.place) is) ∙ sorted_far is_before weak xs up i k d le lt in
    let low : is_below x.place p ≡ false = sym (ap (λ (z : PieceFacts). is_below z.place p) is) ∙ high i d (omega arith) (get-within xs i x at) in
    back-by (get_or xs k d).place x.place p (bytes_eq (get_or xs k d).place p) refl far low other

either : (xs : List PieceFacts) (i : ℕ) (p : Place) → ((k : ℕ) (d : PieceFacts) → k < i → bytes_eq (get_or xs k d).place p ≡ false)
    → ((k : ℕ) (d : PieceFacts) → i ≤ k → k < length xs → bytes_eq (get_or xs k d).place p ≡ false)
    → (k : ℕ) (d : PieceFacts) → k < length xs → (t : Bool) → nat_lt k i ≡ t → bytes_eq (get_or xs k d).place p ≡ false
either xs i p front back k d lt true e = front k d (grind (arith, nat_tests, e))
either xs i p front back k d lt false e = back k d (grind (arith, nat_tests, e)) lt

pub not-found : (xs : List PieceFacts) (i : ℕ) (x : PieceFacts) (p : Place) → IsSorted xs
    → IsPoint xs p i → slice_get xs i ≡ Some x
    → is_eq (slice_cmp nat_cmp x.place p) ≡ false → find_facts xs p ≡ None
not-found xs i x p up point at other =
    let differs : bytes_eq x.place p ≡ false = sym (compared x.place p) ∙ other in
    find-none xs p (λ k d lt.
    either xs i p (front-differs xs i p point.0) (back-differs xs i x p up point.1 at differs) k d lt (nat_lt k i) refl)

-- ---- the list that was sorted

abbrev first : List PieceFacts → Option PieceFacts
first [] = None
first (x ∷ xs) = Some x

-- some facts for a place, to compare others with
abbrev facts_at : Place → PieceFacts
facts_at p = record { place = p; ticks = 0; holes = 0 }

tie-by : (o q : Ordering) (t : Bool) → q ≡ ordering_reverse o → is_eq o ≡ t → (not (is_lt q) && not (is_lt o)) ≡ t
tie-by Less q t e h = ap (λ (z : Ordering). not (is_lt z) && false) e ∙ h
tie-by Equal q t e h = ap (λ (z : Ordering). not (is_lt z) && true) e ∙ h
tie-by Greater q t e h = ap (λ (z : Ordering). not (is_lt z) && true) e ∙ h

tied : (x : PieceFacts) (p : Place) → ties is_before (facts_at p) x ≡ bytes_eq x.place p
tied x p =
    let order : IsTotalOrder (slice_cmp nat_cmp) = nat_list_cmp_total in
    tie-by (slice_cmp nat_cmp x.place p) (slice_cmp nat_cmp p x.place) (bytes_eq x.place p) (order.antisymm p x.place) (compared x.place p)

find-by : (x : PieceFacts) (xs : List PieceFacts) (p : Place) (c : Bool) → find_facts xs p ≡ first (filter (ties is_before (facts_at p)) xs)
    → cond c (Some x) (find_facts xs p) ≡ first (cond c (x ∷ filter (ties is_before (facts_at p)) xs) (filter (ties is_before (facts_at p)) xs))
find-by x xs p true i = refl
find-by x xs p false i = i

find-first : (xs : List PieceFacts) (p : Place) → find_facts xs p ≡ first (filter (ties is_before (facts_at p)) xs)
find-first [] p = refl
find-first (x ∷ xs) p =
    find-by x xs p (bytes_eq x.place p) (find-first xs p)
    ∙ ap (λ c. first (cond c (x ∷ filter (ties is_before (facts_at p)) xs) (filter (ties is_before (facts_at p)) xs))) (sym (tied x p))

pub same-facts : (xs ys : List PieceFacts) → IsStableBy is_before xs ys → (p : Place) → find_facts ys p ≡ find_facts xs p
same-facts xs ys stable p = find-first ys p ∙ ap first (stable (facts_at p)) ∙ sym (find-first xs p)

total-sum : {X : Type 0} → (f : X → ℕ) (xs : List X) → total f xs ≡ sum_by f xs
total-sum f [] = refl
total-sum f (x ∷ xs) = ap (λ n. f x + n) (total-sum f xs) ∙ sym (sum_by-cons f x xs)

pub few-sorted : (xs ys : List PieceFacts) → IsPermutation xs ys → AreFew xs → AreFew ys
few-sorted xs ys moved few =
    let a = total-sum (λ (x : PieceFacts). x.ticks) xs in
    let b = total-sum (λ (x : PieceFacts). x.ticks) ys in
    let c = sum_by-IsPermutation (λ (x : PieceFacts). x.ticks) xs ys moved in
    omega (arith, few)
