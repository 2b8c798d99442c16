-- Lists of which each item has a fact that may name its index; images and sums of lists.
use Rattle.std.proofs.Common.{◌≡◌, ◌<◌, ◌≤◌, ◌+◌, ℕ, zero, suc, List, [], ◌∷◌, ◌++◌, length, get_or, set, remove, map, reverse, append_assoc}
use Rattle.std.proofs.Common.{refl, sym, ap, ◌∙◌, subst, arith}
use Rattle.std.specs.List.{All}
use Rattle.std.proofs.lemmas.List.{map-append, reverse-append}
use Rattle.std.proofs.lemmas.List.Elements.{All-nil, All-append}
use Rattle.xs_core.specs.Good.{total}
use Rattle.xs_pool.specs.Together.{all_of}
use Rattle.xs_pool.proofs.RunLemmas.{total-join}

-- ---- facts that name the index

abbrev pub Each : {X : Type 0} → (ℕ → X → Type 0) → List X → Type 0
Each {X = X} P xs = (j : ℕ) (d : X) → j < length xs → P j (get_or xs j d)

-- where one item is another one
pub each-set : {X : Type 0} → (P : ℕ → X → Type 0) (xs : List X) (k : ℕ) (y : X) →
    ((j : ℕ) (d : X) → j < length xs → (j ≡ k → ⊥) → P j (get_or xs j d)) → P k y → Each P (set xs k y)
each-set P [] k y others here j d l = absurd (omega (arith, l))
each-set P (x ∷ xs) zero y others here zero d l = here
each-set P (x ∷ xs) zero y others here (suc j) d l = others (suc j) d (omega (arith, l)) (λ e. absurd (omega (arith, e)))
each-set P (x ∷ xs) (suc k) y others here zero d l = others 0 d (omega arith) (λ e. absurd (omega (arith, e)))
each-set P (x ∷ xs) (suc k) y others here (suc j) d l =
    each-set (λ i z. P (suc i) z) xs k y (λ i e m n. others (suc i) e (omega (arith, m)) (λ q. n (omega (arith, q)))) here j d (omega (arith, l))

-- one item more, and one less
pub each-push : {X : Type 0} → (P : ℕ → X → Type 0) (xs : List X) (y : X) → Each P xs → P (length xs) y → Each P (xs ++ y ∷ [])
each-push P [] y all here zero d l = here
each-push P [] y all here (suc j) d l = absurd (omega (arith, l))
each-push P (x ∷ xs) y all here zero d l = all 0 d (omega arith)
each-push P (x ∷ xs) y all here (suc j) d l =
    each-push (λ i z. P (suc i) z) xs y (λ i e m. all (suc i) e (omega (arith, m))) here j d (omega (arith, l))

pub each-before : {X : Type 0} → (P : ℕ → X → Type 0) (xs : List X) (y : X) → Each P (xs ++ y ∷ []) → Each P xs
each-before P [] y all j d l = absurd (omega (arith, l))
each-before P (x ∷ xs) y all zero d l = all 0 d (omega arith)
each-before P (x ∷ xs) y all (suc j) d l =
    each-before (λ i z. P (suc i) z) xs y (λ i e m. all (suc i) e (omega (arith, m))) j d (omega (arith, l))

pub each-last : {X : Type 0} → (P : ℕ → X → Type 0) (xs : List X) (y : X) → Each P (xs ++ y ∷ []) → P (length xs) y
each-last P [] y all = all 0 y (omega arith)
each-last P (x ∷ xs) y all = each-last (λ i z. P (suc i) z) xs y (λ i e m. all (suc i) e (omega (arith, m)))

-- A has come to the items below an index, and B is still with the others
abbrev pub Halfway : {X : Type 0} → (A B : X → Type 0) → ℕ → List X → Type 0
Halfway A B k xs = Each (λ j x. (j < k → A x) × (k ≤ j → B x)) xs

pub half-none : {X : Type 0} → (A B : X → Type 0) (xs : List X) → All B xs → Halfway A B 0 xs
half-none A B xs all j d l = (λ m. absurd (omega (arith, m)), λ m. all j d l)

pub half-next : {X : Type 0} → (A B : X → Type 0) (k : ℕ) (xs : List X) (y : X) → Halfway A B k xs → A y → Halfway A B (k + 1) (set xs k y)
half-next A B k xs y h a = each-set (λ j x. (j < k + 1 → A x) × (k + 1 ≤ j → B x)) xs k y
    (λ j d l n. (λ m. (h j d l).0 (omega (arith, m, n)), λ m. (h j d l).1 (omega (arith, m)))) (λ m. a, λ m. absurd (omega (arith, m)))

pub half-all : {X : Type 0} → (A B : X → Type 0) (k : ℕ) (xs : List X) → Halfway A B k xs → length xs ≤ k → All A xs
half-all A B k xs h le j d l = (h j d l).0 (omega (arith, l, le))

-- A has gone from the items from an index on
pub half-back : {X : Type 0} → (A B : X → Type 0) (k : ℕ) (xs : List X) (y : X) → Halfway A B (k + 1) xs → B y → Halfway A B k (set xs k y)
half-back A B k xs y h b = each-set (λ j x. (j < k → A x) × (k ≤ j → B x)) xs k y
    (λ j d l n. (λ m. (h j d l).0 (omega (arith, m)), λ m. (h j d l).1 (omega (arith, m, n)))) (λ m. absurd (omega (arith, m)), λ m. b)

-- ---- lengths and images

pub length-more : {X : Type 0} → (xs : List X) (y : X) → length (xs ++ y ∷ []) ≡ length xs + 1
length-more [] y = omega arith
length-more (x ∷ xs) y = let i = length-more xs y in omega arith

pub length-image : {X Y : Type 0} → (g : X → Y) (xs : List X) → length (map g xs) ≡ length xs
length-image g [] = refl
length-image g (x ∷ xs) = ap suc (length-image g xs)

pub as-long : {X Y Z : Type 0} → (f : X → Z) (g : Y → Z) (xs : List X) (ys : List Y) → map f xs ≡ map g ys → length xs ≡ length ys
as-long f g xs ys e = sym (length-image f xs) ∙ ap length e ∙ length-image g ys

pub image-at : {X Y : Type 0} → (g : X → Y) (xs : List X) (i : ℕ) (d : X) (e : Y) → i < length xs → get_or (map g xs) i e ≡ g (get_or xs i d)
image-at g [] i d e h = absurd (omega (arith, h))
image-at g (x ∷ xs) zero d e h = refl
image-at g (x ∷ xs) (suc i) d e h = image-at g xs i d e (omega (arith, h))

-- a change that a function does not see
pub image-set : {X Y : Type 0} → (g : X → Y) (xs : List X) (k : ℕ) (y d : X) → k < length xs → g y ≡ g (get_or xs k d) → map g (set xs k y) ≡ map g xs
image-set g [] k y d h e = refl
image-set g (x ∷ xs) zero y d h e = ap (λ z. z ∷ map g xs) e
image-set g (x ∷ xs) (suc k) y d h e = ap (λ zs. g x ∷ zs) (image-set g xs k y d (omega (arith, h)) e)

pub all-image : {X Y : Type 0} → (P : Y → Type 0) (f : X → Y) (xs : List X) → All (λ x. P (f x)) xs → All P (map f xs)
all-image P f [] all k d l = absurd (omega (arith, l))
all-image P f (x ∷ xs) all zero d l = all 0 x (omega arith)
all-image P f (x ∷ xs) all (suc k) d l = all-image P f xs (λ j e m. all (suc j) e (omega (arith, m))) k d (omega (arith, l))

pub all-source : {X Y : Type 0} → (P : Y → Type 0) (f : X → Y) (xs : List X) → All P (map f xs) → All (λ x. P (f x)) xs
all-source P f [] all k d l = absurd (omega (arith, l))
all-source P f (x ∷ xs) all zero d l = all 0 (f d) (omega arith)
all-source P f (x ∷ xs) all (suc k) d l = all-source P f xs (λ j e m. all (suc j) e (omega (arith, m))) k d (omega (arith, l))

-- what holds of two images of each item
pub all-images : {X Y Z : Type 0} → (P : Y → Z → Type 0) (f : X → Y) (g : X → Z) (xs : List X) → All (λ x. P (f x) (g x)) xs →
    (k : ℕ) (y : Y) (z : Z) → k < length (map g xs) → P (get_or (map f xs) k y) (get_or (map g xs) k z)
all-images P f g [] all k y z l = absurd (omega (arith, l))
all-images P f g (x ∷ xs) all zero y z l = all 0 x (omega arith)
all-images P f g (x ∷ xs) all (suc k) y z l = all-images P f g xs (λ j e m. all (suc j) e (omega (arith, m))) k y z (omega (arith, l))

-- ---- parts of a list

pub all-front : {X : Type 0} → (P : X → Type 0) (xs ys : List X) → All P (xs ++ ys) → All P xs
all-front P [] ys all k d l = absurd (omega (arith, l))
all-front P (x ∷ xs) ys all zero d l = all 0 d (omega arith)
all-front P (x ∷ xs) ys all (suc k) d l = all-front P xs ys (λ j e m. all (suc j) e (omega (arith, m))) k d (omega (arith, l))

pub all-back : {X : Type 0} → (P : X → Type 0) (xs ys : List X) → All P (xs ++ ys) → All P ys
all-back P [] ys all = all
all-back P (x ∷ xs) ys all = all-back P xs ys (λ j e m. all (suc j) e (omega (arith, m)))

-- ---- lists of which the last item is taken again and again

reversed-last : {X : Type 0} → (xs : List X) (x : X) → reverse (xs ++ x ∷ []) ≡ x ∷ reverse xs
reversed-last xs x = reverse-append xs (x ∷ [])

pub one-moved : {X Y : Type 0} → (f : X → Y) (acc new : List Y) (xs ys : List X) (x : X) (whole : List Y) → acc ++ map f (reverse ys) ≡ whole →
    ys ≡ xs ++ x ∷ [] → new ≡ acc ++ f x ∷ [] → new ++ map f (reverse xs) ≡ whole
one-moved {X} {Y} f acc new xs ys x whole i e p =
    ap (λ (l : List Y). l ++ map f (reverse xs)) p ∙ append_assoc acc (f x ∷ []) (map f (reverse xs))
    ∙ sym (ap (λ (l : List X). acc ++ map f l) (ap reverse e ∙ reversed-last xs x)) ∙ i

pub some-moved : {X Y : Type 0} → (f : X → List Y) (acc new : List Y) (xs ys : List X) (x : X) (whole : List Y) → acc ++ all_of f (reverse ys) ≡ whole →
    ys ≡ xs ++ x ∷ [] → new ≡ acc ++ f x → new ++ all_of f (reverse xs) ≡ whole
some-moved {X} {Y} f acc new xs ys x whole i e p =
    ap (λ (l : List Y). l ++ all_of f (reverse xs)) p ∙ append_assoc acc (f x) (all_of f (reverse xs))
    ∙ sym (ap (λ (l : List X). acc ++ all_of f l) (ap reverse e ∙ reversed-last xs x)) ∙ i

-- ---- sums

pub total-of-all : {X Y : Type 0} → (h : Y → ℕ) (f : X → List Y) (xs : List X) → total h (all_of f xs) ≡ total (λ x. total h (f x)) xs
total-of-all h f [] = refl
total-of-all h f (x ∷ xs) = let i = total-of-all h f xs in let a = total-join h (f x) (all_of f xs) in omega (arith, i, a)

pub all-of-all : {X Y : Type 0} → (P : Y → Type 0) (f : X → List Y) (xs : List X) → All (λ x. All P (f x)) xs → All P (all_of f xs)
all-of-all P f [] all = All-nil P
all-of-all P f (x ∷ xs) all = All-append P (f x) (all_of f xs) (all 0 x (omega arith)) (all-of-all P f xs (λ j e m. all (suc j) e (omega (arith, m))))

pub total-plus : {X : Type 0} → (f g : X → ℕ) (xs : List X) → total (λ x. f x + g x) xs ≡ total f xs + total g xs
total-plus f g [] = omega arith
total-plus f g (x ∷ xs) = let i = total-plus f g xs in omega (arith, i)

pub total-image : {X Y : Type 0} → (g : Y → ℕ) (f : X → Y) (xs : List X) → total g (map f xs) ≡ total (λ x. g (f x)) xs
total-image g f [] = refl
total-image g f (x ∷ xs) = ap (λ n. g (f x) + n) (total-image g f xs)

pub total-same : {X : Type 0} → (f g : X → ℕ) (xs : List X) → All (λ x. f x ≡ g x) xs → total f xs ≡ total g xs
total-same f g [] all = refl
total-same f g (x ∷ xs) all =
    let a = all 0 x (omega arith) in
    let i = total-same f g xs (λ j e m. all (suc j) e (omega (arith, m))) in
    omega (arith, a, i)

pub total-zero : {X : Type 0} → (f : X → ℕ) (xs : List X) → All (λ x. f x ≡ 0) xs → total f xs ≡ 0
total-zero f [] all = refl
total-zero f (x ∷ xs) all =
    let a = all 0 x (omega arith) in
    let i = total-zero f xs (λ j e m. all (suc j) e (omega (arith, m))) in
    omega (arith, a, i)

pub total-few : {X : Type 0} → (f : X → ℕ) (xs : List X) → All (λ x. f x ≤ 1) xs → total f xs ≤ length xs
total-few f [] all = omega arith
total-few f (x ∷ xs) all =
    let a = all 0 x (omega arith) in
    let i = total-few f xs (λ j e m. all (suc j) e (omega (arith, m))) in
    omega (arith, a, i)

pub total-ones : {X : Type 0} → (xs : List X) → total (λ x. 1) xs ≡ length xs
total-ones [] = refl
total-ones (x ∷ xs) = let i = total-ones xs in omega (arith, i)

pub total-reverse : {X : Type 0} → (f : X → ℕ) (xs : List X) → total f (reverse xs) ≡ total f xs
total-reverse f [] = refl
total-reverse {X} f (x ∷ xs) =
    let a = ap (total f) (reverse-append (x ∷ []) xs) in
    let b = total-join f (reverse xs) (x ∷ []) in
    let i = total-reverse f xs in
    omega (arith, a, b, i)

pub all-reverse : {X : Type 0} → (P : X → Type 0) (xs : List X) → All P xs → All P (reverse xs)
all-reverse P [] all = all
all-reverse {X} P (x ∷ xs) all = subst (All P) (sym (reverse-append (x ∷ []) xs))
    (All-append P (reverse xs) (x ∷ []) (all-reverse P xs (λ j e m. all (suc j) e (omega (arith, m)))) (all-front P (x ∷ []) xs all))

pub length-reversed : {X : Type 0} → (xs : List X) → length (reverse xs) ≡ length xs
length-reversed [] = refl
length-reversed (x ∷ xs) = ap length (reverse-append (x ∷ []) xs) ∙ length-more (reverse xs) x ∙ (let i = length-reversed xs in omega (arith, i))

pub image-reversed : {X Y : Type 0} → (f : X → Y) (xs : List X) → map f (reverse xs) ≡ reverse (map f xs)
image-reversed f [] = refl
image-reversed {X} {Y} f (x ∷ xs) =
    ap (map f) (reverse-append (x ∷ []) xs) ∙ map-append f (reverse xs) (x ∷ []) ∙ ap (λ (l : List Y). l ++ f x ∷ []) (image-reversed f xs)
    ∙ sym (reverse-append (f x ∷ []) (map f xs))

-- ---- two lists, item by item

pub pair-sum : {X Y : Type 0} → (a b : Y → ℕ) (c d : X → ℕ) (ms : List X) (ns : List Y) → length ns ≡ length ms →
    ((k : ℕ) (m : X) (n : Y) → k < length ns → a (get_or ns k n) + c (get_or ms k m) ≡ b (get_or ns k n) + d (get_or ms k m)) →
    total a ns + total c ms ≡ total b ns + total d ms
pair-sum a b c d [] [] e h = refl
pair-sum a b c d [] (n ∷ ns) e h = absurd (omega (arith, e))
pair-sum a b c d (m ∷ ms) [] e h = absurd (omega (arith, e))
pair-sum a b c d (m ∷ ms) (n ∷ ns) e h =
    let i = pair-sum a b c d ms ns (omega (arith, e)) (λ k x y lt. h (suc k) x y (omega (arith, lt))) in
    let f = h 0 m n (omega arith) in
    omega (arith, i, f)

pub pair-images : {X Y Z : Type 0} → (f : Y → Z) (g : X → Z) (ms : List X) (ns : List Y) → length ns ≡ length ms →
    ((k : ℕ) (m : X) (n : Y) → k < length ns → f (get_or ns k n) ≡ g (get_or ms k m)) → map f ns ≡ map g ms
pair-images f g [] [] e h = refl
pair-images f g [] (n ∷ ns) e h = absurd (omega (arith, e))
pair-images f g (m ∷ ms) [] e h = absurd (omega (arith, e))
pair-images {X} {Y} {Z} f g (m ∷ ms) (n ∷ ns) e h =
    ap (λ (z : Z). z ∷ map f ns) (h 0 m n (omega arith))
    ∙ ap (λ (l : List Z). g m ∷ l) (pair-images f g ms ns (omega (arith, e)) (λ k x y lt. h (suc k) x y (omega (arith, lt))))

pub image-image : {X Y Z : Type 0} → (g : Y → Z) (f : X → Y) (xs : List X) → map g (map f xs) ≡ map (λ x. g (f x)) xs
image-image g f [] = refl
image-image g f (x ∷ xs) = ap (λ l. g (f x) ∷ l) (image-image g f xs)

pub item-moved : {X : Type 0} → (acc new : List X) (xs ys : List X) (x : X) (whole : List X) → acc ++ reverse ys ≡ whole → ys ≡ xs ++ x ∷ [] →
    new ≡ acc ++ x ∷ [] → new ++ reverse xs ≡ whole
item-moved {X} acc new xs ys x whole i e p =
    ap (λ (l : List X). l ++ reverse xs) p ∙ append_assoc acc (x ∷ []) (reverse xs)
    ∙ sym (ap (λ (l : List X). acc ++ l) (ap reverse e ∙ reversed-last xs x)) ∙ i

-- the first of a list is taken out
pub first-out : {X : Type 0} → (xs : List X) (x : X) (ys : List X) → 0 < length xs → x ≡ get_or xs 0 x → ys ≡ remove xs 0 → xs ≡ x ∷ ys
first-out [] x ys some at rest = absurd (omega (arith, some))
first-out (z ∷ xs) x ys some at rest = let e : z ≡ x = sym at in let f : xs ≡ ys = sym rest in cc
