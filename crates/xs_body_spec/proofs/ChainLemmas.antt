-- Where no attribute set uses itself, chains of sets that use one another end (XSLT 1.0, 7.1.4).
use Rattle.std.proofs.Common.{◌≡◌, ◌∙◌, ℕ, zero, suc, ◌<◌, ◌≤◌, ◌⊎◌, inl, inr, ap, arith, refl, sym, subst, Bool, true, false, if◌then◌else◌, List, [], ◌∷◌, ◌++◌, filter, length}
use Rattle.std.proofs.lemmas.Bool.{true≢false}
use Rattle.std.proofs.lemmas.Bool.Decides.{leb_tells}
use Rattle.std.proofs.lemmas.Slice.Eq.{bytes_eq-Decides}
use Rattle.std.specs.List.{flat_map, list_any, list_all}
use Rattle.std.specs.Prelude.{◌&&◌, ◌||◌, not}
use Rattle.std.specs.Str.{bytes_eq}
use Rattle.xs_sheet.specs.Sets.{is_apart, is_same_label, reached, sets_of, used_by}
use Rattle.xs_sheet.specs.declared.declarations.AttrSet.{AttrSet}
use Rattle.xs_attribute_sets.specs.Declarations.{by_precedence, declarations_of, has_name, has_precedence, highest, ranked}
use Rattle.xs_trace.specs.Label.{Label}

-- ---- what each item of a list is, and which items it has
abbrev pub Each : {A : Type 0} → (A → Type 0) → List A → Type 0
Each P [] = Unit {0}
Each P (x ∷ xs) = P x × Each P xs

abbrev pub In : {A : Type 0} → A → List A → Type 0
In x [] = ⊥
In x (y ∷ ys) = (x ≡ y) ⊎ In x ys

abbrev Sub : {A : Type 0} → List A → List A → Type 0
Sub {A} xs ys = (x : A) → In x xs → In x ys

pub each-front : {A : Type 0} (P : A → Type 0) (xs ys : List A) → Each P (xs ++ ys) → Each P xs
each-front P [] ys h = tt
each-front P (x ∷ xs) ys h = (h.0, each-front P xs ys h.1)

pub each-back : {A : Type 0} (P : A → Type 0) (xs ys : List A) → Each P (xs ++ ys) → Each P ys
each-back P [] ys h = h
each-back P (x ∷ xs) ys h = each-back P xs ys h.1

each-map : {A : Type 0} (P Q : A → Type 0) → ((x : A) → P x → Q x) → (xs : List A) → Each P xs → Each Q xs
each-map P Q f [] h = tt
each-map P Q f (x ∷ xs) h = (f x h.0, each-map P Q f xs h.1)

each-in : {A : Type 0} (P : A → Type 0) (xs : List A) → ((x : A) → In x xs → P x) → Each P xs
each-in P [] h = tt
each-in P (x ∷ xs) h = (h x (inl refl), each-in P xs (λ y i. h y (inr i)))

in-front : {A : Type 0} (x : A) (xs ys : List A) → In x xs → In x (xs ++ ys)
in-front x [] ys i = absurd i
in-front x (y ∷ xs) ys (inl e) = inl e
in-front x (y ∷ xs) ys (inr i) = inr (in-front x xs ys i)

in-back : {A : Type 0} (x : A) (xs ys : List A) → In x ys → In x (xs ++ ys)
in-back x [] ys i = i
in-back x (y ∷ xs) ys i = inr (in-back x xs ys i)

in-either : {A : Type 0} (x : A) (xs ys : List A) → In x (xs ++ ys) → In x xs ⊎ In x ys
in-either x [] ys i = inr i
in-either x (y ∷ xs) ys (inl e) = inl (inl e)
in-either x (y ∷ xs) ys (inr i) = elim (in-either x xs ys i) [
  | inl j ↦ inl (inr j)
  | inr j ↦ inr j
]

sub-both : {A : Type 0} (xs ys us vs : List A) → Sub xs us → Sub ys vs → Sub (xs ++ ys) (us ++ vs)
sub-both xs ys us vs h k x i = elim (in-either x xs ys i) [
  | inl j ↦ in-front x us vs (h x j)
  | inr j ↦ in-back x us vs (k x j)
]

in-flat : {A B : Type 0} (f : A → List B) (x : B) (y : A) (ys : List A) → In y ys → In x (f y) → In x (flat_map f ys)
in-flat f x y [] i j = absurd i
in-flat f x y (z ∷ ys) (inl e) j = in-front x (f z) (flat_map f ys) (subst (λ u. In x (f u)) e j)
in-flat f x y (z ∷ ys) (inr i) j = in-back x (f z) (flat_map f ys) (in-flat f x y ys i j)

out-flat : {A B : Type 0} (f : A → List B) (x : B) (ys : List A) → In x (flat_map f ys) → (y : A) × In y ys × In x (f y)
out-flat f x [] i = absurd i
out-flat f x (y ∷ ys) i = elim (in-either x (f y) (flat_map f ys) i) [
  | inl j ↦ (y, inl refl, j)
  | inr j ↦ let k = out-flat f x ys j in (k.0, inr k.1, k.2)
]

sub-flat : {A B : Type 0} (f : A → List B) (xs ys : List A) → Sub xs ys → Sub (flat_map f xs) (flat_map f ys)
sub-flat f xs ys h x i = let k = out-flat f x xs i in in-flat f x k.0 ys (h k.0 k.1) k.2

in-filter : {A : Type 0} (p : A → Bool) (x : A) (xs : List A) → In x xs → p x ≡ true → In x (filter p xs)
in-filter p x [] i e = absurd i
in-filter p x (y ∷ xs) i e = by_test (p y) refl i (λ j. in-filter p x xs j e)
  where
    by_test : (b : Bool) → p y ≡ b → (x ≡ y) ⊎ In x xs → (In x xs → In x (filter p xs)) → In x (if b then y ∷ filter p xs else filter p xs)
    by_test true is (inl same) more = inl same
    by_test true is (inr j) more = inr (more j)
    by_test false is (inl same) more = absurd (true≢false (sym e ∙ ap p same ∙ is))
    by_test false is (inr j) more = more j

out-filter : {A : Type 0} (p : A → Bool) (x : A) (xs : List A) → In x (filter p xs) → In x xs × (p x ≡ true)
out-filter p x [] i = absurd i
out-filter p x (y ∷ xs) i = by_test (p y) refl i (out-filter p x xs)
  where
    by_test : (b : Bool) → p y ≡ b → In x (if b then y ∷ filter p xs else filter p xs) → (In x (filter p xs) → In x xs × (p x ≡ true))
        → ((x ≡ y) ⊎ In x xs) × (p x ≡ true)
    by_test true is (inl same) more = (inl same, ap p same ∙ is)
    by_test true is (inr j) more = let k = more j in (inr k.0, k.1)
    by_test false is j more = let k = more j in (inr k.0, k.1)

any-in : {A : Type 0} (p : A → Bool) (x : A) (xs : List A) → In x xs → p x ≡ true → list_any p xs ≡ true
any-in p x [] i e = absurd i
any-in p x (y ∷ xs) (inl same) e = ap (λ b. b || list_any p xs) (ap p (sym same) ∙ e)
any-in p x (y ∷ xs) (inr i) e = by_test (p y) (any-in p x xs i e)
  where
    by_test : (b : Bool) → list_any p xs ≡ true → (b || list_any p xs) ≡ true
    by_test true more = refl
    by_test false more = more

in-any : {A : Type 0} (p : A → Bool) (xs : List A) → list_any p xs ≡ true → (x : A) × In x xs × (p x ≡ true)
in-any p [] h = absurd (true≢false (sym h))
in-any {A} p (x ∷ xs) h = by_test (p x) refl h (in-any p xs)
  where
    by_test : (b : Bool) → p x ≡ b → (b || list_any p xs) ≡ true → (list_any p xs ≡ true → (y : A) × In y xs × (p y ≡ true))
        → (y : A) × ((y ≡ x) ⊎ In y xs) × (p y ≡ true)
    by_test true is k more = (x, inl refl, is)
    by_test false is k more = let r = more k in (r.0, inr r.1, r.2)

pub at-most : (m n : ℕ) → n ≤ suc m → (n ≡ suc m) ⊎ (n ≤ m)
at-most m n h = elim (leb_tells n m) [
  | inl k ↦ inr k.1
  | inr k ↦ inl (omega (arith, h, k.1))
]

-- ---- how many items pass a test
abbrev count : {A : Type 0} → (A → Bool) → List A → ℕ
count p [] = 0
count p (x ∷ xs) = if p x then suc (count p xs) else count p xs

count-all : {A : Type 0} (p : A → Bool) (xs : List A) → count p xs ≤ length xs
count-all p [] = omega arith
count-all p (x ∷ xs) = by_test (p x) (count-all p xs)
  where
    by_test : (b : Bool) → count p xs ≤ length xs → (if b then suc (count p xs) else count p xs) ≤ suc (length xs)
    by_test true more = omega (arith, more)
    by_test false more = omega (arith, more)

count-more : {A : Type 0} (p q : A → Bool) (xs : List A) → ((x : A) → q x ≡ true → p x ≡ true) → count q xs ≤ count p xs
count-more p q [] h = omega arith
count-more p q (x ∷ xs) h = by_tests (q x) (p x) (h x) (count-more p q xs h)
  where
    by_tests : (b d : Bool) → (b ≡ true → d ≡ true) → count q xs ≤ count p xs
        → (if b then suc (count q xs) else count q xs) ≤ (if d then suc (count p xs) else count p xs)
    by_tests true true k more = omega (arith, more)
    by_tests true false k more = absurd (true≢false (sym (k refl)))
    by_tests false true k more = omega (arith, more)
    by_tests false false k more = more

count-less : {A : Type 0} (p q : A → Bool) (xs : List A) → ((x : A) → q x ≡ true → p x ≡ true) → (x : A) → In x xs → p x ≡ true → q x ≡ false
    → suc (count q xs) ≤ count p xs
count-less p q [] h x i e o = absurd i
count-less p q (y ∷ xs) h x (inl same) e o = by_tests (q y) (p y) (ap q (sym same) ∙ o) (ap p (sym same) ∙ e)
  where
    by_tests : (b d : Bool) → b ≡ false → d ≡ true → suc (if b then suc (count q xs) else count q xs) ≤ (if d then suc (count p xs) else count p xs)
    by_tests true d k l = absurd (true≢false k)
    by_tests false true k l = omega (arith, count-more p q xs h)
    by_tests false false k l = absurd (true≢false (sym l))
count-less p q (y ∷ xs) h x (inr i) e o = by_tests (q y) (p y) (h y) (count-less p q xs h x i e o)
  where
    by_tests : (b d : Bool) → (b ≡ true → d ≡ true) → suc (count q xs) ≤ count p xs
        → suc (if b then suc (count q xs) else count q xs) ≤ (if d then suc (count p xs) else count p xs)
    by_tests true true k more = omega (arith, more)
    by_tests true false k more = absurd (true≢false (sym (k refl)))
    by_tests false true k more = omega (arith, more)
    by_tests false false k more = more

-- ---- names that are the same
same-flip : (a b : Label) → is_same_label a b ≡ true → is_same_label b a ≡ true
same-flip a b e =
    let h = parts (bytes_eq a.uri b.uri) (bytes_eq a.local b.local) e in
    joined (bytes_eq b.uri a.uri) (bytes_eq b.local a.local)
    ((bytes_eq-Decides b.uri a.uri).1 (sym ((bytes_eq-Decides a.uri b.uri).0 h.0)))
    ((bytes_eq-Decides b.local a.local).1 (sym ((bytes_eq-Decides a.local b.local).0 h.1)))
  where
    parts : (b d : Bool) → (b && d) ≡ true → (b ≡ true) × (d ≡ true)
    parts true d k = (refl, k)
    parts false d k = absurd (true≢false (sym k))

    joined : (b d : Bool) → b ≡ true → d ≡ true → (b && d) ≡ true
    joined b d k l = ap (λ t. t && d) k ∙ l

-- ---- what is reached
in-ranked : (s : AttrSet) (n : ℕ) (ss : List AttrSet) → In s (ranked n ss) → In s ss
in-ranked s zero ss i = absurd i
in-ranked s (suc n) ss i = elim (in-either s (ranked n ss) (filter (has_precedence n) ss) i) [
  | inl j ↦ in-ranked s n ss j
  | inr j ↦ (out-filter (has_precedence n) s ss j).0
]

module _ (all : List AttrSet) where
  -- a chain of sets from a declaration, and from a name, has no more than so many
  abbrev pub Deep : ℕ → AttrSet → Type 0
  Deep zero s = ⊥
  Deep (suc n) s = Each (λ name. Each (Deep n) (declarations_of all name)) (sets_of s)

  abbrev pub Ends : ℕ → Label → Type 0
  Ends n name = Each (Deep n) (declarations_of all name)

  abbrev used : List Label → List Label
  used names = flat_map (used_by all) names

  reached-sub : (n : ℕ) (xs ys : List Label) → Sub xs ys → Sub (reached n all xs) (reached n all ys)
  unfolding reached
  reached-sub zero xs ys h = h
  reached-sub (suc n) xs ys h =
      sub-both xs (reached n all (used xs)) ys (reached n all (used ys)) h
      (reached-sub n (used xs) (used ys) (sub-flat (used_by all) xs ys h))

  reached-next : (n : ℕ) (xs : List Label) → Sub (reached n all xs) (reached (suc n) all xs)
  unfolding reached
  reached-next zero xs x i = in-front x xs (used xs) i
  reached-next (suc n) xs x i =
      sub-both xs (reached n all (used xs)) xs (reached (suc n) all (used xs)) (λ y j. j) (reached-next n (used xs)) x i

  reached-more : (n m : ℕ) (xs : List Label) → n ≤ m → Sub (reached n all xs) (reached m all xs)
  reached-more n zero xs h = let e : n ≡ 0 = omega (arith, h) in subst (λ k. Sub (reached k all xs) (reached zero all xs)) (sym e) (λ x i. i)
  reached-more n (suc m) xs h = elim (at-most m n h) [
    | inl e ↦ subst (λ k. Sub (reached k all xs) (reached (suc m) all xs)) (sym e) (λ x i. i)
    | inr k ↦ (λ x i. reached-next m xs x (reached-more n m xs k x i))
  ]

  reached-used : (n : ℕ) (xs ys : List Label) → Sub xs (used ys) → Sub (reached n all xs) (reached (suc n) all ys)
  unfolding reached
  reached-used n xs ys h x i = in-back x ys (reached n all (used ys)) (reached-sub n xs (used ys) h x i)

  reached-own : (n : ℕ) (xs : List Label) → Sub xs (reached n all xs)
  unfolding reached
  reached-own zero xs x i = i
  reached-own (suc n) xs x i = in-front x xs (reached n all (used xs)) i

  -- whether a declaration is of a name that is reached
  abbrev hit : ℕ → List Label → AttrSet → Bool
  hit n names s = list_any (is_same_label s.name) (reached n all names)

  hit-sub : (n m : ℕ) (xs ys : List Label) → Sub (reached n all xs) (reached m all ys) → (s : AttrSet) → hit n xs s ≡ true → hit m ys s ≡ true
  hit-sub n m xs ys h s e =
      let k = in-any (is_same_label s.name) (reached n all xs) e in
      any-in (is_same_label s.name) k.0 (reached m all ys) (h k.0 k.1) k.2

  -- the declarations of a name
  declared : (name : Label) (s : AttrSet) → In s (declarations_of all name) → In s all × (is_same_label name s.name ≡ true)
  declared name s i =
      let k = out-filter (has_name name) s (by_precedence all) i in
      (in-ranked s (suc (highest all)) all k.0, k.1)

  uses : (name : Label) (names : List Label) (s : AttrSet) → In name names → In s (declarations_of all name) → Sub (sets_of s) (used names)
  uses name names s i j x k =
      let d = declared name s j in
      in-flat (used_by all) x name names i
      (in-flat sets_of x s (filter (λ s. is_same_label name s.name) all) (in-filter (λ s. is_same_label name s.name) s all d.0 d.1) k)

  module _ (apart : (s : AttrSet) → In s all → is_apart all s ≡ true) where
    quiet : (n : ℕ) (s : AttrSet) → In s all → n ≤ length all → hit n (sets_of s) s ≡ false
    quiet n s i h = by_test (hit n (sets_of s) s) refl
      where
        by_test : (b : Bool) → hit n (sets_of s) s ≡ b → b ≡ false
        by_test false e = refl
        by_test true e =
            let k = hit-sub n (length all) (sets_of s) (sets_of s) (reached-more n (length all) (sets_of s) h) s e in
            absurd (true≢false (sym (apart s i) ∙ ap not k))

    found : (n : ℕ) (name : Label) (names : List Label) (s : AttrSet) → In name names → In s (declarations_of all name) → hit n names s ≡ true
    found n name names s i j =
        any-in (is_same_label s.name) name (reached n all names) (reached-own n names name i) (same-flip name s.name (declared name s j).1)

    -- the names that are reached within so many uses have at most so many declarations
    deep : (n : ℕ) (names : List Label) → n ≤ length all → count (hit n names) all ≤ n → (name : Label) → In name names
        → (s : AttrSet) → In s (declarations_of all name) → Deep n s
    deep zero names h few name i s j =
        let one = count-less (hit zero names) (λ x. false) all (λ x e. absurd (true≢false (sym e))) s (declared name s j).0
        (found zero name names s i j) refl in absurd (none (count (λ (x : AttrSet). false) all) (count (hit zero names) all) one few)
      where
        none : (a b : ℕ) → suc a ≤ b → b ≤ 0 → ⊥
        none a b k l = grind (arith, k, l)
    deep (suc n) names h few name i s j =
        let below : n ≤ length all = omega (arith, h) in
        let fewer = count-less (hit (suc n) names) (hit n (sets_of s)) all
        (hit-sub n (suc n) (sets_of s) names (reached-used n (sets_of s) names (uses name names s i j))) s (declared name s j).0
        (found (suc n) name names s i j) (quiet n s (declared name s j).0 below) in
        let room : count (hit n (sets_of s)) all ≤ n = omega (arith, fewer, few) in
        each-in (λ x. Each (Deep n) (declarations_of all x)) (sets_of s)
        (λ x k. each-in (Deep n) (declarations_of all x) (λ t l. deep n (sets_of s) below room x k t l))

    deep-more : (n : ℕ) (s : AttrSet) → Deep n s → Deep (suc n) s
    deep-more zero s h = absurd h
    deep-more (suc n) s h =
        each-map (λ x. Each (Deep n) (declarations_of all x)) (λ x. Each (Deep (suc n)) (declarations_of all x))
        (λ x. each-map (Deep n) (Deep (suc n)) (deep-more n) (declarations_of all x)) (sets_of s) h

    ends : (names : List Label) → Each (Ends (length all)) names
    ends names =
        each-in (Ends (length all)) names
        (λ x i. each-in (Deep (length all)) (declarations_of all x)
        (λ s j. deep (length all) names (omega arith) (count-all (hit (length all) names) all) x i s j))

    pub ends-at : (n : ℕ) → length all ≤ n → (names : List Label) → Each (Ends n) names
    ends-at zero h names = let e : length all ≡ 0 = omega (arith, h) in subst (λ k. Each (Ends k) names) e (ends names)
    ends-at (suc n) h names = elim (at-most n (length all) h) [
      | inl e ↦ subst (λ k. Each (Ends k) names) e (ends names)
      | inr k ↦ each-map (Ends n) (Ends (suc n)) (λ x. each-map (Deep n) (Deep (suc n)) (deep-more n) (declarations_of all x)) names (ends-at n k names)
    ]

-- of a sound stylesheet
pub in-all : (p : AttrSet → Bool) (q : AttrSet → Bool) (ss : List AttrSet) → list_all p ss ≡ true → ((s : AttrSet) → p s ≡ true → q s ≡ true)
    → (s : AttrSet) → In s ss → q s ≡ true
in-all p q [] h k s i = absurd i
in-all p q (x ∷ ss) h k s i = by_test (p x) refl h i (λ l j. in-all p q ss l k s j)
  where
    by_test : (b : Bool) → p x ≡ b → (b && list_all p ss) ≡ true → (s ≡ x) ⊎ In s ss → (list_all p ss ≡ true → In s ss → q s ≡ true) → q s ≡ true
    by_test true is l (inl e) more = k s (ap p e ∙ is)
    by_test true is l (inr j) more = more l j
    by_test false is l j more = absurd (true≢false (sym l))
