-- Comparisons of operands that are lists.
use Rattle.std.proofs.Common.{◌≡◌, ℕ, Bool, true, false, ◌||◌, List, [], ◌∷◌, ◌++◌, map, Result, Ok, Err, refl, sym, ◌∙◌, ap, subst, cond, get_or}
use Rattle.std.proofs.lemmas.List.Elements.{All-cons, All-head, All-tail, All-nil, All-map}
use Rattle.std.specs.List.{All, list_any}
use Rattle.std.specs.Str.{bytes_eq}
use Rattle.std.specs.Bool.{beq as same_bool}
use Rattle.xs_num.specs.Text.{number_in}
use Rattle.xs_num.specs.declared.number.NumFault.{NumFault}
use Rattle.xs_tree.specs.Record.{Record, string_value}
use Rattle.xs_value.specs.declared.comparison.CompareOp.{CompareOp}
use Rattle.xs_value.specs.declared.value.Value.{Value}
use Rattle.xs_value.specs.declared.value.Value.TheVariants.{Bool as Boolean, Number as Numeral, Chars, Nodes, Piece}
use Rattle.xs_value.specs.Conversion.{bool_value, fragment_text, number_value, text_value}
use Rattle.xs_value.specs.Comparison.{by_number, compared, compared_single, is_boolean, is_numeral, is_ordering, members, or_else, same_or_not, some}
use Rattle.xs_value.specs.steps.Operands.{node_numbers, node_texts, numbers_of, some_numbers, texts_of}

pub or_else-false : (r : Result Bool NumFault) → or_else r (Ok false) ≡ r
or_else-false (Ok true) = refl
or_else-false (Ok false) = refl
or_else-false (Err f) = refl

pub or_else-joins : (r s t : Result Bool NumFault) → or_else (or_else r s) t ≡ or_else r (or_else s t)
or_else-joins (Ok true) s t = refl
or_else-joins (Ok false) s t = refl
or_else-joins (Err f) s t = refl

pub some-append : {X : Type 0} (test : X → Result Bool NumFault) (xs ys : List X) → some test (xs ++ ys) ≡ or_else (some test xs) (some test ys)
some-append test [] ys = refl
some-append test (x ∷ xs) ys = ap (or_else (test x)) (some-append test xs ys) ∙ sym (or_else-joins (test x) (some test xs) (some test ys))

pub some-map : {X Y : Type 0} (test : Y → Result Bool NumFault) (f : X → Y) (xs : List X) → some test (map f xs) ≡ some (λ x. test (f x)) xs
some-map test f [] = refl
some-map test f (x ∷ xs) = ap (or_else (test (f x))) (some-map test f xs)

-- tests that are the same on all items
pub some-same : {X : Type 0} (test other : X → Result Bool NumFault) (xs : List X) → All (λ x. test x ≡ other x) xs → some test xs ≡ some other xs
some-same test other [] h = refl
some-same test other (x ∷ xs) h =
    ap (λ r. or_else r (some test xs)) (All-head (λ x. test x ≡ other x) x xs h)
    ∙ ap (or_else (other x)) (some-same test other xs (All-tail (λ x. test x ≡ other x) x xs h))

pub some-never : {X : Type 0} (xs : List X) → some (λ (x : X). Ok false) xs ≡ Ok false
some-never [] = refl
some-never (x ∷ xs) = some-never xs

-- tests without faults
pub some-any : {X : Type 0} (p : X → Bool) (xs : List X) → some (λ x. Ok (p x)) xs ≡ Ok (list_any p xs)
some-any p [] = refl
some-any p (x ∷ xs) = ap (or_else (Ok (p x))) (some-any p xs) ∙ either (p x) (list_any p xs)
  where
    either : (b c : Bool) → or_else (Ok b) (Ok c) ≡ Ok (b || c)
    either true c = refl
    either false c = refl

-- ---- beside a boolean

single : (rs : List Record) (op : CompareOp) (x y : Value) → some (λ z. some (compared_single rs op z) (y ∷ [])) (x ∷ []) ≡ compared_single rs op x y
single rs op x y = or_else-false (or_else (compared_single rs op x y) (Ok false)) ∙ or_else-false (compared_single rs op x y)

-- ---- what represents a value that is no boolean

-- a value that is no boolean, and a number as another one is
pub record IsPlain (numeral : Bool) (x : Value) : Type 0 where
  pub boolean : is_boolean x ≡ false
  pub number : is_numeral x ≡ numeral

plain : (rs : List Record) (v : Value) → is_boolean v ≡ false → All (IsPlain (is_numeral v)) (members rs false v)
plain rs (Boolean b) h = absurd (cc)
plain rs (Numeral n) h = All-cons (IsPlain true) (Numeral n) [] (record { boolean = refl; number = refl }) (All-nil (IsPlain true))
plain rs (Chars t) h = All-cons (IsPlain false) (Chars t) [] (record { boolean = refl; number = refl }) (All-nil (IsPlain false))
plain rs (Nodes ns) h = All-map (IsPlain false) (λ n. Chars (string_value rs n)) ns (λ k d l. record { boolean = refl; number = refl })
plain rs (Piece es) h = All-cons (IsPlain false) (Chars (fragment_text es)) [] (record { boolean = refl; number = refl }) (All-nil (IsPlain false))

-- two values that are compared as numbers
pair-numbers : (rs : List Record) (op : CompareOp) (m n : Bool) (x y : Value) → (is_ordering op || (m || n)) ≡ true → IsPlain m x → IsPlain n y
    → compared_single rs op x y ≡ by_number op (number_value rs x) (number_value rs y)
pair-numbers rs op m n x y h p q =
    choose (is_ordering op) (is_boolean x) (is_boolean y) (is_numeral x) (is_numeral y) m n h p.boolean q.boolean p.number q.number
    (by_number op (number_value rs x) (number_value rs y)) (Ok (same_or_not op (same_bool (bool_value x) (bool_value y))))
    (Ok (same_or_not op (bytes_eq (text_value rs x) (text_value rs y))))
  where
    choose : (o bx by nx ny m n : Bool) → (o || (m || n)) ≡ true → bx ≡ false → by ≡ false → nx ≡ m → ny ≡ n → (r s t : Result Bool NumFault)
        → cond o r (cond (bx || by) s (cond (nx || ny) r t)) ≡ r
    choose true bx by nx ny m n h a b c d r s t = refl
    choose false bx by nx ny m n h a b c d r s t = rw (a, b, c, d, h) refl

-- two values that are compared as strings
pair-texts : (rs : List Record) (op : CompareOp) (x y : Value) → is_ordering op ≡ false → IsPlain false x → IsPlain false y
    → compared_single rs op x y ≡ Ok (same_or_not op (bytes_eq (text_value rs x) (text_value rs y)))
pair-texts rs op x y h p q = rw (h, p.boolean, q.boolean, p.number, q.number) refl

-- a test of pairs that is another one on all pairs of two lists
some-pairs : {X : Type 0} (test other : X → X → Result Bool NumFault) (P Q : X → Type 0) (same : (x y : X) → P x → Q y → test x y ≡ other x y) (xs ys : List X)
    → All P xs → All Q ys → some (λ x. some (test x) ys) xs ≡ some (λ x. some (other x) ys) xs
some-pairs test other P Q same [] ys h k = refl
some-pairs test other P Q same (x ∷ xs) ys h k =
    let one : some (test x) ys ≡ some (other x) ys =
    some-same (test x) (other x) ys (λ j d l. same x (get_or ys j d) (All-head P x xs h) (k j d l)) in
    ap (λ r. or_else r (some (λ z. some (test z) ys) xs)) one
    ∙ ap (or_else (some (other x) ys)) (some-pairs test other P Q same xs ys (All-tail P x xs h) k)

numbers-are : (rs : List Record) (v : Value) → is_boolean v ≡ false → map (number_value rs) (members rs false v) ≡ numbers_of rs v
numbers-are rs (Boolean b) h = absurd (cc)
numbers-are rs (Numeral n) h = refl
numbers-are rs (Chars t) h = refl
numbers-are rs (Nodes ns) h = each ns
  where
    each : (ks : List ℕ) → map (number_value rs) (map (λ n. Chars (string_value rs n)) ks) ≡ node_numbers rs ks
    each [] = refl
    each (k ∷ ks) = ap (λ l. number_in (string_value rs k) ∷ l) (each ks)
numbers-are rs (Piece es) h = refl

texts-are : (rs : List Record) (v : Value) → is_boolean v ≡ false → is_numeral v ≡ false → map (text_value rs) (members rs false v) ≡ texts_of rs v
texts-are rs (Boolean b) h k = absurd (cc)
texts-are rs (Numeral n) h k = absurd (cc)
texts-are rs (Chars t) h k = refl
texts-are rs (Nodes ns) h k = each ns
  where
    each : (ks : List ℕ) → map (text_value rs) (map (λ n. Chars (string_value rs n)) ks) ≡ node_texts rs ks
    each [] = refl
    each (k ∷ ks) = ap (λ l. string_value rs k ∷ l) (each ks)
texts-are rs (Piece es) h k = refl

-- pairs of mapped items
pairs-map : {X Y : Type 0} (test : Y → Y → Result Bool NumFault) (f : X → Y) (xs ys : List X)
    → some (λ x. some (λ y. test (f x) (f y)) ys) xs ≡ some (λ x. some (test x) (map f ys)) (map f xs)
pairs-map test f xs ys =
    some-same (λ x. some (λ y. test (f x) (f y)) ys) (λ x. some (test (f x)) (map f ys)) xs (λ k d l. sym (some-map (test (f (get_or xs k d))) f ys))
    ∙ sym (some-map (λ x. some (test x) (map f ys)) f xs)

pub as_numbers : (rs : List Record) (op : CompareOp) (a b : Value) → is_boolean a ≡ false → is_boolean b ≡ false
    → (is_ordering op || (is_numeral a || is_numeral b)) ≡ true
    → compared rs op a b ≡ some_numbers op (numbers_of rs a) (numbers_of rs b)
as_numbers rs op a b h k o =
    let plain_a = plain rs a h in
    let plain_b = plain rs b k in
    let pairs =
    some-pairs (compared_single rs op) (λ x y. by_number op (number_value rs x) (number_value rs y)) (IsPlain (is_numeral a)) (IsPlain (is_numeral b))
    (λ x y p q. pair-numbers rs op (is_numeral a) (is_numeral b) x y o p q) (members rs false a) (members rs false b) plain_a plain_b in
    let mapped = pairs-map (by_number op) (number_value rs) (members rs false a) (members rs false b) in
    rw (h, k) (pairs ∙ mapped ∙ ap (λ ys. some_numbers op (map (number_value rs) (members rs false a)) ys) (numbers-are rs b k)
    ∙ ap (λ xs. some_numbers op xs (numbers_of rs b)) (numbers-are rs a h))

-- some pair of strings passes a test
abbrev pub some_texts : (List ℕ → List ℕ → Bool) → List (List ℕ) → List (List ℕ) → Bool
some_texts p xs ys = list_any (λ x. list_any (p x) ys) xs

pub as_texts : (rs : List Record) (op : CompareOp) (a b : Value) → is_boolean a ≡ false → is_boolean b ≡ false → is_ordering op ≡ false
    → is_numeral a ≡ false → is_numeral b ≡ false
    → compared rs op a b ≡ Ok (some_texts (λ x y. same_or_not op (bytes_eq x y)) (texts_of rs a) (texts_of rs b))
as_texts rs op a b h k o m n =
    let same = λ (x y : List ℕ). same_or_not op (bytes_eq x y) in
    let plain_a : All (IsPlain false) (members rs false a) = subst (λ z. All (IsPlain z) (members rs false a)) m (plain rs a h) in
    let plain_b : All (IsPlain false) (members rs false b) = subst (λ z. All (IsPlain z) (members rs false b)) n (plain rs b k) in
    let pairs = some-pairs (compared_single rs op) (λ x y. Ok (same (text_value rs x) (text_value rs y))) (IsPlain false) (IsPlain false)
    (λ x y p q. pair-texts rs op x y o p q) (members rs false a) (members rs false b) plain_a plain_b in
    let mapped = pairs-map (λ x y. Ok (same x y)) (text_value rs) (members rs false a) (members rs false b) in
    let here = λ (xs ys : List (List ℕ)). some (λ x. some (λ y. Ok (same x y)) ys) xs in
    rw (h, k) (pairs ∙ mapped ∙ ap (here (map (text_value rs) (members rs false a))) (texts-are rs b k n)
    ∙ ap (λ xs. here xs (texts_of rs b)) (texts-are rs a h m)
    ∙ some-same (λ x. some (λ y. Ok (same x y)) (texts_of rs b)) (λ x. Ok (list_any (same x) (texts_of rs b))) (texts_of rs a)
    (λ j d l. some-any (same (get_or (texts_of rs a) j d)) (texts_of rs b))
    ∙ some-any (λ x. list_any (same x) (texts_of rs b)) (texts_of rs a))
