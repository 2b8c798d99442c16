-- The tables of a start tag, with a binding more.
use Rattle.std.proofs.Common.{◌≡◌, ℕ, zero, suc, ◌+◌, ◌<◌, ◌≤◌, List, [], ◌∷◌, Bool, true, false, if◌then◌else◌, Option, None, Some, Result, Ok, Err, IfOk, cond, refl, sym, ◌∙◌, ap, subst, arith, length}
use Rattle.std.specs.Prelude.{◌==◌, ◌&&◌, is_some, not}
use Rattle.std.specs.BTreeMap.{insert_entry, is_at}
use Rattle.std.specs.List.{AllByRecursion}
use Rattle.std.specs.List.Sorted.{IsStrictlySortedBy}
use Rattle.std.specs.Map.{keys_of}
use Rattle.std.specs.Ordering.{is_eq, is_lt, match_ordering}
use Rattle.std.specs.Str.{bytes_eq}
use Rattle.std.specs.declared.cmp.Ordering.{Ordering}
use Rattle.std.specs.declared.cmp.Ordering.TheVariants.{Less, Equal, Greater}
use Rattle.std.proofs.lemmas.Cmp.{nat_list_cmp_total}
use Rattle.std.proofs.lemmas.Map.Keys.{sorted_head, sorted_tail}
use Rattle.std.proofs.lemmas.Slice.Eq.{bytes_eq-Decides}
use Rattle.xs_result.specs.Built.{is_empty}
use Rattle.xs_result_lines.specs.Bindings.{Binding, binds, new_from, new_prefix, order_of_prefixes, prefix_for, uri_in}
use Rattle.xs_result_lines.specs.steps.Tables.{AreBound, HasLeast, is_less, least_with, lesser}
use Rattle.xs_result_lines.proofs.OrderLemmas.{Rebinds, at_itself, rebinds-as, same_at}

-- ---- new prefixes
some_more : (t : Bool) (uri : List ℕ) (o : Option (List ℕ)) → is_some o ≡ true → is_some (cond t (Some uri) o) ≡ true
some_more true uri o h = refl
some_more false uri o h = h

bound_more : (old new : List Binding) (p uri : List ℕ) (n : ℕ) → Rebinds old new p (Some uri) → AreBound old n → AreBound new n
bound_more old new p uri n rebinds bound j less =
    ap is_some (rebinds (new_prefix j)) ∙ some_more (is_at (order_of_prefixes p) (new_prefix j)) uri (uri_in old (new_prefix j)) (bound j less)

-- the first new prefix is the one before which all are bound
new_from-is : (tries : ℕ) (m : List Binding) (k n : ℕ) → k ≤ n → n ≤ k + tries → AreBound m n → (n < k + tries → binds m (new_prefix n) ≡ false)
    → new_from tries m k ≡ new_prefix n
unfolding new_from
new_from-is zero m k n low high bound free = let e : k ≡ n = omega (arith, low, high) in ap new_prefix e
new_from-is (suc tries) m k n low high bound free =
    by_test (binds m (new_prefix k)) refl
    (λ less. new_from-is tries m (k + 1) n less (omega (arith, high)) bound (λ h. free (omega (arith, h))))
  where
    by_test : (t : Bool) → binds m (new_prefix k) ≡ t → (k + 1 ≤ n → new_from tries m (k + 1) ≡ new_prefix n)
        → (if t then new_from tries m (k + 1) else new_prefix k) ≡ new_prefix n
    by_test true at more =
        let other : k ≡ n → ⊥ = λ e. (let free_k : binds m (new_prefix k) ≡ false = ap (λ i. binds m (new_prefix i)) e ∙ free (omega (arith, e)) in
        let no_bool : true ≡ false = sym at ∙ free_k in cc) in
        more (omega (arith, low, other))
    by_test false at more =
        let none : k < n → ⊥ = λ less. (let no_bool : true ≡ false = sym (bound k less) ∙ at in cc) in
        let e : k ≡ n = omega (arith, low, none) in ap new_prefix e

-- the number at which a search from `next` on ends
pub first-is : (m : List Binding) (tries n : ℕ) → tries ≡ length m → n ≤ tries → AreBound m n → (n < tries → binds m (new_prefix n) ≡ false)
    → new_from (length m) m 0 ≡ new_prefix n
first-is m tries n count within bound free =
    subst (λ k. new_from k m 0 ≡ new_prefix n) count
    (new_from-is tries m 0 n (omega arith) (omega (arith, within)) bound (λ h. free (omega (arith, h))))

pub bound_below : (m : List Binding) (n k : ℕ) → k ≤ n → AreBound m n → AreBound m k
bound_below m n k le bound j less = bound j (omega (arith, le, less))

-- ---- the least prefix of each URI
-- each of these bindings has a greater prefix
abbrev pub AllAfter : List ℕ → List Binding → Type 0
AllAfter p m = AllByRecursion (λ (b : Binding). order_of_prefixes p b.0 ≡ Less) m

abbrev pub Rises : List Binding → Type 0
Rises [] = Unit {0}
Rises (b ∷ bs) = AllAfter b.0 bs × Rises bs

all_after : (b : Binding) (bs : List Binding) → AllByRecursion (λ (k : List ℕ). order_of_prefixes b.0 k ≡ Less) (keys_of bs) → AllAfter b.0 bs
all_after b [] h = tt
all_after b (e ∷ es) h = (h.0, all_after b es h.1)

rises_sorted : (m : List Binding) → IsStrictlySortedBy order_of_prefixes (keys_of m) → Rises m
rises_sorted [] h = tt
rises_sorted (b ∷ bs) h = (
  all_after b bs (sorted_head order_of_prefixes b.0 (keys_of bs) h),
  rises_sorted bs (sorted_tail order_of_prefixes b.0 (keys_of bs) h),
)

pub after_twice : (p : List ℕ) (b : Binding) (bs : List Binding) → order_of_prefixes p b.0 ≡ Less → AllAfter b.0 bs → AllAfter p bs
after_twice p b [] less h = tt
after_twice p b (e ∷ es) less h = (nat_list_cmp_total.trans p b.0 e.0 less h.0, after_twice p b es less h.1)

least_before : (p some : List ℕ) (m : List Binding) → AllAfter p m → lesser p (prefix_for m some) ≡ Some p
unfolding prefix_for
least_before p some [] h = refl
least_before p some (b ∷ bs) h = by_test (not (is_empty b.0) && bytes_eq b.1 some) (least_before p some bs h.1)
  where
    by_test : (t : Bool) → lesser p (prefix_for bs some) ≡ Some p → lesser p (cond t (Some b.0) (prefix_for bs some)) ≡ Some p
    by_test true g = ap (λ o. cond (is_lt o) (Some p) (Some b.0)) h.0
    by_test false g = g

bound_equal : (o : Ordering) (uri : List ℕ) (rest : Option (List ℕ)) → o ≡ Equal → is_some (cond (is_eq o) (Some uri) rest) ≡ false → ⊥
bound_equal Less uri rest is h = absurd (cc)
bound_equal Equal uri rest is h = absurd (cc)
bound_equal Greater uri rest is h = absurd (cc)

bound_later : (o : Ordering) (uri : List ℕ) (rest : Option (List ℕ)) → o ≡ Greater → is_some (cond (is_eq o) (Some uri) rest) ≡ false → is_some rest ≡ false
bound_later Less uri rest is h = absurd (cc)
bound_later Equal uri rest is h = absurd (cc)
bound_later Greater uri rest is h = h

least_more : (m : List Binding) (p uri some : List ℕ) → Rises m → binds m p ≡ false
    → prefix_for (insert_entry order_of_prefixes m p uri) some ≡ least_with p uri (prefix_for m some) some
unfolding prefix_for uri_in
least_more [] p uri some rises free = refl
least_more (b ∷ bs) p uri some rises free = by_order (order_of_prefixes p b.0) refl (λ g. least_more bs p uri some rises.1 g)
  where
    first : (t : Bool) (o : Option (List ℕ)) → lesser p o ≡ Some p → cond t (Some p) o ≡ cond t (lesser p o) o
    first true o g = sym g
    first false o g = refl

    later : (s t : Bool) (more : Option (List ℕ)) → order_of_prefixes p b.0 ≡ Greater → more ≡ cond t (lesser p (prefix_for bs some)) (prefix_for bs some)
        → cond s (Some b.0) more ≡ cond t (lesser p (cond s (Some b.0) (prefix_for bs some))) (cond s (Some b.0) (prefix_for bs some))
    later true true more is g = sym (ap (λ o. cond (is_lt o) (Some p) (Some b.0)) is)
    later true false more is g = refl
    later false t more is g = g

    by_order : (o : Ordering) → order_of_prefixes p b.0 ≡ o
        → (binds bs p ≡ false → prefix_for (insert_entry order_of_prefixes bs p uri) some ≡ least_with p uri (prefix_for bs some) some)
        → prefix_for (match_ordering o ((p, uri) ∷ b ∷ bs) ((b.0, uri) ∷ bs) (b ∷ insert_entry order_of_prefixes bs p uri)) some
        ≡ least_with p uri (prefix_for (b ∷ bs) some) some
    by_order Less is more =
        first (not (is_empty p) && bytes_eq uri some) (prefix_for (b ∷ bs) some)
        (least_before p some (b ∷ bs) (is, after_twice p b bs is rises.0))
    by_order Equal is more = absurd (bound_equal (order_of_prefixes p b.0) b.1 (uri_in bs p) is free)
    by_order Greater is more =
        later (not (is_empty b.0) && bytes_eq b.1 some) (not (is_empty p) && bytes_eq uri some) (prefix_for (insert_entry order_of_prefixes bs p uri) some) is
        (more (bound_later (order_of_prefixes p b.0) b.1 (uri_in bs p) is free))

-- ---- a table of the least prefixes, with a binding more

less_is : (p : List ℕ) (o : Option (List ℕ)) → is_less p o ≡ true → Some p ≡ lesser p o
less_is p None h = refl
less_is p (Some q) h = sym (ap (λ t. cond t (Some p) (Some q)) h)

itself : (a : List ℕ) → bytes_eq a a ≡ true
itself a = (bytes_eq-Decides a a).1 refl

is_false : (t : Bool) → (t ≡ true → ⊥) → t ≡ false
is_false true h = absurd (h refl)
is_false false h = refl

and_false : (t : Bool) (x y : Option (List ℕ)) → cond (t && false) x y ≡ y
and_false true x y = refl
and_false false x y = refl

elsewhere : (uri some : List ℕ) → is_at (order_of_prefixes uri) some ≡ false → bytes_eq uri some ≡ false
elsewhere uri some at =
    is_false (bytes_eq uri some) (λ t. (
    let there : is_at (order_of_prefixes uri) some ≡ true = ap (is_at (order_of_prefixes uri)) (sym ((bytes_eq-Decides uri some).0 t)) ∙ at_itself uri in
    let no_bool : true ≡ false = sym there ∙ at in cc
    ))

pub noted_less : (old new : List Binding) (p uri some : List ℕ) → is_empty p ≡ false → is_less p (uri_in old uri) ≡ true → Rebinds old new uri (Some p)
    → uri_in new some ≡ least_with p uri (uri_in old some) some
noted_less old new p uri some full less rebinds = rebinds some ∙ by_place (is_at (order_of_prefixes uri) some) refl
  where
    by_place : (t : Bool) → is_at (order_of_prefixes uri) some ≡ t → cond t (Some p) (uri_in old some) ≡ least_with p uri (uri_in old some) some
    by_place true at =
        let same : uri ≡ some = same_at uri some at in
        let tested : bytes_eq uri some ≡ true = ap (bytes_eq uri) (sym same) ∙ itself uri in
        less_is p (uri_in old uri) less ∙ ap (λ k. lesser p (uri_in old k)) same
        ∙ sym (ap (λ t. cond (not t && bytes_eq uri some) (lesser p (uri_in old some)) (uri_in old some)) full
        ∙ ap (λ t. cond t (lesser p (uri_in old some)) (uri_in old some)) tested)
    by_place false at =
        sym (ap (λ t. cond (not (is_empty p) && t) (lesser p (uri_in old some)) (uri_in old some)) (elsewhere uri some at)
        ∙ and_false (not (is_empty p)) (lesser p (uri_in old some)) (uri_in old some))

empty_by_length : (xs : List ℕ) (t : Bool) → t ≡ (length xs == 0) → t ≡ false → is_empty xs ≡ false
empty_by_length [] t is no_item = absurd (let no_bool : true ≡ false = sym is ∙ no_item in cc)
empty_by_length (x ∷ xs) t is no_item = refl

-- what is noted of a binding whose prefix is less
pub noted_made : {X E : Type 0} (entries : X → List Binding) (r : Result X E) (old : List Binding) (p uri key : List ℕ) (none less : Bool)
    (least : Option (List ℕ))
    → none ≡ (length p == 0) → none ≡ false → key ≡ uri → least ≡ uri_in old key → less ≡ is_less p least → less ≡ true
    → IfOk r (λ t. Rebinds old (entries t) key (Some p))
    → IfOk r (λ t. (some : List ℕ) → uri_in (entries t) some ≡ least_with p uri (uri_in old some) some)
noted_made entries (Err e) old p uri key none less least a b k l f g h = tt
noted_made entries (Ok t) old p uri key none less least a b k l f g h = λ some.
    noted_less old (entries t) p uri some (empty_by_length p none a b)
    (ap (λ x. is_less p (uri_in old x)) (sym k) ∙ ap (is_less p) (sym l) ∙ sym f ∙ g)
    (subst (λ x. Rebinds old (entries t) x (Some p)) k h)

-- ---- both tables with a binding more
pub with_kept : (m now old table : List Binding) (next : ℕ) (key value p uri : List ℕ) → key ≡ p → value ≡ uri
    → now ≡ insert_entry order_of_prefixes m key value → Rebinds m now key (Some value)
    → IsStrictlySortedBy order_of_prefixes (keys_of m) → binds m p ≡ false
    → ((some : List ℕ) → uri_in table some ≡ least_with p uri (uri_in old some) some)
    → AreBound m next × HasLeast old m → AreBound now next × HasLeast table now
with_kept m now old table next key value p uri k v is rebinds sorted free least kept = (
  bound_more m now p uri next (rebinds-as m now key value p uri k v rebinds) kept.0,
  λ some. least some ∙ ap (λ o. least_with p uri o some) (kept.1 some)
      ∙ sym (ap (λ es. prefix_for es some) (is ∙ ap (λ x. insert_entry order_of_prefixes m x value) k ∙ ap (insert_entry order_of_prefixes m p) v)
      ∙ least_more m p uri some (rises_sorted m sorted) free),
)
