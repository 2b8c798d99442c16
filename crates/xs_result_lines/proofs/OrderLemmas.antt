-- The order of prefixes, and what a list of bindings says of one.
use Rattle.std.proofs.Common.{◌≡◌, ℕ, List, ◌∷◌, true, Option, Some, cond, refl, ◌∙◌, ap}
use Rattle.std.specs.BTreeMap.{is_at}
use Rattle.std.specs.Map.{lookup}
use Rattle.std.specs.Ordering.{is_eq, ordering_reverse}
use Rattle.std.specs.declared.cmp.Ordering.{Ordering}
use Rattle.std.specs.declared.cmp.Ordering.TheVariants.{Less, Equal, Greater}
use Rattle.std.proofs.lemmas.Cmp.{nat_list_cmp_total}
use Rattle.std.proofs.lemmas.Map.Lookups.{exact_bytes}
use Rattle.xs_result_lines.specs.Bindings.{Binding, order_of_prefixes, uri_in}

is_equal : (o : Ordering) → is_eq o ≡ true → o ≡ Equal
is_equal Less h = absurd (cc)
is_equal Equal h = refl
is_equal Greater h = absurd (cc)

eq-reverse : (o : Ordering) → is_eq (ordering_reverse o) ≡ is_eq o
eq-reverse Less = refl
eq-reverse Equal = refl
eq-reverse Greater = refl

-- two prefixes that are at one place are the same
pub same_at : (a b : List ℕ) → is_at (order_of_prefixes a) b ≡ true → a ≡ b
same_at a b h = exact_bytes a b (is_equal (order_of_prefixes a b) h)

self_equal : (o : Ordering) → o ≡ ordering_reverse o → is_eq o ≡ true
self_equal Less h = absurd (cc)
self_equal Equal h = refl
self_equal Greater h = absurd (cc)

pub at_itself : (a : List ℕ) → is_at (order_of_prefixes a) a ≡ true
at_itself a = self_equal (order_of_prefixes a a) (nat_list_cmp_total.antisymm a a)

pub at-flip : (a b : List ℕ) → is_at (order_of_prefixes a) b ≡ is_at (order_of_prefixes b) a
at-flip a b = ap is_eq (nat_list_cmp_total.antisymm a b) ∙ eq-reverse (order_of_prefixes b a)

-- the first binding of a list decides, if it has the prefix
pub uri_in-first : (b : Binding) (bs : List Binding) (q : List ℕ) → uri_in (b ∷ bs) q ≡ cond (is_at (order_of_prefixes b.0) q) (Some b.1) (uri_in bs q)
unfolding uri_in
uri_in-first b bs q = ap (λ t. cond t (Some b.1) (lookup (is_at (order_of_prefixes q)) bs)) (at-flip q b.0)

-- a table that has another URI for a prefix
abbrev pub Rebinds : List Binding → List Binding → List ℕ → Option (List ℕ) → Type 0
Rebinds old new p o = (q : List ℕ) → uri_in new q ≡ cond (is_at (order_of_prefixes p) q) o (uri_in old q)

pub rebinds-updated : (old new : List Binding) (p : List ℕ) (o : Option (List ℕ))
    → ((q : List ℕ) → lookup (is_at (order_of_prefixes q)) new ≡ cond (is_at (order_of_prefixes p) q) o (lookup (is_at (order_of_prefixes q)) old))
    → Rebinds old new p o
unfolding uri_in
rebinds-updated old new p o h = h

pub rebinds-as : (old new : List Binding) (key value p uri : List ℕ) → key ≡ p → value ≡ uri → Rebinds old new key (Some value) → Rebinds old new p (Some uri)
rebinds-as old new key value p uri k v h =
    λ q. h q ∙ ap (λ x. cond (is_at (order_of_prefixes x) q) (Some value) (uri_in old q)) k
    ∙ ap (λ x. cond (is_at (order_of_prefixes p) q) (Some x) (uri_in old q)) v
