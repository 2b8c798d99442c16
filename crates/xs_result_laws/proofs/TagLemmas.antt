-- The bindings of a start tag: each may be bound, each prefix is there once, and there are not more than the tag has parts.
use Rattle.std.proofs.Common.{◌≡◌, ℕ, zero, suc, ◌+◌, ◌<◌, ◌≤◌, ◌^◌, List, [], ◌∷◌, Option, None, Some, Bool, true, false, if◌then◌else◌, refl, sym, ◌∙◌, ap, subst}
use Rattle.std.proofs.Common.{arith, cond, filter, length, unwrap_or}
use Rattle.std.specs.Prelude.{not, ◌&&◌, is_some}
use Rattle.std.specs.BTreeMap.{insert_entry, is_at}
use Rattle.std.specs.List.{AllByRecursion}
use Rattle.std.specs.Ordering.{match_ordering}
use Rattle.std.specs.Str.{bytes_eq, IsUtf8}
use Rattle.std.specs.declared.cmp.Ordering.{Ordering}
use Rattle.std.specs.declared.cmp.Ordering.TheVariants.{Less, Equal, Greater}
use Rattle.std.proofs.lemmas.Bool.{and_parts, not-true}
use Rattle.std.proofs.lemmas.Map.Lookups.{exact_bytes}
use Rattle.std.proofs.lemmas.Slice.Eq.{bytes_eq-Decides}
use Rattle.xs_text.specs.Names.{is_ncname}
use Rattle.xs_trace.specs.Label.{Label}
use Rattle.xs_tree.specs.Names.{order_of_texts}
use Rattle.xs_build.specs.Namespaces as read
use Rattle.xs_result.specs.Built.{is_empty}
use Rattle.xs_result_lines.specs.Bindings.{Attribute, Binding, added, binds, chosen_prefix, declared, first_new, is_new, keeps_prefix, needs_prefix, new_from, new_prefix}
use Rattle.xs_result_lines.specs.Bindings.{prefix_for, uri_in, with_attribute, with_attributes, with_spaces, xml_uri}
use Rattle.xs_result_laws.proofs.NameLemmas.{IsBindable, new_bindable, no_bool}
use Rattle.xs_result_laws.proofs.ScopeLemmas.{at_itself, find}

abbrev pub MayBind : Binding → Type 0
MayBind b = IsBindable b.0 b.1

-- each prefix is another than those before it
abbrev pub AreApart : List Binding → Type 0
AreApart [] = Unit {0}
AreApart (b ∷ bs) = AllByRecursion (λ (e : Binding). e.0 ≡ b.0 → ⊥) bs × AreApart bs

pub record IsGoodTag (m : List Binding) : Type 0 where
  pub allowed : AllByRecursion MayBind m
  pub apart : AreApart m

-- ---- one binding more
all_inserted : (P : Binding → Type 0) (m : List Binding) (k v : List ℕ) → P (k, v) → AllByRecursion P m → AllByRecursion P (insert_entry order_of_texts m k v)
all_inserted P [] k v new all = (new, tt)
all_inserted P (e ∷ es) k v new all = by_order (order_of_texts k e.0) refl (all_inserted P es k v new all.1)
  where
    by_order : (o : Ordering) → order_of_texts k e.0 ≡ o → AllByRecursion P (insert_entry order_of_texts es k v)
        → AllByRecursion P (match_ordering o ((k, v) ∷ e ∷ es) ((e.0, v) ∷ es) (e ∷ insert_entry order_of_texts es k v))
    by_order Less is rest = (new, all)
    by_order Equal is rest = (subst (λ x. P (x, v)) (exact_bytes k e.0 is) new, all.1)
    by_order Greater is rest = (all.0, rest)

none_bound : (k : List ℕ) (m : List Binding) → binds m k ≡ false → AllByRecursion (λ (e : Binding). e.0 ≡ k → ⊥) m
unfolding uri_in
none_bound k [] free = tt
none_bound k (e ∷ es) free = by_test (is_at (order_of_texts k) e.0) refl free (λ g. none_bound k es g)
  where
    by_test : (t : Bool) → is_at (order_of_texts k) e.0 ≡ t → is_some (cond t (Some e.1) (find k es)) ≡ false
        → (is_some (find k es) ≡ false → AllByRecursion (λ (x : Binding). x.0 ≡ k → ⊥) es) → AllByRecursion (λ (x : Binding). x.0 ≡ k → ⊥) (e ∷ es)
    by_test true at g more = absurd (cc)
    by_test false at g more = (λ is. no_bool (is_at (order_of_texts k) e.0) (ap (is_at (order_of_texts k)) is ∙ at_itself k) at, more g)

apart_inserted : (m : List Binding) (k v : List ℕ) → AllByRecursion (λ (e : Binding). e.0 ≡ k → ⊥) m → AreApart m → AreApart (insert_entry order_of_texts m k v)
apart_inserted [] k v none apart = (tt, tt)
apart_inserted (e ∷ es) k v none apart = by_order (order_of_texts k e.0) (apart_inserted es k v none.1 apart.1)
  where
    by_order : (o : Ordering) → AreApart (insert_entry order_of_texts es k v)
        → AreApart (match_ordering o ((k, v) ∷ e ∷ es) ((e.0, v) ∷ es) (e ∷ insert_entry order_of_texts es k v))
    by_order Less rest = (none, apart)
    by_order Equal rest = apart
    by_order Greater rest = (all_inserted (λ (x : Binding). x.0 ≡ e.0 → ⊥) es k v (λ is. none.0 (sym is)) apart.0, rest)

good_added : (m : List Binding) (b : Binding) → MayBind b → IsGoodTag m → IsGoodTag (added m b)
good_added m b may g = by_test (binds m b.0) refl
  where
    by_test : (t : Bool) → binds m b.0 ≡ t → IsGoodTag (if t then m else insert_entry order_of_texts m b.0 b.1)
    by_test true bound = g
    by_test false free = record {
      allowed = all_inserted MayBind m b.0 b.1 may g.allowed;
      apart = apart_inserted m b.0 b.1 (none_bound b.0 m free) g.apart;
    }

inserted_length : (m : List Binding) (k v : List ℕ) → length (insert_entry order_of_texts m k v) ≤ length m + 1
inserted_length [] k v = omega arith
inserted_length (e ∷ es) k v = by_order (order_of_texts k e.0) (inserted_length es k v)
  where
    by_order : (o : Ordering) → length (insert_entry order_of_texts es k v) ≤ length es + 1
        → length (match_ordering o ((k, v) ∷ e ∷ es) ((e.0, v) ∷ es) (e ∷ insert_entry order_of_texts es k v)) ≤ length (e ∷ es) + 1
    by_order Less rest = omega arith
    by_order Equal rest = omega arith
    by_order Greater rest = omega (arith, rest)

added_length : (m : List Binding) (b : Binding) → length (added m b) ≤ length m + 1
added_length m b = by_test (binds m b.0)
  where
    by_test : (t : Bool) → length (if t then m else insert_entry order_of_texts m b.0 b.1) ≤ length m + 1
    by_test true = omega arith
    by_test false = inserted_length m b.0 b.1

-- ---- namespace nodes
pub good_spaces : (bs : List Binding) (m : List Binding) → AllByRecursion MayBind bs → IsGoodTag m → IsGoodTag (with_spaces m bs)
unfolding with_spaces
good_spaces [] m may g = g
good_spaces (b ∷ bs) m may g = good_spaces bs (added m b) may.1 (good_added m b may.0 g)

pub spaces_length : (bs : List Binding) (m : List Binding) → length (with_spaces m bs) ≤ length m + length bs
unfolding with_spaces
spaces_length [] m = omega arith
spaces_length (b ∷ bs) m =
    let rest : length (with_spaces (added m b) bs) ≤ length (added m b) + length bs = spaces_length bs (added m b) in
    let one : length (added m b) ≤ length m + 1 = added_length m b in
    omega (arith, rest, one)

-- ---- the prefix of an attribute
new_number : (tries : ℕ) (m : List Binding) (k : ℕ) → (n : ℕ) × (n ≤ k + tries) × (new_from tries m k ≡ new_prefix n)
unfolding new_from
new_number zero m k = (k, omega arith, refl)
new_number (suc tries) m k = by_test (binds m (new_prefix k)) (new_number tries m (k + 1))
  where
    by_test : (t : Bool) → (n : ℕ) × (n ≤ k + 1 + tries) × (new_from tries m (k + 1) ≡ new_prefix n)
        → (n : ℕ) × (n ≤ k + suc tries) × ((if t then new_from tries m (k + 1) else new_prefix k) ≡ new_prefix n)
    by_test true r = (r.0, (let less : r.0 ≤ k + 1 + tries = r.1 in omega (arith, less)), r.2)
    by_test false r = (k, omega arith, refl)

pub record IsGoodName (name : Label) : Type 0 where
  pub bindable : IsBindable name.prefix name.uri
  pub local : is_ncname name.local ≡ true
  pub local_text : IsUtf8 name.local

found_bindable : (m : List Binding) (uri q : List ℕ) → AllByRecursion MayBind m → prefix_for m uri ≡ Some q → IsBindable q uri
unfolding prefix_for
found_bindable [] uri q may h = absurd (cc)
found_bindable (b ∷ bs) uri q may h = by_test (not (is_empty b.0) && bytes_eq b.1 uri) refl h (λ g. found_bindable bs uri q may.1 g)
  where
    by_test : (t : Bool) → (not (is_empty b.0) && bytes_eq b.1 uri) ≡ t → (if t then Some b.0 else prefix_for bs uri) ≡ Some q
        → (prefix_for bs uri ≡ Some q → IsBindable q uri) → IsBindable q uri
    by_test true at g more =
        let is : b.0 ≡ q = cc in
        let same : b.1 ≡ uri = (bytes_eq-Decides b.1 uri).0 (and_parts (not (is_empty b.0)) (bytes_eq b.1 uri) at).1 in
        subst (λ p. IsBindable p uri) is (subst (λ u. IsBindable b.0 u) same may.0)
    by_test false at g more = more g

pub full_text : (u : List ℕ) → is_empty u ≡ false → read.is_empty u ≡ false
full_text [] h = h
full_text (b ∷ u) h = refl

first_bindable : (m : List Binding) (name : Label) → IsGoodName name → length m < 2 ^ 64 → needs_prefix name ≡ true → IsBindable (first_new m) name.uri
first_bindable m name n small needs =
    let found = new_number (length m) m 0 in
    let parts = and_parts (not (is_empty name.uri)) (not (bytes_eq name.uri xml_uri)) needs in
    let less : found.0 < 2 ^ 64 = (let at_most : found.0 ≤ 0 + length m = found.1 in omega (arith, at_most, small)) in
    subst (λ p. IsBindable p name.uri) (sym found.2)
    (new_bindable found.0 name.uri less (full_text name.uri (not-true (is_empty name.uri) parts.0)) (not-true (bytes_eq name.uri xml_uri) parts.1)
    n.bindable.not_xmlns n.bindable.uri_text)

pub chosen_bindable : (m : List Binding) (name : Label) → IsGoodTag m → IsGoodName name → length m < 2 ^ 64 → needs_prefix name ≡ true
    → IsBindable (chosen_prefix m name) name.uri
chosen_bindable m name g n small needs = by_test (keeps_prefix m name)
  where
    by_found : (o : Option (List ℕ)) → prefix_for m name.uri ≡ o → IsBindable (unwrap_or o (first_new m)) name.uri
    by_found None is = first_bindable m name n small needs
    by_found (Some q) is = found_bindable m name.uri q g.allowed is

    by_test : (t : Bool) → IsBindable (if t then name.prefix else unwrap_or (prefix_for m name.uri) (first_new m)) name.uri
    by_test true = n.bindable
    by_test false = by_found (prefix_for m name.uri) refl

-- ---- all attributes
pub good_attribute : (m : List Binding) (name : Label) → IsGoodTag m → IsGoodName name → length m < 2 ^ 64 → IsGoodTag (with_attribute m name)
unfolding with_attribute
good_attribute m name g n small = by_test (needs_prefix name) refl
  where
    by_test : (t : Bool) → needs_prefix name ≡ t → IsGoodTag (if t then added m (chosen_prefix m name, name.uri) else m)
    by_test true needs = good_added m (chosen_prefix m name, name.uri) (chosen_bindable m name g n small needs) g
    by_test false needs = g

attribute_length : (m : List Binding) (name : Label) → length (with_attribute m name) ≤ length m + 1
unfolding with_attribute
attribute_length m name = by_test (needs_prefix name)
  where
    by_test : (t : Bool) → length (if t then added m (chosen_prefix m name, name.uri) else m) ≤ length m + 1
    by_test true = added_length m (chosen_prefix m name, name.uri)
    by_test false = omega arith

abbrev pub AreFew : List Binding → List Attribute → Type 0
AreFew m attrs = length m + length attrs < 2 ^ 64

pub few_here : (m : List Binding) (a : Attribute) (attrs : List Attribute) → AreFew m (a ∷ attrs) → length m < 2 ^ 64
few_here m a attrs few = omega (arith, few)

pub few_more : (m : List Binding) (a : Attribute) (attrs : List Attribute) → AreFew m (a ∷ attrs) → AreFew (with_attribute m a.name) attrs
few_more m a attrs few = let one : length (with_attribute m a.name) ≤ length m + 1 = attribute_length m a.name in omega (arith, few, one)

abbrev pub AreGoodNames : List Attribute → Type 0
AreGoodNames attrs = AllByRecursion (λ (a : Attribute). IsGoodName a.name) attrs

pub good_attributes : (attrs : List Attribute) (m : List Binding) → AreGoodNames attrs → AreFew m attrs → IsGoodTag m → IsGoodTag (with_attributes m attrs)
unfolding with_attributes
good_attributes [] m names few g = g
good_attributes (a ∷ attrs) m names few g =
    good_attributes attrs (with_attribute m a.name) names.1 (few_more m a attrs few) (good_attribute m a.name g names.0 (few_here m a attrs few))

pub attributes_length : (attrs : List Attribute) (m : List Binding) → length (with_attributes m attrs) ≤ length m + length attrs
unfolding with_attributes
attributes_length [] m = omega arith
attributes_length (a ∷ attrs) m =
    let rest : length (with_attributes (with_attribute m a.name) attrs) ≤ length (with_attribute m a.name) + length attrs =
    attributes_length attrs (with_attribute m a.name) in
    let one : length (with_attribute m a.name) ≤ length m + 1 = attribute_length m a.name in
    omega (arith, rest, one)

-- ---- those that are declared
all_filtered : (P : Binding → Type 0) (test : Binding → Bool) (m : List Binding) → AllByRecursion P m → AllByRecursion P (filter test m)
all_filtered P test [] all = tt
all_filtered P test (e ∷ es) all = by_test (test e) (all_filtered P test es all.1)
  where
    by_test : (t : Bool) → AllByRecursion P (filter test es) → AllByRecursion P (cond t (e ∷ filter test es) (filter test es))
    by_test true rest = (all.0, rest)
    by_test false rest = rest

apart_filtered : (test : Binding → Bool) (m : List Binding) → AreApart m → AreApart (filter test m)
apart_filtered test [] apart = tt
apart_filtered test (e ∷ es) apart = by_test (test e) (apart_filtered test es apart.1)
  where
    by_test : (t : Bool) → AreApart (filter test es) → AreApart (cond t (e ∷ filter test es) (filter test es))
    by_test true rest = (all_filtered (λ (x : Binding). x.0 ≡ e.0 → ⊥) test es apart.0, rest)
    by_test false rest = rest

pub good_declared : (around m : List Binding) → IsGoodTag m → IsGoodTag (declared around m)
unfolding declared
good_declared around m g = record { allowed = all_filtered MayBind (is_new around) m g.allowed; apart = apart_filtered (is_new around) m g.apart }
