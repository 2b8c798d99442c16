-- The names of a start tag resolve to the namespaces that they were put with.
use Rattle.std.proofs.Common.{◌≡◌, ℕ, zero, suc, ◌+◌, ◌<◌, ◌≤◌, ◌^◌, Bool, true, false, if◌then◌else◌, List, [], ◌∷◌, ◌++◌, Option, None, Some, arith, below_more, cond, length, refl, sym, ◌∙◌, ap, subst, unwrap_or}
use Rattle.std.specs.Prelude.{◌&&◌, filter, is_some, not}
use Rattle.std.specs.BTreeMap.{insert_entry, is_at}
use Rattle.std.specs.Fmt.{decimal}
use Rattle.std.specs.Ordering.{is_eq, match_ordering, ordering_reverse}
use Rattle.std.specs.Str.{bytes_eq}
use Rattle.std.specs.declared.cmp.Ordering.{Ordering}
use Rattle.std.specs.declared.cmp.Ordering.TheVariants.{Less, Equal, Greater}
use Rattle.std.proofs.lemmas.Bool.{and_parts}
use Rattle.std.proofs.lemmas.Cmp.{nat_list_cmp_total}
use Rattle.std.proofs.lemmas.Fmt.{decimal_injective}
use Rattle.std.proofs.lemmas.Slice.Eq.{bytes_eq-Decides}
use Rattle.xs_result.specs.Built.{is_empty}
use Rattle.xs_trace.specs.Label.{Label}
use Rattle.xs_result_lines.specs.Bindings.{Attribute, Binding, added, attribute_prefix, attributes_in, bindings, bindings_before, binds, chosen_prefix, declared, first_new}
use Rattle.xs_result_lines.specs.Bindings.{is_new, keeps_prefix, needs_prefix, new_from, new_prefix, order_of_prefixes, own_binding, prefix_for, spaces_in, uri_in}
use Rattle.xs_result_lines.specs.Bindings.{with_attribute, with_attributes, with_spaces}
use Rattle.xs_result_lines.specs.Laws.{AttributesResolve, NamesResolve, resolved}
use Rattle.xs_result_lines.proofs.OrderLemmas.{at_itself, same_at, uri_in-first}
use Rattle.xs_result_lines.proofs.TableLemmas.{AllAfter, Rises, after_twice}

same : (a b : List ℕ) → bytes_eq a b ≡ true → a ≡ b
same a b h = (bytes_eq-Decides a b).0 h

-- ---- a binding more
apart : (k e q : List ℕ) → order_of_prefixes k e ≡ Greater → is_at (order_of_prefixes e) q ≡ true → is_at (order_of_prefixes k) q ≡ true → ⊥
apart k e q is a b =
    let one : k ≡ e = same_at k q b ∙ sym (same_at e q a) in
    let there : is_eq (order_of_prefixes k e) ≡ true = ap (is_at (order_of_prefixes k)) (sym one) ∙ at_itself k in
    let no_bool : true ≡ false = sym there ∙ ap is_eq is in
    cc

swapped : (a b : Bool) (x y z : Option (List ℕ)) → (a ≡ true → b ≡ true → ⊥) → cond a x (cond b y z) ≡ cond b y (cond a x z)
swapped true true x y z h = absurd (h refl refl)
swapped true false x y z h = refl
swapped false b x y z h = refl

replaced : (t : Bool) (v old rest : Option (List ℕ)) → cond t v rest ≡ cond t v (cond t old rest)
replaced true v old rest = refl
replaced false v old rest = refl

equal_is : (o : Ordering) → o ≡ Equal → is_eq o ≡ true
equal_is Less h = absurd (cc)
equal_is Equal h = refl
equal_is Greater h = absurd (cc)

uri_in-inserted : (m : List Binding) (k v q : List ℕ) → uri_in (insert_entry order_of_prefixes m k v) q
    ≡ cond (is_at (order_of_prefixes k) q) (Some v) (uri_in m q)
uri_in-inserted [] k v q = uri_in-first (k, v) [] q
uri_in-inserted (e ∷ es) k v q = by_order (order_of_prefixes k e.0) refl (uri_in-inserted es k v q)
  where
    by_order : (o : Ordering) → order_of_prefixes k e.0 ≡ o
        → uri_in (insert_entry order_of_prefixes es k v) q ≡ cond (is_at (order_of_prefixes k) q) (Some v) (uri_in es q)
        → uri_in (match_ordering o ((k, v) ∷ e ∷ es) ((e.0, v) ∷ es) (e ∷ insert_entry order_of_prefixes es k v)) q
        ≡ cond (is_at (order_of_prefixes k) q) (Some v) (uri_in (e ∷ es) q)
    by_order Less is h = uri_in-first (k, v) (e ∷ es) q
    by_order Equal is h =
        let one : k ≡ e.0 = same_at k e.0 (equal_is (order_of_prefixes k e.0) is) in
        uri_in-first (e.0, v) es q ∙ replaced (is_at (order_of_prefixes e.0) q) (Some v) (Some e.1) (uri_in es q)
        ∙ ap (cond (is_at (order_of_prefixes e.0) q) (Some v)) (sym (uri_in-first e es q))
        ∙ ap (λ x. cond (is_at (order_of_prefixes x) q) (Some v) (uri_in (e ∷ es) q)) (sym one)
    by_order Greater is h =
        uri_in-first e (insert_entry order_of_prefixes es k v) q ∙ ap (cond (is_at (order_of_prefixes e.0) q) (Some e.1)) h
        ∙ swapped (is_at (order_of_prefixes e.0) q) (is_at (order_of_prefixes k) q) (Some e.1) (Some v) (uri_in es q) (apart k e.0 q is)
        ∙ ap (cond (is_at (order_of_prefixes k) q) (Some v)) (sym (uri_in-first e es q))

-- what is bound stays bound to its URI
added-keeps : (m : List Binding) (b : Binding) (q uri : List ℕ) → uri_in m q ≡ Some uri → uri_in (added m b) q ≡ Some uri
added-keeps m b q uri h = by_test (binds m b.0) refl
  where
    by_place : binds m b.0 ≡ false → (t : Bool) → is_at (order_of_prefixes b.0) q ≡ t → cond t (Some b.1) (uri_in m q) ≡ Some uri
    by_place free true at =
        let bound : binds m b.0 ≡ true = ap (λ x. is_some (uri_in m x)) (same_at b.0 q at) ∙ ap is_some h in
        let no_bool : true ≡ false = sym bound ∙ free in
        absurd (cc)
    by_place free false at = h

    by_test : (t : Bool) → binds m b.0 ≡ t → uri_in (if t then m else insert_entry order_of_prefixes m b.0 b.1) q ≡ Some uri
    by_test true bound = h
    by_test false free = uri_in-inserted m b.0 b.1 q ∙ by_place free (is_at (order_of_prefixes b.0) q) refl

-- and a prefix that was free is bound to the new one
added-binds : (m : List Binding) (p uri : List ℕ) → binds m p ≡ false → uri_in (added m (p, uri)) p ≡ Some uri
added-binds m p uri free =
    ap (λ t. uri_in (if t then m else insert_entry order_of_prefixes m p uri) p) free ∙ uri_in-inserted m p uri p
    ∙ ap (λ t. cond t (Some uri) (uri_in m p)) (at_itself p)

spaces-keep : (bs m : List Binding) (q uri : List ℕ) → uri_in m q ≡ Some uri → uri_in (with_spaces m bs) q ≡ Some uri
unfolding with_spaces
spaces-keep [] m q uri h = h
spaces-keep (b ∷ bs) m q uri h = spaces-keep bs (added m b) q uri (added-keeps m b q uri h)

attribute-keeps : (m : List Binding) (name : Label) (q uri : List ℕ) → uri_in m q ≡ Some uri → uri_in (with_attribute m name) q ≡ Some uri
unfolding with_attribute
attribute-keeps m name q uri h = by_test (needs_prefix name)
  where
    by_test : (t : Bool) → uri_in (if t then added m (chosen_prefix m name, name.uri) else m) q ≡ Some uri
    by_test true = added-keeps m (chosen_prefix m name, name.uri) q uri h
    by_test false = h

attributes-keep : (more : List Attribute) (m : List Binding) (q uri : List ℕ) → uri_in m q ≡ Some uri → uri_in (with_attributes m more) q ≡ Some uri
unfolding with_attributes
attributes-keep [] m q uri h = h
attributes-keep (a ∷ more) m q uri h = attributes-keep more (with_attribute m a.name) q uri (attribute-keeps m a.name q uri h)

-- ---- the prefixes rise
inserted-after : (p k v : List ℕ) (m : List Binding) → order_of_prefixes p k ≡ Less → AllAfter p m → AllAfter p (insert_entry order_of_prefixes m k v)
inserted-after p k v [] less h = (less, tt)
inserted-after p k v (e ∷ es) less h = by_order (order_of_prefixes k e.0) (inserted-after p k v es less h.1)
  where
    by_order : (o : Ordering) → AllAfter p (insert_entry order_of_prefixes es k v)
        → AllAfter p (match_ordering o ((k, v) ∷ e ∷ es) ((e.0, v) ∷ es) (e ∷ insert_entry order_of_prefixes es k v))
    by_order Less rest = (less, h)
    by_order Equal rest = (h.0, h.1)
    by_order Greater rest = (h.0, rest)

turned : (a b : List ℕ) → order_of_prefixes a b ≡ Greater → order_of_prefixes b a ≡ Less
turned a b is = nat_list_cmp_total.antisymm b a ∙ ap ordering_reverse is

inserted-rises : (k v : List ℕ) (m : List Binding) → Rises m → Rises (insert_entry order_of_prefixes m k v)
inserted-rises k v [] h = (tt, tt)
inserted-rises k v (e ∷ es) h = by_order (order_of_prefixes k e.0) refl (inserted-rises k v es h.1)
  where
    by_order : (o : Ordering) → order_of_prefixes k e.0 ≡ o → Rises (insert_entry order_of_prefixes es k v)
        → Rises (match_ordering o ((k, v) ∷ e ∷ es) ((e.0, v) ∷ es) (e ∷ insert_entry order_of_prefixes es k v))
    by_order Less is rest = ((is, after_twice k e es is h.0), h)
    by_order Equal is rest = h
    by_order Greater is rest = (inserted-after e.0 k v es (turned k e.0 is) h.0, rest)

added-rises : (m : List Binding) (b : Binding) → Rises m → Rises (added m b)
added-rises m b h = by_test (binds m b.0)
  where
    by_test : (t : Bool) → Rises (if t then m else insert_entry order_of_prefixes m b.0 b.1)
    by_test true = h
    by_test false = inserted-rises b.0 b.1 m h

spaces-rise : (bs m : List Binding) → Rises m → Rises (with_spaces m bs)
unfolding with_spaces
spaces-rise [] m h = h
spaces-rise (b ∷ bs) m h = spaces-rise bs (added m b) (added-rises m b h)

attribute-rises : (m : List Binding) (name : Label) → Rises m → Rises (with_attribute m name)
unfolding with_attribute
attribute-rises m name h = by_test (needs_prefix name)
  where
    by_test : (t : Bool) → Rises (if t then added m (chosen_prefix m name, name.uri) else m)
    by_test true = added-rises m (chosen_prefix m name, name.uri) h
    by_test false = h

attributes-rise : (more : List Attribute) (m : List Binding) → Rises m → Rises (with_attributes m more)
unfolding with_attributes
attributes-rise [] m h = h
attributes-rise (a ∷ more) m h = attributes-rise more (with_attribute m a.name) (attribute-rises m a.name h)

-- ---- a new prefix is free: there are as many bindings as new prefixes among them
-- the bindings except the first of a prefix
without : List ℕ → List Binding → List Binding
without p [] = []
without p (e ∷ es) = cond (is_at (order_of_prefixes e.0) p) es (e ∷ without p es)

uri_in-without : (p q : List ℕ) (m : List Binding) → (p ≡ q → ⊥) → uri_in (without p m) q ≡ uri_in m q
unfolding without
uri_in-without p q [] other = refl
uri_in-without p q (e ∷ es) other = by_place (is_at (order_of_prefixes e.0) p) refl (uri_in-without p q es other)
  where
    past : (t : Bool) → is_at (order_of_prefixes e.0) q ≡ t → is_at (order_of_prefixes e.0) p ≡ true → uri_in es q ≡ cond t (Some e.1) (uri_in es q)
    past true there at = absurd (other (sym (same_at e.0 p at) ∙ same_at e.0 q there))
    past false there at = refl

    by_place : (t : Bool) → is_at (order_of_prefixes e.0) p ≡ t → uri_in (without p es) q ≡ uri_in es q
        → uri_in (cond t es (e ∷ without p es)) q ≡ uri_in (e ∷ es) q
    by_place true at h = past (is_at (order_of_prefixes e.0) q) refl at ∙ sym (uri_in-first e es q)
    by_place false at h =
        uri_in-first e (without p es) q ∙ ap (cond (is_at (order_of_prefixes e.0) q) (Some e.1)) h ∙ sym (uri_in-first e es q)

length-without : (p : List ℕ) (m : List Binding) → binds m p ≡ true → length m ≡ suc (length (without p m))
unfolding without uri_in
length-without p [] h = absurd (cc)
length-without p (e ∷ es) h = by_place (is_at (order_of_prefixes e.0) p) (λ g. length-without p es g) (ap is_some (sym (uri_in-first e es p)) ∙ h)
  where
    by_place : (t : Bool) → (binds es p ≡ true → length es ≡ suc (length (without p es))) → is_some (cond t (Some e.1) (uri_in es p)) ≡ true
        → length (e ∷ es) ≡ suc (length (cond t es (e ∷ without p es)))
    by_place true more g = refl
    by_place false more g = ap suc (more g)

number_of : (j k : ℕ) → j < 2 ^ 64 → k < 2 ^ 64 → new_prefix j ≡ new_prefix k → j ≡ k
number_of j k a b h = let digits_are : decimal j ≡ decimal k = cc in decimal_injective j k a b digits_are

as_many : (n : ℕ) (m : List Binding) → n ≤ 2 ^ 64 → ((j : ℕ) → j < n → binds m (new_prefix j) ≡ true) → n ≤ length m
as_many zero m small h = omega arith
as_many (suc n) m small h =
    let here : length m ≡ suc (length (without (new_prefix n) m)) = length-without (new_prefix n) m (h n (omega arith)) in
    let others : n ≤ length (without (new_prefix n) m) = as_many n (without (new_prefix n) m) (omega (arith, small)) (λ j less.
    ap is_some (uri_in-without (new_prefix n) (new_prefix j) m (λ is. (
    let e : n ≡ j = number_of n j (omega (arith, small)) (omega (arith, small, less)) is in omega (arith, e, less)
    ))) ∙ h j (omega (arith, less))) in
    omega (arith, here, others)

free_from : (tries : ℕ) (m : List Binding) (k : ℕ) → length m < 2 ^ 64 → k + tries ≡ length m → ((j : ℕ) → j < k → binds m (new_prefix j) ≡ true)
    → binds m (new_from tries m k) ≡ false
unfolding new_from
free_from zero m k small count there = by_test (binds m (new_prefix k)) refl
  where
    by_test : (t : Bool) → binds m (new_prefix k) ≡ t → t ≡ false
    by_test true at =
        absurd (
        let many : k + 1 ≤ length m = as_many (k + 1) m (omega (arith, small, count)) (below_more (λ j. binds m (new_prefix j) ≡ true) k there at) in
        omega (arith, many, count)
        )
    by_test false at = refl
free_from (suc tries) m k small count there =
    by_test (binds m (new_prefix k)) refl
    (λ at. free_from tries m (k + 1) small (omega (arith, count)) (below_more (λ j. binds m (new_prefix j) ≡ true) k there at))
  where
    by_test : (t : Bool) → binds m (new_prefix k) ≡ t → (binds m (new_prefix k) ≡ true → binds m (new_from tries m (k + 1)) ≡ false)
        → binds m (if t then new_from tries m (k + 1) else new_prefix k) ≡ false
    by_test true at more = more at
    by_test false at more = at

first_new-free : (m : List Binding) → length m < 2 ^ 64 → binds m (first_new m) ≡ false
first_new-free m small = free_from (length m) m 0 small (omega arith) (λ j less. absurd (omega (arith, less)))

full_new : (tries : ℕ) (m : List Binding) (k : ℕ) → is_empty (new_from tries m k) ≡ false
unfolding new_from
full_new zero m k = refl
full_new (suc tries) m k = by_test (binds m (new_prefix k)) (full_new tries m (k + 1))
  where
    by_test : (t : Bool) → is_empty (new_from tries m (k + 1)) ≡ false → is_empty (if t then new_from tries m (k + 1) else new_prefix k) ≡ false
    by_test true h = h
    by_test false h = refl

-- ---- the prefix of an attribute is bound to its URI
not_false : (t : Bool) → not t ≡ true → t ≡ false
not_false true h = absurd (cc)
not_false false h = refl

not_new : (t : Bool) → not t ≡ false → t ≡ true
not_new true h = refl
not_new false h = absurd (cc)

record IsBoundTo (m : List Binding) (prefix uri : List ℕ) : Type 0 where
  bound : uri_in m prefix ≡ Some uri
  full : is_empty prefix ≡ false

-- a prefix that is found for a URI comes after the prefixes before it
found-after : (p uri q : List ℕ) (m : List Binding) → AllAfter p m → prefix_for m uri ≡ Some q → order_of_prefixes p q ≡ Less
unfolding prefix_for
found-after p uri q [] all h = absurd (cc)
found-after p uri q (b ∷ bs) all h = by_test (not (is_empty b.0) && bytes_eq b.1 uri) h (λ g. found-after p uri q bs all.1 g)
  where
    by_test : (t : Bool) → (if t then Some b.0 else prefix_for bs uri) ≡ Some q → (prefix_for bs uri ≡ Some q → order_of_prefixes p q ≡ Less)
        → order_of_prefixes p q ≡ Less
    by_test true g more = let is : b.0 ≡ q = cc in ap (order_of_prefixes p) (sym is) ∙ all.0
    by_test false g more = more g

less_not : (o : Ordering) → o ≡ Less → is_eq o ≡ false
less_not Less h = refl
less_not Equal h = absurd (cc)
less_not Greater h = absurd (cc)

prefix_for-bound : (m : List Binding) (uri q : List ℕ) → Rises m → prefix_for m uri ≡ Some q → IsBoundTo m q uri
unfolding prefix_for
prefix_for-bound [] uri q rises h = absurd (cc)
prefix_for-bound (b ∷ bs) uri q rises h =
    by_test (not (is_empty b.0) && bytes_eq b.1 uri) refl h (λ g. prefix_for-bound bs uri q rises.1 g)
  where
    by_test : (t : Bool) → (not (is_empty b.0) && bytes_eq b.1 uri) ≡ t → (if t then Some b.0 else prefix_for bs uri) ≡ Some q
        → (prefix_for bs uri ≡ Some q → IsBoundTo bs q uri) → IsBoundTo (b ∷ bs) q uri
    by_test true at g more =
        let is : b.0 ≡ q = cc in
        let parts = and_parts (not (is_empty b.0)) (bytes_eq b.1 uri) at in
        record {
          bound =
              uri_in-first b bs q ∙ ap (λ x. cond (is_at (order_of_prefixes b.0) x) (Some b.1) (uri_in bs q)) (sym is)
              ∙ ap (λ t. cond t (Some b.1) (uri_in bs q)) (at_itself b.0) ∙ ap Some (same b.1 uri parts.1);
          full = ap is_empty (sym is) ∙ not_false (is_empty b.0) parts.0;
        }
    by_test false at g more =
        let there = more g in
        record {
          bound =
              uri_in-first b bs q
              ∙ ap (λ t. cond t (Some b.1) (uri_in bs q)) (less_not (order_of_prefixes b.0 q) (found-after b.0 uri q bs rises.0 g)) ∙ there.bound;
          full = there.full;
        }

-- the prefix that it keeps is free, or bound to its URI
kept-bound : (m : List Binding) (name : Label) → keeps_prefix m name ≡ true → IsBoundTo (added m (name.prefix, name.uri)) name.prefix name.uri
kept-bound m name keeps =
    let parts = and_parts (not (is_empty name.prefix)) (bytes_eq (unwrap_or (uri_in m name.prefix) name.uri) name.uri) keeps in
    record { bound = by_uri (uri_in m name.prefix) refl parts.1; full = not_false (is_empty name.prefix) parts.0 }
  where
    by_uri : (o : Option (List ℕ)) → uri_in m name.prefix ≡ o → bytes_eq (unwrap_or o name.uri) name.uri ≡ true
        → uri_in (added m (name.prefix, name.uri)) name.prefix ≡ Some name.uri
    by_uri None is h = added-binds m name.prefix name.uri (ap is_some is)
    by_uri (Some uri) is h = added-keeps m (name.prefix, name.uri) name.prefix name.uri (is ∙ ap Some (same uri name.uri h))

chosen-bound : (m : List Binding) (name : Label) → Rises m → length m < 2 ^ 64
    → IsBoundTo (added m (chosen_prefix m name, name.uri)) (chosen_prefix m name) name.uri
chosen-bound m name rises small = by_test (keeps_prefix m name) refl
  where
    by_found : (o : Option (List ℕ)) → prefix_for m name.uri ≡ o
        → IsBoundTo (added m (unwrap_or o (first_new m), name.uri)) (unwrap_or o (first_new m)) name.uri
    by_found None is = record { bound = added-binds m (first_new m) name.uri (first_new-free m small); full = full_new (length m) m 0 }
    by_found (Some q) is =
        let there = prefix_for-bound m name.uri q rises is in
        record { bound = added-keeps m (q, name.uri) q name.uri there.bound; full = there.full }

    by_test : (t : Bool) → keeps_prefix m name ≡ t
        → IsBoundTo (added m ((if t then name.prefix else unwrap_or (prefix_for m name.uri) (first_new m)), name.uri))
        (if t then name.prefix else unwrap_or (prefix_for m name.uri) (first_new m)) name.uri
    by_test true keeps = kept-bound m name keeps
    by_test false keeps = by_found (prefix_for m name.uri) refl

attribute-bound : (m : List Binding) (name : Label) → Rises m → length m < 2 ^ 64 → needs_prefix name ≡ true
    → IsBoundTo (with_attribute m name) (attribute_prefix m name) name.uri
unfolding with_attribute attribute_prefix
attribute-bound m name rises small needs = rw needs (chosen-bound m name rises small)

-- ---- what is bound is declared, or in force
skipped : (p : List ℕ) (m around : List Binding) → AllAfter p m → uri_in (filter (is_new around) m ++ around) p ≡ uri_in around p
skipped p [] around all = refl
skipped p (b ∷ bs) around all = by_test (is_new around b) (skipped p bs around all.1)
  where
    at_not : is_at (order_of_prefixes b.0) p ≡ false
    at_not = ap is_eq (nat_list_cmp_total.antisymm b.0 p ∙ ap ordering_reverse all.0)

    by_test : (t : Bool) → uri_in (filter (is_new around) bs ++ around) p ≡ uri_in around p
        → uri_in (cond t (b ∷ filter (is_new around) bs) (filter (is_new around) bs) ++ around) p ≡ uri_in around p
    by_test true h =
        uri_in-first b (filter (is_new around) bs ++ around) p
        ∙ ap (λ t. cond t (Some b.1) (uri_in (filter (is_new around) bs ++ around) p)) at_not ∙ h
    by_test false h = h

resolved-declared : (m around : List Binding) (p uri : List ℕ) → Rises m → uri_in m p ≡ Some uri → resolved (filter (is_new around) m ++ around) p ≡ uri
unfolding uri_in
resolved-declared [] around p uri rises h = absurd (cc)
resolved-declared (b ∷ bs) around p uri rises h =
    by_place (is_at (order_of_prefixes b.0) p) refl (is_new around b) refl (λ g. resolved-declared bs around p uri rises.1 g)
  where
    by_place : (t : Bool) → is_at (order_of_prefixes b.0) p ≡ t → (n : Bool) → is_new around b ≡ n
        → (uri_in bs p ≡ Some uri → resolved (filter (is_new around) bs ++ around) p ≡ uri)
        → resolved (cond n (b ∷ filter (is_new around) bs) (filter (is_new around) bs) ++ around) p ≡ uri
    by_place true at true new more =
        let is : b.1 ≡ uri = (let both : Some b.1 ≡ Some uri = sym (uri_in-first b bs p ∙ ap (λ t. cond t (Some b.1) (uri_in bs p)) at) ∙ h in cc) in
        ap (λ o. unwrap_or o [])
        (uri_in-first b (filter (is_new around) bs ++ around) p
        ∙ ap (λ t. cond t (Some b.1) (uri_in (filter (is_new around) bs ++ around) p)) at) ∙ is
    by_place true at false new more =
        let is : b.1 ≡ uri = (let both : Some b.1 ≡ Some uri = sym (uri_in-first b bs p ∙ ap (λ t. cond t (Some b.1) (uri_in bs p)) at) ∙ h in cc) in
        let one : b.0 ≡ p = same_at b.0 p at in
        let in_force : bytes_eq (unwrap_or (uri_in around b.0) []) b.1 ≡ true = not_new (bytes_eq (unwrap_or (uri_in around b.0) []) b.1) new in
        ap (λ o. unwrap_or o []) (skipped p bs around (subst (λ x. AllAfter x bs) one rises.0))
        ∙ ap (λ x. unwrap_or (uri_in around x) []) (sym one) ∙ same (unwrap_or (uri_in around b.0) []) b.1 in_force ∙ is
    by_place false at true new more =
        ap (λ o. unwrap_or o [])
        (uri_in-first b (filter (is_new around) bs ++ around) p
        ∙ ap (λ t. cond t (Some b.1) (uri_in (filter (is_new around) bs ++ around) p)) at)
        ∙ more (sym (uri_in-first b bs p ∙ ap (λ t. cond t (Some b.1) (uri_in bs p)) at) ∙ h)
    by_place false at false new more = more (sym (uri_in-first b bs p ∙ ap (λ t. cond t (Some b.1) (uri_in bs p)) at) ∙ h)

-- ---- all names of a start tag
inserted-longer : (m : List Binding) (k v : List ℕ) → length m ≤ length (insert_entry order_of_prefixes m k v)
inserted-longer [] k v = omega arith
inserted-longer (e ∷ es) k v = by_order (order_of_prefixes k e.0) (inserted-longer es k v)
  where
    by_order : (o : Ordering) → length es ≤ length (insert_entry order_of_prefixes es k v)
        → length (e ∷ es) ≤ length (match_ordering o ((k, v) ∷ e ∷ es) ((e.0, v) ∷ es) (e ∷ insert_entry order_of_prefixes es k v))
    by_order Less h = omega arith
    by_order Equal h = omega arith
    by_order Greater h = omega (arith, h)

added-longer : (m : List Binding) (b : Binding) → length m ≤ length (added m b)
added-longer m b = by_test (binds m b.0)
  where
    by_test : (t : Bool) → length m ≤ length (if t then m else insert_entry order_of_prefixes m b.0 b.1)
    by_test true = omega arith
    by_test false = inserted-longer m b.0 b.1

attribute-longer : (m : List Binding) (name : Label) → length m ≤ length (with_attribute m name)
unfolding with_attribute
attribute-longer m name = by_test (needs_prefix name)
  where
    by_test : (t : Bool) → length m ≤ length (if t then added m (chosen_prefix m name, name.uri) else m)
    by_test true = added-longer m (chosen_prefix m name, name.uri)
    by_test false = omega arith

attributes-longer : (more : List Attribute) (m : List Binding) → length m ≤ length (with_attributes m more)
unfolding with_attributes
attributes-longer [] m = omega arith
attributes-longer (a ∷ more) m = omega (arith, attribute-longer m a.name, attributes-longer more (with_attribute m a.name))

-- the bindings at the end say of a prefix what those after its attribute say
attributes-resolve : (around whole : List Binding) (more : List Attribute) (m : List Binding) → Rises m → Rises whole → length whole < 2 ^ 64
    → whole ≡ with_attributes m more → AttributesResolve (filter (is_new around) whole ++ around) m more
unfolding with_attributes
attributes-resolve around whole [] m rises all small is = tt
attributes-resolve around whole (a ∷ more) m rises all small is = (
  λ needs. here needs,
  attributes-resolve around whole more (with_attribute m a.name) (attribute-rises m a.name rises) all small is,
)
  where
    longer : length m ≤ length whole
    longer =
        omega (arith, attribute-longer m a.name, attributes-longer more (with_attribute m a.name), ap length is)

    here : needs_prefix a.name ≡ true
        → (resolved (filter (is_new around) whole ++ around) (attribute_prefix m a.name) ≡ a.name.uri) × (is_empty (attribute_prefix m a.name) ≡ false)
    here needs =
        let there = attribute-bound m a.name rises (omega (arith, longer, small)) needs in (
          resolved-declared whole around (attribute_prefix m a.name) a.name.uri all
              (ap (λ w. uri_in w (attribute_prefix m a.name)) is
              ∙ attributes-keep more (with_attribute m a.name) (attribute_prefix m a.name) a.name.uri there.bound),
          there.full,
        )

own-bound : (name : Label) → uri_in (own_binding name) name.prefix ≡ Some name.uri
own-bound name = uri_in-first (name.prefix, name.uri) [] name.prefix ∙ ap (λ t. cond t (Some name.uri) (uri_in [] name.prefix)) (at_itself name.prefix)

pub names_resolve : NamesResolve
unfolding bindings bindings_before declared
names_resolve around name es small =
    let before : List Binding = bindings_before name es in
    let whole : List Binding = bindings name es in
    let rises : Rises before = spaces-rise (spaces_in es) (own_binding name) (tt, tt) in
    let all : Rises whole = attributes-rise (attributes_in es) before rises in
    record {
      element =
          resolved-declared whole around name.prefix name.uri all
          (attributes-keep (attributes_in es) before name.prefix name.uri
          (spaces-keep (spaces_in es) (own_binding name) name.prefix name.uri (own-bound name)));
      attributes = attributes-resolve around whole (attributes_in es) before rises all small refl;
    }
