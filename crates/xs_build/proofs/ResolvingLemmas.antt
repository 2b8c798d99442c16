-- A prefix represents what the innermost open element that declares it says.
use Rattle.std.proofs.Common.{◌≡◌, ℕ, zero, suc, List, [], ◌∷◌, ◌++◌, Option, None, Some, Bool, true, false, if◌then◌else◌, refl, sym, ◌∙◌, ap, subst, cond}
use Rattle.std.specs.BTreeMap.{insert_entry, is_at}
use Rattle.std.specs.List.{AllByRecursion}
use Rattle.std.specs.Map.{lookup, remove_entry}
use Rattle.std.specs.Ordering.{is_eq, match_ordering, ordering_reverse}
use Rattle.std.specs.Str.{bytes_eq}
use Rattle.std.specs.declared.cmp.Ordering.{Ordering}
use Rattle.std.specs.declared.cmp.Ordering.TheVariants.{Less, Equal, Greater}
use Rattle.std.proofs.lemmas.Cmp.{nat_list_cmp_total}
use Rattle.std.proofs.lemmas.Map.Lookups.{exact_bytes}
use Rattle.std.proofs.lemmas.Slice.Eq.{bytes_eq-Decides}
use Rattle.xs_pyx.specs.Row.{Row}
use Rattle.xs_tree.specs.Names.{order_of_texts}
use Rattle.xs_build.specs.DocumentLaws.{NamesResolve, declarations_in, declared_uri}
use Rattle.xs_build.specs.DocumentTree.{may_be_bound}
use Rattle.xs_build.specs.LineContext.{Nesting, starts, ends, neither, nesting, going_back, scope_in}
use Rattle.xs_build.specs.Namespaces.{Binding, Bindings, is_empty, uri_in, bound, scope_with}
use Rattle.xs_build.specs.Start.{declarations}
use Rattle.xs_build.proofs.WellFormedLemmas.ScopeLemmas.{IsAllowed, IsScope, Rising, same_at, scope_kept, outermost_scope, declarations_allowed}

-- the order of texts and their bytes
self_equal : (o : Ordering) → o ≡ ordering_reverse o → is_eq o ≡ true
self_equal Less h = absurd (cc)
self_equal Equal h = refl
self_equal Greater h = absurd (cc)

at_self : (q : List ℕ) → is_at (order_of_texts q) q ≡ true
at_self q = self_equal (order_of_texts q q) (nat_list_cmp_total.antisymm q q)

same_test : (a b : Bool) → (a ≡ true → b ≡ true) → (b ≡ true → a ≡ true) → a ≡ b
same_test true b f g = sym (f refl)
same_test false true f g = g refl
same_test false false f g = refl

key_test : (q k : List ℕ) → is_at (order_of_texts q) k ≡ bytes_eq k q
key_test q k =
    same_test (is_at (order_of_texts q) k) (bytes_eq k q) (λ t. (bytes_eq-Decides k q).1 (sym (same_at q k t)))
    (λ t. subst (λ x. is_at (order_of_texts q) x ≡ true) (sym ((bytes_eq-Decides k q).0 t)) (at_self q))

-- what a prefix is bound to, by its bytes
abbrev found : List ℕ → Bindings → Option (List ℕ)
found q [] = None
found q (e ∷ es) = cond (bytes_eq e.0 q) (Some e.1) (found q es)

found_is : (q : List ℕ) (scope : Bindings) → uri_in scope q ≡ found q scope
unfolding uri_in
found_is q [] = refl
found_is q (e ∷ es) = ap (λ b. cond b (Some e.1) (lookup (is_at (order_of_texts q)) es)) (key_test q e.0)
    ∙ ap (cond (bytes_eq e.0 q) (Some e.1)) (found_is q es)

-- one more binding
swapped : (a b : Bool) (x y z : Option (List ℕ)) → (a ≡ true → b ≡ true → ⊥) → cond a x (cond b y z) ≡ cond b y (cond a x z)
swapped true true x y z h = absurd (h refl refl)
swapped true false x y z h = refl
swapped false b x y z h = refl

kept_once : (b : Bool) (v old : Option (List ℕ)) (rest : Option (List ℕ)) → cond b v rest ≡ cond b v (cond b old rest)
kept_once true v old rest = refl
kept_once false v old rest = refl

apart : (k e q : List ℕ) → order_of_texts k e ≡ Greater → bytes_eq e q ≡ true → bytes_eq k q ≡ true → ⊥
apart k e q is a b =
    let same : k ≡ e = (bytes_eq-Decides k q).0 b ∙ sym ((bytes_eq-Decides e q).0 a) in
    let equal : is_eq (order_of_texts k e) ≡ true = subst (λ x. is_eq (order_of_texts k x) ≡ true) same (at_self k) in
    let bad : false ≡ true = sym (ap is_eq is) ∙ equal in
    cc

found_inserted : (q : List ℕ) (es : Bindings) (k v : List ℕ) → found q (insert_entry order_of_texts es k v) ≡ cond (bytes_eq k q) (Some v) (found q es)
found_inserted q [] k v = refl
found_inserted q (e ∷ es) k v = by (order_of_texts k e.0) refl (found_inserted q es k v)
  where
    by : (r : Ordering) → order_of_texts k e.0 ≡ r → found q (insert_entry order_of_texts es k v) ≡ cond (bytes_eq k q) (Some v) (found q es) →
        found q (match_ordering r ((k, v) ∷ e ∷ es) ((e.0, v) ∷ es) (e ∷ insert_entry order_of_texts es k v)) ≡ cond (bytes_eq k q) (Some v)
        (cond (bytes_eq e.0 q) (Some e.1) (found q es))
    by Less is h = refl
    by Equal is h =
        kept_once (bytes_eq e.0 q) (Some v) (Some e.1) (found q es)
        ∙ ap (λ x. cond (bytes_eq x q) (Some v) (cond (bytes_eq e.0 q) (Some e.1) (found q es))) (sym (exact_bytes k e.0 is))
    by Greater is h = ap (cond (bytes_eq e.0 q) (Some e.1)) h ∙ swapped (bytes_eq e.0 q) (bytes_eq k q) (Some e.1) (Some v) (found q es) (apart k e.0 q is)

-- one binding less
none_after : (k : List ℕ) (es : Bindings) → AllByRecursion (λ (e : Binding). order_of_texts k e.0 ≡ Less) es → found k es ≡ None
none_after k [] a = refl
none_after k (e ∷ es) a = by (bytes_eq e.0 k) refl (none_after k es a.1)
  where
    by : (b : Bool) → bytes_eq e.0 k ≡ b → found k es ≡ None → cond b (Some e.1) (found k es) ≡ None
    by true is h =
        let equal : is_eq (order_of_texts k e.0) ≡ true = subst (λ x. is_eq (order_of_texts k x) ≡ true) (sym ((bytes_eq-Decides e.0 k).0 is)) (at_self k) in
        let bad : false ≡ true = sym (ap is_eq a.0) ∙ equal in
        cc
    by false is h = h

none_left : (b : Bool) (o : Option (List ℕ)) → o ≡ None → cond b None o ≡ None
none_left true o h = refl
none_left false o h = h

found_removed : (q p : List ℕ) (es : Bindings) → Rising es → found q (remove_entry (is_at (order_of_texts p)) es) ≡ cond (bytes_eq p q) None (found q es)
found_removed q p [] r = sym (none_left (bytes_eq p q) None refl)
found_removed q p (e ∷ es) r = by (is_at (order_of_texts p) e.0) refl (bytes_eq p q) refl (found_removed q p es r.1)
  where
    by : (t : Bool) → is_at (order_of_texts p) e.0 ≡ t → (b : Bool) → bytes_eq p q ≡ b
        → found q (remove_entry (is_at (order_of_texts p)) es) ≡ cond (bytes_eq p q) None (found q es) →
        found q (cond t es (e ∷ remove_entry (is_at (order_of_texts p)) es)) ≡ cond b None (cond (bytes_eq e.0 q) (Some e.1) (found q es))
    by true is true at h =
        let same : e.0 ≡ q = sym (same_at p e.0 is) ∙ (bytes_eq-Decides p q).0 at in
        subst (λ x. found x es ≡ None) same (none_after e.0 es r.0)
    by true is false at h =
        let other : bytes_eq e.0 q ≡ false = ap (λ x. bytes_eq x q) (sym (same_at p e.0 is)) ∙ at in
        ap (λ b. cond b (Some e.1) (found q es)) (sym other)
    by false is true at h =
        let other : bytes_eq e.0 q ≡ false = sym (key_test q e.0) ∙ ap (λ x. is_at (order_of_texts x) e.0) (sym ((bytes_eq-Decides p q).0 at)) ∙ is in
        ap (λ b. cond b (Some e.1) (found q (remove_entry (is_at (order_of_texts p)) es))) other ∙ h ∙ ap (λ b. cond b None (found q es)) at
    by false is false at h = ap (cond (bytes_eq e.0 q) (Some e.1)) (h ∙ ap (λ b. cond b None (found q es)) at)

-- what a declaration makes of a prefix
abbrev reported : List ℕ → Option (List ℕ)
reported uri = if is_empty uri then None else Some uri

bound_found : (prefix uri : List ℕ) (scope : Bindings) → may_be_bound prefix uri ≡ true → IsScope scope → (q : List ℕ)
    → found q (bound (prefix, uri) scope) ≡ cond (bytes_eq prefix q) (reported uri) (found q scope)
bound_found prefix [] scope h s q = found_removed q prefix scope s.order
bound_found prefix (u ∷ uri) scope h s q = found_inserted q scope prefix (u ∷ uri)

with_found : (ds : List Binding) (outer : Bindings) (more : List Binding) → AllByRecursion IsAllowed ds → IsScope outer
    → ((q : List ℕ) → found q outer ≡ declared_uri more q) → (q : List ℕ) → found q (scope_with ds outer) ≡ declared_uri (ds ++ more) q
unfolding scope_with
with_found [] outer more a s h q = h q
with_found (d ∷ ds) outer more a s h q =
    bound_found d.0 d.1 (scope_with ds outer) a.0 (scope_kept ds outer a.1 s) q ∙ ap (cond (bytes_eq d.0 q) (reported d.1)) (with_found ds outer more a.1 s h q)

-- the bindings in force, and the declarations around
record Resolves (scope : Bindings) (ds : List Binding) : Type 0 where
  scoped : IsScope scope
  same : (q : List ℕ) → found q scope ≡ declared_uri ds q

more_declared : (lines : List Row) (outer : Bindings) (ds : List Binding) → Resolves outer ds
    → Resolves (scope_with (declarations lines) outer) (declarations lines ++ ds)
more_declared lines outer ds r = record {
  scoped = scope_kept (declarations lines) outer (declarations_allowed lines) r.scoped;
  same = with_found (declarations lines) outer ds (declarations_allowed lines) r.scoped r.same;
}

resolves : (before : List Row) (passed : ℕ) (lines : List Row) → Resolves (scope_in passed before lines) (declarations_in passed before lines)
unfolding scope_in declarations_in
resolves [] passed lines = record { scoped = outermost_scope; same = λ q. refl }
resolves (row ∷ before) passed lines = by (nesting row) passed (λ n. resolves before n (row ∷ lines))
  where
    by : (n : Nesting) (k : ℕ) → ((m : ℕ) → Resolves (scope_in m before (row ∷ lines)) (declarations_in m before (row ∷ lines))) →
        Resolves (going_back n k (λ name. scope_with (declarations lines) (scope_in 0 before (row ∷ lines))) (λ m. scope_in m before (row ∷ lines)))
        (going_back n k (λ name. declarations lines ++ declarations_in 0 before (row ∷ lines)) (λ m. declarations_in m before (row ∷ lines)))
    by (starts name) zero h = more_declared lines (scope_in 0 before (row ∷ lines)) (declarations_in 0 before (row ∷ lines)) (h 0)
    by (starts name) (suc k) h = h k
    by ends k h = h (suc k)
    by neither k h = h k

pub names_resolve : NamesResolve
names_resolve before lines prefix = found_is prefix (scope_in 0 before lines) ∙ (resolves before 0 lines).same prefix
