-- The bindings in force by declarations: a prefix has the URI that the nearest declaration of it says.
use Rattle.std.proofs.Common.{◌≡◌, ℕ, List, [], ◌∷◌, ◌++◌, Option, None, Some, Bool, true, false, if◌then◌else◌, refl, sym, ◌∙◌, ap, cond, unwrap_or}
use Rattle.std.specs.Prelude.{codes}
use Rattle.std.specs.BTreeMap.{insert_entry, is_at}
use Rattle.std.specs.List.{AllByRecursion}
use Rattle.std.specs.Map.{keys_of, lookup, remove_entry}
use Rattle.std.specs.Ordering.{is_eq, match_ordering, ordering_reverse}
use Rattle.std.specs.declared.cmp.Ordering.{Ordering}
use Rattle.std.specs.declared.cmp.Ordering.TheVariants.{Less, Equal, Greater}
use Rattle.std.proofs.lemmas.Cmp.{eq_by_cmp_equiv, nat_list_cmp_total, tied_itself}
use Rattle.std.proofs.lemmas.Map.{lookup-remove_entry}
use Rattle.std.proofs.lemmas.Map.Keys.{IsDistinct-from_sorted}
use Rattle.std.proofs.lemmas.Map.Lookups.{exact_bytes}
use Rattle.xs_tree.specs.Names.{order_of_texts}
use Rattle.xs_build.specs.Namespaces.{Bindings, bound, is_empty, scope_with}
use Rattle.xs_build.specs.Namespaces as read
use Rattle.xs_build.proofs.WellFormedLemmas.ScopeLemmas.{IsAllowed, IsScope, Rising, keys_sorted, outermost_scope, same_at, scope_kept}
use Rattle.xs_result_lines.specs.Bindings.{Binding, outermost, uri_in}
use Rattle.xs_result_lines.specs.Laws.{resolved}
use Rattle.xs_result_laws.proofs.NameLemmas.{no_bool}

-- the bindings in force, where these declarations stand, the nearest first
abbrev pub in_force : List Binding → Bindings
in_force ds = scope_with ds []

abbrev pub find : List ℕ → Bindings → Option (List ℕ)
find q es = lookup (is_at (order_of_texts q)) es

-- a prefix is in scope with a URI that is not empty
abbrev pub given : List ℕ → Option (List ℕ)
given uri = if is_empty uri then None else Some uri

-- ---- the order of prefixes
eq_reversed : (o : Ordering) → is_eq (ordering_reverse o) ≡ is_eq o
eq_reversed Less = refl
eq_reversed Equal = refl
eq_reversed Greater = refl

at_flipped : (p q : List ℕ) → is_at (order_of_texts p) q ≡ is_at (order_of_texts q) p
at_flipped p q = ap is_eq (nat_list_cmp_total.antisymm p q) ∙ eq_reversed (order_of_texts q p)

pub at_itself : (p : List ℕ) → is_at (order_of_texts p) p ≡ true
at_itself p = ap is_eq (tied_itself nat_list_cmp_total p)

-- ---- one binding more
replaced : (t : Bool) (v old rest : Option (List ℕ)) → cond t v rest ≡ cond t v (cond t old rest)
replaced true v old rest = refl
replaced false v old rest = refl

swapped : (s t : Bool) (x y z : Option (List ℕ)) → (s ≡ true → t ≡ true → ⊥) → cond s x (cond t y z) ≡ cond t y (cond s x z)
swapped true true x y z apart = absurd (apart refl refl)
swapped true false x y z apart = refl
swapped false t x y z apart = refl

greater_apart : (q k e : List ℕ) → order_of_texts k e ≡ Greater → is_at (order_of_texts q) e ≡ true → is_at (order_of_texts q) k ≡ true → ⊥
greater_apart q k e is a b =
    let one : k ≡ e = sym (same_at q k b) ∙ same_at q e a in
    no_bool (is_eq (order_of_texts k e)) (ap (is_at (order_of_texts k)) (sym one) ∙ at_itself k) (ap is_eq is)

find-inserted : (q k v : List ℕ) (es : Bindings) → find q (insert_entry order_of_texts es k v) ≡ cond (is_at (order_of_texts q) k) (Some v) (find q es)
find-inserted q k v [] = refl
find-inserted q k v (e ∷ es) = by_order (order_of_texts k e.0) refl (find-inserted q k v es)
  where
    by_order : (o : Ordering) → order_of_texts k e.0 ≡ o
        → find q (insert_entry order_of_texts es k v) ≡ cond (is_at (order_of_texts q) k) (Some v) (find q es)
        → find q (match_ordering o ((k, v) ∷ e ∷ es) ((e.0, v) ∷ es) (e ∷ insert_entry order_of_texts es k v))
        ≡ cond (is_at (order_of_texts q) k) (Some v) (find q (e ∷ es))
    by_order Less is h = refl
    by_order Equal is h =
        replaced (is_at (order_of_texts q) e.0) (Some v) (Some e.1) (find q es)
        ∙ ap (λ x. cond (is_at (order_of_texts q) x) (Some v) (find q (e ∷ es))) (sym (exact_bytes k e.0 is))
    by_order Greater is h =
        ap (cond (is_at (order_of_texts q) e.0) (Some e.1)) h
        ∙ swapped (is_at (order_of_texts q) e.0) (is_at (order_of_texts q) k) (Some e.1) (Some v) (find q es) (greater_apart q k e.0 is)

-- ---- one binding less
find-removed : (q p : List ℕ) (es : Bindings) → Rising es
    → find q (remove_entry (is_at (order_of_texts p)) es) ≡ cond (is_at (order_of_texts p) q) None (find q es)
find-removed q p es rising =
    lookup-remove_entry (eq_by_cmp_equiv nat_list_cmp_total) (is_at (order_of_texts p))
    (λ x y at. ap (λ k. is_at (order_of_texts k) y) (same_at p x at)) q es
    (IsDistinct-from_sorted order_of_texts (keys_of es) (keys_sorted es rising))

-- ---- the bindings in force
pub record IsForce (ds : List Binding) : Type 0 where
  pub scoped : IsScope (in_force ds)
  pub same : (q : List ℕ) → find q (in_force ds) ≡ given (resolved ds q)

given-cond : (t : Bool) (u rest : List ℕ) → given (cond t u rest) ≡ cond t (given u) (given rest)
given-cond true u rest = refl
given-cond false u rest = refl

resolved-first : (d : Binding) (ds : List Binding) (q : List ℕ) → resolved (d ∷ ds) q ≡ cond (is_at (order_of_texts q) d.0) d.1 (resolved ds q)
unfolding uri_in
resolved-first d ds q = by_test (is_at (order_of_texts q) d.0)
  where
    by_test : (t : Bool) → unwrap_or (cond t (Some d.1) (find q ds)) [] ≡ cond t d.1 (unwrap_or (find q ds) [])
    by_test true = refl
    by_test false = refl

pub force_outermost : IsForce outermost
unfolding scope_with uri_in
force_outermost = record { scoped = outermost_scope; same = λ q. by_test (is_at (order_of_texts q) (codes "xml")) }
  where
    by_test : (t : Bool) → cond t (Some read.xml_uri) None ≡ given (unwrap_or (cond t (Some read.xml_uri) None) [])
    by_test true = refl
    by_test false = refl

bound_found : (p u : List ℕ) (scope : Bindings) (q : List ℕ) → IsScope scope
    → find q (bound (p, u) scope) ≡ cond (is_at (order_of_texts q) p) (given u) (find q scope)
bound_found p [] scope q s = find-removed q p scope s.order ∙ ap (λ t. cond t None (find q scope)) (at_flipped p q)
bound_found p (c ∷ u) scope q s = find-inserted q p (c ∷ u) scope

force_one : (d : Binding) (ds : List Binding) → IsAllowed d → IsForce ds → IsForce (d ∷ ds)
unfolding scope_with
force_one d ds allowed f = record {
  scoped = scope_kept (d ∷ []) (in_force ds) (allowed, tt) f.scoped;
  same =
      λ q. bound_found d.0 d.1 (in_force ds) q f.scoped ∙ ap (cond (is_at (order_of_texts q) d.0) (given d.1)) (f.same q)
      ∙ sym (given-cond (is_at (order_of_texts q) d.0) d.1 (resolved ds q)) ∙ ap given (sym (resolved-first d ds q));
}

pub force_more : (ds outer : List Binding) → AllByRecursion IsAllowed ds → IsForce outer → IsForce (ds ++ outer)
force_more [] outer allowed f = f
force_more (d ∷ ds) outer allowed f = force_one d (ds ++ outer) allowed.0 (force_more ds outer allowed.1 f)

pub scope_more : (ds outer : List Binding) → scope_with ds (in_force outer) ≡ in_force (ds ++ outer)
unfolding scope_with
scope_more [] outer = refl
scope_more (d ∷ ds) outer = ap (bound d) (scope_more ds outer)
