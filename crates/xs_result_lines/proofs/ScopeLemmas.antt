-- The bindings in force: one declaration more, and one less.
use Rattle.std.proofs.Common.{◌≡◌, ℕ, ◌-◌, List, [], ◌∷◌, ◌++◌, Bool, true, false, Option, Some, cond, refl, sym, ◌∙◌, ap, subst, reverse}
use Rattle.std.proofs.lemmas.List.{reverse-append}
use Rattle.std.specs.Prelude.{codes, not, unwrap_or}
use Rattle.std.proofs.lemmas.Slice.Eq.{bytes_eq-Decides}
use Rattle.std.specs.Str.{bytes_eq}
use Rattle.std.specs.BTreeMap.{insert_entry, is_at}
use Rattle.std.specs.Map.{lookup}
use Rattle.xs_result_lines.specs.Bindings.{Binding, order_of_prefixes, outermost, uri_in, xml_uri}
use Rattle.xs_result_lines.specs.declared.scope.Undo.{Undo}
use Rattle.xs_result_lines.specs.steps.InForce.{is_in_force}
use Rattle.xs_result_lines.specs.steps.Open.{IsCurrent, KnowBefore, logged}
use Rattle.xs_result_lines.proofs.OrderLemmas.{Rebinds, same_at, uri_in-first}

abbrev pub IsKept : List Binding → List Undo → Type 0
IsKept table us = IsCurrent table us × KnowBefore us

declared_one : (table now : List Binding) (us : List Undo) (u : Undo) → Rebinds table now u.prefix (Some u.uri) → u.before ≡ uri_in table u.prefix
    → IsKept table us → IsKept now (u ∷ us)
declared_one table now us u rebinds before kept = (
  λ q. rebinds q ∙ ap (cond (is_at (order_of_prefixes u.prefix) q) (Some u.uri)) (kept.0 q)
      ∙ sym (uri_in-first (u.prefix, u.uri) (logged us ++ outermost) q),
  (before ∙ kept.0 u.prefix, kept.1),
)

-- the prefix has what it had before, and the others stay
back : (p uri q : List ℕ) (before : Option (List ℕ)) (table rest : List Binding) → before ≡ uri_in rest p → uri_in table q ≡ uri_in ((p, uri) ∷ rest) q
    → cond (is_at (order_of_prefixes p) q) before (uri_in table q) ≡ uri_in rest q
back p uri q before table rest knew now = by_place (is_at (order_of_prefixes p) q) refl
  where
    by_place : (t : Bool) → is_at (order_of_prefixes p) q ≡ t → cond t before (uri_in table q) ≡ uri_in rest q
    by_place true at = knew ∙ ap (uri_in rest) (same_at p q at)
    by_place false at = now ∙ uri_in-first (p, uri) rest q ∙ ap (λ t. cond t (Some uri) (uri_in rest q)) at

left_one : (table now : List Binding) (us : List Undo) (u : Undo) → Rebinds table now u.prefix u.before → IsKept table (u ∷ us) → IsKept now us
left_one table now us u rebinds kept =
    (λ q. rebinds q ∙ back u.prefix u.uri q u.before table (logged us ++ outermost) kept.1.0 (kept.0 q), kept.1.1)

-- ---- as a vector has them, the nearest last
last_first : (items now : List Undo) (u : Undo) → now ≡ items ++ u ∷ [] → reverse now ≡ u ∷ reverse items
last_first items now u h = ap reverse h ∙ reverse-append items (u ∷ [])

pub declared_kept : (table now : List Binding) (items all : List Undo) (u : Undo) → all ≡ items ++ u ∷ [] → Rebinds table now u.prefix (Some u.uri)
    → u.before ≡ uri_in table u.prefix → IsKept table (reverse items) → IsKept now (reverse all)
declared_kept table now items all u is rebinds before kept =
    subst (IsKept now) (sym (last_first items all u is)) (declared_one table now (reverse items) u rebinds before kept)

pub left_kept : (table now : List Binding) (items all : List Undo) (u : Undo) → all ≡ items ++ u ∷ [] → Rebinds table now u.prefix u.before
    → IsKept table (reverse all) → IsKept now (reverse items)
left_kept table now items all u is rebinds kept =
    left_one table now (reverse items) u rebinds (subst (IsKept table) (last_first items all u is) kept)

outermost_kept : (table : List Binding) (items : List Undo) → table ≡ outermost → items ≡ [] → IsKept table (reverse items)
outermost_kept table items is none =
    subst (λ us. IsKept table (reverse us)) (sym none) (subst (λ es. IsKept es []) (sym is) ((λ q. refl), tt))

pub outermost_made : (table empty : List Binding) (items : List Undo) (key text uri : List ℕ) → empty ≡ []
    → table ≡ insert_entry order_of_prefixes empty key uri
    → key ≡ text → text ≡ codes "xml" → uri ≡ xml_uri → items ≡ [] → IsKept table (reverse items)
outermost_made table empty items key text uri none is k t u no_items =
    outermost_kept table items
    (is ∙ ap (λ es. insert_entry order_of_prefixes es key uri) none ∙ ap (λ x. (x, uri) ∷ []) (k ∙ t) ∙ ap (λ x. (codes "xml", x) ∷ []) u) no_items

-- ---- the recent prefix, whose URI is kept beside the table
same_text : (a b : List ℕ) (t : Bool) → t ≡ bytes_eq a b → t ≡ true → a ≡ b
same_text a b t is same = (bytes_eq-Decides a b).0 (sym is ∙ same)

pub recent_in_force : (table around : List Binding) (us : List Undo) (recent prefix uri : List ℕ) (bound : Option (List ℕ)) → IsKept table us
    → bound ≡ uri_in table recent → (text : List ℕ) (t : Bool) → text ≡ recent → t ≡ bytes_eq text prefix → t ≡ true → logged us ≡ around
    → bytes_eq (unwrap_or bound []) uri ≡ true → is_in_force (around ++ outermost) prefix uri ≡ true
recent_in_force table around us recent prefix uri bound kept is text t reads test alike view holds =
    let same : recent ≡ prefix = sym reads ∙ same_text text prefix t test alike in
    ap (λ bs. is_in_force (bs ++ outermost) prefix uri) (sym view)
    ∙ ap (λ o. not (not (bytes_eq (unwrap_or o []) uri))) (sym (kept.0 prefix) ∙ ap (uri_in table) (sym same) ∙ sym is)
    ∙ ap (λ t. not (not t)) holds

-- ---- its URI after another one, or the same, got another URI
pub found_before : (table : List Binding) (key p : List ℕ) (before : Option (List ℕ)) → key ≡ p → before ≡ lookup (is_at (order_of_prefixes key)) table
    → before ≡ uri_in table p
unfolding uri_in
found_before table key p before is found = found ∙ ap (λ k. lookup (is_at (order_of_prefixes k)) table) is

pub bound_again : (old new : List Binding) (recent p : List ℕ) (o bound now : Option (List ℕ)) (a b : List ℕ) (t : Bool) → Rebinds old new p o → a ≡ recent
    → b ≡ p → t ≡ bytes_eq a b → bound ≡ uri_in old recent → now ≡ cond t (uri_in new recent) bound → now ≡ uri_in new recent
bound_again old new recent p o bound now a b t rebinds of_recent of_prefix test was is =
    by_test t (test ∙ ap (λ x. bytes_eq x b) of_recent ∙ ap (bytes_eq recent) of_prefix) is
  where
    by_place : (s : Bool) → is_at (order_of_prefixes p) recent ≡ s → false ≡ bytes_eq recent p → now ≡ bound → now ≡ uri_in new recent
    by_place true at differs g =
        let no_bool : false ≡ true = differs ∙ (bytes_eq-Decides recent p).1 (sym (same_at p recent at)) in absurd (cc)
    by_place false at differs g = g ∙ was ∙ sym (rebinds recent ∙ ap (λ s. cond s o (uri_in old recent)) at)

    by_test : (s : Bool) → s ≡ bytes_eq recent p → now ≡ cond s (uri_in new recent) bound → now ≡ uri_in new recent
    by_test true same g = g
    by_test false differs g = by_place (is_at (order_of_prefixes p) recent) refl differs g
