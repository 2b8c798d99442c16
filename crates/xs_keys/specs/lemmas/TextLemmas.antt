-- The entries of a key's table: for each text the nodes that have it.
use Rattle.std.proofs.Common.{◌≡◌, ℕ, Bool, true, false, cond, not, ◌||◌, List, [], ◌∷◌, ◌++◌, filter, map, bytes_eq, refl, sym, ap, ◌∙◌}
use Rattle.std.proofs.lemmas.List.{map-append}
use Rattle.std.proofs.lemmas.List.Concat.{flat_map-cons}
use Rattle.std.proofs.lemmas.List.Elements.{filter-append}
use Rattle.std.specs.Cmp.Lexicographic.{bytes_decides}
use Rattle.std.specs.List.{flat_map, list_any}
use Rattle.xs_sheet.specs.declared.declarations.KeyDecl.{KeyDecl}
use Rattle.xs_tree.specs.Record.{Record}
use Rattle.xs_value.specs.Tables.{Entry, is_for, nodes_of}
use Rattle.xs_keys.specs.Keys.{has_text, node_texts}
use Rattle.xs_keys.specs.KeyTables.{distinct, entries_at, entry_of}

-- ---- filters of filters
none-pass-by : {X : Type 0} (p q : X → Bool) (x : X) (xs : List X) (b : Bool) → q x ≡ b → (p x ≡ true → q x ≡ false)
    → filter p (filter q xs) ≡ [] → filter p (cond b (x ∷ filter q xs) (filter q xs)) ≡ []
none-pass-by p q x xs true e h i = by (p x) refl
  where
    by : (c : Bool) → p x ≡ c → cond c (x ∷ filter p (filter q xs)) (filter p (filter q xs)) ≡ []
    by true f = absurd (cc (sym e ∙ h f))
    by false f = i
none-pass-by p q x xs false e h i = i

none-pass : {X : Type 0} (p q : X → Bool) → ((x : X) → p x ≡ true → q x ≡ false) → (xs : List X) → filter p (filter q xs) ≡ []
none-pass p q h [] = refl
none-pass p q h (x ∷ xs) = none-pass-by p q x xs (q x) refl (h x) (none-pass p q h xs)

all-pass-by : {X : Type 0} (p q : X → Bool) (x : X) (xs : List X) (b : Bool) → q x ≡ b → (p x ≡ true → q x ≡ true)
    → filter p (filter q xs) ≡ filter p xs → filter p (cond b (x ∷ filter q xs) (filter q xs)) ≡ filter p (x ∷ xs)
all-pass-by p q x xs true e h i = ap (λ l. cond (p x) (x ∷ l) l) i
all-pass-by p q x xs false e h i = i ∙ by (p x) refl
  where
    by : (c : Bool) → p x ≡ c → filter p xs ≡ cond c (x ∷ filter p xs) (filter p xs)
    by true f = absurd (cc (sym e ∙ h f))
    by false f = refl

all-pass : {X : Type 0} (p q : X → Bool) → ((x : X) → p x ≡ true → q x ≡ true) → (xs : List X) → filter p (filter q xs) ≡ filter p xs
all-pass p q h [] = refl
all-pass p q h (x ∷ xs) = all-pass-by p q x xs (q x) refl (h x) (all-pass p q h xs)

-- ---- texts, each once
same-text : (a b : List ℕ) → bytes_eq a b ≡ true → a ≡ b
same-text a b h = (bytes_decides a b).0 h

text-itself : (a : List ℕ) → bytes_eq a a ≡ true
text-itself a = (bytes_decides a a).1 refl

turned : (a b : List ℕ) → bytes_eq a b ≡ true → bytes_eq b a ≡ true
turned a b h = (bytes_decides b a).1 (sym (same-text a b h))

turned-apart-by : (a b : List ℕ) (t : Bool) → bytes_eq b a ≡ t → bytes_eq a b ≡ false → t ≡ false
turned-apart-by a b true e h = absurd (cc (sym (turned b a e) ∙ h))
turned-apart-by a b false e h = refl

turned-apart : (a b : List ℕ) → bytes_eq a b ≡ false → bytes_eq b a ≡ false
turned-apart a b h = turned-apart-by a b (bytes_eq b a) refl h

-- the same test as another text
as-text : (t u v : List ℕ) → u ≡ v → bytes_eq t u ≡ bytes_eq t v
as-text t u v e = ap (bytes_eq t) e

distinct-of-by : (text t : List ℕ) (ts : List (List ℕ)) (b : Bool) → bytes_eq text t ≡ b
    → filter (λ u. bytes_eq u text) (distinct ts) ≡ cond (list_any (bytes_eq text) ts) (text ∷ []) []
    → filter (λ u. bytes_eq u text) (distinct (t ∷ ts)) ≡ cond (b || list_any (bytes_eq text) ts) (text ∷ []) []
distinct-of-by text t ts true e i =
    let left : filter (λ u. bytes_eq u text) (filter (λ u. not (bytes_eq t u)) (distinct ts)) ≡ [] =
    none-pass (λ u. bytes_eq u text) (λ u. not (bytes_eq t u))
    (λ u h. ap not (as-text t u t (same-text u text h ∙ same-text text t e) ∙ text-itself t)) (distinct ts) in
    ap (λ c. cond c (t ∷ filter (λ u. bytes_eq u text) (filter (λ u. not (bytes_eq t u)) (distinct ts)))
    (filter (λ u. bytes_eq u text) (filter (λ u. not (bytes_eq t u)) (distinct ts)))) (turned text t e)
    ∙ ap (λ l. t ∷ l) left ∙ ap (λ x. x ∷ []) (sym (same-text text t e))
distinct-of-by text t ts false e i =
    ap (λ c. cond c (t ∷ filter (λ u. bytes_eq u text) (filter (λ u. not (bytes_eq t u)) (distinct ts)))
    (filter (λ u. bytes_eq u text) (filter (λ u. not (bytes_eq t u)) (distinct ts)))) (turned-apart text t e)
    ∙ all-pass (λ u. bytes_eq u text) (λ u. not (bytes_eq t u))
    (λ u h. ap not (as-text t u text (same-text u text h) ∙ turned-apart text t e)) (distinct ts)
    ∙ i

distinct-of : (text : List ℕ) (ts : List (List ℕ))
    → filter (λ u. bytes_eq u text) (distinct ts) ≡ cond (list_any (bytes_eq text) ts) (text ∷ []) []
distinct-of text [] = refl
distinct-of text (t ∷ ts) = distinct-of-by text t ts (bytes_eq text t) refl (distinct-of text ts)

-- ---- entries
nodes-at : (text : List ℕ) (n : ℕ) (us : List (List ℕ)) → nodes_of text (map (entry_of n) us) ≡ map (λ u. n) (filter (λ u. bytes_eq u text) us)
nodes-at text n [] = refl
nodes-at text n (u ∷ us) = by (bytes_eq u text) (nodes-at text n us)
  where
    by : (b : Bool) → nodes_of text (map (entry_of n) us) ≡ map (λ v. n) (filter (λ v. bytes_eq v text) us)
        → map (λ (e : Entry). e.node) (cond b (entry_of n u ∷ filter (is_for text) (map (entry_of n) us)) (filter (is_for text) (map (entry_of n) us)))
        ≡ map (λ v. n) (cond b (u ∷ filter (λ v. bytes_eq v text) us) (filter (λ v. bytes_eq v text) us))
    by true i = ap (λ l. n ∷ l) i
    by false i = i

nodes-append : (text : List ℕ) (xs ys : List Entry) → nodes_of text (xs ++ ys) ≡ nodes_of text xs ++ nodes_of text ys
nodes-append text xs ys =
    ap (map (λ (e : Entry). e.node)) (filter-append (is_for text) xs ys)
    ∙ map-append (λ (e : Entry). e.node) (filter (is_for text) xs) (filter (is_for text) ys)

kept-first : (n : ℕ) (text : List ℕ) (b : Bool) (ns : List ℕ) → map (λ (u : List ℕ). n) (cond b (text ∷ []) []) ++ ns ≡ cond b (n ∷ ns) ns
kept-first n text true ns = refl
kept-first n text false ns = refl

-- the nodes of a text among the entries of nodes
pub nodes-of-entries : (rs : List Record) (ds : List KeyDecl) (text : List ℕ) (ns : List ℕ)
    → nodes_of text (flat_map (entries_at rs ds) ns) ≡ filter (has_text rs ds text) ns
nodes-of-entries rs ds text [] = refl
nodes-of-entries rs ds text (n ∷ ns) =
    ap (nodes_of text) (flat_map-cons (entries_at rs ds) n ns)
    ∙ nodes-append text (entries_at rs ds n) (flat_map (entries_at rs ds) ns)
    ∙ ap (λ l. l ++ nodes_of text (flat_map (entries_at rs ds) ns))
    (nodes-at text n (distinct (node_texts rs ds n)) ∙ ap (map (λ (u : List ℕ). n)) (distinct-of text (node_texts rs ds n)))
    ∙ ap (λ l. map (λ (u : List ℕ). n) (cond (has_text rs ds text n) (text ∷ []) []) ++ l) (nodes-of-entries rs ds text ns)
    ∙ kept-first n text (has_text rs ds text n) (filter (has_text rs ds text) ns)
