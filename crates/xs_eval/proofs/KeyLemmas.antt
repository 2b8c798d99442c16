-- Nodes by key: what tables hold is in the tree, and a document is all nodes between its ends.
use Rattle.std.proofs.Common.{◌≡◌, ℕ, ◌<◌, ◌≤◌, ◌&&◌, ◌⊎◌, Bool, cond, List, [], ◌∷◌, All, filter, length, zero, suc, nat_le, nat_lt}
use Rattle.std.proofs.Common.{refl, sym, ap, inl, inr, ◌∙◌, Result, Ok, Err}
use Rattle.std.proofs.lemmas.Bool.{lt-ltb, le-ltb, lt-leb, le-leb}
use Rattle.std.proofs.lemmas.List.Elements.{All-append, All-filter, All-head, All-map, All-nil, All-tail}
use Rattle.std.specs.List.{flat_map}
use Rattle.xs_tree.specs.Axis.{is_same_document, root_of}
use Rattle.xs_tree.specs.Record.{Record}
use Rattle.xs_tree.specs.Shape.{EndsAt, IsTree}
use Rattle.xs_tree.proofs.RootLemmas.{other-before, other-past, same-inside}
use Rattle.xs_tree.proofs.WalkLemmas.{le_or_gt}
use Rattle.xs_value.specs.declared.keys.KeyEnd.{KeyEnd}
use Rattle.xs_value.specs.Tables.{Entry, Table, TablesIn, is_for, nodes_of, table_at}
use Rattle.xs_eval_spec.specs.Context.{Context}
use Rattle.xs_eval_spec.specs.Keys.{found, found_for}
use Rattle.xs_eval.specs.steps.Keys.{FindsNodes, IsDocumentOf, holds}
use Rattle.xs_eval.specs.declared.keys.Document.{Document}
use Rattle.xs_eval_spec.proofs.InsideLemmas.{in_order_all}

-- two tests that agree where all items are keep the same items
pub filter-within : (P : ℕ → Type 0) (p q : ℕ → Bool) → ((k : ℕ) → P k → p k ≡ q k) → (xs : List ℕ) → All P xs → filter p xs ≡ filter q xs
filter-within P p q h [] a = refl
filter-within P p q h (x ∷ xs) a =
    ap (λ b. cond b (x ∷ filter p xs) (filter p xs)) (h x (All-head P x xs a))
    ∙ ap (λ ys. cond (q x) (x ∷ ys) ys) (filter-within P p q h xs (All-tail P x xs a))

-- ---- documents

-- a document is all nodes from its root up to its end
pub ends-hold : (rs : List Record) (n e k : ℕ) → IsTree rs → n < length rs → EndsAt rs (root_of rs n) e → k < length rs
    → is_same_document rs n k ≡ (nat_le (root_of rs n) k && nat_lt k e)
ends-hold rs n e k t h ends w = by_root (le_or_gt (root_of rs n) k)
  where
    by_end : (root_of rs n ≤ k) → (e ≤ k) ⊎ (k < e) → is_same_document rs n k ≡ (nat_le (root_of rs n) k && nat_lt k e)
    by_end a (inl past) = rw (other-past rs n e k t h ends past w, le-leb (root_of rs n) k a, le-ltb k e past) refl
    by_end a (inr inside) = rw (same-inside rs n e k t ends a inside, le-leb (root_of rs n) k a, lt-ltb k e inside) refl

    by_root : (root_of rs n ≤ k) ⊎ (k < root_of rs n) → is_same_document rs n k ≡ (nat_le (root_of rs n) k && nat_lt k e)
    by_root (inl a) = by_end a (le_or_gt e k)
    by_root (inr before) = rw (other-before rs n k before, lt-leb (root_of rs n) k before) refl

-- ---- tables

entries-inside : (rs : List Record) (text : List ℕ) (es : List Entry) → All (λ (e : Entry). e.node < length rs) es
    → All (λ k. k < length rs) (nodes_of text es)
entries-inside rs text es h =
    All-map (λ k. k < length rs) (λ (e : Entry). e.node) (filter (is_for text) es)
    (All-filter (is_for text) (λ (e : Entry). e.node < length rs) es h)

abbrev AreEntriesIn : List Record → Table → Type 0
AreEntriesIn rs t = All (λ (e : Entry). e.node < length rs) t.entries

-- the nodes of a table are in the tree
pub table-inside : (rs : List Record) (ts : List Table) (k : ℕ) (text : List ℕ) → TablesIn rs ts
    → All (λ n. n < length rs) (nodes_of text (table_at ts k).entries)
table-inside rs [] k text h = All-nil (λ n. n < length rs)
table-inside rs (t ∷ ts) zero text h = entries-inside rs text t.entries (All-head (AreEntriesIn rs) t ts h)
table-inside rs (t ∷ ts) (suc k) text h = table-inside rs ts k text (All-tail (AreEntriesIn rs) t ts h)

-- those that are in the document of the context node
pub held-are : (c : Context) (ts : List Table) (k : ℕ) (text : List ℕ) (d : Document) → TablesIn c.tree ts → IsDocumentOf c.tree c.node d
    → filter (holds d) (nodes_of text (table_at ts k).entries) ≡ found_for c (table_at ts k) text
held-are c ts k text d h is =
    sym (filter-within (λ n. n < length c.tree) (is_same_document c.tree c.node) (holds d) is (nodes_of text (table_at ts k).entries)
    (table-inside c.tree ts k text h))

pub held-inside : (c : Context) (ts : List Table) (k : ℕ) (text : List ℕ) → TablesIn c.tree ts
    → All (λ n. n < length c.tree) (found_for c (table_at ts k) text)
held-inside c ts k text h =
    All-filter (is_same_document c.tree c.node) (λ n. n < length c.tree) (nodes_of text (table_at ts k).entries) (table-inside c.tree ts k text h)

each-inside : (c : Context) (ts : List Table) (k : ℕ) (texts : List (List ℕ)) → TablesIn c.tree ts
    → All (λ n. n < length c.tree) (flat_map (found_for c (table_at ts k)) texts)
each-inside c ts k [] h = All-nil (λ n. n < length c.tree)
each-inside c ts k (text ∷ texts) h =
    All-append (λ n. n < length c.tree) (found_for c (table_at ts k) text) (flat_map (found_for c (table_at ts k)) texts) (held-inside c ts k text h)
    (each-inside c ts k texts h)

-- those for some texts
pub found-inside : (c : Context) (ts : List Table) (k : ℕ) (texts : List (List ℕ)) → TablesIn c.tree ts
    → All (λ n. n < length c.tree) (found c (table_at ts k) texts)
found-inside c ts k texts h =
    in_order_all (λ n. n < length c.tree) (flat_map (found_for c (table_at ts k)) texts) (each-inside c ts k texts h)

-- what is found for some texts is found for others that come to the same nodes
pub finds-same : (c : Context) (t : Table) (xs ys : List (List ℕ)) (r : Result (List ℕ) KeyEnd) → found c t xs ≡ found c t ys → FindsNodes c t xs r
    → FindsNodes c t ys r
finds-same c t xs ys (Ok ns) e h = (h.0, h.1 ∙ e)
finds-same c t xs ys (Err end) e h = h
