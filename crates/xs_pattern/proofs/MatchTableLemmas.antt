-- Tables of the alternatives of a pattern, joined.
use Rattle.std.proofs.Common.{◌≡◌, ℕ, suc, ◌+◌, ◌<◌, ◌||◌, Bool, true, false, List, [], ◌∷◌, ◌++◌, get_or, length, map, take, refl, sym, ap, subst, ◌∙◌, arith}
use Rattle.std.proofs.lemmas.List.{get_or-map, length-map}
use Rattle.std.proofs.lemmas.List.Folds.{list_any-append}
use Rattle.std.proofs.lemmas.List.FromFn.{get_or-range_with_len, length-range_with_len, map-range_with_len_more}
use Rattle.std.proofs.Math.Seq.{take-suc}
use Rattle.std.specs.List.{list_any, range_with_len}
use Rattle.xs_pattern_spec.specs.Matching.{matches, matches_path, pattern_context}
use Rattle.xs_tree.specs.Record.{Record, places}
use Rattle.xs_value.specs.Tables.{Table}
use Rattle.xs_xpath.specs.declared.expr.Expr.{Expr}
use Rattle.xs_xpath.specs.Exprs.{tree_from, trees_from}
use Rattle.xs_xpath.specs.Tree.{Tree}

-- an item of a table
pub item-of : (f : ℕ → Bool) (rs : List Record) (t : List Bool) (n : ℕ) → t ≡ map f (places rs) → n < length rs → get_or t n false ≡ f n
item-of f rs t n e lt =
    let long : length (range_with_len 0 (length rs)) ≡ length rs = length-range_with_len 0 (length rs) in
    ap (λ l. get_or l n false) e
    ∙ get_or-map f (range_with_len 0 (length rs)) n 0 false (subst (λ k. n < k) (sym long) lt)
    ∙ ap f (get_or-range_with_len 0 (length rs) n 0 lt ∙ (let z : 0 + n ≡ n = omega arith in z))

or-false : (b : Bool) → (b || false) ≡ b
or-false true = refl
or-false false = refl

-- no alternative
pub none-match : (keys : List Table) (rs : List Record) (scope : List (List ℕ × List ℕ)) (n : ℕ) → false ≡ matches keys rs scope [] n
unfolding matches
none-match keys rs scope n = refl

-- one more
pub more-match : (keys : List Table) (rs : List Record) (scope : List (List ℕ × List ℕ)) (es : List Tree) (e : Tree) (n : ℕ)
    → (matches keys rs scope es n || matches_path keys (pattern_context rs scope n) e) ≡ matches keys rs scope (es ++ e ∷ []) n
unfolding matches
more-match keys rs scope es e n =
    let f = matches_path keys (pattern_context rs scope n) in
    ap (λ b. list_any f es || b) (sym (or-false (f e))) ∙ sym (list_any-append f es (e ∷ []))

-- one place more
pub table-more : (f : ℕ → Bool) (found all : List Bool) (n : ℕ) (b : Bool) → all ≡ found ++ b ∷ [] → found ≡ map f (range_with_len 0 n) → b ≡ f n
    → all ≡ map f (range_with_len 0 (n + 1))
table-more f found all n b whole before here =
    whole ∙ ap (λ l. l ++ b ∷ []) before ∙ ap (λ x. map f (range_with_len 0 n) ++ x ∷ []) here
    ∙ sym (map-range_with_len_more f 0 n n (let z : 0 + n ≡ n = omega arith in z))

-- the found of one alternative more
pub joined-match : (keys : List Table) (rs : List Record) (scope : List (List ℕ × List ℕ)) (es : List Tree) (e : Tree) (i : ℕ) (found joined : List Bool)
    → i < length es → get_or es i e ≡ e
    → ((n : ℕ) → n < length rs → get_or found n false ≡ matches keys rs scope (take i es) n)
    → joined ≡ map (λ n. get_or found n false || matches_path keys (pattern_context rs scope n) e) (places rs)
    → (n : ℕ) → n < length rs → get_or joined n false ≡ matches keys rs scope (take (i + 1) es) n
joined-match keys rs scope es e i found joined within here before whole n lt =
    let one : take (i + 1) es ≡ take i es ++ e ∷ [] =
    ap (λ k. take k es) (let z : i + 1 ≡ suc i = omega arith in z) ∙ take-suc es i e within ∙ ap (λ x. take i es ++ x ∷ []) here in
    item-of (λ k. get_or found k false || matches_path keys (pattern_context rs scope k) e) rs joined n whole lt
    ∙ ap (λ b. b || matches_path keys (pattern_context rs scope n) e) (before n lt)
    ∙ more-match keys rs scope (take i es) e n ∙ ap (λ l. matches keys rs scope l n) (sym one)

-- the alternatives of a pattern are what their expressions represent
pub joined-match-at : (keys : List Table) (rs : List Record) (scope other : List (List ℕ × List ℕ)) (trees : List Tree) (es : List Expr) (e : Expr) (i : ℕ)
    (found joined : List Bool) → trees_from es ≡ trees → other ≡ scope → i < length es → get_or es i e ≡ e
    → ((n : ℕ) → n < length rs → get_or found n false ≡ matches keys rs scope (take i trees) n)
    → joined ≡ map (λ n. get_or found n false || matches_path keys (pattern_context rs other n) (tree_from e)) (places rs)
    → (n : ℕ) → n < length rs → get_or joined n false ≡ matches keys rs scope (take (i + 1) trees) n
joined-match-at keys rs scope other trees es e i found joined is same within here before whole =
    let inside : i < length (trees_from es) = subst (λ k. i < k) (sym (length-map es tree_from)) within in
    let at : get_or (trees_from es) i (tree_from e) ≡ tree_from e = get_or-map tree_from es i e (tree_from e) within ∙ ap tree_from here in
    joined-match keys rs scope trees (tree_from e) i found joined (subst (λ (l : List Tree). i < length l) is inside)
    (subst (λ (l : List Tree). get_or l i (tree_from e) ≡ tree_from e) is at) before
    (whole ∙ ap (λ s. map (λ n. get_or found n false || matches_path keys (pattern_context rs s n) (tree_from e)) (places rs)) same)
