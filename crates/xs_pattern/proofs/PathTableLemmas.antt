-- Tables of the nodes that match an alternative, made from one another step by step.
use Rattle.std.proofs.Common.{◌≡◌, ℕ, zero, suc, ◌+◌, ◌<◌, ◌||◌, ◌&&◌, not, Bool, true, false, List, [], ◌∷◌, ◌++◌, get_or, length, map, reverse, take}
use Rattle.std.proofs.Common.{IfSome, Option, None, Some, Vec, refl, sym, ap, subst, ◌∙◌, arith}
use Rattle.std.proofs.lemmas.Bool.{and_from, and_parts, eqb-true, false_from_ne_true, true≢false}
use Rattle.std.proofs.lemmas.List.{take_more}
use Rattle.std.specs.List.{list_all, list_any, range_with_len}
use Rattle.std.specs.declared.alloc.Global.{Global}
use Rattle.xs_tree.specs.declared.axes.Axis.{Axis}
use Rattle.xs_tree.specs.declared.axes.Axis.TheVariants.{Child, Attribute as AttributeAxis}
use Rattle.xs_tree.specs.Axis.{axis_list, is_on}
use Rattle.xs_tree.specs.Kinds.{is_attribute_kind, is_child_kind}
use Rattle.xs_tree.specs.Record.{Record, at, is_place, places}
use Rattle.xs_tree.specs.Shape.{IsTree}
use Rattle.xs_tree.proofs.WalkLemmas.{IsPlaced-at}
use Rattle.xs_value.specs.Tables.{Table}
use Rattle.xs_xpath.specs.declared.expr.Expr.{Expr}
use Rattle.xs_xpath.specs.Exprs.{tree_from, trees_from}
use Rattle.xs_xpath.specs.Patterns.{listed}
use Rattle.xs_xpath.specs.Tree as syntax
use Rattle.xs_xpath.specs.Tree.{Tree, Trees, no_trees, first_tree}
use Rattle.xs_xpath.specs.Uses.{use_any, uses, uses_current, uses_key}
use Rattle.xs_xpath.specs.declared.name.NodeTest.{NodeTest}
use Rattle.xs_eval_spec.specs.Context.{Context}
use Rattle.xs_eval_spec.specs.Evaluation.{runs_of_trees}
use Rattle.xs_eval_spec.specs.Paths.{Meaning, passes, tested}
use Rattle.xs_pattern_spec.specs.Matching.{ends_path, is_descend, matches_path, pattern_context, placed_at, selected, start_of, step_nodes, steps_of}
use Rattle.xs_pattern_spec.specs.Predicates.{all_kept, is_among}
use Rattle.xs_pattern.specs.Above.{is_below}
use Rattle.xs_pattern.specs.steps.Climb.{backwards}
use Rattle.xs_pattern.specs.steps.PathTables.{AreEndsIn, IsPathTable, EndsIn, IsNextIn, is_free, is_selected}
use Rattle.xs_pattern.proofs.AboveLemmas.{below-above, table-at, swap}
use Rattle.xs_pattern.proofs.AlikeLemmas.{step-free}
use Rattle.xs_pattern.proofs.AncestorLemmas.{any-from, any-to, same}
use Rattle.xs_pattern.proofs.ClimbLemmas.{ends-descend, ends-no_parent, ends-parent}
use Rattle.xs_pattern.proofs.KeptLemmas.{not-kept}
use Rattle.xs_pattern.proofs.PlaceLemmas.{or-none}
use Rattle.xs_pattern.proofs.StepLemmas.{among-places}
use Rattle.xs_pattern.proofs.TreeLemmas.{backwards-push}

-- ---- one of the places

joined : (a b c : Bool) → (a || (b || c)) ≡ ((a || b) || c)
joined true b c = refl
joined false b c = refl

or-false : (a : Bool) → (a || false) ≡ a
or-false true = refl
or-false false = refl

any-push : (f : ℕ → Bool) (a n j : ℕ) → a + n ≡ j → list_any f (range_with_len a (suc n)) ≡ (list_any f (range_with_len a n) || f j)
any-push f a zero j e = let here : a ≡ j = omega (arith, e) in or-false (f a) ∙ ap f here
any-push f a (suc n) j e =
    let on : a + 1 + n ≡ j = omega (arith, e) in
    ap (λ b. f a || b) (any-push f (a + 1) n j on) ∙ joined (f a) (list_any f (range_with_len (a + 1) n)) (f j)

pub any-more : (f : ℕ → Bool) (n : ℕ) (b a : Bool) → b ≡ (a || f n) → a ≡ list_any f (range_with_len 0 n) → b ≡ list_any f (range_with_len 0 (n + 1))
any-more f n b a e h =
    let on : suc n ≡ n + 1 = omega arith in
    let here : 0 + n ≡ n = omega arith in
    e ∙ ap (λ t. t || f n) h ∙ sym (any-push f 0 n n here) ∙ ap (λ k. list_any f (range_with_len 0 k)) on

any-one : (f : ℕ → Bool) (count p : ℕ) → p < count → ((q : ℕ) → f q ≡ true → q ≡ p) → list_any f (range_with_len 0 count) ≡ f p
any-one f count p lt one =
    same (list_any f (range_with_len 0 count)) (f p)
    (λ h. let w : (k : ℕ) × (k < 0 + count) × (f k ≡ true) = any-to f 0 count h in subst (λ (k : ℕ). f k ≡ true) (one w.0 w.2) w.2)
    (λ h. any-from f 0 count p (omega arith) (omega (arith, lt)) h)

any-none : (f : ℕ → Bool) (count : ℕ) → ((q : ℕ) → f q ≡ true → ⊥) → list_any f (range_with_len 0 count) ≡ false
any-none f count none =
    false_from_ne_true (list_any f (range_with_len 0 count))
    (λ h. let w : (k : ℕ) × (k < 0 + count) × (f k ≡ true) = any-to f 0 count h in none w.0 w.2)

-- ---- a step selects nodes from their parent alone

of-place : (p : ℕ) (o : Option ℕ) → is_place p o ≡ true → o ≡ Some p
of-place p None h = absurd (true≢false (sym h))
of-place p (Some q) h = ap Some (eqb-true q p h)

kept-among : (c : Context) (n : ℕ) (ms : List Meaning) (ns : List ℕ) (b : Bool) → is_among n ns ≡ b
    → is_among n (all_kept c ns ms) ≡ true → b ≡ true
kept-among c n ms ns true e h = refl
kept-among c n ms ns false e h = absurd (true≢false (sym h ∙ not-kept c n ms ns e))

step-parent : (axis : Axis) (which : NodeTest) (ms : List Meaning) (c : Context) (n : ℕ) → n < length c.tree
    → is_among n (step_nodes axis which ms c) ≡ true → (at c.tree n).parent ≡ Some c.node
unfolding axis_list
step-parent Child which ms c n lt h =
    let all : (is_on Child c.tree c.node n && passes Child which (at c.tree n)) ≡ true =
    kept-among c n ms (tested Child which c) (is_on Child c.tree c.node n && passes Child which (at c.tree n))
    (among-places (λ k. passes Child which (at c.tree k)) (is_on Child c.tree c.node) c.tree n lt) h in
    of-place c.node (at c.tree n).parent
    (and_parts (is_place c.node (at c.tree n).parent) (is_child_kind (at c.tree n).kind)
    (and_parts (is_on Child c.tree c.node n) (passes Child which (at c.tree n)) all).0).0
step-parent AttributeAxis which ms c n lt h =
    let all : (is_on AttributeAxis c.tree c.node n && passes AttributeAxis which (at c.tree n)) ≡ true =
    kept-among c n ms (tested AttributeAxis which c) (is_on AttributeAxis c.tree c.node n && passes AttributeAxis which (at c.tree n))
    (among-places (λ k. passes AttributeAxis which (at c.tree k)) (is_on AttributeAxis c.tree c.node) c.tree n lt) h in
    of-place c.node (at c.tree n).parent
    (and_parts (is_place c.node (at c.tree n).parent) (is_attribute_kind (at c.tree n).kind)
    (and_parts (is_on AttributeAxis c.tree c.node n) (passes AttributeAxis which (at c.tree n)) all).0).0
step-parent _ which ms c n lt h = absurd (true≢false (sym h))

selected-parent : (keys : List Table) (s : Tree) (c : Context) (n : ℕ) → n < length c.tree → is_among n (selected keys s c) ≡ true
    → (at c.tree n).parent ≡ Some c.node
selected-parent keys (syntax.step axis which es) c n lt h = step-parent axis which (runs_of_trees keys es) c n lt h
selected-parent keys _ c n lt h = absurd (true≢false (sym h))

-- ---- where paths end

-- after a step
pub ends-selected : (rs : List Record) (scope : List (List ℕ × List ℕ)) (s : Tree) (table t : List Bool) → IsTree rs → is_descend s ≡ false
    → ((n : ℕ) → n < length rs → get_or t n false ≡ list_any (is_selected rs scope s table n) (places rs)) → IsNextIn rs scope s table t
ends-selected rs scope s table t tree d made free start steps ends keys m n h = made n h ∙ by_parent (at rs n).parent refl
  where
    f : ℕ → Bool
    f p = is_selected rs scope s table n p

    c : Context
    c = pattern_context rs scope m

    parent : (q : ℕ) → f q ≡ true → (at rs n).parent ≡ Some q
    parent q e =
        selected-parent [] s (pattern_context rs scope q) n h
        (and_parts (get_or table q false) (is_among n (selected [] s (pattern_context rs scope q))) e).1

    by_parent : (o : Option ℕ) → (at rs n).parent ≡ o → list_any f (places rs) ≡ ends_path keys c start (s ∷ steps) n
    by_parent None e =
        any-none f (length rs) (λ q y. let i : None ≡ Some q = sym e ∙ parent q y in absurd (cc)) ∙ sym (ends-no_parent keys c start s steps n d e)
    by_parent (Some p) e =
        let before : p < n = (IsPlaced-at rs n p tree h e).before in
        let inside : p < length rs = omega (arith, before, h) in
        let one : is_among n (selected keys s (placed_at c p)) ≡ is_among n (selected [] s (pattern_context rs scope p)) =
        ap (is_among n) (step-free keys [] s free (pattern_context rs scope p) m p) in
        any-one f (length rs) p inside (λ q y. let i : Some q ≡ Some p = sym (parent q y) ∙ e in let j : q ≡ p = cc in j)
        ∙ ap (λ b. b && is_among n (selected [] s (pattern_context rs scope p))) (ends keys m p inside)
        ∙ swap (ends_path keys c start steps p) (is_among n (selected [] s (pattern_context rs scope p)))
        ∙ sym (ends-parent keys c start s steps n p (is_among n (selected [] s (pattern_context rs scope p))) d e (sym one))

-- after a `//`
pub ends-behind : (rs : List Record) (scope : List (List ℕ × List ℕ)) (s : Tree) (table t : List Bool) → is_descend s ≡ true
    → t ≡ map (is_below table rs) (places rs) → IsNextIn rs scope s table t
ends-behind rs scope s table t d made free start steps ends keys m n h =
    table-at (is_below table rs) t (length rs) n made h
    ∙ below-above keys (pattern_context rs scope m) start steps table n (ends keys m)
    ∙ sym (ends-descend keys (pattern_context rs scope m) start s steps n d)

-- ---- the table of an alternative

not-false : (b : Bool) → b ≡ false → not b ≡ true
not-false b e = ap not e

not-true : (b : Bool) → not b ≡ true → b ≡ false
not-true true h = sym h
not-true false h = refl

all-free : (s t : _) → ((e : Tree) → uses s e ≡ false → uses t e ≡ false → is_free e ≡ true) → (es : Trees) → use_any s es ≡ false → use_any t es ≡ false
    → list_all is_free (listed es) ≡ true
all-free s t each no_trees k h = refl
all-free s t each (first_tree e es) k h =
    let no = or-none (uses s e) (use_any s es) k in
    let nor = or-none (uses t e) (use_any t es) h in
    and_from (is_free e) (list_all is_free (listed es)) (each e no.0 nor.0) (all-free s t each es no.1 nor.1)

path-free : (s t : _) → ((e : Tree) → uses s e ≡ false → uses t e ≡ false → is_free e ≡ true) → (start : Tree) (es : Trees)
    → uses s (syntax.path start es) ≡ false → uses t (syntax.path start es) ≡ false → list_all is_free (listed es) ≡ true
path-free s t each start es k h =
    all-free s t each es (or-none (uses s start) (use_any s es) k).1 (or-none (uses t start) (use_any t es) h).1

is-free : (e : Tree) → uses_key e ≡ false → uses_current e ≡ false → is_free e ≡ true
is-free e k h = and_from (not (uses_key e)) (not (uses_current e)) (not-false (uses_key e) k) (not-false (uses_current e) h)

-- the steps of an alternative call what it does
free-steps : (e : Tree) → is_free e ≡ true → list_all is_free (steps_of e) ≡ true
free-steps (syntax.path start es) h =
    let e : Tree = syntax.path start es in
    let both : (not (uses_key e) ≡ true) × (not (uses_current e) ≡ true) = and_parts (not (uses_key e)) (not (uses_current e)) h in
    path-free _ _ is-free start es (not-true (uses_key e) both.0) (not-true (uses_current e) both.1)
free-steps _ h = refl

free-at : (es : List Expr) (k : ℕ) (e : Expr) → k < length es → e ≡ get_or es k e → list_all is_free (trees_from es) ≡ true → is_free (tree_from e) ≡ true
free-at [] k e lt i h = absurd (omega (arith, lt))
free-at (x ∷ xs) zero e lt i h =
    ap (λ (y : Expr). is_free (tree_from y)) i ∙ (and_parts (is_free (tree_from x)) (list_all is_free (trees_from xs)) h).0
free-at (x ∷ xs) (suc k) e lt i h =
    free-at xs k e (omega (arith, lt)) i (and_parts (is_free (tree_from x)) (list_all is_free (trees_from xs)) h).1

-- one step more
pub ends-more : (rs : List Record) (scope : List (List ℕ × List ℕ)) (start : Tree) (es : List Expr) (k : ℕ) (e : Expr) (table t : List Bool) → k < length es
    → e ≡ get_or es k e → list_all is_free (trees_from es) ≡ true → EndsIn rs scope start (backwards (take k es)) table
    → IsNextIn rs scope (tree_from e) table t → EndsIn rs scope start (backwards (take (k + 1) es)) t
ends-more rs scope start es k e table t lt i free ends next =
    subst (λ (ss : List Tree). EndsIn rs scope start ss t)
    (sym (ap backwards (take_more es k e lt) ∙ ap (λ (x : Expr). backwards (take k es ++ x ∷ [])) (sym i) ∙ backwards-push (take k es) e))
    (next (free-at es k e lt i free) start (backwards (take k es)) ends)

path-table : (rs : List Record) (scope : List (List ℕ × List ℕ)) (e start : Tree) (steps : List Tree) (t : Vec Bool Global) → is_free e ≡ true
    → start ≡ start_of e → steps ≡ steps_of e → AreEndsIn rs scope start steps (Some t) → IsPathTable rs scope e t.items
unfolding matches_path
path-table rs scope e start steps t free s b ends keys n h =
    ends.1 (ap (λ (l : List Tree). list_all is_free l) b ∙ free-steps e free) keys n n h
    ∙ ap (λ (x : Tree). ends_path keys (pattern_context rs scope n) x (reverse steps) n) s
    ∙ ap (λ (l : List Tree). ends_path keys (pattern_context rs scope n) (start_of e) (reverse l) n) b

pub path-table-if : (rs : List Record) (scope : List (List ℕ × List ℕ)) (e start : Tree) (steps : List Tree) (o : Option (Vec Bool Global)) → is_free e ≡ true
    → start ≡ start_of e → steps ≡ steps_of e → AreEndsIn rs scope start steps o → IfSome o (λ t. IsPathTable rs scope e t.items)
path-table-if rs scope e start steps None free s b ends = tt
path-table-if rs scope e start steps (Some t) free s b ends = path-table rs scope e start steps t free s b ends
