-- A relative path of one step is the step itself, and a union of such paths is the nodes of each in one list.
use Rattle.std.proofs.Common.{◌≡◌, ℕ, zero, suc, ◌+◌, ◌<◌, ◌==◌, ◌&&◌, ◌++◌, nat_lt, arith, Bool, true, false, cond}
use Rattle.std.proofs.Common.{List, [], ◌∷◌, All, length, Option, Some, None, Result, Ok, Err, OnOk, refl, sym, ap, subst, ◌∙◌, inl, inr}
use Rattle.std.proofs.lemmas.Bool.{eqb-true}
use Rattle.std.proofs.lemmas.List.Elements.{All-append, All-contains, All-contains_itself, Contains-append_cases, Contains-append_left, Contains-append_right}
use Rattle.std.specs.List.{Contains}
use Rattle.xs_trace.specs.Run.{Answer, Gives, Faults, Lacks, Run, costs, fold, give, go_on, ◌>>=◌}
use Rattle.xs_tree.specs.declared.axes.Axis.{Axis}
use Rattle.xs_value.specs.declared.value.Value.{Value}
use Rattle.xs_value.specs.declared.value.Value.TheVariants.{Nodes}
use Rattle.xs_value.specs.NodeSet.{in_order, with_node}
use Rattle.xs_value.specs.Tables.{Table}
use Rattle.xs_value.proofs.NodeSetLemmas.{in_order-list, in_order-same, nil-contains, same_nodes}
use Rattle.xs_xpath.specs.declared.expr.Expr.{Expr}
use Rattle.xs_xpath.specs.declared.name.NodeTest.{NodeTest}
use Rattle.xs_xpath.specs.declared.token.Operator.{Operator}
use Rattle.xs_xpath.specs.declared.token.Operator.TheVariants.{Or, And, Equal, Unequal, Less, LessEqual, Greater, GreaterEqual, Plus, Minus, Times, Div, FloorDiv, CeilingDiv, NearestDiv, Mod, Union}
use Rattle.xs_xpath.specs.Exprs.{tree_from, trees_from}
use Rattle.xs_xpath.specs.Patterns.{are_unions, is_union}
use Rattle.xs_xpath.specs.Tree as syntax
use Rattle.xs_xpath.specs.Tree.{Tree, Trees, no_trees, first_tree, trees}
use Rattle.xs_eval_spec.specs.Context.{Context}
use Rattle.xs_eval_spec.specs.Evaluation.{chain, joined, joined_from, run_of, run_of_tree, runs_of, runs_of_trees}
use Rattle.xs_eval_spec.specs.Operators.{operated}
use Rattle.xs_eval_spec.specs.Paths.{Meaning, all_filtered, and_from, is_here, kept_of, path, selected, step, steps_from, tested, through}
use Rattle.xs_eval_spec.specs.Results.{given, nodes_in}
use Rattle.xs_eval.specs.steps.Unions.{IsOnlyStep, and_step, and_tested, are_plain, is_plain, is_step, is_union_of_steps}
use Rattle.xs_eval.specs.steps.Unions.{plain_among, plain_step, test_alone, test_of, united}
use Rattle.xs_eval_spec.proofs.AxisListLemmas.{tested-some}
use Rattle.xs_eval_spec.proofs.InsideLemmas.{in_order_all}

-- ---- runs, and what follows them

abbrev RunBy : {A : Type 0} → ℕ → Answer A → Run A
RunBy n e = record { cost = n; end = e }

no_ticks : {A : Type 0} (r : Run A) → costs 0 r ≡ r
no_ticks r = let d : 0 + r.cost ≡ r.cost = omega arith in ap (λ k. RunBy k r.end) d

more_ticks : {A : Type 0} (n m : ℕ) (r : Run A) → costs (n + m) r ≡ costs n (costs m r)
more_ticks n m r = let d : (n + m) + r.cost ≡ n + (m + r.cost) = omega arith in ap (λ k. RunBy k r.end) d

ticks_first : {A B : Type 0} (n m : ℕ) (e : Answer A) (f : A → Run B) → go_on (n + m) e f ≡ costs n (go_on m e f)
ticks_first n m (Gives x) f = more_ticks n m (f x)
ticks_first n m (Faults g) f = refl
ticks_first n m (Lacks g) f = refl

after_ticks : {A B : Type 0} (n : ℕ) (r : Run A) (f : A → Run B) → (costs n r >>= f) ≡ costs n (r >>= f)
after_ticks n r f = ticks_first n r.cost r.end f

after_value : {A B : Type 0} (n : ℕ) (x : A) (f : A → Run B) → (costs n (give x) >>= f) ≡ costs n (f x)
after_value n x f = after_ticks n (give x) f ∙ ap (costs n) (no_ticks (f x))

then_same : {A B : Type 0} (n : ℕ) (e : Answer A) (f h : A → Run B) → ((x : A) → f x ≡ h x) → go_on n e f ≡ go_on n e h
then_same n (Gives x) f h q = ap (costs n) (q x)
then_same n (Faults g) f h q = refl
then_same n (Lacks g) f h q = refl

then_then : {A B C : Type 0} (n : ℕ) (e : Answer A) (f : A → Run B) (h : B → Run C) → (go_on n e f >>= h) ≡ go_on n e (λ x. f x >>= h)
then_then n (Gives x) f h = ticks_first n (f x).cost (f x).end h
then_then n (Faults g) f h = refl
then_then n (Lacks g) f h = refl

given_alone : {A : Type 0} (n : ℕ) (e : Answer A) → go_on n e (λ x. give x) ≡ RunBy n e
given_alone n (Gives x) = let d : n + 0 ≡ n = omega arith in ap (λ k. RunBy k (Gives x)) d
given_alone n (Faults g) = refl
given_alone n (Lacks g) = refl

then_give : {A : Type 0} (r : Run A) → (r >>= (λ x. give x)) ≡ r
then_give r = given_alone r.cost r.end

-- ---- a relative path of one step

abbrev from_here : Meaning
from_here c = give (Nodes (c.node ∷ []))

abbrev ordered : Value → Run Value
ordered v = (given (nodes_in v) >>= (λ ns. give (in_order ns))) >>= (λ ns. give (Nodes ns))

path_orders : (m : Meaning) (c : Context) → path from_here (m ∷ []) c ≡ (m c >>= ordered)
path_orders m c =
    ap (λ r. r >>= steps_from c (m ∷ [])) (no_ticks (give (c.node ∷ [])))
    ∙ no_ticks (steps_from c (m ∷ []) (c.node ∷ []))
    ∙ ap (λ r. r >>= (λ ns. give (Nodes ns))) (then_give (through c (c.node ∷ []) m))
    ∙ ap (λ r. (r >>= (λ ns. give (in_order ns))) >>= (λ ns. give (Nodes ns))) (then_give (and_from c m [] c.node) ∙ then_give (selected m c))
    ∙ ap (λ r. r >>= (λ ns. give (Nodes ns))) (then_then (m c).cost (m c).end (λ v. given (nodes_in v)) (λ ns. give (in_order ns)))
    ∙ then_then (m c).cost (m c).end (λ v. given (nodes_in v) >>= (λ ns. give (in_order ns))) (λ ns. give (Nodes ns))

orders_again : (ns : List ℕ) → (give (Nodes (in_order ns)) >>= ordered) ≡ give (Nodes (in_order ns))
orders_again ns =
    no_ticks (ordered (Nodes (in_order ns)))
    ∙ ap (λ r. r >>= (λ ks. give (Nodes ks))) (no_ticks (give (in_order (in_order ns))))
    ∙ no_ticks (give (Nodes (in_order (in_order ns))))
    ∙ ap (λ ks. give (Nodes ks)) (in_order-same (in_order ns) (in_order-list ns))

step_ordered : (axis : Axis) (test : NodeTest) (ms : List Meaning) (c : Context) → (step axis test ms c >>= ordered) ≡ step axis test ms c
step_ordered axis test ms c =
    let ns = tested axis test c in
    let kept = all_filtered c ns ms in
    after_ticks (length ns) (kept_of c ms ns) ordered
    ∙ ap (costs (length ns)) (then_then kept.cost kept.end (λ ks. give (Nodes (in_order ks))) ordered
    ∙ then_same kept.cost kept.end (λ ks. give (Nodes (in_order ks)) >>= ordered) (λ ks. give (Nodes (in_order ks))) orders_again)

step_runs : (axis : Axis) (test : NodeTest) (ms : List Meaning) (c : Context) → path from_here (step axis test ms ∷ []) c ≡ step axis test ms c
step_runs axis test ms c = path_orders (step axis test ms) c ∙ step_ordered axis test ms c

step_alone : (keys : List Table) (t : Tree) (c : Context) → is_step t ≡ true → path from_here (run_of_tree keys t ∷ []) c ≡ run_of_tree keys t c
step_alone keys (syntax.number n) c h = absurd (cc)
step_alone keys (syntax.literal text) c h = absurd (cc)
step_alone keys (syntax.variable uri local slot) c h = absurd (cc)
step_alone keys (syntax.call function es) c h = absurd (cc)
step_alone keys (syntax.negative signs e) c h = absurd (cc)
step_alone keys (syntax.chain ops es) c h = absurd (cc)
step_alone keys (syntax.group e) c h = absurd (cc)
step_alone keys syntax.here c h = absurd (cc)
step_alone keys syntax.root c h = absurd (cc)
step_alone keys (syntax.step axis test es) c h = step_runs axis test (runs_of_trees keys es) c
step_alone keys syntax.descend c h = absurd (cc)
step_alone keys (syntax.filter e es) c h = absurd (cc)
step_alone keys (syntax.path start es) c h = absurd (cc)

here_is : (t : Tree) → is_here t ≡ true → t ≡ syntax.here
here_is (syntax.number n) h = absurd (cc)
here_is (syntax.literal text) h = absurd (cc)
here_is (syntax.variable uri local slot) h = absurd (cc)
here_is (syntax.call function es) h = absurd (cc)
here_is (syntax.negative signs e) h = absurd (cc)
here_is (syntax.chain ops es) h = absurd (cc)
here_is (syntax.group e) h = absurd (cc)
here_is syntax.here h = refl
here_is syntax.root h = absurd (cc)
here_is (syntax.step _ _ _) h = absurd (cc)
here_is syntax.descend h = absurd (cc)
here_is (syntax.filter e es) h = absurd (cc)
here_is (syntax.path start es) h = absurd (cc)

pub only_runs : (keys : List Table) (start : Expr) (steps : List Expr) (e : Expr) (c : Context) → IsOnlyStep start steps e
    → path (run_of keys start) (runs_of keys steps) c ≡ run_of keys e c
only_runs keys start steps e c h =
    ap (λ es. path (run_of keys start) (runs_of keys es) c) h.alone
    ∙ ap (λ t. path (run_of_tree keys t) (run_of keys e ∷ []) c) (here_is (tree_from start) h.here)
    ∙ step_alone keys (tree_from e) c h.kind

-- ---- one without predicates

abbrev step_by : Option (Axis × NodeTest) → Tree
step_by None = syntax.here
step_by (Some a) = syntax.step a.0 a.1 no_trees

test_is : (t : Tree) (a : Axis × NodeTest) → test_of t ≡ Some a → t ≡ syntax.step a.0 a.1 no_trees
test_is (syntax.number n) a h = absurd (cc)
test_is (syntax.literal text) a h = absurd (cc)
test_is (syntax.variable uri local slot) a h = absurd (cc)
test_is (syntax.call function es) a h = absurd (cc)
test_is (syntax.negative signs e) a h = absurd (cc)
test_is (syntax.chain ops es) a h = absurd (cc)
test_is (syntax.group e) a h = absurd (cc)
test_is syntax.here a h = absurd (cc)
test_is syntax.root a h = absurd (cc)
test_is (syntax.step axis test no_trees) a h = ap step_by h
test_is (syntax.step _ _ (first_tree e es)) a h = absurd (cc)
test_is syntax.descend a h = absurd (cc)
test_is (syntax.filter e es) a h = absurd (cc)
test_is (syntax.path start es) a h = absurd (cc)

test_alone_is : (es : Trees) (a : Axis × NodeTest) → test_alone es ≡ Some a → es ≡ first_tree (syntax.step a.0 a.1 no_trees) no_trees
test_alone_is no_trees a h = absurd (cc)
test_alone_is (first_tree e no_trees) a h = ap (λ t. first_tree t no_trees) (test_is e a h)
test_alone_is (first_tree e (first_tree f fs)) a h = absurd (cc)

if_some : {A : Type 0} (b : Bool) (o : Option A) (a : A) → cond b o None ≡ Some a → (b ≡ true) × (o ≡ Some a)
if_some true o a h = (refl, h)
if_some false o a h = absurd (cc)

-- the run of a step's nodes, with a tick for each
abbrev Tests : Context → Axis × NodeTest → Run Value
Tests c a = costs (length (tested a.0 a.1 c)) (give (Nodes (in_order (tested a.0 a.1 c))))

among_runs : (keys : List Table) (start : Tree) (es : Trees) (a : Axis × NodeTest) (c : Context) → plain_among start es ≡ Some a
    → run_of_tree keys (syntax.path start es) c ≡ Tests c a
among_runs keys start es a c h =
    let both = if_some (is_here start) (test_alone es) a h in
    ap (λ t. path (run_of_tree keys t) (runs_of_trees keys es) c) (here_is start both.0)
    ∙ ap (λ ts. path from_here (runs_of_trees keys ts) c) (test_alone_is es a both.1)
    ∙ step_runs a.0 a.1 [] c
    ∙ ap (costs (length (tested a.0 a.1 c))) (no_ticks (give (Nodes (in_order (tested a.0 a.1 c)))))

plain_runs : (keys : List Table) (t : Tree) (a : Axis × NodeTest) (c : Context) → plain_step t ≡ Some a → run_of_tree keys t c ≡ Tests c a
plain_runs keys (syntax.number n) a c h = absurd (cc)
plain_runs keys (syntax.literal text) a c h = absurd (cc)
plain_runs keys (syntax.variable uri local slot) a c h = absurd (cc)
plain_runs keys (syntax.call function es) a c h = absurd (cc)
plain_runs keys (syntax.negative signs e) a c h = absurd (cc)
plain_runs keys (syntax.chain ops es) a c h = absurd (cc)
plain_runs keys (syntax.group e) a c h = absurd (cc)
plain_runs keys syntax.here a c h = absurd (cc)
plain_runs keys syntax.root a c h = absurd (cc)
plain_runs keys (syntax.step _ _ _) a c h = absurd (cc)
plain_runs keys syntax.descend a c h = absurd (cc)
plain_runs keys (syntax.filter e es) a c h = absurd (cc)
plain_runs keys (syntax.path start es) a c h = among_runs keys start es a c h

-- ---- nodes that are put in order twice

one_of : (P : List ℕ → Type 0) (b : Bool) (xs ys : List ℕ) → (b ≡ true → P xs) → P ys → P (cond b xs ys)
one_of P true xs ys p q = p refl
one_of P false xs ys p q = q

first_in : (z : ℕ) (ks : List ℕ) → Contains (z ∷ ks) z
first_in z ks = (0, omega arith, refl)

with_node_has : (n : ℕ) (ks : List ℕ) → Contains (with_node n ks) n
with_node_has n [] = first_in n []
with_node_has n (k ∷ ks) =
    one_of (λ l. Contains l n) (n == k) (k ∷ ks) (cond (nat_lt n k) (n ∷ k ∷ ks) (k ∷ with_node n ks))
    (λ e. subst (λ j. Contains (j ∷ ks) n) (eqb-true n k e) (first_in n ks))
    (one_of (λ l. Contains l n) (nat_lt n k) (n ∷ k ∷ ks) (k ∷ with_node n ks) (λ e. first_in n (k ∷ ks))
    (Contains-append_right (k ∷ []) (with_node n ks) n (with_node_has n ks)))

with_node_keeps : (n z : ℕ) (ks : List ℕ) → Contains ks z → Contains (with_node n ks) z
with_node_keeps n z [] h = absurd (nil-contains z h)
with_node_keeps n z (k ∷ ks) h =
    one_of (λ l. Contains l z) (n == k) (k ∷ ks) (cond (nat_lt n k) (n ∷ k ∷ ks) (k ∷ with_node n ks)) (λ e. h)
    (one_of (λ l. Contains l z) (nat_lt n k) (n ∷ k ∷ ks) (k ∷ with_node n ks) (λ e. Contains-append_right (n ∷ []) (k ∷ ks) z h)
    (elim (Contains-append_cases (k ∷ []) ks z h) as (λ _. Contains (k ∷ with_node n ks) z) [
      | inl a ↦ Contains-append_left (k ∷ []) (with_node n ks) z a
      | inr b ↦ Contains-append_right (k ∷ []) (with_node n ks) z (with_node_keeps n z ks b)
    ]))

orders_all : (z : ℕ) (ns : List ℕ) → Contains ns z → Contains (in_order ns) z
orders_all z [] h = h
orders_all z (n ∷ ns) h =
    elim (Contains-append_cases (n ∷ []) ns z h) as (λ _. Contains (with_node n (in_order ns)) z) [
      | inl a ↦ subst (λ j. Contains (with_node n (in_order ns)) j) (only_one a) (with_node_has n (in_order ns))
      | inr b ↦ with_node_keeps n z (in_order ns) (orders_all z ns b)
    ]
  where
    only_one : Contains (n ∷ []) z → n ≡ z
    only_one (zero, l, e) = e
    only_one (suc k, l, e) = absurd (omega (arith, l))

orders_only : (z : ℕ) (ns : List ℕ) → Contains (in_order ns) z → Contains ns z
orders_only z ns h = All-contains (Contains ns) (in_order ns) z (in_order_all (Contains ns) ns (All-contains_itself ns)) h

both_orders : (xs ys : List ℕ) → in_order (in_order xs ++ in_order ys) ≡ in_order (xs ++ ys)
both_orders xs ys =
    same_nodes (in_order xs ++ in_order ys) (xs ++ ys)
    (λ z h. elim (Contains-append_cases (in_order xs) (in_order ys) z h) as (λ _. Contains (xs ++ ys) z) [
      | inl a ↦ Contains-append_left xs ys z (orders_only z xs a)
      | inr b ↦ Contains-append_right xs ys z (orders_only z ys b)
    ])
    (λ z h. elim (Contains-append_cases xs ys z h) as (λ _. Contains (in_order xs ++ in_order ys) z) [
      | inl a ↦ Contains-append_left (in_order xs) (in_order ys) z (orders_all z xs a)
      | inr b ↦ Contains-append_right (in_order xs) (in_order ys) z (orders_all z ys b)
    ])

-- ---- unions

union_is : (op : Operator) → is_union op ≡ true → op ≡ Union
union_is Or h = absurd (cc)
union_is And h = absurd (cc)
union_is Equal h = absurd (cc)
union_is Unequal h = absurd (cc)
union_is Less h = absurd (cc)
union_is LessEqual h = absurd (cc)
union_is Greater h = absurd (cc)
union_is GreaterEqual h = absurd (cc)
union_is Plus h = absurd (cc)
union_is Minus h = absurd (cc)
union_is Times h = absurd (cc)
union_is Div h = absurd (cc)
union_is FloorDiv h = absurd (cc)
union_is CeilingDiv h = absurd (cc)
union_is NearestDiv h = absurd (cc)
union_is Mod h = absurd (cc)
union_is Union h = refl

and_both : (a b : Bool) → (a && b) ≡ true → (a ≡ true) × (b ≡ true)
and_both true b h = (refl, h)
and_both false b h = absurd (cc)

is_some : (o : Option (Axis × NodeTest)) → is_plain o ≡ true → (a : Axis × NodeTest) × (o ≡ Some a)
is_some (Some a) h = (a, refl)
is_some None h = absurd (cc)

joins : (found ns : List ℕ) (n : ℕ) (m : Meaning) (c : Context) → m c ≡ costs n (give (Nodes (in_order ns)))
    → joined Union (Nodes (in_order found)) m c ≡ costs n (give (Nodes (in_order (found ++ ns))))
joins found ns n m c h =
    let left = Nodes (in_order found) in
    ap (λ r. r >>= (λ v. given (operated Union c.tree left v))) h
    ∙ after_value n (Nodes (in_order ns)) (λ v. given (operated Union c.tree left v))
    ∙ ap (λ l. costs n (give (Nodes l))) (both_orders found ns)

abbrev in_one : List ℕ → Run Value
in_one ns = give (Nodes (in_order ns))

one_step : (c : Context) (found : List ℕ) (e : Expr) (es : List Expr) (a : Axis × NodeTest) → plain_step (tree_from e) ≡ Some a
    → (fold (and_step c) found (e ∷ es) >>= in_one)
    ≡ costs (length (tested a.0 a.1 c)) (fold (and_step c) (found ++ tested a.0 a.1 c) es >>= in_one)
one_step c found e es a h =
    let ns = tested a.0 a.1 c in
    ap (λ o. (and_tested c found o >>= (λ l. fold (and_step c) l es)) >>= in_one) h
    ∙ ap (λ r. r >>= in_one) (after_value (length ns) (found ++ ns) (λ l. fold (and_step c) l es))
    ∙ after_ticks (length ns) (fold (and_step c) (found ++ ns) es) in_one

joins_all : (keys : List Table) (c : Context) (found : List ℕ) (ops : List Operator) (es : List Expr) → length ops ≡ length es → are_unions ops ≡ true
    → are_plain (trees (trees_from es)) ≡ true → joined_from c (Nodes (in_order found)) ops (runs_of keys es) ≡ (fold (and_step c) found es >>= in_one)
joins_all keys c found [] [] l u p = sym (no_ticks (in_one found))
joins_all keys c found (op ∷ ops) [] l u p = absurd (omega (arith, l))
joins_all keys c found [] (e ∷ es) l u p = absurd (omega (arith, l))
joins_all keys c found (op ∷ ops) (e ∷ es) l u p =
    let us = and_both (is_union op) (are_unions ops) u in
    let ps = and_both (is_plain (plain_step (tree_from e))) (are_plain (trees (trees_from es))) p in
    let some = is_some (plain_step (tree_from e)) ps.0 in
    let a = some.0 in
    let ns = tested a.0 a.1 c in
    ap (λ o. joined_from c (Nodes (in_order found)) (o ∷ ops) (runs_of keys (e ∷ es))) (union_is op us.0)
    ∙ ap (λ r. r >>= (λ v. joined_from c v ops (runs_of keys es))) (joins found ns (length ns) (run_of keys e) c (plain_runs keys (tree_from e) a c some.1))
    ∙ after_value (length ns) (Nodes (in_order (found ++ ns))) (λ v. joined_from c v ops (runs_of keys es))
    ∙ ap (costs (length ns)) (joins_all keys c (found ++ ns) ops es (omega (arith, l)) us.1 ps.1)
    ∙ sym (one_step c found e es a some.1)

chain_unites : (keys : List Table) (ops : List Operator) (es : List Expr) (c : Context) → length ops + 1 ≡ length es → are_unions ops ≡ true
    → are_plain (trees (trees_from es)) ≡ true → chain ops (runs_of keys es) c ≡ united c es
chain_unites keys ops [] c l u p = absurd (omega (arith, l))
chain_unites keys ops (e ∷ es) c l u p =
    let ps = and_both (is_plain (plain_step (tree_from e))) (are_plain (trees (trees_from es))) p in
    let some = is_some (plain_step (tree_from e)) ps.0 in
    let a = some.0 in
    let ns = tested a.0 a.1 c in
    ap (λ r. r >>= (λ v. joined_from c v ops (runs_of keys es))) (plain_runs keys (tree_from e) a c some.1)
    ∙ after_value (length ns) (Nodes (in_order ns)) (λ v. joined_from c v ops (runs_of keys es))
    ∙ ap (costs (length ns)) (joins_all keys c ns ops es (omega (arith, l)) u ps.1)
    ∙ sym (one_step c [] e es a some.1)

pub union_runs : (keys : List Table) (ops : List Operator) (es : List Expr) (c : Context) → is_union_of_steps ops es ≡ true
    → chain ops (runs_of keys es) c ≡ united c es
union_runs keys ops es c h =
    let last = and_both ((length ops + 1 == length es) && are_unions ops) (are_plain (trees (trees_from es))) h in
    let first = and_both (length ops + 1 == length es) (are_unions ops) last.0 in
    chain_unites keys ops es c (eqb-true (length ops + 1) (length es) first.0) first.1 last.1

-- what holds in any case
pub always : {A E : Type 0} {Q : Type 0} (r : Result A E) → Q → OnOk r Q
always (Ok x) h = h
always (Err e) h = tt

pub steps_inside : (c : Context) (axis : Axis) (test : NodeTest) (old new : List ℕ) → new ≡ old ++ tested axis test c
    → All (λ k. k < length c.tree) old → All (λ k. k < length c.tree) new
steps_inside c axis test old new f h =
    subst (All (λ k. k < length c.tree)) (sym f) (All-append (λ k. k < length c.tree) old (tested axis test c) h (tested-some axis test c).inside)
