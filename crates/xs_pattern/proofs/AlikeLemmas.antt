-- An expression that calls neither `key` nor `current` says the same whatever the keys and the current node.
use Rattle.std.proofs.Common.{◌≡◌, ℕ, ◌++◌, not, Bool, true, false, cond, List, [], ◌∷◌, filter, length, map, Option, Some, None, refl, sym, ap, ◌∙◌}
use Rattle.std.proofs.lemmas.Bool.{and_parts, true≢false}
use Rattle.std.specs.List.{enumerate_from}
use Rattle.std.specs.Option.{option_map_or}
use Rattle.xs_trace.specs.Run.{Run, costs, fold, give, tick, ◌>>=◌}
use Rattle.xs_tree.specs.declared.axes.Axis.{Axis}
use Rattle.xs_tree.specs.declared.axes.Axis.TheVariants.{DescendantOrSelf}
use Rattle.xs_value.specs.NodeSet.{in_order}
use Rattle.xs_value.specs.Tables.{Table}
use Rattle.xs_value.specs.declared.value.Value.{Value}
use Rattle.xs_value.specs.declared.value.Value.TheVariants.{Nodes}
use Rattle.xs_xpath.specs.Patterns.{is_key, is_pattern_axis}
use Rattle.xs_xpath.specs.Tree as syntax
use Rattle.xs_xpath.specs.Tree.{Tree, Trees, no_trees, first_tree}
use Rattle.xs_xpath.specs.Uses.{is_current, is_sought_call, use_any, uses, uses_current, uses_key}
use Rattle.xs_xpath.specs.declared.name.Function.{Function}
use Rattle.xs_xpath.specs.declared.name.Function.TheVariants as function
use Rattle.xs_xpath.specs.declared.name.NodeTest.{NodeTest}
use Rattle.xs_xpath.specs.declared.name.NodeTest.TheVariants.{Node}
use Rattle.xs_xpath.specs.declared.name.Slot.{Slot}
use Rattle.xs_xpath.specs.declared.name.Slot.TheVariants.{Global, Local}
use Rattle.xs_xpath.specs.declared.token.Operator.{Operator}
use Rattle.xs_eval_spec.specs.Calls as calls
use Rattle.xs_eval_spec.specs.Calls.{called}
use Rattle.xs_eval_spec.specs.Context.{Context, at_node}
use Rattle.xs_eval_spec.specs.Evaluation.{and_argument, answered, arguments, called_of, chain, joined, joined_from, negative, run_of_tree, runs_of_trees, unless}
use Rattle.xs_eval_spec.specs.Evaluation.{variable}
use Rattle.xs_eval_spec.specs.Functions.{first, second}
use Rattle.xs_eval_spec.specs.Keys.{keyed}
use Rattle.xs_eval_spec.specs.Operators.{decided, negation, operated}
use Rattle.xs_eval_spec.specs.Paths.{Meaning, all_filtered, and_from, filter_expr, filtered, judged, kept_if, kept_of, path, selected, selects, step, steps_from}
use Rattle.xs_eval_spec.specs.Paths.{tested}
use Rattle.xs_eval_spec.specs.Paths.{through}
use Rattle.xs_eval_spec.specs.Results.{given, nodes_in}
use Rattle.xs_pattern_spec.specs.Matching as pattern
use Rattle.xs_pattern_spec.specs.Predicates.{all_kept, holds, kept, value_in}
use Rattle.xs_pattern.specs.steps.PathTables.{is_free}
use Rattle.xs_pattern.proofs.PlaceLemmas.{bind-same, fold-same, or-none}

-- a context with another current node
abbrev pub seen : Context → ℕ → Context
seen c x = record {
  tree = c.tree;
  node = c.node;
  position = c.position;
  size = c.size;
  current = x;
  locals = c.locals;
  globals = c.globals;
  scope = c.scope;
}

-- two that say the same, each with a current node of its own
abbrev pub Alike : Meaning → Meaning → Type 0
Alike m w = (c : Context) (x y : ℕ) → m (seen c x) ≡ w (seen c y)

-- ---- steps and predicates

filtered-alike : (m w : Meaning) → Alike m w → (c : Context) (x y : ℕ) (ns : List ℕ) → filtered (seen c x) ns m ≡ filtered (seen c y) ns w
filtered-alike m w s c x y ns =
    fold-same (judged (seen c x) (length ns) m) (judged (seen c y) (length ns) w) [] (enumerate_from 1 ns)
    (λ found placed. bind-same (m (seen (at_node c placed.1 placed.0 (length ns)) x)) (w (seen (at_node c placed.1 placed.0 (length ns)) y))
    (λ v. give (kept_if (selects v placed.0) found placed.1)) (λ v. give (kept_if (selects v placed.0) found placed.1))
    (s (at_node c placed.1 placed.0 (length ns)) x y) (λ v. refl))

selected-alike : (m w : Meaning) → Alike m w → (c : Context) (x y : ℕ) → selected m (seen c x) ≡ selected w (seen c y)
selected-alike m w s c x y = bind-same (m (seen c x)) (w (seen c y)) (λ v. given (nodes_in v)) (λ v. given (nodes_in v)) (s c x y) (λ v. refl)

-- a step of a path from each of some nodes
through-alike : (m w : Meaning) → Alike m w → (c : Context) (x y : ℕ) (ns : List ℕ) → through (seen c x) ns m ≡ through (seen c y) ns w
through-alike m w s c x y ns =
    bind-same (fold (and_from (seen c x) m) [] ns) (fold (and_from (seen c y) w) [] ns) (λ found. give (in_order found)) (λ found. give (in_order found))
    (fold-same (and_from (seen c x) m) (and_from (seen c y) w) [] ns
    (λ found i. bind-same (selected m (seen (at_node c i c.position c.size) x)) (selected w (seen (at_node c i c.position c.size) y))
    (λ is. give (found ++ is)) (λ is. give (found ++ is)) (selected-alike m w s (at_node c i c.position c.size) x y) (λ is. refl)))
    (λ found. refl)

negative-alike : (signs : ℕ) (m w : Meaning) → Alike m w → Alike (negative signs m) (negative signs w)
negative-alike signs m w s c x y =
    bind-same (m (seen c x)) (w (seen c y)) (λ v. given (negation signs c.tree v)) (λ v. given (negation signs c.tree v)) (s c x y) (λ v. refl)

variable-alike : (slot : Option Slot) → Alike (variable slot) (variable slot)
variable-alike None c x y = refl
variable-alike (Some (Local i)) c x y = refl
variable-alike (Some (Global i)) c x y = refl

-- ---- calls

called-alike : (c : Context) (x y : ℕ) (f : Function) (vs : List Value) → is_current f ≡ false → called (seen c x) f vs ≡ called (seen c y) f vs
called-alike c x y function.Current vs h = absurd (true≢false h)
called-alike c x y _ vs h = refl

no-key : (f : Function) → is_key f ≡ false → calls.is_key f ≡ false
no-key function.Key h = absurd (true≢false h)
no-key _ h = refl

answered-alike : (keys others : List Table) (c : Context) (x y : ℕ) (f : Function) (vs : List Value) → is_key f ≡ false → is_current f ≡ false
    → answered keys (seen c x) f vs ≡ answered others (seen c y) f vs
answered-alike keys others c x y f vs k h =
    ap (λ b. cond b (keyed keys (seen c x) (first vs) (second vs)) (given (called (seen c x) f vs))) (no-key f k)
    ∙ ap given (called-alike c x y f vs h)
    ∙ sym (ap (λ b. cond b (keyed others (seen c y) (first vs) (second vs)) (given (called (seen c y) f vs))) (no-key f k))

-- ---- each expression

module _ (keys others : List Table) where
  abbrev pub AllAlike : Trees → Type 0
  AllAlike no_trees = Unit {0}
  AllAlike (first_tree e es) = Alike (run_of_tree keys e) (run_of_tree others e) × AllAlike es

  all-filtered-alike : (es : Trees) → AllAlike es → (c : Context) (x y : ℕ) (ns : List ℕ)
      → all_filtered (seen c x) ns (runs_of_trees keys es) ≡ all_filtered (seen c y) ns (runs_of_trees others es)
  all-filtered-alike no_trees s c x y ns = refl
  all-filtered-alike (first_tree e es) s c x y ns =
      bind-same (filtered (seen c x) ns (run_of_tree keys e)) (filtered (seen c y) ns (run_of_tree others e))
      (λ is. all_filtered (seen c x) is (runs_of_trees keys es)) (λ is. all_filtered (seen c y) is (runs_of_trees others es))
      (filtered-alike (run_of_tree keys e) (run_of_tree others e) s.0 c x y ns) (λ is. all-filtered-alike es s.1 c x y is)

  kept-of-alike : (es : Trees) → AllAlike es → (c : Context) (x y : ℕ) (ns : List ℕ)
      → kept_of (seen c x) (runs_of_trees keys es) ns ≡ kept_of (seen c y) (runs_of_trees others es) ns
  kept-of-alike es s c x y ns =
      bind-same (all_filtered (seen c x) ns (runs_of_trees keys es)) (all_filtered (seen c y) ns (runs_of_trees others es))
      (λ is. give (Nodes (in_order is))) (λ is. give (Nodes (in_order is))) (all-filtered-alike es s c x y ns) (λ is. refl)

  step-alike : (axis : Axis) (which : NodeTest) (es : Trees) → AllAlike es
      → Alike (step axis which (runs_of_trees keys es)) (step axis which (runs_of_trees others es))
  step-alike axis which es s c x y =
      ap (λ r. costs (length (tested axis which (seen c y))) r) (kept-of-alike es s c x y (tested axis which (seen c y)))

  filter-alike : (m w : Meaning) (es : Trees) → Alike m w → AllAlike es
      → Alike (filter_expr m (runs_of_trees keys es)) (filter_expr w (runs_of_trees others es))
  filter-alike m w es s t c x y =
      bind-same (selected m (seen c x)) (selected w (seen c y)) (λ ns. kept_of (seen c x) (runs_of_trees keys es) ns)
      (λ ns. kept_of (seen c y) (runs_of_trees others es) ns) (selected-alike m w s c x y) (λ ns. kept-of-alike es t c x y ns)

  reached-alike : (es : Trees) → AllAlike es → (c : Context) (x y : ℕ) (ns : List ℕ)
      → fold (through (seen c x)) ns (runs_of_trees keys es) ≡ fold (through (seen c y)) ns (runs_of_trees others es)
  reached-alike no_trees s c x y ns = refl
  reached-alike (first_tree e es) s c x y ns =
      bind-same (through (seen c x) ns (run_of_tree keys e)) (through (seen c y) ns (run_of_tree others e))
      (λ is. fold (through (seen c x)) is (runs_of_trees keys es)) (λ is. fold (through (seen c y)) is (runs_of_trees others es))
      (through-alike (run_of_tree keys e) (run_of_tree others e) s.0 c x y ns) (λ is. reached-alike es s.1 c x y is)

  path-alike : (m w : Meaning) (es : Trees) → Alike m w → AllAlike es → Alike (path m (runs_of_trees keys es)) (path w (runs_of_trees others es))
  path-alike m w es s t c x y =
      bind-same (selected m (seen c x)) (selected w (seen c y)) (λ ns. steps_from (seen c x) (runs_of_trees keys es) ns)
      (λ ns. steps_from (seen c y) (runs_of_trees others es) ns) (selected-alike m w s c x y)
      (λ ns. bind-same (fold (through (seen c x)) ns (runs_of_trees keys es)) (fold (through (seen c y)) ns (runs_of_trees others es))
      (λ reached. give (Nodes reached)) (λ reached. give (Nodes reached)) (reached-alike es t c x y ns) (λ reached. refl))

  arguments-alike : (es : Trees) → AllAlike es → (c : Context) (x y : ℕ) (vs : List Value)
      → fold (and_argument (seen c x)) vs (runs_of_trees keys es) ≡ fold (and_argument (seen c y)) vs (runs_of_trees others es)
  arguments-alike no_trees s c x y vs = refl
  arguments-alike (first_tree e es) s c x y vs =
      bind-same (and_argument (seen c x) vs (run_of_tree keys e)) (and_argument (seen c y) vs (run_of_tree others e))
      (λ us. fold (and_argument (seen c x)) us (runs_of_trees keys es)) (λ us. fold (and_argument (seen c y)) us (runs_of_trees others es))
      (bind-same (run_of_tree keys e (seen c x)) (run_of_tree others e (seen c y)) (λ v. give (vs ++ v ∷ [])) (λ v. give (vs ++ v ∷ [])) (s.0 c x y)
      (λ v. refl))
      (λ us. arguments-alike es s.1 c x y us)

  call-alike : (f : Function) (es : Trees) → is_key f ≡ false → is_current f ≡ false → AllAlike es
      → Alike (called_of keys f (runs_of_trees keys es)) (called_of others f (runs_of_trees others es))
  call-alike f es k h s c x y =
      ap tick
      (bind-same (arguments (seen c x) (runs_of_trees keys es)) (arguments (seen c y) (runs_of_trees others es)) (answered keys (seen c x) f)
      (answered others (seen c y) f) (arguments-alike es s c x y []) (λ vs. answered-alike keys others c x y f vs k h))

  joined-alike : (es : Trees) → AllAlike es → (c : Context) (x y : ℕ) (left : Value) (ops : List Operator)
      → joined_from (seen c x) left ops (runs_of_trees keys es) ≡ joined_from (seen c y) left ops (runs_of_trees others es)
  joined-alike no_trees s c x y left ops = refl
  joined-alike (first_tree e es) s c x y left [] = refl
  joined-alike (first_tree e es) s c x y left (op ∷ ops) =
      bind-same (joined op left (run_of_tree keys e) (seen c x)) (joined op left (run_of_tree others e) (seen c y))
      (λ v. joined_from (seen c x) v ops (runs_of_trees keys es)) (λ v. joined_from (seen c y) v ops (runs_of_trees others es))
      (ap (unless (decided op left))
      (bind-same (run_of_tree keys e (seen c x)) (run_of_tree others e (seen c y)) (λ v. given (operated op c.tree left v))
      (λ v. given (operated op c.tree left v)) (s.0 c x y) (λ v. refl)))
      (λ v. joined-alike es s.1 c x y v ops)

  chain-alike : (ops : List Operator) (es : Trees) → AllAlike es → Alike (chain ops (runs_of_trees keys es)) (chain ops (runs_of_trees others es))
  chain-alike ops no_trees s c x y = refl
  chain-alike ops (first_tree e es) s c x y =
      bind-same (run_of_tree keys e (seen c x)) (run_of_tree others e (seen c y)) (λ v. joined_from (seen c x) v ops (runs_of_trees keys es))
      (λ v. joined_from (seen c y) v ops (runs_of_trees others es)) (s.0 c x y) (λ v. joined-alike es s.1 c x y v ops)

  -- what is sought is any two things that find the calls
  mutual
    without : (s t : _) → ((f : Function) → is_sought_call s f ≡ false → is_key f ≡ false)
        → ((f : Function) → is_sought_call t f ≡ false → is_current f ≡ false)
        → (e : Tree) → uses s e ≡ false → uses t e ≡ false → Alike (run_of_tree keys e) (run_of_tree others e)
    without s t key current (syntax.number i) k h c x y = refl
    without s t key current (syntax.literal text) k h c x y = refl
    without s t key current (syntax.variable uri local slot) k h c x y = variable-alike slot c x y
    without s t key current (syntax.call f es) k h c x y =
        let no = or-none (is_sought_call s f) (use_any s es) k in
        let nor = or-none (is_sought_call t f) (use_any t es) h in
        call-alike f es (key f no.0) (current f nor.0) (all-without s t key current es no.1 nor.1) c x y
    without s t key current (syntax.negative signs e) k h c x y =
        negative-alike signs (run_of_tree keys e) (run_of_tree others e) (without s t key current e k h) c x y
    without s t key current (syntax.chain ops es) k h c x y = chain-alike ops es (all-without s t key current es k h) c x y
    without s t key current (syntax.group e) k h c x y = without s t key current e k h c x y
    without s t key current syntax.here k h c x y = refl
    without s t key current syntax.root k h c x y = refl
    without s t key current (syntax.step axis which es) k h c x y = step-alike axis which es (all-without s t key current es k h) c x y
    without s t key current syntax.descend k h c x y = step-alike DescendantOrSelf Node no_trees tt c x y
    without s t key current (syntax.filter e es) k h c x y =
        let no = or-none (uses s e) (use_any s es) k in
        let nor = or-none (uses t e) (use_any t es) h in
        filter-alike (run_of_tree keys e) (run_of_tree others e) es (without s t key current e no.0 nor.0) (all-without s t key current es no.1 nor.1) c x y
    without s t key current (syntax.path e es) k h c x y =
        let no = or-none (uses s e) (use_any s es) k in
        let nor = or-none (uses t e) (use_any t es) h in
        path-alike (run_of_tree keys e) (run_of_tree others e) es (without s t key current e no.0 nor.0) (all-without s t key current es no.1 nor.1) c x y

    all-without : (s t : _) → ((f : Function) → is_sought_call s f ≡ false → is_key f ≡ false)
        → ((f : Function) → is_sought_call t f ≡ false → is_current f ≡ false) → (es : Trees) → use_any s es ≡ false → use_any t es ≡ false → AllAlike es
    all-without s t key current no_trees k h = tt
    all-without s t key current (first_tree e es) k h =
        let no = or-none (uses s e) (use_any s es) k in
        let nor = or-none (uses t e) (use_any t es) h in
        (without s t key current e no.0 nor.0, all-without s t key current es no.1 nor.1)

  -- the predicates of a step
  pub step-without : (axis : Axis) (which : NodeTest) (es : Trees) → uses_key (syntax.step axis which es) ≡ false
      → uses_current (syntax.step axis which es) ≡ false → AllAlike es
  step-without axis which es k h = all-without _ _ (λ f no. no) (λ f no. no) es k h

-- ---- the predicates of a pattern

filter-same : {A : Type 0} (f g : A → Bool) (xs : List A) → ((a : A) → f a ≡ g a) → filter f xs ≡ filter g xs
filter-same f g [] h = refl
filter-same f g (a ∷ xs) h = ap (λ b. cond b (a ∷ filter f xs) (filter f xs)) (h a) ∙ ap (λ l. cond (g a) (a ∷ l) l) (filter-same f g xs h)

kept-alike : (m w : Meaning) → Alike m w → (c : Context) (x y : ℕ) (ns : List ℕ) → kept (seen c x) ns m ≡ kept (seen c y) ns w
kept-alike m w s c x y ns =
    ap (map (λ (placed : ℕ × ℕ). placed.1))
    (filter-same (holds (seen c x) m (length ns)) (holds (seen c y) w (length ns)) (enumerate_from 1 ns)
    (λ placed. ap (λ (r : Run Value). option_map_or (λ v. selects v placed.0) (value_in r.end) false)
    (s (at_node c placed.1 placed.0 (length ns)) x y)))

all-kept-alike : (keys others : List Table) (es : Trees) → AllAlike keys others es → (c : Context) (x y : ℕ) (ns : List ℕ)
    → all_kept (seen c x) ns (runs_of_trees keys es) ≡ all_kept (seen c y) ns (runs_of_trees others es)
all-kept-alike keys others no_trees s c x y ns = refl
all-kept-alike keys others (first_tree e es) s c x y ns =
    ap (λ (l : List ℕ). all_kept (seen c x) l (runs_of_trees keys es)) (kept-alike (run_of_tree keys e) (run_of_tree others e) s.0 c x y ns)
    ∙ all-kept-alike keys others es s.1 c x y (kept (seen c y) ns (run_of_tree others e))

not-true : (b : Bool) → not b ≡ true → b ≡ false
not-true true h = sym h
not-true false h = refl

-- what a step of a pattern selects
pub step-free : (keys others : List Table) (s : Tree) → is_free s ≡ true → (c : Context) (x y : ℕ)
    → pattern.selected keys s (seen c x) ≡ pattern.selected others s (seen c y)
step-free keys others (syntax.step axis which es) h c x y =
    let e : Tree = syntax.step axis which es in
    let both : (not (uses_key e) ≡ true) × (not (uses_current e) ≡ true) = and_parts (not (uses_key e)) (not (uses_current e)) h in
    ap (λ (l : List ℕ). cond (is_pattern_axis axis) l [])
    (all-kept-alike keys others es
    (step-without keys others axis which es (not-true (uses_key e) both.0) (not-true (uses_current e) both.1)) c x y (tested axis which (seen c y)))
step-free keys others _ h c x y = refl
