-- An expression that calls neither `position` nor `last` says the same at each position.
use Rattle.std.proofs.Common.{◌≡◌, ℕ, ◌||◌, ◌++◌, Bool, true, false, cond, List, [], ◌∷◌, length, Option, Some, None, refl, sym, ap, ◌∙◌}
use Rattle.std.proofs.lemmas.Bool.{true≢false}
use Rattle.std.specs.List.{enumerate_from}
use Rattle.std.specs.Option.{option_map_or}
use Rattle.xs_trace.specs.Run.{Answer, Gives, Faults, Lacks, Run, costs, fold, give, go_on, tick, ◌>>=◌}
use Rattle.xs_trace.specs.declared.fault.Fault.{Fault}
use Rattle.xs_tree.specs.declared.axes.Axis.{Axis}
use Rattle.xs_tree.specs.declared.axes.Axis.TheVariants.{DescendantOrSelf}
use Rattle.xs_value.specs.NodeSet.{in_order}
use Rattle.xs_value.specs.Tables.{Table, table_at}
use Rattle.xs_value.specs.declared.value.Value.{Value}
use Rattle.xs_value.specs.declared.value.Value.TheVariants.{Bool as Boolean, Number as Numeral, Chars, Nodes, Piece}
use Rattle.xs_xpath.specs.Tree as syntax
use Rattle.xs_xpath.specs.Tree.{Tree, Trees, no_trees, first_tree}
use Rattle.xs_xpath.specs.Uses.{is_place, is_sought_call, use_any, uses, uses_place}
use Rattle.xs_xpath.specs.declared.name.Function.{Function}
use Rattle.xs_xpath.specs.declared.name.Function.TheVariants as function
use Rattle.xs_xpath.specs.declared.name.NodeTest.{NodeTest}
use Rattle.xs_xpath.specs.declared.name.NodeTest.TheVariants.{Node}
use Rattle.xs_xpath.specs.declared.name.Slot.{Slot}
use Rattle.xs_xpath.specs.declared.name.Slot.TheVariants.{Global, Local}
use Rattle.xs_xpath.specs.declared.token.Operator.{Operator}
use Rattle.xs_eval_spec.specs.Calls.{called, is_key}
use Rattle.xs_eval_spec.specs.Context.{Context, at_node}
use Rattle.xs_eval_spec.specs.Evaluation.{and_argument, answered, arguments, called_of, chain, joined, joined_from, negative, run_of_tree, runs_of_trees, unless}
use Rattle.xs_eval_spec.specs.Evaluation.{variable}
use Rattle.xs_eval_spec.specs.Functions.{first, second}
use Rattle.xs_eval_spec.specs.Keys.{from_table, keyed, looked_up, number_of, sought}
use Rattle.xs_eval_spec.specs.Names.{expanded_name}
use Rattle.xs_eval_spec.specs.Operators.{decided, negation, operated}
use Rattle.xs_eval_spec.specs.Paths.{Meaning, all_filtered, and_from, filter_expr, filtered, judged, kept_of, path, selected, selects, step, steps_from, tested}
use Rattle.xs_eval_spec.specs.Paths.{through}
use Rattle.xs_eval_spec.specs.Results.{given, nodes_in}
use Rattle.xs_value.specs.Conversion.{text_value}
use Rattle.xs_pattern_spec.specs.Predicates.{value_in}
use Rattle.xs_pattern.specs.steps.Alone.{IsSaid, said, said_by}

-- what says the same at each position, among however many
abbrev pub Steady : Meaning → Type 0
Steady m = (c : Context) (n p k q j : ℕ) → m (at_node c n p k) ≡ m (at_node c n q j)

abbrev pub AllSteady : List Meaning → Type 0
AllSteady [] = Unit {0}
AllSteady (m ∷ ms) = Steady m × AllSteady ms

pub or-none : (a b : Bool) → (a || b) ≡ false → (a ≡ false) × (b ≡ false)
or-none true b h = absurd (true≢false h)
or-none false b h = (refl, h)

-- ---- runs

pub bind-same : {A B : Type 0} (r s : Run A) (f g : A → Run B) → r ≡ s → ((x : A) → f x ≡ g x) → (r >>= f) ≡ (s >>= g)
bind-same {A} {B} r s f g e h = ap (λ q. q >>= f) e ∙ by_end s.cost s.end
  where
    by_end : (n : ℕ) (a : Answer A) → go_on n a f ≡ go_on n a g
    by_end n (Gives x) = ap (costs n) (h x)
    by_end n (Faults t) = refl
    by_end n (Lacks t) = refl

pub fold-same : {A B : Type 0} (f g : B → A → Run B) (b : B) (xs : List A) → ((y : B) (a : A) → f y a ≡ g y a) → fold f b xs ≡ fold g b xs
fold-same f g b [] h = refl
fold-same f g b (a ∷ xs) h = bind-same (f b a) (g b a) (λ y. fold f y xs) (λ y. fold g y xs) (h b a) (λ y. fold-same f g y xs h)

-- ---- steps and predicates count by themselves

kept-same : (c : Context) (n p k q j : ℕ) (ms : List Meaning) (ns : List ℕ) → kept_of (at_node c n p k) ms ns ≡ kept_of (at_node c n q j) ms ns
kept-same c n p k q j ms ns =
    bind-same (all_filtered (at_node c n p k) ns ms) (all_filtered (at_node c n q j) ns ms) (λ is. give (Nodes (in_order is)))
    (λ is. give (Nodes (in_order is)))
    (fold-same (filtered (at_node c n p k)) (filtered (at_node c n q j)) ns ms
    (λ is m. fold-same (judged (at_node c n p k) (length is) m) (judged (at_node c n q j) (length is) m) [] (enumerate_from 1 is) (λ found placed. refl)))
    (λ is. refl)

step-same : (axis : Axis) (which : NodeTest) (ms : List Meaning) → Steady (step axis which ms)
step-same axis which ms c n p k q j =
    ap (λ r. costs (length (tested axis which (at_node c n q j))) r) (kept-same c n p k q j ms (tested axis which (at_node c n q j)))

selected-same : (m : Meaning) → Steady m → (c : Context) (n p k q j : ℕ) → selected m (at_node c n p k) ≡ selected m (at_node c n q j)
selected-same m s c n p k q j =
    bind-same (m (at_node c n p k)) (m (at_node c n q j)) (λ v. given (nodes_in v)) (λ v. given (nodes_in v)) (s c n p k q j) (λ v. refl)

filter-same : (m : Meaning) (ms : List Meaning) → Steady m → Steady (filter_expr m ms)
filter-same m ms s c n p k q j =
    bind-same (selected m (at_node c n p k)) (selected m (at_node c n q j)) (λ ns. kept_of (at_node c n p k) ms ns) (λ ns. kept_of (at_node c n q j) ms ns)
    (selected-same m s c n p k q j) (λ ns. kept-same c n p k q j ms ns)

-- a step of a path from each of some nodes
through-same : (m : Meaning) (ns : List ℕ) → Steady m → (c : Context) (n p k q j : ℕ) → through (at_node c n p k) ns m ≡ through (at_node c n q j) ns m
through-same m ns s c n p k q j =
    bind-same (fold (and_from (at_node c n p k) m) [] ns) (fold (and_from (at_node c n q j) m) [] ns) (λ found. give (in_order found))
    (λ found. give (in_order found))
    (fold-same (and_from (at_node c n p k) m) (and_from (at_node c n q j) m) [] ns
    (λ found i. bind-same (selected m (at_node c i p k)) (selected m (at_node c i q j)) (λ is. give (found ++ is)) (λ is. give (found ++ is))
    (selected-same m s c i p k q j) (λ is. refl)))
    (λ found. refl)

reached-same : (c : Context) (n p k q j : ℕ) (ns : List ℕ) (ms : List Meaning) → AllSteady ms
    → fold (through (at_node c n p k)) ns ms ≡ fold (through (at_node c n q j)) ns ms
reached-same c n p k q j ns [] s = refl
reached-same c n p k q j ns (m ∷ ms) s =
    bind-same (through (at_node c n p k) ns m) (through (at_node c n q j) ns m) (λ is. fold (through (at_node c n p k)) is ms)
    (λ is. fold (through (at_node c n q j)) is ms) (through-same m ns s.0 c n p k q j) (λ is. reached-same c n p k q j is ms s.1)

path-same : (m : Meaning) (ms : List Meaning) → Steady m → AllSteady ms → Steady (path m ms)
path-same m ms s t c n p k q j =
    bind-same (selected m (at_node c n p k)) (selected m (at_node c n q j)) (λ ns. steps_from (at_node c n p k) ms ns)
    (λ ns. steps_from (at_node c n q j) ms ns) (selected-same m s c n p k q j)
    (λ ns. bind-same (fold (through (at_node c n p k)) ns ms) (fold (through (at_node c n q j)) ns ms) (λ reached. give (Nodes reached))
    (λ reached. give (Nodes reached)) (reached-same c n p k q j ns ms t) (λ reached. refl))

-- ---- calls

arguments-same : (c : Context) (n p k q j : ℕ) (vs : List Value) (ms : List Meaning) → AllSteady ms
    → fold (and_argument (at_node c n p k)) vs ms ≡ fold (and_argument (at_node c n q j)) vs ms
arguments-same c n p k q j vs [] s = refl
arguments-same c n p k q j vs (m ∷ ms) s =
    bind-same (and_argument (at_node c n p k) vs m) (and_argument (at_node c n q j) vs m) (λ us. fold (and_argument (at_node c n p k)) us ms)
    (λ us. fold (and_argument (at_node c n q j)) us ms)
    (bind-same (m (at_node c n p k)) (m (at_node c n q j)) (λ v. give (vs ++ v ∷ [])) (λ v. give (vs ++ v ∷ [])) (s.0 c n p k q j) (λ v. refl))
    (λ us. arguments-same c n p k q j us ms s.1)

called-same : (c : Context) (n p k q j : ℕ) (f : Function) (vs : List Value) → is_place f ≡ false
    → called (at_node c n p k) f vs ≡ called (at_node c n q j) f vs
called-same c n p k q j function.Last vs h = absurd (true≢false h)
called-same c n p k q j function.Position vs h = absurd (true≢false h)
called-same c n p k q j function.Count vs h = refl
called-same c n p k q j function.Id vs h = refl
called-same c n p k q j function.LocalName vs h = refl
called-same c n p k q j function.NamespaceUri vs h = refl
called-same c n p k q j function.Name vs h = refl
called-same c n p k q j function.String vs h = refl
called-same c n p k q j function.Concat vs h = refl
called-same c n p k q j function.StartsWith vs h = refl
called-same c n p k q j function.Contains vs h = refl
called-same c n p k q j function.SubstringBefore vs h = refl
called-same c n p k q j function.SubstringAfter vs h = refl
called-same c n p k q j function.Substring vs h = refl
called-same c n p k q j function.StringLength vs h = refl
called-same c n p k q j function.NormalizeSpace vs h = refl
called-same c n p k q j function.Translate vs h = refl
called-same c n p k q j function.Boolean vs h = refl
called-same c n p k q j function.Not vs h = refl
called-same c n p k q j function.True vs h = refl
called-same c n p k q j function.False vs h = refl
called-same c n p k q j function.Lang vs h = refl
called-same c n p k q j function.Number vs h = refl
called-same c n p k q j function.Sum vs h = refl
called-same c n p k q j function.Floor vs h = refl
called-same c n p k q j function.Ceiling vs h = refl
called-same c n p k q j function.Round vs h = refl
called-same c n p k q j function.Key vs h = refl
called-same c n p k q j function.Current vs h = refl
called-same c n p k q j function.GenerateId vs h = refl
called-same c n p k q j function.SystemProperty vs h = refl
called-same c n p k q j function.ElementAvailable vs h = refl
called-same c n p k q j function.FunctionAvailable vs h = refl
called-same c n p k q j function.UnparsedEntityUri vs h = refl

sought-same : (c : Context) (n p k q j : ℕ) (v : Value) → sought (at_node c n p k) v ≡ sought (at_node c n q j) v
sought-same c n p k q j (Nodes ns) = refl
sought-same c n p k q j (Boolean b) = refl
sought-same c n p k q j (Numeral i) = refl
sought-same c n p k q j (Chars text) = refl
sought-same c n p k q j (Piece events) = refl

table-same : (c : Context) (n p k q j : ℕ) (t : Table) (fault : Option Fault) (texts : List (List ℕ))
    → from_table (at_node c n p k) t fault texts ≡ from_table (at_node c n q j) t fault texts
table-same c n p k q j t None texts = refl
table-same c n p k q j t (Some fault) texts = refl

looked-same : (keys : List Table) (c : Context) (n p k q j : ℕ) (o : Option ℕ) (texts : List (List ℕ))
    → looked_up keys (at_node c n p k) o texts ≡ looked_up keys (at_node c n q j) o texts
looked-same keys c n p k q j None texts = refl
looked-same keys c n p k q j (Some i) texts = table-same c n p k q j (table_at keys i) (table_at keys i).fault texts

keyed-same : (keys : List Table) (c : Context) (n p k q j : ℕ) (name v : Value)
    → keyed keys (at_node c n p k) name v ≡ keyed keys (at_node c n q j) name v
keyed-same keys c n p k q j name v =
    looked-same keys c n p k q j (number_of keys (expanded_name c.scope (text_value c.tree name))) (sought (at_node c n p k) v)
    ∙ ap (looked_up keys (at_node c n q j) (number_of keys (expanded_name c.scope (text_value c.tree name)))) (sought-same c n p k q j v)

answered-same : (keys : List Table) (c : Context) (n p k q j : ℕ) (f : Function) (vs : List Value) → is_place f ≡ false
    → answered keys (at_node c n p k) f vs ≡ answered keys (at_node c n q j) f vs
answered-same keys c n p k q j f vs h =
    ap (λ r. cond (is_key f) r (given (called (at_node c n p k) f vs))) (keyed-same keys c n p k q j (first vs) (second vs))
    ∙ ap (λ o. cond (is_key f) (keyed keys (at_node c n q j) (first vs) (second vs)) (given o)) (called-same c n p k q j f vs h)

call-same : (keys : List Table) (f : Function) (ms : List Meaning) → is_place f ≡ false → AllSteady ms → Steady (called_of keys f ms)
call-same keys f ms h s c n p k q j =
    ap tick
    (bind-same (arguments (at_node c n p k) ms) (arguments (at_node c n q j) ms) (answered keys (at_node c n p k) f) (answered keys (at_node c n q j) f)
    (arguments-same c n p k q j [] ms s) (λ vs. answered-same keys c n p k q j f vs h))

-- ---- operators

joined-same : (c : Context) (n p k q j : ℕ) (left : Value) (ops : List Operator) (ms : List Meaning) → AllSteady ms
    → joined_from (at_node c n p k) left ops ms ≡ joined_from (at_node c n q j) left ops ms
joined-same c n p k q j left ops [] s = refl
joined-same c n p k q j left [] (m ∷ ms) s = refl
joined-same c n p k q j left (op ∷ ops) (m ∷ ms) s =
    bind-same (joined op left m (at_node c n p k)) (joined op left m (at_node c n q j)) (λ v. joined_from (at_node c n p k) v ops ms)
    (λ v. joined_from (at_node c n q j) v ops ms)
    (ap (unless (decided op left))
    (bind-same (m (at_node c n p k)) (m (at_node c n q j)) (λ v. given (operated op c.tree left v)) (λ v. given (operated op c.tree left v))
    (s.0 c n p k q j) (λ v. refl)))
    (λ v. joined-same c n p k q j v ops ms s.1)

chain-same : (ops : List Operator) (ms : List Meaning) → AllSteady ms → Steady (chain ops ms)
chain-same ops [] s c n p k q j = refl
chain-same ops (m ∷ ms) s c n p k q j =
    bind-same (m (at_node c n p k)) (m (at_node c n q j)) (λ v. joined_from (at_node c n p k) v ops ms) (λ v. joined_from (at_node c n q j) v ops ms)
    (s.0 c n p k q j) (λ v. joined-same c n p k q j v ops ms s.1)

negative-same : (signs : ℕ) (m : Meaning) → Steady m → Steady (negative signs m)
negative-same signs m s c n p k q j =
    bind-same (m (at_node c n p k)) (m (at_node c n q j)) (λ v. given (negation signs c.tree v)) (λ v. given (negation signs c.tree v)) (s c n p k q j)
    (λ v. refl)

variable-same : (slot : Option Slot) → Steady (variable slot)
variable-same None c n p k q j = refl
variable-same (Some (Local i)) c n p k q j = refl
variable-same (Some (Global i)) c n p k q j = refl

-- ---- each expression

-- what is sought is any thing that finds both calls
module _ (keys : List Table) where
  mutual
    without : (s : _) → ((f : Function) → is_sought_call s f ≡ false → is_place f ≡ false) → (e : Tree) → uses s e ≡ false → Steady (run_of_tree keys e)
    without s finds (syntax.number i) h c n p k q j = refl
    without s finds (syntax.literal text) h c n p k q j = refl
    without s finds (syntax.variable uri local slot) h c n p k q j = variable-same slot c n p k q j
    without s finds (syntax.call f es) h c n p k q j =
        let both = or-none (is_sought_call s f) (use_any s es) h in
        call-same keys f (runs_of_trees keys es) (finds f both.0) (all-without s finds es both.1) c n p k q j
    without s finds (syntax.negative signs e) h c n p k q j = negative-same signs (run_of_tree keys e) (without s finds e h) c n p k q j
    without s finds (syntax.chain ops es) h c n p k q j = chain-same ops (runs_of_trees keys es) (all-without s finds es h) c n p k q j
    without s finds (syntax.group e) h c n p k q j = without s finds e h c n p k q j
    without s finds syntax.here h c n p k q j = refl
    without s finds syntax.root h c n p k q j = refl
    without s finds (syntax.step axis which es) h c n p k q j = step-same axis which (runs_of_trees keys es) c n p k q j
    without s finds syntax.descend h c n p k q j = step-same DescendantOrSelf Node [] c n p k q j
    without s finds (syntax.filter e es) h c n p k q j =
        let both = or-none (uses s e) (use_any s es) h in
        filter-same (run_of_tree keys e) (runs_of_trees keys es) (without s finds e both.0) c n p k q j
    without s finds (syntax.path e es) h c n p k q j =
        let both = or-none (uses s e) (use_any s es) h in
        path-same (run_of_tree keys e) (runs_of_trees keys es) (without s finds e both.0) (all-without s finds es both.1) c n p k q j

    all-without : (s : _) → ((f : Function) → is_sought_call s f ≡ false → is_place f ≡ false) → (es : Trees) → use_any s es ≡ false
        → AllSteady (runs_of_trees keys es)
    all-without s finds no_trees h = tt
    all-without s finds (first_tree e es) h =
        let both = or-none (uses s e) (use_any s es) h in
        (without s finds e both.0, all-without s finds es both.1)

  pub steady : (e : Tree) → uses_place e ≡ false → Steady (run_of_tree keys e)
  steady e h = without _ (λ f no. no) e h

-- ---- what a predicate says

said_or : Bool → Option Bool → Bool
said_or b None = b
said_or b (Some x) = x

some-same : {a b : Bool} → Some a ≡ Some b → a ≡ b
unfolding said_or
some-same {a} {b} e = ap (said_or a) e

is_any : Option Bool → Bool
is_any None = false
is_any (Some x) = true

none-some : (b : Bool) → None ≡ Some b → ⊥
unfolding is_any
none-some b e = true≢false (sym (ap is_any e))

by-value : (v : Value) (b : Bool) → said_by v ≡ Some b → (position : ℕ) → selects v position ≡ b
by-value (Numeral i) b h position = absurd (none-some b h)
by-value (Boolean x) b h position = some-same h
by-value (Chars text) b h position = some-same h
by-value (Nodes ns) b h position = some-same h
by-value (Piece events) b h position = some-same h

by-option : (o : Option Value) (b : Bool) → said o ≡ Some b → (position : ℕ) → option_map_or (λ v. selects v position) o false ≡ b
by-option None b h position = some-same h
by-option (Some v) b h position = by-value v b h position

-- what its value at one position says holds at each
pub says-so : (c : Context) (n : ℕ) (m : Meaning) (o : Option Bool) → Steady m → o ≡ said (value_in (m (at_node c n 1 1)).end) → IsSaid n c m o
says-so c n m None s e = tt
says-so c n m (Some b) s e = λ size position.
    ap (λ (r : Run Value). option_map_or (λ v. selects v position) (value_in r.end) false) (s c n position size 1 1)
    ∙ by-option (value_in (m (at_node c n 1 1)).end) b (sym e) position
