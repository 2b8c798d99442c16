-- The nodes of what an expression gives are in the tree.
use Rattle.std.proofs.Common.{ℕ, zero, suc, ◌+◌, ◌<◌, ◌≤◌, arith, Bool, true, false, cond, List, [], ◌∷◌, ◌++◌, All, length, slice_get}
use Rattle.std.proofs.Common.{Option, Some, None, Result, Ok, Err, pos, codes}
use Rattle.std.proofs.lemmas.List.Elements.{All-append, All-cons, All-head, All-nil, All-tail}
use Rattle.std.specs.List.{AllByRecursion, enumerate_from, flat_map}
use Rattle.std.specs.Option.{option_map_or}
use Rattle.std.specs.Str.{bytes_eq, chars}
use Rattle.xs_num.specs.Number.{difference_of, product_of, quotient_of, remainder_of, sum_of}
use Rattle.xs_num.specs.Quotients.{floored_quotient, ceiled_quotient, nearest_quotient}
use Rattle.xs_num.specs.declared.number.Number.{Number as Num}
use Rattle.xs_num.specs.declared.number.Number.TheVariants.{Whole}
use Rattle.xs_num.specs.declared.number.NumFault.{NumFault}
use Rattle.xs_strings.specs.Positions.{substring_of}
use Rattle.xs_trace.specs.Run.{Answer, Faults, Gives, Lacks, Run, fold, give, go_on}
use Rattle.xs_trace.specs.declared.fault.Fault.{Fault}
use Rattle.xs_tree.specs.Axis.{root_of}
use Rattle.xs_tree.specs.Record.{Record, at, name_local, name_uri}
use Rattle.xs_tree.specs.declared.axes.Axis.{Axis}
use Rattle.xs_tree.specs.declared.axes.Axis.TheVariants.{DescendantOrSelf}
use Rattle.xs_tree.proofs.RootLemmas.{root_of-le}
use Rattle.xs_value.specs.Comparison.{compared}
use Rattle.xs_value.specs.Conversion.{IsIn, number_value, text_value}
use Rattle.xs_value.specs.NodeSet.{in_order, union_of}
use Rattle.xs_value.specs.Tables.{Table, TablesIn, table_at}
use Rattle.xs_value.specs.declared.comparison.CompareOp.{CompareOp}
use Rattle.xs_value.specs.declared.comparison.CompareOp.TheVariants.{Eq, Ge, Gt, Le, Lt, Ne}
use Rattle.xs_value.specs.declared.value.Value.{Value}
use Rattle.xs_value.specs.declared.value.Value.TheVariants.{Bool as Boolean, Chars, Nodes, Number as Numeral, Piece}
use Rattle.xs_value.proofs.NodeSetLemmas.{in_order-all}
use Rattle.xs_xpath.specs.declared.name.Function.{Function}
use Rattle.xs_xpath.specs.declared.name.Function.TheVariants.{Last, Position, Count, Id, LocalName, NamespaceUri, Name, String, Concat, StartsWith, Contains, SubstringBefore, SubstringAfter, Substring, StringLength, NormalizeSpace, Translate, Boolean as ToBoolean, Not, True, False, Lang, Number, Sum, Floor, Ceiling, Round, Key, Current, GenerateId, SystemProperty, ElementAvailable, FunctionAvailable, UnparsedEntityUri}
use Rattle.xs_xpath.specs.declared.name.NodeTest.{NodeTest}
use Rattle.xs_xpath.specs.declared.name.NodeTest.TheVariants.{Node}
use Rattle.xs_xpath.specs.declared.name.Slot.{Slot}
use Rattle.xs_xpath.specs.declared.name.Slot.TheVariants.{Global, Local}
use Rattle.xs_xpath.specs.declared.token.Operator.{Operator}
use Rattle.xs_xpath.specs.declared.token.Operator.TheVariants.{Or, And, Equal, Unequal, Less, LessEqual, Greater, GreaterEqual, Plus, Minus, Times, Div, FloorDiv, CeilingDiv, NearestDiv, Mod, Union}
use Rattle.xs_xpath.specs.Tree as syntax
use Rattle.xs_xpath.specs.Tree.{Tree, Trees, first_tree, no_trees}
use Rattle.xs_eval_spec.specs.Calls.{called, is_key}
use Rattle.xs_eval_spec.specs.Conditions.{IsContext, IsInIf}
use Rattle.xs_eval_spec.specs.Context.{Context, at_node}
use Rattle.xs_eval_spec.specs.Evaluation.{answered, arguments, chain, global, joined, joined_from, local, negative, right_operated}
use Rattle.xs_eval_spec.specs.Evaluation.{run_of_tree, runs_of_trees, unless, variable}
use Rattle.xs_eval_spec.specs.Functions.{count_given, first, first_node, first_or_node, id_of, number, second, sum_from, written, written_name}
use Rattle.xs_eval_spec.specs.Keys.{found_for, from_table, keyed, looked_up}
use Rattle.xs_eval_spec.specs.Names.{ExpandedName, expanded_name, property, xslt_property, xslt_uri}
use Rattle.xs_eval_spec.specs.Operators.{as_value, computed, decided, negated_by, negation, numbers, operated}
use Rattle.xs_eval_spec.specs.Paths.{Meaning, all_filtered, and_from, filter_expr, filtered, judged, kept_if, kept_of, path, selected, selects, step}
use Rattle.xs_eval_spec.specs.Paths.{steps_from, tested}
use Rattle.xs_eval_spec.specs.Paths.{through}
use Rattle.xs_eval_spec.specs.Results.{Outcome, ◌>>=◌, given, natural, nodes_in, numeric}
use Rattle.xs_eval_spec.proofs.AxisListLemmas.{tested-some}
use Rattle.xs_eval_spec.proofs.InsideLemmas.{kept_if_all, moved}
use Rattle.xs_eval.proofs.KeyLemmas.{held-inside}

-- ---- runs
-- what is so of the value that a run gives
abbrev pub AnswerHas : {A : Type 0} → (A → Type 0) → Answer A → Type 0
AnswerHas P (Gives x) = P x
AnswerHas P (Faults f) = Unit {0}
AnswerHas P (Lacks g) = Unit {0}

pub has_any : {A : Type 0} (a : Answer A) → AnswerHas (λ (x : A). Unit {0}) a
has_any (Gives x) = tt
has_any (Faults f) = tt
has_any (Lacks g) = tt

pub has_then : {A B : Type 0} (P : A → Type 0) (Q : B → Type 0) (n : ℕ) (a : Answer A) (f : A → Run B) → AnswerHas P a
    → ((x : A) → P x → AnswerHas Q (f x).end) → AnswerHas Q (go_on n a f).end
has_then P Q n (Gives x) f h k = k x h
has_then P Q n (Faults e) f h k = tt
has_then P Q n (Lacks g) f h k = tt

pub has_folded : {A B : Type 0} (P : A → Type 0) (Q : B → Type 0) (f : B → A → Run B) → ((b : B) (a : A) → Q b → P a → AnswerHas Q (f b a).end)
    → (b : B) (xs : List A) → Q b → AllByRecursion P xs → AnswerHas Q (fold f b xs).end
has_folded P Q f more b [] q h = q
has_folded P Q f more b (a ∷ rest) q h =
    has_then Q Q (f b a).cost (f b a).end (λ c. fold f c rest) (more b a q h.0) (λ c r. has_folded P Q f more c rest r h.1)

-- ---- values
abbrev pub AreNodesIn : List Record → List ℕ → Type 0
AreNodesIn rs ns = All (λ k. k < length rs) ns

abbrev pub AreIn : List Record → List Value → Type 0
AreIn rs vs = All (IsIn rs) vs

abbrev OutcomeIn : List Record → Outcome Value → Type 0
OutcomeIn rs (Ok v) = IsIn rs v
OutcomeIn rs (Err f) = Unit {0}

after : {A : Type 0} (rs : List Record) (o : Outcome A) (f : A → Outcome Value) → ((x : A) → OutcomeIn rs (f x)) → OutcomeIn rs (o >>= f)
after rs (Ok x) f h = h x
after rs (Err e) f h = tt

given_in : (rs : List Record) (o : Outcome Value) → OutcomeIn rs o → AnswerHas (IsIn rs) (given o).end
given_in rs (Ok v) h = h
given_in rs (Err f) h = tt

-- the nodes of a value
pub nodes_given : (rs : List Record) (v : Value) → IsIn rs v → AnswerHas (AreNodesIn rs) (given (nodes_in v)).end
nodes_given rs (Nodes ns) h = h
nodes_given rs (Boolean b) h = tt
nodes_given rs (Numeral n) h = tt
nodes_given rs (Chars text) h = tt
nodes_given rs (Piece events) h = tt

-- nodes with their places
pub placed_in : (rs : List Record) (k : ℕ) (ns : List ℕ) → AreNodesIn rs ns → AllByRecursion (λ (p : ℕ × ℕ). p.1 < length rs) (enumerate_from k ns)
placed_in rs k [] h = tt
placed_in rs k (n ∷ ns) h = (All-head (λ j. j < length rs) n ns h, placed_in rs (k + 1) ns (All-tail (λ j. j < length rs) n ns h))

recursed : (rs : List Record) (ns : List ℕ) → AreNodesIn rs ns → AllByRecursion (λ n. n < length rs) ns
recursed rs [] h = tt
recursed rs (n ∷ ns) h = (All-head (λ j. j < length rs) n ns h, recursed rs ns (All-tail (λ j. j < length rs) n ns h))

-- ---- functions
part_in : (part : Record → List ℕ) (rs : List Record) (v : Value)
    → OutcomeIn rs (first_node v >>= (λ n. Ok (Chars (option_map_or (λ k. part (at rs k)) n []))))
part_in part rs v = after rs (first_node v) (λ n. Ok (Chars (option_map_or (λ k. part (at rs k)) n []))) (λ n. tt)

number_in : (rs : List Record) (v : Value) → OutcomeIn rs (number rs v)
number_in rs v = after rs (numeric (number_value rs v)) (λ n. Ok (Numeral n)) (λ n. tt)

natural_in : (rs : List Record) (n : ℕ) → OutcomeIn rs (natural n >>= (λ k. Ok (Numeral k)))
natural_in rs n = after rs (natural n) (λ k. Ok (Numeral k)) (λ k. tt)

xslt_property_in : (rs : List Record) (text : List ℕ) → IsIn rs (xslt_property text)
xslt_property_in rs text = by_tests (bytes_eq text (codes "version")) (bytes_eq text (codes "vendor"))
  where
    by_tests : (a b : Bool)
        → IsIn rs (cond a (Numeral (Whole (pos 1))) (cond b (Chars (codes "xslt whole-number profile")) (Chars [])))
    by_tests true b = tt
    by_tests false true = tt
    by_tests false false = tt

property_in : (rs : List Record) (o : Option ExpandedName) → IsIn rs (option_map_or property o (Chars []))
property_in rs None = tt
property_in rs (Some name) = by_uri (bytes_eq name.0 xslt_uri)
  where
    by_uri : (t : Bool) → IsIn rs (cond t (xslt_property name.1) (Chars []))
    by_uri true = xslt_property_in rs name.1
    by_uri false = tt

called_in : (keys : List Table) (c : Context) → IsContext keys c → (function : Function) (vs : List Value) → OutcomeIn c.tree (called c function vs)
called_in keys c s Last vs = tt
called_in keys c s Position vs = tt
called_in keys c s Count vs =
    after c.tree (nodes_in (first vs)) (λ ns. natural (length ns) >>= (λ n. Ok (Numeral n))) (λ ns. natural_in c.tree (length ns))
called_in keys c s Id vs = All-nil (λ k. k < length c.tree)
called_in keys c s LocalName vs = part_in name_local c.tree (first_or_node c vs)
called_in keys c s NamespaceUri vs = part_in name_uri c.tree (first_or_node c vs)
called_in keys c s Name vs = part_in written_name c.tree (first_or_node c vs)
called_in keys c s String vs = tt
called_in keys c s Concat vs = tt
called_in keys c s StartsWith vs = tt
called_in keys c s Contains vs = tt
called_in keys c s SubstringBefore vs = tt
called_in keys c s SubstringAfter vs = tt
called_in keys c s Substring vs =
    let text : List ℕ = chars (text_value c.tree (first vs)) in
    after c.tree (numeric (number_value c.tree (second vs)))
    (λ from. count_given c.tree (slice_get vs 2) >>= (λ count. Ok (written (substring_of text from count))))
    (λ from. after c.tree (count_given c.tree (slice_get vs 2)) (λ count. Ok (written (substring_of text from count))) (λ count. tt))
called_in keys c s StringLength vs = natural_in c.tree (length (chars (text_value c.tree (first_or_node c vs))))
called_in keys c s NormalizeSpace vs = tt
called_in keys c s Translate vs = tt
called_in keys c s ToBoolean vs = tt
called_in keys c s Not vs = tt
called_in keys c s True vs = tt
called_in keys c s False vs = tt
called_in keys c s Lang vs = tt
called_in keys c s Number vs = number_in c.tree (first_or_node c vs)
called_in keys c s Sum vs =
    let rest : List ℕ → Outcome Num = λ ns. sum_from c.tree (Whole (pos 0)) ns in
    after c.tree (nodes_in (first vs)) (λ ns. rest ns >>= (λ total. Ok (Numeral total)))
    (λ ns. after c.tree (rest ns) (λ total. Ok (Numeral total)) (λ total. tt))
called_in keys c s Floor vs = number_in c.tree (first vs)
called_in keys c s Ceiling vs = number_in c.tree (first vs)
called_in keys c s Round vs = number_in c.tree (first vs)
called_in keys c s Key vs = All-nil (λ k. k < length c.tree)
called_in keys c s Current vs = All-cons (λ k. k < length c.tree) c.current [] s.current (All-nil (λ k. k < length c.tree))
called_in keys c s GenerateId vs = after c.tree (first_node (first_or_node c vs)) (λ n. Ok (Chars (option_map_or id_of n []))) (λ n. tt)
called_in keys c s SystemProperty vs = property_in c.tree (expanded_name c.scope (text_value c.tree (first vs)))
called_in keys c s ElementAvailable vs = tt
called_in keys c s FunctionAvailable vs = tt
called_in keys c s UnparsedEntityUri vs = tt

-- `key`
found_in : (c : Context) (t : Table) → ((text : List ℕ) → AreNodesIn c.tree (found_for c t text)) → (texts : List (List ℕ))
    → AreNodesIn c.tree (flat_map (found_for c t) texts)
found_in c t h [] = All-nil (λ k. k < length c.tree)
found_in c t h (x ∷ xs) = All-append (λ k. k < length c.tree) (found_for c t x) (flat_map (found_for c t) xs) (h x) (found_in c t h xs)

table_in : (c : Context) (t : Table) → ((text : List ℕ) → AreNodesIn c.tree (found_for c t text)) → (fault : Option Fault) (texts : List (List ℕ))
    → AnswerHas (IsIn c.tree) (from_table c t fault texts).end
table_in c t h None texts = in_order-all (λ k. k < length c.tree) (flat_map (found_for c t) texts) (found_in c t h texts)
table_in c t h (Some f) texts = tt

looked_up_in : (keys : List Table) (c : Context) → TablesIn c.tree keys → (k : Option ℕ) (texts : List (List ℕ))
    → AnswerHas (IsIn c.tree) (looked_up keys c k texts).end
looked_up_in keys c h None texts = tt
looked_up_in keys c h (Some k) texts = table_in c (table_at keys k) (λ text. held-inside c keys k text h) (table_at keys k).fault texts

one_in : (rs : List Record) (b : Bool) (q r : Run Value) → AnswerHas (IsIn rs) q.end → AnswerHas (IsIn rs) r.end → AnswerHas (IsIn rs) (cond b q r).end
one_in rs true q r h k = h
one_in rs false q r h k = k

answered_in : (keys : List Table) (c : Context) → IsContext keys c → (function : Function) (vs : List Value)
    → AnswerHas (IsIn c.tree) (answered keys c function vs).end
answered_in keys c s function vs =
    one_in c.tree (is_key function) (keyed keys c (first vs) (second vs)) (given (called c function vs)) (looked_up_in keys c s.tables _ _)
    (given_in c.tree (called c function vs) (called_in keys c s function vs))

-- ---- operators
comparison_in : (op : CompareOp) (rs : List Record) (left right : Value) → OutcomeIn rs (numeric (compared rs op left right) >>= (λ b. Ok (Boolean b)))
comparison_in op rs left right = after rs (numeric (compared rs op left right)) (λ b. Ok (Boolean b)) (λ b. tt)

computed_in : (op : Num → Num → Result Num NumFault) (rs : List Record) (left right : Value) → OutcomeIn rs (computed op rs left right)
computed_in op rs left right =
    after rs (numbers rs left right) (λ both. as_value (op both.0 both.1)) (λ both. after rs (numeric (op both.0 both.1)) (λ n. Ok (Numeral n)) (λ n. tt))

-- the union of two node-sets
union_in : (rs : List Record) (left right : Value) → IsIn rs left → IsIn rs right
    → OutcomeIn rs (nodes_in left >>= (λ ns. nodes_in right >>= (λ ks. Ok (Nodes (union_of ns ks)))))
union_in rs (Boolean b) right p q = tt
union_in rs (Numeral n) right p q = tt
union_in rs (Chars text) right p q = tt
union_in rs (Piece events) right p q = tt
union_in rs (Nodes ns) (Boolean b) p q = tt
union_in rs (Nodes ns) (Numeral n) p q = tt
union_in rs (Nodes ns) (Chars text) p q = tt
union_in rs (Nodes ns) (Piece events) p q = tt
union_in rs (Nodes ns) (Nodes ks) p q = in_order-all (λ k. k < length rs) (ns ++ ks) (All-append (λ k. k < length rs) ns ks p q)

operated_in : (op : Operator) (rs : List Record) (left right : Value) → IsIn rs left → IsIn rs right → OutcomeIn rs (operated op rs left right)
operated_in Or rs left right p q = tt
operated_in And rs left right p q = tt
operated_in Equal rs left right p q = comparison_in Eq rs left right
operated_in Unequal rs left right p q = comparison_in Ne rs left right
operated_in Less rs left right p q = comparison_in Lt rs left right
operated_in LessEqual rs left right p q = comparison_in Le rs left right
operated_in Greater rs left right p q = comparison_in Gt rs left right
operated_in GreaterEqual rs left right p q = comparison_in Ge rs left right
operated_in Plus rs left right p q = computed_in sum_of rs left right
operated_in Minus rs left right p q = computed_in difference_of rs left right
operated_in Times rs left right p q = computed_in product_of rs left right
operated_in Div rs left right p q = computed_in quotient_of rs left right
operated_in FloorDiv rs left right p q = computed_in floored_quotient rs left right
operated_in CeilingDiv rs left right p q = computed_in ceiled_quotient rs left right
operated_in NearestDiv rs left right p q = computed_in nearest_quotient rs left right
operated_in Mod rs left right p q = computed_in remainder_of rs left right
operated_in Union rs left right p q = union_in rs left right p q

unless_in : (rs : List Record) (o : Option Bool) (r : Run Value) → AnswerHas (IsIn rs) r.end → AnswerHas (IsIn rs) (unless o r).end
unless_in rs (Some b) r h = tt
unless_in rs None r h = h

negation_in : (signs : ℕ) (rs : List Record) (v : Value) → OutcomeIn rs (negation signs rs v)
negation_in signs rs v = after rs (numeric (number_value rs v)) (λ n. Ok (Numeral (negated_by signs n))) (λ n. tt)

-- ---- what an expression means in a context whose nodes are in the tree
module _ (keys : List Table) where
  abbrev Stays : Meaning → Type 0
  Stays m = (c : Context) → IsContext keys c → AnswerHas (IsIn c.tree) (m c).end

  joined_in : (op : Operator) (left : Value) (m : Meaning) → Stays m → (c : Context) → IsContext keys c → IsIn c.tree left
      → AnswerHas (IsIn c.tree) (joined op left m c).end
  joined_in op left m h c s p =
      unless_in c.tree (decided op left) (right_operated op left m c)
      (has_then (IsIn c.tree) (IsIn c.tree) (m c).cost (m c).end (λ v. given (operated op c.tree left v)) (h c s)
      (λ v q. given_in c.tree (operated op c.tree left v) (operated_in op c.tree left v p q)))

  joined_from_in : (ms : List Meaning) → AllByRecursion Stays ms → (c : Context) → IsContext keys c → (left : Value) (ops : List Operator) → IsIn c.tree left
      → AnswerHas (IsIn c.tree) (joined_from c left ops ms).end
  joined_from_in [] h c s left ops p = p
  joined_from_in (m ∷ ms) h c s left [] p = p
  joined_from_in (m ∷ ms) h c s left (op ∷ ops) p =
      has_then (IsIn c.tree) (IsIn c.tree) (joined op left m c).cost (joined op left m c).end (λ v. joined_from c v ops ms) (joined_in op left m h.0 c s p)
      (λ v q. joined_from_in ms h.1 c s v ops q)

  chain_in : (ms : List Meaning) → AllByRecursion Stays ms → (ops : List Operator) (c : Context) → IsContext keys c
      → AnswerHas (IsIn c.tree) (chain ops ms c).end
  chain_in [] h ops c s = tt
  chain_in (m ∷ ms) h ops c s =
      has_then (IsIn c.tree) (IsIn c.tree) (m c).cost (m c).end (λ v. joined_from c v ops ms) (h.0 c s) (λ v q. joined_from_in ms h.1 c s v ops q)

  negative_in : (signs : ℕ) (m : Meaning) (c : Context) → AnswerHas (IsIn c.tree) (negative signs m c).end
  negative_in signs m c =
      has_then (λ v. Unit {0}) (IsIn c.tree) (m c).cost (m c).end (λ v. given (negation signs c.tree v)) (has_any (m c).end)
      (λ v u. given_in c.tree (negation signs c.tree v) (negation_in signs c.tree v))

  -- nodes that an expression gives
  selected_in : (m : Meaning) → Stays m → (c : Context) → IsContext keys c → AnswerHas (AreNodesIn c.tree) (selected m c).end
  selected_in m h c s =
      has_then (IsIn c.tree) (AreNodesIn c.tree) (m c).cost (m c).end (λ v. given (nodes_in v)) (h c s) (λ v q. nodes_given c.tree v q)

  -- what predicates keep
  judged_in : (c : Context) (size : ℕ) (m : Meaning) (kept : List ℕ) (p : ℕ × ℕ) → AreNodesIn c.tree kept → p.1 < length c.tree
      → AnswerHas (AreNodesIn c.tree) (judged c size m kept p).end
  judged_in c size m kept p q w =
      has_then (λ v. Unit {0}) (AreNodesIn c.tree) (m (at_node c p.1 p.0 size)).cost (m (at_node c p.1 p.0 size)).end
      (λ v. give (kept_if (selects v p.0) kept p.1)) (has_any (m (at_node c p.1 p.0 size)).end)
      (λ v u. kept_if_all (λ k. k < length c.tree) (selects v p.0) kept p.1 q w)

  filtered_in : (c : Context) (ns : List ℕ) (m : Meaning) → AreNodesIn c.tree ns → AnswerHas (AreNodesIn c.tree) (filtered c ns m).end
  filtered_in c ns m h =
      has_folded (λ (p : ℕ × ℕ). p.1 < length c.tree) (AreNodesIn c.tree) (judged c (length ns) m) (judged_in c (length ns) m) [] (enumerate_from 1 ns)
      (All-nil (λ k. k < length c.tree)) (placed_in c.tree 1 ns h)

  any_meanings : (ms : List Meaning) → AllByRecursion (λ m. Unit {0}) ms
  any_meanings [] = tt
  any_meanings (m ∷ ms) = (tt, any_meanings ms)

  kept_in : (c : Context) (ms : List Meaning) (ns : List ℕ) → AreNodesIn c.tree ns → AnswerHas (IsIn c.tree) (kept_of c ms ns).end
  kept_in c ms ns h =
      has_then (AreNodesIn c.tree) (IsIn c.tree) (all_filtered c ns ms).cost (all_filtered c ns ms).end (λ kept. give (Nodes (in_order kept)))
      (has_folded (λ m. Unit {0}) (AreNodesIn c.tree) (filtered c) (λ ks m q u. filtered_in c ks m q) ns ms h (any_meanings ms))
      (λ kept q. in_order-all (λ k. k < length c.tree) kept q)

  filter_in : (m : Meaning) → Stays m → (ms : List Meaning) (c : Context) → IsContext keys c → AnswerHas (IsIn c.tree) (filter_expr m ms c).end
  filter_in m h ms c s =
      has_then (AreNodesIn c.tree) (IsIn c.tree) (selected m c).cost (selected m c).end (kept_of c ms) (selected_in m h c s) (λ ns q. kept_in c ms ns q)

  -- steps
  from_in : (c : Context) → IsContext keys c → (m : Meaning) → Stays m → (found : List ℕ) (n : ℕ) → AreNodesIn c.tree found → n < length c.tree
      → AnswerHas (AreNodesIn c.tree) (and_from c m found n).end
  from_in c s m h found n q w =
      let d : Context = at_node c n c.position c.size in
      has_then (AreNodesIn c.tree) (AreNodesIn c.tree) (selected m d).cost (selected m d).end (λ ns. give (found ++ ns))
      (selected_in m h d (moved keys c n c.position c.size s w)) (λ ns r. All-append (λ k. k < length c.tree) found ns q r)

  through_in : (c : Context) → IsContext keys c → (ns : List ℕ) (m : Meaning) → AreNodesIn c.tree ns → Stays m
      → AnswerHas (AreNodesIn c.tree) (through c ns m).end
  through_in c s ns m q h =
      let r : Run (List ℕ) = fold (and_from c m) [] ns in
      has_then (AreNodesIn c.tree) (AreNodesIn c.tree) r.cost r.end (λ found. give (in_order found))
      (has_folded (λ n. n < length c.tree) (AreNodesIn c.tree) (and_from c m) (from_in c s m h) [] ns (All-nil (λ k. k < length c.tree)) (recursed c.tree ns q))
      (λ found r. in_order-all (λ k. k < length c.tree) found r)

  steps_in : (ms : List Meaning) → AllByRecursion Stays ms → (c : Context) → IsContext keys c → (ns : List ℕ) → AreNodesIn c.tree ns
      → AnswerHas (IsIn c.tree) (steps_from c ms ns).end
  steps_in ms h c s ns q =
      let r : Run (List ℕ) = fold (through c) ns ms in
      has_then (AreNodesIn c.tree) (IsIn c.tree) r.cost r.end (λ reached. give (Nodes reached))
      (has_folded Stays (AreNodesIn c.tree) (through c) (λ ks m p t. through_in c s ks m p t) ns ms q h) (λ reached r. r)

  path_in : (m : Meaning) → Stays m → (ms : List Meaning) → AllByRecursion Stays ms → (c : Context) → IsContext keys c
      → AnswerHas (IsIn c.tree) (path m ms c).end
  path_in m h ms k c s =
      has_then (AreNodesIn c.tree) (IsIn c.tree) (selected m c).cost (selected m c).end (steps_from c ms) (selected_in m h c s)
      (λ ns q. steps_in ms k c s ns q)

  step_in : (axis : Axis) (test : NodeTest) (ms : List Meaning) (c : Context) → AnswerHas (IsIn c.tree) (step axis test ms c).end
  step_in axis test ms c = kept_in c ms (tested axis test c) (tested-some axis test c).inside

  -- ---- expressions
  local_in : (rs : List Record) (vs : List Value) (k : ℕ) → AreIn rs vs → AnswerHas (IsIn rs) (local (slice_get vs k)).end
  local_in rs [] k h = tt
  local_in rs (v ∷ vs) zero h = All-head (IsIn rs) v vs h
  local_in rs (v ∷ vs) (suc k) h = local_in rs vs k (All-tail (IsIn rs) v vs h)

  global_value : (rs : List Record) (n : ℕ) (o : Option Value) → IsInIf rs o → AnswerHas (IsIn rs) (global n (Some o)).end
  global_value rs n None h = tt
  global_value rs n (Some v) h = h

  global_in : (rs : List Record) (n : ℕ) (gs : List (Option Value)) (k : ℕ) → All (IsInIf rs) gs → AnswerHas (IsIn rs) (global n (slice_get gs k)).end
  global_in rs n [] k h = tt
  global_in rs n (o ∷ gs) zero h = global_value rs n o (All-head (IsInIf rs) o gs h)
  global_in rs n (o ∷ gs) (suc k) h = global_in rs n gs k (All-tail (IsInIf rs) o gs h)

  variable_in : (slot : Option Slot) → Stays (variable slot)
  variable_in None c s = tt
  variable_in (Some (Local k)) c s = local_in c.tree c.locals k s.locals
  variable_in (Some (Global k)) c s = global_in c.tree k c.globals k s.globals

  one_node : (rs : List Record) (n : ℕ) → n < length rs → AreNodesIn rs (n ∷ [])
  one_node rs n h = All-cons (λ k. k < length rs) n [] h (All-nil (λ k. k < length rs))

  root_in : Stays (run_of_tree keys syntax.root)
  root_in c s =
      let le : root_of c.tree c.node ≤ c.node = root_of-le c.tree c.node in
      let node : c.node < length c.tree = s.node in
      let within : root_of c.tree c.node < length c.tree = omega (arith, le, node) in
      one_node c.tree (root_of c.tree c.node) within

  mutual
    pub tree_in : (e : Tree) → Stays (run_of_tree keys e)
    tree_in (syntax.number n) c s = tt
    tree_in (syntax.literal bytes) c s = tt
    tree_in (syntax.variable uri local slot) c s = variable_in slot c s
    tree_in (syntax.call function es) c s =
        let r : Run (List Value) = arguments c (runs_of_trees keys es) in
        has_then (λ vs. Unit {0}) (IsIn c.tree) r.cost r.end (answered keys c function) (has_any r.end) (λ vs u. answered_in keys c s function vs)
    tree_in (syntax.negative signs e) c s = negative_in signs (run_of_tree keys e) c
    tree_in (syntax.chain ops es) c s = chain_in (runs_of_trees keys es) (trees_in es) ops c s
    tree_in (syntax.group e) c s = tree_in e c s
    tree_in syntax.here c s = one_node c.tree c.node s.node
    tree_in syntax.root c s = root_in c s
    tree_in (syntax.step axis test es) c s = step_in axis test (runs_of_trees keys es) c
    tree_in syntax.descend c s = step_in DescendantOrSelf Node [] c
    tree_in (syntax.filter e es) c s = filter_in (run_of_tree keys e) (tree_in e) (runs_of_trees keys es) c s
    tree_in (syntax.path e es) c s = path_in (run_of_tree keys e) (tree_in e) (runs_of_trees keys es) (trees_in es) c s

    trees_in : (es : Trees) → AllByRecursion Stays (runs_of_trees keys es)
    trees_in no_trees = tt
    trees_in (first_tree e es) = (tree_in e, trees_in es)
