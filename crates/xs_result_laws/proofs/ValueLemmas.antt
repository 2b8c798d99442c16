-- A fragment is the value of an expression only where a variable has it.
use Rattle.std.proofs.Common.{ℕ, List, [], ◌∷◌, Bool, true, false, cond, length, Option, Some, None, Ok, Err, slice_get}
use Rattle.std.specs.List.{AllByRecursion}
use Rattle.std.specs.Option.{option_map_or}
use Rattle.std.specs.Str.{bytes_eq, chars}
use Rattle.std.specs.Prelude.{Result, codes, pos}
use Rattle.xs_num.specs.Number.{sum_of, difference_of, product_of, quotient_of, remainder_of}
use Rattle.xs_num.specs.Quotients.{floored_quotient, ceiled_quotient, nearest_quotient}
use Rattle.xs_num.specs.declared.number.Number.{Number as Num}
use Rattle.xs_num.specs.declared.number.Number.TheVariants.{Whole}
use Rattle.xs_num.specs.declared.number.NumFault.{NumFault}
use Rattle.xs_strings.specs.Positions.{substring_of}
use Rattle.xs_trace.specs.Run.{Run, Answer, Gives, Faults, Lacks, go_on, give, fold}
use Rattle.xs_trace.specs.declared.fault.Fault.{Fault}
use Rattle.xs_tree.specs.Record.{Record, at, name_local, name_uri}
use Rattle.xs_value.specs.declared.comparison.CompareOp.{CompareOp}
use Rattle.xs_value.specs.declared.comparison.CompareOp.TheVariants.{Eq, Ne, Lt, Le, Gt, Ge}
use Rattle.xs_value.specs.declared.value.Value.{Value}
use Rattle.xs_value.specs.declared.value.Value.TheVariants.{Bool as Boolean, Number as Numeral, Chars, Nodes}
use Rattle.xs_value.specs.Comparison.{compared}
use Rattle.xs_value.specs.Conversion.{number_value, text_value}
use Rattle.xs_value.specs.NodeSet.{in_order, union_of}
use Rattle.xs_value.specs.Tables.{Table, table_at}
use Rattle.xs_xpath.specs.declared.name.Function.{Function}
use Rattle.xs_xpath.specs.declared.name.Function.TheVariants.{Last, Position, Count, Id, LocalName, NamespaceUri, Name, String, Concat, StartsWith, Contains, SubstringBefore, SubstringAfter, Substring, StringLength, NormalizeSpace, Translate, Boolean as ToBoolean, Not, True, False, Lang, Number, Sum, Floor, Ceiling, Round, Key, Current, GenerateId, SystemProperty, ElementAvailable, FunctionAvailable, UnparsedEntityUri}
use Rattle.xs_xpath.specs.declared.name.NodeTest.TheVariants.{Node}
use Rattle.xs_xpath.specs.declared.name.Slot.{Slot}
use Rattle.xs_xpath.specs.declared.name.Slot.TheVariants.{Local, Global}
use Rattle.xs_xpath.specs.declared.token.Operator.{Operator}
use Rattle.xs_xpath.specs.declared.token.Operator.TheVariants.{Or, And, Equal, Unequal, Less, LessEqual, Greater, GreaterEqual, Plus, Minus, Times, Div, FloorDiv, CeilingDiv, NearestDiv, Mod, Union}
use Rattle.xs_tree.specs.declared.axes.Axis.TheVariants.{DescendantOrSelf}
use Rattle.xs_xpath.specs.Tree as syntax
use Rattle.xs_xpath.specs.Tree.{Tree, Trees, no_trees, first_tree}
use Rattle.xs_eval_spec.specs.Calls.{called, is_key}
use Rattle.xs_eval_spec.specs.Context.{Context}
use Rattle.xs_eval_spec.specs.Evaluation.{answered, arguments, chain, global, joined, joined_from, local, negative, right_operated}
use Rattle.xs_eval_spec.specs.Evaluation.{run_of_tree, runs_of_trees, unless, variable}
use Rattle.xs_eval_spec.specs.Functions.{count_given, first, first_node, first_or_node, id_of, number, second, sum_from, written, written_name}
use Rattle.xs_eval_spec.specs.Keys.{from_table, keyed, looked_up}
use Rattle.xs_eval_spec.specs.Names.{ExpandedName, expanded_name, property, xslt_property, xslt_uri}
use Rattle.xs_eval_spec.specs.Operators.{as_value, computed, decided, negated_by, negation, numbers, operated}
use Rattle.xs_eval_spec.specs.Paths.{Meaning, all_filtered, filter_expr, kept_of, path, selected, steps_from, tested, through}
use Rattle.xs_eval_spec.specs.Results.{Outcome, ◌>>=◌, given, natural, nodes_in, numeric}
use Rattle.xs_result_laws.specs.Named.{AreNamedValues, IsNamedGlobal, IsNamedValue}
use Rattle.xs_result_laws.proofs.ItemLemmas.{OptionHas, item_has}
use Rattle.xs_result_laws.proofs.PutLemmas.{AnswerHas, has_then}

abbrev OutcomeNamed : Outcome Value → Type 0
OutcomeNamed (Ok v) = IsNamedValue v
OutcomeNamed (Err f) = Unit {0}

abbrev AnswerNamed : Answer Value → Type 0
AnswerNamed a = AnswerHas IsNamedValue a

after : {A : Type 0} (o : Outcome A) (f : A → Outcome Value) → ((x : A) → OutcomeNamed (f x)) → OutcomeNamed (o >>= f)
after (Ok x) f h = h x
after (Err e) f h = tt

given_named : (o : Outcome Value) → OutcomeNamed o → AnswerNamed (given o).end
given_named (Ok v) h = h
given_named (Err f) h = tt

-- what follows a named value
then_named : (n : ℕ) (a : Answer Value) (f : Value → Run Value) → AnswerNamed a → ((v : Value) → IsNamedValue v → AnswerNamed (f v).end)
    → AnswerNamed (go_on n a f).end
then_named n (Gives x) f h k = k x h
then_named n (Faults e) f h k = tt
then_named n (Lacks g) f h k = tt

-- ---- functions
part_named : (part : Record → List ℕ) (rs : List Record) (v : Value)
    → OutcomeNamed (first_node v >>= (λ n. Ok (Chars (option_map_or (λ k. part (at rs k)) n []))))
part_named part rs v = after (first_node v) (λ n. Ok (Chars (option_map_or (λ k. part (at rs k)) n []))) (λ n. tt)

number_named : (rs : List Record) (v : Value) → OutcomeNamed (number rs v)
number_named rs v = after (numeric (number_value rs v)) (λ n. Ok (Numeral n)) (λ n. tt)

natural_named : (n : ℕ) → OutcomeNamed (natural n >>= (λ k. Ok (Numeral k)))
natural_named n = after (natural n) (λ k. Ok (Numeral k)) (λ k. tt)

xslt_property_named : (text : List ℕ) → IsNamedValue (xslt_property text)
xslt_property_named text = by_tests (bytes_eq text (codes "version")) (bytes_eq text (codes "vendor"))
  where
    by_tests : (a b : Bool)
        → IsNamedValue (cond a (Numeral (Whole (pos 1))) (cond b (Chars (codes "xslt whole-number profile")) (Chars [])))
    by_tests true b = tt
    by_tests false true = tt
    by_tests false false = tt

property_named : (o : Option ExpandedName) → IsNamedValue (option_map_or property o (Chars []))
property_named None = tt
property_named (Some name) = by_uri (bytes_eq name.0 xslt_uri)
  where
    by_uri : (t : Bool) → IsNamedValue (cond t (xslt_property name.1) (Chars []))
    by_uri true = xslt_property_named name.1
    by_uri false = tt

called_named : (c : Context) (function : Function) (vs : List Value) → OutcomeNamed (called c function vs)
called_named c Last vs = tt
called_named c Position vs = tt
called_named c Count vs = after (nodes_in (first vs)) (λ ns. natural (length ns) >>= (λ n. Ok (Numeral n))) (λ ns. natural_named (length ns))
called_named c Id vs = tt
called_named c LocalName vs = part_named name_local c.tree (first_or_node c vs)
called_named c NamespaceUri vs = part_named name_uri c.tree (first_or_node c vs)
called_named c Name vs = part_named written_name c.tree (first_or_node c vs)
called_named c String vs = tt
called_named c Concat vs = tt
called_named c StartsWith vs = tt
called_named c Contains vs = tt
called_named c SubstringBefore vs = tt
called_named c SubstringAfter vs = tt
called_named c Substring vs =
    let text : List ℕ = chars (text_value c.tree (first vs)) in
    after (numeric (number_value c.tree (second vs))) (λ from. count_given c.tree (slice_get vs 2) >>= (λ count. Ok (written (substring_of text from count))))
    (λ from. after (count_given c.tree (slice_get vs 2)) (λ count. Ok (written (substring_of text from count))) (λ count. tt))
called_named c StringLength vs = natural_named (length (chars (text_value c.tree (first_or_node c vs))))
called_named c NormalizeSpace vs = tt
called_named c Translate vs = tt
called_named c ToBoolean vs = tt
called_named c Not vs = tt
called_named c True vs = tt
called_named c False vs = tt
called_named c Lang vs = tt
called_named c Number vs = number_named c.tree (first_or_node c vs)
called_named c Sum vs =
    let rest : List ℕ → Outcome Num = λ ns. sum_from c.tree (Whole (pos 0)) ns in
    after (nodes_in (first vs)) (λ ns. rest ns >>= (λ total. Ok (Numeral total))) (λ ns. after (rest ns) (λ total. Ok (Numeral total)) (λ total. tt))
called_named c Floor vs = number_named c.tree (first vs)
called_named c Ceiling vs = number_named c.tree (first vs)
called_named c Round vs = number_named c.tree (first vs)
called_named c Key vs = tt
called_named c Current vs = tt
called_named c GenerateId vs = after (first_node (first_or_node c vs)) (λ n. Ok (Chars (option_map_or id_of n []))) (λ n. tt)
called_named c SystemProperty vs = property_named (expanded_name c.scope (text_value c.tree (first vs)))
called_named c ElementAvailable vs = tt
called_named c FunctionAvailable vs = tt
called_named c UnparsedEntityUri vs = tt

table_named : (c : Context) (t : Table) (fault : Option Fault) (texts : List (List ℕ)) → AnswerNamed (from_table c t fault texts).end
table_named c t None texts = tt
table_named c t (Some f) texts = tt

looked_up_named : (keys : List Table) (c : Context) (k : Option ℕ) (texts : List (List ℕ)) → AnswerNamed (looked_up keys c k texts).end
looked_up_named keys c None texts = tt
looked_up_named keys c (Some k) texts = table_named c (table_at keys k) (table_at keys k).fault texts

one_named : (b : Bool) (q r : Run Value) → AnswerNamed q.end → AnswerNamed r.end → AnswerNamed (cond b q r).end
one_named true q r h k = h
one_named false q r h k = k

answered_named : (keys : List Table) (c : Context) (function : Function) (vs : List Value) → AnswerNamed (answered keys c function vs).end
answered_named keys c function vs =
    one_named (is_key function) (keyed keys c (first vs) (second vs)) (given (called c function vs)) (looked_up_named keys c _ _)
    (given_named (called c function vs) (called_named c function vs))

-- ---- operators
comparison_named : (op : CompareOp) (rs : List Record) (left right : Value)
    → OutcomeNamed (numeric (compared rs op left right) >>= (λ b. Ok (Boolean b)))
comparison_named op rs left right = after (numeric (compared rs op left right)) (λ b. Ok (Boolean b)) (λ b. tt)

computed_named : (op : Num → Num → Result Num NumFault) (rs : List Record) (left right : Value) → OutcomeNamed (computed op rs left right)
computed_named op rs left right =
    after (numbers rs left right) (λ both. as_value (op both.0 both.1)) (λ both. after (numeric (op both.0 both.1)) (λ n. Ok (Numeral n)) (λ n. tt))

operated_named : (op : Operator) (rs : List Record) (left right : Value) → OutcomeNamed (operated op rs left right)
operated_named Or rs left right = tt
operated_named And rs left right = tt
operated_named Equal rs left right = comparison_named Eq rs left right
operated_named Unequal rs left right = comparison_named Ne rs left right
operated_named Less rs left right = comparison_named Lt rs left right
operated_named LessEqual rs left right = comparison_named Le rs left right
operated_named Greater rs left right = comparison_named Gt rs left right
operated_named GreaterEqual rs left right = comparison_named Ge rs left right
operated_named Plus rs left right = computed_named sum_of rs left right
operated_named Minus rs left right = computed_named difference_of rs left right
operated_named Times rs left right = computed_named product_of rs left right
operated_named Div rs left right = computed_named quotient_of rs left right
operated_named FloorDiv rs left right = computed_named floored_quotient rs left right
operated_named CeilingDiv rs left right = computed_named ceiled_quotient rs left right
operated_named NearestDiv rs left right = computed_named nearest_quotient rs left right
operated_named Mod rs left right = computed_named remainder_of rs left right
operated_named Union rs left right =
    after (nodes_in left) (λ ns. nodes_in right >>= (λ ks. Ok (Nodes (union_of ns ks))))
    (λ ns. after (nodes_in right) (λ ks. Ok (Nodes (union_of ns ks))) (λ ks. tt))

unless_named : (o : Option Bool) (r : Run Value) → AnswerNamed r.end → AnswerNamed (unless o r).end
unless_named (Some b) r h = tt
unless_named None r h = h

joined_named : (op : Operator) (left : Value) (m : Meaning) (c : Context) → AnswerNamed (joined op left m c).end
joined_named op left m c =
    unless_named (decided op left) (right_operated op left m c)
    (has_then IsNamedValue (m c).cost (m c).end (λ v. given (operated op c.tree left v))
    (λ v. given_named (operated op c.tree left v) (operated_named op c.tree left v)))

joined_from_named : (ms : List Meaning) (c : Context) (left : Value) (ops : List Operator) → IsNamedValue left → AnswerNamed (joined_from c left ops ms).end
joined_from_named [] c left ops h = h
joined_from_named (m ∷ ms) c left [] h = h
joined_from_named (m ∷ ms) c left (op ∷ ops) h =
    then_named (joined op left m c).cost (joined op left m c).end (λ v. joined_from c v ops ms) (joined_named op left m c)
    (λ v q. joined_from_named ms c v ops q)

negation_named : (signs : ℕ) (rs : List Record) (v : Value) → OutcomeNamed (negation signs rs v)
negation_named signs rs v = after (numeric (number_value rs v)) (λ n. Ok (Numeral (negated_by signs n))) (λ n. tt)

negative_named : (signs : ℕ) (m : Meaning) (c : Context) → AnswerNamed (negative signs m c).end
negative_named signs m c =
    has_then IsNamedValue (m c).cost (m c).end (λ v. given (negation signs c.tree v))
    (λ v. given_named (negation signs c.tree v) (negation_named signs c.tree v))

-- ---- paths: node-sets
kept_named : (ms : List Meaning) (c : Context) (ns : List ℕ) → AnswerNamed (kept_of c ms ns).end
kept_named ms c ns =
    has_then IsNamedValue (all_filtered c ns ms).cost (all_filtered c ns ms).end (λ kept. give (Nodes (in_order kept))) (λ kept. tt)

filter_named : (m : Meaning) (ms : List Meaning) (c : Context) → AnswerNamed (filter_expr m ms c).end
filter_named m ms c = has_then IsNamedValue (selected m c).cost (selected m c).end (kept_of c ms) (λ ns. kept_named ms c ns)

steps_named : (ms : List Meaning) (c : Context) (ns : List ℕ) → AnswerNamed (steps_from c ms ns).end
steps_named ms c ns =
    has_then IsNamedValue (fold (through c) ns ms).cost (fold (through c) ns ms).end (λ reached. give (Nodes reached)) (λ reached. tt)

path_named : (m : Meaning) (ms : List Meaning) (c : Context) → AnswerNamed (path m ms c).end
path_named m ms c = has_then IsNamedValue (selected m c).cost (selected m c).end (steps_from c ms) (λ ns. steps_named ms c ns)

-- ---- expressions
local_named : (o : Option Value) → OptionHas IsNamedValue o → AnswerNamed (local o).end
local_named None h = tt
local_named (Some v) h = h

global_named : (k : ℕ) (o : Option (Option Value)) → OptionHas IsNamedGlobal o → AnswerNamed (global k o).end
global_named k None h = tt
global_named k (Some None) h = tt
global_named k (Some (Some v)) h = h

variable_named : (slot : Option Slot) (c : Context) → AreNamedValues c.locals → AllByRecursion IsNamedGlobal c.globals → AnswerNamed (variable slot c).end
variable_named None c l g = tt
variable_named (Some (Local k)) c l g = local_named (slice_get c.locals k) (item_has IsNamedValue c.locals k l)
variable_named (Some (Global k)) c l g = global_named k (slice_get c.globals k) (item_has IsNamedGlobal c.globals k g)

-- where the values of variables are named, that of an expression is
mutual
  pub tree_named : (keys : List Table) (e : Tree) (c : Context) → AreNamedValues c.locals → AllByRecursion IsNamedGlobal c.globals
      → AnswerNamed (run_of_tree keys e c).end
  tree_named keys (syntax.number n) c l g = tt
  tree_named keys (syntax.literal bytes) c l g = tt
  tree_named keys (syntax.variable uri local slot) c l g = variable_named slot c l g
  tree_named keys (syntax.call function es) c l g =
      has_then IsNamedValue (arguments c (runs_of_trees keys es)).cost (arguments c (runs_of_trees keys es)).end (answered keys c function)
      (λ vs. answered_named keys c function vs)
  tree_named keys (syntax.negative signs e) c l g = negative_named signs (run_of_tree keys e) c
  tree_named keys (syntax.chain ops es) c l g = chain_named keys ops es c l g
  tree_named keys (syntax.group e) c l g = tree_named keys e c l g
  tree_named keys syntax.here c l g = tt
  tree_named keys syntax.root c l g = tt
  tree_named keys (syntax.step axis test es) c l g = kept_named (runs_of_trees keys es) c (tested axis test c)
  tree_named keys syntax.descend c l g = kept_named [] c (tested DescendantOrSelf Node c)
  tree_named keys (syntax.filter e es) c l g = filter_named (run_of_tree keys e) (runs_of_trees keys es) c
  tree_named keys (syntax.path e es) c l g = path_named (run_of_tree keys e) (runs_of_trees keys es) c

  chain_named : (keys : List Table) (ops : List Operator) (es : Trees) (c : Context) → AreNamedValues c.locals → AllByRecursion IsNamedGlobal c.globals
      → AnswerNamed (chain ops (runs_of_trees keys es) c).end
  chain_named keys ops no_trees c l g = tt
  chain_named keys ops (first_tree e es) c l g =
      then_named (run_of_tree keys e c).cost (run_of_tree keys e c).end (λ v. joined_from c v ops (runs_of_trees keys es)) (tree_named keys e c l g)
      (λ v q. joined_from_named (runs_of_trees keys es) c v ops q)
