-- Which nodes a key gives for a text (XSLT 1.0, 12.2), by its declarations. Neither their `match` nor their `use` calls `key` (this
-- project's own), so they are evaluated over no tables; nor do they hold variables.
use Rattle.std.specs.Prelude.{ℕ, Bool, List, [], ◌∷◌, filter, Option, Some, None, if◌then◌else◌}
use Rattle.std.specs.List.{flat_map, list_any}
use Rattle.std.specs.Str.{bytes_eq}
use Rattle.xs_eval_spec.specs.Evaluation.{run_of_tree}
use Rattle.xs_eval_spec.specs.Keys.{sought}
use Rattle.xs_pattern_spec.specs.Matching.{is_match}
use Rattle.xs_pattern_spec.specs.Matching.{pattern_context}
use Rattle.xs_sheet.specs.declared.declarations.KeyDecl.{KeyDecl}
use Rattle.xs_trace.specs.Run.{Answer, Gives, Faults, Lacks}
use Rattle.xs_trace.specs.declared.fault.Fault.{Fault}
use Rattle.xs_trace.specs.declared.fault.Fault.TheVariants.{Budget, Fraction, Range, NotNodes, NoKey, TooDeep, NoRule, Terminated, NoExtension, Circular}
use Rattle.xs_trace.specs.declared.fault.Fault.TheVariants.{BadResultName, UnboundResultPrefix, BadValue, TooManyEvents, NoDocument}
use Rattle.xs_tree.specs.Record.{Record, places}
use Rattle.xs_value.specs.declared.value.Value.{Value}

-- how `use` ends for the node at n, which is its context node and current node, alone in its list
abbrev pub use_end : List Record → ℕ → KeyDecl → Answer Value
use_end rs n d = (run_of_tree [] d.value.expr (pattern_context rs d.value.scope n)).end

-- the texts that it gives: of a node-set the string-value of each node, so that an empty one gives none; of any other value its string
abbrev pub texts_in : List Record → ℕ → Answer Value → List (List ℕ)
texts_in rs n (Gives v) = sought (pattern_context rs [] n) v
texts_in rs n (Faults f) = []
texts_in rs n (Lacks g) = []

-- the fault in which an expression ends; it ends in none of the others
abbrev pub expression_fault : Fault → List Fault
expression_fault Fraction = Fraction ∷ []
expression_fault Range = Range ∷ []
expression_fault NotNodes = NotNodes ∷ []
expression_fault NoKey = NoKey ∷ []
expression_fault Budget = []
expression_fault TooDeep = []
expression_fault NoRule = []
expression_fault Terminated = []
expression_fault NoExtension = []
expression_fault Circular = []
expression_fault BadResultName = []
expression_fault UnboundResultPrefix = []
expression_fault BadValue = []
expression_fault TooManyEvents = []
expression_fault NoDocument = []

abbrev pub faults_in : Answer Value → List Fault
faults_in (Gives v) = []
faults_in (Faults f) = expression_fault f
faults_in (Lacks g) = []

-- what a declaration gives at the node at n, which has to match its pattern
abbrev pub texts_at : List Record → ℕ → KeyDecl → List (List ℕ)
texts_at rs n d = if is_match [] rs d.pattern n then texts_in rs n (use_end rs n d) else []

abbrev pub faults_at : List Record → ℕ → KeyDecl → List Fault
faults_at rs n d = if is_match [] rs d.pattern n then faults_in (use_end rs n d) else []

-- The same of all declarations of a key.
abbrev pub node_texts : List Record → List KeyDecl → ℕ → List (List ℕ)
node_texts rs ds n = flat_map (texts_at rs n) ds

abbrev pub node_faults : List Record → List KeyDecl → ℕ → List Fault
node_faults rs ds n = flat_map (faults_at rs n) ds

-- whether a node has a text
abbrev pub has_text : List Record → List KeyDecl → List ℕ → ℕ → Bool
has_text rs ds text n = list_any (bytes_eq text) (node_texts rs ds n)

-- The nodes of a key for a text, in document order.
abbrev pub key_nodes : List Record → List KeyDecl → (text : List ℕ) → List ℕ
key_nodes rs ds text = filter (has_text rs ds text) (places rs)

abbrev pub first_of : List Fault → Option Fault
first_of [] = None
first_of (f ∷ fs) = Some f

-- The fault of a key: that of the first node, in document order, at which some `use` ends in one.
abbrev pub key_fault : List Record → List KeyDecl → Option Fault
key_fault rs ds = first_of (flat_map (node_faults rs ds) (places rs))
