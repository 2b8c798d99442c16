-- What the builder has read so far, and what one more line makes of it.
use Rattle.std.specs.Prelude.{◌≡◌, ℕ, ◌+◌, List, [], ◌∷◌, ◌++◌, Option, None, Some, Result, Ok, Err, Bool, true, false, not, ◌&&◌, nat_le, if◌then◌else◌}
use Rattle.std.specs.Prelude.{length, map, reverse}
use Rattle.xs_pyx.specs.Row.{Row}
use Rattle.xs_pyx.specs.declared.line.Line.{Line}
use Rattle.xs_pyx.specs.declared.line.Line.TheVariants.{Start, Attr, Chars, End, Pi, Comment}
use Rattle.xs_tree.specs.Record.{Record, root_record}
use Rattle.xs_tree.specs.declared.names.Name.{Name}
use Rattle.xs_build.specs.declared.builder.Builder.{Builder}
use Rattle.xs_build.specs.declared.tag_names.Expanded.{Expanded}
use Rattle.xs_build.specs.declared.fault.BuildFault.{BuildFault}
use Rattle.xs_build.specs.declared.fault.BuildFault.TheVariants.{Bad, NoMemory}
use Rattle.xs_build.specs.declared.opened.Opened.{Opened}
use Rattle.xs_build.specs.Faults.{unbalanced, bad_name, unbound_prefix, too_large}
use Rattle.xs_tree.specs.Limits.{most_nodes}
use Rattle.xs_build.specs.Namespaces.{Bindings, is_empty, qname_of, element_name}
use Rattle.xs_build.specs.steps.Lines.{Context, innermost, Step, bad, gives, needs, start_step, attribute_step, end_step, instruction_step, comment_step}
use Rattle.xs_build.specs.Nodes.{element, spaces, text_node}
use Rattle.xs_text.specs.WhiteSpace.{is_blank}

pub record State : Type 0 where
  pub records : List Record  -- the nodes, except the text before the next line
  pub lines : List ℕ  -- the line of each node, also of the text before the next line
  pub text : List ℕ  -- the text before the next line, which is no node yet; empty: none
  pub around : List Opened  -- the open elements, the innermost first
  pub begun : Bool  -- the top element has begun
  pub tag : Option (List Expanded)  -- where an attribute may follow: the names of those before it in its start tag
  pub line : ℕ  -- the number of the next line

abbrev pub state : Builder → State
state b = record {
  records = b.tree;
  lines = b.lines.items;
  text = b.text;
  around = reverse b.around.items;
  begun = b.begun;
  tag = if b.follows then Some b.seen else None;
  line = b.line;
}

-- before the first line
abbrev pub initial : State
initial = record { records = root_record ∷ []; lines = 0 ∷ []; text = []; around = []; begun = false; tag = None; line = 1 }

-- where the next line stands
abbrev pub context : State → Context
context s = record { around = s.around; begun = s.begun; tag = s.tag; in_text = not (is_empty s.text); nodes = length s.lines }

-- the records, and a text inside this node if it is not empty
abbrev pub with_text_node : List Record → ℕ → List ℕ → List Record
with_text_node records parent [] = records
with_text_node records parent (b ∷ text) = records ++ text_node (b ∷ text) parent ∷ []

-- the text can no longer go on
abbrev pub ended : State → State
ended s = record s { records = with_text_node s.records (innermost s.around) s.text; text = [] }

-- a list, and others at its end
abbrev pub with_items : {X : Type 0} → List X → List X → List X
with_items xs [] = xs
with_items xs (y ∷ ys) = xs ++ y ∷ ys

-- with the nodes of a line, in the context behind it
abbrev pub placed : State → List Record → Context → State
placed s nodes c = record {
  records = with_items s.records nodes;
  lines = with_items s.lines (map (λ _. s.line) nodes);
  text = s.text;
  around = c.around;
  begun = c.begun;
  tag = c.tag;
  line = s.line;
}

-- a state, or the fault of a line
pub data Next : Type 0 where
  stops : ℕ → ℕ → Next
  goes : State → Next

-- an attribute line, which no text stands before
abbrev pub taken : State → Step → Next
taken s (bad number) = stops number s.line
taken s (gives nodes c) = goes (placed s nodes c)

-- a line that ends the text before it
abbrev pub moved : State → Step → Next
moved s (bad number) = stops number s.line
moved s (gives nodes c) = goes (placed (ended s) nodes c)

-- a text outside the top element
abbrev pub spoken_outside : State → List ℕ → Next
spoken_outside s text = if is_blank text then goes (record s { tag = None }) else stops unbalanced s.line

-- the first text of a node
abbrev pub spoken_first : State → List ℕ → Next
spoken_first s text =
    if nat_le (length s.lines + 1) most_nodes then goes (record s { lines = s.lines ++ s.line ∷ []; text = text; tag = None })
    else stops too_large s.line

-- a text in an element
abbrev pub spoken_inside : State → List ℕ → Next
spoken_inside s text = if is_empty s.text && not (is_empty text) then spoken_first s text else goes (record s { text = s.text ++ text; tag = None })

-- a text, which is no node before its last line
unfoldable pub spoken : State → List ℕ → Next
spoken s text = if is_empty s.around then spoken_outside s text else spoken_inside s text

-- the state after a line, or the fault of the line
abbrev pub stepped : State → Line → List Row → Next
stepped s (Start name) rows = moved s (start_step (context s) name rows)
stepped s (Attr name value) rows = taken s (attribute_step (context s) name value)
stepped s (Chars text) rows = spoken s text
stepped s (End name) rows = moved s (end_step (context s) name)
stepped s (Pi target text) rows = moved s (instruction_step (context s) s.line target text)
stepped s (Comment text) rows = moved s (comment_step (context s) text)

-- the innermost open element is this one
unfoldable pub entered : State → List ℕ → Name → Bindings → State
entered s name full scope = record {
  records = (ended s).records ++ element full (innermost s.around) ∷ spaces (length s.lines) scope;
  lines = s.lines ++ s.line ∷ map (λ _. s.line) scope;
  text = [];
  around = record { name = name; node = length s.lines; scope = scope } ∷ s.around;
  begun = true;
  tag = Some [];
  line = s.line;
}

-- The state is the one that is said, and Bad comes exactly where a fault is. Memory may run out.
abbrev pub Steps : {X : Type 0} → Result X BuildFault → Next → State → Type 0
Steps (Ok x) said now = said ≡ goes now
Steps (Err (Bad number line)) said now = said ≡ stops number line
Steps (Err NoMemory) said now = Unit {0}

-- counted on to the next line
abbrev pub next_line : State → State
next_line s = record s { line = s.line + 1 }

-- Wherever the name of an element is needed it is this one, or this line has this fault. Memory may run out.
abbrev pub Names : Result Name BuildFault → Bindings → List ℕ → ℕ → Type 0
Names (Ok full) scope name line = (next : Name → Step) → needs (qname_of name) bad_name (λ w. needs (element_name scope w) unbound_prefix next) ≡ next full
Names (Err (Bad number at)) scope name line =
    ((next : Name → Step) → needs (qname_of name) bad_name (λ w. needs (element_name scope w) unbound_prefix next) ≡ bad number) × (at ≡ line)
Names (Err NoMemory) scope name line = Unit {0}
