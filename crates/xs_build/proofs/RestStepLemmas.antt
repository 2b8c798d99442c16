-- What is left to do after a line is what was left to do before it.
use Rattle.std.proofs.Common.{◌≡◌, ℕ, ◌+◌, List, [], ◌∷◌, ◌++◌, Option, None, Some, Bool, true, false, refl, sym, ◌∙◌, ap, length, map, inl, inr, append_assoc}
use Rattle.std.proofs.Common.{append-nil, length-append, arith}
use Rattle.std.specs.Prelude.{IsSome, not, ◌&&◌, ◌||◌, ◌==◌, ◌-◌, nat_le, if◌then◌else◌}
use Rattle.std.specs.List.{list_any}
use Rattle.std.specs.Str.{bytes_eq}
use Rattle.std.proofs.lemmas.Bool.{cases_Bool}
use Rattle.std.proofs.lemmas.List.{length-map}
use Rattle.std.proofs.lemmas.List.Sums.{take_while-cons}
use Rattle.xs_pyx.specs.Row.{Row}
use Rattle.xs_pyx.specs.Reading.{says, reading}
use Rattle.xs_pyx.specs.declared.line.Line.{Line}
use Rattle.xs_pyx.specs.declared.line.Line.TheVariants.{Start, Attr, Chars, End, Pi, Comment}
use Rattle.xs_tree.specs.Record.{Record, root_record}
use Rattle.xs_tree.specs.declared.names.Name.{Name}
use Rattle.xs_build.specs.declared.tag_names.Expanded.{Expanded}
use Rattle.xs_build.specs.declared.opened.Opened.{Opened}
use Rattle.xs_build.specs.Faults.{bad_line, unbalanced, bad_name, unbound_prefix, double_attribute, bad_namespace, too_large}
use Rattle.xs_tree.specs.Limits.{most_nodes}
use Rattle.xs_build.specs.Namespaces.{Bindings, QName, is_empty, qname_of, element_name, attribute_name, declared_prefix, scope_with, is_ncname}
use Rattle.xs_build.specs.Namespaces.{is_bad_binding, is_xml}
use Rattle.xs_build.specs.steps.Lines.{expanded, Context, at_start, innermost, scope_of, Step, bad, gives, rule, needs, adds, past, with_name, same_name}
use Rattle.xs_build.specs.steps.Lines.{declaration_name, start_step, declaration_step, plain_step, written_step, attribute_step, text_step, close, end_step}
use Rattle.xs_build.specs.steps.Lines.{instruction_step, comment_step, row_step, put_before, and_then, at_end, meaning}
use Rattle.xs_build.specs.Start.{is_text_row, text_ahead, declarations}
use Rattle.xs_build.specs.Nodes.{element, attribute, space, spaces, text_node, comment, instruction}
use Rattle.xs_text.specs.WhiteSpace.{is_blank}
use Rattle.xs_build.specs.Document.{Outcome, tree, refused}
use Rattle.xs_build.specs.steps.State.{State, Next, stops, goes, initial, context, with_text_node, ended, with_items, placed, taken, moved, spoken, stepped}
use Rattle.xs_build.specs.steps.State.{next_line}
use Rattle.xs_build.specs.steps.Invariant.{IsGood}
use Rattle.xs_build.specs.steps.Rest.{going_on, behind, left, concluded}
use Rattle.xs_build.proofs.ReadingLemmas.{no_text, is_text, row_says}

-- what a step leaves to do
abbrev pub after : Next → List Row → Outcome
after (stops number line) rows = refused number line
after (goes s) rows = left (next_line s) rows

going_on_nil : (text : List ℕ) → going_on text [] ≡ text
going_on_nil [] = refl
going_on_nil (b ∷ text) = ap (λ t. b ∷ t) (append-nil text)

behind_put : (rs : List Record) (ls : List ℕ) (nodes : List Record) (line : ℕ) (o : Outcome)
    → behind rs ls (put_before nodes line o) ≡ behind (with_items rs nodes) (with_items ls (map (λ _. line) nodes)) o
behind_put rs ls [] line (tree more lines) = refl
behind_put rs ls (n ∷ nodes) line (tree more lines) =
    ap (λ xs. tree xs (ls ++ (line ∷ map (λ _. line) nodes ++ lines))) (sym (append_assoc rs (n ∷ nodes) more))
    ∙ ap (λ xs. tree ((rs ++ n ∷ nodes) ++ more) xs) (sym (append_assoc ls (line ∷ map (λ _. line) nodes) lines))
behind_put rs ls [] line (refused number at) = refl
behind_put rs ls (n ∷ nodes) line (refused number at) = refl

length_with : (ls : List ℕ) (line : ℕ) (nodes : List Record) → length (with_items ls (map (λ _. line) nodes)) ≡ length ls + length nodes
length_with ls line [] = omega arith
length_with ls line (n ∷ nodes) = length-append ls (line ∷ map (λ _. line) nodes) ∙ ap (λ k. length ls + k) (length-map (n ∷ nodes) (λ (_ : Record). line))

pub text_ahead_none : (row : Row) (rows : List Row) → is_text_row row ≡ false → text_ahead (row ∷ rows) ≡ []
unfolding text_ahead
text_ahead_none row rows h = rw (take_while-cons is_text_row row rows, h) refl

pub text_ahead_more : (row : Row) (rows : List Row) (text : List ℕ) → is_text_row row ≡ true → reading row ≡ says (Chars text)
    → text_ahead (row ∷ rows) ≡ text ++ text_ahead rows
unfolding text_ahead
text_ahead_more row rows text h e = rw (take_while-cons is_text_row row rows, h, e) refl

-- a step whose nodes are counted, and behind which no text goes on
pub Fits : Context → Step → Type 0
Fits c (bad number) = Unit {0}
Fits c (gives nodes d) = (d.in_text ≡ false) × (d.nodes ≡ c.nodes + length nodes)

left_bad : (s : State) (number : ℕ) (row : Row) (rows : List Row) → row_step (context s) s.line row rows ≡ bad number
    → left s (row ∷ rows) ≡ refused number s.line
unfolding left meaning
left_bad s number row rows h = rw h refl

left_gives : (s : State) (row : Row) (rows : List Row) (nodes : List Record) (d : Context) → is_text_row row ≡ false
    → row_step (context s) s.line row rows ≡ gives nodes d → d.in_text ≡ false → d.nodes ≡ length s.lines + length nodes
    → left s (row ∷ rows) ≡ left (next_line (placed (ended s) nodes d)) rows
unfolding left meaning
left_gives s row rows nodes d k h quiet counted =
    let rs = with_text_node s.records (innermost s.around) s.text in
    let here : d ≡ context (next_line (placed (ended s) nodes d)) =
    ap (λ b. record d { in_text = b }) quiet ∙ ap (λ n. record d { in_text = false; nodes = n }) (counted ∙ sym (length_with s.lines s.line nodes)) in
    ap (λ t. behind (with_text_node s.records (innermost s.around) (going_on s.text t)) s.lines (meaning (context s) s.line (row ∷ rows)))
    (text_ahead_none row rows k)
    ∙ ap (λ t. behind (with_text_node s.records (innermost s.around) t) s.lines (meaning (context s) s.line (row ∷ rows))) (going_on_nil s.text)
    ∙ ap (λ st. behind rs s.lines (and_then s.line st (λ next. meaning next (s.line + 1) rows))) h
    ∙ behind_put rs s.lines nodes s.line (meaning d (s.line + 1) rows)
    ∙ ap (λ c. behind (with_items rs nodes) (with_items s.lines (map (λ _. s.line) nodes)) (meaning c (s.line + 1) rows)) here

left_moved : (s : State) (row : Row) (rows : List Row) (step : Step) → is_text_row row ≡ false → row_step (context s) s.line row rows ≡ step
    → Fits (context s) step → left s (row ∷ rows) ≡ after (moved s step) rows
unfolding Fits
left_moved s row rows (bad number) k h f = left_bad s number row rows h
left_moved s row rows (gives nodes d) k h f = left_gives s row rows nodes d k h f.0 f.1

pub ended_is : (s : State) → s.text ≡ [] → ended s ≡ s
ended_is s h =
    ap (λ t. record s { records = with_text_node s.records (innermost s.around) t; text = [] }) h
    ∙ ap (λ t. record s { text = t }) (sym h)

pub moved_is : (s : State) (step : Step) → s.text ≡ [] → moved s step ≡ taken s step
moved_is s (bad number) h = refl
moved_is s (gives nodes d) h = ap (λ t. goes (placed t nodes d)) (ended_is s h)

fits_rule : (c : Context) (b : Bool) (number : ℕ) (step : Step) → Fits c step → Fits c (rule b number step)
unfolding Fits
fits_rule c true number step f = f
fits_rule c false number step f = tt

fits_needs : {X : Type 0} (c : Context) (o : Option X) (number : ℕ) (next : X → Step) → ((x : X) → Fits c (next x)) → Fits c (needs o number next)
unfolding Fits
fits_needs c None number next f = tt
fits_needs c (Some x) number next f = f x

needs_known : {X : Type 0} (c : Context) (o : Option X) (number : ℕ) (next : X → Step) → ((x : X) → IsSome o → Fits c (next x)) → Fits c (needs o number next)
unfolding Fits
needs_known c None number next f = tt
needs_known c (Some x) number next f = f x refl

fits_adds : (c : Context) (nodes : List Record) (d : Context) → d.in_text ≡ false → d.nodes ≡ c.nodes + length nodes → Fits c (adds c nodes d)
unfolding Fits
fits_adds c nodes d quiet counted = fits_rule c (nat_le (c.nodes + length nodes) most_nodes) too_large (gives nodes d) (quiet, counted)

fits_if : (c : Context) (b : Bool) (x y : Step) → Fits c x → Fits c y → Fits c (if b then x else y)
fits_if c true x y f g = f
fits_if c false x y f g = g

fits_none : (c : Context) (d : Context) → d.in_text ≡ false → d.nodes ≡ c.nodes + 0 → Fits c (gives [] d)
unfolding Fits
fits_none c d quiet counted = (quiet, counted)

counted_spaces : (n : ℕ) (scope : Bindings) (full : Name) (p : ℕ) → n + 1 + length scope ≡ n + length (element full p ∷ spaces n scope)
counted_spaces n scope full p = omega (arith, length-map scope (space n))

fits_start : (c : Context) (name : List ℕ) (rows : List Row) → Fits c (start_step c name rows)
unfolding start_step
fits_start c name rows =
    let scope = scope_with (declarations rows) (scope_of c.around) in
    let K : Name → Step = λ full. adds c (element full (innermost c.around) ∷ spaces c.nodes scope)
    (record {
      around = record { name = name; node = c.nodes; scope = scope } ∷ c.around;
      begun = true;
      tag = Some [];
      in_text = false;
      nodes = c.nodes + 1 + length scope;
    }) in
    fits_rule c (not c.begun || not (is_empty c.around)) unbalanced (needs (qname_of name) bad_name (λ w. needs (element_name scope w) unbound_prefix K))
    (fits_needs c (qname_of name) bad_name (λ w. needs (element_name scope w) unbound_prefix K) (λ w.
    fits_needs c (element_name scope w) unbound_prefix K (λ full.
    fits_adds c (element full (innermost c.around) ∷ spaces c.nodes scope)
    (record {
      around = record { name = name; node = c.nodes; scope = scope } ∷ c.around;
      begun = true;
      tag = Some [];
      in_text = false;
      nodes = c.nodes + 1 + length scope;
    })
    refl (counted_spaces c.nodes scope full (innermost c.around)))))

fits_name : (c : Context) (seen : List Expanded) (name : Expanded) (step : Step) → Fits c step → Fits c (with_name seen name step)
fits_name c seen name step f = fits_rule c (not (list_any (same_name name) seen)) double_attribute step f

fits_declaration : (c : Context) (seen : List Expanded) (value prefix : List ℕ) → c.in_text ≡ false → Fits c (declaration_step c seen value prefix)
unfolding declaration_step
fits_declaration c seen value prefix quiet =
    let d : Context = record c { tag = Some (seen ++ declaration_name prefix ∷ []) } in
    fits_name c seen (declaration_name prefix) (rule (not (is_bad_binding prefix value)) bad_namespace (gives [] d))
    (fits_rule c (not (is_bad_binding prefix value)) bad_namespace (gives [] d) (fits_none c d quiet (omega arith)))

fits_plain : (c : Context) (seen : List Expanded) (value : List ℕ) (w : QName) → c.in_text ≡ false → Fits c (plain_step c seen value w)
unfolding plain_step
fits_plain c seen value w quiet =
    let D : Name → Context = λ name. record c { tag = Some (seen ++ expanded name ∷ []); nodes = c.nodes + 1 } in
    let K : Name → Step = λ name. with_name seen (expanded name) (adds c (attribute name value (innermost c.around) ∷ []) (D name)) in
    fits_needs c (attribute_name (scope_of c.around) w) unbound_prefix K (λ name.
    fits_name c seen (expanded name) (adds c (attribute name value (innermost c.around) ∷ []) (D name))
    (fits_adds c (attribute name value (innermost c.around) ∷ []) (D name) quiet refl))

fits_written : (c : Context) (seen : List Expanded) (value : List ℕ) (w : QName) (declared : Option (List ℕ)) → c.in_text ≡ false
    → Fits c (written_step c seen value w declared)
fits_written c seen value w None quiet = fits_plain c seen value w quiet
fits_written c seen value w (Some prefix) quiet = fits_declaration c seen value prefix quiet

fits_attribute : (c : Context) (name value : List ℕ) → (IsSome c.tag → c.in_text ≡ false) → Fits c (attribute_step c name value)
unfolding attribute_step
fits_attribute c name value quiet =
    needs_known c c.tag bad_line (λ seen. needs (qname_of name) bad_name (λ w. written_step c seen value w (declared_prefix w))) (λ seen is.
    fits_needs c (qname_of name) bad_name (λ w. written_step c seen value w (declared_prefix w)) (λ w.
    fits_written c seen value w (declared_prefix w) (quiet is)))

fits_close : (c : Context) (os : List Opened) (name : List ℕ) → Fits c (close c os name)
unfolding Fits
fits_close c [] name = tt
fits_close c (o ∷ os) name = fits_rule c (bytes_eq o.name name) unbalanced (gives [] (past c os 0)) (fits_none c (past c os 0) refl refl)

fits_end : (c : Context) (name : List ℕ) → Fits c (end_step c name)
unfolding end_step
fits_end c name = fits_close c c.around name

fits_instruction : (c : Context) (line : ℕ) (target text : List ℕ) → Fits c (instruction_step c line target text)
unfolding instruction_step
fits_instruction c line target text =
    let A : Step = gives [] (past c c.around 0) in
    let B : Step = rule (is_ncname target && not (is_xml target)) bad_name (adds c (instruction target text (innermost c.around) ∷ []) (past c c.around 1)) in
    fits_if c (line == 1 && is_xml target) A B (fits_none c (past c c.around 0) refl refl)
    (fits_rule c (is_ncname target && not (is_xml target)) bad_name (adds c (instruction target text (innermost c.around) ∷ []) (past c c.around 1))
    (fits_adds c (instruction target text (innermost c.around) ∷ []) (past c c.around 1) refl refl))

fits_comment : (c : Context) (text : List ℕ) → Fits c (comment_step c text)
unfolding comment_step
fits_comment c text = fits_adds c (comment text (innermost c.around) ∷ []) (past c c.around 1) refl refl

-- a text outside
outer : (rs : List Record) (ls : List ℕ) (text : List ℕ) (begun : Bool) (tag : Option (List Expanded)) (line : ℕ) (row : Row) (rows : List Row) →
    let s : State = record { records = rs; lines = ls; text = []; around = []; begun = begun; tag = tag; line = line } in
    row_step (context s) line row rows ≡ text_step (context s) text rows → left s (row ∷ rows) ≡ after (spoken s text) rows
unfolding left meaning spoken text_step
outer rs ls text begun tag line row rows h =
    let quiet : length ls + 0 ≡ length ls = omega arith in
    elim (cases_Bool (is_blank text)) [
      | inl t ↦ rw (h, t, quiet) (behind_put rs ls [] line (meaning (record {
        around = [];
        begun = begun;
        tag = None;
        in_text = false;
        nodes = length ls;
      }) (line + 1) rows))
      | inr f ↦ rw (h, f) refl
    ]

-- a text that goes on
inner_more : (rs : List Record) (ls : List ℕ) (b : ℕ) (before text : List ℕ) (o : Opened) (os : List Opened) (begun : Bool) (tag : Option (List Expanded))
    (line : ℕ) (row : Row) (rows : List Row) →
    let s : State = record { records = rs; lines = ls; text = b ∷ before; around = o ∷ os; begun = begun; tag = tag; line = line } in
    text_ahead (row ∷ rows) ≡ text ++ text_ahead rows →
    row_step (context s) line row rows ≡ text_step (context s) text rows → left s (row ∷ rows) ≡ after (spoken s text) rows
unfolding left meaning spoken text_step
inner_more rs ls b before text o os begun tag line row rows a h =
    let c : Context = record { around = o ∷ os; begun = begun; tag = None; in_text = true; nodes = length ls } in
    let front = with_text_node rs o.node (b ∷ (before ++ (text ++ text_ahead rows))) in
    rw (a, h, append_assoc before text (text_ahead rows)) (behind_put front ls [] line (meaning c (line + 1) rows))

-- an empty text where none stands
inner_empty : (rs : List Record) (ls : List ℕ) (o : Opened) (os : List Opened) (begun : Bool) (tag : Option (List Expanded)) (line : ℕ) (row : Row)
    (rows : List Row) →
    let s : State = record { records = rs; lines = ls; text = []; around = o ∷ os; begun = begun; tag = tag; line = line } in
    row_step (context s) line row rows ≡ text_step (context s) [] rows → left s (row ∷ rows) ≡ after (spoken s []) rows
unfolding left meaning spoken text_step
inner_empty rs ls o os begun tag line row rows h =
    let c : Context = record { around = o ∷ os; begun = begun; tag = None; in_text = false; nodes = length ls } in
    rw h (behind_put rs ls [] line (meaning c (line + 1) rows))

behind_first : (rs : List Record) (ls : List ℕ) (n : Record) (line : ℕ) (o : Outcome)
    → behind rs ls (put_before (n ∷ []) line o) ≡ behind (rs ++ n ∷ []) (ls ++ line ∷ []) o
behind_first rs ls n line o = behind_put rs ls (n ∷ []) line o

-- the first text of a node
inner_first : (rs : List Record) (ls : List ℕ) (b : ℕ) (text : List ℕ) (o : Opened) (os : List Opened) (begun : Bool) (tag : Option (List Expanded)) (line : ℕ)
    (row : Row) (rows : List Row) →
    let s : State = record { records = rs; lines = ls; text = []; around = o ∷ os; begun = begun; tag = tag; line = line } in
    row_step (context s) line row rows ≡ text_step (context s) (b ∷ text) rows → left s (row ∷ rows) ≡ after (spoken s (b ∷ text)) rows
unfolding left meaning spoken text_step
inner_first rs ls b text o os begun tag line row rows h =
    let c : Context = record { around = o ∷ os; begun = begun; tag = None; in_text = true; nodes = length ls + 1 } in
    let e : length (ls ++ line ∷ []) ≡ length ls + 1 = length-append ls (line ∷ []) in
    elim (cases_Bool (nat_le (length ls + 1) most_nodes)) [
      | inl t ↦ rw (h, t, e) (behind_first rs ls (text_node (b ∷ (text ++ text_ahead rows)) o.node) line (meaning c (line + 1) rows))
      | inr f ↦ rw (h, f) refl
    ]

left_text : (rs : List Record) (ls : List ℕ) (before text : List ℕ) (around : List Opened) (begun : Bool) (tag : Option (List Expanded)) (line : ℕ) (row : Row)
    (rows : List Row) →
    let s : State = record { records = rs; lines = ls; text = before; around = around; begun = begun; tag = tag; line = line } in
    (around ≡ [] → before ≡ []) → text_ahead (row ∷ rows) ≡ text ++ text_ahead rows →
    row_step (context s) line row rows ≡ text_step (context s) text rows → left s (row ∷ rows) ≡ after (spoken s text) rows
left_text rs ls [] text [] begun tag line row rows q a h = outer rs ls text begun tag line row rows h
left_text rs ls (b ∷ before) text [] begun tag line row rows q a h = let no : b ∷ before ≡ [] = q refl in cc
left_text rs ls (b ∷ before) text (o ∷ os) begun tag line row rows q a h = inner_more rs ls b before text o os begun tag line row rows a h
left_text rs ls [] [] (o ∷ os) begun tag line row rows q a h = inner_empty rs ls o os begun tag line row rows h
left_text rs ls [] (b ∷ text) (o ∷ os) begun tag line row rows q a h = inner_first rs ls b text o os begun tag line row rows h

quiet_tag : (s : State) → IsGood s → IsSome s.tag → not (is_empty s.text) ≡ false
quiet_tag s g is = ap (λ t. not (is_empty t)) (g.fresh is).quiet

left_attribute : (s : State) (row : Row) (rows : List Row) (name value : List ℕ) (tag : Option (List Expanded)) → s.tag ≡ tag → IsGood s
    → is_text_row row ≡ false → row_step (context s) s.line row rows ≡ attribute_step (context s) name value
    → left s (row ∷ rows) ≡ after (taken s (attribute_step (context s) name value)) rows
unfolding attribute_step
left_attribute s row rows name value None e g k h = left_bad s 1 row rows (h ∙ rw e refl) ∙ rw e refl
left_attribute s row rows name value (Some seen) e g k h =
    let some : IsSome s.tag = rw e refl in
    left_moved s row rows (attribute_step (context s) name value) k h (fits_attribute (context s) name value (quiet_tag s g))
    ∙ ap (λ n. after n rows) (moved_is s (attribute_step (context s) name value) (g.fresh some).quiet)

-- what a line leaves to do
pub after_line : (s : State) (row : Row) (rows : List Row) (line : Line) → IsGood s → reading row ≡ says line
    → left s (row ∷ rows) ≡ after (stepped s line rows) rows
after_line s row rows (Start name) g h = left_moved s row rows (start_step (context s) name rows) (no_text row (Start name) refl h)
    (row_says (context s) s.line row rows (Start name) h) (fits_start (context s) name rows)
after_line s row rows (Attr name value) g h = left_attribute s row rows name value s.tag refl g (no_text row (Attr name value) refl h)
    (row_says (context s) s.line row rows (Attr name value) h)
after_line s row rows (Chars text) g h = left_text s.records s.lines s.text text s.around s.begun s.tag s.line row rows g.outside
    (text_ahead_more row rows text (is_text row text h) h) (row_says (context s) s.line row rows (Chars text) h)
after_line s row rows (End name) g h = left_moved s row rows (end_step (context s) name) (no_text row (End name) refl h)
    (row_says (context s) s.line row rows (End name) h) (fits_end (context s) name)
after_line s row rows (Pi target value) g h = left_moved s row rows (instruction_step (context s) s.line target value) (no_text row (Pi target value) refl h)
    (row_says (context s) s.line row rows (Pi target value) h) (fits_instruction (context s) s.line target value)
after_line s row rows (Comment text) g h = left_moved s row rows (comment_step (context s) text) (no_text row (Comment text) refl h)
    (row_says (context s) s.line row rows (Comment text) h) (fits_comment (context s) text)

-- a bad line decides all
pub after_bad : (s : State) (row : Row) (rows : List Row) (number : ℕ) → row_step (context s) s.line row rows ≡ bad number
    → left s (row ∷ rows) ≡ refused number s.line
after_bad s row rows number h = left_bad s number row rows h

-- what the end of the lines leaves
pub after_all : (s : State) → left s [] ≡ concluded s
unfolding left concluded meaning text_ahead
after_all s = ap (λ t. behind (with_text_node s.records (innermost s.around) t) s.lines (at_end (context s) (s.line - 1))) (going_on_nil s.text)

behind_root : (o : Outcome) → behind (root_record ∷ []) (0 ∷ []) o ≡ put_before (root_record ∷ []) 0 o
behind_root (tree nodes lines) = refl
behind_root (refused number line) = refl

-- at the beginning all is left to do
pub from_start : (rows : List Row) → left initial rows ≡ put_before (root_record ∷ []) 0 (meaning at_start 1 rows)
unfolding left
from_start rows = behind_root (meaning at_start 1 rows)
