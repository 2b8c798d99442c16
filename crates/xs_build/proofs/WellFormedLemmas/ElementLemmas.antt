-- In the tree of a document each element is whole: its namespace nodes, its name and its attributes.
use Rattle.std.proofs.Common.{◌≡◌, ℕ, ◌+◌, ◌-◌, ◌<◌, zero, suc, List, [], ◌∷◌, ◌++◌, Option, None, Some, Bool, true, false, refl, sym, ◌∙◌, ap, subst, length}
use Rattle.std.proofs.Common.{append_assoc, append-nil, arith}
use Rattle.std.specs.Prelude.{not, ◌&&◌, ◌||◌, ◌==◌, nat_le, if◌then◌else◌, is_none}
use Rattle.std.specs.List.{AllByRecursion, list_any}
use Rattle.std.specs.Str.{bytes_eq}
use Rattle.xs_text.specs.WhiteSpace.{is_blank}
use Rattle.xs_pyx.specs.Row.{Row, rows_of}
use Rattle.xs_pyx.specs.Reading.{Reading, says, faulty, reading}
use Rattle.xs_pyx.specs.declared.line.Line.{Line}
use Rattle.xs_pyx.specs.declared.line.Line.TheVariants.{Start, Attr, Chars, End, Pi, Comment}
use Rattle.xs_tree.specs.declared.kinds.Kind.TheVariants as kinds
use Rattle.xs_tree.specs.declared.names.Name.{Name}
use Rattle.xs_tree.specs.Record.{Record, root_record, at}
use Rattle.xs_build.specs.declared.tag_names.Expanded.{Expanded}
use Rattle.xs_build.specs.declared.opened.Opened.{Opened}
use Rattle.xs_build.specs.Faults.{bad_line, bad_utf8, unbalanced, no_root, bad_name, unbound_prefix, double_attribute, bad_namespace, too_large, truncated}
use Rattle.xs_tree.specs.Limits.{most_nodes}
use Rattle.xs_build.specs.Namespaces.{QName, is_empty, is_ncname, is_xml, qname_of, scope_with, element_name, attribute_name, declared_prefix, is_bad_binding}
use Rattle.xs_build.specs.Start.{is_attribute_row, declarations, text_ahead}
use Rattle.xs_build.specs.steps.Lines.{Context, at_start, innermost, scope_of, expanded, Step, bad, gives, rule, needs, adds, past, with_name, same_name}
use Rattle.xs_build.specs.steps.Lines.{declaration_name, start_step, declaration_step, plain_step, written_step, attribute_step, outer_text_step}
use Rattle.xs_build.specs.steps.Lines.{inner_text_step, text_step, close, end_step, instruction_step, comment_step, line_step, reading_step, stray_step}
use Rattle.xs_build.specs.steps.Lines.{row_step, put_before, and_then, meaning}
use Rattle.xs_build.specs.Nodes.{element, attribute, spaces, text_node, comment, instruction}
use Rattle.xs_build.specs.Document.{Outcome, tree, refused, outcome, document}
use Rattle.xs_build.specs.DocumentTree.{is_well_named, IsElement}
use Rattle.xs_build.proofs.StepAgreementLemmas.{agreement}
use Rattle.xs_build.proofs.WellFormedLemmas.ScopeLemmas.{IsScope, IsWritten, qname_parts, outermost_scope, declared_scope, declared_key}
use Rattle.xs_build.proofs.WellFormedLemmas.OwnNodeLemmas.{element_whole}
use Rattle.xs_build.proofs.WellFormedLemmas.NewElementLemmas.{IsNamed, attribute_scoped, attribute_qname}
use Rattle.xs_build.proofs.WellFormedLemmas.KeptElementLemmas.{Opens, Whole, Based, Holds, one_added, none_added, tag_added, attribute_added, element_added}

-- the nodes so far, and where the next line stands
abbrev HoldsIn : List Record → Context → Type 0
HoldsIn rs c = Holds rs c.nodes c.around c.tag

abbrev Keeps : List Record → Step → Type 0
Keeps rs (bad number) = Unit {0}
Keeps rs (gives nodes d) = HoldsIn (rs ++ nodes) d

keeps_rule : (rs : List Record) (b : Bool) (number : ℕ) (step : Step) → Keeps rs step → Keeps rs (rule b number step)
keeps_rule rs true number step h = h
keeps_rule rs false number step h = tt

keeps_allowed : (rs : List Record) (b : Bool) (number : ℕ) (step : Step) → (b ≡ true → Keeps rs step) → Keeps rs (rule b number step)
keeps_allowed rs true number step h = h refl
keeps_allowed rs false number step h = tt

keeps_needs : {X : Type 0} (rs : List Record) (o : Option X) (number : ℕ) (next : X → Step) → ((x : X) → o ≡ Some x → Keeps rs (next x))
    → Keeps rs (needs o number next)
keeps_needs rs None number next h = tt
keeps_needs rs (Some x) number next h = h x refl

keeps_if : (rs : List Record) (b : Bool) (x y : Step) → Keeps rs x → Keeps rs y → Keeps rs (if b then x else y)
keeps_if rs true x y f g = f
keeps_if rs false x y f g = g

keeps_adds : (rs : List Record) (c : Context) (nodes : List Record) (d : Context) → HoldsIn (rs ++ nodes) d → Keeps rs (adds c nodes d)
keeps_adds rs c nodes d h = keeps_rule rs (nat_le (c.nodes + length nodes) most_nodes) too_large (gives nodes d) h

keeps_name : (rs : List Record) (seen : List Expanded) (name : Expanded) (step : Step) → (list_any (same_name name) seen ≡ false → Keeps rs step)
    → Keeps rs (with_name seen name step)
keeps_name rs seen name step h = by (list_any (same_name name) seen) h
  where
    by : (b : Bool) → (b ≡ false → Keeps rs step) → Keeps rs (rule (not b) double_attribute step)
    by true h = tt
    by false h = h refl

-- the bindings in force
scope_in_force : (rs : List Record) (os : List Opened) → Opens rs os → IsScope (scope_of os)
scope_in_force rs [] a = outermost_scope
scope_in_force rs (o ∷ os) a = a.2

-- each kind of line
keeps_start : (rs : List Record) (c : Context) (name : List ℕ) (rows : List Row) → HoldsIn rs c → Keeps rs (start_step c name rows)
unfolding start_step
keeps_start rs c name rows h =
    let scope = scope_with (declarations rows) (scope_of c.around) in
    let K : Name → Step = λ full. adds c (element full (innermost c.around) ∷ spaces c.nodes scope)
    (record {
      around = record { name = name; node = c.nodes; scope = scope } ∷ c.around;
      begun = true;
      tag = Some [];
      in_text = false;
      nodes = c.nodes + 1 + length scope;
    }) in
    keeps_rule rs (not c.begun || not (is_empty c.around)) unbalanced (needs (qname_of name) bad_name (λ w. needs (element_name scope w) unbound_prefix K))
    (keeps_needs rs (qname_of name) bad_name (λ w. needs (element_name scope w) unbound_prefix K) (λ w is.
    keeps_needs rs (element_name scope w) unbound_prefix K (λ full found.
    keeps_adds rs c (element full (innermost c.around) ∷ spaces c.nodes scope)
    (record {
      around = record { name = name; node = c.nodes; scope = scope } ∷ c.around;
      begun = true;
      tag = Some [];
      in_text = false;
      nodes = c.nodes + 1 + length scope;
    })
    (element_added rs c.nodes c.around c.tag w name full scope (declared_scope rows (scope_of c.around) (scope_in_force rs c.around h.around))
    (qname_parts name w is)
    (λ q some k. declared_key q rows (scope_of c.around) some k) found h))))

keeps_declaration : (rs : List Record) (c : Context) (seen : List Expanded) (value prefix : List ℕ) → c.tag ≡ Some seen → HoldsIn rs c
    → Keeps rs (declaration_step c seen value prefix)
unfolding declaration_step
keeps_declaration rs c seen value prefix is h =
    let d : Context = record c { tag = Some (seen ++ declaration_name prefix ∷ []) } in
    keeps_rule rs (not (list_any (same_name (declaration_name prefix)) seen)) double_attribute
    (rule (not (is_bad_binding prefix value)) bad_namespace (gives [] d))
    (keeps_rule rs (not (is_bad_binding prefix value)) bad_namespace (gives [] d)
    (tag_added rs c.nodes c.around seen (declaration_name prefix) (subst (Holds rs c.nodes c.around) is h)))

plain_added : (rs : List Record) (count : ℕ) (os : List Opened) (seen : List Expanded) (w : QName) (full : Name) (value : List ℕ) → declared_prefix w ≡ None
    → IsWritten w → attribute_name (scope_of os) w ≡ Some full → list_any (same_name (expanded full)) seen ≡ false →
    Holds rs count os (Some seen) → Holds (rs ++ attribute full value (innermost os) ∷ []) (count + 1) os (Some (seen ++ expanded full ∷ []))
plain_added rs count [] seen w full value none is found new h = absurd h.named
plain_added rs count (o ∷ os) seen w full value none is found new h =
    attribute_added rs count o os seen full value (attribute_scoped o.node o.scope w.prefix w.local value o.node full none found) new
    (attribute_qname o.scope w full value o.node is found) h

keeps_plain : (rs : List Record) (c : Context) (seen : List Expanded) (value : List ℕ) (w : QName) → c.tag ≡ Some seen → IsWritten w
    → declared_prefix w ≡ None → HoldsIn rs c → Keeps rs (plain_step c seen value w)
unfolding plain_step
keeps_plain rs c seen value w is written none h =
    let D : Name → Context = λ name. record c { tag = Some (seen ++ expanded name ∷ []); nodes = c.nodes + 1 } in
    let K : Name → Step = λ name. with_name seen (expanded name) (adds c (attribute name value (innermost c.around) ∷ []) (D name)) in
    keeps_needs rs (attribute_name (scope_of c.around) w) unbound_prefix K (λ name found.
    keeps_name rs seen (expanded name) (adds c (attribute name value (innermost c.around) ∷ []) (D name)) (λ new.
    keeps_adds rs c (attribute name value (innermost c.around) ∷ []) (D name)
    (plain_added rs c.nodes c.around seen w name value none written found new (subst (Holds rs c.nodes c.around) is h))))

keeps_written : (rs : List Record) (c : Context) (seen : List Expanded) (value : List ℕ) (w : QName) (declared : Option (List ℕ)) → c.tag ≡ Some seen
    → IsWritten w → declared_prefix w ≡ declared → HoldsIn rs c → Keeps rs (written_step c seen value w declared)
keeps_written rs c seen value w None is written none h = keeps_plain rs c seen value w is written none h
keeps_written rs c seen value w (Some prefix) is written some h = keeps_declaration rs c seen value prefix is h

keeps_attribute : (rs : List Record) (c : Context) (name value : List ℕ) → HoldsIn rs c → Keeps rs (attribute_step c name value)
unfolding attribute_step
keeps_attribute rs c name value h =
    keeps_needs rs c.tag bad_line (λ seen. needs (qname_of name) bad_name (λ w. written_step c seen value w (declared_prefix w))) (λ seen is.
    keeps_needs rs (qname_of name) bad_name (λ w. written_step c seen value w (declared_prefix w)) (λ w written.
    keeps_written rs c seen value w (declared_prefix w) is (qname_parts name w written) refl h))

quiet_tag : (rs : List Record) (count : ℕ) (os : List Opened) (tag : Option (List Expanded)) → Holds rs count os tag → Holds (rs ++ []) count os None
quiet_tag rs count os tag h =
    let same : count + 0 ≡ count = omega arith in
    subst (λ n. Holds (rs ++ []) n os None) same (none_added rs count os os tag h.around h)

keeps_text : (rs : List Record) (c : Context) (text : List ℕ) (rows : List Row) → HoldsIn rs c → Keeps rs (text_step c text rows)
unfolding text_step
keeps_text rs c text rows h =
    let node : Record = text_node (text ++ text_ahead rows) (innermost c.around) in
    let d : Context = record c { tag = None; in_text = true; nodes = c.nodes + 1 } in
    keeps_if rs (is_empty c.around) (outer_text_step c text) (inner_text_step c text rows)
    (keeps_rule rs (is_blank text) unbalanced (gives [] (past c [] 0)) (none_added rs c.nodes c.around [] c.tag tt h))
    (keeps_if rs (c.in_text || is_empty text) (gives [] (record c { tag = None })) (adds c (node ∷ []) d)
    (quiet_tag rs c.nodes c.around c.tag h)
    (keeps_adds rs c (node ∷ []) d (one_added rs node c.nodes c.around c.tag refl refl (λ e. cc) refl h)))

keeps_close : (rs : List Record) (c : Context) (os : List Opened) (name : List ℕ) → Opens rs os → HoldsIn rs c → Keeps rs (close c os name)
keeps_close rs c [] name a h = tt
keeps_close rs c (o ∷ os) name a h = keeps_rule rs (bytes_eq o.name name) unbalanced (gives [] (past c os 0)) (none_added rs c.nodes c.around os c.tag a.3 h)

keeps_end : (rs : List Record) (c : Context) (name : List ℕ) → HoldsIn rs c → Keeps rs (end_step c name)
unfolding end_step
keeps_end rs c name h = keeps_close rs c c.around name h.around h

keeps_instruction : (rs : List Record) (c : Context) (line : ℕ) (target text : List ℕ) → HoldsIn rs c → Keeps rs (instruction_step c line target text)
unfolding instruction_step
keeps_instruction rs c line target text h =
    let node : Record = instruction target text (innermost c.around) in
    let B : Step = rule (is_ncname target && not (is_xml target)) bad_name (adds c (node ∷ []) (past c c.around 1)) in
    keeps_if rs (line == 1 && is_xml target) (gives [] (past c c.around 0)) B
    (none_added rs c.nodes c.around c.around c.tag h.around h)
    (keeps_allowed rs (is_ncname target && not (is_xml target)) bad_name (adds c (node ∷ []) (past c c.around 1)) (λ allowed.
    keeps_adds rs c (node ∷ []) (past c c.around 1) (one_added rs node c.nodes c.around c.tag refl refl (λ e. cc) allowed h)))

keeps_comment : (rs : List Record) (c : Context) (text : List ℕ) → HoldsIn rs c → Keeps rs (comment_step c text)
unfolding comment_step
keeps_comment rs c text h =
    let node : Record = comment text (innermost c.around) in
    keeps_adds rs c (node ∷ []) (past c c.around 1) (one_added rs node c.nodes c.around c.tag refl refl (λ e. cc) refl h)

keeps_line : (rs : List Record) (c : Context) (line : ℕ) (l : Line) (rows : List Row) → HoldsIn rs c → Keeps rs (line_step c line l rows)
keeps_line rs c line (Start name) rows h = keeps_start rs c name rows h
keeps_line rs c line (Attr name value) rows h = keeps_attribute rs c name value h
keeps_line rs c line (Chars text) rows h = keeps_text rs c text rows h
keeps_line rs c line (End name) rows h = keeps_end rs c name h
keeps_line rs c line (Pi target text) rows h = keeps_instruction rs c line target text h
keeps_line rs c line (Comment text) rows h = keeps_comment rs c text h

keeps_reading : (rs : List Record) (c : Context) (line : ℕ) (r : Reading) (rows : List Row) → HoldsIn rs c → Keeps rs (reading_step c line r rows)
keeps_reading rs c line (says l) rows h = keeps_line rs c line l rows h
keeps_reading rs c line (faulty number) rows h = tt

keeps_stray : (rs : List Record) (r : Reading) → Keeps rs (stray_step r)
keeps_stray rs (says l) = tt
keeps_stray rs (faulty number) = keeps_if rs (number == 3) (bad bad_utf8) (bad bad_line) tt tt

keeps_row : (rs : List Record) (c : Context) (line : ℕ) (row : Row) (rows : List Row) → HoldsIn rs c → Keeps rs (row_step c line row rows)
unfolding row_step
keeps_row rs c line row rows h =
    keeps_if rs (is_attribute_row row && is_none c.tag) (stray_step (reading row)) (reading_step c line (reading row) rows)
    (keeps_stray rs (reading row)) (keeps_reading rs c line (reading row) rows h)

-- all lines
pub record AllWhole (rs : List Record) : Type 0 where
  pub whole : (n : ℕ) → n < length rs → (at rs n).kind ≡ kinds.Element → Whole rs n
  pub based : Based rs

ended : (begun closed : Bool) (last : ℕ) (more : List Record) (lines : List ℕ)
    → (if not begun then refused no_root last else if not closed then refused truncated last else tree [] []) ≡ tree more lines → more ≡ []
ended true true last more lines e = cc
ended true false last more lines e = cc
ended false closed last more lines e = cc

put : (rs nodes : List Record) (line : ℕ) (o : Outcome) (more : List Record) (lines : List ℕ) → put_before nodes line o ≡ tree more lines →
    ((others : List Record) (numbers : List ℕ) → o ≡ tree others numbers → AllWhole ((rs ++ nodes) ++ others)) → AllWhole (rs ++ more)
put rs nodes line (tree others numbers) more lines e h =
    let same : nodes ++ others ≡ more = cc in
    subst AllWhole (append_assoc rs nodes others ∙ ap (λ (xs : List Record). rs ++ xs) same) (h others numbers refl)
put rs nodes line (refused number at) more lines e h = absurd (cc)

stepped : (rs : List Record) (line : ℕ) (step : Step) (rest : Context → Outcome) (more : List Record) (lines : List ℕ) → Keeps rs step
    → and_then line step rest ≡ tree more lines →
    ((nodes : List Record) (d : Context) → HoldsIn (rs ++ nodes) d → (others : List Record) (numbers : List ℕ) → rest d ≡ tree others numbers
    → AllWhole ((rs ++ nodes) ++ others)) → AllWhole (rs ++ more)
stepped rs line (bad number) rest more lines k e h = absurd (cc)
stepped rs line (gives nodes d) rest more lines k e h = put rs nodes line (rest d) more lines e (h nodes d k)

all_lines : (rows : List Row) (rs : List Record) (c : Context) (line : ℕ) (more : List Record) (lines : List ℕ) → HoldsIn rs c
    → meaning c line rows ≡ tree more lines → AllWhole (rs ++ more)
unfolding meaning
all_lines [] rs c line more lines h e =
    let none : more ≡ [] = ended c.begun (is_empty c.around) (line - 1) more lines e in
    rw (none, append-nil rs) (record { whole = h.whole; based = h.based })
all_lines (row ∷ rows) rs c line more lines h e =
    stepped rs line (row_step c line row rows) (λ next. meaning next (line + 1) rows) more lines (keeps_row rs c line row rows h) e
    (λ nodes d k others numbers is. all_lines rows (rs ++ nodes) d (line + 1) others numbers k is)

-- the root alone
root_kind : (n : ℕ) → (at (root_record ∷ []) n).kind ≡ kinds.Element → ⊥
root_kind zero e = cc
root_kind (suc n) e = cc

root_holds : HoldsIn (root_record ∷ []) at_start
root_holds = record {
  counted = refl;
  based = record { some = omega arith; bare = refl; names = (refl, tt); handed = λ n h e. absurd (root_kind n e) };
  whole = λ n h e. absurd (root_kind n e);
  later = λ n h. (refl, refl);
  around = tt;
  named = tt;
}

from_root : (o : Outcome) (rs : List Record) (lines : List ℕ) → put_before (root_record ∷ []) 0 o ≡ tree rs lines
    → ((more : List Record) (numbers : List ℕ) → o ≡ tree more numbers → AllWhole (root_record ∷ more)) → AllWhole rs
from_root (tree more numbers) rs lines e h =
    let same : root_record ∷ more ≡ rs = cc in
    subst AllWhole same (h more numbers refl)
from_root (refused number at) rs lines e h = absurd (cc)

outcome_whole : (rows : List Row) (rs : List Record) (lines : List ℕ) → outcome rows ≡ tree rs lines → AllWhole rs
outcome_whole rows rs lines e = from_root (meaning at_start 1 rows) rs lines (sym (agreement rows)
    ∙ e) (λ more numbers is. all_lines rows (root_record ∷ []) at_start 1 more numbers root_holds is)

document_outcome : (b : Bool) (o : Outcome) (rs : List Record) (lines : List ℕ) → (if b then o else refused too_large 0) ≡ tree rs lines → o ≡ tree rs lines
document_outcome true o rs lines e = e
document_outcome false o rs lines e = absurd (cc)

document_whole : (limit : ℕ) (bytes : List ℕ) (rs : List Record) (lines : List ℕ) → document limit bytes ≡ tree rs lines → AllWhole rs
unfolding document
document_whole limit bytes rs lines e = outcome_whole (rows_of bytes) rs lines
    (document_outcome (nat_le (length bytes) limit) (outcome (rows_of bytes)) rs lines e)

-- each element has what it needs in the tree of a document that is not refused
pub document_elements : (limit : ℕ) (bytes : List ℕ) (rs : List Record) (lines : List ℕ) → document limit bytes ≡ tree rs lines → (n : ℕ) → n < length rs
    → (at rs n).kind ≡ kinds.Element → IsElement rs n
document_elements limit bytes rs lines e n h is =
    let all : AllWhole rs = document_whole limit bytes rs lines e in
    element_whole rs n (λ p to. (all.based.handed n h is p to).1) (all.whole n h is)

named_at : (rs : List Record) (k : ℕ) → AllByRecursion IsNamed rs → k < length rs → IsNamed (at rs k)
named_at [] k a h = absurd (omega arith)
named_at (r ∷ rs) zero a h = a.0
named_at (r ∷ rs) (suc k) a h = named_at rs k a.1 (omega arith)

-- and each node its name
pub document_names : (limit : ℕ) (bytes : List ℕ) (rs : List Record) (lines : List ℕ) → document limit bytes ≡ tree rs lines → (k : ℕ) → k < length rs
    → is_well_named (at rs k) ≡ true
document_names limit bytes rs lines e k h = named_at rs k (document_whole limit bytes rs lines e).based.names h
