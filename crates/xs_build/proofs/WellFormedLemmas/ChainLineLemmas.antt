-- What holds of each node by the one just before it holds of the nodes of all lines.
use Rattle.std.proofs.Common.{◌≡◌, ℕ, ◌+◌, ◌-◌, List, [], ◌∷◌, ◌++◌, Option, None, Some, Bool, true, false, refl, sym, ◌∙◌, ap, subst}
use Rattle.std.proofs.Common.{length, inl, inr, arith}
use Rattle.std.specs.Prelude.{not, ◌&&◌, ◌||◌, ◌==◌, nat_le, if◌then◌else◌, is_none}
use Rattle.std.specs.List.{count_by, list_any}
use Rattle.std.specs.Str.{bytes_eq}
use Rattle.std.proofs.lemmas.Bool.{cases_Bool}
use Rattle.std.proofs.lemmas.Bool.Decides.{nat_tests}
use Rattle.xs_text.specs.WhiteSpace.{is_blank}
use Rattle.xs_pyx.specs.Row.{Row, rows_of}
use Rattle.xs_pyx.specs.Reading.{Reading, says, faulty, reading}
use Rattle.xs_pyx.specs.declared.line.Line.{Line}
use Rattle.xs_pyx.specs.declared.line.Line.TheVariants.{Start, Attr, Chars, End, Pi, Comment}
use Rattle.xs_tree.specs.Record.{Record, root_record, at}
use Rattle.xs_tree.specs.declared.names.Name.{Name}
use Rattle.xs_build.specs.declared.tag_names.Expanded.{Expanded}
use Rattle.xs_build.specs.declared.opened.Opened.{Opened}
use Rattle.xs_build.specs.Faults.{bad_line, bad_utf8, unbalanced, no_root, bad_name, unbound_prefix, double_attribute, bad_namespace, too_large, truncated}
use Rattle.xs_build.specs.Namespaces.{QName, is_empty, is_ncname, is_xml, is_bad_binding, qname_of, element_name, attribute_name, declared_prefix}
use Rattle.xs_build.specs.Namespaces.{scope_with}
use Rattle.xs_build.specs.Start.{is_attribute_row, declarations, text_ahead}
use Rattle.xs_build.specs.Nodes.{element, attribute, spaces, text_node, comment, instruction}
use Rattle.xs_build.specs.steps.Lines.{Context, at_start, innermost, scope_of, expanded, Step, bad, gives, rule, needs, adds, past, with_name, same_name}
use Rattle.xs_build.specs.steps.Lines.{declaration_name, start_step, declaration_step, plain_step, written_step, attribute_step, outer_text_step}
use Rattle.xs_build.specs.steps.Lines.{inner_text_step, text_step, close, end_step, instruction_step, comment_step, line_step, reading_step, stray_step}
use Rattle.xs_build.specs.steps.Lines.{row_step, put_before, and_then, meaning}
use Rattle.xs_build.specs.Document.{Outcome, tree, refused, document}
use Rattle.xs_build.proofs.StepAgreementLemmas.{agreement}
use Rattle.xs_build.proofs.WellFormedLemmas.ChainLemmas.{count_append, is_top, Chain, last_of, chain_append, Stands, tops_left, Keeps, Good, good_rule, good_needs}
use Rattle.xs_build.proofs.WellFormedLemmas.ChainLemmas.{good_if, good_adds, none_given, one_given, declared_given, end_given, outer_given, text_given, start_given}

-- each kind of line
pub good_start : (line : ℕ) (r : Record) (c : Context) (name : List ℕ) (rows : List Row) → Stands line r c → Good line r c.begun (start_step c name rows)
unfolding start_step
good_start line r c name rows s =
    let scope = scope_with (declarations rows) (scope_of c.around) in
    let d : Context = record {
      around = record { name = name; node = c.nodes; scope = scope } ∷ c.around;
      begun = true;
      tag = Some [];
      in_text = false;
      nodes = c.nodes + 1 + length scope;
    } in
    let K : Name → Step = λ full. adds c (element full (innermost c.around) ∷ spaces c.nodes scope) d in
    good_rule line r c.begun (not c.begun || not (is_empty c.around)) unbalanced
    (needs (qname_of name) bad_name (λ w. needs (element_name scope w) unbound_prefix K)) (λ free.
    good_needs line r c.begun (qname_of name) bad_name (λ w. needs (element_name scope w) unbound_prefix K) (λ w.
    good_needs line r c.begun (element_name scope w) unbound_prefix K (λ full.
    good_adds line r c (element full (innermost c.around) ∷ spaces c.nodes scope) d (start_given line r c full name scope s free))))

pub good_declaration : (line : ℕ) (r : Record) (c : Context) (seen : List Expanded) (value prefix : List ℕ) → Stands line r c
    → Good line r c.begun (declaration_step c seen value prefix)
unfolding declaration_step
good_declaration line r c seen value prefix s =
    let d : Context = record c { tag = Some (seen ++ declaration_name prefix ∷ []) } in
    good_rule line r c.begun (not (list_any (same_name (declaration_name prefix)) seen)) double_attribute
    (rule (not (is_bad_binding prefix value)) bad_namespace (gives [] d)) (λ _.
    good_rule line r c.begun (not (is_bad_binding prefix value)) bad_namespace (gives [] d) (λ _. none_given line r c d s refl refl refl refl))

pub good_plain : (line : ℕ) (r : Record) (c : Context) (seen : List Expanded) (value : List ℕ) (w : QName) → Stands line r c
    → Good line r c.begun (plain_step c seen value w)
unfolding plain_step
good_plain line r c seen value w s =
    let D : Name → Context = λ name. record c { tag = Some (seen ++ expanded name ∷ []); nodes = c.nodes + 1 } in
    let K : Name → Step = λ name. with_name seen (expanded name) (adds c (attribute name value (innermost c.around) ∷ []) (D name)) in
    good_needs line r c.begun (attribute_name (scope_of c.around) w) unbound_prefix K (λ name.
    good_rule line r c.begun (not (list_any (same_name (expanded name)) seen)) double_attribute
    (adds c (attribute name value (innermost c.around) ∷ []) (D name)) (λ _.
    good_adds line r c (attribute name value (innermost c.around) ∷ []) (D name)
    (one_given line r (attribute name value (innermost c.around)) c (D name) s refl refl refl refl refl refl)))

pub good_written : (line : ℕ) (r : Record) (c : Context) (seen : List Expanded) (value : List ℕ) (w : QName) (declared : Option (List ℕ)) → Stands line r c
    → Good line r c.begun (written_step c seen value w declared)
good_written line r c seen value w None s = good_plain line r c seen value w s
good_written line r c seen value w (Some prefix) s = good_declaration line r c seen value prefix s

pub good_attribute : (line : ℕ) (r : Record) (c : Context) (name value : List ℕ) → Stands line r c → Good line r c.begun (attribute_step c name value)
unfolding attribute_step
good_attribute line r c name value s =
    let W : List Expanded → QName → Step = λ seen w. written_step c seen value w (declared_prefix w) in
    good_needs line r c.begun c.tag bad_line (λ seen. needs (qname_of name) bad_name (W seen)) (λ seen.
    good_needs line r c.begun (qname_of name) bad_name (W seen) (λ w. good_written line r c seen value w (declared_prefix w) s))

pub good_outer : (line : ℕ) (r : Record) (c : Context) (text : List ℕ) → Stands line r c → Good line r c.begun (outer_text_step c text)
good_outer line r c text s = good_rule line r c.begun (is_blank text) unbalanced (gives [] (past c [] 0)) (λ _. outer_given line r c s)

pub or_none : (a b : Bool) → (a || b) ≡ false → (a ≡ false) × (b ≡ false)
or_none true b h = cc
or_none false b h = (refl, h)

pub good_inner : (line : ℕ) (r : Record) (c : Context) (text : List ℕ) (rows : List Row) → Stands line r c → is_empty c.around ≡ false
    → Good line r c.begun (inner_text_step c text rows)
good_inner line r c text rows s some =
    let d : Context = record c { tag = None; in_text = true; nodes = c.nodes + 1 } in
    let node : Record = text_node (text ++ text_ahead rows) (innermost c.around) in
    good_if line r c.begun (c.in_text || is_empty text) (gives [] (record c { tag = None })) (adds c (node ∷ []) d)
    (λ _. none_given line r c (record c { tag = None }) s refl refl refl refl)
    (λ new. (let both = or_none c.in_text (is_empty text) new in
    good_adds line r c (node ∷ []) d (text_given line r c text (text_ahead rows) s some both.0 both.1)))

pub good_text : (line : ℕ) (r : Record) (c : Context) (text : List ℕ) (rows : List Row) → Stands line r c → Good line r c.begun (text_step c text rows)
unfolding text_step
good_text line r c text rows s =
    good_if line r c.begun (is_empty c.around) (outer_text_step c text) (inner_text_step c text rows) (λ _. good_outer line r c text s)
    (λ some. good_inner line r c text rows s some)

pub good_close : (line : ℕ) (r : Record) (c : Context) (os : List Opened) (name : List ℕ) → Stands line r c → c.around ≡ os
    → Good line r c.begun (close c os name)
good_close line r c [] name s is = tt
good_close line r c (o ∷ os) name s is = good_rule line r c.begun (bytes_eq o.name name) unbalanced (gives [] (past c os 0)) (λ _. end_given line r c o os s is)

pub good_end : (line : ℕ) (r : Record) (c : Context) (name : List ℕ) → Stands line r c → Good line r c.begun (end_step c name)
unfolding end_step
good_end line r c name s = good_close line r c c.around name s refl

pub first_line : (line : ℕ) (b : Bool) → (line == 1 && b) ≡ true → line ≡ 1
first_line line true h = grind (arith, nat_tests)
first_line line false h = grind (arith, nat_tests)

pub good_instruction : (line : ℕ) (r : Record) (c : Context) (target text : List ℕ) → Stands line r c
    → Good line r c.begun (instruction_step c line target text)
unfolding instruction_step
good_instruction line r c target text s =
    let node = instruction target text (innermost c.around) in
    good_if line r c.begun (line == 1 && is_xml target) (gives [] (past c c.around 0))
    (rule (is_ncname target && not (is_xml target)) bad_name (adds c (node ∷ []) (past c c.around 1)))
    (λ t. declared_given line r c s (first_line line (is_xml target) t))
    (λ _. good_rule line r c.begun (is_ncname target && not (is_xml target)) bad_name (adds c (node ∷ []) (past c c.around 1)) (λ _.
    good_adds line r c (node ∷ []) (past c c.around 1) (one_given line r node c (past c c.around 1) s refl refl refl refl refl refl)))

pub good_comment : (line : ℕ) (r : Record) (c : Context) (text : List ℕ) → Stands line r c → Good line r c.begun (comment_step c text)
unfolding comment_step
good_comment line r c text s =
    let node = comment text (innermost c.around) in
    good_adds line r c (node ∷ []) (past c c.around 1) (one_given line r node c (past c c.around 1) s refl refl refl refl refl refl)

pub good_line : (line : ℕ) (r : Record) (c : Context) (said : Line) (rows : List Row) → Stands line r c → Good line r c.begun (line_step c line said rows)
good_line line r c (Start name) rows s = good_start line r c name rows s
good_line line r c (Attr name value) rows s = good_attribute line r c name value s
good_line line r c (Chars text) rows s = good_text line r c text rows s
good_line line r c (End name) rows s = good_end line r c name s
good_line line r c (Pi target text) rows s = good_instruction line r c target text s
good_line line r c (Comment text) rows s = good_comment line r c text s

pub good_reading : (line : ℕ) (r : Record) (c : Context) (said : Reading) (rows : List Row) → Stands line r c
    → Good line r c.begun (reading_step c line said rows)
good_reading line r c (says l) rows s = good_line line r c l rows s
good_reading line r c (faulty number) rows s = tt

pub good_stray : (line : ℕ) (r : Record) (begun : Bool) (said : Reading) → Good line r begun (stray_step said)
good_stray line r begun (says l) = tt
good_stray line r begun (faulty number) = good_if line r begun (number == 3) (bad bad_utf8) (bad bad_line) (λ _. tt) (λ _. tt)

pub good_row : (line : ℕ) (r : Record) (c : Context) (row : Row) (rows : List Row) → Stands line r c → Good line r c.begun (row_step c line row rows)
unfolding row_step
good_row line r c row rows s =
    good_if line r c.begun (is_attribute_row row && is_none c.tag) (stray_step (reading row)) (reading_step c line (reading row) rows)
    (λ _. good_stray line r c.begun (reading row)) (λ _. good_reading line r c (reading row) rows s)

-- the nodes of all lines that are left
pub record Rest (r : Record) (begun : Bool) (more : List Record) : Type 0 where
  pub chain : Chain r more
  pub tops : count_by is_top more ≡ tops_left begun

abbrev pub Given : Record → Bool → Outcome → Type 0
Given r begun (tree more lines) = Rest r begun more
Given r begun (refused number line) = Unit {0}

pub rest_put : (line : ℕ) (r : Record) (begun : Bool) (nodes more : List Record) (d : Context) → Keeps line r begun nodes d
    → Rest (last_of r nodes) d.begun more → Rest r begun (nodes ++ more)
rest_put line r begun nodes more d k t = record {
  chain = chain_append r nodes more k.chain t.chain;
  tops = count_append is_top nodes more ∙ ap (λ n. count_by is_top nodes + n) t.tops ∙ k.tops;
}

pub given_put : (line : ℕ) (r : Record) (begun : Bool) (nodes : List Record) (d : Context) (o : Outcome) → Keeps line r begun nodes d
    → Given (last_of r nodes) d.begun o → Given r begun (put_before nodes line o)
given_put line r begun nodes d (tree more lines) k g = rest_put line r begun nodes more d k g
given_put line r begun nodes d (refused number at) k g = tt

pub given_then : (line : ℕ) (r : Record) (begun : Bool) (step : Step) (rest : Context → Outcome) → Good line r begun step
    → ((s : Record) (d : Context) → Stands (line + 1) s d → Given s d.begun (rest d)) → Given r begun (and_then line step rest)
given_then line r begun (bad number) rest g next = tt
given_then line r begun (gives nodes d) rest g next = given_put line r begun nodes d (rest d) g (next (last_of r nodes) d g.stands)

pub given_end : (r : Record) (begun : Bool) (os : Bool) (last : ℕ)
    → Given r begun (if not begun then refused no_root last else if not os then refused truncated last else tree [] [])
given_end r true true last = record { chain = tt; tops = refl }
given_end r true false last = tt
given_end r false os last = tt

pub given_rows : (rows : List Row) (line : ℕ) (r : Record) (c : Context) → Stands line r c → Given r c.begun (meaning c line rows)
unfolding meaning
given_rows [] line r c s = given_end r c.begun (is_empty c.around) (line - 1)
given_rows (row ∷ rows) line r c s =
    given_then line r c.begun (row_step c line row rows) (λ next. meaning next (line + 1) rows) (good_row line r c row rows s)
    (λ q d t. given_rows rows (line + 1) q d t)

pub stands_first : Stands 1 root_record at_start
stands_first = record { some = omega arith; first = λ _. refl; falls = omega arith; begun = λ _. refl; text = λ h p e. cc }

-- the nodes of a document
abbrev pub Formed : List Record → Type 0
Formed [] = ⊥
Formed (r ∷ rs) = (r ≡ root_record) × Rest r false rs

pub formed_put : (o : Outcome) (rs : List Record) (lines : List ℕ) → Given root_record false o → put_before (root_record ∷ []) 0 o ≡ tree rs lines → Formed rs
formed_put (tree more ls) rs lines g e =
    let is : root_record ∷ more ≡ rs = cc in
    subst Formed is (refl, g)
formed_put (refused number line) rs lines g e = cc

pub formed : (limit : ℕ) (bytes : List ℕ) (rs : List Record) (lines : List ℕ) → document limit bytes ≡ tree rs lines → Formed rs
unfolding document
formed limit bytes rs lines e =
    elim (cases_Bool (nat_le (length bytes) limit)) [
      | inl t ↦ formed_put (meaning at_start 1 (rows_of bytes)) rs lines (given_rows (rows_of bytes) 1 root_record at_start stands_first)
          (sym (agreement (rows_of bytes)) ∙ (rw t at e))
      | inr f ↦ (let no : refused too_large 0 ≡ tree rs lines = rw f at e in cc)
    ]
