-- What the lines of a document represent step by step is what they represent by their places.
use Rattle.std.proofs.Common.{◌≡◌, ℕ, ◌+◌, ◌-◌, List, [], ◌∷◌, ◌++◌, Option, None, Some, Bool, true, false, refl, sym, ◌∙◌, ap, subst, length, map, reverse}
use Rattle.std.proofs.Common.{inl, inr, append_assoc, append-nil, arith}
use Rattle.std.specs.Prelude.{not, ◌&&◌, ◌==◌, if◌then◌else◌, is_none, is_some}
use Rattle.std.specs.List.{filter_map, flat_map}
use Rattle.std.proofs.lemmas.Bool.{cases_Bool}
use Rattle.std.proofs.lemmas.Bool.Decides.{nat_tests}
use Rattle.std.proofs.lemmas.List.{reverse-append}
use Rattle.xs_pyx.specs.Row.{Row}
use Rattle.xs_pyx.specs.Reading.{Reading, says, faulty, reading}
use Rattle.xs_pyx.specs.declared.line.Line.{Line}
use Rattle.xs_pyx.specs.declared.line.Line.TheVariants.{Start, Attr, Chars, End, Pi, Comment}
use Rattle.xs_tree.specs.Record.{Record, root_record}
use Rattle.xs_build.specs.declared.tag_names.Expanded.{Expanded}
use Rattle.xs_build.specs.declared.opened.Opened.{Opened}
use Rattle.xs_build.specs.Faults.{bad_line, bad_utf8, no_root, truncated}
use Rattle.xs_build.specs.Namespaces.{QName, ExpandedName, is_empty, qname_of, declared_prefix}
use Rattle.xs_build.specs.Start.{begins_with, is_attribute_row, is_text_row, text_ahead}
use Rattle.xs_build.specs.LineContext.{LineContext, nesting, neither, ends, open_name, has_start, follows_tag, names_at}
use Rattle.xs_build.specs.Rules.{reading_nodes, reading_faults, line_nodes, line_faults, first_fault, is_stray}
use Rattle.xs_build.specs.Document.{Place, nodes_before, open_node, nodes_at, fault_at, number_at, places, Outcome, tree, refused, bad_at, without_bad_line}
use Rattle.xs_build.specs.Document.{refused_first, lines_at, outcome}
use Rattle.xs_build.specs.steps.Lines.{Context, at_start, innermost, scope_of, expanded, Step, bad, gives, row_step, line_step, attribute_step}
use Rattle.xs_build.specs.steps.Lines.{declaration_name, put_before, and_then, at_end, meaning}
use Rattle.xs_build.specs.steps.Rest as left
use Rattle.xs_build.proofs.ReadingLemmas.{begins, no_text, no_attribute, row_says, row_faulty}
use Rattle.xs_build.proofs.LineAgreementLemmas.{no_more, Judged, LineJudged, name_of, seen_in, Attributed, Named, start_judged, attribute_judged, text_judged}
use Rattle.xs_build.proofs.LineAgreementLemmas.{end_judged, instruction_judged, comment_judged}
use Rattle.xs_build.proofs.ContextAgreementLemmas.{and_false, SameTag, Opens, Fits, opens_none, opens_neither, opens_ends, context_is, fits_past, fits_quiet, fits_text}
use Rattle.xs_build.proofs.ContextAgreementLemmas.{fits_named, fits_start, no_start_line}

-- what is around the line, in a context that fits
abbrev pub seen_at : Context → List Row → LineContext
seen_at c before = seen_in c (length before + 1) (follows_tag before) (names_at (scope_of c.around) before) (not (is_empty (text_ahead before)))

fault_is : (c : Context) (before : List Row) (row : Row) (behind : List Row) → Fits c before (row ∷ behind) →
    fault_at (record { before = before; row = row; behind = behind }) ≡
    first_fault (reading_faults (seen_at c before) behind (c.nodes + length (reading_nodes (seen_at c before) behind 0 0 (reading row)))
    (is_stray (seen_at c before) row) (reading row))
unfolding fault_at
fault_is c before row behind f =
    ap (λ a. first_fault (reading_faults a behind (nodes_before before (row ∷ behind) + length (reading_nodes a behind 0 0 (reading row))) (is_stray a row)
    (reading row))) (context_is c before (row ∷ behind) f)
    ∙ ap (λ n. first_fault (reading_faults (seen_at c before) behind (n + length (reading_nodes (seen_at c before) behind 0 0 (reading row)))
    (is_stray (seen_at c before) row) (reading row))) (sym f.count)

nodes_is : (c : Context) (before : List Row) (row : Row) (behind : List Row) → Fits c before (row ∷ behind) →
    nodes_at (record { before = before; row = row; behind = behind }) ≡ reading_nodes (seen_at c before) behind (innermost c.around) c.nodes (reading row)
unfolding nodes_at
nodes_is c before row behind f =
    ap (λ a. reading_nodes a behind (open_node 0 before (row ∷ behind)) (nodes_before before (row ∷ behind)) (reading row))
    (context_is c before (row ∷ behind) f)
    ∙ ap (λ p. reading_nodes (seen_at c before) behind p (nodes_before before (row ∷ behind)) (reading row)) (sym (f.opens.nodes 0))
    ∙ ap (λ n. reading_nodes (seen_at c before) behind (innermost c.around) n (reading row)) (sym f.count)

judged_same : (step : Step) (f g : Option ℕ) (ns ms : List Record) (P : Context → Type 0) → f ≡ g → ns ≡ ms → Judged step g ms P → Judged step f ns P
judged_same (bad number) f g ns ms P e h j = e ∙ j
judged_same (gives given d) f g ns ms P e h j = (e ∙ j.0, j.1 ∙ sym h, j.2)

-- the lines that attributes and declarations leave
attributed : (c : Context) (seen : List Expanded) (before : List Row) (row : Row) (behind : List Row) (name value : List ℕ) (w : QName)
    (declared : Option (List ℕ)) → Fits c before (row ∷ behind) → reading row ≡ says (Attr name value) → c.tag ≡ Some seen →
    qname_of name ≡ Some w → declared_prefix w ≡ declared → Attributed c seen (scope_of c.around) w declared (λ d. Fits d (row ∷ before) behind)
attributed c seen before row behind name value w None f h tagged q e =
    λ full found few. fits_named c (record c {
      tag = Some (seen ++ expanded full ∷ []);
      nodes = c.nodes + 1;
    }) seen (expanded full) 1 before row behind name value f h tagged refl
    (rw (q, e, found) refl) (rw (q, e, found) refl) few
attributed c seen before row behind name value w (Some prefix) f h tagged q e =
    fits_named c (record c { tag = Some (seen ++ declaration_name prefix ∷ []) }) seen (declaration_name prefix) 0 before row behind name value f h tagged
    (ap (λ n. record c { tag = Some (seen ++ declaration_name prefix ∷ []); nodes = n }) (let e : c.nodes ≡ c.nodes + 0 = omega arith in e))
    (rw (q, e) refl) (rw (q, e) refl) (let e : c.nodes + 0 ≡ c.nodes = omega arith in rw e f.few)

named : (c : Context) (seen : List Expanded) (before : List Row) (row : Row) (behind : List Row) (name value : List ℕ) (written : Option QName)
    → Fits c before (row ∷ behind) → reading row ≡ says (Attr name value) → c.tag ≡ Some seen →
    qname_of name ≡ written → Named c seen (scope_of c.around) written (λ d. Fits d (row ∷ before) behind)
named c seen before row behind name value None f h tagged q = tt
named c seen before row behind name value (Some w) f h tagged q = attributed c seen before row behind name value w (declared_prefix w) f h tagged q refl

-- the judgement of a line that says something, with the first of its faults
abbrev pub LineAgreementLemmas : Context → List Row → Row → List Row → Line → Type 0
LineAgreementLemmas c before row behind line =
    Judged (line_step c (length before + 1) line behind)
    (first_fault ((bad_line, is_stray (seen_at c before) row) ∷ line_faults (seen_at c before) behind
    (c.nodes + length (line_nodes (seen_at c before) behind 0 0 line)) line))
    (line_nodes (seen_at c before) behind (innermost c.around) c.nodes line) (λ d. Fits d (row ∷ before) behind)

unstray : (c : Context) (before : List Row) (row : Row) (behind : List Row) (line : Line) → is_stray (seen_at c before) row ≡ false
    → LineJudged c (seen_at c before) (length before + 1) line behind (λ d. Fits d (row ∷ before) behind) →
    LineAgreementLemmas c before row behind line
unstray c before row behind line h j =
    judged_same (line_step c (length before + 1) line behind)
    (first_fault ((bad_line, is_stray (seen_at c before) row) ∷ line_faults (seen_at c before) behind
    (c.nodes + length (line_nodes (seen_at c before) behind 0 0 line)) line))
    (first_fault (line_faults (seen_at c before) behind (c.nodes + length (line_nodes (seen_at c before) behind 0 0 line)) line))
    (line_nodes (seen_at c before) behind (innermost c.around) c.nodes line) (line_nodes (seen_at c before) behind (innermost c.around) c.nodes line)
    (λ d. Fits d (row ∷ before) behind)
    (ap (λ b. first_fault ((bad_line, b) ∷ line_faults (seen_at c before) behind
    (c.nodes + length (line_nodes (seen_at c before) behind 0 0 line)) line)) h) refl j

no_stray : (c : Context) (before : List Row) (row : Row) → is_attribute_row row ≡ false → is_stray (seen_at c before) row ≡ false
no_stray c before row h = rw h refl

-- each kind of line
start_agrees : (c : Context) (before : List Row) (row : Row) (behind : List Row) (name : List ℕ) → Fits c before (row ∷ behind)
    → reading row ≡ says (Start name) → LineAgreementLemmas c before row behind (Start name)
start_agrees c before row behind name f h =
    unstray c before row behind (Start name) (no_stray c before row (no_attribute row (Start name) refl h))
    (start_judged c.around c.begun c.tag c.in_text c.nodes (length before + 1) (follows_tag before) (names_at (scope_of c.around) before)
    (not (is_empty (text_ahead before))) name behind (λ d. Fits d (row ∷ before) behind)
    (λ full named few. fits_start c before row behind name full f h named few))

stray_attribute : (row : Row) (before : List Row) → is_attribute_row row ≡ true → follows_tag before ≡ false
    → (is_attribute_row row && not (follows_tag before)) ≡ true
stray_attribute row before a b = rw (a, b) refl

tag_attribute : (row : Row) (before : List Row) → follows_tag before ≡ true → (is_attribute_row row && not (follows_tag before)) ≡ false
tag_attribute row before h = rw h (and_false (is_attribute_row row))

-- the attribute lines, by what the context has of the start tag
attribute_agrees : (os : List Opened) (begun : Bool) (tag : Option (List Expanded)) (quiet : Bool) (n : ℕ) (before : List Row) (row : Row) (behind : List Row)
    (name value : List ℕ) →
    let c : Context = record { around = os; begun = begun; tag = tag; in_text = quiet; nodes = n } in
    Fits c before (row ∷ behind) → reading row ≡ says (Attr name value) → LineAgreementLemmas c before row behind (Attr name value)
unfolding attribute_step
attribute_agrees os begun None quiet n before row behind name value f h = rw (stray_attribute row before (begins row (Attr name value) h) f.tag) refl
attribute_agrees os begun (Some seen) quiet n before row behind name value f h =
    let c : Context = record { around = os; begun = begun; tag = Some seen; in_text = quiet; nodes = n } in
    unstray c before row behind (Attr name value) (tag_attribute row before f.tag.0)
    (attribute_judged os begun seen quiet n (length before + 1) (follows_tag before) (names_at (scope_of os) before)
    (not (is_empty (text_ahead before))) name value behind (λ d. Fits d (row ∷ before) behind) f.tag.1 f.few
    (named c seen before row behind name value (qname_of name) f h refl refl))

text_agrees : (c : Context) (before : List Row) (row : Row) (behind : List Row) (text : List ℕ) → Fits c before (row ∷ behind)
    → reading row ≡ says (Chars text) → LineAgreementLemmas c before row behind (Chars text)
text_agrees c before row behind text f h =
    let is : nesting row ≡ neither = rw h refl in
    let attribute : is_attribute_row row ≡ false = no_attribute row (Chars text) refl h in
    unstray c before row behind (Chars text) (no_stray c before row attribute)
    (text_judged c.around c.begun c.tag c.in_text c.nodes (length before + 1) (follows_tag before) (names_at (scope_of c.around) before)
    (not (is_empty (text_ahead before))) text behind (λ d. Fits d (row ∷ before) behind) f.few f.in_text
    (λ e. fits_past c [] 0 before row behind (Chars text) f h (rw is refl) (no_start_line row (Chars text) refl h) attribute (inl refl)
    (opens_neither [] row before behind is (subst (λ os. Opens os before (row ∷ behind)) e f.opens)) (rw e refl) (no_more c.nodes f.few))
    (λ some goes_on. fits_quiet c before row behind text f h some goes_on)
    (λ some full quiet few. fits_text c before row behind text f h some full quiet few))

end_agrees : (c : Context) (before : List Row) (row : Row) (behind : List Row) (name : List ℕ) → Fits c before (row ∷ behind) → reading row ≡ says (End name)
    → LineAgreementLemmas c before row behind (End name)
end_agrees c before row behind name f h =
    let is : nesting row ≡ ends = rw h refl in
    let attribute : is_attribute_row row ≡ false = no_attribute row (End name) refl h in
    unstray c before row behind (End name) (no_stray c before row attribute)
    (end_judged c.around c.begun c.tag c.in_text c.nodes (length before + 1) (follows_tag before) (names_at (scope_of c.around) before)
    (not (is_empty (text_ahead before))) name behind (λ d. Fits d (row ∷ before) behind) f.few
    (λ o more e. fits_past c more 0 before row behind (End name) f h (rw is refl) (no_start_line row (End name) refl h) attribute
    (inr (no_text row (End name) refl h))
    (opens_ends o more row before behind is (subst (λ os. Opens os before (row ∷ behind)) e f.opens)) refl (no_more c.nodes f.few)))

instruction_agrees : (c : Context) (before : List Row) (row : Row) (behind : List Row) (target text : List ℕ) → Fits c before (row ∷ behind)
    → reading row ≡ says (Pi target text) → LineAgreementLemmas c before row behind (Pi target text)
instruction_agrees c before row behind target text f h =
    let is : nesting row ≡ neither = rw h refl in
    let attribute : is_attribute_row row ≡ false = no_attribute row (Pi target text) refl h in
    let start : begins_with 40 row.bytes ≡ false = no_start_line row (Pi target text) refl h in
    let quiet : is_text_row row ≡ false = no_text row (Pi target text) refl h in
    let opens : Opens c.around (row ∷ before) behind = opens_neither c.around row before behind is f.opens in
    unstray c before row behind (Pi target text) (no_stray c before row attribute)
    (instruction_judged c (length before + 1) (follows_tag before) (names_at (scope_of c.around) before)
    (not (is_empty (text_ahead before))) target text behind (λ d. Fits d (row ∷ before) behind) f.few
    (λ yes. fits_past c c.around 0 before row behind (Pi target text) f h (rw is refl) start attribute (inr quiet) opens (rw yes refl) (no_more c.nodes f.few))
    (λ not_so few. fits_past c c.around 1 before row behind (Pi target text) f h (rw is refl) start attribute (inr quiet) opens (rw not_so refl) few))

comment_agrees : (c : Context) (before : List Row) (row : Row) (behind : List Row) (text : List ℕ) → Fits c before (row ∷ behind)
    → reading row ≡ says (Comment text) → LineAgreementLemmas c before row behind (Comment text)
comment_agrees c before row behind text f h =
    let is : nesting row ≡ neither = rw h refl in
    let attribute : is_attribute_row row ≡ false = no_attribute row (Comment text) refl h in
    unstray c before row behind (Comment text) (no_stray c before row attribute)
    (comment_judged c (length before + 1) (follows_tag before) (names_at (scope_of c.around) before) (not (is_empty (text_ahead before))) text behind
    (λ d. Fits d (row ∷ before) behind)
    (λ few. fits_past c c.around 1 before row behind (Comment text) f h (rw is refl) (no_start_line row (Comment text) refl h) attribute
    (inr (no_text row (Comment text) refl h)) (opens_neither c.around row before behind is f.opens) refl few))

line_agrees : (c : Context) (before : List Row) (row : Row) (behind : List Row) (line : Line) → Fits c before (row ∷ behind) → reading row ≡ says line
    → LineAgreementLemmas c before row behind line
line_agrees c before row behind (Start name) f h = start_agrees c before row behind name f h
line_agrees c before row behind (Attr name value) f h = attribute_agrees c.around c.begun c.tag c.in_text c.nodes before row behind name value f h
line_agrees c before row behind (Chars text) f h = text_agrees c before row behind text f h
line_agrees c before row behind (End name) f h = end_agrees c before row behind name f h
line_agrees c before row behind (Pi target text) f h = instruction_agrees c before row behind target text f h
line_agrees c before row behind (Comment text) f h = comment_agrees c before row behind text f h

-- a line that says nothing
faulty_first : (stray : Bool) (number : ℕ) → first_fault ((bad_utf8, number == 3) ∷ (bad_line, stray) ∷ (number, true) ∷ []) ≡ Some (left.fault_at stray number)
faulty_first true number = elim (cases_Bool (number == 3)) [ inl t ↦ rw t refl | inr f ↦ rw f refl ]
faulty_first false number =
    elim (cases_Bool (number == 3)) [
      | inl t ↦ (let three : number ≡ 3 = grind (arith, nat_tests) in rw (t, three) refl)
      | inr f ↦ rw f refl
    ]

tag_none : (tag : Option (List Expanded)) (in_tag : Bool) (names : List ExpandedName) → SameTag tag in_tag names → is_none tag ≡ not in_tag
tag_none None in_tag names h = ap not (sym h)
tag_none (Some seen) in_tag names h = ap not (sym h.0)

-- what a line comes to
row_agrees : (c : Context) (before : List Row) (row : Row) (behind : List Row) (said : Reading) → Fits c before (row ∷ behind) → reading row ≡ said →
    let p : Place = record { before = before; row = row; behind = behind } in
    Judged (row_step c (length before + 1) row behind) (fault_at p) (nodes_at p) (λ d. Fits d (row ∷ before) behind)
row_agrees c before row behind (says line) f h =
    let p : Place = record { before = before; row = row; behind = behind } in
    let faults = λ (r : Reading). first_fault
    (reading_faults (seen_at c before) behind (c.nodes + length (reading_nodes (seen_at c before) behind 0 0 r)) (is_stray (seen_at c before) row) r) in
    let nodes = λ (r : Reading). reading_nodes (seen_at c before) behind (innermost c.around) c.nodes r in
    rw (row_says c (length before + 1) row behind line h)
    (judged_same (line_step c (length before + 1) line behind) (fault_at p) (faults (says line)) (nodes_at p) (nodes (says line))
    (λ d. Fits d (row ∷ before) behind)
    (fault_is c before row behind f ∙ ap faults h) (nodes_is c before row behind f ∙ ap nodes h) (line_agrees c before row behind line f h))
row_agrees c before row behind (faulty number) f h =
    let faults = λ (r : Reading). first_fault
    (reading_faults (seen_at c before) behind (c.nodes + length (reading_nodes (seen_at c before) behind 0 0 r)) (is_stray (seen_at c before) row) r) in
    let stray : is_stray (seen_at c before) row ≡ (is_attribute_row row && is_none c.tag) =
    ap (λ b. is_attribute_row row && b) (sym (tag_none c.tag (follows_tag before) (names_at (scope_of c.around) before) f.tag)) in
    rw (row_faulty c (length before + 1) row behind number h)
    (fault_is c before row behind f ∙ ap faults h ∙ faulty_first (is_stray (seen_at c before) row) number ∙ ap (λ b. Some (left.fault_at b number)) stray)

-- a line, and the others behind it
abbrev pub settled : Option ℕ → ℕ → Outcome → Outcome
settled None line whole = whole
settled (Some number) line whole = refused number line

and_agrees : (step : Step) (line : ℕ) (fault : Option ℕ) (nodes : List Record) (P : Context → Type 0) (rest : Context → Outcome) (whole : Outcome)
    → Judged step fault nodes P → ((d : Context) → P d → rest d ≡ whole) →
    and_then line step rest ≡ settled fault line (put_before nodes line whole)
and_agrees (bad number) line fault nodes P rest whole j r = rw j refl
and_agrees (gives given d) line fault nodes P rest whole j r =
    ap (put_before given line) (r d j.2) ∙ ap (λ ns. put_before ns line whole) j.1 ∙ ap (λ o. settled o line (put_before nodes line whole)) (sym j.0)

put_whole : (nodes : List Record) (line : ℕ) (before : List Row) (more : List Record) (lines : List ℕ)
    → put_before nodes line (without_bad_line before more lines) ≡ without_bad_line before (nodes ++ more) (map (λ _. line) nodes ++ lines)
put_whole nodes line before more lines =
    elim (cases_Bool (has_start before)) [
      | inl t ↦ elim (cases_Bool (is_some (open_name 0 before))) [ inl u ↦ rw (t, u) refl | inr v ↦ rw (t, v) refl ]
      | inr f ↦ rw f refl
    ]

put_first : (bs : List (ℕ × ℕ)) (nodes : List Record) (line : ℕ) (before : List Row) (more : List Record) (lines : List ℕ) →
    put_before nodes line (refused_first bs (without_bad_line before more lines)) ≡ refused_first bs
    (without_bad_line before (nodes ++ more) (map (λ _. line) nodes ++ lines))
put_first [] nodes line before more lines = put_whole nodes line before more lines
put_first (b ∷ bs) nodes line before more lines = refl

settled_first : (p : Place) (ps : List Place) (fault : Option ℕ) (whole : Outcome) → fault_at p ≡ fault
    → settled (fault_at p) (number_at p) (refused_first (filter_map bad_at ps) whole) ≡ refused_first (filter_map bad_at (p ∷ ps)) whole
settled_first p ps None whole h = rw h refl
settled_first p ps (Some number) whole h = rw h refl

-- all lines before the end, the nearest first
abbrev pub behind_all : List Row → List Row → List Row
behind_all [] before = before
behind_all (row ∷ rows) before = behind_all rows (row ∷ before)

behind_all_is : (rows before : List Row) → behind_all rows before ≡ reverse rows ++ before
behind_all_is [] before = refl
behind_all_is (row ∷ rows) before =
    behind_all_is rows (row ∷ before) ∙ sym (append_assoc (reverse rows) (row ∷ []) before) ∙ ap (λ rs. rs ++ before) (sym (reverse-append (row ∷ []) rows))

-- the end of the lines
inside_is : (os : List Opened) → not (is_empty os) ≡ is_some (name_of os)
inside_is [] = refl
inside_is (o ∷ os) = refl

at_end_is : (c : Context) (before : List Row) → Fits c before [] → at_end c (length before + 1 - 1) ≡ without_bad_line before [] []
at_end_is c before f =
    let last : length before + 1 - 1 ≡ length before = omega arith in
    ap (at_end c) last
    ∙ ap (λ b. if not b then refused no_root (length before) else if not (is_empty c.around) then refused truncated (length before) else tree [] []) f.begun
    ∙ ap (λ b. if not (has_start before) then refused no_root (length before) else if b then refused truncated (length before) else tree [] [])
    (inside_is c.around ∙ ap is_some (f.opens.names 0))

rows_agree : (rows before : List Row) (c : Context) → Fits c before rows →
    meaning c (length before + 1) rows ≡ refused_first (filter_map bad_at (places before rows))
    (without_bad_line (behind_all rows before) (flat_map nodes_at (places before rows)) (flat_map lines_at (places before rows)))
unfolding meaning
rows_agree [] before c f = at_end_is c before f
rows_agree (row ∷ behind) before c f =
    let p : Place = record { before = before; row = row; behind = behind } in
    let ps = places (row ∷ before) behind in
    let number : length before + 1 + 1 ≡ length (row ∷ before) + 1 = omega arith in
    let whole = refused_first (filter_map bad_at ps) (without_bad_line (behind_all behind (row ∷ before)) (flat_map nodes_at ps) (flat_map lines_at ps)) in
    and_agrees (row_step c (length before + 1) row behind) (length before + 1) (fault_at p) (nodes_at p) (λ d. Fits d (row ∷ before) behind)
    (λ next. meaning next (length before + 1 + 1) behind) whole
    (row_agrees c before row behind (reading row) f refl)
    (λ d g. ap (λ n. meaning d n behind) number ∙ rows_agree behind (row ∷ before) d g)
    ∙ ap (settled (fault_at p) (length before + 1))
    (put_first (filter_map bad_at ps) (nodes_at p) (length before + 1) (behind_all behind (row ∷ before)) (flat_map nodes_at ps) (flat_map lines_at ps))
    ∙ settled_first p ps (fault_at p) (without_bad_line (behind_all behind (row ∷ before)) (nodes_at p ++ flat_map nodes_at ps)
    (lines_at p ++ flat_map lines_at ps)) refl

fits_outset : (rows : List Row) → Fits at_start [] rows
unfolding nodes_before
fits_outset rows = record { opens = opens_none rows; begun = refl; tag = refl; in_text = refl; count = refl; few = refl }

pub agreement : (rows : List Row) → outcome rows ≡ put_before (root_record ∷ []) 0 (meaning at_start 1 rows)
agreement rows =
    let ps = places [] rows in
    sym (ap (put_before (root_record ∷ []) 0) (rows_agree rows [] at_start (fits_outset rows))
    ∙ put_first (filter_map bad_at ps) (root_record ∷ []) 0 (behind_all rows []) (flat_map nodes_at ps) (flat_map lines_at ps)
    ∙ ap (λ b. refused_first (filter_map bad_at ps) (without_bad_line b (root_record ∷ flat_map nodes_at ps) (0 ∷ flat_map lines_at ps)))
    (behind_all_is rows [] ∙ append-nil (reverse rows)))
