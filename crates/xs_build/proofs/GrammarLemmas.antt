-- The lines of a document that is not refused are by the grammar.
use Rattle.std.proofs.Common.{◌≡◌, ℕ, ◌+◌, ◌-◌, List, [], ◌∷◌, ◌++◌, Option, None, Some, Bool, true, false, refl, sym, ◌∙◌, ap, subst, length, map}
use Rattle.std.specs.Prelude.{not, ◌&&◌, ◌||◌, ◌==◌, nat_le, if◌then◌else◌}
use Rattle.std.specs.List.{list_any}
use Rattle.std.specs.Str.{bytes_eq}
use Rattle.std.proofs.lemmas.Slice.Eq.{bytes_eq-Decides}
use Rattle.xs_text.specs.WhiteSpace.{is_blank}
use Rattle.xs_pyx.specs.Row.{Row, rows_of}
use Rattle.xs_pyx.specs.Reading.{Reading, says, faulty, reading}
use Rattle.xs_pyx.specs.declared.line.Line.{Line}
use Rattle.xs_pyx.specs.declared.line.Line.TheVariants.{Start, Attr, Chars, End, Pi, Comment}
use Rattle.xs_tree.specs.Record.{Record, root_record}
use Rattle.xs_build.specs.declared.tag_names.Expanded.{Expanded}
use Rattle.xs_build.specs.declared.opened.Opened.{Opened}
use Rattle.xs_build.specs.Faults.{bad_line, unbalanced, no_root, bad_name, unbound_prefix, double_attribute, bad_namespace, too_large, truncated}
use Rattle.xs_build.specs.Document.{Outcome, tree, refused, outcome, document}
use Rattle.xs_build.specs.DocumentLaws.{DocumentsFollowGrammar}
use Rattle.xs_build.specs.Grammar.{Misc, no_misc, white_space, outer_comment, outer_instruction, Attributes, no_attributes, attribute, element}
use Rattle.xs_build.specs.Grammar.{Content, no_content, text, comment, instruction, child, IsWellFormed}
use Rattle.xs_tree.specs.Limits.{most_nodes}
use Rattle.xs_build.specs.Namespaces.{QName, is_empty, is_ncname, is_xml, is_bad_binding, qname_of, element_name, attribute_name, declared_prefix}
use Rattle.xs_build.specs.Namespaces.{scope_with}
use Rattle.xs_build.specs.Nodes as node
use Rattle.xs_build.specs.Start.{declarations, text_ahead}
use Rattle.xs_build.specs.steps.Lines.{Context, at_start, innermost, scope_of, expanded, Step, bad, gives, rule, needs, adds, past, same_name}
use Rattle.xs_build.specs.steps.Lines.{declaration_name, with_element, named_start, start_step, declaration_step, named_step, plain_step, written_step}
use Rattle.xs_build.specs.steps.Lines.{attribute_step, outer_text_step, inner_text_step, text_step, close, end_step, instruction_step, comment_step, line_step}
use Rattle.xs_build.specs.steps.Lines.{row_step, put_before, and_then, meaning}
use Rattle.xs_build.proofs.ReadingLemmas.{row_says, row_faulty}
use Rattle.xs_build.proofs.StepAgreementLemmas.{agreement}

-- what the lines from a place on are, where these elements are open and no attribute may follow
abbrev pub Closes : List Opened → List Line → Type 0
Closes [] ls = Misc [] ls
Closes (o ∷ os) ls = (rest : List Line) × Content (End o.name ∷ rest) ls × Closes os rest

-- outside the element, before it or behind it
abbrev pub Outside : Bool → List Line → Type 0
Outside true ls = Misc [] ls
Outside false ls = IsWellFormed ls

abbrev pub Follow : Bool → Option (List Expanded) → List Opened → List Line → Type 0
Follow begun tag [] ls = Outside begun ls
Follow begun None (o ∷ os) ls = Closes (o ∷ os) ls
Follow begun (Some seen) (o ∷ os) ls = (inner : List Line) × Attributes inner ls × Closes (o ∷ os) inner

abbrev pub FollowIn : Context → List Line → Type 0
FollowIn c ls = Follow c.begun c.tag c.around ls

abbrev pub Tagged : Option (List Expanded) → List Opened → Type 0
Tagged None os = Unit {0}
Tagged (Some seen) [] = ⊥
Tagged (Some seen) (o ∷ os) = Unit {0}

pub record Sound (c : Context) : Type 0 where
  pub tag : Tagged c.tag c.around
  pub begun : c.begun ≡ false → c.around ≡ []

-- what a line comes to: with it before them, what follows is as it has to be
abbrev Leads : Context → Line → Step → Type 0
Leads c line (bad number) = Unit {0}
Leads c line (gives nodes d) = Sound d × ((ls : List Line) → FollowIn d ls → FollowIn c (line ∷ ls))

leads_rule : (c : Context) (line : Line) (b : Bool) (number : ℕ) (step : Step) → (b ≡ true → Leads c line step) → Leads c line (rule b number step)
leads_rule c line true number step h = h refl
leads_rule c line false number step h = tt

leads_needs : {X : Type 0} (c : Context) (line : Line) (o : Option X) (number : ℕ) (next : X → Step) → ((x : X) → o ≡ Some x → Leads c line (next x))
    → Leads c line (needs o number next)
leads_needs c line None number next h = tt
leads_needs c line (Some x) number next h = h x refl

leads_if : (c : Context) (line : Line) (b : Bool) (x y : Step) → (b ≡ true → Leads c line x) → (b ≡ false → Leads c line y) → Leads c line (if b then x else y)
leads_if c line true x y f g = f refl
leads_if c line false x y f g = g refl

leads_adds : (c : Context) (line : Line) (nodes : List Record) (d : Context) → Leads c line (gives nodes d) → Leads c line (adds c nodes d)
leads_adds c line nodes d h = leads_rule c line (nat_le (c.nodes + length nodes) most_nodes) too_large (gives nodes d) (λ _. h)

-- a line that is no attribute, wherever an attribute may follow
untagged : (begun : Bool) (tag : Option (List Expanded)) (o : Opened) (os : List Opened) (ls : List Line) → Closes (o ∷ os) ls → Follow begun tag (o ∷ os) ls
untagged begun None o os ls h = h
untagged begun (Some seen) o os ls h = (ls, no_attributes, h)

-- more white space, comments and instructions
outside_more : (begun : Bool) (line : Line) (ls : List Line) → ((rest : List Line) → Misc rest ls → Misc rest (line ∷ ls)) → Outside begun ls
    → Outside begun (line ∷ ls)
outside_more true line ls m h = m [] h
outside_more false line ls m h = record { top = h.top; behind = h.behind; before = m h.top h.before; element = h.element; after = h.after }

-- a line that may stand outside and inside
passes : (begun : Bool) (tag : Option (List Expanded)) (os : List Opened) (line : Line) (ls : List Line)
    → ((rest : List Line) → Misc rest ls → Misc rest (line ∷ ls)) → ((rest : List Line) → Content rest ls → Content rest (line ∷ ls)) →
    Follow begun None os ls → Follow begun tag os (line ∷ ls)
passes begun tag [] line ls m k h = outside_more begun line ls m h
passes begun tag (o ∷ os) line ls m k h = untagged begun tag o os (line ∷ ls) (h.0, k (End o.name ∷ h.0) h.1, h.2)

sound_past : (c : Context) (added : ℕ) → Sound c → Sound (past c c.around added)
sound_past c added s = record { tag = tt; begun = s.begun }

-- the start of an element
starts_in : (begun : Bool) (tag : Option (List Expanded)) (os : List Opened) (name : List ℕ) (ls inner rest : List Line)
    → (not begun || not (is_empty os)) ≡ true → Attributes inner ls → Content (End name ∷ rest) inner → Closes os rest → Follow begun tag os (Start name ∷ ls)
starts_in true tag [] name ls inner rest free a k h = cc
starts_in false tag [] name ls inner rest free a k h =
    record { top = Start name ∷ ls; behind = rest; before = no_misc; element = element name rest inner ls a k; after = h }
starts_in begun tag (o ∷ os) name ls inner rest free a k h =
    untagged begun tag o os (Start name ∷ ls) (h.0, child (End o.name ∷ h.0) rest (Start name ∷ ls) (element name rest inner ls a k) h.1, h.2)

leads_start : (c : Context) (name : List ℕ) (rows : List Row) → Leads c (Start name) (start_step c name rows)
unfolding start_step
leads_start c name rows =
    let scope = scope_with (declarations rows) (scope_of c.around) in
    leads_rule c (Start name) (not c.begun || not (is_empty c.around)) unbalanced (named_start c name scope) (λ free.
    leads_needs c (Start name) (qname_of name) bad_name (λ w. needs (element_name scope w) unbound_prefix (with_element c name scope)) (λ w _.
    leads_needs c (Start name) (element_name scope w) unbound_prefix (with_element c name scope) (λ full _.
    leads_adds c (Start name) (node.element full (innermost c.around) ∷ node.spaces c.nodes scope)
    (record {
      around = record { name = name; node = c.nodes; scope = scope } ∷ c.around;
      begun = true;
      tag = Some [];
      in_text = false;
      nodes = c.nodes + 1 + length scope;
    })
    (record { tag = tt; begun = λ e. cc }, λ ls h. starts_in c.begun c.tag c.around name ls h.0 h.2.0 free h.1 h.2.1 h.2.2))))

-- an attribute
one_more : (begun : Bool) (seen more : List Expanded) (os : List Opened) (name value : List ℕ) (ls : List Line) → Tagged (Some seen) os
    → Follow begun (Some more) os ls → Follow begun (Some seen) os (Attr name value ∷ ls)
one_more begun seen more [] name value ls t h = absurd t
one_more begun seen more (o ∷ os) name value ls t h = (h.0, attribute name value ls h.1, h.2)

still_tagged : (seen more : List Expanded) (os : List Opened) → Tagged (Some seen) os → Tagged (Some more) os
still_tagged seen more [] t = absurd t
still_tagged seen more (o ∷ os) t = tt

leads_named : (c : Context) (seen : List Expanded) (name value : List ℕ) (x : Expanded) (nodes : List Record) (count : ℕ) → c.tag ≡ Some seen → Sound c
    → Leads c (Attr name value) (gives nodes (record c { tag = Some (seen ++ x ∷ []); nodes = count }))
leads_named c seen name value x nodes count is s =
    let t : Tagged (Some seen) c.around = subst (λ tag. Tagged tag c.around) is s.tag in (
      record { tag = still_tagged seen (seen ++ x ∷ []) c.around t; begun = s.begun },
      λ ls h. subst (λ tag. Follow c.begun tag c.around (Attr name value ∷ ls)) (sym is) (one_more c.begun seen (seen ++ x ∷ []) c.around name value ls t h),
    )

leads_written : (c : Context) (seen : List Expanded) (name value : List ℕ) (w : QName) (declared : Option (List ℕ)) → c.tag ≡ Some seen → Sound c
    → Leads c (Attr name value) (written_step c seen value w declared)
unfolding plain_step declaration_step
leads_written c seen name value w None is s =
    leads_needs c (Attr name value) (attribute_name (scope_of c.around) w) unbound_prefix (named_step c seen value) (λ full _.
    leads_rule c (Attr name value) (not (list_any (same_name (expanded full)) seen)) double_attribute
    (adds c (node.attribute full value (innermost c.around) ∷ []) (record c { tag = Some (seen ++ expanded full ∷ []); nodes = c.nodes + 1 })) (λ _.
    leads_adds c (Attr name value) (node.attribute full value (innermost c.around) ∷ []) (record c {
      tag = Some (seen ++ expanded full ∷ []);
      nodes = c.nodes + 1;
    })
    (leads_named c seen name value (expanded full) (node.attribute full value (innermost c.around) ∷ []) (c.nodes + 1) is s)))
leads_written c seen name value w (Some prefix) is s =
    let d : Context = record c { tag = Some (seen ++ declaration_name prefix ∷ []) } in
    leads_rule c (Attr name value) (not (list_any (same_name (declaration_name prefix)) seen)) double_attribute
    (rule (not (is_bad_binding prefix value)) bad_namespace (gives [] d)) (λ _.
    leads_rule c (Attr name value) (not (is_bad_binding prefix value)) bad_namespace (gives [] d) (λ _.
    leads_named c seen name value (declaration_name prefix) [] c.nodes is s))

leads_attribute : (c : Context) (name value : List ℕ) → Sound c → Leads c (Attr name value) (attribute_step c name value)
unfolding attribute_step
leads_attribute c name value s =
    leads_needs c (Attr name value) c.tag bad_line (λ seen. needs (qname_of name) bad_name (λ w. written_step c seen value w (declared_prefix w))) (λ seen is.
    leads_needs c (Attr name value) (qname_of name) bad_name (λ w. written_step c seen value w (declared_prefix w)) (λ w _.
    leads_written c seen name value w (declared_prefix w) is s))

text_outside : (begun : Bool) (tag : Option (List Expanded)) (os : List Opened) (said : List ℕ) (ls : List Line) → is_empty os ≡ true
    → is_blank said ≡ true → Outside begun ls → Follow begun tag os (Chars said ∷ ls)
text_outside begun tag [] said ls none white h = outside_more begun (Chars said) ls (λ rest m. white_space said ls white m) h
text_outside begun tag (o ∷ os) said ls none white h = cc

text_inside : (begun : Bool) (tag : Option (List Expanded)) (os : List Opened) (said : List ℕ) (ls : List Line) → is_empty os ≡ false → Follow begun None os ls
    → Follow begun tag os (Chars said ∷ ls)
text_inside begun tag [] said ls some h = cc
text_inside begun tag (o ∷ os) said ls some h = untagged begun tag o os (Chars said ∷ ls) (h.0, text said (End o.name ∷ h.0) ls h.1, h.2)

leads_text : (c : Context) (said : List ℕ) (rows : List Row) → Sound c → Leads c (Chars said) (text_step c said rows)
unfolding text_step
leads_text c said rows s =
    let n : Record = node.text_node (said ++ text_ahead rows) (innermost c.around) in
    let quiet : Context = record c { tag = None } in
    let begins : Context = record c { tag = None; in_text = true; nodes = c.nodes + 1 } in
    leads_if c (Chars said) (is_empty c.around) (outer_text_step c said) (inner_text_step c said rows)
    (λ none. leads_rule c (Chars said) (is_blank said) unbalanced (gives [] (past c [] 0)) (λ white.
    (record { tag = tt; begun = λ _. refl }, λ ls h. text_outside c.begun c.tag c.around said ls none white h)))
    (λ some. leads_if c (Chars said) (c.in_text || is_empty said) (gives [] quiet) (adds c (n ∷ []) begins)
    (λ _. (record { tag = tt; begun = s.begun }, λ ls h. text_inside c.begun c.tag c.around said ls some h))
    (λ _. leads_adds c (Chars said) (n ∷ []) begins (record { tag = tt; begun = s.begun }, λ ls h. text_inside c.begun c.tag c.around said ls some h)))

-- the end of an element
closes_on : (begun : Bool) (os : List Opened) (ls : List Line) → begun ≡ true → Follow begun None os ls → Closes os ls
closes_on begun [] ls b h = subst (λ x. Outside x ls) b h
closes_on begun (o ∷ os) ls b h = h

ends_in : (begun : Bool) (tag : Option (List Expanded)) (o : Opened) (os : List Opened) (name : List ℕ) (ls : List Line) → begun ≡ true
    → bytes_eq o.name name ≡ true → Follow begun None os ls → Follow begun tag (o ∷ os) (End name ∷ ls)
ends_in begun tag o os name ls b same h =
    let is : o.name ≡ name = (bytes_eq-Decides o.name name).0 same in
    untagged begun tag o os (End name ∷ ls) (
      ls,
      subst (λ n. Content (End o.name ∷ ls) (End n ∷ ls)) is
          (no_content (End o.name ∷ ls)),
      closes_on begun os ls b h,
    )

has_begun : (begun : Bool) (around : List Opened) (o : Opened) (os : List Opened) → (begun ≡ false → around ≡ []) → around ≡ o ∷ os → begun ≡ true
has_begun true around o os h is = refl
has_begun false around o os h is = absurd (let clash : o ∷ os ≡ [] = sym is ∙ h refl in cc)

leads_close : (c : Context) (os : List Opened) (name : List ℕ) → Sound c → c.around ≡ os → Leads c (End name) (close c os name)
leads_close c [] name s is = tt
leads_close c (o ∷ os) name s is =
    let began : c.begun ≡ true = has_begun c.begun c.around o os s.begun is in
    leads_rule c (End name) (bytes_eq o.name name) unbalanced (gives [] (past c os 0)) (λ same. (
      record { tag = tt; begun = λ e. absurd (let clash : true ≡ false = sym began ∙ e in cc) },
      λ ls h. subst (λ t. Follow c.begun c.tag t (End name ∷ ls)) (sym is) (ends_in c.begun c.tag o os name ls began same h),
    ))

leads_end : (c : Context) (name : List ℕ) → Sound c → Leads c (End name) (end_step c name)
unfolding end_step
leads_end c name s = leads_close c c.around name s refl

-- an instruction and a comment
leads_instruction : (c : Context) (line : ℕ) (target said : List ℕ) → Sound c → Leads c (Pi target said) (instruction_step c line target said)
unfolding instruction_step
leads_instruction c line target said s =
    let n : Record = node.instruction target said (innermost c.around) in
    let stays : (ls : List Line) → Follow c.begun None c.around ls → Follow c.begun c.tag c.around (Pi target said ∷ ls) =
    λ ls h. passes c.begun c.tag c.around (Pi target said) ls (λ rest m. outer_instruction target said ls m) (λ rest k. instruction target said rest ls k) h in
    leads_if c (Pi target said) (line == 1 && is_xml target) (gives [] (past c c.around 0))
    (rule (is_ncname target && not (is_xml target)) bad_name (adds c (n ∷ []) (past c c.around 1)))
    (λ _. (sound_past c 0 s, stays))
    (λ _. leads_rule c (Pi target said) (is_ncname target && not (is_xml target)) bad_name (adds c (n ∷ []) (past c c.around 1)) (λ _.
    leads_adds c (Pi target said) (n ∷ []) (past c c.around 1) (sound_past c 1 s, stays)))

leads_comment : (c : Context) (said : List ℕ) → Sound c → Leads c (Comment said) (comment_step c said)
unfolding comment_step
leads_comment c said s =
    leads_adds c (Comment said) (node.comment said (innermost c.around) ∷ []) (past c c.around 1)
    (sound_past c 1 s, λ ls h. passes c.begun c.tag c.around (Comment said) ls (λ rest m. outer_comment said ls m) (λ rest k. comment said rest ls k) h)

leads_line : (c : Context) (line : ℕ) (l : Line) (rows : List Row) → Sound c → Leads c l (line_step c line l rows)
leads_line c line (Start name) rows s = leads_start c name rows
leads_line c line (Attr name value) rows s = leads_attribute c name value s
leads_line c line (Chars said) rows s = leads_text c said rows s
leads_line c line (End name) rows s = leads_end c name s
leads_line c line (Pi target said) rows s = leads_instruction c line target said s
leads_line c line (Comment said) rows s = leads_comment c said s

-- all lines
abbrev pub AreSaid : List Row → List Line → Type 0
AreSaid rows ls = map reading rows ≡ map (λ l. says l) ls

at_last : (begun : Bool) (tag : Option (List Expanded)) (os : List Opened) (last : ℕ) (more : List Record) (numbers : List ℕ)
    → (if not begun then refused no_root last else if not (is_empty os) then refused truncated last else tree [] []) ≡ tree more numbers
    → Follow begun tag os []
at_last true tag [] last more numbers e = no_misc
at_last true tag (o ∷ os) last more numbers e = absurd (cc)
at_last false tag os last more numbers e = absurd (cc)

put_found : (X : Type 0) (nodes : List Record) (line : ℕ) (o : Outcome) (more : List Record) (numbers : List ℕ) → put_before nodes line o ≡ tree more numbers
    → ((others : List Record) (ns : List ℕ) → o ≡ tree others ns → X) → X
put_found X nodes line (tree others ns) more numbers e h = h others ns refl
put_found X nodes line (refused number at) more numbers e h = absurd (cc)

step_found : (c : Context) (row : Row) (rows : List Row) (l : Line) (line : ℕ) (step : Step) (rest : Context → Outcome) (more : List Record) (numbers : List ℕ)
    → reading row ≡ says l → Leads c l step → and_then line step rest ≡ tree more numbers →
    ((d : Context) (others : List Record) (ns : List ℕ) → Sound d → rest d ≡ tree others ns → (ls : List Line) × AreSaid rows ls × FollowIn d ls)
    → (ls : List Line) × AreSaid (row ∷ rows) ls × FollowIn c ls
step_found c row rows l line (bad number) rest more numbers h k e next = absurd (cc)
step_found c row rows l line (gives nodes d) rest more numbers h k e next =
    put_found ((ls : List Line) × AreSaid (row ∷ rows) ls × FollowIn c ls) nodes line (rest d) more numbers e (λ others ns is.
    (let f : (ls : List Line) × AreSaid rows ls × FollowIn d ls = next d others ns k.0 is in
    (l ∷ f.0, ap (λ r. r ∷ map reading rows) h ∙ ap (λ rs. says l ∷ rs) f.1, k.1 f.0 f.2)))

row_found : (c : Context) (row : Row) (rows : List Row) (line : ℕ) (said : Reading) (more : List Record) (numbers : List ℕ) → reading row ≡ said → Sound c
    → and_then line (row_step c line row rows) (λ next. meaning next (line + 1) rows) ≡ tree more numbers →
    ((d : Context) (others : List Record) (ns : List ℕ) → Sound d → meaning d (line + 1) rows ≡ tree others ns → (ls : List Line) × AreSaid rows ls
    × FollowIn d ls) → (ls : List Line) × AreSaid (row ∷ rows) ls × FollowIn c ls
row_found c row rows line (says l) more numbers h s e next =
    step_found c row rows l line (line_step c line l rows) (λ d. meaning d (line + 1) rows) more numbers h (leads_line c line l rows s)
    (ap (λ step. and_then line step (λ d. meaning d (line + 1) rows)) (sym (row_says c line row rows l h)) ∙ e) next
row_found c row rows line (faulty number) more numbers h s e next =
    absurd (let clash = ap (λ step. and_then line step (λ d. meaning d (line + 1) rows)) (sym (row_faulty c line row rows number h)) ∙ e in cc)

rows_found : (rows : List Row) (c : Context) (line : ℕ) (more : List Record) (numbers : List ℕ) → Sound c → meaning c line rows ≡ tree more numbers
    → (ls : List Line) × AreSaid rows ls × FollowIn c ls
unfolding meaning
rows_found [] c line more numbers s e = ([], refl, at_last c.begun c.tag c.around (line - 1) more numbers e)
rows_found (row ∷ rows) c line more numbers s e =
    row_found c row rows line (reading row) more numbers refl s e (λ d others ns t is. rows_found rows d (line + 1) others ns t is)

sound_start : Sound at_start
sound_start = record { tag = tt; begun = λ _. refl }

document_outcome : (b : Bool) (o : Outcome) (rs : List Record) (numbers : List ℕ) → (if b then o else refused too_large 0) ≡ tree rs numbers
    → o ≡ tree rs numbers
document_outcome true o rs numbers e = e
document_outcome false o rs numbers e = absurd (cc)

pub documents_follow_grammar : DocumentsFollowGrammar
unfolding document
documents_follow_grammar limit bytes rs numbers e =
    put_found ((ls : List Line) × AreSaid (rows_of bytes) ls × IsWellFormed ls) (root_record ∷ []) 0 (meaning at_start 1 (rows_of bytes)) rs numbers
    (sym (agreement (rows_of bytes)) ∙ document_outcome (nat_le (length bytes) limit) (outcome (rows_of bytes)) rs numbers e)
    (λ others ns is. rows_found (rows_of bytes) at_start 1 others ns sound_start is)
