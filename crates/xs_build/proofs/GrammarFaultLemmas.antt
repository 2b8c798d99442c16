-- Lines that are by the grammar have none of the faults that it speaks of.
use Rattle.std.proofs.Common.{◌≡◌, ℕ, ◌+◌, ◌-◌, List, [], ◌∷◌, ◌++◌, Option, None, Some, Bool, true, false, refl, sym, ◌∙◌, ap, subst, length}
use Rattle.std.specs.Prelude.{not, ◌&&◌, ◌||◌, ◌==◌, nat_le, if◌then◌else◌}
use Rattle.std.specs.List.{list_any}
use Rattle.std.specs.Str.{bytes_eq}
use Rattle.std.proofs.lemmas.Slice.Eq.{bytes_eq-Decides}
use Rattle.xs_text.specs.WhiteSpace.{is_blank}
use Rattle.xs_pyx.specs.Row.{Row, rows_of}
use Rattle.xs_pyx.specs.Reading.{says, reading}
use Rattle.xs_pyx.specs.declared.line.Line.{Line}
use Rattle.xs_pyx.specs.declared.line.Line.TheVariants.{Start, Attr, Chars, End, Pi, Comment}
use Rattle.xs_tree.specs.Record.{Record, root_record}
use Rattle.xs_build.specs.declared.tag_names.Expanded.{Expanded}
use Rattle.xs_build.specs.declared.opened.Opened.{Opened}
use Rattle.xs_build.specs.Faults.{bad_line, unbalanced, no_root, bad_name, unbound_prefix, double_attribute, bad_namespace, too_large, truncated}
use Rattle.xs_build.specs.Document.{Outcome, tree, refused, outcome, document}
use Rattle.xs_build.specs.DocumentLaws.{is_no_grammar_fault, GrammarIsEnough}
use Rattle.xs_build.specs.Grammar.{Misc, no_misc, white_space, outer_comment, outer_instruction, Attributes, no_attributes, attribute, Element, element}
use Rattle.xs_build.specs.Grammar.{Content, no_content, text, comment, instruction, child, IsWellFormed}
use Rattle.xs_tree.specs.Limits.{most_nodes}
use Rattle.xs_build.specs.Namespaces.{QName, is_empty, is_ncname, is_xml, is_bad_binding, qname_of, element_name, attribute_name, declared_prefix}
use Rattle.xs_build.specs.Namespaces.{scope_with}
use Rattle.xs_build.specs.Nodes as node
use Rattle.xs_build.specs.Start.{declarations, text_ahead}
use Rattle.xs_build.specs.steps.Lines.{Context, at_start, innermost, scope_of, expanded, Step, bad, gives, rule, needs, adds, past, same_name}
use Rattle.xs_build.specs.steps.Lines.{declaration_name, with_element, named_start, start_step, declaration_step, named_step, plain_step, written_step}
use Rattle.xs_build.specs.steps.Lines.{attribute_step, outer_text_step, inner_text_step, text_step, close, end_step, instruction_step, comment_step, line_step}
use Rattle.xs_build.specs.steps.Lines.{put_before, and_then, at_end, meaning}
use Rattle.xs_build.proofs.GrammarLemmas.{AreSaid}
use Rattle.xs_build.proofs.ReadingLemmas.{row_says}
use Rattle.xs_build.proofs.StepAgreementLemmas.{agreement}

-- a tree, or a fault that the grammar does not speak of
abbrev Fair : Outcome → Type 0
Fair (tree nodes numbers) = Unit {0}
Fair (refused number line) = is_no_grammar_fault number ≡ true

abbrev FairStep : (Context → Type 0) → Step → Type 0
FairStep P (bad number) = is_no_grammar_fault number ≡ true
FairStep P (gives nodes d) = P d

fair_put : (nodes : List Record) (line : ℕ) (o : Outcome) → Fair o → Fair (put_before nodes line o)
fair_put nodes line (tree more numbers) h = tt
fair_put nodes line (refused number at) h = h

fair_then : (P : Context → Type 0) (line : ℕ) (step : Step) (rest : Context → Outcome) → FairStep P step → ((d : Context) → P d → Fair (rest d))
    → Fair (and_then line step rest)
fair_then P line (bad number) rest h next = h
fair_then P line (gives nodes d) rest h next = fair_put nodes line (rest d) (next d h)

-- a rule that is kept, and one that the grammar does not speak of
kept_rule : (P : Context → Type 0) (b : Bool) (number : ℕ) (step : Step) → b ≡ true → FairStep P step → FairStep P (rule b number step)
kept_rule P true number step is h = h
kept_rule P false number step is h = cc

free_rule : (P : Context → Type 0) (b : Bool) (number : ℕ) (step : Step) → is_no_grammar_fault number ≡ true → FairStep P step → FairStep P (rule b number step)
free_rule P true number step is h = h
free_rule P false number step is h = is

free_needs : {X : Type 0} (P : Context → Type 0) (o : Option X) (number : ℕ) (next : X → Step) → is_no_grammar_fault number ≡ true
    → ((x : X) → FairStep P (next x)) → FairStep P (needs o number next)
free_needs P None number next is h = is
free_needs P (Some x) number next is h = h x

free_adds : (P : Context → Type 0) (c : Context) (nodes : List Record) (d : Context) → P d → FairStep P (adds c nodes d)
free_adds P c nodes d h = free_rule P (nat_le (c.nodes + length nodes) most_nodes) too_large (gives nodes d) refl h

fair_if : (P : Context → Type 0) (b : Bool) (x y : Step) → FairStep P x → FairStep P y → FairStep P (if b then x else y)
fair_if P true x y f g = f
fair_if P false x y f g = g

-- one line, and the others
first_said : (row : Row) (rows : List Row) (l : Line) (ls : List Line) → AreSaid (row ∷ rows) (l ∷ ls) → (reading row ≡ says l) × AreSaid rows ls
first_said row rows l ls h = (cc, cc)

one_line : (P : Context → Type 0) (rows : List Row) (l : Line) (ls : List Line) (c : Context) (line : ℕ) → AreSaid rows (l ∷ ls)
    → ((more : List Row) → FairStep P (line_step c line l more)) →
    ((more : List Row) (d : Context) → AreSaid more ls → P d → Fair (meaning d (line + 1) more)) → Fair (meaning c line rows)
unfolding meaning
one_line P [] l ls c line h step next = cc
one_line P (row ∷ rows) l ls c line h step next =
    let both : (reading row ≡ says l) × AreSaid rows ls = first_said row rows l ls h in
    subst (λ s. Fair (and_then line s (λ d. meaning d (line + 1) rows))) (sym (row_says c line row rows l both.0))
    (fair_then P line (line_step c line l rows) (λ d. meaning d (line + 1) rows) (step rows) (λ d p. next rows d both.1 p))

-- lines from a place on, where these elements are open
record Stays (begun : Bool) (os : List Opened) (c : Context) : Type 0 where
  open_is : c.around ≡ os
  begun_is : c.begun ≡ begun

abbrev Goes : Bool → List Opened → List Line → Type 0
Goes begun os ls = (rows : List Row) (c : Context) (line : ℕ) → AreSaid rows ls → Stays begun os c → Fair (meaning c line rows)

abbrev IsTagged : Option (List Expanded) → Type 0
IsTagged None = ⊥
IsTagged (Some seen) = Unit {0}

record InTag (begun : Bool) (os : List Opened) (c : Context) : Type 0 where
  stays : Stays begun os c
  tag : IsTagged c.tag

abbrev GoesInTag : Bool → List Opened → List Line → Type 0
GoesInTag begun os ls = (rows : List Row) (c : Context) (line : ℕ) → AreSaid rows ls → InTag begun os c → Fair (meaning c line rows)

past_stays : (begun : Bool) (os : List Opened) (c : Context) (added : ℕ) → Stays begun os c → Stays begun os (past c c.around added)
past_stays begun os c added s = record { open_is = s.open_is; begun_is = s.begun_is }

-- a comment, an instruction
comment_goes : (begun : Bool) (os : List Opened) (said : List ℕ) (ls : List Line) → Goes begun os ls → Goes begun os (Comment said ∷ ls)
unfolding comment_step
comment_goes begun os said ls next rows c line h s =
    one_line (Stays begun os) rows (Comment said) ls c line h
    (λ more. free_adds (Stays begun os) c (node.comment said (innermost c.around) ∷ []) (past c c.around 1) (past_stays begun os c 1 s))
    (λ more d said_more t. next more d (line + 1) said_more t)

instruction_goes : (begun : Bool) (os : List Opened) (target said : List ℕ) (ls : List Line) → Goes begun os ls → Goes begun os (Pi target said ∷ ls)
unfolding instruction_step
instruction_goes begun os target said ls next rows c line h s =
    one_line (Stays begun os) rows (Pi target said) ls c line h
    (λ more. fair_if (Stays begun os) (line == 1 && is_xml target) (gives [] (past c c.around 0))
    (rule (is_ncname target && not (is_xml target)) bad_name (adds c (node.instruction target said (innermost c.around) ∷ []) (past c c.around 1)))
    (past_stays begun os c 0 s)
    (free_rule (Stays begun os) (is_ncname target && not (is_xml target)) bad_name
    (adds c (node.instruction target said (innermost c.around) ∷ []) (past c c.around 1)) refl
    (free_adds (Stays begun os) c (node.instruction target said (innermost c.around) ∷ []) (past c c.around 1) (past_stays begun os c 1 s))))
    (λ more d said_more t. next more d (line + 1) said_more t)

-- a text outside, and one inside
outer_goes : (begun : Bool) (said : List ℕ) (ls : List Line) → is_blank said ≡ true → Goes begun [] ls → Goes begun [] (Chars said ∷ ls)
unfolding text_step
outer_goes begun said ls white next rows c line h s =
    one_line (Stays begun []) rows (Chars said) ls c line h
    (λ more. subst (λ os. FairStep (Stays begun []) (if is_empty os then outer_text_step c said else inner_text_step c said more)) (sym s.open_is)
    (kept_rule (Stays begun []) (is_blank said) unbalanced (gives [] (past c [] 0)) white (record { open_is = refl; begun_is = s.begun_is })))
    (λ more d said_more t. next more d (line + 1) said_more t)

inner_goes : (begun : Bool) (o : Opened) (os : List Opened) (said : List ℕ) (ls : List Line) → Goes begun (o ∷ os) ls → Goes begun (o ∷ os) (Chars said ∷ ls)
unfolding text_step
inner_goes begun o os said ls next rows c line h s =
    let P : Context → Type 0 = Stays begun (o ∷ os) in
    one_line P rows (Chars said) ls c line h
    (λ more. (let n : Record = node.text_node (said ++ text_ahead more) (innermost c.around) in
    subst (λ xs. FairStep P (if is_empty xs then outer_text_step c said else inner_text_step c said more)) (sym s.open_is)
    (fair_if P (c.in_text || is_empty said) (gives [] (record c { tag = None })) (adds c (n ∷ []) (record c {
      tag = None;
      in_text = true;
      nodes = c.nodes + 1;
    }))
    (record { open_is = s.open_is; begun_is = s.begun_is })
    (free_adds P c (n ∷ []) (record c { tag = None; in_text = true; nodes = c.nodes + 1 }) (record { open_is = s.open_is; begun_is = s.begun_is })))))
    (λ more d said_more t. next more d (line + 1) said_more t)

-- around the element
misc_goes : (begun : Bool) (rest ls : List Line) → Misc rest ls → Goes begun [] rest → Goes begun [] ls
misc_goes begun rest lines no_misc next = next
misc_goes begun rest lines (white_space said ls white m) next = outer_goes begun said ls white (misc_goes begun rest ls m next)
misc_goes begun rest lines (outer_comment said ls m) next = comment_goes begun [] said ls (misc_goes begun rest ls m next)
misc_goes begun rest lines (outer_instruction target said ls m) next = instruction_goes begun [] target said ls (misc_goes begun rest ls m next)

-- attributes
named_tag : (begun : Bool) (os : List Opened) (c : Context) (seen : List Expanded) (count : ℕ) → Stays begun os c
    → InTag begun os (record c { tag = Some seen; nodes = count })
named_tag begun os c seen count s = record { stays = record { open_is = s.open_is; begun_is = s.begun_is }; tag = tt }

written_fair : (begun : Bool) (os : List Opened) (c : Context) (seen : List Expanded) (value : List ℕ) (w : QName) (declared : Option (List ℕ))
    → Stays begun os c → FairStep (InTag begun os) (written_step c seen value w declared)
unfolding plain_step declaration_step
written_fair begun os c seen value w None s =
    let P : Context → Type 0 = InTag begun os in
    free_needs P (attribute_name (scope_of c.around) w) unbound_prefix (named_step c seen value) refl (λ full.
    free_rule P (not (list_any (same_name (expanded full)) seen)) double_attribute
    (adds c (node.attribute full value (innermost c.around) ∷ []) (record c { tag = Some (seen ++ expanded full ∷ []); nodes = c.nodes + 1 })) refl
    (free_adds P c (node.attribute full value (innermost c.around) ∷ []) (record c {
      tag = Some (seen ++ expanded full ∷ []);
      nodes = c.nodes + 1;
    }) (named_tag begun os c (seen ++ expanded full ∷ []) (c.nodes + 1) s)))
written_fair begun os c seen value w (Some prefix) s =
    let P : Context → Type 0 = InTag begun os in
    let d : Context = record c { tag = Some (seen ++ declaration_name prefix ∷ []) } in
    free_rule P (not (list_any (same_name (declaration_name prefix)) seen)) double_attribute
    (rule (not (is_bad_binding prefix value)) bad_namespace (gives [] d)) refl
    (free_rule P (not (is_bad_binding prefix value)) bad_namespace (gives [] d) refl (named_tag begun os c (seen ++ declaration_name prefix ∷ []) c.nodes s))

tag_fair : (begun : Bool) (os : List Opened) (c : Context) (name value : List ℕ) (tag : Option (List Expanded)) → Stays begun os c → IsTagged tag
    → FairStep (InTag begun os) (needs tag bad_line (λ seen. needs (qname_of name) bad_name (λ w. written_step c seen value w (declared_prefix w))))
tag_fair begun os c name value None s t = absurd t
tag_fair begun os c name value (Some seen) s t =
    free_needs (InTag begun os) (qname_of name) bad_name (λ w. written_step c seen value w (declared_prefix w)) refl
    (λ w. written_fair begun os c seen value w (declared_prefix w) s)

attribute_goes : (begun : Bool) (os : List Opened) (name value : List ℕ) (ls : List Line) → GoesInTag begun os ls → GoesInTag begun os (Attr name value ∷ ls)
unfolding attribute_step
attribute_goes begun os name value ls next rows c line h s =
    one_line (InTag begun os) rows (Attr name value) ls c line h (λ more. tag_fair begun os c name value c.tag s.stays s.tag)
    (λ more d said_more t. next more d (line + 1) said_more t)

attributes_go : (begun : Bool) (os : List Opened) (rest ls : List Line) → Attributes rest ls → Goes begun os rest → GoesInTag begun os ls
attributes_go begun os rest lines no_attributes next = λ rows c line h s. next rows c line h s.stays
attributes_go begun os rest lines (attribute name value ls a) next = attribute_goes begun os name value ls (attributes_go begun os rest ls a next)

-- the start and the end of an element
record Opens (name : List ℕ) (os : List Opened) (d : Context) : Type 0 where
  opened : Opened
  named : opened.name ≡ name
  inside : InTag true (opened ∷ os) d

start_fair : (begun : Bool) (os : List Opened) (c : Context) (name : List ℕ) (rows : List Row) → (not begun || not (is_empty os)) ≡ true → Stays begun os c
    → FairStep (Opens name os) (start_step c name rows)
unfolding start_step
start_fair begun os c name rows free s =
    let scope = scope_with (declarations rows) (scope_of c.around) in
    let o : Opened = record { name = name; node = c.nodes; scope = scope } in
    let d : Context = record { around = o ∷ c.around; begun = true; tag = Some []; in_text = false; nodes = c.nodes + 1 + length scope } in
    let may : (not c.begun || not (is_empty c.around)) ≡ true = ap (λ b. not b || not (is_empty c.around)) s.begun_is
    ∙ ap (λ xs. not begun || not (is_empty xs)) s.open_is ∙ free in
    kept_rule (Opens name os) (not c.begun || not (is_empty c.around)) unbalanced (named_start c name scope) may
    (free_needs (Opens name os) (qname_of name) bad_name (λ w. needs (element_name scope w) unbound_prefix (with_element c name scope)) refl (λ w.
    free_needs (Opens name os) (element_name scope w) unbound_prefix (with_element c name scope) refl (λ full.
    free_adds (Opens name os) c (node.element full (innermost c.around) ∷ node.spaces c.nodes scope) d
    (record { opened = o; named = refl; inside = record { stays = record { open_is = ap (λ xs. o ∷ xs) s.open_is; begun_is = refl }; tag = tt } }))))

end_goes : (o : Opened) (os : List Opened) (name : List ℕ) (ls : List Line) → o.name ≡ name → Goes true os ls → Goes true (o ∷ os) (End name ∷ ls)
unfolding end_step
end_goes o os name ls is next rows c line h s =
    one_line (Stays true os) rows (End name) ls c line h
    (λ more. subst (λ xs. FairStep (Stays true os) (close c xs name)) (sym s.open_is)
    (kept_rule (Stays true os) (bytes_eq o.name name) unbalanced (gives [] (past c os 0)) ((bytes_eq-Decides o.name name).1 is) (record {
      open_is = refl;
      begun_is = s.begun_is;
    })))
    (λ more d said_more t. next more d (line + 1) said_more t)

-- an element and content
abbrev Free : Bool → List Opened → Type 0
Free begun os = (not begun || not (is_empty os)) ≡ true

mutual
  element_goes : (rest ls : List Line) → Element rest ls → (begun : Bool) (os : List Opened) → Free begun os → Goes true os rest → Goes begun os ls
  element_goes r lines (element name rest inner ls a k) begun os free next = λ rows c line h s.
      one_line (Opens name os) rows (Start name) ls c line h (λ more. start_fair begun os c name more free s)
      (λ more d said_more t. attributes_go true (t.opened ∷ os) inner ls a
      (content_goes (End name ∷ rest) inner k t.opened os (end_goes t.opened os name rest t.named next)) more d (line + 1) said_more t.inside)

  content_goes : (rest ls : List Line) → Content rest ls → (o : Opened) (os : List Opened) → Goes true (o ∷ os) rest → Goes true (o ∷ os) ls
  content_goes r lines (no_content rest) o os next = next
  content_goes r lines (text said rest ls k) o os next = inner_goes true o os said ls (content_goes rest ls k o os next)
  content_goes r lines (comment said rest ls k) o os next = comment_goes true (o ∷ os) said ls (content_goes rest ls k o os next)
  content_goes r lines (instruction target said rest ls k) o os next = instruction_goes true (o ∷ os) target said ls (content_goes rest ls k o os next)
  content_goes r lines (child rest behind ls e k) o os next = element_goes behind ls e true (o ∷ os) refl (content_goes rest behind k o os next)

-- the end of the lines
at_last : (c : Context) (last : ℕ) → Stays true [] c → Fair (at_end c last)
at_last c last s =
    subst (λ b. Fair (if not b then refused no_root last else if not (is_empty c.around) then refused truncated last else tree [] [])) (sym s.begun_is)
    (subst (λ os. Fair (if not (is_empty os) then refused truncated last else tree [] [])) (sym s.open_is) tt)

none_left : Goes true [] []
unfolding meaning
none_left [] c line h s = at_last c (line - 1) s
none_left (row ∷ rows) c line h s = cc

lines_go : (ls : List Line) → IsWellFormed ls → Goes false [] ls
lines_go ls w = misc_goes false w.top ls w.before (element_goes w.behind w.top w.element false [] refl (misc_goes true [] w.behind w.after none_left))

outcome_fair : (rows : List Row) (ls : List Line) → AreSaid rows ls → IsWellFormed ls → Fair (outcome rows)
outcome_fair rows ls h w =
    subst Fair (sym (agreement rows)) (fair_put (root_record ∷ []) 0 (meaning at_start 1 rows) (lines_go ls w rows at_start 1 h (record {
      open_is = refl;
      begun_is = refl;
    })))

fair_refused : (o : Outcome) (number line : ℕ) → Fair o → o ≡ refused number line → is_no_grammar_fault number ≡ true
fair_refused o number line f e = subst Fair e f

limit_fair : (b : Bool) (o : Outcome) → Fair o → Fair (if b then o else refused too_large 0)
limit_fair true o f = f
limit_fair false o f = refl

pub grammar_is_enough : GrammarIsEnough
unfolding document
grammar_is_enough limit bytes lines number line h w e =
    fair_refused (document limit bytes) number line
    (limit_fair (nat_le (length bytes) limit) (outcome (rows_of bytes)) (outcome_fair (rows_of bytes) lines h w)) e
