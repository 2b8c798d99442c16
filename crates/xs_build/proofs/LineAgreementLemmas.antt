-- What a line comes to step by step is what the rules say of it.
use Rattle.std.proofs.Common.{◌≡◌, ℕ, ◌+◌, List, [], ◌∷◌, ◌++◌, Option, None, Some, Bool, true, false, refl, length, inl, inr, arith}
use Rattle.std.specs.Prelude.{not, ◌&&◌, ◌||◌, ◌==◌, nat_le, if◌then◌else◌, is_none, is_some, option_and_then, option_map}
use Rattle.std.specs.List.{list_any}
use Rattle.std.specs.Option.{option_map_or}
use Rattle.std.specs.Str.{bytes_eq}
use Rattle.std.proofs.lemmas.Bool.{cases_Bool}
use Rattle.std.proofs.lemmas.List.{length-map}
use Rattle.xs_text.specs.WhiteSpace.{is_blank}
use Rattle.xs_pyx.specs.Row.{Row}
use Rattle.xs_pyx.specs.declared.line.Line.{Line}
use Rattle.xs_pyx.specs.declared.line.Line.TheVariants.{Start, Attr, Chars, End, Pi, Comment}
use Rattle.xs_tree.specs.Record.{Record}
use Rattle.xs_tree.specs.declared.names.Name.{Name}
use Rattle.xs_build.specs.declared.tag_names.Expanded.{Expanded}
use Rattle.xs_build.specs.declared.opened.Opened.{Opened}
use Rattle.xs_build.specs.Faults.{bad_name, unbound_prefix, double_attribute, bad_namespace, too_large}
use Rattle.xs_tree.specs.Limits.{most_nodes}
use Rattle.xs_build.specs.Namespaces.{Bindings, QName, ExpandedName, is_empty, is_ncname, is_xml, are_same, qname_of, scope_with, element_name}
use Rattle.xs_build.specs.Namespaces.{attribute_name, declared_prefix, is_bad_binding, expanded_name, declaring_name, attribute_expanded}
use Rattle.xs_build.specs.Start.{declarations, text_ahead}
use Rattle.xs_build.specs.Nodes.{element, attribute, space, spaces, text_node, comment, instruction}
use Rattle.xs_build.specs.LineContext.{LineContext, written_expanded}
use Rattle.xs_build.specs.Rules.{start_name, line_nodes, line_faults, first_fault}
use Rattle.xs_build.specs.steps.Lines.{Context, innermost, scope_of, expanded, Step, bad, gives, rule, needs, adds, past, with_name, same_name}
use Rattle.xs_build.specs.steps.Lines.{declaration_name, start_step, declaration_step, plain_step, written_step, attribute_step, text_step, end_step}
use Rattle.xs_build.specs.steps.Lines.{instruction_step, comment_step, line_step}

-- A step that is bad has this fault; one that gives nodes gives these, where there is no fault, and a context of which something holds.
abbrev pub Judged : Step → Option ℕ → List Record → (Context → Type 0) → Type 0
Judged (bad number) fault nodes P = fault ≡ Some number
Judged (gives given d) fault nodes P = (fault ≡ None) × (given ≡ nodes) × P d

abbrev pub name_of : List Opened → Option (List ℕ)
name_of [] = None
name_of (o ∷ os) = Some o.name

abbrev pub reported : Expanded → ExpandedName
reported e = record { uri = e.uri; local = e.local }

-- the names of a start tag are these
abbrev pub SameNames : List Expanded → List ExpandedName → Type 0
SameNames seen names = (x : Expanded) → list_any (same_name x) seen ≡ list_any (are_same (reported x)) names

pub no_more : (n : ℕ) → nat_le n most_nodes ≡ true → nat_le (n + 0) most_nodes ≡ true
no_more n h = let e : n + 0 ≡ n = omega arith in rw e h

-- where there is room for some nodes
judged_adds : (c : Context) (nodes : List Record) (others : ℕ) (d : Context) (P : Context → Type 0) → others ≡ length nodes
    → (nat_le (c.nodes + length nodes) most_nodes ≡ true → P d) →
    Judged (adds c nodes d) (first_fault ((too_large, not (nat_le (c.nodes + others) most_nodes)) ∷ [])) nodes P
judged_adds c nodes others d P same p =
    elim (cases_Bool (nat_le (c.nodes + length nodes) most_nodes)) [
      | inl t ↦ rw (same, t) (refl, refl, p t)
      | inr f ↦ rw (same, f) refl
    ]

-- where nothing is added
judged_none : (c d : Context) (P : Context → Type 0) → nat_le c.nodes most_nodes ≡ true → P d
    → Judged (gives [] d) (first_fault ((too_large, not (nat_le (c.nodes + 0) most_nodes)) ∷ [])) [] P
judged_none c d P few p = rw (no_more c.nodes few) (refl, refl, p)

-- the start of an element
abbrev pub inside_of : Context → List ℕ → Bindings → Context
inside_of c name scope = record {
  around = record { name = name; node = c.nodes; scope = scope } ∷ c.around;
  begun = true;
  tag = Some [];
  in_text = false;
  nodes = c.nodes + 1 + length scope;
}

same_count : (scope : Bindings) (full : Name) (p q n m : ℕ) → length (element full p ∷ spaces n scope) ≡ length (element full q ∷ spaces m scope)
same_count scope full p q n m = omega (arith, length-map scope (space n), length-map scope (space m))

found_judged : (c : Context) (scope : Bindings) (found : Option Name) (d : Context) (P : Context → Type 0) →
    ((full : Name) → found ≡ Some full → nat_le (c.nodes + length (element full (innermost c.around) ∷ spaces c.nodes scope)) most_nodes ≡ true → P d) →
    Judged (needs found unbound_prefix (λ full. adds c (element full (innermost c.around) ∷ spaces c.nodes scope) d))
    (first_fault ((unbound_prefix, is_none found) ∷ (double_attribute, false) ∷ (bad_namespace, false) ∷
    (too_large, not (nat_le (c.nodes + length (option_map_or (λ full. element full 0 ∷ spaces 0 scope) found [])) most_nodes)) ∷ []))
    (option_map_or (λ full. element full (innermost c.around) ∷ spaces c.nodes scope) found []) P
found_judged c scope None d P p = refl
found_judged c scope (Some full) d P p =
    judged_adds c (element full (innermost c.around) ∷ spaces c.nodes scope) (length (element full 0 ∷ spaces 0 scope)) d P
    (same_count scope full 0 (innermost c.around) 0 c.nodes) (p full refl)

named_judged : (c : Context) (scope : Bindings) (written : Option QName) (d : Context) (P : Context → Type 0) →
    ((full : Name) → option_and_then (element_name scope) written ≡ Some full
    → nat_le (c.nodes + length (element full (innermost c.around) ∷ spaces c.nodes scope)) most_nodes ≡ true → P d) →
    Judged (needs written bad_name (λ w. needs (element_name scope w) unbound_prefix
    (λ full. adds c (element full (innermost c.around) ∷ spaces c.nodes scope) d)))
    (first_fault ((bad_name, is_none written) ∷ (unbound_prefix, is_none (option_and_then (element_name scope) written)) ∷ (double_attribute, false) ∷
    (bad_namespace, false)
    ∷ (
      too_large,
      not (nat_le (c.nodes + length
          (option_map_or (λ full. element full 0 ∷ spaces 0 scope) (option_and_then (element_name scope) written) [])) most_nodes),
    ) ∷ []))
    (option_map_or (λ full. element full (innermost c.around) ∷ spaces c.nodes scope) (option_and_then (element_name scope) written) []) P
named_judged c scope None d P p = refl
named_judged c scope (Some w) d P p = found_judged c scope (element_name scope w) d P p

-- what is around a line, in a context
abbrev pub seen_in : Context → ℕ → Bool → List ExpandedName → Bool → LineContext
seen_in c number in_tag names in_text = record {
  number = number;
  inside = name_of c.around;
  begun = c.begun;
  scope = scope_of c.around;
  in_tag = in_tag;
  names = names;
  in_text = in_text;
}

-- the faults and the nodes of a line in a context
abbrev pub LineJudged : Context → LineContext → ℕ → Line → List Row → (Context → Type 0) → Type 0
LineJudged c a number line behind P =
    Judged (line_step c number line behind) (first_fault (line_faults a behind (c.nodes + length (line_nodes a behind 0 0 line)) line))
    (line_nodes a behind (innermost c.around) c.nodes line) P

pub start_judged : (os : List Opened) (begun : Bool) (tag : Option (List Expanded)) (quiet : Bool) (n : ℕ) (number : ℕ) (in_tag : Bool)
    (names : List ExpandedName) (in_text : Bool) (name : List ℕ) (behind : List Row) (P : Context → Type 0) →
    let c : Context = record { around = os; begun = begun; tag = tag; in_text = quiet; nodes = n } in
    let scope = scope_with (declarations behind) (scope_of os) in
    ((full : Name) → start_name scope name ≡ Some full → nat_le (n + length (element full (innermost os) ∷ spaces n scope)) most_nodes ≡ true
    → P (inside_of c name scope)) →
    LineJudged c (seen_in c number in_tag names in_text) number (Start name) behind P
unfolding start_step
start_judged [] true tag quiet n number in_tag names in_text name behind P p = refl
start_judged [] false tag quiet n number in_tag names in_text name behind P p =
    let c : Context = record { around = []; begun = false; tag = tag; in_text = quiet; nodes = n } in
    let scope = scope_with (declarations behind) (scope_of []) in
    named_judged c scope (qname_of name) (inside_of c name scope) P p
start_judged (o ∷ os) true tag quiet n number in_tag names in_text name behind P p =
    let c : Context = record { around = o ∷ os; begun = true; tag = tag; in_text = quiet; nodes = n } in
    let scope = scope_with (declarations behind) (scope_of (o ∷ os)) in
    named_judged c scope (qname_of name) (inside_of c name scope) P p
start_judged (o ∷ os) false tag quiet n number in_tag names in_text name behind P p =
    let c : Context = record { around = o ∷ os; begun = false; tag = tag; in_text = quiet; nodes = n } in
    let scope = scope_with (declarations behind) (scope_of (o ∷ os)) in
    named_judged c scope (qname_of name) (inside_of c name scope) P p

-- one more name in the start tag
abbrev pub with_attribute : Context → List Expanded → Expanded → ℕ → Context
with_attribute c seen x added = record c { tag = Some (seen ++ x ∷ []); nodes = c.nodes + added }

abbrev pub with_declaration : Context → List Expanded → Expanded → Context
with_declaration c seen x = record c { tag = Some (seen ++ x ∷ []) }

-- a name that is new, and one that is not
fresh_judged : (old new : Bool) (next : Step) (faults : List (ℕ × Bool)) (nodes : List Record) (P : Context → Type 0) → old ≡ new
    → Judged next (first_fault faults) nodes P → Judged (rule (not old) double_attribute next) (first_fault ((double_attribute, new) ∷ faults)) nodes P
fresh_judged true new next faults nodes P same j = rw (← same) refl
fresh_judged false new next faults nodes P same j = rw (← same) j

plain_judged : (c : Context) (seen : List Expanded) (names : List ExpandedName) (value : List ℕ) (found : Option Name) (P : Context → Type 0)
    → SameNames seen names →
    ((full : Name) → found ≡ Some full → nat_le (c.nodes + 1) most_nodes ≡ true → P (with_attribute c seen (expanded full) 1)) →
    Judged (needs found unbound_prefix (λ full. with_name seen (expanded full)
    (adds c (attribute full value (innermost c.around) ∷ []) (with_attribute c seen (expanded full) 1))))
    (first_fault ((unbound_prefix, is_none (option_map expanded_name found)) ∷
    (double_attribute, option_map_or (λ name. list_any (are_same name) names) (option_map expanded_name found) false) ∷ (bad_namespace, false)
    ∷ (too_large, not (nat_le (c.nodes + length (option_map_or (λ full. attribute full value 0 ∷ []) found [])) most_nodes)) ∷ []))
    (option_map_or (λ full. attribute full value (innermost c.around) ∷ []) found []) P
plain_judged c seen names value None P same p = refl
plain_judged c seen names value (Some full) P same p =
    fresh_judged (list_any (same_name (expanded full)) seen) (list_any (are_same (expanded_name full)) names)
    (adds c (attribute full value (innermost c.around) ∷ []) (with_attribute c seen (expanded full) 1))
    ((bad_namespace, false) ∷ (too_large, not (nat_le (c.nodes + 1) most_nodes)) ∷ []) (attribute full value (innermost c.around) ∷ []) P (same (expanded full))
    (judged_adds c (attribute full value (innermost c.around) ∷ []) 1 (with_attribute c seen (expanded full) 1) P refl (p full refl))

allowed_judged : (c d : Context) (forbidden : Bool) (P : Context → Type 0) → nat_le c.nodes most_nodes ≡ true → P d →
    Judged (rule (not forbidden) bad_namespace (gives [] d))
    (first_fault ((bad_namespace, forbidden) ∷ (too_large, not (nat_le (c.nodes + 0) most_nodes)) ∷ [])) [] P
allowed_judged c d true P few p = refl
allowed_judged c d false P few p = judged_none c d P few p

declared_judged : (c : Context) (seen : List Expanded) (names : List ExpandedName) (value prefix : List ℕ) (P : Context → Type 0) → SameNames seen names
    → nat_le c.nodes most_nodes ≡ true →
    P (with_declaration c seen (declaration_name prefix)) →
    Judged (declaration_step c seen value prefix)
    (first_fault ((double_attribute, list_any (are_same (declaring_name prefix)) names) ∷ (bad_namespace, is_bad_binding prefix value) ∷
    (too_large, not (nat_le (c.nodes + 0) most_nodes)) ∷ [])) [] P
unfolding declaration_step
declared_judged c seen names value prefix P same few p =
    fresh_judged (list_any (same_name (declaration_name prefix)) seen) (list_any (are_same (declaring_name prefix)) names)
    (rule (not (is_bad_binding prefix value)) bad_namespace (gives [] (with_declaration c seen (declaration_name prefix))))
    ((bad_namespace, is_bad_binding prefix value) ∷ (too_large, not (nat_le (c.nodes + 0) most_nodes)) ∷ []) [] P (same (declaration_name prefix))
    (allowed_judged c (with_declaration c seen (declaration_name prefix)) (is_bad_binding prefix value) P few p)

-- what an attribute line leaves: a declaration, or an attribute that was found
abbrev pub Attributed : Context → List Expanded → Bindings → QName → Option (List ℕ) → (Context → Type 0) → Type 0
Attributed c seen scope w None P = (full : Name) → attribute_name scope w ≡ Some full → nat_le (c.nodes + 1) most_nodes ≡ true
    → P (with_attribute c seen (expanded full) 1)
Attributed c seen scope w (Some prefix) P = P (with_declaration c seen (declaration_name prefix))

written_judged : (c : Context) (seen : List Expanded) (names : List ExpandedName) (value : List ℕ) (w : QName) (declared : Option (List ℕ)) (P : Context
    → Type 0) → SameNames seen names → nat_le c.nodes most_nodes ≡ true →
    Attributed c seen (scope_of c.around) w declared P →
    Judged (written_step c seen value w declared)
    (first_fault ((unbound_prefix, is_none (attribute_expanded (scope_of c.around) w declared)) ∷
    (double_attribute, option_map_or (λ name. list_any (are_same name) names) (attribute_expanded (scope_of c.around) w declared) false)
    ∷ (bad_namespace, option_map_or (λ prefix. is_bad_binding prefix value) declared false)
    ∷ (
      too_large,
      not (nat_le (c.nodes + length
          (if is_some declared then [] else option_map_or (λ full. attribute full value 0 ∷ []) (attribute_name (scope_of c.around) w) [])) most_nodes),
    ) ∷ []))
    (if is_some declared then [] else option_map_or (λ full. attribute full value (innermost c.around) ∷ []) (attribute_name (scope_of c.around) w) []) P
unfolding plain_step
written_judged c seen names value w None P same few p = plain_judged c seen names value (attribute_name (scope_of c.around) w) P same p
written_judged c seen names value w (Some prefix) P same few p = declared_judged c seen names value prefix P same few p

-- what an attribute line leaves, if its name is a QName
abbrev pub Named : Context → List Expanded → Bindings → Option QName → (Context → Type 0) → Type 0
Named c seen scope None P = Unit {0}
Named c seen scope (Some w) P = Attributed c seen scope w (declared_prefix w) P

qname_judged : (c : Context) (seen : List Expanded) (names : List ExpandedName) (value : List ℕ) (written : Option QName) (P : Context → Type 0)
    → SameNames seen names → nat_le c.nodes most_nodes ≡ true →
    Named c seen (scope_of c.around) written P →
    Judged (needs written bad_name (λ w. written_step c seen value w (declared_prefix w)))
    (first_fault ((bad_name, is_none written) ∷ (unbound_prefix, is_none (option_and_then (written_expanded (scope_of c.around)) written)) ∷
    (double_attribute, option_map_or (λ name. list_any (are_same name) names) (option_and_then (written_expanded (scope_of c.around)) written) false)
    ∷ (bad_namespace, option_map_or (λ prefix. is_bad_binding prefix value) (option_and_then declared_prefix written) false)
    ∷ (
      too_large,
      not (nat_le (c.nodes + length
          (if is_some (option_and_then declared_prefix written) then [] else option_map_or (λ full. attribute full value 0 ∷ [])
          (option_and_then (attribute_name (scope_of c.around)) written) [])) most_nodes),
    ) ∷ []))
    (if is_some (option_and_then declared_prefix written) then [] else option_map_or (λ full. attribute full value (innermost c.around) ∷ [])
    (option_and_then (attribute_name (scope_of c.around)) written) []) P
qname_judged c seen names value None P same few p = refl
qname_judged c seen names value (Some w) P same few p = written_judged c seen names value w (declared_prefix w) P same few p

pub attribute_judged : (os : List Opened) (begun : Bool) (seen : List Expanded) (quiet : Bool) (n : ℕ) (number : ℕ) (in_tag : Bool) (names : List ExpandedName)
    (in_text : Bool) (name value : List ℕ) (behind : List Row) (P : Context → Type 0) →
    let c : Context = record { around = os; begun = begun; tag = Some seen; in_text = quiet; nodes = n } in
    SameNames seen names → nat_le n most_nodes ≡ true → Named c seen (scope_of os) (qname_of name) P →
    LineJudged c (seen_in c number in_tag names in_text) number (Attr name value) behind P
unfolding attribute_step
attribute_judged os begun seen quiet n number in_tag names in_text name value behind P same few p =
    qname_judged (record { around = os; begun = begun; tag = Some seen; in_text = quiet; nodes = n }) seen names value (qname_of name) P same few p

-- a text
abbrev pub quiet_of : Context → Context
quiet_of c = record c { tag = None }

abbrev pub text_of : Context → Context
text_of c = record c { tag = None; in_text = true; nodes = c.nodes + 1 }

pub text_judged : (os : List Opened) (begun : Bool) (tag : Option (List Expanded)) (in_text : Bool) (n : ℕ) (number : ℕ) (in_tag : Bool)
    (names : List ExpandedName) (quiet : Bool) (text : List ℕ) (behind : List Row) (P : Context → Type 0) →
    let c : Context = record { around = os; begun = begun; tag = tag; in_text = in_text; nodes = n } in
    nat_le n most_nodes ≡ true → in_text ≡ (is_some (name_of os) && quiet) →
    (os ≡ [] → P (past c [] 0)) → (is_some (name_of os) ≡ true → (in_text || is_empty text) ≡ true → P (quiet_of c))
    → (is_some (name_of os) ≡ true → is_empty text ≡ false → quiet ≡ false → nat_le (n + 1) most_nodes ≡ true → P (text_of c)) →
    LineJudged c (seen_in c number in_tag names quiet) number (Chars text) behind P
unfolding text_step
text_judged [] begun tag in_text n number in_tag names quiet text behind P few is outside goes_on first =
    let c : Context = record { around = []; begun = begun; tag = tag; in_text = in_text; nodes = n } in
    elim (cases_Bool (is_blank text)) [
      | inl t ↦ rw t (judged_none c (past c [] 0) P few (outside refl))
      | inr f ↦ rw f refl
    ]
text_judged (o ∷ os) begun tag true n number in_tag names true text behind P few is outside goes_on first =
    let c : Context = record { around = o ∷ os; begun = begun; tag = tag; in_text = true; nodes = n } in
    elim (cases_Bool (is_empty text)) [
      | inl t ↦ rw t (judged_none c (quiet_of c) P few (goes_on refl refl))
      | inr f ↦ rw f (judged_none c (quiet_of c) P few (goes_on refl refl))
    ]
text_judged (o ∷ os) begun tag false n number in_tag names true text behind P few is outside goes_on first = cc
text_judged (o ∷ os) begun tag true n number in_tag names false text behind P few is outside goes_on first = cc
text_judged (o ∷ os) begun tag false n number in_tag names false [] behind P few is outside goes_on first =
    let c : Context = record { around = o ∷ os; begun = begun; tag = tag; in_text = false; nodes = n } in
    judged_none c (quiet_of c) P few (goes_on refl refl)
text_judged (o ∷ os) begun tag false n number in_tag names false (b ∷ text) behind P few is outside goes_on first =
    let c : Context = record { around = o ∷ os; begun = begun; tag = tag; in_text = false; nodes = n } in
    judged_adds c (text_node (b ∷ text ++ text_ahead behind) o.node ∷ []) 1 (text_of c) P refl (first refl refl refl)

-- the end of an element
pub end_judged : (os : List Opened) (begun : Bool) (tag : Option (List Expanded)) (quiet : Bool) (n : ℕ) (number : ℕ) (in_tag : Bool)
    (names : List ExpandedName) (in_text : Bool) (name : List ℕ) (behind : List Row) (P : Context → Type 0) →
    let c : Context = record { around = os; begun = begun; tag = tag; in_text = quiet; nodes = n } in
    nat_le n most_nodes ≡ true → ((o : Opened) (more : List Opened) → os ≡ o ∷ more → P (past c more 0)) →
    LineJudged c (seen_in c number in_tag names in_text) number (End name) behind P
unfolding end_step
end_judged [] begun tag quiet n number in_tag names in_text name behind P few p = refl
end_judged (o ∷ os) begun tag quiet n number in_tag names in_text name behind P few p =
    let c : Context = record { around = o ∷ os; begun = begun; tag = tag; in_text = quiet; nodes = n } in
    elim (cases_Bool (bytes_eq o.name name)) [
      | inl t ↦ rw t (judged_none c (past c os 0) P few (p o os refl))
      | inr f ↦ rw f refl
    ]

-- a processing instruction
pub instruction_judged : (c : Context) (number : ℕ) (in_tag : Bool) (names : List ExpandedName) (in_text : Bool) (target text : List ℕ) (behind : List Row)
    (P : Context → Type 0) → nat_le c.nodes most_nodes ≡ true →
    ((number == 1 && is_xml target) ≡ true → P (past c c.around 0))
    → ((number == 1 && is_xml target) ≡ false → nat_le (c.nodes + 1) most_nodes ≡ true → P (past c c.around 1)) →
    LineJudged c (seen_in c number in_tag names in_text) number (Pi target text) behind P
unfolding instruction_step
instruction_judged c number in_tag names in_text target text behind P few none one =
    elim (cases_Bool (number == 1 && is_xml target)) [
      | inl t ↦ rw t (judged_none c (past c c.around 0) P few (none t))
      | inr f ↦ elim (cases_Bool (is_ncname target && not (is_xml target))) [
        | inl u ↦ rw (f, u) (judged_adds c (instruction target text (innermost c.around) ∷ []) 1 (past c c.around 1) P refl (one f))
        | inr v ↦ rw (f, v) refl
      ]
    ]

-- a comment
pub comment_judged : (c : Context) (number : ℕ) (in_tag : Bool) (names : List ExpandedName) (in_text : Bool) (text : List ℕ) (behind : List Row) (P : Context
    → Type 0) →
    (nat_le (c.nodes + 1) most_nodes ≡ true → P (past c c.around 1)) →
    LineJudged c (seen_in c number in_tag names in_text) number (Comment text) behind P
unfolding comment_step
comment_judged c number in_tag names in_text text behind P one = judged_adds c (comment text (innermost c.around) ∷ []) 1 (past c c.around 1) P refl one
