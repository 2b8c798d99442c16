-- What is around a line is what the lines before it left.
use Rattle.std.proofs.Common.{◌≡◌, ℕ, zero, suc, ◌+◌, List, [], ◌∷◌, ◌++◌, Option, None, Some, Bool, true, false, refl, sym, ◌∙◌, ap, subst, length, drop, ◌⊎◌}
use Rattle.std.proofs.Common.{inl, inr, arith}
use Rattle.std.specs.Prelude.{not, ◌&&◌, ◌||◌, ◌==◌, nat_le, is_some}
use Rattle.std.specs.List.{list_any}
use Rattle.std.proofs.lemmas.List.{length-map}
use Rattle.std.proofs.lemmas.List.Sums.{take_while-cons}
use Rattle.std.proofs.lemmas.List.Folds.{list_any-append}
use Rattle.std.proofs.lemmas.Bool.Decides.{nat_tests}
use Rattle.xs_pyx.specs.Row.{Row}
use Rattle.xs_pyx.specs.Reading.{says, reading}
use Rattle.xs_pyx.specs.declared.line.Line.{Line}
use Rattle.xs_pyx.specs.declared.line.Line.TheVariants.{Start, Attr, Chars}
use Rattle.xs_build.specs.declared.tag_names.Expanded.{Expanded}
use Rattle.xs_build.specs.declared.opened.Opened.{Opened}
use Rattle.xs_tree.specs.Limits.{most_nodes}
use Rattle.xs_build.specs.Namespaces.{Bindings, ExpandedName, is_empty, scope_with}
use Rattle.xs_build.specs.Start.{begins_with, is_attribute_row, is_text_row, declarations, text_ahead}
use Rattle.xs_build.specs.LineContext.{line_context, starts, ends, neither, nesting, is_start, open_name, scope_in, has_start, follows_tag, names_at}
use Rattle.xs_build.specs.LineContext.{name_as}
use Rattle.xs_tree.specs.declared.names.Name.{Name}
use Rattle.xs_build.specs.Nodes.{element, space, spaces}
use Rattle.xs_build.specs.Rules.{start_name, reading_nodes, line_nodes}
use Rattle.xs_build.specs.Document.{nodes_before, open_node}
use Rattle.xs_build.specs.steps.Lines.{Context, innermost, scope_of, past, same_name}
use Rattle.xs_build.proofs.LineAgreementLemmas.{name_of, reported, SameNames, seen_in, inside_of, quiet_of, text_of}
use Rattle.xs_build.proofs.RestStepLemmas.{text_ahead_none, text_ahead_more}
use Rattle.xs_build.proofs.ReadingLemmas.{kind_of, begins, begins_other, no_text, no_attribute, is_text}

-- an attribute may follow where the context has the names of a start tag
abbrev pub SameTag : Option (List Expanded) → Bool → List ExpandedName → Type 0
SameTag None in_tag names = in_tag ≡ false
SameTag (Some seen) in_tag names = (in_tag ≡ true) × SameNames seen names

-- the open elements are those of the lines before
pub record Opens (os : List Opened) (before lines : List Row) : Type 0 where
  pub names : (n : ℕ) → name_of (drop n os) ≡ open_name n before
  pub nodes : (n : ℕ) → innermost (drop n os) ≡ open_node n before lines
  pub scopes : (n : ℕ) → scope_of (drop n os) ≡ scope_in n before lines

-- a context is that of a line behind these
pub record Fits (c : Context) (before lines : List Row) : Type 0 where
  pub opens : Opens c.around before lines
  pub begun : c.begun ≡ has_start before
  pub tag : SameTag c.tag (follows_tag before) (names_at (scope_of c.around) before)
  pub in_text : c.in_text ≡ (is_some (name_of c.around) && not (is_empty (text_ahead before)))
  pub count : c.nodes ≡ nodes_before before lines
  pub few : nat_le c.nodes most_nodes ≡ true

drop_nil : (n : ℕ) → drop {A = Opened} n [] ≡ []
drop_nil zero = refl
drop_nil (suc n) = refl

pub opens_none : (lines : List Row) → Opens [] [] lines
unfolding open_name open_node scope_in
opens_none lines = record { names = λ n. ap name_of (drop_nil n); nodes = λ n. ap innermost (drop_nil n); scopes = λ n. ap scope_of (drop_nil n) }

-- a line that neither starts nor ends an element
name_neither : (n : ℕ) (row : Row) (before : List Row) → nesting row ≡ neither → open_name n (row ∷ before) ≡ open_name n before
unfolding open_name
name_neither n row before h = rw h refl

node_neither : (n : ℕ) (row : Row) (before lines : List Row) → nesting row ≡ neither → open_node n (row ∷ before) lines ≡ open_node n before (row ∷ lines)
unfolding open_node
node_neither n row before lines h = rw h refl

scope_neither : (n : ℕ) (row : Row) (before lines : List Row) → nesting row ≡ neither → scope_in n (row ∷ before) lines ≡ scope_in n before (row ∷ lines)
unfolding scope_in
scope_neither n row before lines h = rw h refl

pub opens_neither : (os : List Opened) (row : Row) (before lines : List Row) → nesting row ≡ neither → Opens os before (row ∷ lines)
    → Opens os (row ∷ before) lines
opens_neither os row before lines h o = record {
  names = λ n. o.names n ∙ sym (name_neither n row before h);
  nodes = λ n. o.nodes n ∙ sym (node_neither n row before lines h);
  scopes = λ n. o.scopes n ∙ sym (scope_neither n row before lines h);
}

-- the end of an element
name_ends : (n : ℕ) (row : Row) (before : List Row) → nesting row ≡ ends → open_name n (row ∷ before) ≡ open_name (suc n) before
unfolding open_name
name_ends n row before h = rw h refl

node_ends : (n : ℕ) (row : Row) (before lines : List Row) → nesting row ≡ ends → open_node n (row ∷ before) lines ≡ open_node (suc n) before (row ∷ lines)
unfolding open_node
node_ends n row before lines h = rw h refl

scope_ends : (n : ℕ) (row : Row) (before lines : List Row) → nesting row ≡ ends → scope_in n (row ∷ before) lines ≡ scope_in (suc n) before (row ∷ lines)
unfolding scope_in
scope_ends n row before lines h = rw h refl

pub opens_ends : (o : Opened) (os : List Opened) (row : Row) (before lines : List Row) → nesting row ≡ ends → Opens (o ∷ os) before (row ∷ lines)
    → Opens os (row ∷ before) lines
opens_ends o os row before lines h f = record {
  names = λ n. f.names (suc n) ∙ sym (name_ends n row before h);
  nodes = λ n. f.nodes (suc n) ∙ sym (node_ends n row before lines h);
  scopes = λ n. f.scopes (suc n) ∙ sym (scope_ends n row before lines h);
}

-- the start of an element
name_starts : (n : ℕ) (name : List ℕ) (o : Opened) (os : List Opened) (row : Row) (before : List Row) → nesting row ≡ starts name → o.name ≡ name
    → ((m : ℕ) → name_of (drop m os) ≡ open_name m before) → name_of (drop n (o ∷ os)) ≡ open_name n (row ∷ before)
unfolding open_name
name_starts zero name o os row before h e f = rw (h, e) refl
name_starts (suc n) name o os row before h e f = rw h (f n)

node_starts : (n : ℕ) (name : List ℕ) (o : Opened) (os : List Opened) (row : Row) (before lines : List Row) → nesting row ≡ starts name
    → o.node ≡ nodes_before before (row ∷ lines) → ((m : ℕ) → innermost (drop m os) ≡ open_node m before (row ∷ lines)) →
    innermost (drop n (o ∷ os)) ≡ open_node n (row ∷ before) lines
unfolding open_node
node_starts zero name o os row before lines h e f = rw h e
node_starts (suc n) name o os row before lines h e f = rw h (f n)

scope_starts : (n : ℕ) (name : List ℕ) (o : Opened) (os : List Opened) (row : Row) (before lines : List Row) → nesting row ≡ starts name
    → o.scope ≡ scope_with (declarations lines) (scope_of os) → ((m : ℕ) → scope_of (drop m os) ≡ scope_in m before (row ∷ lines)) →
    scope_of (drop n (o ∷ os)) ≡ scope_in n (row ∷ before) lines
unfolding scope_in
scope_starts zero name o os row before lines h e f = rw h (e ∙ ap (scope_with (declarations lines)) (f 0))
scope_starts (suc n) name o os row before lines h e f = rw h (f n)

opens_starts : (name : List ℕ) (o : Opened) (os : List Opened) (row : Row) (before lines : List Row) → nesting row ≡ starts name → o.name ≡ name
    → o.node ≡ nodes_before before (row ∷ lines) → o.scope ≡ scope_with (declarations lines) (scope_of os) →
    Opens os before (row ∷ lines) → Opens (o ∷ os) (row ∷ before) lines
opens_starts name o os row before lines h named here inner f = record {
  names = λ n. name_starts n name o os row before h named f.names;
  nodes = λ n. node_starts n name o os row before lines h here f.nodes;
  scopes = λ n. scope_starts n name o os row before lines h inner f.scopes;
}

-- the names of a start tag, with one more line
names_none : (scope : Bindings) (row : Row) (before : List Row) → is_attribute_row row ≡ false → names_at scope (row ∷ before) ≡ []
unfolding names_at
names_none scope row before h = rw (take_while-cons is_attribute_row row before, h) refl

names_more : (scope : Bindings) (row : Row) (before : List Row) (name value : List ℕ) (x : ExpandedName) → reading row ≡ says (Attr name value)
    → name_as scope name ≡ Some x → names_at scope (row ∷ before) ≡ x ∷ names_at scope before
unfolding names_at
names_more scope row before name value x h e = rw (take_while-cons is_attribute_row row before, begins row (Attr name value) h, h, e) refl

-- what is around a line in a context
pub context_is : (c : Context) (before lines : List Row) → Fits c before lines →
    line_context before lines ≡ seen_in c (length before + 1) (follows_tag before) (names_at (scope_of c.around) before) (not (is_empty (text_ahead before)))
context_is c before lines f =
    ap (λ x. record (line_context before lines) { inside = x }) (sym (f.opens.names 0))
    ∙ ap (λ b. record (line_context before lines) { inside = name_of c.around; begun = b }) (sym f.begun)
    ∙ ap (λ s. record (line_context before lines) { inside = name_of c.around; begun = c.begun; scope = s; names = names_at s before }) (sym (f.opens.scopes 0))

-- how many nodes stand behind a line
count_more : (c : Context) (before : List Row) (row : Row) (lines : List Row) (line : Line) → Fits c before (row ∷ lines) → reading row ≡ says line →
    nodes_before (row ∷ before) lines ≡ c.nodes + length
    (line_nodes (seen_in c (length before + 1) (follows_tag before) (names_at (scope_of c.around) before)
    (not (is_empty (text_ahead before)))) lines 0 0 line)
unfolding nodes_before
count_more c before row lines line f h =
    ap (λ a. nodes_before before (row ∷ lines) + length (reading_nodes a lines 0 0 (reading row))) (context_is c before (row ∷ lines) f)
    ∙ ap (λ r. nodes_before before (row ∷ lines) + length
    (reading_nodes (seen_in c (length before + 1) (follows_tag before) (names_at (scope_of c.around) before)
    (not (is_empty (text_ahead before)))) lines 0 0 r)) h
    ∙ ap (λ n. n + length (line_nodes (seen_in c (length before + 1) (follows_tag before) (names_at (scope_of c.around) before)
    (not (is_empty (text_ahead before)))) lines 0 0 line)) (sym f.count)

pub and_false : (b : Bool) → (b && false) ≡ false
and_false true = refl
and_false false = refl

or_true : (b : Bool) → (b || true) ≡ true
or_true true = refl
or_true false = refl

zero_more : (n m : ℕ) → m ≡ 0 → n ≡ n + m
zero_more n m h = omega arith

-- a text that is empty, or goes on, changes nothing
still : (in_text : Bool) (text before : List ℕ) → in_text ≡ not (is_empty before) → (in_text || is_empty text) ≡ true
    → in_text ≡ not (is_empty (text ++ before))
still true [] before e h = e
still true (b ∷ text) before e h = refl
still false [] before e h = e
still false (b ∷ text) before e h = cc

filled : (text before : List ℕ) → is_empty text ≡ false → true ≡ (true && not (is_empty (text ++ before)))
filled [] before h = cc
filled (b ∷ text) before h = refl

-- a text that begins no node counts for none, and the first of a node for one
none_begins : (inside : Bool) (text before : List ℕ) (in_text : Bool) → in_text ≡ not (is_empty before) → (in_text || is_empty text) ≡ true
    → (inside && not (is_empty text) && not (not (is_empty before))) ≡ false
none_begins false text before in_text e h = refl
none_begins true [] before in_text e h = refl
none_begins true (b ∷ text) before true e h = ap not (sym e)
none_begins true (b ∷ text) before false e h = cc

-- the first byte of a line in a start tag begins no text
tag_no_text : (bytes : List ℕ) → (begins_with 40 bytes || begins_with 65 bytes) ≡ true → begins_with 45 bytes ≡ false
tag_no_text [] h = refl
tag_no_text (b ∷ bytes) h = grind (arith, nat_tests)

pub no_start_line : (row : Row) (line : Line) → (kind_of line == 40) ≡ false → reading row ≡ says line → begins_with 40 row.bytes ≡ false
no_start_line row line n h = begins_other (kind_of line) 40 row.bytes n (begins row line h)

-- a line that is no attribute and no start is followed by no attribute
no_tag_after : (row : Row) (before : List Row) → begins_with 40 row.bytes ≡ false → is_attribute_row row ≡ false → follows_tag (row ∷ before) ≡ false
no_tag_after row before a b = rw (a, b) refl

-- behind a line that is no text, or outside all elements, no text goes on
quiet_after : (row : Row) (os : List Opened) (before : List Row) → (name_of os ≡ None) ⊎ (is_text_row row ≡ false)
    → false ≡ (is_some (name_of os) && not (is_empty (text_ahead (row ∷ before))))
quiet_after row os before (inl e) = rw e refl
quiet_after row os before (inr e) = rw (text_ahead_none row before e) (sym (and_false (is_some (name_of os))))

-- how many nodes a line gives, in a context
abbrev pub count_in : Context → List Row → List Row → Line → ℕ
count_in c before lines line = length (line_nodes
    (seen_in c (length before + 1) (follows_tag before) (names_at (scope_of c.around) before) (not (is_empty (text_ahead before)))) lines 0 0 line)

-- behind the end of an element, a comment, an instruction, and a text outside
pub fits_past : (c : Context) (os : List Opened) (added : ℕ) (before : List Row) (row : Row) (lines : List Row) (line : Line) → Fits c before (row ∷ lines)
    → reading row ≡ says line →
    is_start (nesting row) ≡ false → begins_with 40 row.bytes ≡ false → is_attribute_row row ≡ false → (name_of os ≡ None) ⊎ (is_text_row row ≡ false) →
    Opens os (row ∷ before) lines → count_in c before lines line ≡ added → nat_le (c.nodes + added) most_nodes ≡ true
    → Fits (past c os added) (row ∷ before) lines
fits_past c os added before row lines line f h start tag attribute quiet opens counted few = record {
  opens = opens;
  begun = rw start f.begun;
  tag = no_tag_after row before tag attribute;
  in_text = quiet_after row os before quiet;
  count = ap (λ n. c.nodes + n) (sym counted) ∙ sym (count_more c before row lines line f h);
  few = few;
}

-- behind a text that is no node of its own
pub fits_quiet : (c : Context) (before : List Row) (row : Row) (lines : List Row) (text : List ℕ) → Fits c before (row ∷ lines)
    → reading row ≡ says (Chars text) → is_some (name_of c.around) ≡ true → (c.in_text || is_empty text) ≡ true →
    Fits (quiet_of c) (row ∷ before) lines
fits_quiet c before row lines text f h some goes_on =
    let is : nesting row ≡ neither = rw h refl in
    let now : c.in_text ≡ not (is_empty (text_ahead before)) = f.in_text ∙ ap (λ b. b && not (is_empty (text_ahead before))) some in
    let same : c.in_text ≡ not (is_empty (text ++ text_ahead before)) = still c.in_text text (text_ahead before) now goes_on in
    let counted : count_in c before lines (Chars text) ≡ 0 =
    rw (none_begins (is_some (name_of c.around)) text (text_ahead before) c.in_text now goes_on) refl in
    record {
      opens = opens_neither c.around row before lines is f.opens;
      begun = rw is f.begun;
      tag = no_tag_after row before (no_start_line row (Chars text) refl h) (no_attribute row (Chars text) refl h);
      in_text = same ∙ sym (ap (λ b. b && not (is_empty (text_ahead (row ∷ before)))) some
          ∙ ap (λ t. not (is_empty t)) (text_ahead_more row before text (is_text row text h) h));
      count = zero_more c.nodes (count_in c before lines (Chars text)) counted ∙ sym (count_more c before row lines (Chars text) f h);
      few = f.few;
    }

-- behind the first text of a node
pub fits_text : (c : Context) (before : List Row) (row : Row) (lines : List Row) (text : List ℕ) → Fits c before (row ∷ lines)
    → reading row ≡ says (Chars text) → is_some (name_of c.around) ≡ true → is_empty text ≡ false →
    not (is_empty (text_ahead before)) ≡ false → nat_le (c.nodes + 1) most_nodes ≡ true → Fits (text_of c) (row ∷ before) lines
fits_text c before row lines text f h some full quiet few =
    let is : nesting row ≡ neither = rw h refl in
    let counted : count_in c before lines (Chars text) ≡ 1 = rw (some, full, quiet) refl in
    record {
      opens = opens_neither c.around row before lines is f.opens;
      begun = rw is f.begun;
      tag = no_tag_after row before (no_start_line row (Chars text) refl h) (no_attribute row (Chars text) refl h);
      in_text = rw (some, text_ahead_more row before text (is_text row text h) h) (filled text (text_ahead before) full);
      count = ap (λ n. c.nodes + n) (sym counted) ∙ sym (count_more c before row lines (Chars text) f h);
      few = few;
    }

swapped : (a b : Bool) → (a || (b || false)) ≡ (b || a)
swapped true true = refl
swapped true false = refl
swapped false true = refl
swapped false false = refl

-- one more name in a start tag
any_more : (p : Expanded → Bool) (seen : List Expanded) (x : Expanded) → list_any p (seen ++ x ∷ []) ≡ (p x || list_any p seen)
any_more p seen x = list_any-append p seen (x ∷ []) ∙ swapped (list_any p seen) (p x)

same_more : (seen : List Expanded) (names : List ExpandedName) (x : Expanded) → SameNames seen names → SameNames (seen ++ x ∷ []) (reported x ∷ names)
same_more seen names x h y = any_more (same_name y) seen x ∙ ap (λ b. same_name y x || b) (h y)

tag_more : (os : List Opened) (seen : List Expanded) (x : Expanded) (row : Row) (before : List Row) (name value : List ℕ)
    → reading row ≡ says (Attr name value) → name_as (scope_of os) name ≡ Some (reported x) → SameNames seen (names_at (scope_of os) before) →
    SameTag (Some (seen ++ x ∷ [])) (follows_tag (row ∷ before)) (names_at (scope_of os) (row ∷ before))
tag_more os seen x row before name value h named same =
    let attribute : is_attribute_row row ≡ true = begins row (Attr name value) h in (
      ap (λ b. begins_with 40 row.bytes || b) attribute
          ∙ or_true (begins_with 40 row.bytes),
      rw (names_more (scope_of os) row before name value (reported x) h named)
          (same_more seen (names_at (scope_of os) before) x same),
    )

no_names : (scope : Bindings) (row : Row) (before : List Row) (name : List ℕ) → reading row ≡ says (Start name) → SameNames [] (names_at scope (row ∷ before))
no_names scope row before name h = rw (names_none scope row before (no_attribute row (Start name) refl h)) (λ x. refl)

-- in a start tag no text stands before
tag_quiet : (before : List Row) → follows_tag before ≡ true → text_ahead before ≡ []
tag_quiet [] h = cc
tag_quiet (row ∷ before) h = text_ahead_none row before (tag_no_text row.bytes h)

-- behind a declaration or an attribute
pub fits_named : (c d : Context) (seen : List Expanded) (x : Expanded) (added : ℕ) (before : List Row) (row : Row) (lines : List Row) (name value : List ℕ)
    → Fits c before (row ∷ lines) → reading row ≡ says (Attr name value) → c.tag ≡ Some seen →
    d ≡ record { around = c.around; begun = c.begun; tag = Some (seen ++ x ∷ []); in_text = c.in_text; nodes = c.nodes + added } →
    name_as (scope_of c.around) name ≡ Some (reported x) → count_in c before lines (Attr name value) ≡ added → nat_le (c.nodes + added) most_nodes ≡ true
    → Fits d (row ∷ before) lines
fits_named c d seen x added before row lines name value f h tagged like named counted few =
    let is : nesting row ≡ neither = rw h refl in
    let had : SameTag (Some seen) (follows_tag before) (names_at (scope_of c.around) before) =
    subst (λ t. SameTag t (follows_tag before) (names_at (scope_of c.around) before)) tagged f.tag in
    let still_quiet : c.in_text ≡ false = f.in_text ∙ ap (λ t. is_some (name_of c.around) && not (is_empty t)) (tag_quiet before had.0)
    ∙ and_false (is_some (name_of c.around)) in
    let not_text : is_text_row row ≡ false = no_text row (Attr name value) refl h in
    rw like record {
      opens = opens_neither c.around row before lines is f.opens;
      begun = rw is f.begun;
      tag = tag_more c.around seen x row before name value h named had.1;
      in_text = still_quiet ∙ quiet_after row c.around before (inr not_text);
      count = ap (λ n. c.nodes + n) (sym counted) ∙ sym (count_more c before row lines (Attr name value) f h);
      few = few;
    }

-- behind the start of an element
pub fits_start : (c : Context) (before : List Row) (row : Row) (lines : List Row) (name : List ℕ) (full : Name) →
    let scope = scope_with (declarations lines) (scope_of c.around) in
    Fits c before (row ∷ lines) → reading row ≡ says (Start name) → start_name scope name ≡ Some full
    → nat_le (c.nodes + length (element full (innermost c.around) ∷ spaces c.nodes scope)) most_nodes ≡ true →
    Fits (inside_of c name scope) (row ∷ before) lines
fits_start c before row lines name full f h named few =
    let scope = scope_with (declarations lines) (scope_of c.around) in
    let o : Opened = record { name = name; node = c.nodes; scope = scope } in
    let is : nesting row ≡ starts name = rw h refl in
    let counted : c.nodes + 1 + length scope ≡ c.nodes + length (element full (innermost c.around) ∷ spaces c.nodes scope) =
    omega (arith, length-map scope (space c.nodes)) in
    let given : count_in c before lines (Start name) ≡ length (element full 0 ∷ spaces 0 scope) = rw named refl in
    let same : length (element full 0 ∷ spaces 0 scope) ≡ length (element full (innermost c.around) ∷ spaces c.nodes scope) =
    omega (arith, length-map scope (space c.nodes), length-map scope (space 0)) in
    record {
      opens = opens_starts name o c.around row before lines is refl f.count refl f.opens;
      begun = rw is refl;
      tag = (rw (begins row (Start name) h) refl, no_names scope row before name h);
      in_text = quiet_after row (o ∷ c.around) before (inr (no_text row (Start name) refl h));
      count = counted ∙ ap (λ n. c.nodes + n) (sym (given ∙ same)) ∙ sym (count_more c before row lines (Start name) f h);
      few = ap (λ n. nat_le n most_nodes) counted ∙ few;
    }
