-- How an element starts and ends, part by part.
use Rattle.std.proofs.Common.{◌≡◌, ℕ, ◌+◌, ◌<◌, ◌≤◌, List, [], ◌∷◌, ◌++◌, Some, Result, Ok, Err, true, false, refl, sym, ◌∙◌, ap, length, map, reverse}
use Rattle.std.proofs.Common.{append_assoc, arith}
use Rattle.std.specs.Prelude.{nat_le}
use Rattle.std.specs.List.{range_with_len}
use Rattle.std.proofs.lemmas.Bool.Decides.{nat_tests}
use Rattle.std.proofs.lemmas.List.{length-map, reverse-append}
use Rattle.std.proofs.lemmas.Simd.{map-map}
use Rattle.std.proofs.lemmas.List.FromFn.{map-range_with_len_more}
use Rattle.xs_tree.specs.Record.{Record}
use Rattle.xs_tree.specs.declared.names.Name.{Name}
use Rattle.xs_build.specs.declared.tag_names.Expanded.{Expanded}
use Rattle.xs_build.specs.declared.fault.BuildFault.{BuildFault}
use Rattle.xs_build.specs.declared.fault.BuildFault.TheVariants.{Bad, NoMemory}
use Rattle.xs_build.specs.declared.opened.Opened.{Opened}
use Rattle.xs_build.specs.Faults.{too_large}
use Rattle.xs_tree.specs.Limits.{most_nodes}
use Rattle.xs_build.specs.Namespaces.{Bindings}
use Rattle.xs_build.specs.steps.Lines.{innermost, with_element, named_start}
use Rattle.xs_build.specs.Nodes.{element, space, spaces}
use Rattle.xs_build.specs.steps.State.{Names, entered, State, stops, goes, context, ended, placed, moved, Steps}
use Rattle.xs_build.specs.steps.Invariant.{IsGood}

-- the exit where the element has no name
pub exit_name : (e : BuildFault) (r : Result (Unit {0}) BuildFault) (s t : State) (name : List ℕ) (scope : Bindings) → Names (Err e) scope name s.line
    → r ≡ Err e → Steps r (moved s (named_start (context s) name scope)) t
exit_name (Bad number at) r s t name scope h is = rw is (ap (moved s) (h.0 (with_element (context s) name scope)) ∙ ap (λ n. stops number n) (sym h.1))
exit_name NoMemory r s t name scope h is = rw is tt

counted : (n : ℕ) (scope : Bindings) (full : Name) (p : ℕ) → n + length (element full p ∷ spaces n scope) ≡ n + length scope + 1
counted n scope full p = omega (arith, length-map scope (space n))

too_many : (n : ℕ) → most_nodes ≤ n → nat_le (n + 1) most_nodes ≡ false
too_many n h = grind (arith, nat_tests)

few_enough : (n : ℕ) → n < most_nodes → nat_le (n + 1) most_nodes ≡ true
few_enough n h = grind (arith, nat_tests)

-- the exit where there is no room
pub start_too_large : (s : State) (name : List ℕ) (scope : Bindings) (full : Name) → Names (Ok full) scope name s.line
    → most_nodes ≤ length s.lines + length scope → moved s (named_start (context s) name scope) ≡ stops too_large s.line
start_too_large s name scope full h many =
    let no : nat_le (length s.lines + length (element full (innermost s.around) ∷ spaces (length s.lines) scope)) most_nodes ≡ false =
    ap (λ n. nat_le n most_nodes) (counted (length s.lines) scope full (innermost s.around)) ∙ too_many (length s.lines + length scope) many in
    ap (moved s) (h (with_element (context s) name scope)) ∙ rw no refl

lines_of_spaces : (line n : ℕ) (scope : Bindings) → map (λ (_ : Record). line) (spaces n scope) ≡ map (λ _. line) scope
lines_of_spaces line n scope = map-map (λ (_ : Record). line) (space n) scope

placed_is : (s : State) (name : List ℕ) (scope : Bindings) (full : Name) → placed (ended s) (element full (innermost s.around) ∷ spaces (length s.lines) scope)
    (record {
      around = record { name = name; node = length s.lines; scope = scope } ∷ s.around;
      begun = true;
      tag = Some [];
      in_text = false;
      nodes = length s.lines + 1 + length scope;
    })
    ≡ entered s name full scope
unfolding entered
placed_is s name scope full = ap (λ ls. record (entered s name full scope) { lines = s.lines ++ s.line ∷ ls }) (lines_of_spaces s.line (length s.lines) scope)

-- the element that starts
pub start_enters : (s : State) (name : List ℕ) (scope : Bindings) (full : Name) → Names (Ok full) scope name s.line
    → length s.lines + length scope < most_nodes → moved s (named_start (context s) name scope) ≡ goes (entered s name full scope)
start_enters s name scope full h few =
    let yes : nat_le (length s.lines + length (element full (innermost s.around) ∷ spaces (length s.lines) scope)) most_nodes ≡ true =
    ap (λ n. nat_le n most_nodes) (counted (length s.lines) scope full (innermost s.around)) ∙ few_enough (length s.lines + length scope) few in
    ap (moved s) (h (with_element (context s) name scope)) ∙ rw yes (ap goes (placed_is s name scope full))

-- as many lines as there are bindings
lines_of_count : (line : ℕ) (from : ℕ) (scope : Bindings) → map (λ (_ : ℕ). line) (range_with_len from (length scope)) ≡ map (λ _. line) scope
lines_of_count line from [] = refl
lines_of_count line from (b ∷ bs) = ap (λ ls. line ∷ ls) (lines_of_count line (from + 1) bs)

-- one line more
pub more_lines : (old : List ℕ) (line count : ℕ) (now next : List ℕ) → now ≡ old ++ map (λ _. line) (range_with_len 0 count) → next ≡ now ++ line ∷ []
    → next ≡ old ++ map (λ _. line) (range_with_len 0 (count + 1))
more_lines old line count now next h e =
    e ∙ ap (λ ls. ls ++ line ∷ []) h ∙ append_assoc old (map (λ _. line) (range_with_len 0 count)) (line ∷ [])
    ∙ ap (λ ls. old ++ ls) (sym (map-range_with_len_more (λ _. line) 0 count count (omega arith)))

-- the innermost element stands last in the code, and first here
pub opened_last : (os now : List Opened) (o : Opened) → now ≡ os ++ o ∷ [] → reverse now ≡ o ∷ reverse os
opened_last os now o e = ap reverse e ∙ reverse-append os (o ∷ [])

-- the state in which the element was entered
pub entered_is : (s : State) (name : List ℕ) (full : Name) (scope : Bindings) (u : State) (node count : ℕ) (tree : List Record) (one lines : List ℕ)
    (around : List Opened) (seen : List Expanded) →
    IsGood s → u ≡ ended s → tree ≡ u.records ++ element full (innermost u.around) ∷ spaces (length u.records) scope → node ≡ length u.records →
    one ≡ u.lines ++ u.line ∷ [] → lines ≡ one ++ map (λ _. u.line) (range_with_len 0 count) → count ≡ length scope →
    around ≡ record { name = name; node = node; scope = scope } ∷ u.around → seen ≡ [] →
    record { records = tree; lines = lines; text = u.text; around = around; begun = true; tag = Some seen; line = u.line } ≡ entered s name full scope
unfolding entered
entered_is s name full scope u node count tree one lines around seen g is put at_node pushed rest many opened quiet =
    let here : length u.records ≡ length s.lines = ap (λ (x : State). length x.records) is ∙ g.counted in
    let records_is : tree ≡ (ended s).records ++ element full (innermost s.around) ∷ spaces (length s.lines) scope =
    put ∙ ap (λ n. u.records ++ element full (innermost u.around) ∷ spaces n scope) here
    ∙ ap (λ (x : State). x.records ++ element full (innermost x.around) ∷ spaces (length s.lines) scope) is in
    let lines_is : lines ≡ s.lines ++ s.line ∷ map (λ _. s.line) scope =
    rest ∙ ap (λ ls. ls ++ map (λ _. u.line) (range_with_len 0 count)) pushed
    ∙ append_assoc u.lines (u.line ∷ []) (map (λ _. u.line) (range_with_len 0 count))
    ∙ ap (λ n. u.lines ++ u.line ∷ map (λ _. u.line) (range_with_len 0 n)) many
    ∙ ap (λ ls. u.lines ++ u.line ∷ ls) (lines_of_count u.line 0 scope)
    ∙ ap (λ (x : State). x.lines ++ x.line ∷ map (λ _. x.line) scope) is in
    let context_is : around ≡ record { name = name; node = length s.lines; scope = scope } ∷ s.around =
    opened ∙ ap (λ n. record { name = name; node = n; scope = scope } ∷ u.around) (at_node ∙ here)
    ∙ ap (λ (x : State). record { name = name; node = length s.lines; scope = scope } ∷ x.around) is in
    ap (λ t. record { records = t; lines = lines; text = u.text; around = around; begun = true; tag = Some seen; line = u.line }) records_is
    ∙ ap (λ t. record (entered s name full scope) { lines = t; text = u.text; around = around; tag = Some seen; line = u.line }) lines_is
    ∙ ap (λ t. record (entered s name full scope) { text = u.text; around = t; tag = Some seen; line = u.line }) context_is
    ∙ ap (λ t. record (entered s name full scope) { text = u.text; tag = Some t; line = u.line }) quiet
    ∙ ap (λ (x : State). record (entered s name full scope) { text = x.text; line = x.line }) is
