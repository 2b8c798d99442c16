-- Each line leaves the builder in good order.
use Rattle.std.proofs.Common.{◌≡◌, ℕ, ◌+◌, ◌≤◌, List, [], ◌∷◌, ◌++◌, Option, None, Some, Bool, true, false, refl, sym, ◌∙◌, ap, subst, length, map, inl, inr}
use Rattle.std.proofs.Common.{append_assoc, length-append, arith}
use Rattle.std.specs.Prelude.{IsSome, not, ◌&&◌, ◌||◌, ◌==◌, nat_le, if◌then◌else◌}
use Rattle.std.specs.List.{list_any}
use Rattle.std.specs.Str.{bytes_eq}
use Rattle.std.proofs.lemmas.Bool.{cases_Bool}
use Rattle.std.proofs.lemmas.Bool.Decides.{nat_tests}
use Rattle.std.proofs.lemmas.List.{length-map}
use Rattle.xs_pyx.specs.Row.{Row}
use Rattle.xs_pyx.specs.declared.line.Line.{Line}
use Rattle.xs_pyx.specs.declared.line.Line.TheVariants.{Start, Attr, Chars, End, Pi, Comment}
use Rattle.xs_tree.specs.Record.{Record}
use Rattle.xs_tree.specs.Kinds.{rank}
use Rattle.xs_tree.specs.Shape.{KeepsOrder}
use Rattle.xs_tree.specs.declared.kinds.Kind.TheVariants.{Attribute}
use Rattle.xs_tree.specs.declared.names.Name.{Name}
use Rattle.xs_tree.proofs.ShapeLemmas.{length-added, KeepsOrder-added}
use Rattle.xs_build.specs.declared.tag_names.Expanded.{Expanded}
use Rattle.xs_build.specs.declared.opened.Opened.{Opened}
use Rattle.xs_build.specs.Faults.{bad_line, unbalanced, bad_name, unbound_prefix, double_attribute, bad_namespace, too_large}
use Rattle.xs_tree.specs.Limits.{most_nodes}
use Rattle.xs_build.specs.Namespaces.{QName, is_empty, is_ncname, is_bad_binding, qname_of, element_name, attribute_name, declared_prefix, scope_with, is_xml}
use Rattle.xs_build.specs.steps.Lines.{expanded, Context, innermost, scope_of, Step, bad, gives, rule, needs, adds, past, with_name, same_name}
use Rattle.xs_build.specs.steps.Lines.{declaration_name, start_step, declaration_step, plain_step, written_step, attribute_step, close, end_step}
use Rattle.xs_build.specs.steps.Lines.{instruction_step, comment_step}
use Rattle.xs_build.specs.Start.{declarations}
use Rattle.xs_build.specs.Nodes.{element, attribute, spaces, text_node, comment, instruction}
use Rattle.xs_text.specs.WhiteSpace.{is_blank}
use Rattle.xs_build.specs.steps.State.{State, Next, stops, goes, context, with_text_node, ended, placed, taken, moved, spoken_outside, spoken_first}
use Rattle.xs_build.specs.steps.State.{spoken_inside, spoken, stepped, next_line}
use Rattle.xs_build.specs.steps.Invariant.{StandFrom, IsWell, IsGood}
use Rattle.xs_build.proofs.RestStepLemmas.{ended_is}
use Rattle.xs_build.proofs.NodeRunLemmas.{stand_last}
use Rattle.xs_build.proofs.OpenElementLemmas.{well_added, well_text, well_left, well_entered, well_spaced, order_entered, well_spaces, order_spaces}

abbrev pub GoodNext : Next → Type 0
GoodNext (stops number line) = Unit {0}
GoodNext (goes s) = IsGood s

abbrev GoodStep : State → Step → Type 0
GoodStep s (bad number) = Unit {0}
GoodStep s (gives nodes d) = IsGood (placed s nodes d)

order_ended : (rs : List Record) (p : ℕ) (text : List ℕ) → text ≡ [] → KeepsOrder rs p Attribute → KeepsOrder (with_text_node rs p text) p Attribute
order_ended rs p text is k = rw is k

pub good_ended : (s : State) → IsGood s → IsGood (ended s)
good_ended s g = record {
  well = well_text s.records s.around s.text g.well;
  counted = g.counted;
  few = g.few;
  outside = λ _. refl;
  fresh = λ is. record {
    quiet = refl;
    within = (g.fresh is).within;
    order = order_ended s.records (innermost s.around) s.text (g.fresh is).quiet (g.fresh is).order;
  };
  counting = g.counting;
}

good_none : (s : State) (around : List Opened) (begun quiet : Bool) (n : ℕ) → IsGood s → IsWell (ended s).records around
    → IsGood (placed (ended s) [] (record { around = around; begun = begun; tag = None; in_text = quiet; nodes = n }))
good_none s around begun quiet n g w = record {
  well = w;
  counted = g.counted;
  few = g.few;
  outside = λ _. refl;
  fresh = λ is. cc;
  counting = g.counting;
}

few_added : (ls : List ℕ) (line : ℕ) → length ls + 1 ≤ most_nodes → length (ls ++ line ∷ []) ≤ most_nodes
few_added ls line h = omega (arith, length-append ls (line ∷ []))

counted_added : (rs : List Record) (r : Record) (ls : List ℕ) (line : ℕ) → length rs ≡ length ls → length (rs ++ r ∷ []) ≡ length (ls ++ line ∷ [])
counted_added rs r ls line h = omega (arith, length-append ls (line ∷ []), length-append rs (r ∷ []))

good_one : (s : State) (r : Record) (begun quiet : Bool) (n : ℕ) → IsGood s → r.parent ≡ Some (innermost s.around) → length s.lines + 1 ≤ most_nodes
    → IsGood (placed (ended s) (r ∷ []) (record { around = s.around; begun = begun; tag = None; in_text = quiet; nodes = n }))
good_one s r begun quiet n g is room = record {
  well = well_added (ended s).records s.around r (good_ended s g).well is;
  counted = counted_added (ended s).records r s.lines s.line g.counted;
  few = few_added s.lines s.line room;
  outside = λ _. refl;
  fresh = λ is. cc;
  counting = g.counting;
}

good_attribute_node : (s : State) (r : Record) (begun quiet : Bool) (n : ℕ) (tag : Option (List Expanded)) → IsGood s → IsSome s.tag
    → r.parent ≡ Some (innermost s.around) → rank r.kind ≤ 1 → length s.lines + 1 ≤ most_nodes
    → IsGood (placed (ended s) (r ∷ []) (record { around = s.around; begun = begun; tag = tag; in_text = quiet; nodes = n }))
good_attribute_node s r begun quiet n tag g some is low room = record {
  well = well_added (ended s).records s.around r (good_ended s g).well is;
  counted = counted_added (ended s).records r s.lines s.line g.counted;
  few = few_added s.lines s.line room;
  outside = λ _. refl;
  fresh = λ _. record {
    quiet = refl;
    within = (g.fresh some).within;
    order = KeepsOrder-added (ended s).records r (innermost s.around) Attribute ((good_ended s g).fresh some).order low;
  };
  counting = g.counting;
}

good_declared : (s : State) (begun quiet : Bool) (n : ℕ) (tag : Option (List Expanded)) → IsGood s → IsSome s.tag
    → IsGood (placed (ended s) [] (record { around = s.around; begun = begun; tag = tag; in_text = quiet; nodes = n }))
good_declared s begun quiet n tag g some = record {
  well = (good_ended s g).well;
  counted = g.counted;
  few = g.few;
  outside = λ _. refl;
  fresh = λ _. record { quiet = refl; within = (g.fresh some).within; order = ((good_ended s g).fresh some).order };
  counting = g.counting;
}

few_entered : (ls : List ℕ) (line : ℕ) (nodes : List Record) (r : Record) → length ls + length (r ∷ nodes) ≤ most_nodes
    → length (ls ++ line ∷ map (λ _. line) nodes) ≤ most_nodes
few_entered ls line nodes r h = omega (arith, h, length-append ls (line ∷ map (λ _. line) nodes), length-map nodes (λ (_ : Record). line))

counted_entered : (rs nodes : List Record) (r : Record) (ls : List ℕ) (line : ℕ) → length rs ≡ length ls
    → length (rs ++ r ∷ nodes) ≡ length (ls ++ line ∷ map (λ _. line) nodes)
counted_entered rs nodes r ls line h = omega
    (arith, h, length-append rs (r ∷ nodes), length-append ls (line ∷ map (λ _. line) nodes), length-map nodes (λ (_ : Record). line))

well_start : (rs : List Record) (os : List Opened) (full : Name) (o : Opened) → IsWell rs os → o.node ≡ length rs
    → IsWell (rs ++ element full (innermost os) ∷ spaces o.node o.scope) (o ∷ os)
well_start rs os full o w is =
    let front = rs ++ element full (innermost os) ∷ [] in
    let bare : Opened = record o { scope = [] } in
    let h : IsWell (front ++ spaces o.node o.scope) (bare ∷ os) = well_spaces o.scope front bare os (well_entered rs os full bare refl w is) in
    let stand : StandFrom (front ++ spaces o.node o.scope) (o.node + 1) (spaces o.node o.scope) =
    stand_last front (o.node + 1) (spaces o.node o.scope) (omega (arith, length-added rs (element full (innermost os)), is)) in
    let e : front ++ spaces o.node o.scope ≡ rs ++ element full (innermost os) ∷ spaces o.node o.scope =
    append_assoc rs (element full (innermost os) ∷ []) (spaces o.node o.scope) in
    subst (λ t. IsWell t (o ∷ os)) e (well_spaced (front ++ spaces o.node o.scope) o os h stand)

order_start : (rs : List Record) (os : List Opened) (full : Name) (o : Opened) → o.node ≡ length rs
    → KeepsOrder (rs ++ element full (innermost os) ∷ spaces o.node o.scope) o.node Attribute
order_start rs os full o is =
    let k : KeepsOrder (rs ++ element full (innermost os) ∷ []) o.node Attribute = rw is (order_entered rs os full) in
    let h : KeepsOrder ((rs ++ element full (innermost os) ∷ []) ++ spaces o.node o.scope) o.node Attribute =
    order_spaces o.scope (rs ++ element full (innermost os) ∷ []) o.node k in
    let e : (rs ++ element full (innermost os) ∷ []) ++ spaces o.node o.scope ≡ rs ++ element full (innermost os) ∷ spaces o.node o.scope =
    append_assoc rs (element full (innermost os) ∷ []) (spaces o.node o.scope) in
    rw (← e) h

good_entered : (s : State) (full : Name) (o : Opened) (begun quiet : Bool) (n : ℕ) (seen : List Expanded) → IsGood s → o.node ≡ length s.lines
    → length s.lines + length (element full (innermost s.around) ∷ spaces o.node o.scope) ≤ most_nodes →
    IsGood (placed (ended s) (element full (innermost s.around) ∷ spaces o.node o.scope) (record {
      around = o ∷ s.around;
      begun = begun;
      tag = Some seen;
      in_text = quiet;
      nodes = n;
    }))
good_entered s full o begun quiet n seen g is room =
    let node : o.node ≡ length (ended s).records = is ∙ sym g.counted in
    record {
      well = well_start (ended s).records s.around full o (good_ended s g).well node;
      counted = counted_entered (ended s).records (spaces o.node o.scope) (element full (innermost s.around)) s.lines s.line g.counted;
      few = few_entered s.lines s.line (spaces o.node o.scope) (element full (innermost s.around)) room;
      outside = λ _. refl;
      fresh = λ _. record { quiet = refl; within = omega arith; order = order_start (ended s).records s.around full o node };
      counting = g.counting;
    }

good_rule : (s : State) (b : Bool) (number : ℕ) (step : Step) → GoodStep s step → GoodStep s (rule b number step)
good_rule s true number step g = g
good_rule s false number step g = tt

good_needs : {X : Type 0} (s : State) (o : Option X) (number : ℕ) (next : X → Step) → ((x : X) → GoodStep s (next x)) → GoodStep s (needs o number next)
good_needs s None number next g = tt
good_needs s (Some x) number next g = g x

good_if : (s : State) (b : Bool) (x y : Step) → GoodStep s x → GoodStep s y → GoodStep s (if b then x else y)
good_if s true x y f g = f
good_if s false x y f g = g

room : (n : ℕ) → nat_le n most_nodes ≡ true → n ≤ most_nodes
room n t = grind (arith, nat_tests)

good_adds : (s : State) (c : Context) (nodes : List Record) (d : Context) → (c.nodes + length nodes ≤ most_nodes → IsGood (placed s nodes d))
    → GoodStep s (adds c nodes d)
good_adds s c nodes d g =
    elim (cases_Bool (nat_le (c.nodes + length nodes) most_nodes)) [
      | inl t ↦ rw t (g (room (c.nodes + length nodes) t))
      | inr f ↦ rw f tt
    ]

good_start : (s : State) (name : List ℕ) (rows : List Row) → IsGood s → GoodStep (ended s) (start_step (context s) name rows)
unfolding start_step
good_start s name rows g =
    let c = context s in
    let scope = scope_with (declarations rows) (scope_of c.around) in
    let o : Opened = record { name = name; node = c.nodes; scope = scope } in
    let d : Context = record { around = o ∷ c.around; begun = true; tag = Some []; in_text = false; nodes = c.nodes + 1 + length scope } in
    let K : Name → Step = λ full. adds c (element full (innermost c.around) ∷ spaces c.nodes scope) d in
    good_rule (ended s) (not c.begun || not (is_empty c.around)) unbalanced
    (needs (qname_of name) bad_name (λ w. needs (element_name scope w) unbound_prefix K))
    (good_needs (ended s) (qname_of name) bad_name (λ w. needs (element_name scope w) unbound_prefix K) (λ w.
    good_needs (ended s) (element_name scope w) unbound_prefix K (λ full.
    good_adds (ended s) c (element full (innermost c.around) ∷ spaces c.nodes scope) d
    (good_entered s full o true false (c.nodes + 1 + length scope) [] g refl))))

good_declaration : (s : State) (seen : List Expanded) (value prefix : List ℕ) → IsGood s → IsSome s.tag
    → GoodStep (ended s) (declaration_step (context s) seen value prefix)
unfolding declaration_step
good_declaration s seen value prefix g some =
    let c = context s in
    let d : Context = record c { tag = Some (seen ++ declaration_name prefix ∷ []) } in
    good_rule (ended s) (not (list_any (same_name (declaration_name prefix)) seen)) double_attribute
    (rule (not (is_bad_binding prefix value)) bad_namespace (gives [] d))
    (good_rule (ended s) (not (is_bad_binding prefix value)) bad_namespace (gives [] d)
    (good_declared s s.begun (not (is_empty s.text)) (length s.lines) (Some (seen ++ declaration_name prefix ∷ [])) g some))

good_plain : (s : State) (seen : List Expanded) (value : List ℕ) (w : QName) → IsGood s → IsSome s.tag
    → GoodStep (ended s) (plain_step (context s) seen value w)
unfolding plain_step
good_plain s seen value w g some =
    let c = context s in
    let D : Name → Context = λ name. record c { tag = Some (seen ++ expanded name ∷ []); nodes = c.nodes + 1 } in
    let K : Name → Step = λ name. with_name seen (expanded name) (adds c (attribute name value (innermost c.around) ∷ []) (D name)) in
    good_needs (ended s) (attribute_name (scope_of c.around) w) unbound_prefix K (λ name.
    good_rule (ended s) (not (list_any (same_name (expanded name)) seen)) double_attribute (adds c (attribute name value (innermost c.around) ∷ []) (D name))
    (good_adds (ended s) c (attribute name value (innermost c.around) ∷ []) (D name) (λ few.
    good_attribute_node s (attribute name value (innermost c.around)) s.begun (not (is_empty s.text)) (c.nodes + 1)
    (Some (seen ++ expanded name ∷ [])) g some refl (omega arith) few)))

good_written : (s : State) (seen : List Expanded) (value : List ℕ) (w : QName) (declared : Option (List ℕ)) → IsGood s → IsSome s.tag
    → GoodStep (ended s) (written_step (context s) seen value w declared)
good_written s seen value w None g some = good_plain s seen value w g some
good_written s seen value w (Some prefix) g some = good_declaration s seen value prefix g some

good_known : {X : Type 0} (s : State) (o : Option X) (number : ℕ) (next : X → Step) → ((x : X) → IsSome o → GoodStep s (next x))
    → GoodStep s (needs o number next)
good_known s None number next g = tt
good_known s (Some x) number next g = g x refl

good_attribute : (s : State) (name value : List ℕ) → IsGood s → GoodStep s (attribute_step (context s) name value)
unfolding attribute_step
good_attribute s name value g =
    let W : List Expanded → QName → Step = λ seen w. written_step (context s) seen value w (declared_prefix w) in
    good_known s s.tag bad_line (λ seen. needs (qname_of name) bad_name (W seen)) (λ seen some.
    let h : GoodStep (ended s) (needs (qname_of name) bad_name (W seen)) =
    good_needs (ended s) (qname_of name) bad_name (W seen) (λ w. good_written s seen value w (declared_prefix w) g some) in
    subst (λ t. GoodStep t (needs (qname_of name) bad_name (W seen))) (ended_is s (g.fresh some).quiet) h)

good_close : (s : State) (os : List Opened) (name : List ℕ) → IsGood s → IsWell (ended s).records os → GoodStep (ended s) (close (context s) os name)
good_close s [] name g w = tt
good_close s (o ∷ os) name g w = good_rule (ended s) (bytes_eq o.name name) unbalanced (gives [] (past (context s) os 0))
    (good_none s os s.begun false (length s.lines + 0) g (well_left (ended s).records (o ∷ os) w))

good_end : (s : State) (name : List ℕ) → IsGood s → GoodStep (ended s) (end_step (context s) name)
unfolding end_step
good_end s name g = good_close s s.around name g (good_ended s g).well

good_instruction : (s : State) (line : ℕ) (target text : List ℕ) → IsGood s → GoodStep (ended s) (instruction_step (context s) line target text)
unfolding instruction_step
good_instruction s line target text g =
    let c = context s in
    let r = instruction target text (innermost c.around) in
    good_if (ended s) (line == 1 && is_xml target) (gives [] (past c c.around 0))
    (rule (is_ncname target && not (is_xml target)) bad_name (adds c (r ∷ []) (past c c.around 1)))
    (good_none s s.around s.begun false (length s.lines + 0) g (good_ended s g).well)
    (good_rule (ended s) (is_ncname target && not (is_xml target)) bad_name (adds c (r ∷ []) (past c c.around 1))
    (good_adds (ended s) c (r ∷ []) (past c c.around 1) (good_one s r s.begun false (length s.lines + 1) g refl)))

good_comment : (s : State) (text : List ℕ) → IsGood s → GoodStep (ended s) (comment_step (context s) text)
unfolding comment_step
good_comment s text g =
    let c = context s in
    let r = comment text (innermost c.around) in
    good_adds (ended s) c (r ∷ []) (past c c.around 1) (good_one s r s.begun false (length s.lines + 1) g refl)

good_moved : (s : State) (step : Step) → GoodStep (ended s) step → GoodNext (moved s step)
good_moved s (bad number) g = tt
good_moved s (gives nodes d) g = g

good_taken : (s : State) (step : Step) → GoodStep s step → GoodNext (taken s step)
good_taken s (bad number) g = tt
good_taken s (gives nodes d) g = g

good_untagged : (s : State) → IsGood s → IsGood (record s { tag = None })
good_untagged s g = record { well = g.well; counted = g.counted; few = g.few; outside = g.outside; fresh = λ is. cc; counting = g.counting }

good_outside : (s : State) (text : List ℕ) → IsGood s → GoodNext (spoken_outside s text)
good_outside s text g =
    elim (cases_Bool (is_blank text)) [
      | inl t ↦ rw t (good_untagged s g)
      | inr f ↦ rw f tt
    ]

first_is : (s : State) (b : ℕ) (text : List ℕ) → s.text ≡ [] → is_empty s.around ≡ false → IsGood s → length s.lines + 1 ≤ most_nodes
    → IsGood (record s { lines = s.lines ++ s.line ∷ []; text = b ∷ text; tag = None })
first_is s b text quiet in_o g few = record {
  well = g.well;
  counted = counted_added s.records (text_node (b ∷ text) (innermost s.around)) s.lines s.line
      (ap (λ t. length (with_text_node s.records (innermost s.around) t)) (sym quiet) ∙ g.counted);
  few = few_added s.lines s.line few;
  outside = λ e. (let no : false ≡ true = sym in_o ∙ ap is_empty e in cc);
  fresh = λ is. cc;
  counting = g.counting;
}

good_first : (s : State) (b : ℕ) (text : List ℕ) → s.text ≡ [] → is_empty s.around ≡ false → IsGood s → GoodNext (spoken_first s (b ∷ text))
good_first s b text quiet in_o g =
    elim (cases_Bool (nat_le (length s.lines + 1) most_nodes)) [
      | inl t ↦ rw t (first_is s b text quiet in_o g (room (length s.lines + 1) t))
      | inr f ↦ rw f tt
    ]

counted_more : (rs : List Record) (p : ℕ) (b : ℕ) (before text : List ℕ)
    → length (with_text_node rs p (b ∷ (before ++ text))) ≡ length (with_text_node rs p (b ∷ before))
counted_more rs p b before text = length-append rs (text_node (b ∷ (before ++ text)) p ∷ []) ∙ sym (length-append rs (text_node (b ∷ before) p ∷ []))

good_more : (s : State) (b : ℕ) (before text : List ℕ) → s.text ≡ b ∷ before → IsGood s → IsGood (record s { text = s.text ++ text; tag = None })
good_more s b before text is g = record {
  well = g.well;
  counted = ap (λ t. length (with_text_node s.records (innermost s.around) (t ++ text))) is ∙ counted_more s.records (innermost s.around) b before text
      ∙ ap (λ t. length (with_text_node s.records (innermost s.around) t)) (sym is) ∙ g.counted;
  few = g.few;
  outside = λ e. (let no : s.text ≡ [] = g.outside e in cc);
  fresh = λ is. cc;
  counting = g.counting;
}

good_inside : (s : State) (before text : List ℕ) → s.text ≡ before → is_empty s.around ≡ false → IsGood s → GoodNext (spoken_inside s text)
good_inside s [] [] is in_o g = rw is (subst (λ t. IsGood (record s { text = t; tag = None })) is (good_untagged s g))
good_inside s [] (b ∷ text) is in_o g = rw is (good_first s b text is in_o g)
good_inside s (b ∷ before) text is in_o g = rw is (subst (λ t. IsGood (record s { text = t ++ text; tag = None })) is (good_more s b before text is g))

good_spoken : (s : State) (text : List ℕ) → IsGood s → GoodNext (spoken s text)
unfolding spoken
good_spoken s text g =
    elim (cases_Bool (is_empty s.around)) [
      | inl t ↦ rw t (good_outside s text g)
      | inr f ↦ rw f (good_inside s s.text text refl f g)
    ]

-- what each line leaves is in order
pub good_line : (s : State) (line : Line) (rows : List Row) → IsGood s → GoodNext (stepped s line rows)
good_line s (Start name) rows g = good_moved s (start_step (context s) name rows) (good_start s name rows g)
good_line s (Attr name value) rows g = good_taken s (attribute_step (context s) name value) (good_attribute s name value g)
good_line s (Chars text) rows g = good_spoken s text g
good_line s (End name) rows g = good_moved s (end_step (context s) name) (good_end s name g)
good_line s (Pi target value) rows g = good_moved s (instruction_step (context s) s.line target value) (good_instruction s s.line target value g)
good_line s (Comment text) rows g = good_moved s (comment_step (context s) text) (good_comment s text g)

pub good_next : (s : State) → IsGood s → IsGood (next_line s)
good_next s g = record {
  well = g.well;
  counted = g.counted;
  few = g.few;
  outside = g.outside;
  fresh = λ is. record { quiet = (g.fresh is).quiet; within = (g.fresh is).within; order = (g.fresh is).order };
  counting = omega arith;
}

-- a line leaves the number of the line
abbrev SameLine : ℕ → Next → Type 0
SameLine line (stops number at) = Unit {0}
SameLine line (goes s) = s.line ≡ line

same_moved : (s : State) (step : Step) → SameLine s.line (moved s step)
same_moved s (bad number) = tt
same_moved s (gives nodes d) = refl

same_taken : (s : State) (step : Step) → SameLine s.line (taken s step)
same_taken s (bad number) = tt
same_taken s (gives nodes d) = refl

same_if : (line : ℕ) (b : Bool) (x y : Next) → SameLine line x → SameLine line y → SameLine line (if b then x else y)
same_if line true x y f g = f
same_if line false x y f g = g

same_spoken : (s : State) (text : List ℕ) → SameLine s.line (spoken s text)
unfolding spoken
same_spoken s text =
    same_if s.line (is_empty s.around) (spoken_outside s text) (spoken_inside s text)
    (same_if s.line (is_blank text) (goes (record s { tag = None })) (stops unbalanced s.line) refl tt)
    (same_if s.line (is_empty s.text && not (is_empty text)) (spoken_first s text) (goes (record s { text = s.text ++ text; tag = None }))
    (same_if s.line (nat_le (length s.lines + 1) most_nodes) (goes (record s {
      lines = s.lines ++ s.line ∷ [];
      text = text;
      tag = None;
    })) (stops too_large s.line) refl tt) refl)

same_stepped : (s : State) (line : Line) (rows : List Row) → SameLine s.line (stepped s line rows)
same_stepped s (Start name) rows = same_moved s (start_step (context s) name rows)
same_stepped s (Attr name value) rows = same_taken s (attribute_step (context s) name value)
same_stepped s (Chars text) rows = same_spoken s text
same_stepped s (End name) rows = same_moved s (end_step (context s) name)
same_stepped s (Pi target value) rows = same_moved s (instruction_step (context s) s.line target value)
same_stepped s (Comment text) rows = same_moved s (comment_step (context s) text)

pub same_line : (s t : State) (line : Line) (rows : List Row) → stepped s line rows ≡ goes t → t.line ≡ s.line
same_line s t line rows step = subst (SameLine s.line) step (same_stepped s line rows)
