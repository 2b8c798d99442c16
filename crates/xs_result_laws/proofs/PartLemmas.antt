-- The parts of which a trace is made put well: names, namespace nodes and attributes of literal elements, what instructions make, texts,
-- copies and fragments.
use Rattle.std.proofs.Common.{◌≡◌, ℕ, zero, suc, ◌/◌, ◌==◌, ◌<◌, ◌≤◌, List, [], ◌∷◌, Option, Some, None, Ok, Err, Bool, true, false, refl, sym, ap, subst}
use Rattle.std.proofs.Common.{arith, cond, if◌then◌else◌, inl, inr, length, codes}
use Rattle.std.specs.Prelude.{◌&&◌, ◌||◌}
use Rattle.std.specs.List.{AllByRecursion, flat_map}
use Rattle.std.specs.Str.{bytes_eq, chars as characters}
use Rattle.std.proofs.lemmas.Bool.{and_parts, eqb-true}
use Rattle.std.proofs.lemmas.List.{get_or_past}
use Rattle.xs_text.specs.Names.{is_ncname}
use Rattle.xs_trace.specs.Label.{Label}
use Rattle.xs_trace.specs.Mark.{Trace, Put}
use Rattle.xs_trace.specs.Run.{Run, ◌>>=◌}
use Rattle.xs_trace.specs.declared.event.Event.{Event}
use Rattle.xs_trace.specs.declared.event.Event.TheVariants as event
use Rattle.xs_trace.specs.declared.fault.Fault.TheVariants.{BadResultName}
use Rattle.xs_trace.specs.declared.item.Site.{Site}
use Rattle.xs_tree.specs.Kinds.{is_child_kind}
use Rattle.xs_tree.specs.Record.{Record, at, children, is_child, is_place, root_record}
use Rattle.xs_tree.specs.Shape.{IsTree}
use Rattle.xs_tree.proofs.WalkLemmas.{IsPlaced-at, le_or_gt, passing-passes, passing-within}
use Rattle.xs_sheet.specs.declared.body.LiteralStart.{LiteralStart}
use Rattle.xs_sheet.specs.declared.body.MadeName.{MadeName}
use Rattle.xs_sheet.specs.declared.declarations.Alias.{Alias}
use Rattle.xs_sheet.specs.declared.scoped.ScopedExpr.{ScopedExpr}
use Rattle.xs_sheet.specs.declared.scoped.ValueTemplate.{ValueTemplate}
use Rattle.xs_value.specs.declared.value.Value.{Value}
use Rattle.xs_value.specs.declared.value.Value.TheVariants as value
use Rattle.xs_value.specs.Conversion.{text_value}
use Rattle.xs_eval_spec.specs.Results.{Outcome, given}
use Rattle.xs_making.specs.Copies.{copy_within, deep_copy, shallow_as, shallow_copy, whole_as}
use Rattle.xs_making.specs.Labels.{is_reserved, put_label, put_prefix, unreserved, xml_uri, xmlns_uri}
use Rattle.xs_making.specs.Laws.{AreWell, BindsNoXmlns, CopiesAreWell, IsWellNamed, IsWellPut, NamesAreWell, is_prefix}
use Rattle.xs_making.specs.Names.{is_target, pi_target, result_name}
use Rattle.xs_making.specs.Texts.{is_empty}
use Rattle.xs_result_laws.specs.Events.{IsResult, is_balanced}
use Rattle.xs_body_spec.specs.declared.focus.Focus.{Focus}
use Rattle.xs_body_spec.specs.Making.{aliased, attribute_events, attribute_label, element_label, literal_spaces, name_run, namespace_run, space_events}
use Rattle.xs_body_spec.specs.Making.{target_run}
use Rattle.xs_body_spec.specs.Making.{text_events, value_events}
use Rattle.xs_body_spec.specs.Tasks.{Task}
use Rattle.xs_body_spec.specs.Trace.{begins, chars, fragment_of, puts, puts_all}
use Rattle.xs_body_spec.specs.World.{World, context, template_run, value_run}
use Rattle.xs_result_laws.specs.Named.{AreNamedValues, IsNamedAlias, IsNamedLabel, IsNamedMade, IsNamedSpace, IsNamedStart, IsNamedValue, IsNamedWorld}
use Rattle.xs_result_laws.proofs.BuiltLemmas.{balanced_over, built_result}
use Rattle.xs_result_laws.proofs.CopyLemmas.{AreFlat, Shifts, all_put, deep_shifts, each_shifts, flat_if, flat_joined, flat_shifts, start_shifts}
use Rattle.xs_result_laws.proofs.ItemLemmas.{all_by_place, all_joined}
use Rattle.xs_result_laws.proofs.PutLemmas.{AnswerHas, PutsBetween, has_then, many_ticked, nothing}
use Rattle.xs_result_laws.proofs.ValueLemmas.{tree_named}

abbrev pub Well : Trace Task → Type 0
Well x = PutsBetween false false x

abbrev AreWellPut : List Event → Type 0
AreWellPut es = AllByRecursion IsWellPut es

-- What is known of the parts.
pub record Parts (w : World) : Type 0 where
  pub values : (e : ScopedExpr) (f : Focus) (vs : List Value) → AreNamedValues vs → AnswerHas IsNamedValue (value_run w e f vs).end
  pub names : (b : Bool) (n : MadeName) (f : Focus) (vs : List Value) → IsNamedMade n → AnswerHas IsWellNamed (name_run w b n f vs).end
  pub targets : (t : ValueTemplate) (f : Focus) (vs : List Value) → AnswerHas (λ x. is_target x ≡ true) (target_run w t f vs).end
  pub copied : (v : Value) → IsNamedValue v → AllByRecursion IsWellPut (value_events w.tree v) × Shifts false false (value_events w.tree v)
  pub shallow : (n : ℕ) → AllByRecursion IsWellPut (shallow_copy w.tree n)
  pub kept : (es : List Event) → AllByRecursion IsWellPut es → is_balanced 0 es ≡ true → IsResult (fragment_of es)
  pub begun : (start : LiteralStart) (p : Site) → IsNamedStart start → PutsBetween false true (begins w start p)
  pub attributes : (name : Label) (text : List ℕ) (p : Site) → IsNamedLabel name →
      Well (puts_all p (attribute_events (attribute_label w.sheet.aliases name) text))
  pub made : (label : Label) (text : List ℕ) (p : Site) → IsWellNamed label → Well (puts_all p (attribute_events label text))
  pub chars : (p : Site) (text : List ℕ) → Well (chars p text)

-- ---- names
prefix_twice : (uri prefix : List ℕ) → put_prefix uri (put_prefix uri prefix) ≡ put_prefix uri prefix
prefix_twice uri prefix = by_tests (is_empty uri) (bytes_eq uri xml_uri) (is_reserved prefix) refl
  where
    by_tests : (a b r : Bool) → is_reserved prefix ≡ r
        → (if a then [] else if b then codes "xml" else unreserved (if a then [] else if b then codes "xml" else unreserved prefix))
        ≡ (if a then [] else if b then codes "xml" else unreserved prefix)
    by_tests true b r e = refl
    by_tests false true r e = refl
    by_tests false false true e = rw e refl
    by_tests false false false e = rw (e, e) refl

xml_is_name : is_ncname (codes "xml") ≡ true
unfolding characters
xml_is_name = refl

prefix_put : (uri prefix : List ℕ) → is_prefix prefix ≡ true → is_prefix (put_prefix uri prefix) ≡ true
prefix_put uri prefix h = by_tests (is_empty uri) (bytes_eq uri xml_uri) (is_reserved prefix)
  where
    by_tests : (a b r : Bool) → is_prefix (if a then [] else if b then codes "xml" else if r then [] else prefix) ≡ true
    by_tests true b r = refl
    by_tests false true r = xml_is_name
    by_tests false false true = refl
    by_tests false false false = h

label_well : (uri local prefix : List ℕ) → is_ncname local ≡ true → is_prefix prefix ≡ true → bytes_eq uri xmlns_uri ≡ false
    → IsWellNamed (put_label uri local prefix)
label_well uri local prefix n p u = record { local = n; prefix = prefix_put uri prefix p; fits = prefix_twice uri prefix; uri = u }

aliased_other : (aliases : List Alias) → AllByRecursion IsNamedAlias aliases → (uri : List ℕ) → bytes_eq uri xmlns_uri ≡ false
    → bytes_eq (aliased aliases uri) xmlns_uri ≡ false
aliased_other [] h uri u = u
aliased_other (a ∷ others) h uri u = by_test (bytes_eq a.from_uri uri) (aliased_other others h.1 uri u)
  where
    by_test : (t : Bool) → bytes_eq (aliased others uri) xmlns_uri ≡ false → bytes_eq (if t then a.to_uri else aliased others uri) xmlns_uri ≡ false
    by_test true rest = h.0
    by_test false rest = rest

element_well : (aliases : List Alias) → AllByRecursion IsNamedAlias aliases → (name : Label) → IsNamedLabel name → IsWellNamed (element_label aliases name)
element_well aliases h name n =
    label_well (aliased aliases name.uri) name.local name.prefix n.local n.prefix (aliased_other aliases h name.uri n.uri)

attribute_well : (aliases : List Alias) → AllByRecursion IsNamedAlias aliases → (name : Label) → IsNamedLabel name → IsWellNamed (attribute_label aliases name)
attribute_well aliases h name n = by_test (is_empty name.uri)
  where
    by_test : (t : Bool) → IsWellNamed (if t then put_label name.uri name.local name.prefix else element_label aliases name)
    by_test true = label_well name.uri name.local name.prefix n.local n.prefix n.uri
    by_test false = element_well aliases h name n

-- ---- attributes, texts and namespace nodes
attribute_put : (label : Label) (text : List ℕ) (p : Site) → IsWellNamed label → Well (puts_all p (attribute_events label text))
attribute_put label text p h = by_test (is_empty label.uri && bytes_eq label.local (codes "xmlns")) refl
  where
    by_test : (t : Bool) → (is_empty label.uri && bytes_eq label.local (codes "xmlns")) ≡ t
        → Well (puts_all p (if t then [] else event.Attr label text ∷ []))
    by_test true e = nothing false
    by_test false e =
        all_put p (event.Attr label text ∷ []) ((h, e), tt) (flat_shifts false (event.Attr label text ∷ []) (refl, tt))

some_text : (text : List ℕ) → (length text == 0) ≡ false → is_empty text ≡ false
some_text [] e = absurd (let no : true ≡ false = e in cc)
some_text (b ∷ text) e = refl

chars_put : (p : Site) (text : List ℕ) → Well (chars p text)
unfolding is_balanced
chars_put p text = by_test (length text == 0) refl
  where
    by_test : (t : Bool) → (length text == 0) ≡ t → Well (cond t [] (puts p (event.Chars text)))
    by_test true e = nothing false
    by_test false e =
        many_ticked p (length text / 256) (Put (event.Chars text) ∷ []) (record { named = (some_text text e, tt); balanced = λ g n more. refl })

space_well : (prefix uri : List ℕ) → is_prefix prefix ≡ true → is_reserved prefix ≡ false → bytes_eq uri xmlns_uri ≡ false
    → AreWellPut (space_events prefix uri)
space_well prefix uri p r u = by_tests (is_empty uri) refl (bytes_eq uri xml_uri) refl
  where
    by_tests : (a : Bool) → is_empty uri ≡ a → (b : Bool) → bytes_eq uri xml_uri ≡ b → AreWellPut (if a || b then [] else event.Space prefix uri ∷ [])
    by_tests true e b f = tt
    by_tests false e true f = tt
    by_tests false e false f = (record { spelled = p; free = r; full = e; not_xml = f; not_xmlns = u }, tt)

spaces_well : (aliases : List Alias) → AllByRecursion IsNamedAlias aliases → (spaces : List (List ℕ × List ℕ)) → AllByRecursion IsNamedSpace spaces
    → AreWellPut (literal_spaces aliases spaces)
spaces_well aliases h [] s = tt
spaces_well aliases h (x ∷ spaces) s =
    all_joined IsWellPut (space_events x.0 (aliased aliases x.1)) (literal_spaces aliases spaces)
    (space_well x.0 (aliased aliases x.1) s.0.prefix s.0.free (aliased_other aliases h x.1 s.0.uri)) (spaces_well aliases h spaces s.1)

spaces_flat : (aliases : List Alias) (spaces : List (List ℕ × List ℕ)) → AreFlat (literal_spaces aliases spaces)
spaces_flat aliases [] = tt
spaces_flat aliases (x ∷ spaces) =
    flat_joined (space_events x.0 (aliased aliases x.1)) (literal_spaces aliases spaces)
    (flat_if (is_empty (aliased aliases x.1) || bytes_eq (aliased aliases x.1) xml_uri) (event.Space x.0 (aliased aliases x.1)) refl)
    (spaces_flat aliases spaces)

begun_put : (w : World) → AllByRecursion IsNamedAlias w.sheet.aliases → (start : LiteralStart) (p : Site) → IsNamedStart start
    → PutsBetween false true (begins w start p)
begun_put w h start p n =
    let label : Label = element_label w.sheet.aliases start.name in
    let spaces : List Event = literal_spaces w.sheet.aliases start.spaces in
    all_put p (event.Start label ∷ spaces)
    (element_well w.sheet.aliases h start.name n.name, spaces_well w.sheet.aliases h start.spaces n.spaces)
    (start_shifts label spaces (spaces_flat w.sheet.aliases start.spaces))

-- ---- copies
place_some : (n : ℕ) (o : Option ℕ) → is_place n o ≡ true → o ≡ Some n
place_some n None h = absurd (cc)
place_some n (Some p) h = ap Some (eqb-true p n h)

no_children : (rs : List Record) (n : ℕ) → IsTree rs → length rs ≤ n → children rs n ≡ []
no_children rs n tree le = by_list (children rs n) refl
  where
    by_list : (ks : List ℕ) → children rs n ≡ ks → ks ≡ []
    by_list [] e = refl
    by_list (k ∷ ks) e =
        let within : k < length rs = passing-within (is_child rs n) rs [] ks k e in
        let passes : is_child rs n k ≡ true = passing-passes (is_child rs n) rs [] ks k e in
        let parent : (at rs k).parent ≡ Some n =
        place_some n (at rs k).parent (and_parts (is_place n (at rs k).parent) (is_child_kind (at rs k).kind) passes).0 in
        let before : n < k = (IsPlaced-at rs k n tree within parent).before in
        absurd (omega (arith, le, within, before))

-- of a node that is not in the tree
past_well : (rs : List Record) (n m : ℕ) → IsTree rs → length rs ≤ n → AreWellPut (copy_within m rs n)
unfolding copy_within
past_well rs n zero tree le = tt
past_well rs n (suc m) tree le =
    subst (λ (r : Record). AreWellPut (whole_as r.kind rs n (flat_map (copy_within m rs) (children rs n)))) (sym (get_or_past rs n root_record le))
    (subst (λ ks. AreWellPut (flat_map (copy_within m rs) ks)) (sym (no_children rs n tree le)) tt)

deep_well : CopiesAreWell → (rs : List Record) → IsTree rs → AreWell rs → (n : ℕ) → AreWellPut (deep_copy rs n)
unfolding deep_copy
deep_well copies rs tree well n = elim (le_or_gt (length rs) n)
    [ inl le ↦ past_well rs n (length rs) tree le | inr within ↦ all_by_place IsWellPut (deep_copy rs n) (copies rs n true well within) ]

shallow_well : CopiesAreWell → (rs : List Record) → AreWell rs → (n : ℕ) → AreWellPut (shallow_copy rs n)
shallow_well copies rs well n = elim (le_or_gt (length rs) n) [
  | inl le ↦ subst (λ (r : Record). AreWellPut (shallow_as r.kind rs n)) (sym (get_or_past rs n root_record le)) tt
  | inr within ↦ all_by_place IsWellPut (shallow_copy rs n) (copies rs n false well within)
]

nodes_well : (f : ℕ → List Event) (ns : List ℕ) → ((n : ℕ) → AreWellPut (f n)) → AreWellPut (flat_map f ns)
nodes_well f [] h = tt
nodes_well f (n ∷ ns) h = all_joined IsWellPut (f n) (flat_map f ns) (h n) (nodes_well f ns h)

text_put : (text : List ℕ) → AreWellPut (text_events text) × Shifts false false (text_events text)
text_put [] = (tt, λ n more. refl)
text_put (b ∷ text) = ((refl, tt), flat_shifts false (event.Chars (b ∷ text) ∷ []) (refl, tt))

copied_put : CopiesAreWell → (rs : List Record) → IsTree rs → AreWell rs → (v : Value) → IsNamedValue v
    → AreWellPut (value_events rs v) × Shifts false false (value_events rs v)
copied_put copies rs tree well (value.Nodes ns) h = (
  nodes_well (deep_copy rs) ns (deep_well copies rs tree well),
  each_shifts (deep_copy rs) ns (deep_shifts rs),
)
copied_put copies rs tree well (value.Piece events) h =
    (all_by_place IsWellPut events h.named, λ n more. balanced_over events 0 n more h.balanced)
copied_put copies rs tree well (value.Chars text) h = text_put text
copied_put copies rs tree well (value.Bool b) h = text_put (text_value rs (value.Bool b))
copied_put copies rs tree well (value.Number n) h = text_put (text_value rs (value.Number n))

-- ---- names that are made
named_answer : (names : NamesAreWell) (scope : List (List ℕ × List ℕ)) (b : Bool) (uri : Option (List ℕ)) (text : List ℕ) → BindsNoXmlns scope
    → (o : Outcome Label) → result_name scope b uri text ≡ o → AnswerHas IsWellNamed (given o).end
named_answer names scope b uri text binds (Ok name) e = names scope b uri text name binds e
named_answer names scope b uri text binds (Err f) e = tt

made_name : (w : World) → NamesAreWell → (b : Bool) (n : MadeName) (f : Focus) (vs : List Value) → IsNamedMade n
    → AnswerHas IsWellNamed (name_run w b n f vs).end
made_name w names b n f vs binds =
    let spelled : Run (List ℕ) = template_run w n.name f vs in
    let space : Run (Option (List ℕ)) = namespace_run w n.namespace f vs in
    has_then IsWellNamed spelled.cost spelled.end (λ text. space >>= (λ uri. given (result_name n.scope b uri text)))
    (λ text. has_then IsWellNamed space.cost space.end (λ uri. given (result_name n.scope b uri text))
    (λ uri. named_answer names n.scope b uri text binds (result_name n.scope b uri text) refl))

target_answer : (text : List ℕ) → AnswerHas (λ (x : List ℕ). is_target x ≡ true) (given (pi_target text)).end
target_answer text = by_test (is_target text) refl
  where
    by_test : (t : Bool) → is_target text ≡ t → AnswerHas (λ (x : List ℕ). is_target x ≡ true) (given (if t then Ok text else Err BadResultName)).end
    by_test true e = e
    by_test false e = tt

made_target : (w : World) (t : ValueTemplate) (f : Focus) (vs : List Value) → AnswerHas (λ (x : List ℕ). is_target x ≡ true) (target_run w t f vs).end
made_target w t f vs =
    has_then (λ (x : List ℕ). is_target x ≡ true) (template_run w t f vs).cost (template_run w t f vs).end (λ text. given (pi_target text)) target_answer

-- ---- all of them
pub parts_of : NamesAreWell → CopiesAreWell → (w : World) → IsNamedWorld w → Parts w
parts_of names copies w world = record {
  values = λ e f vs v. tree_named w.keys e.expr (context w f vs e.scope) v world.globals;
  names = made_name w names;
  targets = made_target w;
  copied = copied_put copies w.tree world.shape world.tree;
  shallow = shallow_well copies w.tree world.tree;
  kept = built_result;
  begun = begun_put w world.sheet.aliases;
  attributes = λ name text p n.
      attribute_put (attribute_label w.sheet.aliases name) text p (attribute_well w.sheet.aliases world.sheet.aliases name n);
  made = attribute_put;
  chars = chars_put;
}
