-- The attribute sets that a compiled body uses are named by the elements that it represents.
use Rattle.std.proofs.Common.{◌≡◌, ◌∙◌, ◌<◌, ◌==◌, ℕ, ap, refl, sym, subst, arith, All, List, [], ◌∷◌, ◌++◌, filter, length, Bool, true, false, Option, Some, None, ◌⊎◌, inl, inr, eqb-true}
use Rattle.std.proofs.lemmas.Bool.{and_from, and_parts, false≢true, or_cases, or_parts, or_right, true≢false}
use Rattle.std.proofs.lemmas.List.Elements.{All-filter, All-head, All-map, All-nil, All-tail, filter_passes}
use Rattle.std.specs.List.{filter_map, flat_map, list_any}
use Rattle.std.specs.Option.{option_and_then, option_map_or}
use Rattle.std.specs.Prelude.{◌&&◌, ◌||◌, codes, not, option_map, if◌then◌else◌}
use Rattle.std.specs.Str.{bytes_eq}
use Rattle.xs_static.specs.Circles.{IsAmong}
use Rattle.xs_compile.proofs.AmongLemmas.{among-filter, among-flat, place-among}
use Rattle.xs_compile.proofs.ShownLemmas.{IsChildOf, all-children}
use Rattle.xs_structure.proofs.TopLemmas.{seen-child}
use Rattle.xs_compile.proofs.CleanLemmas.{read-known, read-literal, shows-none, value-clean}
use Rattle.xs_compile.proofs.ReachLemmas.{inside-of, inside-to, within-more, within-parent}
use Rattle.xs_compile.specs.Bodies.{AreBindings, AreBodies, AreFallbacks, AreInstrs, AreWhens, IsBody, IsChoice, IsContent, IsKind, IsPassed, Source, first_body, is_otherwise}
use Rattle.xs_compile.specs.Labels.{label_in, label_of, labels_in}
use Rattle.xs_structure.specs.Parts.{body_at, children_at, children_with, is_in_body, pairs_at, reading_at, tag_at}
use Rattle.xs_elements.specs.declared.forms.Form.{Form}
use Rattle.xs_elements.specs.declared.forms.Form.TheVariants.{Sets}
use Rattle.xs_elements.specs.declared.reading.Reading.{Reading}
use Rattle.xs_elements.specs.declared.reading.Reading.TheVariants.{Known, Literal}
use Rattle.xs_elements.specs.declared.tags.Tag.{Tag}
use Rattle.xs_elements.specs.declared.tags.Tag.TheVariants.{Variable as VariableTag, ApplyTemplates as ApplyTemplatesTag, CallTemplate as CallTemplateTag, ForEach as ForEachTag, Copy as CopyTag, Choose as ChooseTag, When, Otherwise, If as IfTag, Element as ElementTag, Attribute as AttributeTag, Comment as CommentTag, ProcessingInstruction as PiTag, Message as MessageTag, Fallback, WithParam, Other, NoElement}
use Rattle.xs_elements.specs.Contents.{is_with_param}
use Rattle.xs_elements.specs.Nodes.{Name, expanded, if_bound, scope_at, value_of}
use Rattle.xs_elements.specs.Reading.{form_by, has_read_attributes, is_in_extension, is_seen, reading_by, reading_of, shows}
use Rattle.xs_elements.specs.Tags.{is_fallback, is_top_level, is_when, tag_named, tag_of, xslt_uri}
use Rattle.xs_elements.specs.Values.{is_unbound, is_unbound_name}
use Rattle.xs_elements.specs.WhiteSpace.{words}
use Rattle.xs_sheet.specs.declared.body.Body.{Body, Body', Row_of-Instr, end_of-Instr, more_of-Instr}
use Rattle.xs_sheet.specs.declared.body.Choice.{Choice, Choice', Row_of-When, end_of-When, more_of-When}
use Rattle.xs_sheet.specs.declared.body.Content.{Content}
use Rattle.xs_sheet.specs.declared.body.Content.TheVariants.{Empty, Select, Body as Fragment}
use Rattle.xs_sheet.specs.declared.body.Fallbacks.{Fallbacks, Fallbacks', Row_of-Body, end_of-Body, more_of-Body}
use Rattle.xs_sheet.specs.declared.body.InstrKind.{InstrKind, Variable'}
use Rattle.xs_sheet.specs.declared.body.InstrKind.TheVariants.{ApplyTemplates, CallTemplate, ApplyImports, ForEach, ValueOf, CopyOf, Copy, Number, Choose, If, Text, Element, Attribute, Comment, Pi, Message, Literal as Literal', Extension as Extension'}
use Rattle.xs_sheet.specs.declared.body.Passed.{Passed, Passed', Row_of-Binding, end_of-Binding, more_of-Binding}
use Rattle.xs_sheet.specs.declared.body.When.{When'}
use Rattle.xs_sheet.specs.Sets.{bindings_sets, bodies_sets, body_sets, choice_sets, content_sets, fallbacks_sets, instrs_sets, kind_sets, passed_sets, whens_sets}
use Rattle.xs_static.specs.Faults.{IsFirstFault, bad_root, is_misspelled, of_form, some_value, unbound_prefix}
use Rattle.xs_structure.specs.Modules.{Place, records_at}
use Rattle.xs_static.specs.Sets.{is_part, listed, named_sets, names_in, sets_value, sets_within}
use Rattle.xs_text.specs.Names.{QName, qname_of}
use Rattle.xs_trace.specs.Label.{Label}
use Rattle.xs_tree.proofs.WalkLemmas.{IsWithin}
use Rattle.xs_tree.specs.Kinds.{is_element_kind}
use Rattle.xs_tree.specs.Record.{Record, at, attributes, children, is_inside, local_at, places, uri_at}
use Rattle.xs_tree.specs.Shape.{IsTree}
use Rattle.xs_xpath.specs.Names.{is_bound, uri_of}

abbrev pub is_no_element : Tag → Bool
is_no_element NoElement = true
is_no_element _ = false

-- ---- names among others
abbrev pub name_of_label : Label → Name
name_of_label l = (l.uri, l.local)

-- the names of labels are among these
abbrev pub Covers : List Name → List Label → Type 0
Covers names [] = Unit {0}
Covers names (l ∷ ls) = IsAmong (name_of_label l) names × Covers names ls

pub covers-append : (names : List Name) (xs ys : List Label) → Covers names xs → Covers names ys → Covers names (xs ++ ys)
covers-append names [] ys a b = b
covers-append names (x ∷ xs) ys a b = (a.0, covers-append names xs ys a.1 b)

pub covers-wider : (names more : List Name) → ((n : Name) → IsAmong n names → IsAmong n more) → (ls : List Label) → Covers names ls → Covers more ls
covers-wider names more wide [] h = tt
covers-wider names more wide (l ∷ ls) h = (wide (name_of_label l) h.0, covers-wider names more wide ls h.1)

-- ---- the names in the value of an attribute, whose prefixes are bound
module _ (pairs : List (List ℕ × List ℕ)) where
  not-false : (b : Bool) → not b ≡ false → b ≡ true
  not-false true e = refl
  not-false false e = absurd (false≢true (sym e))

  abbrev names_of : List (List ℕ) → List Name
  names_of ws = flat_map (λ word. listed (expanded pairs word)) ws

  word-covers : (o : Option QName) (names : List Name) (labels : List Label) → option_map_or (λ q. not (is_bound pairs q.prefix)) o false ≡ false
      → Covers names labels
      → Covers (listed (option_and_then (if_bound pairs) o) ++ names) (option_map_or (λ l. l ∷ labels) (option_map (label_of pairs) o) labels)
  word-covers None names labels e h = h
  word-covers (Some q) names labels e h = by (is_bound pairs q.prefix) (not-false (is_bound pairs q.prefix) e)
    where
      by : (b : Bool) → b ≡ true
          → Covers (listed (if b then Some (uri_of pairs q.prefix, q.local) else None) ++ names) (label_of pairs q ∷ labels)
      by true f = (inl refl, covers-wider names ((uri_of pairs q.prefix, q.local) ∷ names) (λ n k. inr k) labels h)
      by false f = absurd (false≢true f)

  next-label : (o : Option Label) (word : List ℕ) (ws : List (List ℕ)) → label_in pairs word ≡ o
      → filter_map (label_in pairs) (word ∷ ws) ≡ option_map_or (λ l. l ∷ filter_map (label_in pairs) ws) o (filter_map (label_in pairs) ws)
  next-label None word ws e = rw e refl
  next-label (Some l) word ws e = rw e refl

  words-covers : (ws : List (List ℕ)) → list_any (is_unbound_name pairs) ws ≡ false → Covers (names_of ws) (filter_map (label_in pairs) ws)
  words-covers [] h = tt
  words-covers (w ∷ ws) h =
      let parts = or_parts (is_unbound_name pairs w) (list_any (is_unbound_name pairs) ws) h in
      subst (Covers (names_of (w ∷ ws))) (sym (next-label (label_in pairs w) w ws refl))
      (word-covers (qname_of w) (names_of ws) (filter_map (label_in pairs) ws) parts.0 (words-covers ws parts.1))

  pub value_covers : (o : Option (List ℕ)) → ((value : List ℕ) → o ≡ Some value → list_any (is_unbound_name pairs) (words value) ≡ false)
      → Covers (option_map_or (λ value. names_of (words value)) o []) (labels_in pairs o)
  value_covers None bound = tt
  value_covers (Some value) bound = words-covers (words value) (bound value refl)

-- ---- nodes inside an element, which are looked at
module _ (s : Source) (trees : (m : ℕ) → m < length s.modules → IsTree (records_at s.modules m)) (accepted : IsFirstFault s.modules None) (m a : ℕ)
    (known : m < length s.modules) where
  abbrev rs : List Record
  rs = records_at s.modules m

  abbrev used : List Name
  used = sets_within rs a

  -- a place is that of a node in the element
  pub record Held (p : Place) : Type 0 where
    pub node : ℕ
    pub place : p ≡ (m, node)
    pub inside : node < length rs
    pub part : is_part rs a node ≡ true

  -- and all its children are looked at
  pub record Shown (p : Place) : Type 0 where
    pub held : Held p
    pub shows_all : (tag : Tag) → shows (reading_at s.modules p) tag ≡ true

  abbrev is_own_or_inside : ℕ → Bool
  is_own_or_inside k = k == a || is_inside rs a k

  child-part : (n k : ℕ) → n < length rs → is_part rs a n ≡ true → IsChildOf rs n k → shows (reading_of rs n) (tag_of rs k) ≡ true → is_part rs a k ≡ true
  child-part n k inside part child shown =
      let tree = trees m known in
      let both = and_parts (is_own_or_inside n) (is_seen rs n) part in
      let own = within-parent rs tree k n child.inside child.parent in
      let around : is_inside rs a k ≡ true = elim (or_cases (n == a) (is_inside rs a n) both.0) [
        | inl same ↦ inside-to rs tree a k child.inside (subst (λ x. IsWithin rs x k) (eqb-true n a same) own)
        | inr outer ↦ inside-to rs tree a k child.inside (within-more rs tree a n k (inside-of rs tree a n inside outer) own)
      ] in
      and_from (is_own_or_inside k) (is_seen rs k) (or_right (k == a) (is_inside rs a k) around)
      (seen-child rs tree n k child.inside child.parent shown both.1)

  -- a child of a place
  record IsChildPlace (p q : Place) : Type 0 where
    node : ℕ
    place : q ≡ (p.0, node)
    child : IsChildOf (records_at s.modules p.0) p.1 node

  child-places : (p : Place) → All (IsChildPlace p) (children_at s.modules p)
  child-places p =
      All-map (IsChildPlace p) (λ k. (p.0, k)) (children (records_at s.modules p.0) p.1)
      (λ i d h. record { node = _; place = refl; child = all-children (records_at s.modules p.0) p.1 i d h })

  held-child : (p q : Place) → Held p → IsChildPlace p q → shows (reading_at s.modules p) (tag_at s.modules q) ≡ true → Held q
  held-child p q h c shown =
      let at : q ≡ (m, c.node) = c.place ∙ ap (λ (x : Place). (x.0, c.node)) h.place in
      let child : IsChildOf rs h.node c.node = subst (λ (x : Place). IsChildOf (records_at s.modules x.0) x.1 c.node) h.place c.child in
      record {
        node = c.node;
        place = at;
        inside = child.inside;
        part = child-part h.node c.node h.inside h.part child
            (subst (λ (x : Place). shows (reading_at s.modules x) (tag_of rs c.node) ≡ true) h.place
            (subst (λ (x : Place). shows (reading_at s.modules p) (tag_at s.modules x) ≡ true) at shown));
      }

  -- those of its children that pass a test, where it shows them
  held-passing : (p : Place) (test : Place → Bool) → Held p
      → ((q : Place) → test q ≡ true → shows (reading_at s.modules p) (tag_at s.modules q) ≡ true) → All Held (filter test (children_at s.modules p))
  held-passing p test h shown = λ i d lt.
      held-child p _ h (All-filter test (IsChildPlace p) (children_at s.modules p) (child-places p) i d lt)
      (shown _ (filter_passes test (children_at s.modules p) i d lt))

  body-held : (p : Place) → Shown p → All Held (body_at s.modules p)
  body-held p h = held-passing p (is_in_body s.modules p) h.held (λ q e. h.shows_all (tag_at s.modules q))

  -- a place whose element is of XSLT shows all its children
  known-shown : (p : Place) (tag : Tag) → Held p → tag_at s.modules p ≡ tag → ((x y : Bool) → reading_by tag x y ≡ Known) → Shown p
  known-shown p tag h e reads =
      let tags = records_at s.modules p.0 in
      let read : reading_at s.modules p ≡ Known =
      ap (λ (r : Tag). reading_by r (is_top_level tags p.1) (is_in_extension tags p.1)) e ∙ reads (is_top_level tags p.1) (is_in_extension tags p.1) in
      record { held = h; shows_all = λ child. ap (λ (r : Reading). shows r child) read }

  literal-shown : (p : Place) → Held p → reading_at s.modules p ≡ Literal → Shown p
  literal-shown p h read = record { held = h; shows_all = λ child. ap (λ (r : Reading). shows r child) read }

  -- children of a kind of XSLT
  shown-with : (p : Place) (kind : Tag → Bool) → Held p → ((tag : Tag) → kind tag ≡ true → shows (reading_at s.modules p) tag ≡ true)
      → ((tag : Tag) → kind tag ≡ true → (x y : Bool) → reading_by tag x y ≡ Known) → All Shown (children_with kind s.modules p)
  shown-with p kind h shown reads = λ i d lt.
      known-shown _ (tag_at s.modules _)
      (held-passing p (λ q. kind (tag_at s.modules q)) h (λ q e. shown (tag_at s.modules q) e) i d lt) refl
      (reads (tag_at s.modules _) (filter_passes (λ q. kind (tag_at s.modules q)) (children_at s.modules p) i d lt))

  param-known : (tag : Tag) → is_with_param tag ≡ true → (x y : Bool) → reading_by tag x y ≡ Known
  param-known WithParam e x y = refl
  param-known tag e x y = absurd (false≢true e)

  params-shown : (p : Place) → Shown p → All Shown (children_with is_with_param s.modules p)
  params-shown p h = shown-with p is_with_param h.held (λ tag e. h.shows_all tag) param-known

  when-known : (tag : Tag) → is_when tag ≡ true → (x y : Bool) → reading_by tag x y ≡ Known
  when-known When e x y = refl
  when-known tag e x y = absurd (false≢true e)

  otherwise-known : (tag : Tag) → is_otherwise tag ≡ true → (x y : Bool) → reading_by tag x y ≡ Known
  otherwise-known Otherwise e x y = refl
  otherwise-known tag e x y = absurd (false≢true e)

  fallback-known : (tag : Tag) → is_fallback tag ≡ true → (x y : Bool) → reading_by tag x y ≡ Known
  fallback-known Fallback e x y = refl
  fallback-known tag e x y = absurd (false≢true e)

  first-held : (ps : List Place) → All Shown ps → All Held (first_body s ps)
  first-held [] h = All-nil Held
  first-held (p ∷ ps) h = body-held p (All-head Shown p ps h)

  -- ---- the names of one element are among them
  named-part : (k : ℕ) → k < length rs → is_part rs a k ≡ true → (n : Name) → IsAmong n (named_sets rs k) → IsAmong n used
  named-part k inside part n h = among-flat (named_sets rs) k n (filter (is_part rs a) (places rs))
      (among-filter (is_part rs a) k (places rs) (place-among k 0 (length rs) (omega arith) (omega (arith, inside))) part) h

  abbrev local : List ℕ
  local = codes "use-attribute-sets"

  own-covers : (k : ℕ) (o : Option (List ℕ)) → sets_value (tag_of rs k) rs k ≡ o
      → ((value : List ℕ) → o ≡ Some value → list_any (is_unbound_name (scope_at rs k)) (words value) ≡ false)
      → Covers (named_sets rs k) (labels_in (scope_at rs k) o)
  own-covers k o e bound =
      subst (λ (v : Option (List ℕ)). Covers (option_map_or (names_in (scope_at rs k)) v []) (labels_in (scope_at rs k) o)) (sym e)
      (value_covers (scope_at rs k) o bound)

  -- no prefix in the value of the attribute is unbound
  property : ℕ → Form → List ℕ → Bool
  property k form value = is_unbound form (scope_at rs k) value

  behind : (b c : Bool) → b ≡ true → (b && c) ≡ false → c ≡ false
  behind true c e h = h
  behind false c e h = absurd (false≢true e)

  record IsRead (k : ℕ) : Type 0 where
    element : is_element_kind (at rs k).kind ≡ true
    read : has_read_attributes rs k ≡ true

  bound-value : (k : ℕ) → k < length rs → is_seen rs k ≡ true → IsRead k → (uri value : List ℕ) → value_of rs k uri local ≡ Some value
      → form_by (reading_of rs k) (tag_of rs k) uri local ≡ Some Sets → is_unbound Sets (scope_at rs k) value ≡ false
  bound-value k inside seen h uri value said formed =
      let none = shows-none s.modules accepted unbound_prefix (m, k) (record { «module» = known; node = inside }) h.element (λ e. e) seen in
      let some = (or_parts (some_value rs k (λ form value. is_unbound form (scope_at rs k) value)) (is_misspelled 38 rs k) none).0 in
      value-clean rs k (λ form value. is_unbound form (scope_at rs k) value) uri local value Sets
      (behind (has_read_attributes rs k) (list_any (of_form rs k (λ form value. is_unbound form (scope_at rs k) value)) (attributes rs k)) h.read some)
      said formed

  pub tag-element : (k : ℕ) (tag : Tag) → tag_of rs k ≡ tag → is_no_element tag ≡ false → is_element_kind (at rs k).kind ≡ true
  tag-element k tag e f = by_kind (is_element_kind (at rs k).kind) refl
    where
      tag_by : Bool → Tag
      tag_by b = if b then (if bytes_eq (uri_at rs k) xslt_uri then tag_named (local_at rs k) else Other) else NoElement

      by_kind : (b : Bool) → is_element_kind (at rs k).kind ≡ b → is_element_kind (at rs k).kind ≡ true
      by_kind true g = g
      by_kind false g = absurd (true≢false (ap (λ (b : Bool). is_no_element (tag_by b)) (sym g) ∙ ap is_no_element e ∙ f))

  -- the sets that an element names
  pub element_covers : (k : ℕ) → k < length rs → is_seen rs k ≡ true → (tag : Tag) (reading : Reading) (uri : List ℕ) → tag_of rs k ≡ tag
      → reading_of rs k ≡ reading → is_no_element tag ≡ false → sets_value tag rs k ≡ value_of rs k uri (codes "use-attribute-sets")
      → form_by reading tag uri (codes "use-attribute-sets") ≡ Some Sets → (reading ≡ Known) ⊎ (reading ≡ Literal)
      → Covers (named_sets rs k) (labels_in (scope_at rs k) (value_of rs k uri (codes "use-attribute-sets")))
  element_covers k inside seen tag reading uri e f other value formed known-or-literal =
      let element = tag-element k tag e other in
      let read : has_read_attributes rs k ≡ true = elim known-or-literal [
        | inl g ↦ read-known rs k (f ∙ g)
        | inr g ↦ read-literal rs k (f ∙ g)
            (shows-none s.modules accepted bad_root (m, k) (record { «module» = known; node = inside }) element (λ e. e) seen)
      ] in
      own-covers k (value_of rs k uri local) (ap (λ (r : Tag). sets_value r rs k) e ∙ value)
      (λ v said. bound-value k inside seen (record { element = element; read = read }) uri v said
      (ap (λ (r : Reading). form_by r (tag_of rs k) uri local) f ∙ ap (λ (r : Tag). form_by reading r uri local) e ∙ formed))

  set-covers : (p : Place) → Held p → (tag : Tag) (reading : Reading) (uri : List ℕ) (sets : List Label) → tag_at s.modules p ≡ tag
      → reading_at s.modules p ≡ reading → is_no_element tag ≡ false → ((rs : List Record) (n : ℕ) → sets_value tag rs n ≡ value_of rs n uri local)
      → form_by reading tag uri local ≡ Some Sets → (reading ≡ Known) ⊎ (reading ≡ Literal)
      → sets ≡ labels_in (pairs_at s.modules p) (value_of (records_at s.modules p.0) p.1 uri local) → Covers used sets
  set-covers p h tag reading uri sets e f other value formed known-or-literal are =
      let k = h.node in
      let at = ap (λ (q : Place). labels_in (pairs_at s.modules q) (value_of (records_at s.modules q.0) q.1 uri local)) h.place in
      subst (Covers used) (sym (are ∙ at))
      (covers-wider (named_sets rs k) used (named-part k h.inside h.part) (labels_in (scope_at rs k) (value_of rs k uri local))
      (element_covers k h.inside (and_parts (is_own_or_inside k) (is_seen rs k) h.part).1 tag reading uri
      (subst (λ (q : Place). tag_at s.modules q ≡ tag) h.place e) (subst (λ (q : Place). reading_at s.modules q ≡ reading) h.place f)
      other (value rs k) formed known-or-literal))

  known-read : (p : Place) (tag : Tag) → tag_at s.modules p ≡ tag → ((x y : Bool) → reading_by tag x y ≡ Known) → reading_at s.modules p ≡ Known
  known-read p tag e reads =
      let tags = records_at s.modules p.0 in
      ap (λ (r : Tag). reading_by r (is_top_level tags p.1) (is_in_extension tags p.1)) e ∙ reads (is_top_level tags p.1) (is_in_extension tags p.1)

  is_literal : Reading → Bool
  is_literal Literal = true
  is_literal _ = false

  literal-tag : (tag : Tag) (x y : Bool) → reading_by tag x y ≡ Literal → tag ≡ Other
  unfolding is_literal
  literal-tag Other x y e = refl
  literal-tag tag x y e = absurd (false≢true (ap is_literal e))

  -- ---- what represents a place in the element uses what is named in it
  mutual
    body-covers : (ps : List Place) (b : Body) → All Held ps → IsBody s ps b → Covers used (body_sets b)
    body-covers ps (Body' shape tag) h is = instrs-covers ps tag h is

    instrs-covers : {n : _} (ps : List Place) (tag : Row_of-Instr n) → All Held ps → AreInstrs s ps tag → Covers used (instrs_sets tag)
    instrs-covers ps end_of-Instr h is = tt
    instrs-covers [] (more_of-Instr site kind rest) h is = absurd is
    instrs-covers (p ∷ ps) (more_of-Instr site kind rest) h is =
        covers-append used (kind_sets kind) (instrs_sets rest) (kind-covers p kind (All-head Held p ps h) is.1)
        (instrs-covers ps rest (All-tail Held p ps h) is.2)

    pub kind-covers : (p : Place) (kind : InstrKind) → Held p → IsKind s p kind → Covers used (kind_sets kind)
    kind-covers p (ApplyTemplates nodes passed) h is =
        passed-covers (children_with is_with_param s.modules p) passed
        (params-shown p (known-shown p ApplyTemplatesTag h is.0 (λ x y. refl))) is.2
    kind-covers p (CallTemplate template passed) h is =
        passed-covers (children_with is_with_param s.modules p) passed (params-shown p (known-shown p CallTemplateTag h is.0 (λ x y. refl))) is.2
    kind-covers p ApplyImports h is = tt
    kind-covers p (ForEach select sorts body) h is =
        body-covers (body_at s.modules p) body (body-held p (known-shown p ForEachTag h is.0 (λ x y. refl))) is.3
    kind-covers p (ValueOf select) h is = tt
    kind-covers p (CopyOf select) h is = tt
    kind-covers p (Copy sets body) h is =
        covers-append used sets (body_sets body)
        (set-covers p h CopyTag Known [] sets is.0 (known-read p CopyTag is.0 (λ x y. refl)) refl (λ rs n. refl) refl (inl refl) is.1)
        (body-covers (body_at s.modules p) body (body-held p (known-shown p CopyTag h is.0 (λ x y. refl))) is.2)
    kind-covers p (Number decl) h is = tt
    kind-covers p (Choose choice) h is = choice-covers p choice (known-shown p ChooseTag h is.0 (λ x y. refl)) is.1
    kind-covers p (If condition body) h is =
        body-covers (body_at s.modules p) body (body-held p (known-shown p IfTag h is.0 (λ x y. refl))) is.2
    kind-covers p (Text bytes) h is = tt
    kind-covers p (Element name sets body) h is =
        covers-append used sets (body_sets body)
        (set-covers p h ElementTag Known [] sets is.0 (known-read p ElementTag is.0 (λ x y. refl)) refl (λ rs n. refl) refl (inl refl) is.2)
        (body-covers (body_at s.modules p) body (body-held p (known-shown p ElementTag h is.0 (λ x y. refl))) is.3)
    kind-covers p (Attribute name body) h is =
        body-covers (body_at s.modules p) body (body-held p (known-shown p AttributeTag h is.0 (λ x y. refl))) is.2
    kind-covers p (Comment body) h is = body-covers (body_at s.modules p) body (body-held p (known-shown p CommentTag h is.0 (λ x y. refl))) is.1
    kind-covers p (Pi name body) h is = body-covers (body_at s.modules p) body (body-held p (known-shown p PiTag h is.0 (λ x y. refl))) is.2
    kind-covers p (Message terminate body) h is =
        body-covers (body_at s.modules p) body (body-held p (known-shown p MessageTag h is.0 (λ x y. refl))) is.2
    kind-covers p (Variable' site name content) h is = content-covers p content (known-shown p VariableTag h is.0 (λ x y. refl)) is.3
    kind-covers p (Literal' start body) h is =
        covers-append used start.sets (body_sets body)
        (set-covers p h Other Literal xslt_uri start.sets
        (literal-tag (tag_at s.modules p) (is_top_level (records_at s.modules p.0) p.1) (is_in_extension (records_at s.modules p.0) p.1) is.0)
        is.0 refl (λ rs n. refl) refl (inr refl) is.1.sets)
        (body-covers (body_at s.modules p) body (body-held p (literal-shown p h is.0)) is.2)
    kind-covers p (Extension' fallbacks) h is =
        fallbacks-covers (children_with is_fallback s.modules p) fallbacks
        (shown-with p is_fallback h (λ tag e. ap (λ (r : Reading). shows r tag) is.0 ∙ e) fallback-known) is.1

    content-covers : (p : Place) (content : Content) → Shown p → IsContent s p content → Covers used (content_sets content)
    content-covers p Empty h is = tt
    content-covers p (Select e) h is = tt
    content-covers p (Fragment body) h is = body-covers (body_at s.modules p) body (body-held p h) is.2

    passed-covers : (ps : List Place) (passed : Passed) → All Shown ps → IsPassed s ps passed → Covers used (passed_sets passed)
    passed-covers ps (Passed' shape tag) h is = bindings-covers ps tag h is

    bindings-covers : {n : _} (ps : List Place) (tag : Row_of-Binding n) → All Shown ps → AreBindings s ps tag → Covers used (bindings_sets tag)
    bindings-covers ps end_of-Binding h is = tt
    bindings-covers [] (more_of-Binding site name content rest) h is = absurd is
    bindings-covers (p ∷ ps) (more_of-Binding site name content rest) h is =
        covers-append used (content_sets content) (bindings_sets rest) (content-covers p content (All-head Shown p ps h) is.2)
        (bindings-covers ps rest (All-tail Shown p ps h) is.3)

    choice-covers : (p : Place) (choice : Choice) → Shown p → IsChoice s p choice → Covers used (choice_sets choice)
    choice-covers p (Choice' shape tag otherwise) h is =
        covers-append used (whens_sets tag) (body_sets otherwise)
        (whens-covers (children_with is_when s.modules p) tag (shown-with p is_when h.held (λ tag e. h.shows_all tag) when-known) is.0)
        (body-covers (first_body s (children_with is_otherwise s.modules p)) otherwise
        (first-held (children_with is_otherwise s.modules p) (shown-with p is_otherwise h.held (λ tag e. h.shows_all tag) otherwise-known)) is.1)

    whens-covers : {n : _} (ps : List Place) (tag : Row_of-When n) → All Shown ps → AreWhens s ps tag → Covers used (whens_sets tag)
    whens-covers ps end_of-When h is = tt
    whens-covers [] (more_of-When (When' condition body) rest) h is = absurd is
    whens-covers (p ∷ ps) (more_of-When (When' condition body) rest) h is =
        covers-append used (body_sets body) (whens_sets rest)
        (body-covers (body_at s.modules p) body (body-held p (All-head Shown p ps h)) is.0.1) (whens-covers ps rest (All-tail Shown p ps h) is.1)

    fallbacks-covers : (ps : List Place) (fallbacks : Fallbacks) → All Shown ps → AreFallbacks s ps fallbacks → Covers used (fallbacks_sets fallbacks)
    fallbacks-covers ps (Fallbacks' shape tag) h is = bodies-covers ps tag h is

    bodies-covers : {n : _} (ps : List Place) (tag : Row_of-Body n) → All Shown ps → AreBodies s ps tag → Covers used (bodies_sets tag)
    bodies-covers ps end_of-Body h is = tt
    bodies-covers [] (more_of-Body body rest) h is = absurd is
    bodies-covers (p ∷ ps) (more_of-Body body rest) h is =
        covers-append used (body_sets body) (bodies_sets rest) (body-covers (body_at s.modules p) body (body-held p (All-head Shown p ps h)) is.0)
        (bodies-covers ps rest (All-tail Shown p ps h) is.1)
