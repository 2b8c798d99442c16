-- The values of attributes are as they have to be, where there is no static fault.
use Rattle.std.proofs.Common.{◌≡◌, ◌∙◌, ◌<◌, ℕ, ap, refl, sym, subst, Bool, true, false, List, [], length, cond, Option, None, Some, Result, Ok, Err}
use Rattle.std.proofs.lemmas.Bool.{and_parts, or_parts, false≢true, true≢false}
use Rattle.std.proofs.lemmas.Option.{none-some}
use Rattle.std.proofs.lemmas.Slice.Eq.{bytes_eq-Decides}
use Rattle.std.specs.List.{list_any}
use Rattle.std.specs.Option.{option_and_then, option_map_or, unwrap_or}
use Rattle.std.specs.Prelude.{◌&&◌, not, option_map, codes, is_some, IsOk, if◌then◌else◌}
use Rattle.std.specs.Str.{bytes_eq}
use Rattle.xs_compile.proofs.CleanLemmas.{attribute-clean, find-any, none-passing, read-known, read-literal, shows-none, value-clean}
use Rattle.xs_compile.specs.steps.Tags.{has_name, is_name, needs, takes_expression, takes_pattern, takes_template}
use Rattle.xs_structure.specs.Places.{IsIn}
use Rattle.xs_compile.specs.Labels.{label_at, label_in, label_of}
use Rattle.xs_structure.specs.Parts.{pairs_at, reading_at, tag_at, said_at, value_at}
use Rattle.xs_elements.specs.Attributes.{Allowed, allowed, attributes_of, is_allowed_name}
use Rattle.xs_elements.specs.declared.forms.Form.{Form}
use Rattle.xs_elements.specs.declared.forms.Form.TheVariants.{Version, Expression, KeyUse, TemplatePattern, KeyPattern, NumberPattern, ValueTemplate, Name, Sets, Prefixes, Priority}
use Rattle.xs_elements.specs.declared.reading.Reading.{Reading}
use Rattle.xs_elements.specs.declared.reading.Reading.TheVariants.{Known, Literal, Unread}
use Rattle.xs_elements.specs.declared.tags.Tag.{Tag}
use Rattle.xs_elements.specs.declared.tags.Tag.TheVariants.{DecimalFormat, Template, Unknown, Other, NoElement}
use Rattle.xs_elements.specs.Forms.{is_expression, is_pattern, is_value_template}
use Rattle.xs_elements.specs.Nodes.{attribute_of, has, scope_at}
use Rattle.xs_elements.specs.Reading.{allowed_form, form_by, form_of, has_read_attributes, is_in_extension, is_seen, is_xslt, reading_by, reading_of}
use Rattle.xs_elements.specs.Tags.{is_top_level, tag_named, xslt_uri}
use Rattle.xs_elements.specs.Values.{is_bad, is_number, is_qname, is_unbound, unsigned}
use Rattle.xs_modules.specs.Numbering.{ModuleData}
use Rattle.xs_static.specs.Expressions.{has_parse_fault, is_fault}
use Rattle.xs_static.specs.Faults.{Fault, Holds, IsFirstFault, arg_count, bad_attribute, bad_literal, bad_root, bad_syntax, is_misspelled, is_missing, lacks_both, lacks_some, missing_attribute, not_pattern, of_form, shows, some_value, too_nested, unbound_prefix, unknown_function}
use Rattle.xs_structure.specs.Modules.{Place, records_at}
use Rattle.xs_text.specs.Names.{QName, qname_of}
use Rattle.xs_trace.specs.Label.{Label}
use Rattle.xs_tree.specs.Kinds.{is_element_kind}
use Rattle.xs_tree.specs.Record.{Record, at, attributes, is_attribute, local_at, uri_at}
use Rattle.xs_parser.specs.declared.fault.Fault.{Fault as ParseFault}
use Rattle.xs_parser.specs.declared.fault.Fault.TheVariants.{Syntax, UnknownFunction, ArgCount, BadLiteral, TooNested, NotPattern, UnboundPrefix}
use Rattle.xs_parser.specs.Faults.{expr_in, outcome_in, pattern_in}
use Rattle.xs_parser.specs.Outcome.{number_of_fault}
use Rattle.xs_parser.specs.Templates.{template_in}

-- ---- outcomes without a fault
record IsClean (A : Type 0) (o : Result A ParseFault) : Type 0 where
  syntax_ok : is_fault number_of_fault 20 o ≡ false
  function : is_fault number_of_fault 21 o ≡ false
  count : is_fault number_of_fault 22 o ≡ false
  literal : is_fault number_of_fault 23 o ≡ false
  nested : is_fault number_of_fault 24 o ≡ false
  pattern : is_fault number_of_fault 25 o ≡ false
  prefix : is_fault number_of_fault 38 o ≡ false

clean-ok : {A : Type 0} (o : Result A ParseFault) → IsClean A o → IsOk o
clean-ok (Ok x) h = search
clean-ok (Err Syntax) h = absurd (true≢false h.syntax_ok)
clean-ok (Err (UnknownFunction at)) h = absurd (true≢false h.function)
clean-ok (Err (ArgCount at)) h = absurd (true≢false h.count)
clean-ok (Err (BadLiteral at)) h = absurd (true≢false h.literal)
clean-ok (Err (TooNested at)) h = absurd (true≢false h.nested)
clean-ok (Err (NotPattern at)) h = absurd (true≢false h.pattern)
clean-ok (Err (UnboundPrefix at)) h = absurd (true≢false h.prefix)

-- ---- forms of attributes
-- an element of XSLT has what has a form of these, and no other element
other-form : (local : List ℕ) (test : Form → Bool) → test Sets ≡ false → test Prefixes ≡ false → test Version ≡ false
    → option_map_or test (allowed_form Other local) false ≡ true → ⊥
other-form local test a b c h =
    by_names (bytes_eq (codes "use-attribute-sets") local) (bytes_eq (codes "exclude-result-prefixes") local)
    (bytes_eq (codes "extension-element-prefixes") local) (bytes_eq (codes "version") local) h
  where
    entry : Form → List ℕ → Allowed
    entry form name = record { name = name; is_required = false; form = form }

    by_names : (w x y z : Bool)
        → option_map_or test (option_map (λ (a : Allowed). a.form)
        (cond w (Some (entry Sets (codes "use-attribute-sets"))) (cond x (Some (entry Prefixes (codes "exclude-result-prefixes")))
        (cond y (Some (entry Prefixes (codes "extension-element-prefixes"))) (cond z (Some (entry Version (codes "version"))) None))))) false ≡ true → ⊥
    by_names true x y z g = false≢true (sym a ∙ g)
    by_names false true y z g = false≢true (sym b ∙ g)
    by_names false false true z g = false≢true (sym b ∙ g)
    by_names false false false true g = false≢true (sym c ∙ g)
    by_names false false false false g = false≢true g

pub form-known : (tag : Tag) (local : List ℕ) (test : Form → Bool) → test Sets ≡ false → test Prefixes ≡ false → test Version ≡ false
    → option_map_or test (allowed_form tag local) false ≡ true → (is_top is_extension : Bool) → reading_by tag is_top is_extension ≡ Known
form-known Other local test a b c h is_top is_extension = absurd (other-form local test a b c h)
form-known DecimalFormat local test a b c h is_top is_extension = absurd (false≢true h)
form-known Unknown local test a b c h is_top is_extension = absurd (false≢true h)
form-known NoElement local test a b c h is_top is_extension = absurd (false≢true h)
form-known tag local test a b c h is_top is_extension = refl

-- what is read is an element
pub read-element : (rs : List Record) (n : ℕ) (r : Reading) → reading_of rs n ≡ r → (r ≡ Unread → ⊥) → is_element_kind (at rs n).kind ≡ true
read-element rs n r e read = by_kind (is_element_kind (at rs n).kind) refl
  where
    tag_by : Bool → Tag
    tag_by b = if b then (if bytes_eq (uri_at rs n) xslt_uri then tag_named (local_at rs n) else Other) else NoElement

    by_kind : (b : Bool) → is_element_kind (at rs n).kind ≡ b → is_element_kind (at rs n).kind ≡ true
    by_kind true f = f
    by_kind false f =
        absurd (read (sym e ∙ ap (λ (b : Bool). reading_by (tag_by b) (is_top_level rs n) (is_in_extension rs n)) f))

known-read : Known ≡ Unread → ⊥
known-read e = cc (e)

literal-read : Literal ≡ Unread → ⊥
literal-read e = cc (e)

-- ---- an element that is looked at
module _ (ms : List ModuleData) (accepted : IsFirstFault ms None) (p : Place) (within : IsIn ms p) where
  abbrev rs : List Record
  rs = records_at ms p.0

  -- its attributes are read, and it shows no fault
  pub record Clean : Type 0 where
    pub read : has_read_attributes rs p.1 ≡ true
    pub shown : (fault : Fault) → (is_seen rs p.1 && shows fault ms p ≡ true → Holds fault ms p) → shows fault ms p ≡ false

  pub clean-known : is_seen rs p.1 ≡ true → reading_at ms p ≡ Known → Clean
  clean-known seen e =
      record {
        read = read-known rs p.1 e;
        shown = λ fault holds. shows-none ms accepted fault p within (read-element rs p.1 Known e known-read) holds seen;
      }

  pub clean-literal : is_seen rs p.1 ≡ true → reading_at ms p ≡ Literal → Clean
  clean-literal seen e =
      let element = read-element rs p.1 Literal e literal-read in
      record {
        read = read-literal rs p.1 e (shows-none ms accepted bad_root p within element (λ h. h) seen);
        shown = λ fault holds. shows-none ms accepted fault p within element holds seen;
      }

  -- no attribute that is read has a property that none has
  pub clean-all : Clean → (property : Form → List ℕ → Bool) → some_value rs p.1 property ≡ false → list_any (of_form rs p.1 property) (attributes rs p.1)
      ≡ false
  clean-all clean property h = attribute-clean rs p.1 property clean.read h

  parse-property : ℕ → Form → List ℕ → Bool
  parse-property which form value = has_parse_fault which form (scope_at rs p.1) value

  -- the seven faults of a text
  record Spelled (holds : ℕ → Type 0) : Type 0 where
    pub syntax_ok : holds 20
    pub function : holds 21
    pub count : holds 22
    pub literal : holds 23
    pub nested : holds 24
    pub pattern : holds 25
    pub prefix : holds 38

  spelled : Clean → Spelled (λ which. list_any (of_form rs p.1 (λ form value. has_parse_fault which form (scope_at rs p.1) value)) (attributes rs p.1) ≡ false)
  spelled clean =
      record {
        syntax_ok = clean-all clean (λ form value. has_parse_fault 20 form (scope_at rs p.1) value) (clean.shown bad_syntax (λ h. h));
        function = clean-all clean (λ form value. has_parse_fault 21 form (scope_at rs p.1) value) (clean.shown unknown_function (λ h. h));
        count = clean-all clean (λ form value. has_parse_fault 22 form (scope_at rs p.1) value) (clean.shown arg_count (λ h. h));
        literal = clean-all clean (λ form value. has_parse_fault 23 form (scope_at rs p.1) value) (clean.shown bad_literal (λ h. h));
        nested = clean-all clean (λ form value. has_parse_fault 24 form (scope_at rs p.1) value) (clean.shown too_nested (λ h. h));
        pattern = clean-all clean (λ form value. has_parse_fault 25 form (scope_at rs p.1) value) (clean.shown not_pattern (λ h. h));
        prefix = clean-all clean (λ form value. has_parse_fault 38 form (scope_at rs p.1) value)
            (or_parts (some_value rs p.1 (λ form value. is_unbound form (scope_at rs p.1) value)) (is_misspelled 38 rs p.1)
            (clean.shown unbound_prefix (λ h. h))).1;
      }

-- ---- which texts are parsed
expression-faults : (form : Form) (which : ℕ) (pairs : List (List ℕ × List ℕ)) (value : List ℕ) → is_expression form ≡ true
    → has_parse_fault which form pairs value ≡ is_fault number_of_fault which (outcome_in false pairs value)
expression-faults Expression which pairs value e = refl
expression-faults KeyUse which pairs value e = refl
expression-faults _ which pairs value e = absurd (false≢true e)

pattern-faults : (form : Form) (which : ℕ) (pairs : List (List ℕ × List ℕ)) (value : List ℕ) → is_pattern form ≡ true
    → has_parse_fault which form pairs value ≡ is_fault number_of_fault which (outcome_in true pairs value)
pattern-faults TemplatePattern which pairs value e = refl
pattern-faults KeyPattern which pairs value e = refl
pattern-faults NumberPattern which pairs value e = refl
pattern-faults _ which pairs value e = absurd (false≢true e)

template-faults : (form : Form) (which : ℕ) (pairs : List (List ℕ × List ℕ)) (value : List ℕ) → is_value_template form ≡ true
    → has_parse_fault which form pairs value ≡ is_fault number_of_fault which (template_in pairs value)
template-faults ValueTemplate which pairs value e = refl
template-faults _ which pairs value e = absurd (false≢true e)

-- the form that an attribute has
record HasForm (tag : Tag) (local : List ℕ) (test : Form → Bool) : Type 0 where
  form : Form
  formed : allowed_form tag local ≡ Some form
  passes : test form ≡ true

form-of : (tag : Tag) (local : List ℕ) (test : Form → Bool) → option_map_or test (allowed_form tag local) false ≡ true → HasForm tag local test
form-of tag local test h = by_form (allowed_form tag local) refl h
  where
    by_form : (o : Option Form) → allowed_form tag local ≡ o → option_map_or test o false ≡ true → HasForm tag local test
    by_form None e g = absurd (false≢true g)
    by_form (Some form) e g = record { form = form; formed = e; passes = g }

module _ (ms : List ModuleData) (accepted : IsFirstFault ms None) (p : Place) (within : IsIn ms p) (seen : is_seen (records_at ms p.0) p.1 ≡ true) where
  abbrev here : List Record
  here = records_at ms p.0

  pub known-by : (local : List ℕ) (test : Form → Bool) → test Sets ≡ false → test Prefixes ≡ false → test Version ≡ false
      → option_map_or test (allowed_form (tag_at ms p) local) false ≡ true → reading_at ms p ≡ Known
  known-by local test a b c h = form-known (tag_at ms p) local test a b c h (is_top_level here p.1) (is_in_extension here p.1)

  -- the value of an attribute of an element of XSLT has none of the properties that are faults
  pub value-of : (local value : List ℕ) (property : Form → List ℕ → Bool) (form : Form) → reading_at ms p ≡ Known
      → list_any (of_form here p.1 property) (attributes here p.1) ≡ false → value_at ms p local ≡ Some value → allowed_form (tag_at ms p) local ≡ Some form
      → property form value ≡ false
  value-of local value property form known clean h formed =
      value-clean here p.1 property [] local value form clean h (ap (λ (r : Reading). form_by r (tag_at ms p) [] local) known ∙ formed)

  parsed-by : {A : Type 0} (local value : List ℕ) (test : Form → Bool) (o : Result A ParseFault) → test Sets ≡ false → test Prefixes ≡ false → test Version
      ≡ false
      → ((form : Form) (which : ℕ) → test form ≡ true → has_parse_fault which form (pairs_at ms p) value ≡ is_fault number_of_fault which o)
      → option_map_or test (allowed_form (tag_at ms p) local) false ≡ true → value_at ms p local ≡ Some value → IsOk o
  parsed-by {A} local value test o a b c faults h e =
      let known = known-by local test a b c h in
      let f = form-of (tag_at ms p) local test h in
      let all = spelled ms accepted p within (clean-known ms accepted p within seen known) in
      let at : (which : ℕ) → list_any (of_form here p.1 (λ form value. has_parse_fault which form (scope_at here p.1) value)) (attributes here p.1) ≡ false
      → is_fault number_of_fault which o ≡ false
      = λ which clean. sym (faults f.form which f.passes)
      ∙ value-of local value (λ form value. has_parse_fault which form (scope_at here p.1) value) f.form known clean e f.formed in
      clean-ok o (record {
        syntax_ok = at 20 all.syntax_ok;
        function = at 21 all.function;
        count = at 22 all.count;
        literal = at 23 all.literal;
        nested = at 24 all.nested;
        pattern = at 25 all.pattern;
        prefix = at 38 all.prefix;
      })

  pub valid_expr : (local value : List ℕ) → takes_expression (tag_at ms p) local ≡ true → value_at ms p local ≡ Some value
      → IsOk (expr_in (pairs_at ms p) value)
  valid_expr local value h e =
      parsed-by local value is_expression (outcome_in false (pairs_at ms p) value) refl refl refl
      (λ form which. expression-faults form which (pairs_at ms p) value) h e

  pub valid_pattern : (local value : List ℕ) → takes_pattern (tag_at ms p) local ≡ true → value_at ms p local ≡ Some value
      → IsOk (pattern_in (pairs_at ms p) value)
  valid_pattern local value h e =
      parsed-by local value is_pattern (outcome_in true (pairs_at ms p) value) refl refl refl
      (λ form which. pattern-faults form which (pairs_at ms p) value) h e

  pub valid_template : (local value : List ℕ) → takes_template (tag_at ms p) local ≡ true → value_at ms p local ≡ Some value
      → IsOk (template_in (pairs_at ms p) value)
  valid_template local value h e =
      parsed-by local value is_value_template (template_in (pairs_at ms p) value) refl refl refl
      (λ form which. template-faults form which (pairs_at ms p) value) h e

  -- ---- attributes that have to be there
  pub needed : (local : List ℕ) → reading_at ms p ≡ Known → needs (tag_at ms p) local ≡ true → (value : List ℕ) × (value_at ms p local ≡ Some value)
  needed local known h = by_entry (allowed (tag_at ms p) local) refl h
    where
      lacks : list_any (is_missing here p.1) (attributes_of (tag_at ms p)) ≡ false
      lacks =
          let clean = clean-known ms accepted p within seen known in
          (or_parts (list_any (is_missing here p.1) (attributes_of (tag_at ms p))) (lacks_both here p.1)
          (second (has_read_attributes here p.1) (lacks_some here p.1) clean.read (clean.shown missing_attribute (λ g. g)))).0
        where
          second : (b c : Bool) → b ≡ true → (b && c) ≡ false → c ≡ false
          second true c e g = g
          second false c e g = absurd (false≢true e)

      there : (a b : Bool) → a ≡ true → (a && not b) ≡ false → b ≡ true
      there true true e g = refl
      there true false e g = absurd (true≢false g)
      there false b e g = absurd (false≢true e)

      by_value : (o : Option ℕ) → attribute_of here p.1 [] local ≡ o → is_some o ≡ true → (value : List ℕ) × (value_at ms p local ≡ Some value)
      by_value None e g = absurd (false≢true g)
      by_value (Some a) e g = ((at here a).text, ap (option_map (λ a. (at here a).text)) e)

      by_entry : (o : Option Allowed) → allowed (tag_at ms p) local ≡ o → option_map_or (λ (a : Allowed). a.is_required) o false ≡ true
          → (value : List ℕ) × (value_at ms p local ≡ Some value)
      by_entry None e g = absurd (false≢true g)
      by_entry (Some a) e g =
          let found = find-any (is_missing here p.1) (is_allowed_name local) (attributes_of (tag_at ms p)) a e lacks in
          let name_is : a.name ≡ local = (bytes_eq-Decides a.name local).0 found.0 in
          by_value (attribute_of here p.1 [] local) refl
          (subst (λ x. has here p.1 x ≡ true) name_is (there a.is_required (has here p.1 a.name) g found.1))

  said-is : (local value : List ℕ) → value_at ms p local ≡ Some value → said_at ms p local ≡ value
  said-is local value e = ap (λ (o : Option (List ℕ)). unwrap_or o []) e

  pub said_expr : (local : List ℕ) → takes_expression (tag_at ms p) local ≡ true → needs (tag_at ms p) local ≡ true
      → IsOk (expr_in (pairs_at ms p) (said_at ms p local))
  said_expr local h n =
      let v = needed local (known-by local is_expression refl refl refl h) n in
      subst (λ x. IsOk (expr_in (pairs_at ms p) x)) (sym (said-is local v.0 v.1)) (valid_expr local v.0 h v.1)

  pub said_pattern : (local : List ℕ) → takes_pattern (tag_at ms p) local ≡ true → needs (tag_at ms p) local ≡ true
      → IsOk (pattern_in (pairs_at ms p) (said_at ms p local))
  said_pattern local h n =
      let v = needed local (known-by local is_pattern refl refl refl h) n in
      subst (λ x. IsOk (pattern_in (pairs_at ms p) x)) (sym (said-is local v.0 v.1)) (valid_pattern local v.0 h v.1)

  pub said_template : (local : List ℕ) → takes_template (tag_at ms p) local ≡ true → needs (tag_at ms p) local ≡ true
      → IsOk (template_in (pairs_at ms p) (said_at ms p local))
  said_template local h n =
      let v = needed local (known-by local is_value_template refl refl refl h) n in
      subst (λ x. IsOk (template_in (pairs_at ms p) x)) (sym (said-is local v.0 v.1)) (valid_template local v.0 h v.1)

  -- ---- values that are no expressions
  good : (local value : List ℕ) (form : Form) → reading_at ms p ≡ Known → allowed_form (tag_at ms p) local ≡ Some form → value_at ms p local ≡ Some value
      → is_bad form value ≡ false
  good local value form known formed e =
      let clean = clean-known ms accepted p within seen known in
      value-of local value is_bad form known (clean-all ms accepted p within clean is_bad (clean.shown bad_attribute (λ g. g))) e formed

  -- an element that has to have a name has one
  pub named : has_name (tag_at ms p) ≡ true → label_at ms p ≡ None → ⊥
  named h none =
      let parts = and_parts (option_map_or is_name (allowed_form (tag_at ms p) (codes "name")) false) (needs (tag_at ms p) (codes "name")) h in
      let known = known-by (codes "name") is_name refl refl refl parts.0 in
      let v = needed (codes "name") known parts.1 in
      let f = form-of (tag_at ms p) (codes "name") is_name parts.0 in
      by_name v.0 (name-good f.form f.passes v.0 (good (codes "name") v.0 f.form known f.formed v.1))
      (sym (ap (option_and_then (label_in (pairs_at ms p))) v.1) ∙ none)
    where
      name-good : (form : Form) → is_name form ≡ true → (value : List ℕ) → is_bad form value ≡ false → not (is_qname value) ≡ false
      name-good Name e value g = g
      name-good _ e value g = absurd (false≢true e)

      by_q : (o : Option QName) → not (is_some o) ≡ false → option_map (label_of (pairs_at ms p)) o ≡ None → ⊥
      by_q None g e = true≢false g
      by_q (Some q) g e = none-some {A = Label} (label_of (pairs_at ms p) q) (sym e)

      by_name : (value : List ℕ) → not (is_qname value) ≡ false → label_in (pairs_at ms p) value ≡ None → ⊥
      by_name value g e = by_q (qname_of value) g e

  -- a priority is a number
  pub valid_priority : (value : List ℕ) → tag_at ms p ≡ Template → value_at ms p (codes "priority") ≡ Some value → is_number (unsigned value) ≡ true
  valid_priority value tag e =
      let known : reading_at ms p ≡ Known = ap (λ (r : Tag). reading_by r (is_top_level here p.1) (is_in_extension here p.1)) tag in
      let formed : allowed_form (tag_at ms p) (codes "priority") ≡ Some Priority = ap (λ (r : Tag). allowed_form r (codes "priority")) tag in
      not-not (is_number (unsigned value)) (good (codes "priority") value Priority known formed e)
    where
      not-not : (b : Bool) → not b ≡ false → b ≡ true
      not-not true g = refl
      not-not false g = absurd (true≢false g)

  -- ---- attributes of literal elements
  pub valid_put : (a : ℕ) → reading_at ms p ≡ Literal → a < length here → is_attribute here p.1 a ≡ true → is_xslt (uri_at here a) ≡ false
      → IsOk (template_in (pairs_at ms p) (at here a).text)
  valid_put a literal inside owned other =
      let all = spelled ms accepted p within (clean-literal ms accepted p within seen literal) in
      let formed : form_of here p.1 a ≡ Some ValueTemplate
      = ap (λ (r : Reading). form_by r (tag_at ms p) (uri_at here a) (local_at here a)) literal
      ∙ ap (λ (b : Bool). if b then allowed_form (tag_at ms p) (local_at here a) else Some ValueTemplate) other in
      let own : (which : ℕ) → list_any (of_form here p.1 (λ form value. has_parse_fault which form (scope_at here p.1) value)) (attributes here p.1) ≡ false
      → is_fault number_of_fault which (template_in (pairs_at ms p) (at here a).text) ≡ false
      = λ which clean.
      sym (ap (λ (o : Option Form). option_map_or (λ form. has_parse_fault which form (scope_at here p.1) (at here a).text) o false) formed)
      ∙ none-passing (of_form here p.1 (λ form value. has_parse_fault which form (scope_at here p.1) value)) (is_attribute here p.1) (length here) a inside
      owned
      clean in
      clean-ok (template_in (pairs_at ms p) (at here a).text) (record {
        syntax_ok = own 20 all.syntax_ok;
        function = own 21 all.function;
        count = own 22 all.count;
        literal = own 23 all.literal;
        nested = own 24 all.nested;
        pattern = own 25 all.pattern;
        prefix = own 38 all.prefix;
      })
