-- The template that an element calls is there.
use Rattle.std.proofs.Common.{◌≡◌, ◌∙◌, ap, refl, sym, subst, Bool, true, false, List, ℕ, Option, Some, None}
use Rattle.std.proofs.lemmas.Bool.{or_parts, true≢false}
use Rattle.std.proofs.lemmas.Option.{none-some}
use Rattle.std.specs.Option.{option_and_then, option_map_or}
use Rattle.std.specs.Prelude.{◌&&◌, not, codes, is_some, if◌then◌else◌}
use Rattle.xs_compile.proofs.KnownLemmas.{known_template}
use Rattle.xs_compile.proofs.TagLemmas.{tag-known}
use Rattle.xs_compile.proofs.ValidLemmas.{clean-all, clean-known, needed, value-of}
use Rattle.xs_compile.specs.declared.compiler.Compiler.{Compiler}
use Rattle.xs_compile.specs.Counted.{template_number}
use Rattle.xs_structure.specs.Parts.{name_at, pairs_at, reading_at, tag_at}
use Rattle.xs_compile.specs.Tables.{number_in}
use Rattle.xs_compile.specs.steps.Tags.{needs}
use Rattle.xs_compile.specs.steps.State.{IsReady, modules_of}
use Rattle.xs_elements.specs.declared.forms.Form.{Form}
use Rattle.xs_elements.specs.declared.forms.Form.TheVariants.{Name as NameForm}
use Rattle.xs_elements.specs.declared.reading.Reading.TheVariants.{Known}
use Rattle.xs_elements.specs.declared.tags.Tag.{Tag}
use Rattle.xs_elements.specs.declared.tags.Tag.TheVariants.{CallTemplate}
use Rattle.xs_elements.specs.Nodes.{Name, expanded, if_bound, own_name, scope_at}
use Rattle.xs_elements.specs.Reading.{allowed_form}
use Rattle.xs_elements.specs.Tags.{is_call_template}
use Rattle.xs_elements.specs.Values.{is_bad, is_qname, is_unbound, is_unbound_name}
use Rattle.xs_static.specs.Faults.{bad_attribute, is_misspelled, some_value, unbound_prefix, unknown_template}
use Rattle.xs_structure.specs.Modules.{Place, records_at}
use Rattle.xs_static.specs.Names.{is_template_name}
use Rattle.xs_text.specs.Names.{QName, qname_of}
use Rattle.xs_xpath.specs.Names.{is_bound, uri_of}

unnegated : (b : Bool) → not b ≡ false → b ≡ true
unnegated true e = refl
unnegated false e = absurd (true≢false e)

-- a name whose prefix is bound represents an expanded name
pub expanded-some : (pairs : List (List ℕ × List ℕ)) (value : List ℕ) → not (is_qname value) ≡ false → is_unbound_name pairs value ≡ false
    → (name : Name) × (expanded pairs value ≡ Some name)
expanded-some pairs value qname bound = by_q (qname_of value) refl qname bound
  where
    by_bound : (q : QName) (b : Bool) → is_bound pairs q.prefix ≡ b → not b ≡ false → (name : Name) × (if_bound pairs q ≡ Some name)
    by_bound q true e h = ((uri_of pairs q.prefix, q.local), ap (λ (b : Bool). if b then Some (uri_of pairs q.prefix, q.local) else None) e)
    by_bound q false e h = absurd (true≢false h)

    by_q : (o : Option QName) → qname_of value ≡ o → not (is_some o) ≡ false → option_map_or (λ q. not (is_bound pairs q.prefix)) o false ≡ false
        → (name : Name) × (option_and_then (if_bound pairs) (qname_of value) ≡ Some name)
    by_q None e g h = absurd (true≢false g)
    by_q (Some q) e g h =
        let found = by_bound q (is_bound pairs q.prefix) refl h in
        (found.0, ap (option_and_then (if_bound pairs)) e ∙ found.1)

module _ (c : Compiler) (p : Place) (ready : IsReady c p) (tag : tag_at (modules_of c) p ≡ CallTemplate) where
  called-name : (name : Name) × (name_at (modules_of c) p ≡ Some name) × (is_template_name (modules_of c) name ≡ true)
  called-name =
      let ms = modules_of c in
      let rs = records_at ms p.0 in
      let accepted = ready.state.accepted in
      let known : reading_at ms p ≡ Known = tag-known ms p CallTemplate tag (λ a b. refl) in
      let clean = clean-known ms accepted p ready.within ready.seen known in
      let v = needed ms accepted p ready.within ready.seen (codes "name") known (ap (λ (r : Tag). needs r (codes "name")) tag) in
      let formed : allowed_form (tag_at ms p) (codes "name") ≡ Some NameForm = ap (λ (r : Tag). allowed_form r (codes "name")) tag in
      let qname = value-of ms accepted p ready.within ready.seen (codes "name") v.0 is_bad NameForm known
      (clean-all ms accepted p ready.within clean is_bad (clean.shown bad_attribute (λ g. g))) v.1 formed in
      let unbound : Form → List ℕ → Bool = λ form value. is_unbound form (scope_at rs p.1) value in
      let bound = value-of ms accepted p ready.within ready.seen (codes "name") v.0 unbound NameForm known
      (clean-all ms accepted p ready.within clean unbound
      (or_parts (some_value rs p.1 unbound) (is_misspelled 38 rs p.1) (clean.shown unbound_prefix (λ g. g))).0) v.1 formed in
      let name = expanded-some (pairs_at ms p) v.0 qname bound in
      let own : name_at ms p ≡ Some name.0 = ap (option_and_then (expanded (scope_at rs p.1))) v.1 ∙ name.1 in (
        name.0,
        own,
        unnegated (is_template_name ms name.0)
            (sym (ap (λ (r : Tag). is_call_template r && option_map_or (λ name. not (is_template_name ms name)) (own_name rs p.1) false) tag
            ∙ ap (λ (o : Option Name). option_map_or (λ name. not (is_template_name ms name)) o false) own)
            ∙ clean.shown unknown_template (λ g. g)),
      )

  pub call-named : name_at (modules_of c) p ≡ None → ⊥
  call-named none = none-some called-name.0 (sym none ∙ called-name.1)

  pub call-known : (uri local : List ℕ) → name_at (modules_of c) p ≡ Some (uri, local) → number_in c.templates uri local ≡ None → ⊥
  call-known uri local named none =
      let same : called-name.0 ≡ (uri, local) = some-same called-name.0 (uri, local) (sym called-name.1 ∙ named) in
      let k = known_template (modules_of c) (uri, local) (subst (λ (name : Name). is_template_name (modules_of c) name ≡ true) same called-name.2) in
      none-some k.0 (sym none ∙ ready.state.templates uri local ∙ k.1)
    where
      some-same : (a b : Name) → Some a ≡ Some b → a ≡ b
      some-same a b e = cc (e)

  pub call-number : (uri local : List ℕ) (t : ℕ) → name_at (modules_of c) p ≡ Some (uri, local) → number_in c.templates uri local ≡ Some t
      → option_and_then (template_number (modules_of c)) (name_at (modules_of c) p) ≡ Some t
  call-number uri local t named found =
      ap (option_and_then (template_number (modules_of c))) named ∙ sym (ready.state.templates uri local) ∙ found
