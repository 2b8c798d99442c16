-- The least number of the faults of one element.
use Rattle.std.proofs.Common.{◌≡◌, ◌∙◌, ℕ, ap, refl, sym, subst, List, [], ◌∷◌}
use Rattle.std.proofs.Math.Path.{fun_ext}
use Rattle.std.specs.List.{list_any}
use Rattle.std.specs.Option.{option_map_or}
use Rattle.std.specs.Prelude.{Bool, true, false, ◌&&◌, ◌||◌, Option, Some, None, if◌then◌else◌}
use Rattle.xs_elements.specs.declared.forms.Form.{Form}
use Rattle.xs_elements.specs.Nodes.{scope_at}
use Rattle.xs_elements.specs.Reading.{form_of, has_read_attributes}
use Rattle.xs_elements.specs.Tags.{is_decimal_format, tag_of}
use Rattle.xs_elements.specs.Values.{is_unbound}
use Rattle.xs_static.proofs.BooleanLemmas.{and-false, or-false}
use Rattle.xs_static.proofs.LeastLemmas.{joined, one, only, same-least}
use Rattle.xs_static.proofs.ValueLemmas.{value_is_least}
use Rattle.xs_static.specs.Expressions.{has_parse_fault}
use Rattle.xs_static.specs.Faults.{Fault, bad_syntax, unknown_function, arg_count, bad_literal, too_nested, not_pattern, bad_root, unsupported, missing_attribute, unknown_attribute, bad_attribute, unbound_prefix, unknown_variable, forbidden, is_bad_root, lacks_some}
use Rattle.xs_static.specs.steps.Elements.{attribute_least, attributes_least, if_holds, least_among, own_least, value_least}
use Rattle.xs_static.specs.steps.Least.{lesser}
use Rattle.xs_static.specs.steps.Shown.{IsLeastNumber, has_in_attributes, has_in_value, has_own}
use Rattle.xs_tree.specs.Record.{Record, at, attributes}

-- ---- by itself
own-shown : (rs : List Record) (n : ℕ) (f : Fault)
    → has_own rs n f ≡ (only bad_root (is_bad_root rs n) f || only unsupported (is_decimal_format (tag_of rs n)) f)
own-shown rs n bad_root = sym (or-false (is_bad_root rs n))
own-shown rs n unsupported = refl
own-shown rs n f = refl

pub own_is_least : (rs : List Record) (n : ℕ) → IsLeastNumber (has_own rs n) (own_least rs n)
own_is_least rs n =
    joined (has_own rs n) (only bad_root (is_bad_root rs n)) (only unsupported (is_decimal_format (tag_of rs n))) (own-shown rs n) _ _
    (one bad_root (is_bad_root rs n)) (one unsupported (is_decimal_format (tag_of rs n)))

-- ---- in its attributes
module _ (rs : List Record) (n : ℕ) (known : Form → List ℕ → List ℕ → Bool) where
  abbrev in_form : List ℕ → Option Form → Fault → Bool
  in_form text form f = option_map_or (λ form. has_in_value form (scope_at rs n) text (known form) f) form (only unknown_attribute true f)

  form-least : (text : List ℕ) (form : Option Form)
      → IsLeastNumber (in_form text form) (option_map_or (λ form. value_least form (scope_at rs n) text (known form)) form (Some 35))
  form-least text None = one unknown_attribute true
  form-least text (Some form) = value_is_least form (scope_at rs n) text (known form)

  abbrev in_attribute : Fault → ℕ → Bool
  in_attribute f a = in_form (at rs a).text (form_of rs n a) f

  among-least : (xs : List ℕ) → IsLeastNumber (λ f. list_any (in_attribute f) xs) (least_among rs n known xs)
  among-least [] = λ f. refl
  among-least (a ∷ xs) =
      joined (λ f. list_any (in_attribute f) (a ∷ xs)) (λ f. in_attribute f a) (λ f. list_any (in_attribute f) xs) (λ f. refl)
      (attribute_least rs n known a) (least_among rs n known xs) (form-least (at rs a).text (form_of rs n a)) (among-least xs)

  abbrev in_some : Fault → Bool
  in_some f = only missing_attribute (lacks_some rs n) f || list_any (in_attribute f) (attributes rs n)

  read-least : (reads : Bool)
      → IsLeastNumber (λ f. reads && in_some f)
      (if reads then lesser (if_holds (lacks_some rs n) 34) (least_among rs n known (attributes rs n)) else None)
  read-least true =
      joined in_some (only missing_attribute (lacks_some rs n)) (λ f. list_any (in_attribute f) (attributes rs n)) (λ f. refl)
      (if_holds (lacks_some rs n) 34) (least_among rs n known (attributes rs n)) (one missing_attribute (lacks_some rs n)) (among-least (attributes rs n))
  read-least false = λ f. refl

  -- no attribute has what no attribute can have
  nothing-in : (form : Option Form) → option_map_or (λ form. false) form false ≡ false
  nothing-in None = refl
  nothing-in (Some form) = refl

  nothing : (xs : List ℕ) → list_any (λ a. option_map_or (λ form. false) (form_of rs n a) false) xs ≡ false
  nothing [] = refl
  nothing (a ∷ xs) = ap (λ b. b || list_any (λ a. option_map_or (λ form. false) (form_of rs n a) false) xs) (nothing-in (form_of rs n a)) ∙ nothing xs

  none-shown : (reads : Bool) → false ≡ (reads && list_any (λ a. option_map_or (λ form. false) (form_of rs n a) false) (attributes rs n))
  none-shown reads = sym (ap (λ b. reads && b) (nothing (attributes rs n)) ∙ and-false reads)

  lacking-shown : (reads lacks : Bool)
      → (reads && lacks) ≡ (reads && (lacks || list_any (λ a. option_map_or (λ form. false) (form_of rs n a) false) (attributes rs n)))
  lacking-shown reads lacks = sym (ap (λ b. reads && (lacks || b)) (nothing (attributes rs n)) ∙ ap (λ b. reads && b) (or-false lacks))

  -- what one of two sets of attributes has
  or-swap : (a b c d : Bool) → ((a || b) || (c || d)) ≡ ((a || c) || (b || d))
  or-swap true b c d = refl
  or-swap false true true d = refl
  or-swap false true false d = refl
  or-swap false false c d = refl

  both-in : (p q : Form → Bool) (form : Option Form)
      → option_map_or (λ form. p form || q form) form false ≡ (option_map_or p form false || option_map_or q form false)
  both-in p q None = refl
  both-in p q (Some form) = refl

  both : (p q : ℕ → Form → Bool) (xs : List ℕ)
      → list_any (λ a. option_map_or (λ form. p a form || q a form) (form_of rs n a) false) xs
      ≡ (list_any (λ a. option_map_or (p a) (form_of rs n a) false) xs || list_any (λ a. option_map_or (q a) (form_of rs n a) false) xs)
  both p q [] = refl
  both p q (a ∷ xs) =
      ap (λ b. b || list_any (λ a. option_map_or (λ form. p a form || q a form) (form_of rs n a) false) xs) (both-in (p a) (q a) (form_of rs n a))
      ∙ ap (λ b. (option_map_or (p a) (form_of rs n a) false || option_map_or (q a) (form_of rs n a) false) || b) (both p q xs)
      ∙ or-swap (option_map_or (p a) (form_of rs n a) false) (option_map_or (q a) (form_of rs n a) false)
      (list_any (λ a. option_map_or (p a) (form_of rs n a) false) xs) (list_any (λ a. option_map_or (q a) (form_of rs n a) false) xs)

  read-both : (reads a b : Bool) → ((reads && a) || (reads && b)) ≡ (reads && (a || b))
  read-both true a b = refl
  read-both false a b = refl

  abbrev unbound : ℕ → Form → Bool
  unbound a form = is_unbound form (scope_at rs n) (at rs a).text

  abbrev misspelled : ℕ → Form → Bool
  misspelled a form = has_parse_fault 38 form (scope_at rs n) (at rs a).text

  attributes-shown : (f : Fault) → has_in_attributes rs n known f ≡ (has_read_attributes rs n && in_some f)
  attributes-shown bad_syntax = refl
  attributes-shown unknown_function = refl
  attributes-shown arg_count = refl
  attributes-shown bad_literal = refl
  attributes-shown too_nested = refl
  attributes-shown not_pattern = refl
  attributes-shown unsupported = refl
  attributes-shown missing_attribute = lacking-shown (has_read_attributes rs n) (lacks_some rs n)
  attributes-shown unknown_attribute = refl
  attributes-shown bad_attribute = refl
  attributes-shown unbound_prefix =
      read-both (has_read_attributes rs n) (list_any (λ a. option_map_or (unbound a) (form_of rs n a) false) (attributes rs n))
      (list_any (λ a. option_map_or (misspelled a) (form_of rs n a) false) (attributes rs n))
      ∙ ap (λ b. has_read_attributes rs n && b) (sym (both unbound misspelled (attributes rs n)))
  attributes-shown unknown_variable = refl
  attributes-shown forbidden = refl
  attributes-shown f = none-shown (has_read_attributes rs n)

  all-least : IsLeastNumber (has_in_attributes rs n known) (attributes_least rs n known)
  all-least =
      same-least (λ f. has_read_attributes rs n && in_some f) (has_in_attributes rs n known) attributes-shown (attributes_least rs n known)
      (read-least (has_read_attributes rs n))

-- and where the same variables are known
pub attributes_are_least : (rs : List Record) (n : ℕ) (known seen : Form → List ℕ → List ℕ → Bool)
    → ((form : Form) (uri local : List ℕ) → known form uri local ≡ seen form uri local)
    → IsLeastNumber (has_in_attributes rs n seen) (attributes_least rs n known)
attributes_are_least rs n known seen same =
    subst (λ k. IsLeastNumber (has_in_attributes rs n seen) (attributes_least rs n k))
    (sym (fun_ext (λ form. fun_ext (λ uri. fun_ext (λ local. same form uri local))))) (all-least rs n seen)
