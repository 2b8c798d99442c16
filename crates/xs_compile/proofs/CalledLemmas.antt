-- The name by which a template is called.
use Rattle.std.proofs.Common.{◌≡◌, ◌∙◌, ap, refl, sym, ℕ, List, Bool, true, false, Option, Some, None}
use Rattle.std.specs.Option.{option_map_or}
use Rattle.std.specs.Prelude.{◌&&◌, if◌then◌else◌}
use Rattle.xs_compile.specs.Counted.{counted, named}
use Rattle.xs_compile.specs.declared.counted.Kind.{Kind}
use Rattle.xs_compile.specs.declared.counted.Kind.TheVariants.{Template}
use Rattle.xs_structure.specs.Parts.{name_at, tag_at}
use Rattle.xs_compile.specs.steps.Counting.{is_called, name_of}
use Rattle.xs_compile.specs.Tables.{kind_test}
use Rattle.xs_elements.specs.Nodes.{Name, is_named, is_same_name}
use Rattle.xs_elements.specs.Tags.{is_template}
use Rattle.xs_modules.specs.Numbering.{ModuleData}
use Rattle.xs_structure.specs.Modules.{Place, is_same_place}
use Rattle.xs_structure.specs.Order.{declares}
use Rattle.xs_static.proofs.SameNameLemmas.{same-true}

and-true : (t : Bool) → t ≡ (t && true)
and-true true = refl
and-true false = refl

and-false : (t : Bool) → false ≡ (t && false)
and-false true = refl
and-false false = refl

-- a declaration of a kind has the name that it says
if-kind : (name : Name) (own : Option Name) (b : Bool) → (b && is_named name own) ≡ is_named name (if b then own else None)
if-kind name own true = refl
if-kind name own false = refl

module _ (ms : List ModuleData) (p : Place) where
  pub declared_name : (kind : Kind) (name : Name) → declares (kind_test kind) ms name p ≡ is_named name (name_of ms kind p)
  declared_name kind name = if-kind name (name_at ms p) (kind_test kind (tag_at ms p))

  module _ (found : List ℕ → List ℕ → Option Place)
      (all : (uri local : List ℕ) → found uri local ≡ counted ms (named is_template ms (uri, local))) where
    abbrev counts : Name → Bool
    counts name = option_map_or (is_same_place p) (found name.0 name.1) false

    if-counted : (name own : Name) (t c : Bool) → is_same_name name own ≡ t → is_named name (if c then Some own else None) ≡ (t && c)
    if-counted name own t true e = e ∙ and-true t
    if-counted name own t false e = and-false t

    both : (name own : Name) (t c : Bool) → is_same_name name own ≡ t → counts own ≡ c → (is_same_name name own && counts name) ≡ (t && c)
    both name own true c e f = ap (λ (b : Bool). b && counts name) e ∙ ap counts (same-true name own e) ∙ f
    both name own false c e f = ap (λ (b : Bool). b && counts name) e

    called : (name : Name) → (is_named name (name_of ms Template p) && counts name) ≡ is_called ms name p
    called name =
        ap (λ (b : Bool). b && counts name) (sym (declared_name Template name))
        ∙ ap (λ (o : Option Place). declares is_template ms name p && option_map_or (is_same_place p) o false) (all name.0 name.1)

    -- of a template with a name, by whether it counts for it
    pub called_as : (name own : Name) (c : Bool) → name_of ms Template p ≡ Some own → counts own ≡ c
        → is_named name (if c then Some own else None) ≡ is_called ms name p
    called_as name own c e f =
        if-counted name own (is_same_name name own) c refl
        ∙ sym (both name own (is_same_name name own) c refl f)
        ∙ ap (λ (o : Option Name). is_named name o && counts name) (sym e)
        ∙ called name

    pub not_called : (name : Name) → name_of ms Template p ≡ None → false ≡ is_called ms name p
    not_called name e = ap (λ (o : Option Name). is_named name o && counts name) (sym e) ∙ called name
