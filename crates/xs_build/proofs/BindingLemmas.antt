-- Bindings that are taken over, added and looked up.
use Rattle.std.proofs.Common.{◌≡◌, ℕ, List, [], ◌∷◌, ◌++◌, true, false, Some, length, eqb, refl, sym, ◌∙◌, ap, arith, unwrap_or, option_map, map}
use Rattle.std.proofs.lemmas.List.{map-append}
use Rattle.std.specs.Prelude.{not}
use Rattle.std.specs.List.{AllZip}
use Rattle.std.specs.BTreeMap.{insert_entry, is_at}
use Rattle.std.specs.Map.{remove_entry}
use Rattle.std.proofs.lemmas.List.Elements.{same_from_all_zip}
use Rattle.std.proofs.lemmas.Bool.Decides.{nat_tests}
use Rattle.xs_tree.specs.Names.{order_of_texts}
use Rattle.xs_build.specs.declared.opened.Opened.{Opened}
use Rattle.xs_build.specs.declared.scope.Declared.{Declared}
use Rattle.xs_build.specs.steps.Views.{binding}
use Rattle.xs_build.specs.steps.Lines.{scope_of}
use Rattle.xs_build.specs.steps.Invariant.{HasBindings}
use Rattle.xs_build.specs.Namespaces.{Binding, Bindings, is_empty, bound, scope_with, uri_in, uri_of, named, element_name, attribute_name}

same_pair : (x y : Binding) → (y.0 ≡ x.0) × (y.1 ≡ x.1) → y ≡ x
same_pair x y h = ap (λ (k : List ℕ). (k, y.1)) h.0 ∙ ap (λ (v : List ℕ). (x.0, v)) h.1

-- entries that are clones of each other
pub same_entries : (xs ys : Bindings) → AllZip (λ p q. (q.0 ≡ p.0) × (q.1 ≡ p.1)) xs ys → ys ≡ xs
same_entries xs ys h = same_from_all_zip (λ (p q : Binding). (q.0 ≡ p.0) × (q.1 ≡ p.1)) xs ys h same_pair

-- what `bound` does, by the length of the URI
pub undone : (prefix uri : List ℕ) (scope : Bindings) → eqb (length uri) 0 ≡ true
    → bound (prefix, uri) scope ≡ remove_entry (is_at (order_of_texts prefix)) scope
undone prefix [] scope h = refl
undone prefix (u ∷ uri) scope h = absurd (grind (arith, nat_tests))

pub added : (prefix uri : List ℕ) (scope : Bindings) → eqb (length uri) 0 ≡ false → bound (prefix, uri) scope ≡ insert_entry order_of_texts scope prefix uri
added prefix [] scope h = absurd (cc)
added prefix (u ∷ uri) scope h = refl

-- the last declaration is bound first
pub with_last : (bs : List Binding) (b : Binding) (outer : Bindings) → scope_with (bs ++ b ∷ []) outer ≡ scope_with bs (bound b outer)
unfolding scope_with
with_last [] b outer = refl
with_last (d ∷ bs) b outer = ap (bound d) (with_last bs b outer)

pub with_none : (ds : List Declared) (outer : Bindings) → length ds ≡ 0 → outer ≡ scope_with (map binding ds) outer
unfolding scope_with
with_none [] outer h = refl
with_none (d ∷ ds) outer h = absurd (omega arith)

-- an element that declares nothing has the bindings of the one around it
pub has_same : (os : List Opened) (ds : List Declared) (scope : Bindings) → length ds ≡ 0 → not (is_empty os) ≡ true
    → scope ≡ scope_with (map binding ds) (scope_of os) → HasBindings os scope
has_same [] ds scope none inside is = absurd (cc)
has_same (o ∷ os) ds scope none inside is = is ∙ sym (with_none ds o.scope none)

-- one declaration less to bind
pub with_popped : (old new : List Declared) (d : Declared) (before after whole : Bindings) → old ≡ new ++ d ∷ [] → after ≡ bound (d.prefix, d.uri) before
    → scope_with (map binding old) before ≡ whole → scope_with (map binding new) after ≡ whole
with_popped old new d before after whole popped bind so_far =
    ap (scope_with (map binding new)) bind ∙ sym (with_last (map binding new) (binding d) before)
    ∙ ap (λ bs. scope_with bs before) (sym (map-append binding new (d ∷ [])) ∙ ap (map binding) (sym popped)) ∙ so_far

-- the names, by the length of the prefix
uri_of-prefixed : (scope : Bindings) (plain prefix : List ℕ) → eqb (length prefix) 0 ≡ false → uri_of scope plain prefix ≡ uri_in scope prefix
uri_of-prefixed scope plain [] h = absurd (cc)
uri_of-prefixed scope plain (p ∷ prefix) h = refl

pub element_prefixed : (scope : Bindings) (prefix local : List ℕ) → eqb (length prefix) 0 ≡ false
    → option_map (named (record { prefix = prefix; local = local })) (uri_in scope prefix) ≡ element_name scope (record { prefix = prefix; local = local })
unfolding element_name
element_prefixed scope prefix local h = ap (option_map (named (record {
  prefix = prefix;
  local = local;
}))) (sym (uri_of-prefixed scope (unwrap_or (uri_in scope []) []) prefix h))

pub element_plain : (scope : Bindings) (prefix local uri : List ℕ) → eqb (length prefix) 0 ≡ true → uri ≡ unwrap_or (uri_in scope []) []
    → Some (named (record { prefix = []; local = local }) uri) ≡ element_name scope (record { prefix = prefix; local = local })
unfolding element_name
element_plain scope [] local uri h e = ap (λ u. Some (named (record { prefix = []; local = local }) u)) e
element_plain scope (p ∷ prefix) local uri h e = absurd (grind (arith, nat_tests))

pub attribute_prefixed : (scope : Bindings) (prefix local : List ℕ) → eqb (length prefix) 0 ≡ false
    → option_map (named (record { prefix = prefix; local = local })) (uri_in scope prefix) ≡ attribute_name scope (record { prefix = prefix; local = local })
unfolding attribute_name
attribute_prefixed scope prefix local h = ap (option_map (named (record { prefix = prefix; local = local }))) (sym (uri_of-prefixed scope [] prefix h))

pub attribute_plain : (scope : Bindings) (prefix local : List ℕ) → eqb (length prefix) 0 ≡ true
    → Some (named (record { prefix = []; local = local }) []) ≡ attribute_name scope (record { prefix = prefix; local = local })
unfolding attribute_name
attribute_plain scope [] local h = refl
attribute_plain scope (p ∷ prefix) local h = absurd (grind (arith, nat_tests))
