-- Expressions that are bound refer to slots that are there.
use Rattle.std.proofs.Common.{◌≡◌, ◌∙◌, ◌<◌, ◌≤◌, ℕ, ap, refl, sym, subst, arith, Bool, true, false, List, [], ◌∷◌, length, map, cond, Option, None, Some, Result, Ok, Err, filter, inl, inr}
use Rattle.std.proofs.lemmas.Bool.{and_from, and_parts, or_cases, or_parts, true≢false, lt-ltb}
use Rattle.std.proofs.lemmas.Option.{none-some}
use Rattle.std.specs.List.{list_all, list_any}
use Rattle.std.specs.Option.{option_or}
use Rattle.std.specs.Prelude.{◌&&◌, ◌||◌, not, find, option_map, if◌then◌else◌}
use Rattle.std.specs.Result.{result_ok}
use Rattle.xs_compile.proofs.KnownLemmas.{known_global}
use Rattle.xs_compile.proofs.OpenLemmas.{slot-below}
use Rattle.xs_compile.specs.Counted.{globals}
use Rattle.xs_compile.specs.Parsed.{IsExpr, IsValueTemplate, bound_part}
use Rattle.xs_structure.specs.Parts.{pairs_at}
use Rattle.xs_compile.specs.Slots.{global_slot, slot_at, is_visible, slot_of, visible_at}
use Rattle.xs_elements.specs.declared.forms.Form.{Form}
use Rattle.xs_elements.specs.declared.forms.Form.TheVariants.{Expression, ValueTemplate}
use Rattle.xs_elements.specs.Forms.{sees_locals}
use Rattle.xs_elements.specs.Nodes.{Name, is_named, own_name}
use Rattle.xs_modules.specs.Numbering.{ModuleData}
use Rattle.xs_sheet.specs.declared.scoped.ScopedExpr.{ScopedExpr}
use Rattle.xs_sheet.specs.declared.scoped.ValueTemplate.{ValueTemplate as Template}
use Rattle.xs_sheet.specs.Standing.{Counts, expr_stands, part_stands, slot_stands, template_stands, tree_stands, trees_stand}
use Rattle.xs_static.specs.Names.{is_known, is_global as has_global}
use Rattle.xs_structure.specs.Bindings.{has_binding}
use Rattle.xs_static.specs.Expressions.{any_unknown, expressions, expressions_if, expressions_of, has_unknown, trees_if}
use Rattle.xs_structure.specs.Modules.{Place, records_at}
use Rattle.xs_tree.specs.Record.{places}
use Rattle.xs_tree.specs.Shape.{IsTree}
use Rattle.xs_parser.specs.declared.fault.Fault.{Fault as ParseFault}
use Rattle.xs_parser.specs.Faults.{expr_in}
use Rattle.xs_parser.specs.Templates.{template_in}
use Rattle.xs_xpath.specs.Binding.{bound, bounds}
use Rattle.xs_xpath.specs.declared.name.Slot.{Slot}
use Rattle.xs_xpath.specs.declared.name.Slot.TheVariants.{Local, Global}
use Rattle.xs_xpath.specs.Templates.{Part, text, computed}
use Rattle.xs_xpath.specs.Tree.{Tree, Trees, number, literal, variable, call, negative, chain, group, here, root, step, descend, filter as filtered, path, no_trees, first_tree}

some-same : {X : Type 0} (a b : X) → Some a ≡ Some b → a ≡ b
some-same a b e = cc (e)

-- ---- a bound expression stands where each name that is known has a slot that does
module _ (counts : Counts) (locals : ℕ) (known : List ℕ → List ℕ → Bool) (slots : List ℕ → List ℕ → Option Slot)
    (stands : (uri local : List ℕ) → known uri local ≡ true → slot_stands counts locals (slots uri local) ≡ true) where
  unnegated : (b : Bool) → not b ≡ false → b ≡ true
  unnegated true e = refl
  unnegated false e = absurd (true≢false e)

  mutual
    pub bound-stands : (t : Tree) → has_unknown known t ≡ false → tree_stands counts locals (bound slots t) ≡ true
    bound-stands (number n) h = refl
    bound-stands (literal bytes) h = refl
    bound-stands (variable uri local slot) h = stands uri local (unnegated (known uri local) h)
    bound-stands (call function es) h = bounds-stand es h
    bound-stands (negative m e) h = bound-stands e h
    bound-stands (chain ops es) h = bounds-stand es h
    bound-stands (group e) h = bound-stands e h
    bound-stands here h = refl
    bound-stands root h = refl
    bound-stands (step axis which es) h = bounds-stand es h
    bound-stands descend h = refl
    bound-stands (filtered e es) h =
        let parts = or_parts (has_unknown known e) (any_unknown known es) h in
        and_from (tree_stands counts locals (bound slots e)) (trees_stand counts locals (bounds slots es)) (bound-stands e parts.0) (bounds-stand es parts.1)
    bound-stands (path e es) h =
        let parts = or_parts (has_unknown known e) (any_unknown known es) h in
        and_from (tree_stands counts locals (bound slots e)) (trees_stand counts locals (bounds slots es)) (bound-stands e parts.0) (bounds-stand es parts.1)

    pub bounds-stand : (es : Trees) → any_unknown known es ≡ false → trees_stand counts locals (bounds slots es) ≡ true
    bounds-stand no_trees h = refl
    bounds-stand (first_tree e es) h =
        let parts = or_parts (has_unknown known e) (any_unknown known es) h in
        and_from (tree_stands counts locals (bound slots e)) (trees_stand counts locals (bounds slots es)) (bound-stands e parts.0) (bounds-stand es parts.1)

  pub parts-stand : (ps : List Part) → list_any (has_unknown known) (expressions ps) ≡ false
      → list_all (part_stands counts locals) (map (bound_part slots) ps) ≡ true
  parts-stand [] h = refl
  parts-stand (text bytes ∷ ps) h = parts-stand ps h
  parts-stand (computed e ∷ ps) h =
      let parts = or_parts (has_unknown known e) (list_any (has_unknown known) (expressions ps)) h in
      and_from (tree_stands counts locals (bound slots e)) (list_all (part_stands counts locals) (map (bound_part slots) ps)) (bound-stands e parts.0)
      (parts-stand ps parts.1)

-- ---- the slot of a name that is known
found-seen : (v p : ℕ → Bool) (xs : List ℕ) (b : ℕ) → find p (filter v xs) ≡ Some b → v b ≡ true
found-seen v p [] b e = absurd (none-some b e)
found-seen v p (x ∷ xs) b e = by_visible (v x) refl e (λ f. found-seen v p xs b f)
  where
    by_named : (c : Bool) → p x ≡ c → v x ≡ true → cond c (Some x) (find p (filter v xs)) ≡ Some b → (find p (filter v xs) ≡ Some b → v b ≡ true) → v b ≡ true
    by_named true f g e again = subst (λ y. v y ≡ true) (some-same x b e) g
    by_named false f g e again = again e

    by_visible : (c : Bool) → v x ≡ c → find p (if c then x ∷ filter v xs else filter v xs) ≡ Some b → (find p (filter v xs) ≡ Some b → v b ≡ true) → v b ≡ true
    by_visible true f e again = by_named (p x) refl f e again
    by_visible false f e again = again e

not-found : (v p : ℕ → Bool) (xs : List ℕ) → find p (filter v xs) ≡ None → list_any (λ b. v b && p b) xs ≡ false
not-found v p [] e = refl
not-found v p (x ∷ xs) e = by_visible (v x) refl e (λ f. not-found v p xs f)
  where
    or-from : (a b : Bool) → a ≡ false → b ≡ false → (a || b) ≡ false
    or-from a b f g = ap (λ (x : Bool). x || b) f ∙ g

    by_named : (c : Bool) → p x ≡ c → cond c (Some x) (find p (filter v xs)) ≡ None → (find p (filter v xs) ≡ None → list_any (λ b. v b && p b) xs ≡ false)
        → (c || list_any (λ b. v b && p b) xs) ≡ false
    by_named true f e again = absurd (none-some x (sym e))
    by_named false f e again = again e

    by_visible : (c : Bool) → v x ≡ c → find p (if c then x ∷ filter v xs else filter v xs) ≡ None
        → (find p (filter v xs) ≡ None → list_any (λ b. v b && p b) xs ≡ false) → (v x && p x || list_any (λ b. v b && p b) xs) ≡ false
    by_visible true f e again =
        ap (λ (c : Bool). c && p x || list_any (λ b. v b && p b) xs) f ∙ by_named (p x) refl e again
    by_visible false f e again =
        ap (λ (c : Bool). c && p x || list_any (λ b. v b && p b) xs) f ∙ again e

abbrev pub locals_at : List ModuleData → Place → ℕ
locals_at ms p = length (visible_at (records_at ms p.0) p.1)

module _ (ms : List ModuleData) (counts : Counts) (some_globals : counts.globals ≡ length (globals ms)) (p : Place)
    (tree : IsTree (records_at ms p.0)) (inside : p.1 < length (records_at ms p.0)) (locals : ℕ) (enough : locals_at ms p ≤ locals) where
  global-stands : (name : Name) → has_global ms name ≡ true → slot_stands counts locals (global_slot ms name) ≡ true
  global-stands name h =
      let k = known_global ms name h in
      ap (λ (o : Option ℕ). slot_stands counts locals (option_map Global o)) k.1 ∙ lt-ltb k.0 counts.globals (omega (arith, k.2, some_globals))

  slot-stands : (form : Form) (uri local : List ℕ) → is_known ms form p uri local ≡ true
      → slot_stands counts locals (slot_at ms p uri local) ≡ true
  slot-stands form uri local h = by_found (find (λ b. is_named (uri, local) (own_name (records_at ms p.0) b)) (visible_at (records_at ms p.0) p.1)) refl
    where
      visible : has_binding (records_at ms p.0) p.1 (uri, local) ≡ false → has_global ms (uri, local) ≡ true
      visible none =
          elim (or_cases (has_global ms (uri, local)) (sees_locals form && has_binding (records_at ms p.0) p.1 (uri, local)) h) [
            | inl own ↦ own
            | inr seen ↦ absurd (true≢false (sym (and_parts (sees_locals form) (has_binding (records_at ms p.0) p.1 (uri, local)) seen).1 ∙ none))
          ]

      slot_by : Option ℕ → Option Slot
      slot_by o = option_or (option_map (λ b. Local (slot_of (records_at ms p.0) b)) o) (global_slot ms (uri, local))

      by_found : (o : Option ℕ) → find (λ b. is_named (uri, local) (own_name (records_at ms p.0) b)) (visible_at (records_at ms p.0) p.1) ≡ o
          → slot_stands counts locals (slot_at ms p uri local) ≡ true
      by_found (Some b) e =
          let seen = found-seen (is_visible (records_at ms p.0) p.1) (λ b. is_named (uri, local) (own_name (records_at ms p.0) b))
          (places (records_at ms p.0)) b e in
          let below = slot-below (records_at ms p.0) tree p.1 b inside seen in
          ap (λ (o : Option ℕ). slot_stands counts locals (slot_by o)) e
          ∙ lt-ltb (slot_of (records_at ms p.0) b) locals (omega (arith, below, enough))
      by_found None e =
          ap (λ (o : Option ℕ). slot_stands counts locals (slot_by o)) e
          ∙ global-stands (uri, local)
          (visible (not-found (is_visible (records_at ms p.0) p.1) (λ b. is_named (uri, local) (own_name (records_at ms p.0) b))
          (places (records_at ms p.0)) e))

  -- ---- values of attributes
  pub expr-stands : (value : List ℕ) (e : ScopedExpr) → IsExpr ms p value e
      → list_any (has_unknown (is_known ms Expression p)) (expressions_of Expression (pairs_at ms p) value) ≡ false
      → expr_stands counts locals e ≡ true
  expr-stands value e is known = by_outcome (expr_in (pairs_at ms p) value) is.expr known
    where
      by_outcome : (o : Result Tree ParseFault) → option_map (bound (slot_at ms p)) (result_ok o) ≡ Some e.expr
          → list_any (has_unknown (is_known ms Expression p)) (trees_if o) ≡ false → tree_stands counts locals e.expr ≡ true
      by_outcome (Err fault) h g = absurd (none-some e.expr h)
      by_outcome (Ok t) h g =
          subst (λ x. tree_stands counts locals x ≡ true) (some-same (bound (slot_at ms p) t) e.expr h)
          (bound-stands counts locals (is_known ms Expression p) (slot_at ms p) (slot-stands Expression) t
          (or_parts (has_unknown (is_known ms Expression p) t) false g).0)

  pub template-stands : (value : List ℕ) (v : Template) → IsValueTemplate ms p value v
      → list_any (has_unknown (is_known ms ValueTemplate p)) (expressions_of ValueTemplate (pairs_at ms p) value) ≡ false
      → template_stands counts locals v ≡ true
  template-stands value v is known = by_outcome (template_in (pairs_at ms p) value) is.parts known
    where
      by_outcome : (o : Result (List Part) ParseFault) → option_map (map (bound_part (slot_at ms p))) (result_ok o) ≡ Some v.parts
          → list_any (has_unknown (is_known ms ValueTemplate p)) (expressions_if o) ≡ false
          → list_all (part_stands counts locals) v.parts ≡ true
      by_outcome (Err fault) h g = absurd (none-some v.parts h)
      by_outcome (Ok ps) h g =
          subst (λ x. list_all (part_stands counts locals) x ≡ true) (some-same (map (bound_part (slot_at ms p)) ps) v.parts h)
          (parts-stand counts locals (is_known ms ValueTemplate p) (slot_at ms p) (slot-stands ValueTemplate) ps g)
