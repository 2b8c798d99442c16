-- The children that an element shows, and where they stand.
use Rattle.std.proofs.Common.{◌≡◌, ◌∙◌, ◌<◌, ◌==◌, ℕ, ap, refl, sym, subst, arith, All, Bool, true, false, List, length, Option, None, Some, eqb-true}
use Rattle.std.proofs.lemmas.Bool.{and_parts, or_parts, true≢false}
use Rattle.std.proofs.lemmas.List.Elements.{All-filter, filter_passes}
use Rattle.std.proofs.lemmas.List.FromFn.{get_or-range_with_len, length-range_with_len}
use Rattle.std.specs.Option.{option_map_or}
use Rattle.std.specs.Prelude.{◌&&◌, ◌||◌, not, if◌then◌else◌}
use Rattle.std.specs.Str.{bytes_eq}
use Rattle.xs_compile.proofs.CleanLemmas.{shows-none}
use Rattle.xs_structure.proofs.TopLemmas.{is_place-true}
use Rattle.xs_structure.specs.Places.{IsIn}
use Rattle.xs_elements.specs.declared.tags.Tag.{Tag}
use Rattle.xs_elements.specs.declared.tags.Tag.TheVariants.{Other, NoElement}
use Rattle.xs_elements.specs.Reading.{is_seen}
use Rattle.xs_elements.specs.Tags.{is_document_element, is_sheet, is_stylesheet, is_top_level, tag_named, tag_of, xslt_uri}
use Rattle.xs_modules.specs.Numbering.{ModuleData}
use Rattle.xs_static.specs.Faults.{IsFirstFault, misplaced}
use Rattle.xs_structure.specs.Modules.{records_at}
use Rattle.xs_static.specs.Placing.{has_misplaced_text, is_misplaced_element, lacks_branch, stands_in}
use Rattle.xs_tree.proofs.WalkLemmas.{IsPlaced-at}
use Rattle.xs_tree.specs.Kinds.{is_child_kind, is_element_kind}
use Rattle.xs_tree.specs.Record.{Record, at, children, is_child, is_place, local_at, places, uri_at}
use Rattle.xs_tree.specs.Shape.{IsTree}

-- ---- what is looked at
pub places-within : (rs : List Record) → All (λ k. k < length rs) (places rs)
places-within rs = λ i d h.
    rw (get_or-range_with_len 0 (length rs) i d (omega (arith, h, length-range_with_len 0 (length rs)))) (omega (arith, h, length-range_with_len 0 (length rs)))

-- a child of a node
pub record IsChildOf (rs : List Record) (n k : ℕ) : Type 0 where
  pub inside : k < length rs
  pub parent : (at rs k).parent ≡ Some n

child-of : (rs : List Record) (n k : ℕ) → k < length rs → is_child rs n k ≡ true → IsChildOf rs n k
child-of rs n k inside h =
    record { inside = inside; parent = is_place-true n (at rs k).parent (and_parts (is_place n (at rs k).parent) (is_child_kind (at rs k).kind) h).0 }

pub all-children : (rs : List Record) (n : ℕ) → All (IsChildOf rs n) (children rs n)
all-children rs n = λ i d h.
    child-of rs n _ (All-filter (is_child rs n) (λ k. k < length rs) (places rs) (places-within rs) i d h) (filter_passes (is_child rs n) (places rs) i d h)

pub child-behind : (rs : List Record) → IsTree rs → (n k : ℕ) → IsChildOf rs n k → n < k
child-behind rs tree n k c = (IsPlaced-at rs k n tree c.inside c.parent).before

-- a child is of the top level where its parent is a stylesheet's element
pub inner-child : (rs : List Record) (n k : ℕ) → (at rs k).parent ≡ Some n → is_stylesheet (tag_of rs n) ≡ false → is_top_level rs k ≡ false
inner-child rs n k parent other =
    ap (λ (o : Option ℕ). option_map_or (is_sheet rs) o false) parent ∙ ap (λ (b : Bool). b && is_document_element rs n) other

-- ---- where elements stand
not-false : (b : Bool) → not b ≡ false → b ≡ true
not-false true e = refl
not-false false e = absurd (true≢false e)

-- the root is no element
pub root-other : (rs : List Record) → IsTree rs → tag_of rs 0 ≡ NoElement
root-other rs tree = ap (λ (r : Record). tag_by (is_element_kind r.kind)) tree.first
  where
    tag_by : Bool → Tag
    tag_by b = if b then (if bytes_eq (uri_at rs 0) xslt_uri then tag_named (local_at rs 0) else Other) else NoElement

-- an element that its parent has as its content stands where it may
pub child-stands : (ms : List ModuleData) → IsFirstFault ms None → (m n k : ℕ) → IsTree (records_at ms m) → IsIn ms (m, k)
    → is_seen (records_at ms m) k ≡ true → is_element_kind (at (records_at ms m) k).kind ≡ true → (at (records_at ms m) k).parent ≡ Some n
    → (tag_of (records_at ms m) n ≡ NoElement → ⊥) → stands_in (records_at ms m) n k ≡ true
child-stands ms accepted m n k tree within seen element parent outer =
    let rs = records_at ms m in
    let clean = shows-none ms accepted misplaced (m, k) within element (λ h. h) seen in
    let stands = (or_parts (is_misplaced_element rs k) (has_misplaced_text rs k)
    (or_parts (is_misplaced_element rs k || has_misplaced_text rs k) (lacks_branch rs k) clean).0).0 in
    by_place (n == 0) refl
    (sym (ap (λ (o : Option ℕ). not (is_place 0 o) && option_map_or (λ p. not (stands_in rs p k)) o false) parent) ∙ stands)
  where
    by_place : (b : Bool) → (n == 0) ≡ b → (not (n == 0) && not (stands_in (records_at ms m) n k)) ≡ false → stands_in (records_at ms m) n k ≡ true
    by_place true e h =
        absurd (outer (subst (λ x. tag_of (records_at ms m) x ≡ NoElement) (sym (eqb-true n 0 e)) (root-other (records_at ms m) tree)))
    by_place false e h =
        not-false (stands_in (records_at ms m) n k) (sym (ap (λ (b : Bool). not b && not (stands_in (records_at ms m) n k)) e) ∙ h)
