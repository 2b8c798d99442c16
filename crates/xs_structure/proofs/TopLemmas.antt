-- The document's element, the elements of the top level and the children that an element shows are looked at.
use Rattle.std.proofs.Common.{◌≡◌, ◌∙◌, ◌<◌, ◌==◌, ℕ, ap, refl, arith, Bool, true, false, List, length, Option, Some, None, ⊎_elim, eqb-true}
use Rattle.std.proofs.lemmas.Bool.{and_from, and_parts, false≢true, or_cases, or_left, or_right}
use Rattle.std.specs.List.{list_all}
use Rattle.std.specs.Option.{option_map_or}
use Rattle.std.specs.Prelude.{if◌then◌else◌}
use Rattle.xs_elements.specs.declared.reading.Reading.{Reading}
use Rattle.xs_elements.specs.declared.reading.Reading.TheVariants.{Known}
use Rattle.xs_elements.specs.declared.tags.Tag.{Tag}
use Rattle.xs_elements.specs.declared.tags.Tag.TheVariants.{NoElement, Stylesheet}
use Rattle.xs_elements.specs.Reading.{is_in_extension, is_seen, is_shown, reading_by, reading_of, shows, shows_at}
use Rattle.xs_elements.specs.Tags.{is_document_element, is_other, is_sheet, is_stylesheet, is_top_level, tag_of}
use Rattle.xs_structure.proofs.AroundLemmas.{around-none, around-some, parent-before}
use Rattle.xs_structure.specs.Modules.{is_top_level_element}
use Rattle.xs_structure.specs.Order.{is_declaration, is_simplified}
use Rattle.xs_tree.specs.Kinds.{is_element_kind}
use Rattle.xs_tree.specs.Record.{Record, at, is_place}
use Rattle.xs_tree.specs.Shape.{IsTree}

pub is_place-true : (n : ℕ) (o : Option ℕ) → is_place n o ≡ true → o ≡ Some n
is_place-true n None h = absurd (false≢true h)
is_place-true n (Some p) h = ap Some (eqb-true p n h)

-- a child that its parent shows
pub seen-child : (rs : List Record) → IsTree rs → (n k : ℕ) → k < length rs → (at rs k).parent ≡ Some n
    → shows (reading_of rs n) (tag_of rs k) ≡ true → is_seen rs n ≡ true → is_seen rs k ≡ true
seen-child rs tree n k inside parent shown seen =
    ap (list_all (is_shown rs)) (around-some rs tree k n inside parent)
    ∙ and_from (is_shown rs k) (is_seen rs n)
    (ap (λ (o : Option ℕ). option_map_or (λ p. shows_at rs p k) o true) parent
    ∙ or_right (is_document_element rs k) (shows (reading_of rs n) (tag_of rs k)) shown) seen

sheet-tag : (tag : Tag) → is_stylesheet tag ≡ true → tag ≡ Stylesheet
sheet-tag Stylesheet e = refl
sheet-tag tag e = absurd (false≢true e)

root-seen : (rs : List Record) → IsTree rs → is_seen rs 0 ≡ true
root-seen rs tree =
    let none : (at rs 0).parent ≡ None = ap (λ (r : Record). r.parent) tree.first in
    ap (list_all (is_shown rs)) (around-none rs 0 none)
    ∙ and_from (is_shown rs 0) true (ap (λ (o : Option ℕ). option_map_or (λ p. shows_at rs p 0) o true) none) refl

pub top_seen : (rs : List Record) → IsTree rs → (n : ℕ) → n < length rs → is_top_level rs n ≡ true → is_seen rs n ≡ true
top_seen rs tree n inside top = by_parent (at rs n).parent refl top
  where
    by_parent : (o : Option ℕ) → (at rs n).parent ≡ o → option_map_or (is_sheet rs) o false ≡ true → is_seen rs n ≡ true
    by_parent None e h = absurd (false≢true h)
    by_parent (Some q) e h =
        let sheet = and_parts (is_stylesheet (tag_of rs q)) (is_document_element rs q) h in
        let before = parent-before rs tree n q inside e in
        let q-inside : q < length rs = omega (arith, before, inside) in
        let up = is_place-true 0 (at rs q).parent sheet.1 in
        let seen : is_seen rs q ≡ true =
        ap (list_all (is_shown rs)) (around-some rs tree q 0 q-inside up)
        ∙ and_from (is_shown rs q) (is_seen rs 0) (ap (λ (o : Option ℕ). option_map_or (λ p. shows_at rs p q) o true) up
        ∙ or_left (is_document_element rs q) (shows (reading_of rs 0) (tag_of rs q)) sheet.1) (root-seen rs tree) in
        let read : reading_of rs q ≡ Known =
        ap (λ (r : Tag). reading_by r (is_top_level rs q) (is_in_extension rs q)) (sheet-tag (tag_of rs q) sheet.0) in
        seen-child rs tree q n inside e (ap (λ (r : Reading). shows r (tag_of rs n)) read) seen

pub simple-seen : (rs : List Record) → IsTree rs → (n : ℕ) → n < length rs → is_document_element rs n ≡ true → is_seen rs n ≡ true
simple-seen rs tree n inside document =
    let up = is_place-true 0 (at rs n).parent document in
    ap (list_all (is_shown rs)) (around-some rs tree n 0 inside up)
    ∙ and_from (is_shown rs n) (is_seen rs 0)
    (ap (λ (o : Option ℕ). option_map_or (λ p. shows_at rs p n) o true) up
    ∙ or_left (is_document_element rs n) (shows (reading_of rs 0) (tag_of rs n)) document) (root-seen rs tree)

-- ---- a declaration is an element, and is looked at
pub declaration-seen : (rs : List Record) → IsTree rs → (n : ℕ) → n < length rs → is_declaration rs n ≡ true → is_seen rs n ≡ true
declaration-seen rs tree n inside h =
    ⊎_elim (λ e. top_seen rs tree n inside (and_parts (is_element_kind (at rs n).kind) (is_top_level rs n) e).1)
    (λ e. simple-seen rs tree n inside (and_parts (is_other (tag_of rs n)) (is_document_element rs n) e).1)
    (or_cases (is_top_level_element rs n) (is_simplified rs n) h)

other-element : (element : Bool) (tag : Tag) → is_other (if element then tag else NoElement) ≡ true → element ≡ true
other-element true tag h = refl
other-element false tag h = absurd (false≢true h)

pub declaration-element : (rs : List Record) (n : ℕ) → is_declaration rs n ≡ true → is_element_kind (at rs n).kind ≡ true
declaration-element rs n h =
    ⊎_elim (λ e. (and_parts (is_element_kind (at rs n).kind) (is_top_level rs n) e).0)
    (λ e. other-element (is_element_kind (at rs n).kind) _ (and_parts (is_other (tag_of rs n)) (is_document_element rs n) e).0)
    (or_cases (is_top_level_element rs n) (is_simplified rs n) h)
