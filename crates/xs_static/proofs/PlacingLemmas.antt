-- Which nodes are misplaced: those that an element that is looked at has among its own.
use Rattle.std.proofs.Common.{◌≡◌, ◌∙◌, ℕ, suc, zero, ◌+◌, ◌<◌, ◌≤◌, ap, refl, sym, subst, arith, inl, inr, ◌⊎◌, ⊎_elim, List, [], ◌∷◌, filter, cond, length, Bool, true, false, Option, Some, None}
use Rattle.std.proofs.lemmas.Bool.{and_from, and_parts, cases_eq, cases_lt, eq-eqb, eqb-true, false≢true, ne_eqb, or_cases, or_left, or_right}
use Rattle.std.proofs.lemmas.List.Folds.{list_any-append}
use Rattle.std.specs.List.{list_all, list_any, range_with_len}
use Rattle.std.specs.Option.{option_map_or}
use Rattle.std.specs.Prelude.{◌&&◌, ◌||◌, ◌==◌, codes, not, if◌then◌else◌}
use Rattle.std.specs.Str.{bytes_eq}
use Rattle.xs_elements.specs.Nodes.{has}
use Rattle.xs_elements.specs.declared.reading.Reading.{Reading}
use Rattle.xs_elements.specs.declared.reading.Reading.TheVariants.{Known, Literal, Extension, Unread}
use Rattle.xs_elements.specs.declared.tags.Tag.{Tag}
use Rattle.xs_elements.specs.declared.tags.Tag.TheVariants.{NoElement, Other}
use Rattle.xs_elements.specs.Contents.{may_stand}
use Rattle.xs_elements.specs.Reading.{content_by, is_in_extension, is_none, is_seen, is_shown, reading_by, reading_of, shows, shows_at}
use Rattle.xs_elements.specs.Tags.{is_document_element, is_top_level, tag_named, tag_of, xslt_uri}
use Rattle.xs_static.specs.Placing.{content_before, has_misplaced_text, is_misplaced, is_misplaced_element, lacks_branch, stands_in}
use Rattle.xs_static.specs.steps.Misplaced.{is_refused, misplaced_nodes, refused}
use Rattle.xs_structure.proofs.AroundLemmas.{around-some, parent-before}
use Rattle.xs_structure.proofs.TopLemmas.{is_place-true}
use Rattle.xs_tree.specs.declared.kinds.Kind.{Kind}
use Rattle.xs_tree.specs.declared.kinds.Kind.TheVariants.{Element}
use Rattle.xs_tree.specs.Kinds.{is_child_kind, is_element_kind}
use Rattle.xs_tree.specs.Record.{Record, at, children, is_child, is_place, places, uri_at, local_at}
use Rattle.xs_tree.specs.Shape.{IsTree}

-- ---- a place among others
abbrev pub has_place : ℕ → List ℕ → Bool
has_place k ns = list_any (λ j. j == k) ns

first-of : (a : Bool) → (a || false) ≡ true → a ≡ true
first-of true h = refl
first-of false h = h

-- among those that pass
module _ (p : ℕ → Bool) (k x : ℕ) (xs : List ℕ) where
  later : (p k ≡ true) × (has_place k xs ≡ true) → (p k ≡ true) × (has_place k (x ∷ xs) ≡ true)
  later h = (h.0, or_right (x == k) (has_place k xs) h.1)

  at-head : p x ≡ true → (has_place k (filter p xs) ≡ true → (p k ≡ true) × (has_place k xs ≡ true))
      → ((x == k) ≡ true) ⊎ (has_place k (filter p xs) ≡ true) → (p k ≡ true) × (has_place k (x ∷ xs) ≡ true)
  at-head e ih (inl h) = (subst (λ y. p y ≡ true) (eqb-true x k h) e, or_left (x == k) (has_place k xs) h)
  at-head e ih (inr h) = later (ih h)

  in-cons : (has_place k (filter p xs) ≡ true → (p k ≡ true) × (has_place k xs ≡ true))
      → (b : Bool) → p x ≡ b → has_place k (cond b (x ∷ filter p xs) (filter p xs)) ≡ true → (p k ≡ true) × (has_place k (x ∷ xs) ≡ true)
  in-cons ih true e h = at-head e ih (or_cases (x == k) (has_place k (filter p xs)) h)
  in-cons ih false e h = later (ih h)

  more : (b : Bool) → has_place k (filter p xs) ≡ true → has_place k (cond b (x ∷ filter p xs) (filter p xs)) ≡ true
  more true h = or_right (x == k) (has_place k (filter p xs)) h
  more false h = h

  cons-in : p k ≡ true → (has_place k xs ≡ true → has_place k (filter p xs) ≡ true) → ((x == k) ≡ true) ⊎ (has_place k xs ≡ true)
      → has_place k (filter p (x ∷ xs)) ≡ true
  cons-in e ih (inl h) =
      ap (λ (b : Bool). has_place k (cond b (x ∷ filter p xs) (filter p xs))) (subst (λ y. p y ≡ true) (sym (eqb-true x k h)) e)
      ∙ or_left (x == k) (has_place k (filter p xs)) h
  cons-in e ih (inr h) = more (p x) (ih h)

pub in-filter : (p : ℕ → Bool) (k : ℕ) (xs : List ℕ) → has_place k (filter p xs) ≡ true → (p k ≡ true) × (has_place k xs ≡ true)
in-filter p k [] h = absurd (false≢true h)
in-filter p k (x ∷ xs) h = in-cons p k x xs (in-filter p k xs) (p x) refl h

filter-in : (p : ℕ → Bool) (k : ℕ) (xs : List ℕ) → p k ≡ true → has_place k xs ≡ true → has_place k (filter p xs) ≡ true
filter-in p k [] e h = h
filter-in p k (x ∷ xs) e h = cons-in p k x xs e (filter-in p k xs e) (or_cases (x == k) (has_place k xs) h)

-- among all places
below : (a n k : ℕ) → (has_place k (range_with_len (a + 1) n) ≡ true → k < a + 1 + n)
    → ((a == k) ≡ true) ⊎ (has_place k (range_with_len (a + 1) n) ≡ true) → k < a + suc n
below a n k ih (inl e) = omega (arith, eqb-true a k e)
below a n k ih (inr e) = omega (arith, ih e)

pub in-range : (a n k : ℕ) → has_place k (range_with_len a n) ≡ true → k < a + n
in-range a zero k h = absurd (false≢true h)
in-range a (suc n) k h = below a n k (in-range (a + 1) n k) (or_cases (a == k) (has_place k (range_with_len (a + 1) n)) h)

next : (a k : ℕ) → a ≤ k → (a ≡ k → ⊥) → a + 1 ≤ k
next a k h ne = ⊎_elim (λ l. omega (arith, l)) (λ g. absurd (ne (omega (arith, h, g)))) (cases_lt a k)

reached : (a n k : ℕ) → a ≤ k → k < a + suc n → (a + 1 ≤ k → k < a + 1 + n → has_place k (range_with_len (a + 1) n) ≡ true)
    → (a ≡ k) ⊎ (a ≡ k → ⊥) → has_place k (range_with_len a (suc n)) ≡ true
reached a n k h g ih (inl e) = or_left (a == k) (has_place k (range_with_len (a + 1) n)) (eq-eqb a k e)
reached a n k h g ih (inr ne) =
    or_right (a == k) (has_place k (range_with_len (a + 1) n)) (ih (next a k h ne) (omega (arith, g)))

range-in : (a n k : ℕ) → a ≤ k → k < a + n → has_place k (range_with_len a n) ≡ true
range-in a zero k h g = absurd (omega arith)
range-in a (suc n) k h g = reached a n k h g (range-in (a + 1) n k) (cases_eq a k)

module _ (rs : List Record) (tree : IsTree rs) where
  -- an element is looked at where it is shown and its parent is looked at
  pub seen-up : (k p : ℕ) → k < length rs → (at rs k).parent ≡ Some p → is_seen rs k ≡ (is_shown rs k && is_seen rs p)
  seen-up k p h e = ap (list_all (is_shown rs)) (around-some rs tree k p h e)

  -- ---- an element that is refused
  -- an element is no root
  no-root : (n : ℕ) → is_element_kind (at rs n).kind ≡ true → (n == 0) ≡ false
  no-root zero h = absurd (false≢true (sym (ap (λ r. is_element_kind r.kind) tree.first) ∙ h))
  no-root (suc n) h = ne_eqb (suc n) 0 (λ e. absurd (omega (arith, e)))

  -- where anything is refused, the element is read, and shows its children
  shows-refused : (tag child : Tag) (reading : Reading) (has_select has_namespace : Bool) (before : List Tag)
      → not (may_stand (content_by reading tag has_select) child has_namespace before) ≡ true → shows reading child ≡ true
  shows-refused tag child Known has_select has_namespace before h = refl
  shows-refused tag child Literal has_select has_namespace before h = refl
  shows-refused tag child Extension has_select has_namespace before h = absurd (false≢true h)
  shows-refused tag child Unread has_select has_namespace before h = absurd (false≢true h)

  child-shown : (n k : ℕ) → (at rs k).parent ≡ Some n → shows (reading_of rs n) (tag_of rs k) ≡ true → is_shown rs k ≡ true
  child-shown n k e s =
      ap (λ o. option_map_or (λ p. shows_at rs p k) o true) e ∙ or_right (is_document_element rs k) (shows (reading_of rs n) (tag_of rs k)) s

  misplaced-child : (n k : ℕ) → is_element_kind (at rs n).kind ≡ true → (at rs k).parent ≡ Some n → not (stands_in rs n k) ≡ true
      → is_misplaced_element rs k ≡ true
  misplaced-child n k element e refuses =
      ap (λ b. not b && option_map_or (λ p. not (stands_in rs p k)) (at rs k).parent false) (ap (is_place 0) e ∙ no-root n element)
      ∙ ap (λ o. option_map_or (λ p. not (stands_in rs p k)) o false) e ∙ refuses

  behind-first : (a b c : Bool) → (b || c) ≡ true → ((a || b) || c) ≡ true
  behind-first true b c h = refl
  behind-first false b c h = h

  -- a node of the tree that is an element, is looked at and is misplaced
  abbrev pub IsMisplaced : ℕ → Type 0
  IsMisplaced k = (k < length rs) × (is_element_kind (at rs k).kind ≡ true) × (is_seen rs k ≡ true) × (is_misplaced rs k ≡ true)

  refused-misplaced : (n k : ℕ) → is_element_kind (at rs n).kind ≡ true → is_seen rs n ≡ true → has_place k (refused rs n) ≡ true → IsMisplaced k
  refused-misplaced n k element seen h =
      let r = in-filter (is_refused rs n) k (children rs n) h in
      let c = in-filter (is_child rs n) k (places rs) r.1 in
      let within : k < length rs = omega (arith, in-range 0 (length rs) k c.1) in
      let e : (at rs k).parent ≡ Some n = is_place-true n (at rs k).parent (and_parts (is_place n (at rs k).parent) (is_child_kind (at rs k).kind) c.0).0 in
      let both = and_parts (is_element_kind (at rs k).kind) (not (stands_in rs n k)) r.0 in
      let shown = child-shown n k e (shows-refused (tag_of rs n) (tag_of rs k) (reading_of rs n) (has rs n (codes "select"))
      (not (is_none (uri_at rs k))) (content_before rs n k) both.1) in (
        within,
        both.0,
        seen-up k n within e ∙ and_from (is_shown rs k) (is_seen rs n) shown seen,
        or_left (is_misplaced_element rs k || has_misplaced_text rs k) (lacks_branch rs k)
            (or_left (is_misplaced_element rs k) (has_misplaced_text rs k) (misplaced-child n k element e both.1)),
      )

  own-misplaced : (n k : ℕ) → n < length rs → is_element_kind (at rs n).kind ≡ true → is_seen rs n ≡ true
      → (b : Bool) → (has_misplaced_text rs n || lacks_branch rs n) ≡ b → has_place k (if b then n ∷ [] else []) ≡ true → IsMisplaced k
  own-misplaced n k within element seen true e h =
      let same : n ≡ k = eqb-true n k (first-of (n == k) h) in
      subst IsMisplaced same
      (within, element, seen, behind-first (is_misplaced_element rs n) (has_misplaced_text rs n) (lacks_branch rs n) e)
  own-misplaced n k within element seen false e h = absurd (false≢true h)

  -- what an element that is looked at has among its misplaced nodes is misplaced
  pub misplaced_sound : (n k : ℕ) → n < length rs → is_element_kind (at rs n).kind ≡ true → is_seen rs n ≡ true
      → has_place k (misplaced_nodes rs n) ≡ true → IsMisplaced k
  misplaced_sound n k within element seen h =
      let own = has_misplaced_text rs n || lacks_branch rs n in
      ⊎_elim (refused-misplaced n k element seen) (own-misplaced n k within element seen own refl)
      (or_cases (has_place k (refused rs n)) (has_place k (if own then n ∷ [] else []))
      (sym (list_any-append (λ j. j == k) (refused rs n) (if own then n ∷ [] else [])) ∙ h))

  -- ---- and each misplaced node is among those of some element that is looked at
  abbrev pub IsAmongThose : ℕ → Type 0
  IsAmongThose k =
      (n : ℕ) × (n < length rs) × (is_element_kind (at rs n).kind ≡ true) × (is_seen rs n ≡ true) × (has_place k (misplaced_nodes rs n) ≡ true)

  holds-element : (b : Bool) (tag child : Tag) (top extension has_select has_namespace : Bool) (before : List Tag)
      → not (may_stand (content_by (reading_by (if b then tag else NoElement) top extension) (if b then tag else NoElement) has_select)
      child has_namespace before) ≡ true
      → b ≡ true
  holds-element true tag child top extension has_select has_namespace before h = refl
  holds-element false tag child top extension has_select has_namespace before h = absurd (false≢true h)

  element-child : (kind : Kind) → is_element_kind kind ≡ true → is_child_kind kind ≡ true
  element-child Element h = refl
  element-child kind h = absurd (false≢true h)

  refused-among : (k p : ℕ) → k < length rs → is_element_kind (at rs k).kind ≡ true → is_seen rs k ≡ true → (at rs k).parent ≡ Some p
      → not (stands_in rs p k) ≡ true → IsAmongThose k
  refused-among k p within element seen e refuses =
      let own = has_misplaced_text rs p || lacks_branch rs p in
      let child : is_child rs p k ≡ true =
      and_from (is_place p (at rs k).parent) (is_child_kind (at rs k).kind) (ap (is_place p) e ∙ eq-eqb p p refl) (element-child (at rs k).kind element) in (
        p,
        omega (arith, within, parent-before rs tree k p within e),
        holds-element (is_element_kind (at rs p).kind) (if bytes_eq (uri_at rs p) xslt_uri then tag_named (local_at rs p) else Other) (tag_of rs k)
            (is_top_level rs p) (is_in_extension rs p) (has rs p (codes "select")) (not (is_none (uri_at rs k))) (content_before rs p k) refuses,
        (and_parts (is_shown rs k) (is_seen rs p) (sym (seen-up k p within e) ∙ seen)).1,
        list_any-append (λ j. j == k) (refused rs p) (if own then p ∷ [] else [])
            ∙ or_left (has_place k (refused rs p)) (has_place k (if own then p ∷ [] else []))
            (filter-in (is_refused rs p) k (children rs p)
            (and_from (is_element_kind (at rs k).kind) (not (stands_in rs p k)) element refuses)
            (filter-in (is_child rs p) k (places rs) child (range-in 0 (length rs) k (omega arith) (omega (arith, within))))),
      )

  child-among : (k : ℕ) → k < length rs → is_element_kind (at rs k).kind ≡ true → is_seen rs k ≡ true
      → (o : Option ℕ) → (at rs k).parent ≡ o → option_map_or (λ p. not (stands_in rs p k)) o false ≡ true → IsAmongThose k
  child-among k within element seen None e h = absurd (false≢true h)
  child-among k within element seen (Some p) e h = refused-among k p within element seen e h

  own-among : (k : ℕ) → k < length rs → is_element_kind (at rs k).kind ≡ true → is_seen rs k ≡ true
      → (has_misplaced_text rs k || lacks_branch rs k) ≡ true → IsAmongThose k
  own-among k within element seen h =
      let own = has_misplaced_text rs k || lacks_branch rs k in (
        k,
        within,
        element,
        seen,
        list_any-append (λ j. j == k) (refused rs k) (if own then k ∷ [] else [])
            ∙ or_right (has_place k (refused rs k)) (has_place k (if own then k ∷ [] else []))
            (ap (λ (b : Bool). has_place k (if b then k ∷ [] else [])) h ∙ or_left (k == k) false (eq-eqb k k refl)),
      )

  split-three : (a b c : Bool) → ((a || b) || c) ≡ true → (a ≡ true) ⊎ ((b || c) ≡ true)
  split-three true b c h = inl refl
  split-three false b c h = inr h

  pub misplaced_complete : (k : ℕ) → k < length rs → is_element_kind (at rs k).kind ≡ true → is_seen rs k ≡ true → is_misplaced rs k ≡ true
      → IsAmongThose k
  misplaced_complete k within element seen h =
      ⊎_elim
      (λ a. child-among k within element seen (at rs k).parent refl
      (and_parts (not (is_document_element rs k)) (option_map_or (λ p. not (stands_in rs p k)) (at rs k).parent false) a).1)
      (own-among k within element seen) (split-three (is_misplaced_element rs k) (has_misplaced_text rs k) (lacks_branch rs k) h)
