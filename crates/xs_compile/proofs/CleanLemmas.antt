-- What holds at an element that is looked at, where there is no static fault.
use Rattle.std.proofs.Common.{◌≡◌, ◌∙◌, ◌<◌, ◌+◌, ℕ, zero, suc, ap, refl, sym, subst, arith, Bool, true, false, List, [], ◌∷◌, cond, Option, None, Some, inl, inr, filter}
use Rattle.std.proofs.lemmas.Bool.{and_from, and_parts, or_parts, or_left, or_right, false_from_ne_true, false≢true, true≢false}
use Rattle.std.proofs.lemmas.Option.{none-some}
use Rattle.std.proofs.lemmas.Slice.Eq.{bytes_eq-Decides}
use Rattle.std.proofs.lemmas.List.Elements.{filter-append}
use Rattle.std.proofs.lemmas.List.Folds.{list_any-append}
use Rattle.std.specs.List.{list_any, range_with_len}
use Rattle.std.specs.Option.{option_map_or}
use Rattle.std.specs.Prelude.{◌&&◌, ◌||◌, not, find, option_map, if◌then◌else◌}
use Rattle.std.specs.Str.{bytes_eq}
use Rattle.xs_structure.specs.Places.{IsIn}
use Rattle.xs_elements.specs.declared.forms.Form.{Form}
use Rattle.xs_elements.specs.declared.reading.Reading.{Reading}
use Rattle.xs_elements.specs.declared.reading.Reading.TheVariants.{Known, Literal}
use Rattle.xs_elements.specs.Nodes.{attribute_of, bears, value_of}
use Rattle.xs_elements.specs.Reading.{form_by, form_of, has_read_attributes, has_version, is_seen, reading_of, reads_attributes}
use Rattle.xs_elements.specs.Tags.{is_document_element, tag_of}
use Rattle.xs_modules.specs.Numbering.{ModuleData}
use Rattle.xs_static.specs.Faults.{Fault, Holds, IsFirstFault, is_bad_root, number_of, of_form, shows, some_value}
use Rattle.xs_structure.specs.Modules.{Place, line_at, records_at}
use Rattle.xs_tree.proofs.PlaceLemmas.{range-more}
use Rattle.xs_tree.proofs.WalkLemmas.{le_or_gt}
use Rattle.xs_tree.specs.Kinds.{is_element_kind}
use Rattle.xs_tree.specs.Record.{Record, at, attributes, local_at, uri_at}

-- ---- no element has a fault
pub no-fault : (ms : List ModuleData) → IsFirstFault ms None → (fault : Fault) (p : Place) → IsIn ms p
    → is_element_kind (at (records_at ms p.0) p.1).kind ≡ true → Holds fault ms p → ⊥
no-fault ms accepted fault p within element holds =
    accepted (record { «module» = p.0; line = line_at ms p.0 p.1; «number» = number_of fault }) (record {
      fault = fault;
      «number» = refl;
      node = p.1;
      known_module = within.«module»;
      known_node = within.node;
      element = element;
      line = refl;
      holds = holds;
    })

-- what an element that is looked at shows
pub shows-none : (ms : List ModuleData) → IsFirstFault ms None → (fault : Fault) (p : Place) → IsIn ms p
    → is_element_kind (at (records_at ms p.0) p.1).kind ≡ true
    → (is_seen (records_at ms p.0) p.1 && shows fault ms p ≡ true → Holds fault ms p) → is_seen (records_at ms p.0) p.1 ≡ true
    → shows fault ms p ≡ false
shows-none ms accepted fault p within element holds seen =
    false_from_ne_true (shows fault ms p)
    (λ h. no-fault ms accepted fault p within element (holds (and_from (is_seen (records_at ms p.0) p.1) (shows fault ms p) seen h)))

-- ---- lists
pub find-any : {X : Type 0} (test p : X → Bool) (xs : List X) (a : X) → find p xs ≡ Some a → list_any test xs ≡ false → (p a ≡ true) × (test a ≡ false)
find-any test p [] a e h = absurd (none-some a e)
find-any test p (x ∷ xs) a e h = by_test (p x) refl e (or_parts (test x) (list_any test xs) h) (λ f g. find-any test p xs a f g)
  where
    by_test : (b : Bool) → p x ≡ b → cond b (Some x) (find p xs) ≡ Some a → (test x ≡ false) × (list_any test xs ≡ false)
        → (find p xs ≡ Some a → list_any test xs ≡ false → (p a ≡ true) × (test a ≡ false)) → (p a ≡ true) × (test a ≡ false)
    by_test true f e parts again = let same : x ≡ a = cc (e) in (subst (λ y. p y ≡ true) same f, subst (λ y. test y ≡ false) same parts.0)
    by_test false f e parts again = again e parts.1

-- ---- attributes
-- an attribute that is read has no property that none has
pub attribute-clean : (rs : List Record) (n : ℕ) (property : Form → List ℕ → Bool) → has_read_attributes rs n ≡ true
    → some_value rs n property ≡ false → list_any (of_form rs n property) (attributes rs n) ≡ false
attribute-clean rs n property read clean = second (has_read_attributes rs n) (list_any (of_form rs n property) (attributes rs n)) read clean
  where
    second : (b c : Bool) → b ≡ true → (b && c) ≡ false → c ≡ false
    second true c e h = h
    second false c e h = absurd (false≢true e)

bytes-same : (xs ys : List ℕ) → bytes_eq xs ys ≡ true → xs ≡ ys
bytes-same xs ys h = (bytes_eq-Decides xs ys).0 h

-- nor has the value of one that is looked up
pub value-clean : (rs : List Record) (n : ℕ) (property : Form → List ℕ → Bool) (uri local value : List ℕ) (form : Form)
    → list_any (of_form rs n property) (attributes rs n) ≡ false → value_of rs n uri local ≡ Some value
    → form_by (reading_of rs n) (tag_of rs n) uri local ≡ Some form → property form value ≡ false
value-clean rs n property uri local value form clean h formed = by_place (attribute_of rs n uri local) refl h
  where
    some-is : (x y : List ℕ) → Some x ≡ Some y → x ≡ y
    some-is x y e = cc (e)

    by_place : (o : Option ℕ) → attribute_of rs n uri local ≡ o → option_map (λ a. (at rs a).text) o ≡ Some value → property form value ≡ false
    by_place None e g = absurd (none-some value g)
    by_place (Some a) e g =
        let found = find-any (of_form rs n property) (bears rs uri local) (attributes rs n) a e clean in
        let names = and_parts (bytes_eq (uri_at rs a) uri) (bytes_eq (local_at rs a) local) found.0 in
        let form_is : form_of rs n a ≡ Some form = ap (λ x. form_by (reading_of rs n) (tag_of rs n) x (local_at rs a)) (bytes-same (uri_at rs a) uri names.0)
        ∙ ap (λ x. form_by (reading_of rs n) (tag_of rs n) uri x) (bytes-same (local_at rs a) local names.1) ∙ formed in
        ap (property form) (sym (some-is (at rs a).text value g))
        ∙ sym (ap (λ (o : Option Form). option_map_or (λ form. property form (at rs a).text) o false) form_is) ∙ found.1

-- ---- the attributes of elements of XSLT and of literal elements are read
pub read-known : (rs : List Record) (n : ℕ) → reading_of rs n ≡ Known → has_read_attributes rs n ≡ true
read-known rs n e = ap (λ (r : Reading). reads_attributes r (is_document_element rs n) (has_version rs n)) e

pub read-literal : (rs : List Record) (n : ℕ) → reading_of rs n ≡ Literal → is_bad_root rs n ≡ false → has_read_attributes rs n ≡ true
read-literal rs n e good =
    ap (λ (r : Reading). reads_attributes r (is_document_element rs n) (has_version rs n)) e ∙ either (is_document_element rs n) (has_version rs n) good
  where
    either : (a b : Bool) → (a && not b) ≡ false → (not a || b) ≡ true
    either true true h = refl
    either true false h = absurd (true≢false h)
    either false b h = refl

-- what none of some places passes, none of them that is among all places
any-passing : (test p : ℕ → Bool) (n a : ℕ) → a < n → p a ≡ true → test a ≡ true → list_any test (filter p (range_with_len 0 n)) ≡ true
any-passing test p zero a lt passes holds = absurd (omega (arith, lt))
any-passing test p (suc n) a lt passes holds =
    let n_is : suc n ≡ n + 1 = omega arith in
    ap (λ m. list_any test (filter p (range_with_len 0 m))) n_is ∙ ap (λ xs. list_any test (filter p xs)) (range-more n)
    ∙ ap (list_any test) (filter-append p (range_with_len 0 n) (n ∷ []))
    ∙ list_any-append test (filter p (range_with_len 0 n)) (filter p (n ∷ []))
    ∙ elim (le_or_gt n a) [
      | inl here ↦ (let a_is : a ≡ n = omega (arith, here, lt) in
          or_right (list_any test (filter p (range_with_len 0 n))) (list_any test (filter p (n ∷ [])))
          (own (p n) (sym (ap p a_is) ∙ passes) (sym (ap test a_is) ∙ holds)))
      | inr before ↦ or_left (list_any test (filter p (range_with_len 0 n))) (list_any test (filter p (n ∷ [])))
          (any-passing test p n a before passes holds)
    ]
  where
    own : (b : Bool) → b ≡ true → test n ≡ true → list_any test (if b then n ∷ [] else []) ≡ true
    own true e h = or_left (test n) false h
    own false e h = absurd (false≢true e)

pub none-passing : (test p : ℕ → Bool) (n a : ℕ) → a < n → p a ≡ true → list_any test (filter p (range_with_len 0 n)) ≡ false → test a ≡ false
none-passing test p n a lt passes none =
    false_from_ne_true (test a) (λ h. true≢false (sym (any-passing test p n a lt passes h) ∙ none))
