-- What modules declare, mention by mention.
use Rattle.std.proofs.Common.{◌≡◌, ◌∙◌, ℕ, suc, zero, ◌+◌, ◌-◌, ◌<◌, ◌≤◌, ap, refl, sym, subst, arith, List, [], ◌∷◌, ◌++◌, cond, drop, length, Bool, true, false, Option, Some, None}
use Rattle.std.proofs.lemmas.Bool.{and_from, and_parts, eq-eqb, eqb-true}
use Rattle.std.proofs.lemmas.List.{append-nil, drop_all}
use Rattle.std.proofs.lemmas.List.Elements.{All-append, All-cons, All-filter, All-head, All-nil, All-tail, filter_passes}
use Rattle.std.proofs.lemmas.Option.{none-some}
use Rattle.std.specs.List.{All, find, flat_map, range_with_len}
use Rattle.std.specs.Option.{option_map_or}
use Rattle.std.specs.Prelude.{◌==◌}
use Rattle.xs_structure.specs.Order.{declarations, declarations_from, is_declaration, own_declarations}
use Rattle.xs_structure.specs.Places.{IsIn}
use Rattle.xs_structure.specs.steps.Order.{declarations_of_element}
use Rattle.xs_modules.specs.Numbering.{ModuleData}
use Rattle.xs_structure.specs.Modules.{Place, is_mentioned_by, is_same_place, mentioned, records_at}
use Rattle.xs_tree.specs.Record.{places}

-- ---- places
pub same-place : (p : Place) → is_same_place p p ≡ true
same-place p = and_from (p.0 == p.0) (p.1 == p.1) (eq-eqb p.0 p.0 refl) (eq-eqb p.1 p.1 refl)

pub place-same : (p q : Place) → is_same_place p q ≡ true → p ≡ q
place-same p q h =
    let both = and_parts (p.0 == q.0) (p.1 == q.1) h in
    ap {B = Place} (λ (a : ℕ). (a, p.1)) (eqb-true p.0 q.0 both.0) ∙ ap {B = Place} (λ (b : ℕ). (q.0, b)) (eqb-true p.1 q.1 both.1)

-- ---- what modules declare
pub declarations_step : (depth : ℕ) (ms : List ModuleData) (m : ℕ) → 0 < depth
    → flat_map (λ n. declarations_of_element (depth - 1) ms (m, n)) (own_declarations (records_at ms m)) ≡ declarations_from depth ms m
unfolding declarations_from
declarations_step zero ms m h = absurd (omega (arith, h))
declarations_step (suc depth) ms m h =
    let d : suc depth - 1 ≡ depth = omega arith in
    ap (λ d. flat_map (λ n. declarations_of_element d ms (m, n)) (own_declarations (records_at ms m))) d

pub declarations_none : (ms : List ModuleData) (m : ℕ) → declarations_from 0 ms m ≡ []
unfolding declarations_from
declarations_none ms m = refl

-- all was added
pub declarations_end : (depth : ℕ) (ms : List ModuleData) (m i : ℕ) (items : List ℕ) (old out : List Place) → 0 < depth → length items ≤ i
    → items ≡ own_declarations (records_at ms m)
    → out ++ flat_map (λ n. declarations_of_element (depth - 1) ms (m, n)) (drop i items)
    ≡ old ++ flat_map (λ n. declarations_of_element (depth - 1) ms (m, n)) items
    → out ≡ old ++ declarations_from depth ms m
declarations_end depth ms m i items old out h past e all =
    sym (append-nil out)
    ∙ ap (λ (ns : List ℕ). out ++ flat_map (λ n. declarations_of_element (depth - 1) ms (m, n)) ns) (sym (drop_all i items past))
    ∙ all
    ∙ ap (λ (ns : List ℕ). old ++ flat_map (λ n. declarations_of_element (depth - 1) ms (m, n)) ns) e
    ∙ ap (λ (ps : List Place). old ++ ps) (declarations_step depth ms m h)

-- ---- what is declared stands in the stylesheet
pub all_below : (a n m : ℕ) → a + n ≤ m → All (λ k. k < m) (range_with_len a n)
all_below a zero m h = All-nil (λ k. k < m)
all_below a (suc n) m h = All-cons (λ k. k < m) a (range_with_len (a + 1) n) (omega (arith, h)) (all_below (a + 1) n m (omega (arith, h)))

module _ {X : Type 0} (P : X → Type 0) where
  pub all-flat : {Y : Type 0} (Q : Y → Type 0) (f : Y → List X) → ((y : Y) → Q y → All P (f y)) → (ys : List Y) → All Q ys → All P (flat_map f ys)
  all-flat Q f h [] a = All-nil P
  all-flat Q f h (y ∷ ys) a = All-append P (f y) (flat_map f ys) (h y (All-head Q y ys a)) (all-flat Q f h ys (All-tail Q y ys a))

  first-or : (x y : X) (o : Option X) (b : Bool) → P x → (o ≡ Some y → P y) → cond b (Some x) o ≡ Some y → P y
  first-or x y o true px rest h = subst P (ap (λ (o : Option X). option_map_or (λ z. z) o x) h) px
  first-or x y o false px rest h = rest h

  pub found-passes : (test : X → Bool) (xs : List X) → All P xs → (y : X) → find test xs ≡ Some y → P y
  found-passes test [] a y h = absurd (none-some y h)
  found-passes test (x ∷ xs) a y h =
      first-or x y (find test xs) (test x) (All-head P x xs a) (found-passes test xs (All-tail P x xs a) y) h

module _ (ms : List ModuleData) where
  element_inside : (most m n : ℕ) → m < length ms → n < length (records_at ms m)
      → ((k : ℕ) → k < length ms → All (IsIn ms) (declarations_from most ms k)) → (o : Option ℕ) → mentioned ms (m, n) ≡ o
      → All (IsIn ms) (option_map_or (declarations_from most ms) o ((m, n) ∷ []))
  element_inside most m n h inside again None e =
      All-cons (IsIn ms) (m, n) [] (record { «module» = h; node = inside }) (All-nil (IsIn ms))
  element_inside most m n h inside again (Some k) e =
      again k (found-passes (λ k. k < length ms) (is_mentioned_by ms (m, n)) (range_with_len 0 (length ms))
      (all_below 0 (length ms) (length ms) (omega arith)) k e)

  pub declared_inside : (most m : ℕ) → m < length ms → All (IsIn ms) (declarations_from most ms m)
  unfolding declarations_from
  declared_inside zero m h = All-nil (IsIn ms)
  declared_inside (suc most) m h =
      let rs = records_at ms m in
      all-flat (IsIn ms) (λ n. n < length rs) (λ n. option_map_or (declarations_from most ms) (mentioned ms (m, n)) ((m, n) ∷ []))
      (λ n inside. element_inside most m n h inside (declared_inside most) (mentioned ms (m, n)) refl) (own_declarations rs)
      (All-filter (is_declaration rs) (λ n. n < length rs) (places rs) (all_below 0 (length rs) (length rs) (omega arith)))

-- a declaration of the stylesheet
pub record IsDeclared (ms : List ModuleData) (p : Place) : Type 0 where
  pub within : IsIn ms p
  pub declares : is_declaration (records_at ms p.0) p.1 ≡ true

pub both : {A : Type 0} (P Q : A → Type 0) (xs : List A) → All P xs → All Q xs → All (λ x. P x × Q x) xs
both P Q [] p q = All-nil (λ x. P x × Q x)
both P Q (x ∷ xs) p q =
    All-cons (λ x. P x × Q x) x xs (All-head P x xs p, All-head Q x xs q) (both P Q xs (All-tail P x xs p) (All-tail Q x xs q))

module _ (ms : List ModuleData) where
  element-declared : (most m n : ℕ) → m < length ms → n < length (records_at ms m) → is_declaration (records_at ms m) n ≡ true
      → ((k : ℕ) → k < length ms → All (IsDeclared ms) (declarations_from most ms k)) → (o : Option ℕ) → mentioned ms (m, n) ≡ o
      → All (IsDeclared ms) (option_map_or (declarations_from most ms) o ((m, n) ∷ []))
  element-declared most m n h inside own again None e =
      All-cons (IsDeclared ms) (m, n) [] (record { within = record { «module» = h; node = inside }; declares = own }) (All-nil (IsDeclared ms))
  element-declared most m n h inside own again (Some k) e =
      again k (found-passes (λ k. k < length ms) (is_mentioned_by ms (m, n)) (range_with_len 0 (length ms))
      (all_below 0 (length ms) (length ms) (omega arith)) k e)

  from-declared : (most m : ℕ) → m < length ms → All (IsDeclared ms) (declarations_from most ms m)
  unfolding declarations_from
  from-declared zero m h = All-nil (IsDeclared ms)
  from-declared (suc most) m h =
      let rs = records_at ms m in
      let inside = All-filter (is_declaration rs) (λ n. n < length rs) (places rs) (all_below 0 (length rs) (length rs) (omega arith)) in
      all-flat (IsDeclared ms) (λ n. (n < length rs) × (is_declaration rs n ≡ true))
      (λ n. option_map_or (declarations_from most ms) (mentioned ms (m, n)) ((m, n) ∷ []))
      (λ n own. element-declared most m n h own.0 own.1 (from-declared most) (mentioned ms (m, n)) refl) (own_declarations rs)
      (both (λ n. n < length rs) (λ n. is_declaration rs n ≡ true) (own_declarations rs) inside (filter_passes (is_declaration rs) (places rs)))

  pub all-declared : 0 < length ms → All (IsDeclared ms) (declarations ms)
  all-declared h = from-declared (length ms) 0 h
