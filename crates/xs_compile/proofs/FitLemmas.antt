-- The slots that the children of an element take, one after another.
use Rattle.std.proofs.Common.{◌≡◌, ◌∙◌, ◌<◌, ◌≤◌, ◌+◌, ◌⊎◌, ℕ, zero, suc, ap, arith, refl, sym, subst, List, [], ◌∷◌, Bool, true, false, None, cond, filter, length, map, inl, inr}
use Rattle.std.proofs.lemmas.Bool.{and_from, and_parts, false_from_ne_true, false≢true}
use Rattle.std.specs.List.{range_with_len}
use Rattle.std.specs.Prelude.{◌&&◌, ◌||◌, not}
use Rattle.xs_compile.proofs.BoundLemmas.{locals_at}
use Rattle.xs_compile.proofs.ContentLemmas.{IsOwn, element-child, own-parts, params-before, variable-element}
use Rattle.xs_compile.proofs.LevelLemmas.{is_own, passing-behind, passing-either, passing-fewer-places, passing-none, visible-few}
use Rattle.xs_compile.proofs.OpenLemmas.{one_if, passing-more}
use Rattle.xs_structure.proofs.TopLemmas.{is_place-true, seen-child}
use Rattle.xs_compile.proofs.ReachLemmas.{parent-before, place-is}
use Rattle.xs_compile.proofs.ShownLemmas.{IsChildOf}
use Rattle.xs_structure.specs.Parts.{body_at, children_with, is_in_body, reading_at, tag_at, is_content}
use Rattle.xs_structure.specs.Places.{IsIn}
use Rattle.xs_elements.specs.declared.contents.Content.TheVariants.{ParametersAndBody}
use Rattle.xs_elements.specs.declared.tags.Tag.{Tag}
use Rattle.xs_elements.specs.declared.tags.Tag.TheVariants.{Variable, Param}
use Rattle.xs_elements.specs.Reading.{content_at, is_seen, shows}
use Rattle.xs_elements.specs.Tags.{is_param, is_sort, is_variable, tag_of}
use Rattle.xs_elements.specs.WhiteSpace.{is_kept_text}
use Rattle.xs_modules.specs.Numbering.{ModuleData}
use Rattle.xs_static.specs.Faults.{IsFirstFault}
use Rattle.xs_structure.specs.Modules.{Place, records_at}
use Rattle.xs_tree.specs.Kinds.{is_child_kind, is_element_kind}
use Rattle.xs_tree.specs.Record.{Record, at, is_child, is_place}
use Rattle.xs_tree.specs.Shape.{IsTree}

-- ---- a number that grows along the places of a list
module _ (P : ℕ → Place → Type 0) (Last : ℕ → Type 0) (grow : Place → ℕ) where
  abbrev pub Along : ℕ → List Place → Type 0
  Along n [] = Last n
  Along n (p ∷ ps) = P n p × Along (n + grow p) ps

  -- those children that pass a test, where the number is a count of them
  module _ (place : ℕ → Place) (child : ℕ → Bool) (pass : Place → Bool) (size : ℕ → ℕ) (total : ℕ)
      (taken : (a : ℕ) → a < total → child a ≡ true → pass (place a) ≡ true → P (size a) (place a) × (size (a + 1) ≡ size a + grow (place a)))
      (skipped : (a : ℕ) → a < total → (child a && pass (place a)) ≡ false → size (a + 1) ≡ size a) (last : Last (size total)) where
    pub along-from : (a many : ℕ) → a + many ≡ total → Along (size a) (filter pass (map place (filter child (range_with_len a many))))
    along-from a zero e = let same : a ≡ total = omega (arith, e) in subst (λ n. Last (size n)) (sym same) last
    along-from a (suc many) e = by_child (child a) refl (along-from (a + 1) many (omega (arith, e)))
      where
        inside : a < total
        inside = omega (arith, e)

        by_pass : (c : Bool) → pass (place a) ≡ c → child a ≡ true → (more : List Place) → Along (size (a + 1)) more
            → Along (size a) (cond c (place a ∷ more) more)
        by_pass true g h more rest = let t = taken a inside h g in (t.0, subst (λ n. Along n more) t.1 rest)
        by_pass false g h more rest =
            subst (λ n. Along n more) (skipped a inside (ap (λ (b : Bool). b && pass (place a)) h ∙ g)) rest

        by_child : (c : Bool) → child a ≡ c → Along (size (a + 1)) (filter pass (map place (filter child (range_with_len (a + 1) many))))
            → Along (size a) (filter pass (map place (cond c (a ∷ filter child (range_with_len (a + 1) many)) (filter child (range_with_len (a + 1) many)))))
        by_child true h rest = by_pass (pass (place a)) refl h (filter pass (map place (filter child (range_with_len (a + 1) many)))) rest
        by_child false h rest =
            subst (λ n. Along n (filter pass (map place (filter child (range_with_len (a + 1) many)))))
            (skipped a inside (ap (λ (b : Bool). b && pass (place a)) h)) rest

-- ---- the children that take slots
abbrev pub is_param_in : List Record → (inside : ℕ) → ℕ → Bool
is_param_in rs n k = is_child rs n k && is_param (tag_of rs k)

abbrev pub is_variable_in : List ModuleData → (inside : Place) → ℕ → Bool
is_variable_in ms p k =
    is_child (records_at ms p.0) p.1 k && (is_in_body ms p (p.0, k) && is_variable (tag_at ms (p.0, k)))

-- how many of the first so many nodes are parameters of an element
abbrev pub params_in : List Record → (inside count : ℕ) → ℕ
params_in rs n count = length (filter (is_param_in rs n) (range_with_len 0 count))

abbrev pub variables_in : List ModuleData → (inside : Place) → (count : ℕ) → ℕ
variables_in ms p count = length (filter (is_variable_in ms p) (range_with_len 0 count))

first-false : (a b c : Bool) → (a && b) ≡ false → (a && (b && c)) ≡ false
first-false true b c h = ap (λ (x : Bool). x && c) h
first-false false b c h = refl

-- an instruction, before which so many slots are taken at most
pub record At (ms : List ModuleData) (locals : ℕ) (p : Place) : Type 0 where
  pub within : IsIn ms p
  pub seen : is_seen (records_at ms p.0) p.1 ≡ true
  pub enough : locals_at ms p ≤ locals
  pub few : locals ≤ length (records_at ms p.0) + p.1

-- an element that shows all its children, before whose body so many slots are taken at most
pub record Opens (ms : List ModuleData) (locals : ℕ) (p : Place) : Type 0 where
  pub within : IsIn ms p
  pub seen : is_seen (records_at ms p.0) p.1 ≡ true
  pub shown : (tag : Tag) → shows (reading_at ms p) tag ≡ true
  pub enough : locals_at ms p + params_in (records_at ms p.0) p.1 (length (records_at ms p.0)) ≤ locals
  pub few : locals ≤ length (records_at ms p.0) + p.1

module _ (ms : List ModuleData) (bound : ℕ) (trees : (m : ℕ) → m < length ms → IsTree (records_at ms m)) (accepted : IsFirstFault ms None) where
  module _ (p : Place) where
    abbrev rs : List Record
    rs = records_at ms p.0

    child-of : (k : ℕ) → k < length rs → is_child rs p.1 k ≡ true → IsChildOf rs p.1 k
    child-of k inside h =
        record { inside = inside; parent = is_place-true p.1 (at rs k).parent (and_parts (is_place p.1 (at rs k).parent) (is_child_kind (at rs k).kind) h).0 }

    no-child-before : IsTree rs → p.1 < length rs → (test : ℕ → Bool) → (k : ℕ) → k < p.1 → (is_child rs p.1 k && test k) ≡ false
    no-child-before tree inside test k before =
        false_from_ne_true (is_child rs p.1 k && test k) (λ h.
        let child = child-of k (omega (arith, before, inside)) (and_parts (is_child rs p.1 k) (test k) h).0 in
        let behind = parent-before rs tree k p.1 child.inside child.parent in
        omega (arith, before, behind))

    -- a local binding that is a child is a parameter, or a variable in the body
    own-cases : (k : ℕ) → k < length rs → is_own rs p.1 k ≡ true → (is_variable_in ms p k ≡ true) ⊎ (is_param_in rs p.1 k ≡ true)
    own-cases k inside h = by_tag (tag_of rs k) refl own.tag
      where
        own : IsOwn rs p.1 k
        own = own-parts rs p.1 k h

        element : is_element_kind (at rs k).kind ≡ true
        element = variable-element rs k own.tag

        child : is_child rs p.1 k ≡ true
        child = and_from (is_place p.1 (at rs k).parent) (is_child_kind (at rs k).kind) (place-is p.1 (at rs k).parent own.parent)
            (element-child (at rs k).kind element)

        variable : is_param (tag_of rs k) ≡ false → is_sort (tag_of rs k) ≡ false → is_variable_in ms p k ≡ true
        variable e f =
            and_from (is_child rs p.1 k) (is_in_body ms p (p.0, k) && is_variable (tag_of rs k)) child
            (and_from (is_in_body ms p (p.0, k)) (is_variable (tag_of rs k))
            (and_from (is_content rs p.1 k) (not (is_param (tag_of rs k) || is_sort (tag_of rs k)))
            (ap (λ (x : Bool). x || is_kept_text rs p.1 k) element)
            (ap (λ (x : Bool). not (x || is_sort (tag_of rs k))) e ∙ ap (λ (x : Bool). not x) f)) own.tag)

        by_tag : (tag : Tag) → tag_of rs k ≡ tag → is_variable tag ≡ true → (is_variable_in ms p k ≡ true) ⊎ (is_param_in rs p.1 k ≡ true)
        by_tag Variable e f = inl (variable (ap is_param e) (ap is_sort e))
        by_tag Param e f = inr (and_from (is_child rs p.1 k) (is_param (tag_of rs k)) child (ap is_param e))
        by_tag tag e f = absurd (false≢true f)

    module _ (tree : IsTree rs) (inside : p.1 < length rs) where
      own-split : (k : ℕ) → k < length rs
          → length (filter (is_own rs p.1) (range_with_len 0 k)) ≤ variables_in ms p k + params_in rs p.1 k
      own-split k within =
          passing-either (is_own rs p.1) (is_variable_in ms p) (is_param_in rs p.1) k (λ j lt. own-cases j (omega (arith, lt, within)))

      few-variables : (k : ℕ) → p.1 ≤ k → variables_in ms p k + p.1 ≤ k
      few-variables k le =
          passing-behind (is_variable_in ms p) p.1 k
          (no-child-before tree inside (λ j. is_in_body ms p (p.0, j) && is_variable (tag_of rs j))) le

      few-params : (k : ℕ) → p.1 ≤ k → params_in rs p.1 k + p.1 ≤ k
      few-params k le = passing-behind (is_param_in rs p.1) p.1 k (no-child-before tree inside (λ j. is_param (tag_of rs j))) le

  -- ---- the body of an element
  module _ (locals : ℕ) (p : Place) (h : Opens ms locals p) (small : length (records_at ms p.0) + length (records_at ms p.0) < bound) where
    abbrev tree-here : IsTree (records_at ms p.0)
    tree-here = trees p.0 h.within.«module»

    body-taken : (a : ℕ) → a < length (records_at ms p.0) → is_child (records_at ms p.0) p.1 a ≡ true
        → is_in_body ms p (p.0, a) ≡ true
        → At ms (locals + variables_in ms p a) (p.0, a)
        × (locals + variables_in ms p (a + 1) ≡ (locals + variables_in ms p a) + one_if (is_variable (tag_at ms (p.0, a))))
    body-taken a within child pass =
        let rs = records_at ms p.0 in
        let tree = trees p.0 h.within.«module» in
        let c = child-of p a within child in
        let behind = parent-before rs tree a p.1 within c.parent in
        let on : p.1 ≤ a = omega (arith, behind) in
        let visible = visible-few rs tree p.1 a within c.parent in
        let split = own-split p tree h.within.node a within in
        let le : a ≤ length rs = omega (arith, within) in
        let params = passing-fewer-places (is_param_in rs p.1) a (length rs) le in
        let variables = few-variables p tree h.within.node a on in
        let more = passing-more (is_variable_in ms p) a (is_variable (tag_of rs a))
        (ap (λ (x : Bool). x && (is_in_body ms p (p.0, a) && is_variable (tag_of rs a))) child
        ∙ ap (λ (x : Bool). x && is_variable (tag_of rs a)) pass) in
        let enough = h.enough in
        let few = h.few in (
          record {
            within = record { «module» = h.within.«module»; node = within };
            seen = seen-child rs tree p.1 a within c.parent (h.shown (tag_of rs a)) h.seen;
            enough = omega (arith, visible, split, params, enough);
            few = omega (arith, few, variables);
          },
          omega (arith, more),
        )

    body-skipped : (a : ℕ) → a < length (records_at ms p.0)
        → (is_child (records_at ms p.0) p.1 a && is_in_body ms p (p.0, a)) ≡ false
        → locals + variables_in ms p (a + 1) ≡ locals + variables_in ms p a
    body-skipped a within e =
        let more = passing-more (is_variable_in ms p) a false
        (first-false (is_child (records_at ms p.0) p.1 a) (is_in_body ms p (p.0, a)) (is_variable (tag_at ms (p.0, a))) e) in
        omega (arith, more)

    body-last : locals + variables_in ms p (length (records_at ms p.0)) < bound
    body-last =
        let le : p.1 ≤ length (records_at ms p.0) = omega (arith, h.within.node) in
        let variables = few-variables p (trees p.0 h.within.«module») h.within.node (length (records_at ms p.0)) le in
        let few = h.few in
        omega (arith, few, variables, small)

    pub body-along : Along (At ms) (λ n. n < bound) (λ q. one_if (is_variable (tag_at ms q))) locals (body_at ms p)
    body-along =
        let rs = records_at ms p.0 in
        let start : locals + variables_in ms p 0 ≡ locals = omega arith in
        subst (λ n. Along (At ms) (λ n. n < bound) (λ q. one_if (is_variable (tag_at ms q))) n (body_at ms p)) start
        (along-from (At ms) (λ n. n < bound) (λ q. one_if (is_variable (tag_at ms q))) (λ k. (p.0, k)) (is_child rs p.1) (is_in_body ms p)
        (λ a. locals + variables_in ms p a) (length rs) body-taken body-skipped body-last 0 (length rs) (omega arith))

  -- ---- the parameters of a template, at which nothing else is visible
  module _ (p : Place) (within : IsIn ms p) (seen : is_seen (records_at ms p.0) p.1 ≡ true)
      (shown : (tag : Tag) → shows (reading_at ms p) tag ≡ true) (content : content_at (records_at ms p.0) p.1 ≡ ParametersAndBody)
      (none : locals_at ms p ≡ 0) where
    params-taken : (a : ℕ) → a < length (records_at ms p.0) → is_child (records_at ms p.0) p.1 a ≡ true
        → is_param (tag_at ms (p.0, a)) ≡ true
        → At ms (params_in (records_at ms p.0) p.1 a) (p.0, a)
        × (params_in (records_at ms p.0) p.1 (a + 1) ≡ params_in (records_at ms p.0) p.1 a + 1)
    params-taken a inside child pass =
        let rs = records_at ms p.0 in
        let tree = trees p.0 within.«module» in
        let c = child-of p a inside child in
        let behind = parent-before rs tree a p.1 inside c.parent in
        let on : p.1 ≤ a = omega (arith, behind) in
        let visible = visible-few rs tree p.1 a inside c.parent in
        let own-seen = seen-child rs tree p.1 a inside c.parent (shown (tag_of rs a)) seen in
        let before = params-before ms accepted p.0 within.«module» tree p.1 content a inside own-seen c.parent pass in
        let split = passing-either (is_own rs p.1) (is_param_in rs p.1) (λ k. false) a (λ k lt h. inl
        (own-param a inside k lt h (before k lt h))) in
        let nothing = passing-none (λ k. false) a (λ k lt. refl) in
        let params = few-params p tree within.node a on in
        let more = passing-more (is_param_in rs p.1) a true (and_from (is_child rs p.1 a) (is_param (tag_of rs a)) child pass) in (
          record {
            within = record { «module» = within.«module»; node = inside };
            seen = own-seen;
            enough = omega (arith, visible, split, nothing, none);
            few = omega (arith, params, inside);
          },
          omega (arith, more),
        )
      where
        own-param : (a : ℕ) → a < length (records_at ms p.0) → (k : ℕ) → k < a → is_own (records_at ms p.0) p.1 k ≡ true
            → is_param (tag_of (records_at ms p.0) k) ≡ true → is_param_in (records_at ms p.0) p.1 k ≡ true
        own-param a inside k lt h tag =
            let rs = records_at ms p.0 in
            let own = own-parts rs p.1 k h in
            and_from (is_child rs p.1 k) (is_param (tag_of rs k))
            (and_from (is_place p.1 (at rs k).parent) (is_child_kind (at rs k).kind) (place-is p.1 (at rs k).parent own.parent)
            (element-child (at rs k).kind (variable-element rs k own.tag)))
            tag

    params-skipped : (a : ℕ) → a < length (records_at ms p.0)
        → (is_child (records_at ms p.0) p.1 a && is_param (tag_at ms (p.0, a))) ≡ false
        → params_in (records_at ms p.0) p.1 (a + 1) ≡ params_in (records_at ms p.0) p.1 a
    params-skipped a inside e =
        let more = passing-more (is_param_in (records_at ms p.0) p.1) a false e in
        omega (arith, more)

    pub params-along : Along (At ms) (λ n. Unit {0}) (λ q. 1) 0 (children_with is_param ms p)
    params-along =
        let rs = records_at ms p.0 in
        along-from (At ms) (λ n. Unit {0}) (λ q. 1) (λ k. (p.0, k)) (is_child rs p.1) (λ q. is_param (tag_at ms q)) (params_in rs p.1) (length rs)
        params-taken params-skipped tt 0 (length rs) (omega arith)

  -- how many they are
  pub params-many : (m n : ℕ) (ks : List ℕ)
      → length (filter (λ (q : Place). is_param (tag_at ms q)) (map (λ k. (m, k)) (filter (is_child (records_at ms m) n) ks)))
      ≡ length (filter (is_param_in (records_at ms m) n) ks)
  params-many m n [] = refl
  params-many m n (k ∷ ks) =
      by (is_child rs n k) (is_param (tag_of rs k)) refl (params-many m n ks)
    where
      rs : List Record
      rs = records_at ms m

      pass : Place → Bool
      pass q = is_param (tag_at ms q)

      tail : List ℕ
      tail = filter (is_child rs n) ks

      kept : List ℕ
      kept = filter (is_param_in rs n) ks

      by : (a b : Bool) → is_param (tag_of rs k) ≡ b → length (filter pass (map (λ k. (m, k)) tail)) ≡ length kept
          → length (filter pass (map (λ k. (m, k)) (cond a (k ∷ tail) tail))) ≡ length (cond (a && b) (k ∷ kept) kept)
      by true true f h =
          let rest = filter pass (map (λ k. (m, k)) tail) in
          let here = ap (λ (b : Bool). length (cond b ((m, k) ∷ rest) rest)) f in
          omega (arith, here, h)
      by true false f h =
          let rest = filter pass (map (λ k. (m, k)) tail) in
          ap (λ (b : Bool). length (cond b ((m, k) ∷ rest) rest)) f ∙ h
      by false b f h = h
