-- Which nodes a step of a pattern selects from their parent.
use Rattle.std.proofs.Common.{◌≡◌, ℕ, ◌+◌, ◌<◌, ◌==◌, ◌&&◌, Bool, true, false, List, [], filter, length, Option, Some}
use Rattle.std.proofs.Common.{refl, sym, ap, subst, ◌∙◌, arith}
use Rattle.std.proofs.lemmas.Bool.{and_from, and_parts, eq-eqb, eqb-true, true≢false}
use Rattle.std.specs.List.{list_any}
use Rattle.xs_tree.specs.declared.axes.Axis.{Axis}
use Rattle.xs_tree.specs.declared.axes.Axis.TheVariants.{Child, Attribute as AttributeAxis}
use Rattle.xs_tree.specs.declared.kinds.Kind.{Kind}
use Rattle.xs_tree.specs.Axis.{axis_list, is_on}
use Rattle.xs_tree.specs.Kinds.{is_attribute_kind, is_child_kind}
use Rattle.xs_tree.specs.Record.{Record, at, is_place, places}
use Rattle.xs_xpath.specs.declared.name.NodeTest.{NodeTest}
use Rattle.xs_eval_spec.specs.Context.{Context}
use Rattle.xs_eval_spec.specs.Paths.{Meaning, passes, tested}
use Rattle.xs_pattern_spec.specs.Matching.{placed_at, step_nodes}
use Rattle.xs_pattern_spec.specs.Predicates.{all_kept, is_among}
use Rattle.xs_pattern.specs.steps.Alone.{AreSaid}
use Rattle.xs_pattern.specs.steps.Climb.{stands_on}
use Rattle.xs_pattern.proofs.AncestorLemmas.{any-filter, any-from, any-to, same}
use Rattle.xs_pattern.proofs.KeptLemmas.{not-kept}

-- a node that passes two tests, among all places
pub among-places : (t u : ℕ → Bool) (rs : List Record) (n : ℕ) → n < length rs → is_among n (filter t (filter u (places rs))) ≡ (u n && t n)
among-places t u rs n h =
    any-filter (λ k. k == n) t (filter u (places rs))
    ∙ any-filter (λ k. t k && (k == n)) u (places rs)
    ∙ same (list_any (λ k. u k && (t k && (k == n))) (places rs)) (u n && t n) there here
  where
    there : list_any (λ k. u k && (t k && (k == n))) (places rs) ≡ true → (u n && t n) ≡ true
    there e =
        let w : (k : ℕ) × (k < 0 + length rs) × ((u k && (t k && (k == n))) ≡ true) = any-to (λ k. u k && (t k && (k == n))) 0 (length rs) e in
        let k : ℕ = w.0 in
        let p : (u k ≡ true) × ((t k && (k == n)) ≡ true) = and_parts (u k) (t k && (k == n)) w.2 in
        let q : (t k ≡ true) × ((k == n) ≡ true) = and_parts (t k) (k == n) p.1 in
        subst (λ (j : ℕ). (u j && t j) ≡ true) (eqb-true k n q.1) (and_from (u k) (t k) p.0 q.0)

    here : (u n && t n) ≡ true → list_any (λ k. u k && (t k && (k == n))) (places rs) ≡ true
    here e =
        let p : (u n ≡ true) × (t n ≡ true) = and_parts (u n) (t n) e in
        any-from (λ k. u k && (t k && (k == n))) 0 (length rs) n (omega arith) (omega (arith, h))
        (and_from (u n) (t n && (n == n)) p.0 (and_from (t n) (n == n) p.1 (eq-eqb n n refl)))

-- whether the parent has the node on an axis
own-place : (p : ℕ) (o : Option ℕ) (b : Bool) → o ≡ Some p → (is_place p o && b) ≡ b
own-place p o b e = ap (λ (x : Option ℕ). is_place p x && b) e ∙ ap (λ t. t && b) (eq-eqb p p refl)

child-among : (which : NodeTest) (c : Context) (p n : ℕ) → n < length c.tree → (at c.tree n).parent ≡ Some p
    → is_among n (tested Child which (placed_at c p)) ≡ (is_child_kind (at c.tree n).kind && passes Child which (at c.tree n))
unfolding axis_list
child-among which c p n h e =
    among-places (λ k. passes Child which (at c.tree k)) (is_on Child c.tree p) c.tree n h
    ∙ ap (λ b. b && passes Child which (at c.tree n)) (own-place p (at c.tree n).parent (is_child_kind (at c.tree n).kind) e)

attribute-among : (which : NodeTest) (c : Context) (p n : ℕ) → n < length c.tree → (at c.tree n).parent ≡ Some p
    → is_among n (tested AttributeAxis which (placed_at c p)) ≡ (is_attribute_kind (at c.tree n).kind && passes AttributeAxis which (at c.tree n))
unfolding axis_list
attribute-among which c p n h e =
    among-places (λ k. passes AttributeAxis which (at c.tree k)) (is_on AttributeAxis c.tree p) c.tree n h
    ∙ ap (λ b. b && passes AttributeAxis which (at c.tree n)) (own-place p (at c.tree n).parent (is_attribute_kind (at c.tree n).kind) e)

first-false : (a b : Bool) → a ≡ false → (a && b) ≡ false
first-false a b e = ap (λ x. x && b) e

last-false : (a b : Bool) → b ≡ false → (a && b) ≡ false
last-false true b e = e
last-false false b e = refl

-- a node of another kind
pub stands-not : (axis : Axis) (which : NodeTest) (ms : List Meaning) (c : Context) (p n : ℕ) → n < length c.tree → (at c.tree n).parent ≡ Some p
    → stands_on axis (at c.tree n).kind ≡ false → is_among n (step_nodes axis which ms (placed_at c p)) ≡ false
stands-not Child which ms c p n h e f =
    not-kept (placed_at c p) n ms (tested Child which (placed_at c p)) (child-among which c p n h e ∙ first-false _ (passes Child which (at c.tree n)) f)
stands-not AttributeAxis which ms c p n h e f =
    not-kept (placed_at c p) n ms (tested AttributeAxis which (placed_at c p))
    (attribute-among which c p n h e ∙ first-false _ (passes AttributeAxis which (at c.tree n)) f)
stands-not _ which ms c p n h e f = refl

-- one that does not pass the which
pub passes-not : (axis : Axis) (which : NodeTest) (ms : List Meaning) (c : Context) (p n : ℕ) → n < length c.tree → (at c.tree n).parent ≡ Some p
    → passes axis which (at c.tree n) ≡ false → is_among n (step_nodes axis which ms (placed_at c p)) ≡ false
passes-not Child which ms c p n h e f =
    not-kept (placed_at c p) n ms (tested Child which (placed_at c p))
    (child-among which c p n h e ∙ last-false (is_child_kind (at c.tree n).kind) (passes Child which (at c.tree n)) f)
passes-not AttributeAxis which ms c p n h e f =
    not-kept (placed_at c p) n ms (tested AttributeAxis which (placed_at c p))
    (attribute-among which c p n h e ∙ last-false (is_attribute_kind (at c.tree n).kind) (passes AttributeAxis which (at c.tree n)) f)
passes-not _ which ms c p n h e f = refl

-- one that passes, where there is no predicate
pub passes-lone : (axis : Axis) (which : NodeTest) (c : Context) (p n : ℕ) → n < length c.tree → (at c.tree n).parent ≡ Some p
    → stands_on axis (at c.tree n).kind ≡ true → passes axis which (at c.tree n) ≡ true → is_among n (step_nodes axis which [] (placed_at c p)) ≡ true
passes-lone Child which c p n h e s f = child-among which c p n h e ∙ and_from (is_child_kind (at c.tree n).kind) (passes Child which (at c.tree n)) s f
passes-lone AttributeAxis which c p n h e s f =
    attribute-among which c p n h e ∙ and_from (is_attribute_kind (at c.tree n).kind) (passes AttributeAxis which (at c.tree n)) s f
passes-lone _ which c p n h e s f = absurd (true≢false (sym s))

-- an axis that patterns have
pub stands-nodes : (axis : Axis) (kind : Kind) (which : NodeTest) (ms : List Meaning) (c : Context) → stands_on axis kind ≡ true
    → step_nodes axis which ms c ≡ all_kept c (tested axis which c) ms
stands-nodes Child kind which ms c s = refl
stands-nodes AttributeAxis kind which ms c s = refl
stands-nodes _ kind which ms c s = absurd (true≢false (sym s))

-- one of which the predicates say so wherever it stands
pub said-nodes : (axis : Axis) (which : NodeTest) (ms : List Meaning) (c : Context) (p n : ℕ) (b : Bool) → n < length c.tree → (at c.tree n).parent ≡ Some p
    → stands_on axis (at c.tree n).kind ≡ true → passes axis which (at c.tree n) ≡ true → AreSaid n (placed_at c p) ms (Some b)
    → b ≡ is_among n (step_nodes axis which ms (placed_at c p))
said-nodes axis which ms c p n b h e s f all =
    let nodes : List ℕ = tested axis which (placed_at c p) in
    let one : is_among n nodes ≡ true =
    sym (ap (is_among n) (stands-nodes axis (at c.tree n).kind which [] (placed_at c p) s)) ∙ passes-lone axis which c p n h e s f in
    sym (ap (is_among n) (stands-nodes axis (at c.tree n).kind which ms (placed_at c p) s) ∙ all nodes one)
