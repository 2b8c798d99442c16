-- Tables of where paths end, made from one another step by step.
use Rattle.std.proofs.Common.{◌≡◌, ℕ, ◌+◌, ◌<◌, ◌==◌, ◌&&◌, not, Bool, true, false, List, [], ◌∷◌, ◌++◌, get_or, length, map, replicate, reverse}
use Rattle.std.proofs.Common.{Option, None, Some, refl, sym, ap, ◌∙◌, arith, zero-add}
use Rattle.std.proofs.lemmas.Bool.{eqb-true}
use Rattle.std.proofs.lemmas.List.{get_or-replicate, reverse-append}
use Rattle.std.proofs.lemmas.List.Folds.{list_all-append}
use Rattle.std.proofs.lemmas.List.FromFn.{get_or-map-range_with_len, map-range_with_len_more}
use Rattle.std.specs.List.{list_all, range_with_len}
use Rattle.std.specs.Option.{option_map_or}
use Rattle.xs_tree.specs.declared.axes.Axis.{Axis}
use Rattle.xs_tree.specs.Record.{Record, at, places}
use Rattle.xs_tree.specs.Shape.{IsTree}
use Rattle.xs_tree.proofs.WalkLemmas.{IsPlaced-at}
use Rattle.xs_value.specs.Tables.{Table}
use Rattle.xs_xpath.specs.declared.name.NodeTest.{NodeTest}
use Rattle.xs_xpath.specs.Tree.{Tree, no_trees, here, root, descend, step}
use Rattle.xs_eval_spec.specs.Context.{Context}
use Rattle.xs_eval_spec.specs.Paths.{passes}
use Rattle.xs_pattern_spec.specs.Matching.{ends_path, pattern_context, placed_at, start_of, step_nodes, steps_of}
use Rattle.xs_pattern_spec.specs.Predicates.{is_among}
use Rattle.xs_pattern.specs.Above.{EndsBy, IsAbove, is_below, is_led, is_plain, is_plain_path, is_root_at}
use Rattle.xs_pattern.specs.steps.Climb.{before_slashes, ends_above, is_anywhere, stands_on}
use Rattle.xs_pattern.proofs.AncestorLemmas.{any-root, any-same, any-self, any-up}
use Rattle.xs_pattern.proofs.ClimbLemmas.{ends-descend, ends-no_parent, ends-parent, ends-start}
use Rattle.xs_pattern.proofs.StartLemmas.{here-among, root-among}
use Rattle.xs_pattern.proofs.StepLemmas.{passes-lone, passes-not, stands-not}

-- ---- a table, node by node

-- one more
pub table-more : (f : ℕ → Bool) (old new : List Bool) (n k : ℕ) (b : Bool) → new ≡ old ++ b ∷ [] → old ≡ map f (range_with_len 0 n) → b ≡ f k → k ≡ n
    → new ≡ map f (range_with_len 0 (n + 1))
table-more f old new n k b pushed e h same =
    pushed
    ∙ ap (λ (xs : List Bool). xs ++ b ∷ []) e
    ∙ ap (λ (x : Bool). map f (range_with_len 0 n) ++ x ∷ []) (h ∙ ap f same)
    ∙ sym (map-range_with_len_more f 0 n n (zero-add n))

-- that of a node
pub table-at : (f : ℕ → Bool) (t : List Bool) (count n : ℕ) → t ≡ map f (range_with_len 0 count) → n < count → get_or t n false ≡ f n
table-at f t count n e h =
    ap (λ (l : List Bool). get_or l n false) e ∙ get_or-map-range_with_len f 0 count n n false h (zero-add n)

-- ---- a node of a table, or one above

pub below-here : (table : List Bool) (rs : List Record) (n : ℕ) → n < length rs → get_or table n false ≡ true → is_below table rs n ≡ true
below-here table rs n h e = any-self (λ k. get_or table k false) rs n h e

pub below-root : (table : List Bool) (rs : List Record) (n : ℕ) → IsTree rs → n < length rs → (at rs n).parent ≡ None → get_or table n false ≡ false
    → is_below table rs n ≡ false
below-root table rs n t h e differs = any-root (λ k. get_or table k false) rs n t h e differs

-- where the node is not in the table, what was found of its parent
pub below-parent : (table found : List Bool) (rs : List Record) (n p : ℕ) → IsTree rs → n < length rs → (at rs n).parent ≡ Some p
    → get_or table n false ≡ false → found ≡ map (is_below table rs) (range_with_len 0 n) → get_or found p false ≡ is_below table rs n
below-parent table found rs n p t h e differs f =
    table-at (is_below table rs) found n p f (IsPlaced-at rs n p t h e).before ∙ sym (any-up (λ k. get_or table k false) rs n p t h e differs)

-- where a table says that a path ends
pub below-above : (keys : List Table) (c : Context) (start : Tree) (steps : List Tree) (table : List Bool) (n : ℕ)
    → ((k : ℕ) → k < length c.tree → get_or table k false ≡ ends_path keys c start steps k) → is_below table c.tree n ≡ ends_above keys c start steps n
unfolding ends_above
below-above keys c start steps table n h = any-same (λ k. get_or table k false) (ends_path keys c start steps) c.tree n h

-- ---- where paths end

pub ends-anywhere : (rs : List Record) (t : List Bool) → t ≡ replicate (length rs) true → EndsBy rs here [] t
ends-anywhere rs t e = λ keys scope m n h.
    ap (λ (l : List Bool). get_or l n false) e
    ∙ get_or-replicate (length rs) n true false h
    ∙ sym (ends-start keys (pattern_context rs scope m) here n ∙ here-among n)

pub ends-roots : (rs : List Record) (t : List Bool) → IsTree rs → t ≡ map (is_root_at rs) (places rs) → EndsBy rs root [] t
ends-roots rs t tree e = λ keys scope m n h.
    table-at (is_root_at rs) t (length rs) n e h
    ∙ sym (ends-start keys (pattern_context rs scope m) root n ∙ root-among rs n tree)

-- after a `//`
pub ends-below : (rs : List Record) (table t : List Bool) → t ≡ map (is_below table rs) (places rs) → (start : Tree) (steps : List Tree)
    → EndsBy rs start steps table → EndsBy rs start (descend ∷ steps) t
ends-below rs table t e start steps ends = λ keys scope m n h.
    table-at (is_below table rs) t (length rs) n e h
    ∙ below-above keys (pattern_context rs scope m) start steps table n (ends keys scope m)
    ∙ sym (ends-descend keys (pattern_context rs scope m) start descend steps n refl)

-- whether a step without predicates leads to a node from the node's parent
plain-among : (axis : Axis) (which : NodeTest) (c : Context) (p n : ℕ) → n < length c.tree → (at c.tree n).parent ≡ Some p
    → (stands_on axis (at c.tree n).kind && passes axis which (at c.tree n)) ≡ is_among n (step_nodes axis which [] (placed_at c p))
plain-among axis which c p n h e = by_tests (stands_on axis (at c.tree n).kind) (passes axis which (at c.tree n)) refl refl
  where
    by_tests : (s t : Bool) → stands_on axis (at c.tree n).kind ≡ s → passes axis which (at c.tree n) ≡ t
        → (s && t) ≡ is_among n (step_nodes axis which [] (placed_at c p))
    by_tests true true s t = sym (passes-lone axis which c p n h e s t)
    by_tests true false s t = sym (passes-not axis which [] c p n h e t)
    by_tests false t s q = sym (stands-not axis which [] c p n h e s)

pub swap : (a b : Bool) → (a && b) ≡ (b && a)
swap true true = refl
swap true false = refl
swap false true = refl
swap false false = refl

-- what a table of a path comes to at a node's parent, by which parent there is
led-path : (keys : List Table) (c : Context) (start : Tree) (steps : List Tree) (axis : Axis) (which : NodeTest) (table : List Bool) (n : ℕ)
    → IsTree c.tree → n < length c.tree → ((k : ℕ) → k < length c.tree → get_or table k false ≡ ends_path keys c start steps k)
    → is_led axis which table c.tree n ≡ ends_path keys c start (step axis which no_trees ∷ steps) n
led-path keys c start steps axis which table n t h ends = by_parent (at c.tree n).parent refl
  where
    Led : Option ℕ → Bool
    Led o = option_map_or (λ p. get_or table p false && (stands_on axis (at c.tree n).kind && passes axis which (at c.tree n))) o false

    by_parent : (o : Option ℕ) → (at c.tree n).parent ≡ o
        → is_led axis which table c.tree n ≡ ends_path keys c start (step axis which no_trees ∷ steps) n
    by_parent None e = ap Led e ∙ sym (ends-no_parent keys c start (step axis which no_trees) steps n refl e)
    by_parent (Some p) e =
        let le : p < n = (IsPlaced-at c.tree n p t h e).before in
        ap Led e
        ∙ ap (λ b. b && (stands_on axis (at c.tree n).kind && passes axis which (at c.tree n))) (ends p (omega (arith, le, h)))
        ∙ swap (ends_path keys c start steps p) (stands_on axis (at c.tree n).kind && passes axis which (at c.tree n))
        ∙ sym (ends-parent keys c start (step axis which no_trees) steps n p (stands_on axis (at c.tree n).kind && passes axis which (at c.tree n)) refl e
        (plain-among axis which c p n h e))

-- after a step
pub ends-led : (rs : List Record) (axis : Axis) (which : NodeTest) (table t : List Bool) → IsTree rs → t ≡ map (is_led axis which table rs) (places rs)
    → (start : Tree) (steps : List Tree) → EndsBy rs start steps table → EndsBy rs start (step axis which no_trees ∷ steps) t
ends-led rs axis which table t tree e start steps ends = λ keys scope m n h.
    table-at (is_led axis which table rs) t (length rs) n e h
    ∙ led-path keys (pattern_context rs scope m) start steps axis which table n tree h (ends keys scope m)

-- ---- the table of a path

pub above-table : (rs : List Record) (e start : Tree) (before : List Tree) (table t : List Bool) → t ≡ map (is_below table rs) (places rs)
    → EndsBy rs start before table → start ≡ start_of e → before ≡ before_slashes (reverse (steps_of e)) → IsAbove rs e t
above-table rs e start before table t made ends s b = λ keys scope m n h.
    table-at (is_below table rs) t (length rs) n made h
    ∙ below-above keys (pattern_context rs scope m) start before table n (ends keys scope m)
    ∙ ap (λ (x : Tree). ends_above keys (pattern_context rs scope m) x before n) s
    ∙ ap (λ (l : List Tree). ends_above keys (pattern_context rs scope m) (start_of e) l n) b

-- ---- which paths have one

-- whether there are predicates
pub some-items : (a b : ℕ) (r : Bool) → a ≡ b → r ≡ (a == 0) → r ≡ false → (b == 0) ≡ false
some-items a b r e q f = ap (λ (n : ℕ). n == 0) (sym e) ∙ sym q ∙ f

pub no-items : (a b : ℕ) (r : Bool) → a ≡ b → r ≡ (a == 0) → r ≡ true → b ≡ 0
no-items a b r e q f = sym e ∙ eqb-true a 0 (sym q ∙ f)

pub all-reverse : (p : Tree → Bool) (ts : List Tree) → list_all p (reverse ts) ≡ list_all p ts
all-reverse p [] = refl
all-reverse p (t ∷ ts) =
    ap (λ (l : List Tree). list_all p l) (reverse-append (t ∷ []) ts)
    ∙ list_all-append p (reverse ts) (t ∷ [])
    ∙ ap (λ b. b && (p t && true)) (all-reverse p ts)
    ∙ turned (list_all p ts) (p t)
  where
    turned : (a b : Bool) → (a && (b && true)) ≡ (b && a)
    turned true true = refl
    turned true false = refl
    turned false true = refl
    turned false false = refl

-- one step is not plain
pub plain-not : (start s : Tree) (rest ts : List Tree) → list_all is_plain (s ∷ rest) ≡ list_all is_plain ts → is_plain s ≡ false
    → is_plain_path start (reverse ts) ≡ false
plain-not start s rest ts w f =
    ap (λ b. is_anywhere start && b) (all-reverse is_plain ts ∙ sym w ∙ ap (λ b. b && list_all is_plain rest) f) ∙ swap (is_anywhere start) false

-- each is
pub plain-whole : (start : Tree) (ts : List Tree) → is_anywhere start ≡ true → true ≡ list_all is_plain ts → is_plain_path start (reverse ts) ≡ true
plain-whole start ts a w = ap (λ b. b && list_all is_plain (reverse ts)) a ∙ all-reverse is_plain ts ∙ sym w
