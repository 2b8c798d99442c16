-- The nodes of an axis are nodes of the tree, and no more than it has.
use Rattle.std.proofs.Common.{◌≡◌, ℕ, ◌+◌, ◌-◌, ◌<◌, ◌≤◌, arith, Bool, true, false, cond}
use Rattle.std.proofs.Common.{List, [], ◌∷◌, ◌++◌, All, filter, length, refl, reverse, zero, suc, sym, subst}
use Rattle.std.proofs.lemmas.List.{get_or-reverse, length-reverse}
use Rattle.std.proofs.lemmas.List.Elements.{All-cons, All-filter, All-from_get_or, All-get_or, All-head, All-nil, All-tail}
use Rattle.std.proofs.lemmas.List.FromFn.{length-range_with_len}
use Rattle.std.specs.List.{range_with_len}
use Rattle.xs_tree.specs.declared.axes.Axis.{Axis}
use Rattle.xs_tree.specs.declared.axes.Axis.TheVariants.{Attribute as AttributeAxis}
use Rattle.xs_tree.specs.Axis.{axis_list, is_on, is_reverse}
use Rattle.xs_tree.specs.Record.{Record, at, attributes, places}
use Rattle.xs_xpath.specs.declared.name.NodeTest.{NodeTest}
use Rattle.xs_eval_spec.specs.Context.{Context}
use Rattle.xs_eval_spec.specs.Paths.{passes, tested}
use Rattle.xs_eval_spec.specs.Nodes.{AreSome}

range-inside : (b a n : ℕ) → a + n ≤ b → All (λ k. k < b) (range_with_len a n)
range-inside b a zero h = All-nil (λ k. k < b)
range-inside b a (suc n) h =
    All-cons (λ k. k < b) a (range_with_len (a + 1) n) (omega (arith, h)) (range-inside b (a + 1) n (omega (arith, h)))

reversed : (P : ℕ → Type 0) (xs : List ℕ) → All P xs → All P (reverse xs)
reversed P xs h =
    All-from_get_or P (reverse xs) 0 (λ i lt.
    let within : i < length xs = subst (λ (n : ℕ). i < n) (length-reverse xs) lt in
    subst P (sym (get_or-reverse xs i 0 within)) (All-get_or P xs (length xs - 1 - i) 0 (omega (arith, within)) h))

turned : (P : ℕ → Type 0) (b : Bool) (xs : List ℕ) → All P xs → All P (cond b (reverse xs) xs)
turned P true xs h = reversed P xs h
turned P false xs h = h

-- what is left of a list is no longer
filter-few : (p : ℕ → Bool) (xs : List ℕ) → length (filter p xs) ≤ length xs
filter-few p [] = let e : 0 ≤ 0 = omega arith in e
filter-few p (x ∷ xs) = by_test (p x) (filter-few p xs)
  where
    by_test : (b : Bool) → length (filter p xs) ≤ length xs → length (cond b (x ∷ filter p xs) (filter p xs)) ≤ suc (length xs)
    by_test true h = let e : suc (length (filter p xs)) ≤ suc (length xs) = omega (arith, h) in e
    by_test false h = omega (arith, h)

turned-few : (b : Bool) (xs : List ℕ) (k : ℕ) → length xs ≤ k → length (cond b (reverse xs) xs) ≤ k
turned-few true xs k h = subst (λ (n : ℕ). n ≤ k) (sym (length-reverse xs)) h
turned-few false xs k h = h

places-inside : (rs : List Record) → All (λ k. k < length rs) (places rs)
places-inside rs = range-inside (length rs) 0 (length rs) (omega arith)

places-few : (p : ℕ → Bool) (rs : List Record) → length (filter p (places rs)) ≤ length rs
places-few p rs = subst (λ (n : ℕ). length (filter p (places rs)) ≤ n) (length-range_with_len 0 (length rs)) (filter-few p (places rs))

pub axis-inside : (axis : Axis) (rs : List Record) (n : ℕ) → All (λ k. k < length rs) (axis_list axis rs n)
unfolding axis_list
axis-inside axis rs n =
    turned (λ k. k < length rs) (is_reverse axis) (filter (is_on axis rs n) (places rs))
    (All-filter (is_on axis rs n) (λ k. k < length rs) (places rs) (places-inside rs))

pub axis-few : (axis : Axis) (rs : List Record) (n : ℕ) → length (axis_list axis rs n) ≤ length rs
unfolding axis_list
axis-few axis rs n = turned-few (is_reverse axis) (filter (is_on axis rs n) (places rs)) (length rs) (places-few (is_on axis rs n) rs)

-- the attributes of a node are the nodes of that axis
pub attributes_listed : (rs : List Record) (n : ℕ) → attributes rs n ≡ axis_list AttributeAxis rs n
unfolding axis_list
attributes_listed rs n = refl

-- the nodes that pass a test
pub tested-some : (axis : Axis) (test : NodeTest) (c : Context) → AreSome c.tree (tested axis test c)
tested-some axis test c =
    let few : length (tested axis test c) ≤ length (axis_list axis c.tree c.node) =
    filter-few (λ k. passes axis test (at c.tree k)) (axis_list axis c.tree c.node) in
    let fewer : length (axis_list axis c.tree c.node) ≤ length c.tree = axis-few axis c.tree c.node in
    record {
      inside = All-filter (λ k. passes axis test (at c.tree k)) (λ k. k < length c.tree) (axis_list axis c.tree c.node) (axis-inside axis c.tree c.node);
      few = omega (arith, few, fewer);
    }

-- the next of a list that was gone over in part
pub next-inside : (P : ℕ → Type 0) (xs ys : List ℕ) (y : ℕ) (all : List ℕ) → xs ++ y ∷ ys ≡ all → All P all → P y
next-inside P xs ys y all e h = found xs (subst (λ (l : List ℕ). All P l) (sym e) h)
  where
    found : (zs : List ℕ) → All P (zs ++ y ∷ ys) → P y
    found [] a = All-head P y ys a
    found (z ∷ zs) a = found zs (All-tail P z (zs ++ y ∷ ys) a)
