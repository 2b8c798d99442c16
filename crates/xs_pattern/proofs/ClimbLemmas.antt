-- How a path is gone over from its end: steps to parents, and `//` to ancestors.
use Rattle.std.proofs.Common.{◌≡◌, ℕ, zero, suc, ◌<◌, ◌≤◌, ◌&&◌, Bool, true, false, List, [], ◌∷◌, length, Option, Some, None}
use Rattle.std.proofs.Common.{refl, sym, ap, subst, ◌∙◌, arith, ◌⊎◌, inl, inr}
use Rattle.std.proofs.lemmas.Bool.{and_parts, true≢false}
use Rattle.std.specs.Option.{option_map_or}
use Rattle.xs_tree.specs.Kinds.{is_root_kind}
use Rattle.xs_tree.specs.Record.{at}
use Rattle.xs_tree.specs.Shape.{IsTree}
use Rattle.xs_tree.proofs.RootLemmas.{no_parent-root}
use Rattle.xs_tree.proofs.WalkLemmas.{IsPlaced-at}
use Rattle.xs_value.specs.Tables.{Table}
use Rattle.xs_xpath.specs.declared.expr.Expr.{Expr}
use Rattle.xs_xpath.specs.Tree.{Tree, here, root}
use Rattle.xs_eval_spec.specs.Context.{Context}
use Rattle.xs_pattern_spec.specs.Matching.{ends_path, is_descend, placed_at, selected}
use Rattle.xs_eval_spec.specs.Evaluation.{run_of_tree}
use Rattle.xs_pattern_spec.specs.Predicates.{is_among, nodes_given}
use Rattle.xs_pattern.specs.declared.matching.Reached.{Reached}
use Rattle.xs_pattern.specs.declared.matching.Reached.TheVariants.{Below, Differs, Fits}
use Rattle.xs_pattern.specs.steps.Climb.{IsBehind, IsBelow, IsReached, backwards, before_slashes, ends_above, is_anywhere}
use Rattle.xs_pattern.proofs.StartLemmas.{here-among, root-among}
use Rattle.xs_pattern.proofs.AncestorLemmas.{any-beyond, any-parent, any-root, any-self, any-up, same}

-- ---- one step

pub ends-descend : (keys : List Table) (c : Context) (start s : Tree) (before : List Tree) (n : ℕ) → is_descend s ≡ true
    → ends_path keys c start (s ∷ before) n ≡ ends_above keys c start before n
unfolding ends_path ends_above
ends-descend keys c start s before n d = rw d refl

pub ends-start : (keys : List Table) (c : Context) (start : Tree) (n : ℕ)
    → ends_path keys c start [] n ≡ is_among n (nodes_given (run_of_tree keys start) (placed_at c n))
unfolding ends_path
ends-start keys c start n = refl

-- what a step that is not `//` asks
abbrev Leads : List Table → Context → Tree → Tree → List Tree → ℕ → Option ℕ → Bool
Leads keys c start s before n o = option_map_or (λ p. is_among n (selected keys s (placed_at c p)) && ends_path keys c start before p) o false

ends-step : (keys : List Table) (c : Context) (start s : Tree) (before : List Tree) (n : ℕ) → is_descend s ≡ false
    → ends_path keys c start (s ∷ before) n ≡ Leads keys c start s before n (at c.tree n).parent
unfolding ends_path
ends-step keys c start s before n d = rw d refl

pub ends-no_parent : (keys : List Table) (c : Context) (start s : Tree) (before : List Tree) (n : ℕ) → is_descend s ≡ false → (at c.tree n).parent ≡ None
    → ends_path keys c start (s ∷ before) n ≡ false
ends-no_parent keys c start s before n d e = ends-step keys c start s before n d ∙ ap (Leads keys c start s before n) e

pub ends-parent : (keys : List Table) (c : Context) (start s : Tree) (before : List Tree) (n p : ℕ) (b : Bool) → is_descend s ≡ false
    → (at c.tree n).parent ≡ Some p → b ≡ is_among n (selected keys s (placed_at c p))
    → ends_path keys c start (s ∷ before) n ≡ (b && ends_path keys c start before p)
ends-parent keys c start s before n p b d e q =
    ends-step keys c start s before n d ∙ ap (Leads keys c start s before n) e ∙ ap (λ t. t && ends_path keys c start before p) (sym q)

-- ---- above a node

pub above-self : (keys : List Table) (c : Context) (start : Tree) (steps : List Tree) (n : ℕ) → n < length c.tree → ends_path keys c start steps n ≡ true
    → ends_above keys c start steps n ≡ true
unfolding ends_above
above-self keys c start steps n h e = any-self (ends_path keys c start steps) c.tree n h e

pub above-parent : (keys : List Table) (c : Context) (start : Tree) (steps : List Tree) (n p : ℕ) → IsTree c.tree → n < length c.tree
    → (at c.tree n).parent ≡ Some p → ends_above keys c start steps p ≡ true → ends_above keys c start steps n ≡ true
unfolding ends_above
above-parent keys c start steps n p t h e up = any-parent (ends_path keys c start steps) c.tree n p t h e up

above-beyond : (keys : List Table) (c : Context) (start : Tree) (steps : List Tree) (n : ℕ) → IsTree c.tree → n < length c.tree
    → ends_above keys c start steps n ≡ true
    → (ends_path keys c start steps n ≡ true) ⊎ ((p : ℕ) × ((at c.tree n).parent ≡ Some p) × (ends_above keys c start steps p ≡ true))
unfolding ends_above
above-beyond keys c start steps n t h up = any-beyond (ends_path keys c start steps) c.tree n t h up

-- where the path does not end at the node, it ends above it where it ends above the parent
pub above-up : (keys : List Table) (c : Context) (start : Tree) (steps : List Tree) (n p : ℕ) → IsTree c.tree → n < length c.tree
    → (at c.tree n).parent ≡ Some p → ends_path keys c start steps n ≡ false → ends_above keys c start steps n ≡ ends_above keys c start steps p
unfolding ends_above
above-up keys c start steps n p t h e f = any-up (ends_path keys c start steps) c.tree n p t h e f

pub above-root : (keys : List Table) (c : Context) (start : Tree) (steps : List Tree) (n : ℕ) → IsTree c.tree → n < length c.tree
    → (at c.tree n).parent ≡ None → ends_path keys c start steps n ≡ false → ends_above keys c start steps n ≡ false
unfolding ends_above
above-root keys c start steps n t h e f = any-root (ends_path keys c start steps) c.tree n t h e f

-- the parent that a path which ends in a step leads through
through-parent : (keys : List Table) (c : Context) (start s : Tree) (before : List Tree) (n : ℕ) → is_descend s ≡ false
    → ends_path keys c start (s ∷ before) n ≡ true → (p : ℕ) × ((at c.tree n).parent ≡ Some p) × (ends_path keys c start before p ≡ true)
through-parent keys c start s before n d h = by_parent (at c.tree n).parent refl (sym (ends-step keys c start s before n d) ∙ h)
  where
    by_parent : (o : Option ℕ) → (at c.tree n).parent ≡ o → Leads keys c start s before n o ≡ true
        → (p : ℕ) × ((at c.tree n).parent ≡ Some p) × (ends_path keys c start before p ≡ true)
    by_parent None e q = absurd (true≢false (sym q))
    by_parent (Some p) e q =
        (p, e, (and_parts (is_among n (selected keys s (placed_at c p))) (ends_path keys c start before p) q).1)

-- a parent above which a path ends
abbrev pub ParentAbove : List Table → Context → Tree → List Tree → ℕ → Type 0
ParentAbove keys c start steps n = (p : ℕ) × ((at c.tree n).parent ≡ Some p) × (ends_above keys c start steps p ≡ true)

lifted-by : (keys : List Table) (c : Context) (start s : Tree) (before : List Tree) → IsTree c.tree → is_descend s ≡ false
    → (n : ℕ) → n < length c.tree → ((k : ℕ) → k < n → ends_above keys c start (s ∷ before) k ≡ true → ParentAbove keys c start before k)
    → ends_above keys c start (s ∷ before) n ≡ true → ParentAbove keys c start before n
lifted-by keys c start s before t d n h again up =
    elim (above-beyond keys c start (s ∷ before) n t h up) [
      | inl q ↦ at_node (through-parent keys c start s before n d q)
      | inr w ↦ beyond w (below w.0 w.1) (again w.0 (below w.0 w.1) w.2)
    ]
  where
    below : (p : ℕ) → (at c.tree n).parent ≡ Some p → p < n
    below p e = (IsPlaced-at c.tree n p t h e).before

    at_node : (p : ℕ) × ((at c.tree n).parent ≡ Some p) × (ends_path keys c start before p ≡ true) → ParentAbove keys c start before n
    at_node w = (w.0, w.1, above-self keys c start before w.0 (omega (arith, h, (IsPlaced-at c.tree n w.0 t h w.1).before)) w.2)

    beyond : (w : ParentAbove keys c start (s ∷ before) n) → w.0 < n → ParentAbove keys c start before w.0 → ParentAbove keys c start before n
    beyond w lt v = (w.0, w.1, above-parent keys c start before w.0 v.0 t (omega (arith, h, lt)) v.1 v.2)

-- Where a path ends above a node, it does so without its last step above the node's parent.
lifted-in : (keys : List Table) (c : Context) (start s : Tree) (before : List Tree) → IsTree c.tree → is_descend s ≡ false
    → (m n : ℕ) → n ≤ m → n < length c.tree → ends_above keys c start (s ∷ before) n ≡ true → ParentAbove keys c start before n
lifted-in keys c start s before t d zero n le h up =
    lifted-by keys c start s before t d n h (λ k lt e. absurd (omega (arith, lt, le))) up
lifted-in keys c start s before t d (suc m) n le h up =
    lifted-by keys c start s before t d n h
    (λ k lt e. lifted-in keys c start s before t d m k (omega (arith, lt, le)) (omega (arith, lt, h)) e) up

pub lifted : (keys : List Table) (c : Context) (start s : Tree) (before : List Tree) (n p : ℕ) → IsTree c.tree → is_descend s ≡ false
    → n < length c.tree → (at c.tree n).parent ≡ Some p → ends_above keys c start (s ∷ before) n ≡ true → ends_above keys c start before p ≡ true
lifted keys c start s before n p t d h e up =
    let w : ParentAbove keys c start before n = lifted-in keys c start s before t d n n (omega arith) h up in
    let i : Some w.0 ≡ Some p = sym w.1 ∙ e in
    let j : w.0 ≡ p = cc in
    subst (λ (k : ℕ). ends_above keys c start before k ≡ true) j w.2

-- above what is above a node is above the node
sunk-by : (keys : List Table) (c : Context) (start s : Tree) (before : List Tree) → IsTree c.tree → is_descend s ≡ true
    → (n : ℕ) → n < length c.tree → ((k : ℕ) → k < n → ends_above keys c start (s ∷ before) k ≡ true → ends_above keys c start before k ≡ true)
    → ends_above keys c start (s ∷ before) n ≡ true → ends_above keys c start before n ≡ true
sunk-by keys c start s before t d n h again up =
    elim (above-beyond keys c start (s ∷ before) n t h up) [
      | inl q ↦ sym (ends-descend keys c start s before n d) ∙ q
      | inr w ↦ above-parent keys c start before n w.0 t h w.1 (again w.0 (IsPlaced-at c.tree n w.0 t h w.1).before w.2)
    ]

sunk-in : (keys : List Table) (c : Context) (start s : Tree) (before : List Tree) → IsTree c.tree → is_descend s ≡ true
    → (m n : ℕ) → n ≤ m → n < length c.tree → ends_above keys c start (s ∷ before) n ≡ true → ends_above keys c start before n ≡ true
sunk-in keys c start s before t d zero n le h up =
    sunk-by keys c start s before t d n h (λ k lt e. absurd (omega (arith, lt, le))) up
sunk-in keys c start s before t d (suc m) n le h up =
    sunk-by keys c start s before t d n h
    (λ k lt e. sunk-in keys c start s before t d m k (omega (arith, lt, le)) (omega (arith, lt, h)) e) up

pub sunk : (keys : List Table) (c : Context) (start s : Tree) (before : List Tree) (n : ℕ) → IsTree c.tree → is_descend s ≡ true → n < length c.tree
    → ends_above keys c start (s ∷ before) n ≡ true → ends_above keys c start before n ≡ true
sunk keys c start s before n t d h up = sunk-in keys c start s before t d n n (omega arith) h up

-- ---- the loop over the steps after the last `//`

-- What was gone over so far: the path ends at the first node where its rest ends at this one, and so it is above them. There was no `//`.
pub record Gone (keys : List Table) (c : Context) (start : Tree) (all rest : List Tree) (first n : ℕ) : Type 0 where
  pub here : ends_path keys c start all first ≡ ends_path keys c start rest n
  pub above : ends_above keys c start all first ≡ true → ends_above keys c start rest n ≡ true
  pub slashes : before_slashes rest ≡ before_slashes all
  pub within : n ≤ first

pub slashes-step : (s : Tree) (before : List Tree) → is_descend s ≡ false → before_slashes (s ∷ before) ≡ before_slashes before
slashes-step s before d = rw d refl

pub slashes-here : (s : Tree) (before : List Tree) → is_descend s ≡ true → before_slashes (s ∷ before) ≡ before
slashes-here s before d = rw d refl

pub gone-step : (keys : List Table) (c : Context) (start s : Tree) (all before : List Tree) (first n p : ℕ) → IsTree c.tree → n < length c.tree
    → Gone keys c start all (s ∷ before) first n → is_descend s ≡ false → (at c.tree n).parent ≡ Some p
    → true ≡ is_among n (selected keys s (placed_at c p)) → Gone keys c start all before first p
gone-step keys c start s all before first n p t h g d e q = record {
  here = g.here ∙ ends-parent keys c start s before n p true d e q;
  above = λ up. lifted keys c start s before n p t d h e (g.above up);
  slashes = sym (slashes-step s before d) ∙ g.slashes;
  within = omega (arith, g.within, (IsPlaced-at c.tree n p t h e).before);
}

-- at a `//`
pub gone-below : (keys : List Table) (c : Context) (start s : Tree) (all before : List Tree) (first n : ℕ) → IsTree c.tree → first < length c.tree
    → Gone keys c start all (s ∷ before) first n → is_descend s ≡ true → ends_above keys c start all first ≡ ends_above keys c start before n
gone-below keys c start s all before first n t h g d =
    same (ends_above keys c start all first) (ends_above keys c start before n)
    (λ up. sunk keys c start s before n t d (omega (arith, g.within, h)) (g.above up))
    (λ up. above-self keys c start all first h (g.here ∙ ends-descend keys c start s before n d ∙ up))

-- ---- a `//` at the head

ends-at_root : (keys : List Table) (c : Context) (n : ℕ) → IsTree c.tree → n < length c.tree → (at c.tree n).parent ≡ None
    → ends_path keys c root [] n ≡ true
ends-at_root keys c n t h e =
    ends-start keys c root n ∙ root-among c.tree n t ∙ ap is_root_kind (no_parent-root c.tree n t h e)

above-root_by : (keys : List Table) (c : Context) → IsTree c.tree → (n : ℕ) → n < length c.tree → ((k : ℕ) → k < n → ends_above keys c root [] k ≡ true)
    → (o : Option ℕ) → (at c.tree n).parent ≡ o → ends_above keys c root [] n ≡ true
above-root_by keys c t n h again None e = above-self keys c root [] n h (ends-at_root keys c n t h e)
above-root_by keys c t n h again (Some p) e = above-parent keys c root [] n p t h e (again p (IsPlaced-at c.tree n p t h e).before)

above-root_in : (keys : List Table) (c : Context) → IsTree c.tree → (m n : ℕ) → n ≤ m → n < length c.tree → ends_above keys c root [] n ≡ true
above-root_in keys c t zero n le h = above-root_by keys c t n h (λ k lt. absurd (omega (arith, lt, le))) (at c.tree n).parent refl
above-root_in keys c t (suc m) n le h =
    above-root_by keys c t n h (λ k lt. above-root_in keys c t m k (omega (arith, lt, le)) (omega (arith, lt, h))) (at c.tree n).parent refl

above-anywhere : (keys : List Table) (c : Context) (start : Tree) (n : ℕ) → IsTree c.tree → n < length c.tree → is_anywhere start ≡ true
    → ends_above keys c start [] n ≡ true
above-anywhere keys c here n t h e = above-self keys c here [] n h (ends-start keys c here n ∙ here-among n)
above-anywhere keys c root n t h e = above-root_in keys c t n n (omega arith) h
above-anywhere keys c _ n t h e = absurd (true≢false (sym e))

pub reached-behind : (keys : List Table) (c : Context) (start s : Tree) (steps before : List Expr) (first n : ℕ) (r : Reached) → IsTree c.tree
    → first < length c.tree → Gone keys c start (backwards steps) (s ∷ backwards before) first n → is_descend s ≡ true → length before < length steps
    → IsBehind start before n r → IsReached keys c start steps first r
reached-behind keys c start s steps before first n Fits t h g d lt b =
    let le : n ≤ first = g.within in
    let inside : n < length c.tree = omega (arith, le, h) in
    g.here
    ∙ ends-descend keys c start s (backwards before) n d
    ∙ ap (λ (es : List Expr). ends_above keys c start (backwards es) n) b.0
    ∙ above-anywhere keys c start n t inside b.1
reached-behind keys c start s steps before first n Differs t h g d lt b = absurd b
reached-behind keys c start s steps before first n (Below es top) t h g d lt b =
    let below : IsBelow keys c start steps before first n = record {
      here = g.here ∙ ends-descend keys c start s (backwards before) n d;
      above = gone-below keys c start s (backwards steps) (backwards before) first n t h g d;
      rest = sym (slashes-here s (backwards before) d) ∙ g.slashes;
      shorter = lt;
      within = g.within;
    } in
    subst (λ (k : ℕ). IsBelow keys c start steps es.now first k) (sym b.1)
    (subst (λ (l : List Expr). IsBelow keys c start steps l first n) (sym b.0) below)
