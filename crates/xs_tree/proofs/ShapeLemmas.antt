-- Adding a node keeps a tree a tree, and which nodes are open afterwards.
use Rattle.std.proofs.Common.{◌≡◌, ℕ, ◌+◌, ◌<◌, ◌≤◌, List, [], ◌∷◌, ◌++◌, Option, None, Some, length, sym, ◌∙◌, ap, subst, arith, length-append, below_more}
use Rattle.std.proofs.Common.{MatchOption, IsTrue}
use Rattle.std.proofs.Math.ListN.{get_or-append}
use Rattle.std.proofs.Math.Seq.{get_or-append_seam}
use Rattle.xs_tree.specs.declared.kinds.Kind.{Kind}
use Rattle.xs_tree.specs.declared.kinds.Kind.TheVariants.{Root, Element, Attribute, Space, Text, Comment, Pi}
use Rattle.xs_tree.specs.Kinds.{can_hold, rank}
use Rattle.xs_tree.specs.Record.{Record, root_record, at}
use Rattle.xs_tree.specs.Shape.{CanBear, HasParentFrom, IsOpen, KeepsOrder, IsPlaced, IsRootOrPlaced, IsTree}

-- a node stays where it is when more follow
pub at-append : (rs xs : List Record) (k : ℕ) → k < length rs → at (rs ++ xs) k ≡ at rs k
at-append rs xs k h = get_or-append rs xs root_record k h

-- an added node stands at the end
pub at-added : (rs : List Record) (r : Record) → at (rs ++ r ∷ []) (length rs) ≡ r
at-added rs r = get_or-append_seam rs r [] root_record

pub length-added : (rs : List Record) (r : Record) → length (rs ++ r ∷ []) ≡ length rs + 1
length-added rs r = omega (arith, length-append rs (r ∷ []))

pub IsPlaced-append : (rs xs : List Record) (k p : ℕ) → k < length rs → IsPlaced rs k p → IsPlaced (rs ++ xs) k p
IsPlaced-append rs xs k p h q =
    let k_is : at (rs ++ xs) k ≡ at rs k = at-append rs xs k h in
    let p_is : at (rs ++ xs) p ≡ at rs p = at-append rs xs p (omega (arith, q.before)) in
    record {
      before = q.before;
      held = rw (k_is, p_is) q.held;
      inside = λ j a b. rw (at-append rs xs j (omega arith)) (q.inside j a b);
      order = λ j a b. rw (k_is, at-append rs xs j (omega arith)) (q.order j a b);
    }

lifted : (rs xs : List Record) (k : ℕ) (o : Option ℕ) → k < length rs → MatchOption o ((at rs k).kind ≡ Root) (λ p. IsPlaced rs k p)
    → MatchOption o ((at (rs ++ xs) k).kind ≡ Root) (λ p. IsPlaced (rs ++ xs) k p)
lifted rs xs k None h q = rw (at-append rs xs k h) q
lifted rs xs k (Some p) h q = IsPlaced-append rs xs k p h q

pub IsRootOrPlaced-append : (rs xs : List Record) (k : ℕ) → k < length rs → IsRootOrPlaced rs k → IsRootOrPlaced (rs ++ xs) k
IsRootOrPlaced-append rs xs k h q =
    let e : (at (rs ++ xs) k).parent ≡ (at rs k).parent = ap (λ r. r.parent) (at-append rs xs k h) in
    rw e (lifted rs xs k (at rs k).parent h q)

-- a node bears what its kind can bear
abbrev pub Bears : Record → Type 0
Bears r = CanBear r.kind r.name r.text

-- a tree with a node added inside an open one is a tree
pub IsTree-added : (rs : List Record) (r : Record) (p : ℕ) → IsTree rs → r.parent ≡ Some p → p < length rs → IsTrue (can_hold (at rs p).kind r.kind) →
    CanBear r.kind r.name r.text → IsOpen rs p → KeepsOrder rs p r.kind → IsTree (rs ++ r ∷ [])
IsTree-added rs r p t e w held bears o ordered =
    let last_is : at (rs ++ r ∷ []) (length rs) ≡ r = at-added rs r in
    let last : IsPlaced (rs ++ r ∷ []) (length rs) p =
    record {
      before = w;
      held = rw (last_is, at-append rs (r ∷ []) p w) held;
      inside = λ j a b. rw (at-append rs (r ∷ []) j b) (o j a b);
      order = λ j a b. rw (last_is, at-append rs (r ∷ []) j b) (ordered j a b);
    } in
    let parent_is : (at (rs ++ r ∷ []) (length rs)).parent ≡ Some p = ap (λ q. q.parent) last_is ∙ e in
    let last_placed : IsRootOrPlaced (rs ++ r ∷ []) (length rs) = rw parent_is last in
    record {
      some = omega (arith, length-added rs r);
      first = at-append rs (r ∷ []) 0 t.some ∙ t.first;
      placed = λ k h. below_more (λ j. IsRootOrPlaced (rs ++ r ∷ []) j) (length rs) (λ j b. IsRootOrPlaced-append rs (r ∷ []) j b (t.placed j b)) last_placed k
          (omega (arith, h, length-added rs r));
      borne = λ k h. below_more (λ j. Bears (at (rs ++ r ∷ []) j)) (length rs) (λ j b. subst Bears (sym (at-append rs (r ∷ []) j b)) (t.borne j b))
          (subst Bears (sym last_is) bears) k (omega (arith, h, length-added rs r));
    }

-- what is open for a builder: the added node, and each open node that is its parent or before it
pub IsOpen-last : (rs : List Record) (r : Record) → IsOpen (rs ++ r ∷ []) (length rs)
IsOpen-last rs r = λ k a b. absurd (omega (arith, length-added rs r))

pub IsOpen-added : (rs : List Record) (r : Record) (p q : ℕ) → r.parent ≡ Some q → p ≤ q → IsOpen rs p → IsOpen (rs ++ r ∷ []) p
IsOpen-added rs r p q e le o =
    λ k a b. below_more (λ j. p < j → HasParentFrom p (at (rs ++ r ∷ []) j)) (length rs)
    (λ j h a. rw (at-append rs (r ∷ []) j h) (o j a h))
    (λ _. rw (at-added rs r, e) le)
    k (omega (arith, b, length-added rs r)) a

-- after an element or root is added nothing is inside it yet, so any kind may follow
pub KeepsOrder-last : (rs : List Record) (r : Record) (kind : Kind) → KeepsOrder (rs ++ r ∷ []) (length rs) kind
KeepsOrder-last rs r kind = λ k a b. absurd (omega (arith, length-added rs r))

-- what may follow before a node is added in order may follow after it, unless its kind comes later
pub KeepsOrder-added : (rs : List Record) (r : Record) (p : ℕ) (kind : Kind) → KeepsOrder rs p kind → rank r.kind ≤ rank kind → KeepsOrder (rs ++ r ∷ []) p kind
KeepsOrder-added rs r p kind o le =
    λ k a b. below_more (λ j. p < j → rank (at (rs ++ r ∷ []) j).kind ≤ rank kind) (length rs)
    (λ j h a. rw (at-append rs (r ∷ []) j h) (o j a h))
    (λ _. rw (at-added rs r) le)
    k (omega (arith, b, length-added rs r)) a

rank-le : (kind : Kind) → rank kind ≤ 2
rank-le Root = omega arith
rank-le Element = omega arith
rank-le Attribute = omega arith
rank-le Space = omega arith
rank-le Text = omega arith
rank-le Comment = omega arith
rank-le Pi = omega arith

-- a child may follow anything
pub KeepsOrder-child : (rs : List Record) (p : ℕ) (kind : Kind) → rank kind ≡ 2 → KeepsOrder rs p kind
KeepsOrder-child rs p kind e = λ k a b. omega (arith, rank-le (at rs k).kind, e)
