-- The open elements stay open while records are added inside the innermost of them.
use Rattle.std.proofs.Common.{◌≡◌, ℕ, ◌+◌, ◌<◌, ◌≤◌, List, [], ◌∷◌, ◌++◌, Some, refl, ◌∙◌, ap, length, append_assoc, append-nil, arith}
use Rattle.xs_tree.specs.declared.kinds.Kind.TheVariants.{Attribute}
use Rattle.xs_tree.specs.declared.names.Name.{Name}
use Rattle.xs_tree.specs.Shape.{KeepsOrder}
use Rattle.xs_tree.specs.Record.{Record}
use Rattle.xs_tree.proofs.ShapeLemmas.{at-append, at-added, length-added, IsOpen-last, IsOpen-added, KeepsOrder-last, KeepsOrder-added}
use Rattle.xs_build.specs.declared.opened.Opened.{Opened}
use Rattle.xs_build.specs.Namespaces.{Bindings}
use Rattle.xs_build.specs.steps.Lines.{without_innermost, innermost}
use Rattle.xs_build.specs.Nodes.{element, space, spaces, text_node}
use Rattle.xs_build.specs.steps.State.{with_text_node}
use Rattle.xs_build.specs.steps.Invariant.{Stands, StandFrom, IsWell, HasBindings}
use Rattle.xs_build.proofs.NodeRunLemmas.{stand_append, stand_none}

Stands-added : (rs : List Record) (r : Record) (p : ℕ) (os : List Opened) → r.parent ≡ Some p → innermost os ≤ p → Stands rs os → Stands (rs ++ r ∷ []) os
Stands-added rs r p [] is below s = tt
Stands-added rs r p (q ∷ qs) is below s = (
  omega (arith, length-added rs r, s.0),
  ap (λ (x : Record). x.kind) (at-append rs (r ∷ []) q.node s.0) ∙ s.1,
  IsOpen-added rs r q.node p is below s.2,
  s.3,
  stand_append rs (r ∷ []) (q.node + 1) (spaces q.node q.scope) s.4,
  Stands-added rs r p qs is (omega (arith, s.3, below)) s.5,
)

pub well_added : (rs : List Record) (os : List Opened) (r : Record) → IsWell rs os → r.parent ≡ Some (innermost os) → IsWell (rs ++ r ∷ []) os
well_added rs os r w is = record {
  some = omega (arith, length-added rs r);
  root = ap (λ (x : Record). x.kind) (at-append rs (r ∷ []) 0 w.some) ∙ w.root;
  inside = IsOpen-added rs r 0 (innermost os) is (omega arith) w.inside;
  stack = Stands-added rs r (innermost os) os is (omega arith) w.stack;
}

pub well_text : (rs : List Record) (os : List Opened) (text : List ℕ) → IsWell rs os → IsWell (with_text_node rs (innermost os) text) os
well_text rs os [] w = w
well_text rs os (b ∷ text) w = well_added rs os (text_node (b ∷ text) (innermost os)) w refl

pub well_within : (rs : List Record) (os : List Opened) → IsWell rs os → innermost os < length rs
well_within rs [] w = w.some
well_within rs (o ∷ os) w = w.stack.0

pub well_left : (rs : List Record) (os : List Opened) → IsWell rs os → IsWell rs (without_innermost os)
well_left rs [] w = w
well_left rs (o ∷ os) w = record { some = w.some; root = w.root; inside = w.inside; stack = w.stack.5 }

-- the namespace nodes of the innermost open element
pub well_alike : (rs : List Record) (os : List Opened) (scope : Bindings) → HasBindings os scope → IsWell rs os
    → StandFrom rs (innermost os + 1) (spaces (innermost os) scope)
well_alike rs [] scope has w = absurd has
well_alike rs (o ∷ os) scope has w = rw has w.stack.4

-- they stay behind it when a node is added
pub alike_behind : (rs new : List Record) (r : Record) (os : List Opened) (parent : ℕ) (scope : Bindings) → HasBindings os scope → IsWell rs os
    → parent ≡ innermost os → new ≡ rs ++ r ∷ [] → StandFrom new (parent + 1) (spaces parent scope)
alike_behind rs new r os parent scope has w is put =
    rw (put, is) (stand_append rs (r ∷ []) (innermost os + 1) (spaces (innermost os) scope) (well_alike rs os scope has w))

-- an element that was added and is open now, before its namespace nodes are there
pub well_entered : (rs : List Record) (os : List Opened) (name : Name) (o : Opened) → o.scope ≡ [] → IsWell rs os → o.node ≡ length rs
    → IsWell (rs ++ element name (innermost os) ∷ []) (o ∷ os)
well_entered rs os name o bare w is =
    let r = element name (innermost os) in
    let v = well_added rs os r w refl in
    record {
      some = v.some;
      root = v.root;
      inside = v.inside;
      stack = (
        omega (arith, length-added rs r, is),
        rw is (ap (λ (x : Record). x.kind) (at-added rs r)),
        rw is (IsOpen-last rs r),
        rw is (well_within rs os w),
        rw bare (stand_none (rs ++ r ∷ []) (o.node + 1) (omega (arith, length-added rs r, is))),
        v.stack,
      );
    }

-- the same element, with its namespace nodes
pub well_spaced : (rs : List Record) (o : Opened) (os : List Opened) → IsWell rs (record o { scope = [] } ∷ os)
    → StandFrom rs (o.node + 1) (spaces o.node o.scope) → IsWell rs (o ∷ os)
well_spaced rs o os w s = record {
  some = w.some;
  root = w.root;
  inside = w.inside;
  stack = (w.stack.0, w.stack.1, w.stack.2, w.stack.3, s, w.stack.5);
}

pub order_entered : (rs : List Record) (os : List Opened) (name : Name) → KeepsOrder (rs ++ element name (innermost os) ∷ []) (length rs) Attribute
order_entered rs os name = KeepsOrder-last rs (element name (innermost os)) Attribute

-- its namespace nodes
pub well_spaces : (scope : Bindings) (rs : List Record) (o : Opened) (os : List Opened) → IsWell rs (o ∷ os) → IsWell (rs ++ spaces o.node scope) (o ∷ os)
well_spaces [] rs o os w = rw (append-nil rs) w
well_spaces (b ∷ bs) rs o os w =
    let h : IsWell ((rs ++ space o.node b ∷ []) ++ spaces o.node bs) (o ∷ os) =
    well_spaces bs (rs ++ space o.node b ∷ []) o os (well_added rs (o ∷ os) (space o.node b) w refl) in
    let e : (rs ++ space o.node b ∷ []) ++ spaces o.node bs ≡ rs ++ space o.node b ∷ spaces o.node bs =
    append_assoc rs (space o.node b ∷ []) (spaces o.node bs) in
    rw (← e) h

pub order_spaces : (scope : Bindings) (rs : List Record) (p : ℕ) → KeepsOrder rs p Attribute → KeepsOrder (rs ++ spaces p scope) p Attribute
order_spaces [] rs p w = rw (append-nil rs) w
order_spaces (b ∷ bs) rs p w =
    let h : KeepsOrder ((rs ++ space p b ∷ []) ++ spaces p bs) p Attribute =
    order_spaces bs (rs ++ space p b ∷ []) p (KeepsOrder-added rs (space p b) p Attribute w (omega arith)) in
    let e : (rs ++ space p b ∷ []) ++ spaces p bs ≡ rs ++ space p b ∷ spaces p bs = append_assoc rs (space p b ∷ []) (spaces p bs) in
    rw (← e) h
