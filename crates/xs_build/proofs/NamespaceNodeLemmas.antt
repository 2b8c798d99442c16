-- The namespace nodes of an element, one after another, and those that are copies of the parent's.
use Rattle.std.proofs.Common.{◌≡◌, ℕ, ◌+◌, ◌<◌, ◌≤◌, List, [], ◌∷◌, ◌++◌, length, refl, sym, ◌∙◌, arith, append_assoc, Option, Some, ap, subst}
use Rattle.xs_tree.specs.declared.kinds.Kind.TheVariants.{Element, Space}
use Rattle.xs_tree.specs.declared.names.Name.{Name}
use Rattle.xs_tree.specs.Record.{Record, at}
use Rattle.xs_tree.specs.Shape.{IsLocalName, IsOpen, KeepsOrder}
use Rattle.xs_tree.proofs.ShapeLemmas.{at-append, length-added, IsOpen-added, KeepsOrder-added}
use Rattle.xs_tree.specs.Limits.{most_nodes}
use Rattle.xs_build.specs.Namespaces.{Binding, Bindings}
use Rattle.xs_build.specs.Nodes.{local_name, space, spaces}
use Rattle.xs_build.specs.steps.Invariant.{StandFrom}
use Rattle.xs_build.proofs.NodeRunLemmas.{stand_append, stand_at, stand_rest}

-- an element in which only namespace nodes stand so far, and those that are left to add give the whole
pub record IsSpaced (tree : List Record) (element : ℕ) (left : Bindings) (whole : List Record) : Type 0 where
  pub within : element < length tree
  pub kind : (at tree element).kind ≡ Element
  pub inside : IsOpen tree element
  pub order : KeepsOrder tree element Space
  pub room : length tree + length left ≤ most_nodes
  pub same : tree ++ spaces element left ≡ whole

pub spaced_step : (tree : List Record) (element : ℕ) (b : Binding) (left : Bindings) (whole : List Record) → IsSpaced tree element (b ∷ left) whole
    → IsSpaced (tree ++ space element b ∷ []) element left whole
spaced_step tree element b left whole s =
    record {
      within = omega (arith, s.within, length-added tree (space element b));
      kind = rw (at-append tree (space element b ∷ []) element s.within) s.kind;
      inside = IsOpen-added tree (space element b) element element refl (omega arith) s.inside;
      order = KeepsOrder-added tree (space element b) element Space s.order (omega arith);
      room = omega (arith, s.room, length-added tree (space element b));
      same = append_assoc tree (space element b ∷ []) (spaces element left) ∙ s.same;
    }

-- ---- copies
-- Some bindings are left to add, and the namespace nodes of the parent for them stand from this place up to the last.
pub record IsCopied (tree : List Record) (element parent like last : ℕ) (whole : List Record) : Type 0 where
  pub left : Bindings
  pub count : like + length left ≡ last
  pub spaced : IsSpaced tree element left whole
  pub alike : StandFrom tree like (spaces parent left)

kind_of : (tree : List Record) (parent like last : ℕ) (left : Bindings) → like + length left ≡ last → StandFrom tree like (spaces parent left) → like < last
    → (at tree like).kind ≡ Space
kind_of tree parent like last [] count stand more = absurd (omega arith)
kind_of tree parent like last (b ∷ bs) count stand more = ap (λ (r : Record). r.kind) (stand_at tree like (space parent b) (spaces parent bs) stand)

-- what is copied next is a namespace node
pub copied_kind : (tree : List Record) (element parent like last : ℕ) (whole : List Record) → IsCopied tree element parent like last whole → like < last
    → (at tree like).kind ≡ Space
copied_kind tree element parent like last whole c more = kind_of tree parent like last c.left c.count c.alike more

-- a node like another, inside an element
abbrev copy_of : ℕ → Record → Record
copy_of element r = record { kind = Space; name = r.name; text = r.text; parent = Some element }

copied_next : (tree : List Record) (element parent like last : ℕ) (whole : List Record) (left : Bindings) → like + length left ≡ last
    → IsSpaced tree element left whole → StandFrom tree like (spaces parent left) → like < last →
    IsCopied (tree ++ copy_of element (at tree like) ∷ []) element parent (like + 1) last whole
copied_next tree element parent like last whole [] count s stand more = absurd (omega arith)
copied_next tree element parent like last whole (b ∷ bs) count s stand more =
    let one : copy_of element (at tree like) ≡ space element b = ap (copy_of element) (stand_at tree like (space parent b) (spaces parent bs) stand) in
    subst (λ r. IsCopied (tree ++ r ∷ []) element parent (like + 1) last whole) (sym one)
    (record {
      left = bs;
      count = omega arith;
      spaced = spaced_step tree element b bs whole s;
      alike = stand_append tree (space element b ∷ []) (like + 1) (spaces parent bs) (stand_rest tree like (space parent b) (spaces parent bs) stand);
    })

pub copied_step : (tree new : List Record) (element parent like last : ℕ) (whole : List Record) → IsCopied tree element parent like last whole → like < last
    → new ≡ tree ++ copy_of element (at tree like) ∷ [] → IsCopied new element parent (like + 1) last whole
copied_step tree new element parent like last whole c more is =
    subst (λ t. IsCopied t element parent (like + 1) last whole) (sym is) (copied_next tree element parent like last whole c.left c.count c.spaced c.alike more)

-- ---- one that is like another
abbrev name_of : (uri local prefix : List ℕ) → Name
name_of uri local prefix = record { uri = uri; local = local; prefix = prefix }

-- a name that is a local part alone
pub local_alone : (name : Name) (local : List ℕ) → IsLocalName name → name.local ≡ local → name ≡ local_name local
local_alone name local alone same =
    ap (λ (u : List ℕ). name_of u name.local name.prefix) alone.uri
    ∙ ap (λ (l : List ℕ). name_of [] l name.prefix) same
    ∙ ap (λ (p : List ℕ). name_of [] local p) alone.prefix

-- a copy of a namespace node of this binding is another one
pub copied_binding : (tree new : List Record) (element like : ℕ) (prefix uri : List ℕ) → (at tree like).name ≡ Some (local_name prefix)
    → (at tree like).text ≡ uri → new ≡ tree ++ copy_of element (at tree like) ∷ [] → new ≡ tree ++ space element (prefix, uri) ∷ []
copied_binding tree new element like prefix uri name text is =
    is
    ∙ ap (λ (n : Option Name). tree ++ record { kind = Space; name = n; text = (at tree like).text; parent = Some element } ∷ []) name
    ∙ ap (λ (t : List ℕ). tree ++ record { kind = Space; name = Some (local_name prefix); text = t; parent = Some element } ∷ []) text
