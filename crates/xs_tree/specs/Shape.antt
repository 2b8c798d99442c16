-- Which records make a tree, and where a node can be added (XPath 1.0, 5).
use Rattle.std.specs.Prelude.{◌≡◌, ℕ, ◌<◌, ◌≤◌, true, List, [], Option, Some, length, IsTrue, is_some, IfSome, IsSomeAnd, MatchOption}
use Rattle.xs_tree.specs.declared.kinds.Kind.{Kind}
use Rattle.xs_tree.specs.declared.kinds.Kind.TheVariants.{Root, Element}
use Rattle.xs_tree.specs.declared.names.Name.{Name}
use Rattle.xs_tree.specs.Kinds.{bears_name, can_hold, has_local_name, rank}
use Rattle.xs_tree.specs.Record.{Record, root_record, at}

-- the node's parent is the node at p or comes after it
abbrev pub HasParentFrom : ℕ → Record → Type 0
HasParentFrom p r = IsSomeAnd r.parent (λ q. p ≤ q)

-- the element or root at p is the last node or one of its ancestors: all that comes after it is inside it
abbrev pub IsOpen : List Record → ℕ → Type 0
IsOpen rs p = (k : ℕ) → p < k → k < length rs → HasParentFrom p (at rs k)

-- a node of this kind may follow what is in the open element at p so far: its namespace nodes, then its
-- attributes, then its children (XPath 1.0, 5)
abbrev pub KeepsOrder : List Record → ℕ → Kind → Type 0
KeepsOrder rs p kind = (k : ℕ) → p < k → k < length rs → rank (at rs k).kind ≤ rank kind

-- the node at last is held by the node at p, and a node of this kind may follow it there
abbrev pub FollowsInOrder : List Record → ℕ → ℕ → Kind → Type 0
FollowsInOrder rs p last kind = ((at rs last).parent ≡ Some p) × (rank (at rs last).kind ≤ rank kind)

-- the node at k has the parent p: one before it that can hold it, and all between them is inside p and
-- in order
pub record IsPlaced (rs : List Record) (k p : ℕ) : Type 0 where
  pub before : p < k
  pub held : IsTrue (can_hold (at rs p).kind (at rs k).kind)
  pub inside : (j : ℕ) → p < j → j < k → HasParentFrom p (at rs j)
  pub order : (j : ℕ) → p < j → j < k → rank (at rs j).kind ≤ rank (at rs k).kind

-- a name that is a local part alone (Namespaces in XML 1.0, 2.1)
pub record IsLocalName (name : Name) : Type 0 where
  pub uri : name.uri ≡ []
  pub prefix : name.prefix ≡ []

-- A node of this kind can bear this name and this text: it has a name where nodes of its kind have one, of a local part alone
-- where theirs are, and an element has no text of its own (XPath 1.0, 5).
pub record CanBear (kind : Kind) (name : Option Name) (text : List ℕ) : Type 0 where
  pub named : is_some name ≡ bears_name kind
  pub spelled : has_local_name kind ≡ true → IfSome name IsLocalName
  pub plain : kind ≡ Element → text ≡ []

-- the node at k is a root, without a parent, or stands in its place
abbrev pub IsRootOrPlaced : List Record → ℕ → Type 0
IsRootOrPlaced rs k = MatchOption (at rs k).parent ((at rs k).kind ≡ Root) (λ p. IsPlaced rs k p)

-- each node is a root or stands in its place, and bears what its kind can bear; the first is the root of the first document
pub record IsTree (rs : List Record) : Type 0 where
  pub some : 0 < length rs
  pub first : at rs 0 ≡ root_record
  pub placed : (k : ℕ) → k < length rs → IsRootOrPlaced rs k
  pub borne : (k : ℕ) → k < length rs → CanBear (at rs k).kind (at rs k).name (at rs k).text

-- A node can be added at the end, inside the node at p: that can hold one of this kind and is open, what is in it comes before
-- nodes of this kind, and one of this kind can bear the name and the text (XPath 1.0, 5).
pub record CanAdd (rs : List Record) (kind : Kind) (name : Option Name) (text : List ℕ) (p : ℕ) : Type 0 where
  pub within : p < length rs
  pub held : IsTrue (can_hold (at rs p).kind kind)
  pub borne : CanBear kind name text
  pub unended : IsOpen rs p
  pub order : KeepsOrder rs p kind

-- all from the node at n up to the place e, and nothing after that, is the node at n or inside it
pub record EndsAt (rs : List Record) (n e : ℕ) : Type 0 where
  pub after : n < e
  pub within : e ≤ length rs
  pub inside : (k : ℕ) → n < k → k < e → HasParentFrom n (at rs k)
  pub outside : e < length rs → HasParentFrom n (at rs e) → ⊥
