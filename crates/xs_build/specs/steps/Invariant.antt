-- The open elements among the records that were read.
use Rattle.std.specs.Prelude.{◌≡◌, ℕ, ◌+◌, ◌<◌, ◌≤◌, List, [], ◌∷◌, ◌++◌, IsSome, length}
use Rattle.xs_tree.specs.declared.kinds.Kind.TheVariants.{Root, Element, Attribute}
use Rattle.xs_tree.specs.Record.{Record, at}
use Rattle.xs_tree.specs.Shape.{IsOpen, KeepsOrder}
use Rattle.xs_build.specs.declared.opened.Opened.{Opened}
use Rattle.xs_tree.specs.Limits.{most_nodes}
use Rattle.xs_build.specs.Namespaces.{Bindings}
use Rattle.xs_build.specs.steps.Lines.{innermost}
use Rattle.xs_build.specs.Nodes.{spaces}
use Rattle.xs_build.specs.steps.State.{State, with_text_node}

-- these nodes stand one after another, the first of them at this place
pub record StandFrom (records : List Record) (place : ℕ) (nodes : List Record) : Type 0 where
  pub before : List Record
  pub behind : List Record
  pub from : length before ≡ place
  pub among : records ≡ before ++ (nodes ++ behind)

-- Each open element, the innermost first, is an element that stays open, inside the next, with its namespace nodes right behind it.
abbrev pub Stands : List Record → List Opened → Type 0
Stands records [] = Unit {0}
Stands records (o ∷ os) = (o.node < length records) × ((at records o.node).kind ≡ Element) × IsOpen records o.node × (innermost os < o.node)
    × StandFrom records (o.node + 1) (spaces o.node o.scope) × Stands records os

-- an element is open, and these are the bindings in force in the innermost one
abbrev pub HasBindings : List Opened → Bindings → Type 0
HasBindings [] scope = ⊥
HasBindings (o ∷ os) scope = scope ≡ o.scope

pub record IsWell (records : List Record) (around : List Opened) : Type 0 where
  pub some : 0 < length records
  pub root : (at records 0).kind ≡ Root
  pub inside : IsOpen records 0
  pub stack : Stands records around

-- where an attribute may follow, no text and no child has come in the innermost element
pub record IsFresh (s : State) : Type 0 where
  pub quiet : s.text ≡ []
  pub within : 0 < length s.around
  pub order : KeepsOrder s.records (innermost s.around) Attribute

pub record IsGood (s : State) : Type 0 where
  pub well : IsWell s.records s.around
  pub counted : length (with_text_node s.records (innermost s.around) s.text) ≡ length s.lines
  pub few : length s.lines ≤ most_nodes
  pub outside : s.around ≡ [] → s.text ≡ []
  pub fresh : IsSome s.tag → IsFresh s
  pub counting : 0 < s.line
