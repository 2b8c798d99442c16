-- The local bindings that are visible where the walk is.
use Rattle.std.specs.Prelude.{◌≡◌, ℕ, zero, suc, ◌<◌, ◌≤◌, ◌&&◌, ◌||◌, nat_le, nat_lt, Bool, false, List, [], ◌∷◌, length, reverse}
use Rattle.xs_static.specs.declared.locals.Locals.{Locals}
use Rattle.xs_static.specs.declared.locals.OpenBinding.{OpenBinding}
use Rattle.xs_structure.specs.Bindings.{is_visible_as}
use Rattle.xs_elements.specs.Nodes.{Name, is_same_name, name_data}
use Rattle.xs_structure.specs.InForce.{in_force_at}
use Rattle.xs_tree.specs.Record.{Record}
use Rattle.xs_tree.specs.Shape.{EndsAt}

-- the bindings that are open, the innermost first
abbrev pub open_in : Locals → List OpenBinding
open_in l = reverse l.open.items

-- an open binding of this name is visible at a place, once it is behind it
abbrev pub comes_as : List ℕ → List ℕ → ℕ → OpenBinding → Bool
comes_as uri local k o = is_same_name (uri, local) (name_data o.name) && (nat_le o.end k && nat_lt k o.reach)

unfoldable pub comes : List OpenBinding → List ℕ → List ℕ → ℕ → Bool
comes [] uri local k = false
comes (o ∷ os) uri local k = comes_as uri local k o || comes os uri local k

-- a name is in force at a place, or an open binding of it is visible there
abbrev pub bound_at : Locals → List ℕ → List ℕ → ℕ → Bool
bound_at l uri local k = in_force_at l.in_force uri local k || comes (open_in l) uri local k

-- the outermost of these ends no earlier than this
abbrev pub EndFrom : ℕ → List OpenBinding → Type 0
EndFrom end [] = Unit {0}
EndFrom end (o ∷ os) = end ≤ o.end

pub record HasEnd (rs : List Record) (o : OpenBinding) (count : ℕ) : Type 0 where
  pub node : ℕ
  pub before : node < count
  pub ends : EndsAt rs node o.end

-- each ends where an element before this place does, and no earlier than those inside it
unfoldable pub AreNested : List Record → ℕ → List OpenBinding → Type 0
AreNested rs count [] = Unit {0}
AreNested rs count (o ∷ os) = HasEnd rs o count × EndFrom o.end os × AreNested rs count os

-- one of the first so many nodes is a visible binding of this name
unfoldable pub any_visible : List Record → Name → (k count : ℕ) → Bool
any_visible rs name k zero = false
any_visible rs name k (suc b) = is_visible_as rs name k b || any_visible rs name k b

-- the bindings of the first so many nodes
pub record AreLocals (rs : List Record) (count : ℕ) (l : Locals) : Type 0 where
  pub bound : (uri local : List ℕ) (k : ℕ) → count ≤ k → k < length rs → bound_at l uri local k ≡ any_visible rs (uri, local) k count
  pub nested : AreNested rs count (open_in l)
