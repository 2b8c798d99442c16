-- The search of what names lead to.
use Rattle.std.specs.Prelude.{◌≡◌, ◌⊎◌, List, Option, Some, None}
use Rattle.xs_static.specs.Circles.{Declared, IsAmong, LeadsTo, SomeLeads, used_by}
use Rattle.xs_elements.specs.Nodes.{Name}

-- a name that was met: it is not the one that is looked for, and nothing is left in the table that it uses
abbrev pub IsMet : Name → (Name → Option (List Name)) → Name → Type 0
IsMet goal left name = (name ≡ goal → ⊥) × (left name ≡ None)

-- The search, on its way: what is left in the table is whole; what a name uses that was met was met too, or is still to be met, and so
-- are the names from which the search began; and of what is still to be met nothing leads to the goal but where these do.
pub record IsSearch (ds : List Declared) (starts : List Name) (goal : Name) (left : Name → Option (List Name)) (todo : List Name) : Type 0 where
  pub whole : (name : Name) (names : List Name) → left name ≡ Some names → names ≡ used_by ds name
  pub closed : (name used : Name) → left name ≡ None → IsAmong used (used_by ds name) → IsMet goal left used ⊎ IsAmong used todo
  pub begun : (name : Name) → IsAmong name starts → IsMet goal left name ⊎ IsAmong name todo
  pub sound : (name : Name) → IsAmong name todo → LeadsTo (used_by ds) goal name → SomeLeads (used_by ds) starts goal
