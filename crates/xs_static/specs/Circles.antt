-- Attribute sets that use themselves (XSLT 1.0, 7.1.4).
use Rattle.std.specs.Prelude.{◌≡◌, ◌⊎◌, ◌==◌, ◌&&◌, ◌||◌, nat_lt, nat_le, Bool, true, List, [], ◌∷◌, filter, Option, Some, None}
use Rattle.std.specs.List.{flat_map}
use Rattle.xs_elements.specs.Nodes.{Name, is_same_name}
use Rattle.xs_static.specs.declared.circles.Place.{Place}

-- a declaration: where it stands, the name of its set, and the sets that it uses itself
pub record Declared : Type 0 where
  pub place : Place
  pub name : Name
  pub sets : List Name

-- the sets that all declarations of a name use
abbrev pub is_of : Name → Declared → Bool
is_of name d = is_same_name d.name name

abbrev pub used_by : List Declared → Name → List Name
used_by ds name = flat_map (λ d. d.sets) (filter (is_of name) ds)

abbrev pub IsAmong : {X : Type 0} → X → List X → Type 0
IsAmong x [] = ⊥
IsAmong x (y ∷ ys) = (y ≡ x) ⊎ IsAmong x ys

-- A set leads to itself, and to all that a set leads to which it uses.
pub data LeadsTo (uses : Name → List Name) (goal : Name) : Name → Type 0 where
  itself : {name : Name} → name ≡ goal → LeadsTo uses goal name
  by_use : {name : Name} (used : Name) → IsAmong used (uses name) → LeadsTo uses goal used → LeadsTo uses goal name

-- one of these sets leads to a name
abbrev pub SomeLeads : (Name → List Name) → List Name → Name → Type 0
SomeLeads uses sets goal = (set : Name) × IsAmong set sets × LeadsTo uses goal set

-- the own sets of a declaration lead back to its name
abbrev pub IsCircular : List Declared → Declared → Type 0
IsCircular ds d = SomeLeads (used_by ds) d.sets d.name

-- the order of places: by the module, then the line
abbrev pub is_at_most : Place → Place → Bool
is_at_most p q = nat_lt p.«module» q.«module» || (p.«module» == q.«module» && nat_le p.line q.line)

-- none where none of these declarations is circular, and else the place of the first one that is
abbrev pub IsFirstOf : List Declared → List Declared → Option Place → Type 0
IsFirstOf ds among None = (d : Declared) → IsAmong d among → IsCircular ds d → ⊥
IsFirstOf ds among (Some place) =
    ((d : Declared) × IsAmong d among × IsCircular ds d × (place ≡ d.place))
    × ((d : Declared) → IsAmong d among → IsCircular ds d → is_at_most place d.place ≡ true)

abbrev pub IsFirstCircle : List Declared → Option Place → Type 0
IsFirstCircle ds = IsFirstOf ds ds
