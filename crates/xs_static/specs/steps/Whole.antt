-- What is known of all modules of a stylesheet.
use Rattle.std.specs.Prelude.{◌≡◌, ℕ, ◌<◌, List, length, map}
use Rattle.xs_modules.specs.Numbering.{ModuleData}
use Rattle.xs_static.specs.declared.walk.Walked.{Walked}
use Rattle.xs_structure.specs.declared.standing.Standing.{Standing}
use Rattle.xs_structure.specs.Modules.{records_at}
use Rattle.xs_structure.specs.Scopes.{scopes_in, scopes_of}
use Rattle.xs_structure.specs.Standing.{standing_of}
use Rattle.xs_tree.specs.Record.{Record, places}
use Rattle.xs_tree.specs.Shape.{IsTree}

-- the nodes of each module are a tree
abbrev pub AreTrees : List ModuleData → Type 0
AreTrees ms = (m : ℕ) → m < length ms → IsTree (records_at ms m)

-- what the walk over a module leaves is how its nodes stand, and the namespaces in scope at them
pub record IsWalked (rs : List Record) (walked : Walked) : Type 0 where
  pub standings : walked.standings.items ≡ map (standing_of rs) (places rs)
  pub scopes : scopes_in walked.scopes ≡ scopes_of rs

-- the same of all modules
abbrev pub WalkedData : Type 0
WalkedData = List Standing × List (List (List ℕ × List ℕ))

abbrev pub walked_data : Walked → WalkedData
walked_data walked = (walked.standings.items, scopes_in walked.scopes)

abbrev pub walked_of : ModuleData → WalkedData
walked_of d = (map (standing_of d.records) (places d.records), scopes_of d.records)

abbrev pub AreWalked : List ModuleData → List Walked → Type 0
AreWalked ms all = map walked_data all ≡ map walked_of ms
