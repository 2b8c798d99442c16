-- The counters of a stylesheet.
use Rattle.std.specs.Prelude.{◌≡◌, ℕ, ◌==◌, ◌&&◌, List, Option, IfSome}
use Rattle.std.specs.HashMap.{get_by}
use Rattle.xs_sheet.specs.declared.body.NumberDecl.{NumberDecl}
use Rattle.xs_tree.specs.Record.{Record}
use Rattle.xs_value.specs.Tables.{Table}
use Rattle.xs_number_tables.specs.declared.counters.Counted.{Counted}
use Rattle.xs_number_tables.specs.declared.counters.Counters.{Counters}
use Rattle.xs_number_tables.specs.steps.Counters.{IsCounter}

-- what is kept for a place
abbrev pub counted_at : Counters → (m line : ℕ) → Option Counted
counted_at counters m line = get_by (λ k. (m == k.0) && (line == k.1)) counters.counters

-- each is that of the declaration beside it
abbrev pub AreCounters : List Table → List Record → Counters → Type 0
AreCounters keys rs counters = (m line : ℕ) → IfSome (counted_at counters m line) (λ c. IsCounter keys rs c.decl.now c.counter)

-- two declarations count by the same
pub record IsSameCounting (a b : NumberDecl) : Type 0 where
  pub level : a.level ≡ b.level
  pub count : a.count ≡ b.count
  pub from : a.from ≡ b.from
