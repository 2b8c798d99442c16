-- What is known of each node for a declaration.
use Rattle.std.specs.Prelude.{◌≡◌, ℕ, List, [], map, Option, Some, None, Vec, Bool}
use Rattle.std.specs.declared.alloc.Global.{Global}
use Rattle.xs_pattern.specs.MatchTables.{IsMatchTable}
use Rattle.xs_numbering.specs.Counting.{any_number, is_alike, sibling_number}
use Rattle.xs_numbering.specs.Passes.{is_flagged}
use Rattle.xs_sheet.specs.declared.body.Level.{Level}
use Rattle.xs_sheet.specs.declared.body.Level.TheVariants.{Single, Multiple, Any}
use Rattle.xs_sheet.specs.declared.body.NumberDecl.{NumberDecl}
use Rattle.xs_sheet.specs.declared.scoped.ScopedPattern.{ScopedPattern}
use Rattle.xs_tree.specs.Record.{Record, at, places}
use Rattle.xs_value.specs.Tables.{Table}
use Rattle.xs_number_tables.specs.declared.counter.Counter.{Counter}
use Rattle.xs_pattern_spec.specs.Counted.{alike_any_number, alike_number}

-- the flags of the nodes that match `count`, where there is one
abbrev pub AreCounts : List Table → List Record → Option ScopedPattern → Option (Vec Bool Global) → Type 0
AreCounts keys rs None None = Unit {0}
AreCounts keys rs None (Some flags) = ⊥
AreCounts keys rs (Some p) None = ⊥
AreCounts keys rs (Some p) (Some flags) = IsMatchTable keys rs p flags.items

-- those of the nodes that match `from`; none without one
abbrev pub AreFrom : List Table → List Record → Option ScopedPattern → List Bool → Type 0
AreFrom keys rs None flags = flags ≡ []
AreFrom keys rs (Some p) flags = IsMatchTable keys rs p flags

-- a number for each node at a level, by flags, and among the nodes that are alike
abbrev pub NumbersBy : Level → (counts from : List Bool) → List Record → List ℕ → Type 0
NumbersBy Single counts from rs numbers = numbers ≡ map (sibling_number (is_flagged counts) rs) (places rs)
NumbersBy Multiple counts from rs numbers = numbers ≡ map (sibling_number (is_flagged counts) rs) (places rs)
NumbersBy Any counts from rs numbers = numbers ≡ map (any_number (is_flagged counts) (is_flagged from) rs) (places rs)

abbrev pub AlikeNumbers : Level → (from : List Bool) → List Record → List ℕ → Type 0
AlikeNumbers Single from rs numbers = numbers ≡ map (alike_number rs) (places rs)
AlikeNumbers Multiple from rs numbers = numbers ≡ map (alike_number rs) (places rs)
AlikeNumbers Any from rs numbers = numbers ≡ map (alike_any_number (is_flagged from) rs) (places rs)

abbrev pub AreNumbers : Level → Option (Vec Bool Global) → (from : List Bool) → List Record → List ℕ → Type 0
AreNumbers level None from rs numbers = AlikeNumbers level from rs numbers
AreNumbers level (Some counts) from rs numbers = NumbersBy level counts.items from rs numbers

-- the nodes that are alike to the node at n
abbrev pub alike_to : List Record → (n k : ℕ) → Bool
alike_to rs n k = is_alike (at rs k) (at rs n)

-- a counter is that of a declaration
pub record IsCounter (keys : List Table) (rs : List Record) (d : NumberDecl) (c : Counter) : Type 0 where
  pub counts : AreCounts keys rs d.count c.counts
  pub from : AreFrom keys rs d.from c.from.items
  pub numbers : AreNumbers d.level c.counts c.from.items rs c.numbers.items
