-- The counters of a stylesheet.
use Rattle.std.proofs.Common.{◌≡◌, Bool, true, false, cond, List, Option, Some, IfSome, subst, sym}
use Rattle.xs_sheet.specs.declared.body.Level.{Level}
use Rattle.xs_sheet.specs.declared.body.NumberDecl.{NumberDecl}
use Rattle.xs_sheet.specs.declared.scoped.ScopedPattern.{ScopedPattern}
use Rattle.xs_tree.specs.Record.{Record}
use Rattle.xs_value.specs.Tables.{Table}
use Rattle.xs_number_tables.specs.declared.counter.Counter.{Counter}
use Rattle.xs_number_tables.specs.declared.counters.Counted.{Counted}
use Rattle.xs_number_tables.specs.steps.Counters.{AreCounts, AreFrom, AreNumbers, IsCounter}
use Rattle.xs_number_tables.specs.Tables.{IsSameCounting}

-- what a place has, once another entry was made
pub entered : (P : Counted → Type 0) (b : Bool) (entry : Counted) (was now : Option Counted) → now ≡ cond b (Some entry) was → P entry
    → IfSome was P → IfSome now P
entered P true entry was now e own kept = subst (λ (o : Option Counted). IfSome o P) (sym e) own
entered P false entry was now e own kept = subst (λ (o : Option Counted). IfSome o P) (sym e) kept

-- the counter of a declaration is that of each one that counts by the same
pub same-counter : (keys : List Table) (rs : List Record) (a b : NumberDecl) (c : Counter) → IsSameCounting a b → IsCounter keys rs a c
    → IsCounter keys rs b c
same-counter keys rs a b c same h = record {
  counts = subst (λ (p : Option ScopedPattern). AreCounts keys rs p c.counts) same.count h.counts;
  from = subst (λ (p : Option ScopedPattern). AreFrom keys rs p c.from.items) same.from h.from;
  numbers = subst (λ (l : Level). AreNumbers l c.counts c.from.items rs c.numbers.items) same.level h.numbers;
}
