-- What an expression refers to: variables, `current()`, `key()`, and `position()` or `last()`.
use Rattle.std.specs.Prelude.{◌||◌, not, Bool, true, false, Option, is_some}
use Rattle.xs_xpath.specs.declared.name.Function.{Function}
use Rattle.xs_xpath.specs.declared.name.Function.TheVariants.{Current as CurrentCall, Last, Position}
use Rattle.xs_xpath.specs.declared.name.Slot.{Slot}
use Rattle.xs_xpath.specs.declared.uses.Sought.{Sought}
use Rattle.xs_xpath.specs.declared.uses.Sought.TheVariants.{Variable, Unbound, Current, Key, Place}
use Rattle.xs_xpath.specs.Patterns.{is_key}
use Rattle.xs_xpath.specs.Tree.{Tree, Trees, number, literal, variable, call, negative, chain, group, here, root, step, descend, filter, path, no_trees, first_tree}

abbrev pub is_sought_variable : Sought → Option Slot → Bool
is_sought_variable Variable slot = true
is_sought_variable Unbound slot = not (is_some slot)
is_sought_variable Current slot = false
is_sought_variable Key slot = false
is_sought_variable Place slot = false

abbrev pub is_current : Function → Bool
is_current CurrentCall = true
is_current _ = false

-- `position` and `last`
abbrev pub is_place : Function → Bool
is_place Last = true
is_place Position = true
is_place _ = false

abbrev pub is_sought_call : Sought → Function → Bool
is_sought_call Variable function = false
is_sought_call Unbound function = false
is_sought_call Current function = is_current function
is_sought_call Key function = is_key function
is_sought_call Place function = is_place function

-- whether what is sought stands anywhere in an expression
abbrev mutual
  pub uses : Sought → Tree → Bool
  uses sought (number n) = false
  uses sought (literal text) = false
  uses sought (variable uri local slot) = is_sought_variable sought slot
  uses sought (call function es) = is_sought_call sought function || use_any sought es
  uses sought (negative m e) = uses sought e
  uses sought (chain ops es) = use_any sought es
  uses sought (group e) = uses sought e
  uses sought here = false
  uses sought root = false
  uses sought (step axis which es) = use_any sought es
  uses sought descend = false
  uses sought (filter e es) = uses sought e || use_any sought es
  uses sought (path e es) = uses sought e || use_any sought es

  pub use_any : Sought → Trees → Bool
  use_any sought no_trees = false
  use_any sought (first_tree e es) = uses sought e || use_any sought es

-- whether an expression has a variable, one without a slot, a call of `current`, of `key`, of `position` or `last`
abbrev pub uses_variables : Tree → Bool
uses_variables e = uses Variable e

abbrev pub has_unbound : Tree → Bool
has_unbound e = uses Unbound e

abbrev pub uses_current : Tree → Bool
uses_current e = uses Current e

abbrev pub uses_key : Tree → Bool
uses_key e = uses Key e

abbrev pub uses_place : Tree → Bool
uses_place e = uses Place e
