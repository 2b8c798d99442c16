-- The namespaces in scope at the nodes of a module.
use Rattle.std.specs.Prelude.{ℕ, List, map}
use Rattle.std.specs.Arc.{arc_value}
use Rattle.xs_elements.specs.Nodes.{scope_at}
use Rattle.xs_structure.specs.declared.scopes.Scopes.{Scopes}
use Rattle.xs_tree.specs.Record.{Record, places}
use Rattle.xs_xpath.specs.declared.scope.Scope.{Scope}

-- what a scope, a table and a tree have
abbrev pub pairs_in : Scope → List (List ℕ × List ℕ)
pairs_in scope = scope.pairs.items

abbrev pub scopes_in : Scopes → List (List (List ℕ × List ℕ))
scopes_in table = map (λ scope. pairs_in (arc_value scope)) table.of_nodes.items

abbrev pub scopes_of : List Record → List (List (List ℕ × List ℕ))
scopes_of rs = map (scope_at rs) (places rs)
