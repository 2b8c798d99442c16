-- What the value of an expression depends on.
use Rattle.std.specs.Prelude.{ℕ, List, Option}
use Rattle.xs_tree.specs.Record.{Record}
use Rattle.xs_value.specs.declared.value.Value.{Value}

-- The context (XPath 1.0, 1): a node, a position and a size, the variable bindings, and the namespace declarations in scope; and
-- the current node (XSLT 1.0, 12.4).
pub record Context : Type 0 where
  -- the nodes of all documents, in document order
  pub tree : List Record
  pub node : ℕ
  pub position : ℕ
  pub size : ℕ
  pub current : ℕ
  -- the values of the variables, by their slots; a global one that has no value yet has none
  pub locals : List Value
  pub globals : List (Option Value)
  -- the pairs of prefix and URI that are in force
  pub scope : List (List ℕ × List ℕ)

-- the same with another node, position and size
abbrev pub at_node : Context → ℕ → ℕ → ℕ → Context
at_node c n p k = record {
  tree = c.tree;
  node = n;
  position = p;
  size = k;
  current = c.current;
  locals = c.locals;
  globals = c.globals;
  scope = c.scope;
}
