-- Expressions as plain data (XPath 1.0, 2 and 3). The operands of one precedence level are a list.
use Rattle.std.specs.Prelude.{ℕ, Bool, true, false, List, [], ◌∷◌, map, Option, Some, None}
use Rattle.xs_num.specs.declared.number.Number.{Number as Value}
use Rattle.xs_tree.specs.declared.axes.Axis.{Axis}
use Rattle.xs_xpath.specs.declared.name.Function.{Function}
use Rattle.xs_xpath.specs.declared.name.NodeTest.{NodeTest}
use Rattle.xs_xpath.specs.declared.name.Slot.{Slot}
use Rattle.xs_xpath.specs.declared.token.Operator.{Operator}
use Rattle.xs_xpath.specs.declared.token.Atom.{Atom}
use Rattle.xs_xpath.specs.declared.token.Atom.TheVariants.{Number as NumberAtom, Literal as LiteralAtom, Variable as VariableAtom}

mutual
  pub data Tree : Type 0 where
    number : Value → Tree
    literal : List ℕ → Tree
    -- a variable: the URI and the local part of its name, and its slot, once it is bound
    variable : List ℕ → List ℕ → Option Slot → Tree
    call : Function → Trees → Tree
    -- so many minus signs before an operand
    negative : ℕ → Tree → Tree
    -- the operators, and the operands around them
    chain : List Operator → Trees → Tree
    -- an expression in round brackets
    group : Tree → Tree
    -- what a path begins at: the context node, or the root of its document; otherwise an expression
    here : Tree
    root : Tree
    -- a step by its axis, its node test and its predicates
    step : Axis → NodeTest → Trees → Tree
    -- the step that `//` represents, which is `descendant-or-self::node()`
    descend : Tree
    -- an expression with predicates
    filter : Tree → Trees → Tree
    -- a start, and steps from it
    path : Tree → Trees → Tree

  pub data Trees : Type 0 where
    no_trees : Trees
    first_tree : Tree → Trees → Trees

abbrev pub trees : List Tree → Trees
trees [] = no_trees
trees (e ∷ es) = first_tree e (trees es)

-- whether an expression is `.` alone (2.5)
abbrev pub is_here : Tree → Bool
is_here here = true
is_here _ = false

-- the axis, the node test and the predicates of a step (2.1)
abbrev pub step_of : Tree → Option (Axis × NodeTest × Trees)
step_of (step axis test predicates) = Some (axis, test, predicates)
step_of _ = None

-- the expression that one token is
abbrev pub atom_tree : Atom → Tree
atom_tree (NumberAtom n) = number n
atom_tree (LiteralAtom text) = literal text
atom_tree (VariableAtom uri local) = variable uri local None

-- an operand, and each further one with the operator before it
abbrev pub chained : Tree → List (Operator × Tree) → Tree
chained e [] = e
chained e (link ∷ links) = chain (link.0 ∷ map (λ l. l.0) links) (trees (e ∷ link.1 ∷ map (λ l. l.1) links))

-- a tree with predicates, if there are any
abbrev pub filtered : Tree → List Tree → Tree
filtered e [] = e
filtered e (p ∷ ps) = filter e (trees (p ∷ ps))

-- a tree with steps from it, if there are any
abbrev pub followed : Tree → List Tree → Tree
followed e [] = e
followed e (s ∷ ss) = path e (trees (s ∷ ss))
