-- The grammar as rules, one for each production of XPath 1.0 (its number in brackets). Tokens are said to spell a tree.
-- `keep` is what is kept of an expression between brackets: the expression itself. (Of a text that is nested too deep
-- nothing is kept, since only whether it is spelled is asked.)
use Rattle.std.specs.Prelude.{◌≡◌, ℕ, zero, suc, List, [], ◌∷◌, ◌++◌}
use Rattle.xs_tree.specs.declared.axes.Axis.{Axis}
use Rattle.xs_tree.specs.declared.axes.Axis.TheVariants.{Child}
use Rattle.xs_xpath.specs.declared.name.Function.{Function}
use Rattle.xs_xpath.specs.declared.name.NodeTest.{NodeTest}
use Rattle.xs_xpath.specs.declared.name.NodeTest.TheVariants.{Node}
use Rattle.xs_xpath.specs.declared.token.Operator.{Operator}
use Rattle.xs_xpath.specs.declared.token.Atom.{Atom}
use Rattle.xs_xpath.specs.Quotients.{called}
use Rattle.xs_xpath.specs.Tree.{Tree, negative, group, here, root, step, descend, path, trees, atom_tree, chained, filtered, followed}
use Rattle.xs_parser.specs.declared.token.Token.{Token}
use Rattle.xs_parser.specs.declared.token.Token.TheVariants.{Round, Call, EndRound, Square, EndSquare, Comma, Slash, Slashes, Negate, Infix, OnAxis, Test, Dots, Atom as AtomToken}
use Rattle.xs_parser.specs.Tokens.{rank, expr_level}

-- so many minus signs in front
abbrev pub minus_signs : ℕ → List Token → List Token
minus_signs zero ts = ts
minus_signs (suc n) ts = Negate ∷ minus_signs n ts

mutual
  -- The expressions of a level: 0 PathExpr, 1 UnionExpr, 2 UnaryExpr, 3 MultiplicativeExpr, 4 AdditiveExpr,
  -- 5 RelationalExpr, 6 EqualityExpr, 7 AndExpr, 8 OrExpr, which is Expr [14].
  pub data Spells (keep : Tree → Tree) : ℕ → List Token → Tree → Type 0 where
    -- [18] [21] [22] [23] [24] [25] [26], and [27] without a sign: operands of the level below, with operators of this one
    -- between them
    operands : (n : ℕ) (ts us : List Token) (e : Tree) (links : List (Operator × Tree)) → Spells keep n ts e → Links keep n us links
        → Spells keep (suc n) (ts ++ us) (chained e links)
    -- [27] with signs
    signs : (m : ℕ) (ts : List Token) (e : Tree) → Spells keep 1 ts e → Spells keep 2 (minus_signs (suc m) ts) (negative (suc m) e)
    -- [1] [3] a relative location path
    relative : (ts : List Token) (steps : List Tree) → Steps keep ts steps → Spells keep 0 ts (path here (trees steps))
    -- [2] an absolute one; [10] `//` in front
    only_root : Spells keep 0 (Slash ∷ []) root
    absolute : (ts : List Token) (steps : List Tree) → Steps keep ts steps → Spells keep 0 (Slash ∷ ts) (path root (trees steps))
    anywhere : (ts : List Token) (steps : List Tree) → Steps keep ts steps → Spells keep 0 (Slashes ∷ ts) (path root (trees (descend ∷ steps)))
    -- [19] [20] a primary expression, its predicates, and steps after it
    primary : (ts us : List Token) (e : Tree) (preds steps : List Tree) → Primary keep ts e → Behind keep us preds steps
        → Spells keep 0 (ts ++ us) (followed (filtered e preds) steps)

  -- operators of the level n + 1, each with an operand of the level n after it
  pub data Links (keep : Tree → Tree) : ℕ → List Token → List (Operator × Tree) → Type 0 where
    no_links : (n : ℕ) → Links keep n [] []
    link : (n : ℕ) (op : Operator) (ts us : List Token) (e : Tree) (links : List (Operator × Tree)) → rank op ≡ suc n → Spells keep n ts e
        → Links keep n us links → Links keep n (Infix op ∷ ts ++ us) ((op, e) ∷ links)

  -- [4] a step and those after it: [5] [7] a node test, with the child axis where none is written [13]; [12] `.` and `..`
  pub data Steps (keep : Tree → Tree) : List Token → List Tree → Type 0 where
    child_step : (which : NodeTest) (ts : List Token) (preds steps : List Tree) → Behind keep ts preds steps
        → Steps keep (Test which ∷ ts) (step Child which (trees preds) ∷ steps)
    axis_step : (axis : Axis) (which : NodeTest) (ts : List Token) (preds steps : List Tree) → Behind keep ts preds steps
        → Steps keep (OnAxis axis ∷ Test which ∷ ts) (step axis which (trees preds) ∷ steps)
    dotted_step : (axis : Axis) (ts : List Token) (steps : List Tree) → Behind keep ts [] steps
        → Steps keep (Dots axis ∷ ts) (step axis Node (trees []) ∷ steps)

  -- [8] predicates, and [3] [11] steps after them
  pub data Behind (keep : Tree → Tree) : List Token → List Tree → List Tree → Type 0 where
    nothing : Behind keep [] [] []
    a_predicate : (ts us : List Token) (e : Tree) (preds steps : List Tree) → Spells keep expr_level ts e → Behind keep us preds steps
        → Behind keep (Square ∷ ts ++ EndSquare ∷ us) (keep e ∷ preds) steps
    next_step : (ts : List Token) (steps : List Tree) → Steps keep ts steps → Behind keep (Slash ∷ ts) [] steps
    next_anywhere : (ts : List Token) (steps : List Tree) → Steps keep ts steps → Behind keep (Slashes ∷ ts) [] (descend ∷ steps)

  -- [15]
  pub data Primary (keep : Tree → Tree) : List Token → Tree → Type 0 where
    one_token : (atom : Atom) → Primary keep (AtomToken atom ∷ []) (atom_tree atom)
    in_brackets : (ts : List Token) (e : Tree) → Spells keep expr_level ts e → Primary keep (Round ∷ ts ++ EndRound ∷ []) (group (keep e))
    -- [16] [17]
    no_arguments : (function : Function) → Primary keep (Call function ∷ EndRound ∷ []) (called function [])
    arguments : (function : Function) (ts us : List Token) (es : List Tree) (e : Tree) → Commas keep ts es → Spells keep expr_level us e
        → Primary keep (Call function ∷ ts ++ us ++ EndRound ∷ []) (called function (es ++ keep e ∷ []))

  -- arguments, each with a comma after it
  pub data Commas (keep : Tree → Tree) : List Token → List Tree → Type 0 where
    no_commas : Commas keep [] []
    argument : (ts us : List Token) (es : List Tree) (e : Tree) → Commas keep ts es → Spells keep expr_level us e
        → Commas keep (ts ++ us ++ Comma ∷ []) (es ++ keep e ∷ [])

abbrev pub same : Tree → Tree
same e = e

-- tokens spell an expression [14]
abbrev pub SpellsExpr : List Token → Tree → Type 0
SpellsExpr = Spells same expr_level
