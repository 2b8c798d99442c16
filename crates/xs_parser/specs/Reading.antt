-- The grammar as a function. Tokens are read from the left. What stands in a pair of brackets becomes one part of what is
-- around it, so that the parts between two brackets are a flat list, which is cut at its operators, the weakest first.
use Rattle.std.specs.Prelude.{ℕ, zero, suc, ◌==◌, Bool, true, false, if◌then◌else◌, List, [], ◌∷◌, ◌++◌, Option, Some, None, option_map, option_and_then}
use Rattle.xs_tree.specs.declared.axes.Axis.{Axis}
use Rattle.xs_tree.specs.declared.axes.Axis.TheVariants.{Child}
use Rattle.xs_xpath.specs.declared.name.Function.{Function}
use Rattle.xs_xpath.specs.declared.name.NodeTest.{NodeTest}
use Rattle.xs_xpath.specs.declared.name.NodeTest.TheVariants.{Node}
use Rattle.xs_xpath.specs.declared.token.Operator.{Operator}
use Rattle.xs_xpath.specs.Quotients.{called}
use Rattle.xs_xpath.specs.Tree.{Tree, negative, group, here, root, step, descend, path, trees, atom_tree, chained, filtered, followed}
use Rattle.xs_parser.specs.declared.token.Token.{Token}
use Rattle.xs_parser.specs.declared.token.Token.TheVariants.{Round, Call, EndRound, Square, EndSquare, Comma, Slash, Slashes, Negate, Infix, OnAxis, Test, Dots, Atom}
use Rattle.xs_parser.specs.Tokens.{rank, expr_level}
use Rattle.xs_parser.specs.Grammar.{same}

-- a part of an expression: a token, a whole primary expression, or a predicate
pub data Part : Type 0 where
  plain : Token → Part
  whole : Tree → Part
  predicate : Tree → Part

-- ---- paths, which are read from the right
-- what stands at the right: predicates and steps; a node test with such; a step and steps after it; a whole path
pub data Ahead : Type 0 where
  tail : List Tree → List Tree → Ahead
  tested : NodeTest → List Tree → List Tree → Ahead
  stepped : Tree → List Tree → Ahead
  complete : Tree → Ahead

-- the steps that stand there, of which the first has the child axis where it has none yet
abbrev pub steps_in : Ahead → Option (List Tree)
steps_in (tail preds steps) = None
steps_in (tested which preds steps) = Some (step Child which (trees preds) ∷ steps)
steps_in (stepped first steps) = Some (first ∷ steps)
steps_in (complete e) = None

-- the predicates and steps that stand there, if nothing stands before them
abbrev pub tail_in : Ahead → Option (List Tree × List Tree)
tail_in (tail preds steps) = Some (preds, steps)
tail_in _ = None

abbrev pub with_predicate : Tree → Ahead → Option Ahead
with_predicate e ahead = option_map (λ t. tail (e ∷ t.0) t.1) (tail_in ahead)

abbrev pub with_whole : Tree → Ahead → Option Ahead
with_whole e ahead = option_map (λ t. complete (followed (filtered e t.0) t.1)) (tail_in ahead)

abbrev pub with_test : NodeTest → Ahead → Option Ahead
with_test which ahead = option_map (λ t. tested which t.0 t.1) (tail_in ahead)

abbrev pub with_axis : Axis → Ahead → Option Ahead
with_axis axis (tested which preds steps) = Some (stepped (step axis which (trees preds)) steps)
with_axis axis _ = None

abbrev pub with_dots : Axis → Ahead → Option Ahead
with_dots axis (tail [] steps) = Some (stepped (step axis Node (trees [])) steps)
with_dots axis _ = None

abbrev pub behind_slash : Ahead → Option Ahead
behind_slash ahead = option_map (λ steps. tail [] steps) (steps_in ahead)

-- a slash with nothing after it is the root
abbrev pub with_slash : Ahead → Option Ahead
with_slash (tail [] []) = Some (complete root)
with_slash ahead = behind_slash ahead

abbrev pub with_slashes : Ahead → Option Ahead
with_slashes ahead = option_map (λ steps. tail [] (descend ∷ steps)) (steps_in ahead)

-- what stands there with a part more in front
abbrev pub front : Part → Ahead → Option Ahead
front (whole e) ahead = with_whole e ahead
front (predicate e) ahead = with_predicate e ahead
front (plain (Test which)) ahead = with_test which ahead
front (plain (OnAxis axis)) ahead = with_axis axis ahead
front (plain (Dots axis)) ahead = with_dots axis ahead
front (plain Slash) ahead = with_slash ahead
front (plain Slashes) ahead = with_slashes ahead
front (plain _) ahead = None

abbrev pub backwards : List Part → Ahead → Option Ahead
backwards [] ahead = Some ahead
backwards (part ∷ parts) ahead = option_and_then (front part) (backwards parts ahead)

-- the path, once nothing is left in front
abbrev pub path_from : Ahead → Option Tree
path_from (tail [] (s ∷ steps)) = Some (path root (trees (s ∷ steps)))
path_from (tail preds steps) = None
path_from (tested which preds steps) = Some (path here (trees (step Child which (trees preds) ∷ steps)))
path_from (stepped first steps) = Some (path here (trees (first ∷ steps)))
path_from (complete e) = Some e

abbrev pub path_of : List Part → Option Tree
path_of parts = option_and_then path_from (backwards parts (tail [] []))

-- ---- operators
-- the operator that a part is, if it has the rank
abbrev pub cut : ℕ → Part → Option Operator
cut r (plain (Infix op)) = if rank op == r then Some op else None
cut r _ = None

abbrev pub placed : Option Operator → Part → List Part × List (Operator × List Part) → List Part × List (Operator × List Part)
placed None part pieces = (part ∷ pieces.0, pieces.1)
placed (Some op) part pieces = ([], (op, pieces.0) ∷ pieces.1)

-- the parts before the first operator of a rank, and each such operator with the parts after it
abbrev pub pieces : ℕ → List Part → List Part × List (Operator × List Part)
pieces r [] = ([], [])
pieces r (part ∷ parts) = placed (cut r part) part (pieces r parts)

abbrev pub both : {A B C : Type 0} → (A → B → C) → Option A → Option B → Option C
both f None b = None
both f (Some a) b = option_map (f a) b

abbrev pub links_of : (List Part → Option Tree) → List (Operator × List Part) → Option (List (Operator × Tree))
links_of p [] = Some []
links_of p (piece ∷ more) = both (λ e links. (piece.0, e) ∷ links) (p piece.1) (links_of p more)

abbrev pub joined : (List Part → Option Tree) → List Part × List (Operator × List Part) → Option Tree
joined p pieces = both chained (p pieces.0) (links_of p pieces.1)

abbrev pub is_minus : Part → Bool
is_minus (plain Negate) = true
is_minus _ = false

abbrev pub negated : ℕ → Tree → Tree
negated zero e = e
negated (suc m) e = negative (suc m) e

-- how many minus signs come first, and the tree after them
abbrev pub signed : (List Part → Option Tree) → List Part → Option (ℕ × Tree)
signed p [] = option_map (λ e. (0, e)) (p [])
signed p (part ∷ parts) = if is_minus part then option_map (λ found. (suc found.0, found.1)) (signed p parts) else option_map (λ e. (0, e)) (p (part ∷ parts))

-- only an operand of level 1 has signs
abbrev pub operand : ℕ → (List Part → Option Tree) → List Part → Option Tree
operand zero p parts = p parts
operand (suc zero) p parts = option_map (λ found. negated found.0 found.1) (signed p parts)
operand (suc (suc n)) p parts = p parts

-- the expression of a level
unfoldable pub level : ℕ → List Part → Option Tree
level zero parts = path_of parts
level (suc n) parts = joined (operand n (level n)) (pieces (suc n) parts)

-- ---- brackets
-- an open bracket, of a call with its name and the arguments before the last comma
pub data Bracket : Type 0 where
  round : Bracket
  arguments_of : Function → List Tree → Bracket
  square : Bracket

-- an open bracket and the parts before it
pub record Frame : Type 0 where
  pub bracket : Bracket
  pub before : List Part

-- the open brackets, innermost first, and the parts after the innermost
pub record State : Type 0 where
  pub frames : List Frame
  pub parts : List Part

abbrev pub state : List Frame → List Part → State
state frames parts = record { frames = frames; parts = parts }

abbrev pub frame : Bracket → List Part → Frame
frame bracket before = record { bracket = bracket; before = before }

abbrev pub opened : Bracket → State → State
opened bracket s = state (frame bracket s.parts ∷ s.frames) []

abbrev pub with_part : Part → State → State
with_part part s = state s.frames (s.parts ++ part ∷ [])

-- What follows takes from `p` what the parts between two brackets, or before the end, are.
abbrev pub all_arguments : (List Part → Option Tree) → List Tree → List Part → Option (List Tree)
all_arguments p [] [] = Some []
all_arguments p es parts = option_map (λ e. es ++ e ∷ []) (p parts)

-- what a round bracket ends
abbrev pub round_ended : (List Part → Option Tree) → Bracket → List Part → Option Part
round_ended p round parts = option_map (λ e. whole (group e)) (p parts)
round_ended p (arguments_of function es) parts = option_map (λ es. whole (called function es)) (all_arguments p es parts)
round_ended p square parts = None

-- what a square bracket ends
abbrev pub square_ended : (List Part → Option Tree) → Bracket → List Part → Option Part
square_ended p round parts = None
square_ended p (arguments_of function es) parts = None
square_ended p square parts = option_map (λ e. predicate e) (p parts)

abbrev pub ended : (Bracket → List Part → Option Part) → List Frame → List Part → Option State
ended end [] parts = None
ended end (f ∷ frames) parts = option_map (λ part. state frames (f.before ++ part ∷ [])) (end f.bracket parts)

-- one more argument before a comma
abbrev pub argued : (List Part → Option Tree) → Bracket → List Part → Option Bracket
argued p round parts = None
argued p (arguments_of function es) parts = option_map (λ e. arguments_of function (es ++ e ∷ [])) (p parts)
argued p square parts = None

abbrev pub continued : (List Part → Option Tree) → List Frame → List Part → Option State
continued p [] parts = None
continued p (f ∷ frames) parts = option_map (λ bracket. state (frame bracket f.before ∷ frames) []) (argued p f.bracket parts)

abbrev pub taken : (List Part → Option Tree) → Token → State → Option State
taken p Round s = Some (opened round s)
taken p (Call function) s = Some (opened (arguments_of function []) s)
taken p Square s = Some (opened square s)
taken p EndRound s = ended (round_ended p) s.frames s.parts
taken p EndSquare s = ended (square_ended p) s.frames s.parts
taken p Comma s = continued p s.frames s.parts
taken p (Atom atom) s = Some (with_part (whole (atom_tree atom)) s)
taken p Slash s = Some (with_part (plain Slash) s)
taken p Slashes s = Some (with_part (plain Slashes) s)
taken p Negate s = Some (with_part (plain Negate) s)
taken p (Infix op) s = Some (with_part (plain (Infix op)) s)
taken p (OnAxis axis) s = Some (with_part (plain (OnAxis axis)) s)
taken p (Test which) s = Some (with_part (plain (Test which)) s)
taken p (Dots axis) s = Some (with_part (plain (Dots axis)) s)

-- the tree, where no bracket is open
abbrev pub outcome : (List Part → Option Tree) → List Frame → List Part → Option Tree
outcome p [] parts = p parts
outcome p (f ∷ frames) parts = None

unfoldable pub read : (List Part → Option Tree) → List Token → State → Option Tree
read p [] s = outcome p s.frames s.parts
read p (t ∷ ts) s = option_and_then (read p ts) (taken p t s)

-- what is kept of the expression that parts are
abbrev pub expr : (Tree → Tree) → List Part → Option Tree
expr keep parts = option_map keep (level expr_level parts)

unfoldable pub tree_by : (Tree → Tree) → List Token → Option Tree
tree_by keep ts = read (expr keep) ts (state [] [])

-- the tree that tokens spell
abbrev pub tree_of : List Token → Option Tree
tree_of = tree_by same
