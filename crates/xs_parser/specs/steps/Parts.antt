-- What the parts and paths of the code represent, and what its loops make of the parts that are left.
use Rattle.std.specs.Prelude.{ℕ, suc, List, Vec, [], ◌∷◌, ◌++◌, Option, map, reverse, if◌then◌else◌}
use Rattle.std.specs.declared.alloc.Global.{Global}
use Rattle.xs_xpath.specs.declared.expr.Expr.{Expr}
use Rattle.xs_xpath.specs.declared.token.Operator.{Operator}
use Rattle.xs_xpath.specs.Exprs.{tree_from, trees_from}
use Rattle.xs_xpath.specs.Tree.{Tree, here, chain, trees}
use Rattle.xs_parser.specs.declared.part.Part.{Part as Given}
use Rattle.xs_parser.specs.declared.part.Part.TheVariants.{Plain, Whole, Predicate}
use Rattle.xs_parser.specs.declared.path.Ahead.{Ahead as GivenAhead}
use Rattle.xs_parser.specs.declared.path.Ahead.TheVariants.{Tail, Tested, Stepped, Complete}
use Rattle.xs_parser.specs.Reading.{Part, plain, whole, predicate, Ahead, tail, tested, stepped, complete, pieces, both, links_of, is_minus}

abbrev pub part_of : Given → Part
part_of (Plain t) = plain t
part_of (Whole e) = whole (tree_from e)
part_of (Predicate e) = predicate (tree_from e)

abbrev pub parts_of : List Given → List Part
parts_of = map part_of

-- the last of a list of the code is the first of the list that it represents
abbrev pub ahead_of : GivenAhead → Ahead
ahead_of (Tail preds steps) = tail (trees_from (reverse preds.items)) (trees_from (reverse steps.items))
ahead_of (Tested test preds steps) = tested test (trees_from (reverse preds.items)) (trees_from (reverse steps.items))
ahead_of (Stepped first steps) = stepped (tree_from first) (trees_from (reverse steps.items))
ahead_of (Complete e) = complete (tree_from e)

abbrev pub tail_of : Vec Expr Global × Vec Expr Global → List Tree × List Tree
tail_of t = (trees_from (reverse t.0.items), trees_from (reverse t.1.items))

-- operands with the operators between them, of which there may be none
abbrev pub gathered : List Operator → List Tree → Tree
gathered ops [] = here
gathered ops (e ∷ []) = e
gathered ops (e ∷ f ∷ es) = chain ops (trees (e ∷ f ∷ es))

-- what the parts that are left give, where operators and the operands before them were found, and parts after the last one
unfoldable pub resumed : (List Part → Option Tree) → ℕ → List Operator → List Tree → List Part → List Part → Option Tree
resumed p r ops es front rest =
    both (λ e links. gathered (ops ++ map (λ l. l.0) links) (es ++ e ∷ map (λ l. l.1) links)) (p (front ++ (pieces r rest).0)) (links_of p (pieces r rest).1)

-- the minus signs in front
abbrev pub signs_in : List Part → ℕ
signs_in [] = 0
signs_in (part ∷ parts) = if is_minus part then suc (signs_in parts) else 0
