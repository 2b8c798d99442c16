-- Import precedence and priority, by which template rules and tests of elements are compared (XSLT 1.0, 2.6.2, 3.4 and 5.5).
use Rattle.std.specs.Prelude.{◌==◌, ◌||◌, ◌&&◌, Bool, nat_lt, ℤ, pos, negsuc, int_lt, List, [], ◌∷◌, Option, Some, None, if◌then◌else◌}
use Rattle.std.specs.Option.{option_and_then, option_map_or}
use Rattle.xs_pattern_spec.specs.declared.ranks.Rank.{Rank}
use Rattle.xs_xpath.specs.declared.name.NodeTest.{NodeTest}
use Rattle.xs_xpath.specs.declared.name.NodeTest.TheVariants.{Any, Uri, Name, Node, Text, Comment, Pi, Target}
use Rattle.xs_pattern_spec.specs.Matching.{start_of, steps_of}
pub use Rattle.xs_eval_spec.specs.Paths.{is_here}
use Rattle.xs_xpath.specs.Tree.{Tree, Trees, no_trees, first_tree, step_of}

-- whether the first is above the second: by a higher precedence, or at the same one by a higher priority
abbrev pub outranks : Rank → Rank → Bool
outranks r s = nat_lt s.precedence r.precedence || (s.precedence == r.precedence && int_lt s.priority r.priority)

-- Of things in the order of the stylesheet, the one of the highest rank; of several of that rank, the last.
abbrev pub or_above : {A : Type 0} → (A → Rank) → A → Option A → Option A
or_above rank x None = Some x
or_above rank x (Some y) = if outranks (rank x) (rank y) then Some x else Some y

abbrev pub highest : {A : Type 0} → (A → Rank) → List A → Option A
highest rank [] = None
highest rank (x ∷ xs) = or_above rank x (highest rank xs)

-- ---- default priorities (5.5)

-- of a node test alone: of a name, or of a processing instruction with a target, 0; of a namespace -0.25; of any other -0.5
abbrev pub test_priority : NodeTest → ℤ
test_priority (Name uri local) = pos 0
test_priority (Target target) = pos 0
test_priority (Uri uri) = negsuc 2499
test_priority Any = negsuc 4999
test_priority Node = negsuc 4999
test_priority Text = negsuc 4999
test_priority Comment = negsuc 4999
test_priority Pi = negsuc 4999

-- the node test of a step without predicates
abbrev pub bare_of : NodeTest → Trees → Option NodeTest
bare_of which no_trees = Some which
bare_of which (first_tree e es) = None

abbrev pub bare_test : Tree → Option NodeTest
bare_test e = option_and_then (λ s. bare_of s.1 s.2) (step_of e)

-- and of a path that is one such step
abbrev pub lone_step : List Tree → Option NodeTest
lone_step [] = None
lone_step (s ∷ []) = bare_test s
lone_step (s ∷ t ∷ more) = None

abbrev pub lone_test : Tree → Option NodeTest
lone_test e = if is_here (start_of e) then lone_step (steps_of e) else None

-- of any other pattern 0.5
abbrev pub default_priority : Tree → ℤ
default_priority e = option_map_or test_priority (lone_test e) (pos 5000)
