-- Which expressions are patterns (XSLT 1.0, 5.2; its productions in brackets).
use Rattle.std.specs.Prelude.{◌&&◌, Bool, true, false, List, [], ◌∷◌}
use Rattle.xs_tree.specs.declared.axes.Axis.{Axis}
use Rattle.xs_tree.specs.declared.axes.Axis.TheVariants.{Child, Attribute}
use Rattle.xs_xpath.specs.declared.name.Function.{Function}
use Rattle.xs_xpath.specs.declared.name.Function.TheVariants.{Id, Key}
use Rattle.xs_xpath.specs.declared.token.Operator.{Operator}
use Rattle.xs_xpath.specs.declared.token.Operator.TheVariants.{Union}
use Rattle.xs_xpath.specs.Tree.{Tree, Trees, literal, call, chain, here, root, step, descend, path, no_trees, first_tree}

-- [6] child and attribute axes
abbrev pub is_pattern_axis : Axis → Bool
is_pattern_axis Child = true
is_pattern_axis Attribute = true
is_pattern_axis _ = false

-- [4] [5] a step, or `//` between two
abbrev pub is_pattern_step : Tree → Bool
is_pattern_step (step axis which preds) = is_pattern_axis axis
is_pattern_step descend = true
is_pattern_step _ = false

abbrev pub are_pattern_steps : Trees → Bool
are_pattern_steps no_trees = true
are_pattern_steps (first_tree e es) = is_pattern_step e && are_pattern_steps es

abbrev pub is_literal : Tree → Bool
is_literal (literal text) = true
is_literal _ = false

-- [3] `id` of a literal, `key` of two
abbrev pub is_id : Function → Bool
is_id Id = true
is_id _ = false

abbrev pub is_key : Function → Bool
is_key Key = true
is_key _ = false

abbrev pub is_id_or_key : Tree → Bool
is_id_or_key (call function (first_tree e no_trees)) = is_id function && is_literal e
is_id_or_key (call function (first_tree e (first_tree f no_trees))) = is_key function && is_literal e && is_literal f
is_id_or_key _ = false

abbrev pub is_pattern_start : Tree → Bool
is_pattern_start here = true
is_pattern_start root = true
is_pattern_start e = is_id_or_key e

-- [2]
abbrev pub is_pattern_path : Tree → Bool
is_pattern_path root = true
is_pattern_path (path start steps) = is_pattern_start start && are_pattern_steps steps
is_pattern_path e = is_id_or_key e

abbrev pub are_pattern_paths : Trees → Bool
are_pattern_paths no_trees = true
are_pattern_paths (first_tree e es) = is_pattern_path e && are_pattern_paths es

abbrev pub is_union : Operator → Bool
is_union Union = true
is_union _ = false

abbrev pub are_unions : List Operator → Bool
are_unions [] = true
are_unions (op ∷ ops) = is_union op && are_unions ops

-- [1] alternatives, each a path
abbrev pub is_pattern : Tree → Bool
is_pattern (chain ops es) = are_unions ops && are_pattern_paths es
is_pattern e = is_pattern_path e

-- the alternatives of a pattern
abbrev pub listed : Trees → List Tree
listed no_trees = []
listed (first_tree e es) = e ∷ listed es

abbrev pub alternatives : Tree → List Tree
alternatives (chain ops es) = listed es
alternatives e = e ∷ []
