-- The kinds of nodes that an alternative may match, and whether it matches all nodes of its key or its kinds.
use Rattle.std.specs.Prelude.{◌&&◌, Bool, true, false, List, [], ◌∷◌, reverse}
use Rattle.std.specs.Option.{option_map_or}
use Rattle.xs_tree.specs.declared.axes.Axis.{Axis}
use Rattle.xs_tree.specs.declared.axes.Axis.TheVariants.{Child, Attribute}
use Rattle.xs_tree.specs.declared.kinds.Kind.{Kind}
use Rattle.xs_tree.specs.Kinds.{is_attribute_kind, is_child_kind, is_element_kind, is_root_kind, is_text_kind}
use Rattle.xs_xpath.specs.declared.name.NodeTest.{NodeTest}
use Rattle.xs_xpath.specs.declared.name.NodeTest.TheVariants.{Any, Uri, Name, Node, Text, Comment, Pi, Target}
use Rattle.xs_xpath.specs.Tree.{Tree, root, step}
use Rattle.xs_eval_spec.specs.Paths.{is_comment_kind, is_pi_kind}
use Rattle.xs_pattern_spec.specs.Matching.{start_of, steps_of}
use Rattle.xs_rules.specs.Ranks.{lone_test}

-- whether a node test may be true of nodes of a kind, which is the principal one of the axis or not (XPath 1.0, 2.3)
abbrev pub test_allows : (is_principal : Bool) → NodeTest → Kind → Bool
test_allows is_principal Any kind = is_principal
test_allows is_principal (Uri uri) kind = is_principal
test_allows is_principal (Name uri local) kind = is_principal
test_allows is_principal Node kind = true
test_allows is_principal Text kind = is_text_kind kind
test_allows is_principal Comment kind = is_comment_kind kind
test_allows is_principal Pi kind = is_pi_kind kind
test_allows is_principal (Target target) kind = is_pi_kind kind

-- the same on an axis, of which patterns have two
abbrev pub axis_allows : Axis → NodeTest → Kind → Bool
axis_allows Child which kind = is_child_kind kind && test_allows (is_element_kind kind) which kind
axis_allows Attribute which kind = is_attribute_kind kind && test_allows (is_attribute_kind kind) which kind
axis_allows _ which kind = false

abbrev pub step_allows : Tree → Kind → Bool
step_allows (step axis which es) kind = axis_allows axis which kind
step_allows _ kind = true

-- or of a path without steps by where it begins
abbrev pub start_allows : Tree → Kind → Bool
start_allows root kind = is_root_kind kind
start_allows _ kind = true

-- the steps with the last one first
abbrev pub path_allows : (start : Tree) → (steps : List Tree) → Kind → Bool
path_allows start [] kind = start_allows start kind
path_allows start (s ∷ before) kind = step_allows s kind

-- whether an alternative may match nodes of a kind
abbrev pub allows_kind : Tree → Kind → Bool
allows_kind e kind = path_allows (start_of e) (reverse (steps_of e)) kind

-- whether a test is true of all nodes of the key or the kinds that it asks for
abbrev pub is_decided : NodeTest → Bool
is_decided Any = true
is_decided (Uri uri) = false
is_decided (Name uri local) = true
is_decided Node = true
is_decided Text = true
is_decided Comment = true
is_decided Pi = true
is_decided (Target target) = false

-- whether an alternative is one such test
abbrev pub is_certain : Tree → Bool
is_certain e = option_map_or is_decided (lone_test e) false
