use Rattle.std.proofs.Common.{reverse}
use Rattle.xs_build.specs.Nodes.{element}
use Rattle.xs_build.specs.steps.Names.{full_name}
use Rattle.xs_build.proofs.OpenElementLemmas.{alike_behind}
use Rattle.xs_build.proofs.nodes.put_element.Goals as goal

pub copy_spaces-requires-clause-alike : goal.copy_spaces-requires-clause-alike
copy_spaces-requires-clause-alike c =
    alike_behind c.args.tree.now c.put_named.new.tree (element (full_name c.args.tree.now c.args.name) c.innermost-parent.result)
    (reverse c.args.around.now) c.innermost-parent.result c.args.scope.now
    (c.requires.same c.if-is_same.true) c.requires.well c.innermost-parent.ensures c.in_ok-node.ensures.put
