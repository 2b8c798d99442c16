use Rattle.std.proofs.Common.{ap, Some, None, reverse}
use Rattle.xs_tree.specs.declared.kinds.Kind.TheVariants.{Text}
use Rattle.xs_build.proofs.OpenElementLemmas.{well_added}
use Rattle.xs_build.proofs.nodes.put_text.Goals as goal

pub returns-clause-well : goal.returns-clause-well
returns-clause-well c =
    rw c.in_ok-put_unnamed.ensures.put
    (well_added c.args.tree.now (reverse c.args.around.now) (record {
      kind = Text;
      name = None;
      text = c.args.text.now;
      parent = Some c.innermost.result;
    }) c.requires.well (ap Some c.innermost.ensures))
