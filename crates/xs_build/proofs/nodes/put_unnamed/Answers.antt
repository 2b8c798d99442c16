use Rattle.std.proofs.Common.{arith}
use Rattle.xs_tree.specs.Record.{at}
use Rattle.xs_build.proofs.NameLemmas.{bears_none, root_unnamed}
use Rattle.xs_build.proofs.nodes.put_unnamed.Goals as goal

pub put_like-requires-clause-found : goal.put_like-requires-clause-found
put_like-requires-clause-found c = omega (arith, c.root.ensures, c.len-count.ensures.tree.some)

pub put_like-requires-clause-borne : goal.put_like-requires-clause-borne
put_like-requires-clause-borne c =
    bears_none c.args.kind (at c.args.tree.now c.root.result).name c.args.text.now c.requires.unnamed
    (root_unnamed c.args.tree.now c.root.result c.len-count.ensures.tree c.root.ensures)

pub returns : goal.returns
returns c = record {
  put = rw (root_unnamed c.args.tree.now c.root.result c.len-count.ensures.tree c.root.ensures) at c.in_ok-put_like.ensures.put;
}
