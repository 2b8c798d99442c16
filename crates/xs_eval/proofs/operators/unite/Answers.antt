use Rattle.std.proofs.Common.{◌<◌, length}
use Rattle.std.proofs.lemmas.List.Elements.{All-same}
use Rattle.xs_value.specs.NodeSet.{union_of}
use Rattle.xs_eval_spec.proofs.InsideLemmas.{union_inside}
use Rattle.xs_eval.proofs.operators.unite.Goals as goal

pub returns-clause-inside : goal.returns-clause-inside
returns-clause-inside c =
    All-same (λ n. n < length c.args.tree.now) c.in_ok-union.field-0 (union_of c.in_ok-a.a.now c.in_ok-b.b.now) c.in_ok-union.ensures.nodes
    (union_inside c.args.tree.now c.args.left.now c.args.right.now c.in_ok-a.a.now c.in_ok-b.b.now c.requires.left c.requires.right
    c.in_ok-a.ensures.nodes c.in_ok-b.ensures.nodes)
