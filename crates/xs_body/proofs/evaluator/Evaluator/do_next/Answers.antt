use Rattle.std.proofs.Common.{◌<◌, ◌+◌, length, drop, refl, sym, subst, rules}
use Rattle.xs_body.specs.Inside.{AreNodes}
use Rattle.xs_body.specs.declared.frames.EachLeft.{EachLeft}
use Rattle.xs_body.specs.steps.Lists.{nodes_in}
use Rattle.xs_body.proofs.ChildLemmas.{next-inside}
use Rattle.xs_body.proofs.evaluator.Evaluator.do_next.Goals as goal

pub do_at-requires-sync-K : goal.do_at-requires-sync-K
do_at-requires-sync-K g c κs within =
    let rs = c.args.self.now.world.tree in
    let ns = nodes_in c.deref.result.now.nodes in
    let i = c.deref-2.result.now.next in
    let all = subst (λ (e : EachLeft). AreNodes rs (nodes_in e.nodes)) (sym c.deref.ensures) c.requires.left.nodes in
    let here = next-inside (λ n. n < length rs) ns i c.in-Some.node (drop (i + 1) ns) c.in-Some.ensures.node all in
    (search rules, ((refl, tt), (c.requires.holes, (c.requires.left, here))))
