use Rattle.std.proofs.Common.{◌≡◌, ℕ, ◌+◌, ◌++◌, List, arith, ap, length, subst, sym, ◌∙◌}
use Rattle.xs_eval_spec.specs.Evaluation.{run_of}
use Rattle.xs_eval_spec.specs.Nodes.{AreSome}
use Rattle.xs_pattern_spec.specs.Predicates.{holds, kept}
use Rattle.xs_pattern.proofs.KeptLemmas.{from_place, kept-end, kept-on, kept-some}
use Rattle.xs_pattern.proofs.matcher.Matcher.kept.Goals as goal

pub loop-node-preserved : goal.loop-node-preserved
loop-node-preserved g c =
    let ctx = c.args.context.now in
    let m = run_of (g.K.KeyFinder.tables c.args.self.now.keys.now) c.args.predicate.now in
    let ns = c.args.nodes.now in
    let k = c.loop-node.node-index in
    let x = c.node-item.result in
    record {
      whole =
          ap (λ (l : List ℕ). l ++ from_place (holds ctx m (length ns)) ns (k + 1)) c.in_ok-found.ensures.nodes
          ∙ kept-on (holds ctx m (length ns)) ns k x c.loop-node.found.items _ c.in_ok-is_kept.is_kept c.loop-node.invariant.whole (omega arith)
          c.node-item.is
          (c.in_ok-is_kept.ensures.holds
          ∙ ap (λ (s : ℕ). holds ctx m s (c.loop-node.position + 1, x)) c.count_of-size.ensures
          ∙ ap (λ (j : ℕ). holds ctx m (length ns) (j + 1, x)) c.loop-node.invariant.place);
      place = ap (λ (j : ℕ). j + 1) c.loop-node.invariant.place;
    }

pub returns-clause-nodes : goal.returns-clause-nodes
returns-clause-nodes g c =
    kept-end (holds c.args.context.now (run_of (g.K.KeyFinder.tables c.args.self.now.keys.now) c.args.predicate.now) (length c.args.nodes.now)) c.args.nodes.now
    c.loop-node.node-index c.loop-node.found.items _ c.loop-node.invariant.whole (omega arith)

pub returns-clause-some : goal.returns-clause-some
returns-clause-some g c =
    let ctx = c.args.context.now in
    let m = run_of (g.K.KeyFinder.tables c.args.self.now.keys.now) c.args.predicate.now in
    let ns = c.args.nodes.now in
    let e : c.loop-node.found.items ≡ kept ctx ns m =
    kept-end (holds ctx m (length ns)) ns c.loop-node.node-index c.loop-node.found.items _ c.loop-node.invariant.whole (omega arith) in
    subst (λ (l : List ℕ). AreSome ctx.tree l) (sym e) (kept-some ctx m ns c.requires.some)
