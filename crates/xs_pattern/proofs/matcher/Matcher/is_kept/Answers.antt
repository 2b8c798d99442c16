use Rattle.std.proofs.Common.{ℕ, ◌+◌, ◌==◌, ◌&&◌, arith, ap, length, ◌∙◌}
use Rattle.xs_eval_spec.specs.Evaluation.{run_of}
use Rattle.xs_pattern_spec.specs.Predicates.{holds}
use Rattle.xs_pattern.proofs.KeptLemmas.{among-end, among-found, among-on}
use Rattle.xs_pattern.proofs.matcher.Matcher.is_kept.Goals as goal

pub returns-then-branch : goal.returns-then-branch
returns-then-branch g c =
    let ctx = c.args.context.now in
    let m = run_of (g.K.KeyFinder.tables c.args.self.now.keys.now) c.args.predicate.now in
    let ns = c.args.nodes.now in
    let x = c.other-item.result in
    record {
      kept =
          among-found (holds ctx m (length ns)) ns c.args.node c.loop-other.other-index x _ c.in_ok-is_kept_at.field-0 c.loop-other.invariant.whole
          (omega arith) c.other-item.is
          (c.in_ok-is_kept_at.ensures.kept
          ∙ ap (λ (s : ℕ). (x == c.args.node) && holds ctx m s (c.loop-other.position + 1, x)) c.count_of-size.ensures
          ∙ ap (λ (j : ℕ). (x == c.args.node) && holds ctx m (length ns) (j + 1, x)) c.loop-other.invariant.place) c.if-branch.true;
    }

pub loop-other-preserved : goal.loop-other-preserved
loop-other-preserved g c =
    let ctx = c.args.context.now in
    let m = run_of (g.K.KeyFinder.tables c.args.self.now.keys.now) c.args.predicate.now in
    let ns = c.args.nodes.now in
    let x = c.other-item.result in
    record {
      whole =
          among-on (holds ctx m (length ns)) ns c.args.node c.loop-other.other-index x _ c.in_ok-is_kept_at.field-0 c.loop-other.invariant.whole
          (omega arith) c.other-item.is
          (c.in_ok-is_kept_at.ensures.kept
          ∙ ap (λ (s : ℕ). (x == c.args.node) && holds ctx m s (c.loop-other.position + 1, x)) c.count_of-size.ensures
          ∙ ap (λ (j : ℕ). (x == c.args.node) && holds ctx m (length ns) (j + 1, x)) c.loop-other.invariant.place) c.if-branch.false;
      place = ap (λ (j : ℕ). j + 1) c.loop-other.invariant.place;
    }

pub returns : goal.returns
returns g c = record {
  kept =
      among-end (holds c.args.context.now (run_of (g.K.KeyFinder.tables c.args.self.now.keys.now) c.args.predicate.now) (length c.args.nodes.now))
      c.args.nodes.now
      c.args.node c.loop-other.other-index _ c.loop-other.invariant.whole (omega arith);
}
