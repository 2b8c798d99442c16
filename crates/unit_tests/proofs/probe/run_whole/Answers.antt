use Rattle.std.proofs.Common.{◌≡◌, ◌≤◌, ◌+◌, None, ◌∙◌, ap, refl, arith}
use Rattle.unit_tests.specs.Probe.{tiny}
use Rattle.xs_record.specs.Piece.{held}
use Rattle.xs_record.specs.Store.{limited_to}
use Rattle.xs_trace.proofs.KeptLemmas.{need-comes-from-need}
use Rattle.unit_tests.proofs.ProbeLemmas.{tiny-needs, whole-is}
use Rattle.unit_tests.proofs.probe.run_whole.Goals as goal

pub finish-requires : goal.finish-requires
finish-requires c =
    let from = c.new-recorder.result in
    let to = c.evaluate-reported.new.recorder in
    record {
      settled = need-comes-from-need _ (tiny c.args.site c.args.event None)
          (limited_to from.room from.left (held from.total.most from.total.last from.left) from.parts.store)
          (limited_to to.room to.left (held to.total.most to.total.last to.left) to.parts.store) c.evaluate-reported.result
          (tiny-needs c.args.site c.args.event None) c.evaluate-reported.ensures.reported;
    }

pub returns : goal.returns
returns c =
    let e = c.evaluate-reported.ensures.kept ∙ c.new-recorder.ensures.kept in
    let o : c.finish.result.total.others ≡ 0 = c.finish.ensures.kept ∙ ap (λ z. z.total) e ∙ c.new-total.ensures.kept in
    let le : c.finish.result.total.last ≤ c.finish.result.total.added = omega (arith, o, c.finish.result.total.exact) in
    record {
      outcome = whole-is c.finish.result.outcome (tiny c.args.site c.args.event None) c.args.limits _ _ c.evaluate-reported.result _ _ _
          _ _ _ _ e refl c.new-total.ensures.most (ap (λ n. n + c.args.limits.ticks) c.new-total.ensures.added) le c.new-recorder.ensures.begins
          c.evaluate-reported.ensures.reported c.finish.ensures.piece;
    }
