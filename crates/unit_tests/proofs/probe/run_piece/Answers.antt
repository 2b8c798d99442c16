use Rattle.std.proofs.Common.{Some}
use Rattle.unit_tests.specs.Probe.{tiny}
use Rattle.xs_record.specs.Piece.{held}
use Rattle.xs_record.specs.Store.{limited_to}
use Rattle.xs_trace.proofs.KeptLemmas.{need-comes-from-need}
use Rattle.unit_tests.proofs.ProbeLemmas.{tiny-needs, piece-is}
use Rattle.unit_tests.proofs.probe.run_piece.Goals as goal

pub finish-requires : goal.finish-requires
finish-requires g c =
    let from = c.args.recorder in
    let to = c.evaluate-reported.new.recorder in
    record {
      settled = need-comes-from-need _ (tiny c.args.site c.args.event (Some 7))
          (limited_to from.room from.left (held (g.T.Total.most from.total) (g.T.Total.last from.total) from.left) from.parts.store)
          (limited_to to.room to.left (held (g.T.Total.most to.total) (g.T.Total.last to.total) to.left) to.parts.store) c.evaluate-reported.result
          (tiny-needs c.args.site c.args.event (Some 7)) c.evaluate-reported.ensures.reported;
    }

pub returns : goal.returns
returns g c =
    record {
      piece = piece-is c.finish.result.outcome (tiny c.args.site c.args.event (Some 7)) _ _ c.evaluate-reported.result _ _ 0 _ _ _ _
          c.evaluate-reported.ensures.kept c.requires.begins c.evaluate-reported.ensures.reported c.finish.ensures.piece;
    }
