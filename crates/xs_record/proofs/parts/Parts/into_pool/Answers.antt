use Rattle.std.proofs.Common.{◌≤◌, refl, ap, arith}
use Rattle.xs_record.proofs.BlockLemmas.{refused-back}
use Rattle.xs_record.proofs.parts.Parts.into_pool.Goals as goal

pub returns : goal.returns
returns g c =
    let h : c.self.inside.marks.blocks ≤ c.self.inside.marks.blocks = omega arith in
    record {
      blocks = refused-back c.self.inside.before.items c.self.inside.before.items c.self.inside.marks.blocks c.self.inside.marks.blocks _
          c.into_pool.result c.args.self.blocks c.reclaim.result refl (ap (λ v. v.blocks) c.self.view_is) h c.into_log.ensures.blocks
          c.into_pool.ensures.blocks c.reclaim.ensures.blocks;
    }
