use Rattle.std.proofs.Common.{None, refl, ap}
use Rattle.xs_record.specs.Segment.{items_of}
use Rattle.xs_record.specs.Outcome.{part_blocks}
use Rattle.xs_record.specs.declared.outcome.Part.{Part}
use Rattle.xs_record.proofs.BlockLemmas.{finish-blocks, parts-back, refused-back}
use Rattle.xs_record.proofs.SectionLemmas.{finish-marks, finish-parts, finish-tasks}
use Rattle.xs_record.proofs.parts.Parts.finish.Goals as goal

pub returns-in-Err-clause-free : goal.returns-in-Err-clause-free
returns-in-Err-clause-free g c =
    refused-back c.self.inside.before.items c.take_last.new.before.items c.self.inside.marks.blocks c.take_last.new.marks.blocks _ c.into_pool.result
    c.args.self.blocks c.reclaim.result c.in-Err.ensures.before (ap (λ v. v.blocks) c.self.view_is) c.in-Err.ensures.refused c.into_log.ensures.blocks
    c.into_pool.ensures.blocks c.reclaim.ensures.blocks

pub returns-in-Ok-append-clause-marks : goal.returns-in-Ok-append-clause-marks
returns-in-Ok-append-clause-marks g c =
    let p : Part = record { items = c.in-Ok.items; hole = None } in
    finish-marks c.self.inside.before.items c.take_last.new.before.items c.push_reserved.new.self.items p c.self.inside.tasks.items
    c.self.inside.marks.store c.args.self.store c.in-Ok.ensures.before c.push_reserved.ensures.items c.self.invariant.0 c.self.invariant.1 refl
    (ap (λ v. v.store) c.self.view_is) c.in-Ok.ensures.items

pub returns-in-Ok-append-clause-parts : goal.returns-in-Ok-append-clause-parts
returns-in-Ok-append-clause-parts g c =
    let p : Part = record { items = c.in-Ok.items; hole = None } in
    finish-parts c.self.inside.before.items c.take_last.new.before.items c.push_reserved.new.self.items p c.in-Ok.ensures.before
    c.push_reserved.ensures.items c.self.invariant.0 refl c.in-Ok.ensures.packed

pub returns-in-Ok-append-clause-tasks : goal.returns-in-Ok-append-clause-tasks
returns-in-Ok-append-clause-tasks g c =
    finish-tasks c.args.children.now.items c.append.new.self.items c.self.inside.before.items (items_of c.in-Ok.items) c.self.inside.tasks.items
    c.self.inside.marks.store c.args.self.store c.in-Ok-append.ensures.items c.self.invariant.1 (ap (λ v. v.store) c.self.view_is) c.in-Ok.ensures.items

pub returns-in-Ok-append-clause-blocks : goal.returns-in-Ok-append-clause-blocks
returns-in-Ok-append-clause-blocks g c =
    let p : Part = record { items = c.in-Ok.items; hole = None } in
    finish-blocks c.self.inside.before.items c.take_last.new.before.items c.push_reserved.new.self.items p c.self.inside.marks.blocks
    c.take_last.new.marks.blocks _ c.into_pool-pool.result c.args.self.blocks c.in-Ok.ensures.before c.push_reserved.ensures.items
    (ap (λ v. v.blocks) c.self.view_is) c.in-Ok.ensures.blocks c.into_log-2.ensures.blocks c.into_pool-pool.ensures.blocks

pub returns-clause-free : goal.returns-clause-free
returns-clause-free g c =
    let p : Part = record { items = c.in-Ok.items; hole = None } in
    parts-back (part_blocks c.push_reserved.new.self.items) c.args.self.blocks c.into_pool-pool.result c.reclaim-in-Err-append.result
    (finish-blocks c.self.inside.before.items c.take_last.new.before.items c.push_reserved.new.self.items p c.self.inside.marks.blocks
    c.take_last.new.marks.blocks _ c.into_pool-pool.result c.args.self.blocks c.in-Ok.ensures.before c.push_reserved.ensures.items
    (ap (λ v. v.blocks) c.self.view_is) c.in-Ok.ensures.blocks c.into_log-2.ensures.blocks c.into_pool-pool.ensures.blocks)
    c.reclaim-in-Err-append.ensures.blocks
