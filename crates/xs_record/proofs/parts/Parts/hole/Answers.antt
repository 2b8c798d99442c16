use Rattle.std.proofs.Common.{◌≡◌, Some, length, refl, ap, rules}
use Rattle.xs_record.specs.declared.outcome.Part.{Part}
use Rattle.xs_record.proofs.BlockLemmas.{hole-blocks}
use Rattle.xs_record.proofs.SectionLemmas.{holes-pushed, hole-reported}
use Rattle.xs_record.proofs.parts.Parts.hole.Goals as goal

pub invariant_of-self-2 : goal.invariant_of-self-2
invariant_of-self-2 g c =
    let p : Part = record { items = c.in_ok-items.items; hole = Some c.len.result } in
    let n : c.len.result ≡ length c.reserve.new.self.items = search rules in
    holes-pushed c.self.inside.before.items c.reserve.new.self.items c.push_reserved.new.self.items p c.self.inside.tasks.items
    c.reserve-2.new.self.items c.push_reserved-2.new.self.items c.args.task c.len.result c.in_ok-reserve.ensures.items c.push_reserved.ensures.items
    c.in_ok-reserve-2.ensures.items c.push_reserved-2.ensures.items c.self.invariant.0 refl n c.in_ok-items.ensures.packed c.self.invariant.1

pub returns-clause-reported : goal.returns-clause-reported
returns-clause-reported g c =
    let p : Part = record { items = c.in_ok-items.items; hole = Some c.len.result } in
    hole-reported c.self.inside.before.items c.reserve.new.self.items c.push_reserved.new.self.items p c.self.inside.tasks.items c.reserve-2.new.self.items
    c.push_reserved-2.new.self.items c.args.task c.self.inside.marks.store c.take.new.self.store c.args.self.now.store c.in_ok-reserve.ensures.items
    c.push_reserved.ensures.items c.in_ok-reserve-2.ensures.items c.push_reserved-2.ensures.items c.self.invariant.1 (ap (λ v. v.store) c.self.view_is)
    c.in_ok-items.ensures.items c.in_ok-items.ensures.rest

pub returns-clause-blocks : goal.returns-clause-blocks
returns-clause-blocks g c =
    let p : Part = record { items = c.in_ok-items.items; hole = Some c.len.result } in
    hole-blocks c.self.inside.before.items c.reserve.new.self.items c.push_reserved.new.self.items p c.self.inside.marks.blocks c.take.new.self.blocks
    c.args.self.now.blocks c.in_ok-reserve.ensures.items c.push_reserved.ensures.items (ap (λ v. v.blocks) c.self.view_is) c.in_ok-items.ensures.blocks
