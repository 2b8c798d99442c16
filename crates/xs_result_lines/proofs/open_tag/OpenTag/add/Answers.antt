use Rattle.std.proofs.Common.{◌≡◌, ◌∙◌, ap, arith, length, subst, sym, vec_len}
use Rattle.xs_result_lines.specs.steps.Pending.{IsAlone, begun}
use Rattle.xs_result_lines.proofs.PendingLemmas.{added_here, added_none, alone_more, begun_more, begun_none, no_items}
use Rattle.xs_result_lines.proofs.open_tag.OpenTag.add.Goals as goal

pub returns-then-is_empty : goal.returns-then-is_empty
returns-then-is_empty c =
    let events = c.self.inside.events in
    let count : vec_len events ≡ length events.items = omega (arith, events.ok.0) in
    let none = no_items events.items (vec_len events) count (sym c.is_empty.ensures ∙ c.if-is_empty.true) in
    added_none c.args.self.now c.args.event.now c.requires.inside (sym c.self.view_is ∙ ap (λ s. s.tag) (begun_none events.items none))

pub invariant_of-self-2 : goal.invariant_of-self-2
invariant_of-self-2 c =
    subst IsAlone (sym (begun_more c.self.inside.events.items c.push.new.self.items c.args.event c.in_ok-push.ensures.items))
    (alone_more (begun c.self.inside.events.items) c.args.event.now c.requires.inside c.self.invariant)

pub returns : goal.returns
returns c =
    ap (λ s. s.tag) (begun_more c.self.inside.events.items c.push.new.self.items c.args.event c.in_ok-push.ensures.items)
    ∙ added_here (begun c.self.inside.events.items) c.args.self.now c.args.event.now c.requires.inside c.self.view_is
