use Rattle.std.proofs.Common.{◌∙◌, ap, subst, sym}
use Rattle.xs_result_lines.specs.steps.Pending.{IsAlone, begun}
use Rattle.xs_result_lines.proofs.PendingLemmas.{begun_more, started, started_alone}
use Rattle.xs_result_lines.proofs.open_tag.OpenTag.begin.Goals as goal

pub invariant_of-self-2 : goal.invariant_of-self-2
invariant_of-self-2 c =
    subst IsAlone (sym (begun_more c.self.inside.events.items c.push.new.self.items c.args.event c.in_ok-push.ensures.items))
    (started_alone (begun c.self.inside.events.items) c.args.event.now c.args.name.now c.self.invariant (c.self.view_is ∙ c.requires.empty) c.requires.start)

pub returns : goal.returns
returns c =
    ap (λ s. s.tag) (begun_more c.self.inside.events.items c.push.new.self.items c.args.event c.in_ok-push.ensures.items
    ∙ started (begun c.self.inside.events.items) c.args.event.now c.args.name.now c.self.invariant (c.self.view_is ∙ c.requires.empty) c.requires.start)
