use Rattle.std.proofs.Common.{◌∙◌, sym}
use Rattle.xs_static.proofs.MeetLemmas.{on_ok}
use Rattle.xs_static.proofs.FoundLemmas.{met-element, met-other}
use Rattle.xs_static.proofs.walk.Site.meet_node.Goals as goal

pub returns-then-is_element : goal.returns-then-is_element
returns-then-is_element c =
    on_ok c.meet_element.result _ _
    (λ h. met-element c.args.self.now.number c.args.self.now.tree.now c.args.self.now.lines.now c.args.self.now.names.now c.args.n c.args.least.now.fault
    c.meet_element.new.least.fault (sym c.is_element.ensures ∙ c.if-is_element.true) h)
    c.meet_element.ensures

pub returns : goal.returns
returns c =
    met-other c.args.self.now.number c.args.self.now.tree.now c.args.self.now.lines.now c.args.self.now.names.now c.args.n c.args.least.now.fault
    (sym c.is_element.ensures ∙ c.if-is_element.false)
