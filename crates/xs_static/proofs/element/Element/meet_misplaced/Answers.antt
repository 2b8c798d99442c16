use Rattle.std.proofs.Common.{ℕ, Bool, ap, ◌∙◌, Option}
use Rattle.xs_static.proofs.MeetLemmas.{met_all}
use Rattle.xs_static.specs.declared.fault.StaticFault.{StaticFault}
use Rattle.xs_static.specs.Placing.{has_misplaced_text, lacks_branch}
use Rattle.std.specs.Prelude.{◌||◌, get_or}
use Rattle.xs_static.specs.steps.Elements.{records_of}
use Rattle.xs_static.specs.steps.Least.{fault_where, least_of}
use Rattle.xs_static.specs.steps.Misplaced.{refused}
use Rattle.xs_static.proofs.element.Element.meet_misplaced.Goals as goal

-- the elements that are refused, and then the element itself
pub returns : goal.returns
returns c =
    let rs = records_of c.args.self.now in
    let n = c.args.self.now.node in
    let m = c.args.module in
    let lines = c.args.lines.now in
    let own = has_misplaced_text rs n || lacks_branch rs n in
    c.meet_where.ensures
    ∙ ap (λ (b : Bool). least_of c.meet_refused.new.least.fault (fault_where b m c.line_of.result 37)) c.is_misplaced.ensures
    ∙ ap (λ (line : ℕ). least_of c.meet_refused.new.least.fault (fault_where own m line 37)) c.line_of.ensures
    ∙ ap (λ (o : Option StaticFault). least_of o (fault_where own m (get_or lines n 0) 37)) c.meet_refused.ensures
    ∙ met_all m lines (refused rs n) n own c.args.least.now.fault
