use Rattle.std.proofs.Common.{◌≡◌, ◌∙◌, ◌<◌, ap, sym, subst, arith, ℕ, List, length}
use Rattle.xs_static.proofs.FoundLemmas.{known-is, met-in-element}
use Rattle.xs_static.proofs.LocalsLemmas.{in_force-is}
use Rattle.xs_static.specs.steps.Elements.{known_by}
use Rattle.xs_structure.specs.InForce.{in_force_at}
use Rattle.xs_static.specs.steps.Locals.{open_in}
use Rattle.xs_elements.specs.Nodes.{scope_at}
use Rattle.xs_tree.specs.Record.{Record}
use Rattle.xs_static.proofs.walk.Site.meet_seen.Goals as goal

pub get-scope-requires-clause-inside : goal.get-scope-requires-clause-inside
get-scope-requires-clause-inside c =
    let n = c.args.element.now.node in
    subst (λ (rs : List Record). n < length rs) (ap (λ t. t.now) c.requires.same) c.requires.element.within

pub attributes_fault-requires-clause-scope : goal.attributes_fault-requires-clause-scope
attributes_fault-requires-clause-scope c =
    let n = c.args.element.now.node in
    c.get-scope.ensures ∙ ap (λ (rs : List Record). scope_at rs n) (sym (ap (λ t. t.now) c.requires.same))

pub returns : goal.returns
returns c =
    let rs = c.args.self.now.tree.now in
    let around = c.args.element.now.tree.now in
    let n = c.args.element.now.node in
    let names = c.args.self.now.names.now in
    let l = c.args.locals.now in
    let v = c.all-visible.result in
    let same : around ≡ rs = ap (λ t. t.now) c.requires.same in
    let inside : n < length rs = subst (λ r. n < length r) same c.requires.element.within in
    let force = λ (uri local : List ℕ). in_force-is rs n (open_in l) uri local (in_force_at l.in_force uri local n) inside c.requires.passed
    c.requires.locals.nested
    (c.requires.locals.bound uri local n (omega arith) inside) in
    let knows = known-is v names rs n _ (ap (λ g. g.now) c.all-visible.ensures.globals ∙ c.globals.ensures) c.all-visible.ensures.locals
    (c.all-visible.ensures.place ∙ c.place.ensures) force in
    met-in-element c.args.self.now.number rs around c.args.self.now.lines.now names n c.line-line.result c.args.least.now.fault c.meet_any.new.self.fault
    c.meet_any-2.new.self.fault c.meet_misplaced.new.least.fault c.meet_where.new.self.fault c.meet_where-2.new.self.fault c.own_fault.result
    c.in_ok-fault.fault
    c.calls_other-calls_other.result c.shadows-shadows.result (known_by v) same c.line-line.ensures c.own_fault.ensures c.in_ok-fault.ensures knows
    c.calls_other-calls_other.ensures c.shadows-shadows.ensures c.meet_any.ensures c.meet_any-2.ensures c.meet_misplaced.ensures c.meet_where.ensures
    c.meet_where-2.ensures
