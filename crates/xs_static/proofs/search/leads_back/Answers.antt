use Rattle.std.proofs.Common.{◌≡◌, List, map, sym, ap, subst, length, arith}
use Rattle.xs_elements.specs.Nodes.{Name, name_data}
use Rattle.xs_static.specs.Declarations.{declared_all}
use Rattle.xs_static.specs.steps.Search.{IsSearch}
use Rattle.xs_static.specs.steps.Uses.{left_in}
use Rattle.xs_static.proofs.SameNameLemmas.{same-true, same-false}
use Rattle.xs_static.proofs.SearchLemmas.{goes_on, found, ends, popped, no-items}
use Rattle.xs_static.proofs.search.leads_back.Goals as goal

pub returns-then-is_same : goal.returns-then-is_same
returns-then-is_same c =
    let ds = declared_all c.args.declarations.now in
    let starts = map name_data c.args.declaration.now.sets.items in
    let goal_name = name_data c.args.declaration.now.name in
    found ds starts goal_name (name_data c.in-Some.name) (left_in c.loop-name.left) (map name_data c.pop.new.self.items)
    (popped ds starts goal_name (left_in c.loop-name.left) c.loop-name.todo.items c.pop.new.self.items c.in-Some.name c.loop-name.invariant
    c.in-Some.ensures.items)
    (same-true (name_data c.in-Some.name) goal_name (sym c.if-is_same.ensures))

pub loop-name-preserved : goal.loop-name-preserved
loop-name-preserved c =
    let ds = declared_all c.args.declarations.now in
    let starts = map name_data c.args.declaration.now.sets.items in
    let goal_name = name_data c.args.declaration.now.name in
    let P : List Name → Type 0 = λ todo. IsSearch ds starts goal_name (left_in c.meet.new.left) todo in
    subst P (sym c.in_ok-meet.ensures.todo)
    (goes_on ds starts goal_name (name_data c.in-Some.name) (left_in c.loop-name.left) (left_in c.meet.new.left) (map name_data c.pop.new.self.items)
    (popped ds starts goal_name (left_in c.loop-name.left) c.loop-name.todo.items c.pop.new.self.items c.in-Some.name c.loop-name.invariant
    c.in-Some.ensures.items)
    (same-false (name_data c.in-Some.name) goal_name (sym c.if-is_same.ensures)) c.meet.ensures.left)

pub returns : goal.returns
returns c =
    let ds = declared_all c.args.declarations.now in
    let starts = map name_data c.args.declaration.now.sets.items in
    let goal_name = name_data c.args.declaration.now.name in
    let none : length c.loop-name.todo.items ≡ 0 = omega (arith, c.loop-name.todo.ok.0, c.in_default.ensures.cases.0) in
    let P : List Name → Type 0 = λ todo. IsSearch ds starts goal_name (left_in c.loop-name.left) todo in
    ends ds starts goal_name (left_in c.loop-name.left) (subst P (ap (map name_data) (no-items c.loop-name.todo.items none)) c.loop-name.invariant)
