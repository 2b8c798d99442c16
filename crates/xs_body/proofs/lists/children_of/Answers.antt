use Rattle.std.proofs.Common.{◌≡◌, ◌<◌, ℕ, List, length, sym, subst, rules}
use Rattle.std.specs.List.{All}
use Rattle.xs_tree.specs.Record.{children}
use Rattle.xs_value.specs.NodeSet.{IsNodeList}
use Rattle.xs_body.proofs.ChildLemmas.{children-inside, children-order}
use Rattle.xs_body.proofs.lists.children_of.Goals as goal

pub returns-clause-inside : goal.returns-clause-inside
returns-clause-inside c =
    let e : c.loop-child.found.items ≡ children c.args.tree.now c.args.node = search rules in
    subst (λ (xs : List ℕ). All (λ k. k < length c.args.tree.now) xs) (sym e) (children-inside c.args.tree.now c.args.node)

pub returns-clause-order : goal.returns-clause-order
returns-clause-order c =
    let e : c.loop-child.found.items ≡ children c.args.tree.now c.args.node = search rules in
    subst IsNodeList (sym e) (children-order c.args.tree.now c.args.node)
