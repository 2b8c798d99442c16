-- No namespace node follows one that is none, and none follows the last node.
use Rattle.std.proofs.Common.{arith, ◌≡◌, sym, ◌∙◌, false}
use Rattle.xs_tree.specs.Record.{is_namespace}
use Rattle.xs_tree.proofs.NamespaceLemmas.{namespaces-past}
use Rattle.xs_tree.proofs.WalkLemmas.{passing-end}
use Rattle.xs_tree.proofs.trees.Tree.namespace_from.Goals as goal

pub returns-then-len-place-clause-value : goal.returns-then-len-place-clause-value
returns-then-len-place-clause-value c =
    passing-end (is_namespace c.args.self.now c.args.parent) c.args.self.now c.args.from
    (omega (arith, c.if-len-place.true, c.len.ensures.count, c.place.ensures))

pub returns-then-not-is_namespace-clause-value : goal.returns-then-not-is_namespace-clause-value
returns-then-not-is_namespace-clause-value c =
    let fails : is_namespace c.args.self.now c.args.parent c.args.from ≡ false = sym c.is_namespace.ensures.value ∙ c.if-not-is_namespace.true in
    namespaces-past c.args.self.now c.args.parent c.args.from c.len.ensures.tree c.requires fails
