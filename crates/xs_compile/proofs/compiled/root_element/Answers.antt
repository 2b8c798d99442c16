use Rattle.std.proofs.Common.{◌∙◌, ◌++◌, ap, cond, find, sym, Bool, List, Option, Some, ℕ}
use Rattle.xs_compile.proofs.RootLemmas.{root_element_is}
use Rattle.xs_tree.proofs.WalkLemmas.{child-within}
use Rattle.xs_tree.specs.Kinds.{is_element_kind}
use Rattle.xs_tree.specs.Record.{at}
use Rattle.xs_compile.proofs.compiled.root_element.Goals as goal

-- the child that comes next is in the tree
pub is_element-requires : goal.is_element-requires
is_element-requires c =
    child-within c.args.tree.now 0 c.loop-child.yielded _ c.in-Some.child
    (sym c.loop-child.invariant.2 ∙ ap (λ (xs : List ℕ). c.loop-child.yielded ++ xs) c.in-Some.ensures.steps)

pub returns-then-is_element-clause-found : goal.returns-then-is_element-clause-found
returns-then-is_element-clause-found c =
    let test : ℕ → Bool = λ k. is_element_kind (at c.args.tree.now k).kind in
    let first : ℕ → Option ℕ = λ k. Some k in
    sym (ap (λ (b : Bool). cond b (first c.in-Some.child) (find test c.next.new.self)) (sym c.is_element.ensures ∙ c.if-is_element.true))
    ∙ ap (find test) (sym c.in-Some.ensures.steps) ∙ c.loop-child.invariant.3 ∙ root_element_is c.args.tree.now

pub returns-clause-found : goal.returns-clause-found
returns-clause-found c =
    let test : ℕ → Bool = λ k. is_element_kind (at c.args.tree.now k).kind in
    ap (find test) (sym c.in-None.ensures.steps.0) ∙ c.loop-child.invariant.3 ∙ root_element_is c.args.tree.now
