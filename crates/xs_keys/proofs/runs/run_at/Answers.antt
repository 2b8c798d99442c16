use Rattle.std.proofs.Common.{◌∙◌, ℕ, ap, arith, length, subst, sym}
use Rattle.xs_keys.specs.steps.Pairs.{IsBetween, bound, decls_in}
use Rattle.xs_keys.proofs.RunLemmas.{node-gathered, none-gathered}
use Rattle.xs_keys.proofs.runs.run_at.Goals as goal

pub loop-place-init : goal.loop-place-init
loop-place-init c =
    let rs = c.args.tree.now in
    let ds = decls_in c.args.members.now in
    let start = bound c.args.size (length rs) c.args.i in
    subst (λ (k : ℕ). IsBetween rs ds start k c.new-gathered.result)
    (sym (c.bound-place.ensures ∙ ap (λ (n : ℕ). bound c.args.size n c.args.i) c.len-count.ensures.count))
    (none-gathered rs ds start c.new-gathered.result c.new-gathered.ensures.pairs c.new-gathered.ensures.fault)

pub loop-place-preserved : goal.loop-place-preserved
loop-place-preserved c =
    let l = c.loop-place in
    node-gathered c.args.tree.now (decls_in c.args.members.now) _ l.place c.at.result l.gathered c.add_node.new.self (omega arith) c.at.ensures
    l.invariant c.in_ok-add_node.ensures.pairs c.in_ok-add_node.ensures.fault
