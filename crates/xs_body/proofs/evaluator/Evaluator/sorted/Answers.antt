use Rattle.std.proofs.Common.{ℕ, ◌<◌, length, Ok, Vec, ap}
use Rattle.std.proofs.lemmas.List.Elements.{All-same}
use Rattle.std.proofs.lemmas.List.Sorted.{All-permutation}
use Rattle.std.proofs.lemmas.Result.{err_from_is_err_and}
use Rattle.std.specs.declared.alloc.Global.{Global}
use Rattle.xs_body.specs.declared.lists.NodeList.{NodeList}
use Rattle.xs_body.specs.steps.Frames.{Evaluation, last}
use Rattle.xs_body.specs.steps.Lists.{nodes_in}
use Rattle.xs_body.proofs.SortLemmas.{set-inside, sort-ends, sort-reported, unsorted-reported}
use Rattle.xs_body.proofs.evaluator.Evaluator.sorted.Goals as goal

pub returns-in-None-clause-reported : goal.returns-in-None-clause-reported
returns-in-None-clause-reported g c =
    unsorted-reported c.args.self.now.world c.args.sorts.now c.args.scope.focus (last c.args.scope.seen c.args.self.now.slots) (nodes_in c.args.nodes)
    c.args.site (g.T.Tally.state c.args.tally.now) c.in-None.ensures.cases

pub sort_by_keys-requires-clause-inside : goal.sort_by_keys-requires-clause-inside
sort_by_keys-requires-clause-inside g c κs within =
    set-inside c.args.self.now.world c.args.scope.focus (last c.args.scope.seen c.args.self.now.slots) c.in-Some.first.now.select.scope
    c.context-context.result c.in_ok-set-in-Some.set (nodes_in c.args.nodes) c.context-context.ensures.is c.in_ok-set-in-Some.ensures c.requires.nodes

pub returns-in_err-ordered-in-Some-clause-reported : goal.returns-in_err-ordered-in-Some-clause-reported
returns-in_err-ordered-in-Some-clause-reported g c =
    let p = err_from_is_err_and c.from_residual-in_err-ordered-in-Some.result c.from_residual-in_err-ordered-in-Some.ensures.1 in
    sort-ends (λ (v : Vec ℕ Global). v.items) (λ (l : NodeList). nodes_in l) c.args.self.now.world c.args.sorts.now c.args.scope.focus
    (last c.args.scope.seen c.args.self.now.slots) c.in-Some.first.now.select.scope _ c.context-context.result c.in_ok-set-in-Some.set (nodes_in c.args.nodes)
    c.args.site (g.T.Tally.state c.args.tally.now) (g.T.Tally.state c.sort_by_keys.new.tally) c.from_residual-in_err-ordered-in-Some.result _ _
    (ap (λ (e : Evaluation). e.world.keys) c.self.view_is) c.context-context.ensures.is c.in_ok-set-in-Some.ensures p.1 p.2
    c.in_err-ordered-in-Some.ensures.reported

pub returns-in_ok-ordered-in-Some-clause-reported : goal.returns-in_ok-ordered-in-Some-clause-reported
returns-in_ok-ordered-in-Some-clause-reported g c =
    sort-reported (λ (v : Vec ℕ Global). v.items) c.args.self.now.world c.args.sorts.now c.args.scope.focus
    (last c.args.scope.seen c.args.self.now.slots) c.in-Some.first.now.select.scope _ c.context-context.result c.in_ok-set-in-Some.set (nodes_in c.args.nodes)
    c.args.site (g.T.Tally.state c.args.tally.now) (g.T.Tally.state c.sort_by_keys.new.tally) (Ok c.in_ok-ordered-in-Some.ordered)
    (ap (λ (e : Evaluation). e.world.keys) c.self.view_is) c.context-context.ensures.is c.in_ok-set-in-Some.ensures
    c.in_ok-ordered-in-Some.ensures.reported

pub returns-in_ok-ordered-in-Some-clause-inside : goal.returns-in_ok-ordered-in-Some-clause-inside
returns-in_ok-ordered-in-Some-clause-inside g c =
    let P : ℕ → Type 0 = λ n. n < length c.args.self.now.world.tree in
    All-permutation P c.in_ok-set-in-Some.set c.in_ok-ordered-in-Some.ordered.items c.in_ok-ordered-in-Some.ensures.permutation
    (All-same P c.in_ok-set-in-Some.set (nodes_in c.args.nodes) c.in_ok-set-in-Some.ensures c.requires.nodes)
