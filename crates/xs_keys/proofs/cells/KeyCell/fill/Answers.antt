use Rattle.std.proofs.Common.{◌≡◌, ◌+◌, ◌/◌, ◌∷◌, ◌++◌, ◌∙◌, ℕ, List, Result, ap, arith, length, refl, subst, sym}
use Rattle.std.specs.declared.alloc.AllocError.{AllocError}
use Rattle.std.specs.Vec.Iter.{into_iter_items}
use Rattle.xs_keys.specs.declared.pairs.Gathered.{Gathered}
use Rattle.xs_keys.specs.steps.Cells.{nodes_kept}
use Rattle.xs_keys.specs.steps.Pairs.{bound, decls_in}
use Rattle.xs_keys.proofs.GatherLemmas.{bound-first}
use Rattle.xs_keys.proofs.RunLemmas.{IsAdded, all-added, all-taken, fewer-left, none-added, one-taken, run-added, run-there}
use Rattle.xs_keys.proofs.cells.KeyCell.fill.Goals as goal

pub loop-outcome-init : goal.loop-outcome-init
loop-outcome-init g c =
    let rs = c.args.tree.now in
    let size = c.size_of-size.result in
    let given = c.into_iter-outcome-iterator.ensures.into_iter_gives in
    record {
      whole = refl;
      left =
          let items = ap (λ (xs : List (Result Gathered AllocError)). length xs) given.0 in
          omega (arith, items, given.1, c.in_ok-runs.runs.ok.0);
      name = refl;
      added =
          none-added rs (decls_in c.args.members.now) (bound size (length rs) 0) (nodes_kept c.args.self.now) c.args.self.now.fault
          (bound-first size (length rs)) c.requires.nodes c.requires.fault;
    }

pub loop-outcome-preserved : goal.loop-outcome-preserved
loop-outcome-preserved g c =
    let rs = c.args.tree.now in
    let ds = decls_in c.args.members.now in
    let l = c.loop-outcome in
    let x = c.in-Some.outcome in
    let run = c.in_ok-run.run' in
    let left = into_iter_items c.next.new.self in
    let steps : into_iter_items l.outcome-iterator ≡ x ∷ left = c.in-Some.ensures.steps.0 in
    let here : l.yielded ++ x ∷ left ≡ c.in_ok-runs.runs.items =
    ap (λ (r : List (Result Gathered AllocError)). l.yielded ++ r) (sym steps) ∙ l.invariant.whole ∙ c.into_iter-outcome-iterator.ensures.into_iter_gives.0 in
    record {
      whole = one-taken l.yielded x (into_iter_items l.outcome-iterator) left _ steps l.invariant.whole;
      left = fewer-left x (into_iter_items l.outcome-iterator) left _ _ steps l.invariant.left c.in-Some.ensures.steps.1;
      name = c.in_ok-add_run.ensures.name ∙ l.invariant.name;
      added =
          run-added rs ds c.size_of-size.result l.yielded x run (nodes_kept l.self) (nodes_kept c.add_run.new.self) l.self.fault
          c.add_run.new.self.fault l.invariant.added
          (run-there rs ds c.size_of-size.result _ c.in_ok-runs.runs.items l.yielded left x run c.in_ok-runs.ensures.long c.in_ok-runs.ensures.runs here
          c.in_ok-run.was)
          c.in_ok-add_run.ensures.nodes c.in_ok-add_run.ensures.fault;
    }

pub returns-clause-cell : goal.returns-clause-cell
returns-clause-cell g c =
    let rs = c.args.tree.now in
    let ds = decls_in c.args.members.now in
    let l = c.loop-outcome in
    let size = c.size_of-size.result in
    let count = c.len-2.result / size + 1 in
    let all : l.yielded ≡ c.in_ok-runs.runs.items =
    all-taken l.yielded (into_iter_items l.outcome-iterator) _ _ l.invariant.whole l.invariant.left c.in-None.ensures.steps.0
    ∙ c.into_iter-outcome-iterator.ensures.into_iter_gives.0 in
    let long : length l.yielded ≡ count = ap (λ (xs : List (Result Gathered AllocError)). length xs) all ∙ c.in_ok-runs.ensures.long in
    all-added rs ds size count l.self c.size_of-size.ensures.positive (ap (λ n. n / size + 1) c.len-2.ensures.count)
    (subst (λ (k : ℕ). IsAdded rs ds (bound size (length rs) k) (nodes_kept l.self) l.self.fault) long l.invariant.added)
