use Rattle.std.proofs.Common.{◌∙◌, ◌++◌, ◌∷◌, [], ap, append_assoc, filter, map, sym, ℕ, List}
use Rattle.std.specs.Prelude.{not}
use Rattle.xs_compile.proofs.MakingLemmas.{pair-next, pair-none, spaces-more}
use Rattle.xs_structure.specs.Excluded.{is_left_out}
use Rattle.xs_compile.specs.steps.State.{modules_of}
use Rattle.xs_elements.specs.Nodes.{pair_at}
use Rattle.xs_structure.specs.Modules.{records_at}
use Rattle.xs_tree.proofs.WalkLemmas.{passing-passes, passing-within}
use Rattle.xs_tree.specs.Record.{at, is_namespace}
use Rattle.xs_compile.proofs.compiler.Compiler.spaces.Goals as goal

pub push_space-requires-clause-inside : goal.push_space-requires-clause-inside
push_space-requires-clause-inside c =
    let rs = records_at (modules_of c.args.self.now) c.args.number in
    passing-within (is_namespace rs c.args.n) rs c.loop-space.yielded _ c.in-Some.space
    (sym c.loop-space.invariant.2 ∙ ap (λ (xs : List ℕ). c.loop-space.yielded ++ xs) c.in-Some.ensures.steps)

pub push_space-requires-clause-space : goal.push_space-requires-clause-space
push_space-requires-clause-space c =
    let rs = records_at (modules_of c.args.self.now) c.args.number in
    passing-passes (is_namespace rs c.args.n) rs c.loop-space.yielded _ c.in-Some.space
    (sym c.loop-space.invariant.2 ∙ ap (λ (xs : List ℕ). c.loop-space.yielded ++ xs) c.in-Some.ensures.steps)

pub loop-space-preserved : goal.loop-space-preserved
loop-space-preserved c =
    let rs = records_at (modules_of c.args.self.now) c.args.number in
    let n = c.args.n in (
      tt,
      tt,
      append_assoc c.loop-space.yielded (c.in-Some.space ∷ []) c.next.new.self
          ∙ ap (λ (xs : List ℕ). c.loop-space.yielded ++ xs) (sym c.in-Some.ensures.steps) ∙ c.loop-space.invariant.2,
      spaces-more (λ s. is_left_out rs n (at rs s).text) (pair_at rs) c.in-Some.space c.next.new.self c.loop-space.spaces.items c.push_space.new.spaces.items _
          c.in_ok-push_space-in-Some-split_first.ensures
          (ap (λ (ks : List ℕ). c.loop-space.spaces.items
          ++ map (pair_at rs) (filter (λ s. not (is_left_out rs n (at rs s).text)) ks)) (sym c.in-Some.ensures.steps)
          ∙ c.loop-space.invariant.3),
      (pair-next (pair_at rs) c.in-Some.space c.next.new.self _ c.in-Some-split_first.pair.now c.loop-space.rest.now c.in-Some-split_first.others.now
          c.loop-space.invariant.4 c.in-Some.ensures.steps c.in-Some-split_first.ensures.cases.0).1,
    )

pub push_space-requires-clause-pair : goal.push_space-requires-clause-pair
push_space-requires-clause-pair c =
    let rs = records_at (modules_of c.args.self.now) c.args.number in
    (pair-next (pair_at rs) c.in-Some.space c.next.new.self _ c.in-Some-split_first.pair.now c.loop-space.rest.now c.in-Some-split_first.others.now
    c.loop-space.invariant.4 c.in-Some.ensures.steps c.in-Some-split_first.ensures.cases.0).0

pub unreachable-requires : goal.unreachable-requires
unreachable-requires c =
    let rs = records_at (modules_of c.args.self.now) c.args.number in
    absurd (pair-none (pair_at rs) c.in-Some.space c.next.new.self _ c.loop-space.rest.now c.loop-space.invariant.4 c.in-Some.ensures.steps
    c.in-None-split_first.ensures.cases)
