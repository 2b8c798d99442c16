use Rattle.std.proofs.Common.{◌≡◌, ◌<◌, ◌≢◌, get_or, length, refl, ◌∙◌, arith, rules}
use Rattle.std.proofs.lemmas.Grind.{common_steps}
use Rattle.std.proofs.lemmas.List.{length-set, get_or-set_other}
use Rattle.xs_compile.specs.Slots.{slot_at}
use Rattle.xs_compile.specs.steps.State.{modules_of}
use Rattle.xs_xpath.specs.Binding.{bound}
use Rattle.xs_xpath.specs.Exprs.{trees_from}
use Rattle.xs_xpath.proofs.BindLemmas.{bound-all, bound-more, length-trees}
use Rattle.xs_compile.proofs.compiler.Compiler.+binding.Goals as goal

pub bind_all-loop-i-preserved : goal.bind_all-loop-i-preserved
bind_all-loop-i-preserved t c =
    let same : length c.loop-i.es.items ≡ length c.args.es.now.items = c.loop-i.invariant.1.0 in
    let within : c.loop-i.i < length c.loop-i.es.items = omega (arith, c.loop-i-test.true, c.len-i-end.ensures, c.args.es.now.ok.0) in
    let old : c.loop-i.i < length (trees_from c.args.es.now.items) = length-trees c.loop-i.i c.args.es.now.items (omega arith) in
    let is : c.index_mut.result.now ≡ get_or c.loop-i.es.items c.loop-i.i c.index_mut.result.now = first_of (cc, search rules, grind (arith, common_steps)) in (
      bound-more (bound (slot_at (modules_of c.args.self.now) (c.args.number, c.args.n)))
          (trees_from c.args.es.now.items) c.loop-i.es.items _ c.loop-i.i c.index_mut.result.now
          c.bind.new.e within old c.loop-i.invariant.0 is c.bind.ensures refl,
      (
        length-set c.loop-i.es.items c.loop-i.i c.bind.new.e ∙ same,
        λ k d h. let apart : k ≢ c.loop-i.i = λ e. absurd (omega arith) in get_or-set_other c.loop-i.es.items c.loop-i.i k c.bind.new.e d apart
            ∙ c.loop-i.invariant.1.1 k d (omega arith),
      ),
    )

pub bind_all-returns : goal.bind_all-returns
bind_all-returns t c =
    bound-all (slot_at (modules_of c.args.self.now) (c.args.number, c.args.n)) c.args.es.now.items c.loop-i.es.items c.loop-i.i
    (omega (arith, c.loop-i-test.false, c.len-i-end.ensures, c.args.es.now.ok.0)) c.loop-i.invariant.0
