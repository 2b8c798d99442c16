use Rattle.std.proofs.Common.{◌≡◌, ◌∙◌, length, arith}
use Rattle.xs_build.proofs.BindingLemmas.{with_popped, with_none}
use Rattle.xs_build.proofs.scope.bind_all.Goals as goal

pub loop-prefix-preserved : goal.loop-prefix-preserved
loop-prefix-preserved c =
    with_popped c.loop-prefix.declared.items c.pop.new.self.items c.in-Some.field-0 c.loop-prefix.bindings.entries c.bind.new.bindings.entries _
    c.in-Some.ensures.items c.in_ok-bind.ensures c.loop-prefix.invariant

pub returns : goal.returns
returns c =
    let none : length c.loop-prefix.declared.items ≡ 0 = omega (arith, c.loop-prefix.declared.ok.0, c.in_default.ensures.cases.0) in
    with_none c.loop-prefix.declared.items c.loop-prefix.bindings.entries none ∙ c.loop-prefix.invariant
