use Rattle.std.proofs.Common.{◌≡◌, ◌∙◌, ap, sym, subst, arith, List, ◌∷◌, false, length, reverse, ◌-◌}
use Rattle.std.specs.Prelude.{◌||◌, slice_get}
use Rattle.xs_static.specs.declared.locals.OpenBinding.{OpenBinding}
use Rattle.xs_structure.specs.InForce.{in_force_at}
use Rattle.xs_static.specs.steps.Locals.{AreNested, comes}
use Rattle.xs_static.proofs.LocalsLemmas.{passed-one, popped-last, rest-nested, stack-popped}
use Rattle.xs_static.proofs.locals.Locals.pass.Goals as goal

pub loop-last-preserved : goal.loop-last-preserved
loop-last-preserved c =
    let rs = c.args.tree.now in
    let n = c.args.n in
    let o = c.in-Some.last.now in
    let items = c.loop-last.self.open.items in
    let os = reverse c.pop.new.self.items in
    let last = popped-last items _ o c.pop.result c.loop-last.self.open.ok.0
    (c.in-Some.ensures.value ∙ ap (λ (xs : List OpenBinding). slice_get xs (length xs - 1)) c.deref.ensures.value) c.pop.ensures.value in
    let stack : reverse items ≡ o ∷ os = stack-popped items c.pop.new.self.items o c.pop.result c.pop.ensures.items last in
    record {
      bound = λ uri local k from inside.
          passed-one o os uri local k n (in_force_at c.loop-last.self.in_force uri local k) _ (omega (arith, c.if-last-place.false, c.place.ensures)) from
          (c.in_ok-enter.ensures uri local k)
          ∙ ap (λ (os : List OpenBinding). in_force_at c.loop-last.self.in_force uri local k || comes os uri local k) (sym stack)
          ∙ c.loop-last.invariant.bound uri local k from inside;
      nested = rest-nested rs n o os (subst (AreNested rs n) stack c.loop-last.invariant.nested);
    }
