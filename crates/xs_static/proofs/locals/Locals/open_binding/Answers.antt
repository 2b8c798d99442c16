use Rattle.std.proofs.Common.{◌≡◌, ◌∙◌, ◌+◌, ap, sym, subst, arith, List, ◌∷◌, reverse}
use Rattle.std.specs.Prelude.{◌||◌}
use Rattle.xs_static.specs.declared.locals.OpenBinding.{OpenBinding}
use Rattle.xs_structure.specs.InForce.{in_force_at}
use Rattle.xs_static.specs.steps.Locals.{AreNested, comes}
use Rattle.xs_static.proofs.LocalsLemmas.{new-binding, nested-more, stack-pushed}
use Rattle.xs_static.proofs.locals.Locals.open_binding.Goals as goal

pub returns-in_ok-push-in-Some : goal.returns-in_ok-push-in-Some
returns-in_ok-push-in-Some c =
    let rs = c.args.tree.now in
    let n = c.args.n in
    let items = c.args.self.now.open.items in
    let os = reverse items in
    let o : OpenBinding = record { name = c.args.name; end = c.subtree_end-end.result; reach = c.subtree_end-reach.result } in
    let stack : reverse c.push.new.self.items ≡ o ∷ os = ap reverse c.in_ok-push-in-Some.ensures.items ∙ stack-pushed items o in
    record {
      bound = λ uri local k from inside.
          ap (λ (os : List OpenBinding). in_force_at c.args.self.now.in_force uri local k || comes os uri local k) stack
          ∙ new-binding rs n c.in-Some.parent k o os uri local (in_force_at c.args.self.now.in_force uri local k) c.subtree_end-end.ensures.tree
          c.requires.inside
          (sym c.in-Some.ensures.parent) c.subtree_end-end.ensures.end c.subtree_end-reach.ensures.end c.requires.name from inside
          (c.requires.locals.bound uri local k (omega (arith, from)) inside);
      nested = subst (AreNested rs (n + 1)) (sym stack) (nested-more rs n o os c.subtree_end-end.ensures.end c.requires.passed c.requires.locals.nested);
    }
