use Rattle.std.proofs.Common.{◌≡◌, ℕ, arith, length, subst}
use Rattle.xs_compile.specs.Locals.{AreLocals}
use Rattle.xs_compile.proofs.slots.Locals.of.Goals as goal

-- all nodes were passed
pub returns : goal.returns
returns c =
    let all : c.loop-place.place ≡ length c.args.tree.now = omega arith in
    subst (λ (n : ℕ). AreLocals c.args.tree.now n c.loop-place.locals) all c.loop-place.invariant.locals
