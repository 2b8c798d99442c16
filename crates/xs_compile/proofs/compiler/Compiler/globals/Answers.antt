use Rattle.std.proofs.Common.{◌∙◌, ◌+◌, filter, subst, sym, take}
use Rattle.std.specs.List.{AllZip}
use Rattle.xs_compile.proofs.DeclaredLemmas.{declared-item, no-more, one-more}
use Rattle.xs_compile.specs.Declarations.{IsGlobal}
use Rattle.xs_compile.specs.steps.State.{modules_of, source_of}
use Rattle.xs_compile.specs.Counted.{is_global}
use Rattle.xs_compile.proofs.compiler.Compiler.globals.Goals as goal

pub is_global-requires-clause-at : goal.is_global-requires-clause-at
is_global-requires-clause-at c =
    (declared-item c.args.self.now c.requires.state c.args.declared.now c.requires.all c.loop-place.place-index c.place-item.result c.loop-place-test.true
    c.place-item.is).within

pub global-requires-clause-ready : goal.global-requires-clause-ready
global-requires-clause-ready c =
    declared-item c.args.self.now c.requires.state c.args.declared.now c.requires.all c.loop-place.place-index c.place-item.result c.loop-place-test.true
    c.place-item.is

-- one declaration more
pub loop-place-preserved : goal.loop-place-preserved
loop-place-preserved c =
    let stands = IsGlobal (source_of c.args.self.now) in
    let test = is_global (modules_of c.args.self.now) in
    let declared = c.args.declared.now in
    let i = c.loop-place.place-index in
    subst (λ found. AllZip stands (filter test (take (i + 1) declared)) found) (sym c.in_ok-push.ensures.items)
    (one-more stands test declared i c.place-item.result c.loop-place.globals.items c.in_ok-global.global c.loop-place-test.true c.place-item.is
    c.loop-place.invariant
    (sym c.is_global.ensures ∙ c.if-not-is_global.false) c.in_ok-global.ensures)

pub loop-place-preserved-then-not-is_global : goal.loop-place-preserved-then-not-is_global
loop-place-preserved-then-not-is_global c =
    no-more (IsGlobal (source_of c.args.self.now)) (is_global (modules_of c.args.self.now)) c.args.declared.now c.loop-place.place-index c.place-item.result
    c.loop-place.globals.items c.loop-place-test.true c.place-item.is c.loop-place.invariant (sym c.is_global.ensures ∙ c.if-not-is_global.true)
