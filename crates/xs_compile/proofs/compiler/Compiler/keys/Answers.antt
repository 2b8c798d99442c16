use Rattle.std.proofs.Common.{◌∙◌, ◌+◌, filter, subst, sym, take}
use Rattle.std.specs.List.{AllZip}
use Rattle.xs_compile.proofs.DeclaredLemmas.{declared-item, one-more}
use Rattle.xs_compile.specs.Declarations.{IsKey, is_key}
use Rattle.xs_compile.specs.steps.State.{modules_of, source_of}
use Rattle.xs_structure.specs.Parts.{tag_at}
use Rattle.xs_structure.specs.Modules.{Place}
use Rattle.xs_compile.proofs.compiler.Compiler.keys.Goals as goal

pub is_key-requires : goal.is_key-requires
is_key-requires c =
    (declared-item c.args.self.now c.requires.state c.args.declared.now c.requires.all c.loop-place.place-index c.place-item.result c.loop-place-test.true
    c.place-item.is).within

pub key-requires-clause-ready : goal.key-requires-clause-ready
key-requires-clause-ready c =
    declared-item c.args.self.now c.requires.state c.args.declared.now c.requires.all c.loop-place.place-index c.place-item.result c.loop-place-test.true
    c.place-item.is

-- one declaration more
pub loop-place-preserved : goal.loop-place-preserved
loop-place-preserved c =
    let stands = IsKey (source_of c.args.self.now) in
    let test = λ (p : Place). is_key (tag_at (modules_of c.args.self.now) p) in
    let declared = c.args.declared.now in
    let i = c.loop-place.place-index in
    subst (λ found. AllZip stands (filter test (take (i + 1) declared)) found) (sym c.in_ok-push.ensures.items)
    (one-more stands test declared i c.place-item.result c.loop-place.keys.items c.in_ok-key.key c.loop-place-test.true c.place-item.is c.loop-place.invariant
    (sym c.is_key.ensures ∙ c.if-not-is_key.false) c.in_ok-key.ensures)
