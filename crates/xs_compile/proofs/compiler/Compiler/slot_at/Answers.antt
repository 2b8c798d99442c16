use Rattle.std.proofs.Common.{sym, subst, arith, length, List}
use Rattle.std.proofs.lemmas.Slice.Zip.{AllZip-long}
use Rattle.xs_compile.proofs.StateLemmas.{apart-at, locals-at}
use Rattle.xs_compile.specs.steps.State.{modules_of}
use Rattle.xs_compile.specs.Locals.{AreLocals, IsApart}
use Rattle.xs_compile.specs.steps.Tables.{HasLocals}
use Rattle.xs_tree.specs.Record.{Record}
use Rattle.xs_compile.proofs.compiler.Compiler.slot_at.Goals as goal

pub index-requires : goal.index-requires
index-requires c =
    let ms = modules_of c.args.self.now in
    let locals = c.args.self.now.locals in
    let size = AllZip-long HasLocals ms locals.items c.requires.ready.state.locals in
    omega (arith, size, c.requires.ready.within.«module», locals.ok.0)

pub slot_at-requires-clause-locals : goal.slot_at-requires-clause-locals
slot_at-requires-clause-locals c =
    let ms = modules_of c.args.self.now in
    subst (λ (rs : List Record). AreLocals rs (length rs) c.index.result.now) (sym c.tree_of-tree.ensures)
    (locals-at ms c.args.self.now.locals.items c.requires.ready.state.locals c.args.number c.requires.ready.within.«module» c.index.result.now c.index.ensures)

pub slot_at-requires-clause-apart : goal.slot_at-requires-clause-apart
slot_at-requires-clause-apart c =
    subst IsApart (sym c.tree_of-tree.ensures)
    (apart-at (modules_of c.args.self.now) c.requires.ready.state.accepted c.args.number c.requires.ready.within.«module»)
