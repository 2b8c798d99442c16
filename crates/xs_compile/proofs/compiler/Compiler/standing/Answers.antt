use Rattle.std.proofs.Common.{◌∙◌, ap, arith, length, get_or, List}
use Rattle.std.proofs.lemmas.List.FromFn.{get_or-map-range_with_len, length-map-range_with_len}
use Rattle.xs_compile.proofs.StateLemmas.{standings-in}
use Rattle.xs_structure.specs.declared.standing.Standing.{Standing}
use Rattle.xs_structure.specs.Standing.{standing_of}
use Rattle.xs_compile.specs.steps.State.{modules_of}
use Rattle.xs_structure.specs.Modules.{records_at}
use Rattle.xs_compile.proofs.compiler.Compiler.standing.Goals as goal

pub index-requires-2 : goal.index-requires-2
index-requires-2 c =
    let ms = modules_of c.args.self.now in
    let rs = records_at ms c.args.number in
    let tag = standings-in (λ table. table.items) ms c.args.self.now.standings.items c.requires.state.standings c.args.number c.requires.at.«module»
    c.index.result.now
    c.index.ensures in
    let size = ap length tag ∙ length-map-range_with_len (standing_of rs) 0 (length rs) in
    omega (arith, size, c.requires.at.node, c.place.ensures, c.index.result.now.ok.0)

pub returns : goal.returns
returns c =
    let ms = modules_of c.args.self.now in
    let rs = records_at ms c.args.number in
    let tag = standings-in (λ table. table.items) ms c.args.self.now.standings.items c.requires.state.standings c.args.number c.requires.at.«module»
    c.index.result.now
    c.index.ensures in
    c.index-2.ensures
    ∙ ap (λ (ss : List Standing). get_or ss c.place.result c.index-2.result.now) tag
    ∙ get_or-map-range_with_len (standing_of rs) 0 (length rs) c.place.result c.args.n c.index-2.result.now
    (omega (arith, c.place.ensures, c.requires.at.node)) (omega (arith, c.place.ensures))
