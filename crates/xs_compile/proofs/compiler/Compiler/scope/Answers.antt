use Rattle.std.proofs.Common.{◌≡◌, ◌∙◌, ap, subst, arith, get_or, length, List, [], ℕ}
use Rattle.std.proofs.lemmas.List.FromFn.{get_or-map-range_with_len, length-map-range_with_len}
use Rattle.std.specs.Arc.{arc_value}
use Rattle.std.specs.Prelude.{IfOk}
use Rattle.xs_compile.proofs.StateLemmas.{table-in}
use Rattle.xs_compile.specs.steps.State.{modules_of}
use Rattle.xs_structure.specs.Scopes.{pairs_in, scopes_in, scopes_of}
use Rattle.xs_elements.specs.Nodes.{scope_at}
use Rattle.xs_structure.specs.Modules.{records_at}
use Rattle.xs_compile.proofs.compiler.Compiler.scope.Goals as goal

pub at-requires : goal.at-requires
at-requires c =
    let ms = modules_of c.args.self.now in
    let rs = records_at ms c.args.number in
    let table = table-in scopes_of scopes_in ms c.args.self.now.scopes.items c.requires.state.scopes c.args.number c.requires.at.«module» c.index.result.now
    c.index.ensures in
    let size = ap length table ∙ length-map-range_with_len (scope_at rs) 0 (length rs) in
    omega (arith, size, c.requires.at.node)

pub returns : goal.returns
returns c =
    let ms = modules_of c.args.self.now in
    let rs = records_at ms c.args.number in
    let n = c.args.n in
    let table = table-in scopes_of scopes_in ms c.args.self.now.scopes.items c.requires.state.scopes c.args.number c.requires.at.«module» c.index.result.now
    c.index.ensures in
    let found : get_or (scopes_in c.index.result.now) n [] ≡ scope_at rs n =
    ap (λ (all : List (List (List ℕ × List ℕ))). get_or all n []) table
    ∙ get_or-map-range_with_len (scope_at rs) 0 (length rs) n n [] (omega (arith, c.requires.at.node)) (omega arith) in
    subst (λ (pairs : List (List ℕ × List ℕ)). IfOk c.at.result (λ scope. pairs_in (arc_value scope) ≡ pairs)) found c.at.ensures
