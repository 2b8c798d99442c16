use Rattle.std.proofs.Common.{◌≡◌, subst, sym, All, List}
use Rattle.std.proofs.lemmas.Result.{IfOk-weaker}
use Rattle.xs_compile.proofs.ChildLemmas.{all-body}
use Rattle.xs_structure.specs.Parts.{body_at}
use Rattle.xs_compile.specs.steps.State.{IsInBody, modules_of}
use Rattle.xs_structure.specs.Modules.{Place}
use Rattle.xs_compile.proofs.compiler.Compiler.body_places.Goals as goal

pub returns-clause-body : goal.returns-clause-body
returns-clause-body c =
    let self = c.args.self.now in
    let inside : Place = (c.args.number, c.args.n) in
    IfOk-weaker c.body_at.result (λ places. places.items ≡ body_at (modules_of self) inside)
    (λ places. All (IsInBody self inside) places.items)
    (λ places h. subst (λ (qs : List Place). All (IsInBody self inside) qs) (sym h) (all-body self inside c.requires.ready c.requires.content))
    c.body_at.ensures
