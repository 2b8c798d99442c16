use Rattle.std.proofs.Common.{◌≡◌, subst, sym, All, List}
use Rattle.std.proofs.lemmas.Result.{IfOk-weaker}
use Rattle.xs_compile.proofs.ChildLemmas.{all-parts}
use Rattle.xs_structure.specs.Parts.{children_with}
use Rattle.xs_compile.specs.steps.Tags.{part_test}
use Rattle.xs_compile.specs.steps.State.{IsPartOf, modules_of}
use Rattle.xs_structure.specs.Modules.{Place}
use Rattle.xs_compile.proofs.compiler.Compiler.parts.Goals as goal

pub returns-clause-parts : goal.returns-clause-parts
returns-clause-parts c =
    let self = c.args.self.now in
    let inside : Place = (c.args.number, c.args.n) in
    IfOk-weaker c.parts_at.result (λ places. places.items ≡ children_with (part_test c.args.part) (modules_of self) inside)
    (λ places. All (IsPartOf self inside c.args.part) places.items)
    (λ places h. subst (λ (qs : List Place). All (IsPartOf self inside c.args.part) qs) (sym h)
    (all-parts self inside c.args.part c.requires.ready c.requires.shown))
    c.parts_at.ensures
