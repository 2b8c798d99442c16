use Rattle.std.proofs.Common.{◌≡◌, ◌∙◌, List, Option, ap, subst, sym}
use Rattle.std.specs.List.{All}
use Rattle.xs_static.specs.Circles.{Declared, IsFirstCircle}
use Rattle.xs_static.specs.Declarations.{declared_all}
use Rattle.xs_modules.specs.Results.{modules_data}
use Rattle.xs_static.specs.declared.fault.StaticFault.{StaticFault}
use Rattle.xs_static.specs.Faults.{IsLeastOf, IsStaticFault}
use Rattle.xs_structure.specs.Modules.{Place}
use Rattle.xs_static.specs.steps.Circles.{declarations_of}
use Rattle.xs_structure.specs.Places.{IsIn}
use Rattle.xs_static.proofs.CircleLemmas.{circle-law}
use Rattle.xs_static.proofs.sets.first_circle.Goals as goal

pub returns : goal.returns
returns c =
    let ms = modules_data c.args.modules.now in
    let same = ap declared_all c.deref.ensures.value ∙ c.in_ok-declarations.ensures ∙ ap (declarations_of ms) c.requires.all in
    let P : List Declared → Type 0 = λ ds. IsFirstCircle ds c.in_ok-place.place in
    let Inside : List Place → Type 0 = λ ps. All (IsIn ms) ps in
    let Least : Option StaticFault → Type 0 = λ fault. IsLeastOf (λ (f : StaticFault). IsStaticFault ms f × (f.number ≡ 44)) fault in
    subst Least (sym c.circle_at.ensures)
    (circle-law ms c.in_ok-place.place (subst Inside c.requires.all c.requires.inside) (subst P same c.in_ok-place.ensures.first))
