use Rattle.std.proofs.Common.{◌≡◌, sym, ap, ◌∙◌, take, drop, Some, ◌+ℤ◌, arith}
use Rattle.std.proofs.lemmas.Int.{ints}
use Rattle.xs_num.specs.declared.number.Number.TheVariants.{Whole, NaN}
use Rattle.xs_strings.specs.Positions.{substring_of, places_below}
use Rattle.xs_strings.proofs.WindowLemmas.{substring-from, substring-between, substring-nan_count}
use Rattle.xs_strings.proofs.positions.places_from.Goals as goal

pub returns-in-None : goal.returns-in-None
returns-in-None c =
    let start : c.places_below-start.result ≡ places_below c.args.first = c.places_below-start.ensures ∙ ap places_below (omega (arith, ints)) in
    λ cs short. ap (λ k. drop k (take c.args.most cs)) start ∙ substring-from c.args.first c.args.most cs short
    ∙ ap (substring_of cs (Whole c.args.first)) (sym c.in-None.is)

pub returns-in-Whole : goal.returns-in-Whole
returns-in-Whole c =
    let is : c.args.count ≡ Some (Whole c.in-Whole.count) = c.in-Some.is ∙ ap Some (sym c.get.ensures.value ∙ c.in-Whole.is) in
    let start : c.places_below-start.result ≡ places_below c.args.first = c.places_below-start.ensures ∙ ap places_below (omega (arith, ints)) in
    let end : c.places_below.result ≡ places_below (c.args.first +ℤ c.in-Whole.count) = c.places_below.ensures
    ∙ ap places_below (omega (arith, ints, c.in-Whole.ensures.in_range)) in
    λ cs short. ap (λ k. drop k (take c.places_below.result cs)) start
    ∙ ap (λ k. drop (places_below c.args.first) (take k cs)) end
    ∙ substring-between c.args.first c.in-Whole.count cs
    ∙ ap (substring_of cs (Whole c.args.first)) (sym is)

pub returns-in-NaN : goal.returns-in-NaN
returns-in-NaN c =
    let is : c.args.count ≡ Some NaN = c.in-Some.is ∙ ap Some (sym c.get.ensures.value ∙ c.in-NaN.is) in
    λ cs short. sym (ap (substring_of cs (Whole c.args.first)) is ∙ substring-nan_count c.args.first cs)
