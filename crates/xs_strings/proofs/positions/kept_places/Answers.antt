use Rattle.std.proofs.Common.{◌≡◌, sym, ap, ◌∙◌}
use Rattle.xs_num.specs.declared.number.Number.TheVariants.{NaN}
use Rattle.xs_strings.specs.Positions.{substring_of}
use Rattle.xs_strings.proofs.WindowLemmas.{substring-nan_first}
use Rattle.xs_strings.proofs.positions.kept_places.Goals as goal

pub returns-in-NaN : goal.returns-in-NaN
returns-in-NaN c =
    let is : c.args.first ≡ NaN = sym c.get.ensures.value ∙ c.in-NaN.is in
    λ cs short. sym (ap (λ n. substring_of cs n c.args.count) is ∙ substring-nan_first c.args.count cs)
