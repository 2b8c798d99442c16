use Rattle.std.proofs.Common.{◌∙◌, ap, map}
use Rattle.xs_result.specs.Building.{flushed}
use Rattle.xs_result.proofs.BuiltLemmas.{built_is}
use Rattle.xs_result.proofs.events.build.Goals as goal

pub returns : goal.returns
returns g c =
    let reported = c.in_ok-builder.ensures in
    (reported.0, reported.2, c.in_ok-fragment.ensures ∙ ap flushed reported.1 ∙ built_is (map (λ e. e.now) reported.0))
