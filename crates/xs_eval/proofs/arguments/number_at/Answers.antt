use Rattle.std.proofs.Common.{◌≡◌, [], Ok, ap, refl, unwrap_or, ◌∙◌}
use Rattle.std.proofs.lemmas.Option.{slice_get_past}
use Rattle.xs_num.specs.Text.{number_after_sign, number_from, number_in, number_within_space}
use Rattle.xs_num.specs.declared.number.Number.TheVariants.{NaN}
use Rattle.xs_value.specs.Conversion.{number_value}
use Rattle.xs_value.specs.declared.value.Value.TheVariants.{Chars}
use Rattle.xs_eval_spec.specs.Results.{numeric}
use Rattle.xs_eval.proofs.arguments.number_at.Goals as goal

-- no characters spell NaN
nothing_spelled : number_in [] ≡ Ok NaN
unfolding number_in number_within_space number_after_sign number_from
nothing_spelled = refl

pub returns-in-None : goal.returns-in-None
returns-in-None c = record {
  number = ap (λ o. numeric (number_value c.args.tree.now (unwrap_or o (Chars []))))
      (slice_get_past c.args.values.now c.args.place c.in-None.ensures.lookup.3) ∙ ap (λ r. numeric r) nothing_spelled;
}
