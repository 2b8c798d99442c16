use Rattle.std.proofs.Common.{◌∙◌, ◌+◌, ◌++◌, ap, append_assoc, arith, drop, sym}
use Rattle.std.specs.List.{flat_map}
use Rattle.xs_value.specs.Conversion.{text_value}
use Rattle.xs_eval_spec.proofs.StepLemmas.{from_here}
use Rattle.xs_eval.proofs.strings.concat.Goals as goal

pub loop-v-preserved : goal.loop-v-preserved
loop-v-preserved c =
    let text = text_value c.args.tree.now in
    let vs = c.args.values.now in
    let i = c.loop-v.v-index in
    let v = c.v-item.result in
    let before = c.loop-v.bytes.items in (
      ap (λ bytes. bytes ++ flat_map text (drop (i + 1) vs)) c.in_ok-text_into.ensures.appended
          ∙ append_assoc before (text v) (flat_map text (drop (i + 1) vs))
          ∙ ap (λ l. before ++ flat_map text l) (sym (from_here vs i v (omega arith) (sym c.v-item.is)))
          ∙ c.loop-v.invariant.0,
      c.in_ok-text_into.ensures.utf8 c.loop-v.invariant.1,
    )
