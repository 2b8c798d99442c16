use mir.Syntax.{w64}
use mir.Val.{SFits}
use Rattle.std.proofs.Common.{ap, sym, ◌∙◌, ◌≡◌, rules}
use Rattle.std.proofs.lemmas.Int.{to_z-of_z}
use Rattle.std.specs.Option.{option_to_list}
use Rattle.xs_num.specs.declared.number.Number.TheVariants.{NaN, Whole}
use Rattle.xs_eval.specs.steps.Positions.{node_at, picked}
use Rattle.xs_eval.proofs.PositionLemmas.{node_is_picked, none_is_picked}
use Rattle.xs_eval.proofs.predicates.node_at.Goals as goal

pub returns-in-Whole : goal.returns-in-Whole
returns-in-Whole c =
    let is : c.args.number ≡ Whole c.in-Whole.position = sym c.get.ensures.value ∙ c.in-Whole.is in
    let fits : SFits w64 c.in-Whole.position = search rules in
    ap option_to_list (c.node_at_whole.ensures ∙ ap (λ z. node_at z c.args.nodes.now) (to_z-of_z w64 c.in-Whole.position fits))
    ∙ node_is_picked c.in-Whole.position c.args.nodes.now
    ∙ ap (λ n. picked n 1 c.args.nodes.now) (sym is)

pub returns-in-NaN : goal.returns-in-NaN
returns-in-NaN c =
    let is : c.args.number ≡ NaN = sym c.get.ensures.value ∙ c.in-NaN.is in
    none_is_picked c.args.nodes.now ∙ ap (λ n. picked n 1 c.args.nodes.now) (sym is)
