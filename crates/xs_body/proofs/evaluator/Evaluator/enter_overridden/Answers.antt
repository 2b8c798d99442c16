use Rattle.std.proofs.Common.{◌<◌, [], length, refl, sym, ap, subst, rules}
use Rattle.std.proofs.lemmas.List.Elements.{All-nil, All-same}
use Rattle.xs_value.specs.Conversion.{IsIn}
use Rattle.xs_body_spec.specs.Tasks.{Params}
use Rattle.xs_body_spec.specs.declared.focus.Focus.{Focus}
use Rattle.xs_body.proofs.evaluator.Evaluator.enter_overridden.Goals as goal

pub begin_rule-requires-sync-K : goal.begin_rule-requires-sync-K
begin_rule-requires-sync-K g c κs within =
    let rs = c.args.self.now.world.tree in
    let here = subst (λ (f : Focus). f.node < length rs) (sym c.in_template-focus.ensures) c.requires.node in
    let none = All-same (IsIn rs) c.none.result.values [] (ap (λ (ps : Params). ps.values) c.none.ensures) (All-nil (IsIn rs)) in
    (search rules, ((refl, tt), (c.requires.holes, (here, none))))
