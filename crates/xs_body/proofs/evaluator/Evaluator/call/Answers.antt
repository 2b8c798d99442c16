use Rattle.std.proofs.Common.{◌≡◌, refl, ap, rules}
use Rattle.std.proofs.lemmas.List.Elements.{All-same}
use Rattle.xs_value.specs.Conversion.{IsIn}
use Rattle.xs_body_spec.specs.Tasks.{Params}
use Rattle.xs_body.proofs.evaluator.Evaluator.call.Goals as goal

pub call_with-requires-sync-K : goal.call_with-requires-sync-K
call_with-requires-sync-K g c κs within =
    let rs = c.args.self.now.world.tree in
    let e : c.of-passed.result.values ≡ c.args.passing.values.items = ap (λ (ps : Params). ps.values) c.of-passed.ensures in
    let values = All-same (IsIn rs) c.of-passed.result.values c.args.passing.values.items e c.requires.passing.values in
    (search rules, ((refl, tt), (c.requires.holes, (c.requires.passing.node, (values, c.requires.passing.callee)))))
