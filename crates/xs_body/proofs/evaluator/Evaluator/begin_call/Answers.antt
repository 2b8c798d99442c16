use Rattle.std.proofs.Common.{[], ap, refl, rules}
use Rattle.std.proofs.lemmas.List.Elements.{All-nil, All-same}
use Rattle.xs_body_spec.specs.Tasks.{Params}
use Rattle.xs_value.specs.Conversion.{IsIn}
use Rattle.xs_body.proofs.evaluator.Evaluator.begin_call.Goals as goal

pub call_with-requires-sync-K : goal.call_with-requires-sync-K
call_with-requires-sync-K g c κs within =
    let rs = c.args.self.now.world.tree in
    let none = All-same (IsIn rs) c.none.result.values [] (ap (λ (ps : Params). ps.values) c.none.ensures) (All-nil (IsIn rs)) in
    (search rules, ((refl, tt), (c.requires.holes, (c.requires.node, (none, c.requires.callee)))))
