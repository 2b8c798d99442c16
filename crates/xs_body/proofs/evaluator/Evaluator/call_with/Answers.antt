use Rattle.std.proofs.Common.{◌≡◌, refl, ap, subst, rules}
use Rattle.std.proofs.lemmas.List.Elements.{All-same}
use Rattle.xs_value.specs.Conversion.{IsIn}
use Rattle.xs_body.specs.Inside.{AreCallees}
use Rattle.xs_body_spec.specs.Tasks.{Params}
use Rattle.xs_body.specs.declared.frames.Callee.{Callee}
use Rattle.xs_body.proofs.evaluator.Evaluator.call_with.Goals as goal

pub apply-requires-sync-K : goal.apply-requires-sync-K
apply-requires-sync-K g c κs within =
    let rs = c.args.self.now.world.tree in
    let e : c.in_ok-passed-in-Rules.passed.values ≡ c.args.passed.values = ap (λ (ps : Params). ps.values) c.in_ok-passed-in-Rules.ensures in
    let values = All-same (IsIn rs) c.in_ok-passed-in-Rules.passed.values c.args.passed.values e c.requires.passed in
    let nodes = subst (λ (x : Callee). AreCallees rs x) c.in-Rules.is c.requires.callee in
    (search rules, ((refl, tt), (c.requires.holes, (nodes, values))))
