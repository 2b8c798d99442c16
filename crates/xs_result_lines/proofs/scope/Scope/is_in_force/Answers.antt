use Rattle.xs_result_lines.proofs.PendingLemmas.{bare_in_force}
use Rattle.xs_result_lines.proofs.scope.Scope.is_in_force.Goals as goal

pub returns-then-is_bare : goal.returns-then-is_bare
returns-then-is_bare c =
    bare_in_force c.args.self.now c.args.prefix.now c.args.uri.now c.is_empty.result (c.is_bare.ensures.none c.if-is_bare.true)
    (c.is_bare.ensures.empty c.if-is_bare.true) c.is_empty.ensures
