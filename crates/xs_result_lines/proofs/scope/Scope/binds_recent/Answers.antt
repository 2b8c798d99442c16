use Rattle.std.proofs.Common.{◌∙◌, reverse, sym}
use Rattle.xs_result_lines.proofs.ScopeLemmas.{recent_in_force}
use Rattle.xs_result_lines.proofs.scope.Scope.binds_recent.Goals as goal

pub returns : goal.returns
returns c =
    λ h. recent_in_force c.self.inside.current.entries c.args.self.now (reverse c.self.inside.log.items) c.self.inside.recent c.args.prefix.now
    c.args.uri.now c.self.inside.bound c.self.invariant.0 c.self.invariant.1 c.as_str.result.now c.is_same.result c.as_str.ensures c.is_same.ensures
    c.if-not-is_same.false
    c.self.view_is (sym c.is_bound_to.ensures ∙ h)
