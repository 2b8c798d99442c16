use Rattle.std.proofs.Common.{◌∙◌, ℕ, List, ap, length}
use Rattle.xs_static.specs.steps.Found.{nodes_faults}
use Rattle.xs_static.specs.steps.Least.{least_of}
use Rattle.xs_static.proofs.walk.walk_module.Goals as goal

pub visit_all-requires : goal.visit_all-requires
visit_all-requires c = record {
  lines = ap length c.deref.ensures.value ∙ c.requires.each;
  standings = c.deref-2.ensures.value ∙ c.in_ok-standings.ensures;
  scopes = c.in_ok-scopes.ensures;
}

pub returns-clause-faults : goal.returns-clause-faults
returns-clause-faults c =
    let rs = c.args.module.now.tree in
    c.in_ok-visit_all.ensures
    ∙ ap (λ (ls : List ℕ). least_of c.args.least.now.fault (nodes_faults c.args.number rs ls c.args.names.now (length rs))) c.deref.ensures.value
