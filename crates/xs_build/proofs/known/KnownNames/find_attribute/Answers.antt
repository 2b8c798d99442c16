use Rattle.std.proofs.Common.{sym, refl}
use Rattle.xs_tree.specs.Record.{at}
use Rattle.xs_build.specs.declared.known.NodeName.TheVariants.{Known}
use Rattle.xs_build.specs.steps.Known.{parts_of}
use Rattle.xs_build.specs.steps.Names.{full_name}
use Rattle.xs_build.proofs.NameLemmas.{attribute_is}
use Rattle.xs_build.proofs.known.KnownNames.find_attribute.Goals as goal

pub returns-in_ok-node-in-None-clause-same : goal.returns-in_ok-node-in-None-clause-same
returns-in_ok-node-in-None-clause-same c =
    attribute_is c.args.written.now c.args.scope.now (parts_of c.in_ok-name.name.now) (at c.args.tree.now c.in_ok-node-in-None.node).name
    (full_name c.args.tree.now (Known c.in_ok-node-in-None.node)) c.in_ok-name.name.now.local.now
    c.in_ok-name.ensures (sym c.in-None.ensures) c.in_ok-node-in-None.ensures.same c.in_ok-node-in-None.ensures.named.1 refl
