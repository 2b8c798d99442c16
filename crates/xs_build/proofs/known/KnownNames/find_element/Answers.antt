use Rattle.xs_build.specs.steps.Known.{parts_of}
use Rattle.xs_build.proofs.NameLemmas.{element_found}
use Rattle.xs_build.proofs.known.KnownNames.find_element.Goals as goal

pub returns : goal.returns
returns c =
    element_found c.find_element.result c.args.tree.now c.args.scope.now c.args.written.now (parts_of c.in_ok-name.name.now)
    c.in_ok-name.ensures c.find_element.ensures.named c.find_element.ensures.same
