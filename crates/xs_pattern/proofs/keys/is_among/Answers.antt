use Rattle.std.proofs.Common.{◌∙◌}
use Rattle.xs_pattern.proofs.FoundLemmas.{found-among}
use Rattle.xs_pattern.proofs.keys.is_among.Goals as goal

pub returns : goal.returns
returns c =
    c.is_ok.ensures.value
    ∙ found-among c.args.node c.args.nodes.now c.binary_search.result c.requires c.binary_search.ensures.position
