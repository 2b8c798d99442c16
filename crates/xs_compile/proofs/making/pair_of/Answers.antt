use Rattle.std.proofs.Common.{◌∙◌, sym}
use Rattle.xs_compile.proofs.MakingLemmas.{pair-is}
use Rattle.xs_compile.proofs.making.pair_of.Goals as goal

pub returns-then-is_pair : goal.returns-then-is_pair
returns-then-is_pair c =
    pair-is c.pair-item.result c.args.prefix.now c.args.uri.now (sym c.is_pair.ensures ∙ c.if-is_pair.true)
