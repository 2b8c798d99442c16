use Rattle.xs_making.proofs.PlainLemmas.{plain_is}
use Rattle.xs_making.proofs.names.attribute_name.Goals as goal

pub keep_plain-requires : goal.keep_plain-requires
keep_plain-requires c =
    plain_is c.args.scope.now.pairs.items c.args.text.now _ c.in_ok-made.ensures (c.is_plain.ensures c.if-is_plain.true)
