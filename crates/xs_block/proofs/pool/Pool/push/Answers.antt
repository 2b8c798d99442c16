use Rattle.std.proofs.Common.{◌≡◌, ◌+◌, ◌-◌, ◌<◌, [], ◌∷◌, length, arith, length-append}
use Rattle.std.proofs.lemmas.List.{take-append-le}
use Rattle.xs_block.specs.Chain.{slots_of, unsealed}
use Rattle.xs_block.proofs.ChainLemmas.{blocks-append, blocks-with_last, items-with_last, length-with_last, slots-with_last, slots-some, slots-append, earlier-with_last}
use Rattle.xs_block.proofs.pool.Pool.push.Goals as goal

pub returns-then-slots-eq0-clause-spare : goal.returns-then-slots-eq0-clause-spare
returns-then-slots-eq0-clause-spare g c =
    rw c.push_block.ensures.pushed (
    omega (
      arith,
      c.requires.spare,
      c.take-block.ensures.rest,
      c.slots.ensures.slots,
      c.if-slots-eq0.true,
      slots-append c.args.chain.now (unsealed (c.args.item ∷ [])),
      length-append c.args.chain.now (unsealed (c.args.item ∷ []) ∷ []),
    )
    )

pub returns-else-slots-eq0-clause-items : goal.returns-else-slots-eq0-clause-items
returns-else-slots-eq0-clause-items g c =
    let slots : 0 < slots_of c.args.chain.now = omega (arith, c.slots.ensures.slots, c.if-slots-eq0.false) in
    rw c.push.ensures.pushed (items-with_last c.args.item c.args.chain.now (slots-some c.args.chain.now slots))

pub returns-else-slots-eq0-clause-spare : goal.returns-else-slots-eq0-clause-spare
returns-else-slots-eq0-clause-spare g c =
    let slots : 0 < slots_of c.args.chain.now = omega (arith, c.slots.ensures.slots, c.if-slots-eq0.false) in
    rw c.push.ensures.pushed (omega (arith, slots-with_last c.args.item c.args.chain.now slots, length-with_last c.args.item c.args.chain.now))

pub returns-else-slots-eq0-clause-blocks : goal.returns-else-slots-eq0-clause-blocks
returns-else-slots-eq0-clause-blocks g c = rw c.push.ensures.pushed (omega (arith, blocks-with_last c.args.item c.args.chain.now))

pub returns-then-slots-eq0-clause-blocks : goal.returns-then-slots-eq0-clause-blocks
returns-then-slots-eq0-clause-blocks g c =
    rw c.push_block.ensures.pushed (
    omega (arith, c.take-block.ensures.rest, blocks-append c.args.chain.now (unsealed (c.args.item ∷ []) ∷ []))
    )

pub returns-then-slots-eq0-clause-earlier : goal.returns-then-slots-eq0-clause-earlier
returns-then-slots-eq0-clause-earlier g c =
    rw c.push_block.ensures.pushed (take-append-le (length c.args.chain.now - 1) c.args.chain.now (unsealed (c.args.item ∷ []) ∷ []) (omega arith))

pub returns-else-slots-eq0-clause-earlier : goal.returns-else-slots-eq0-clause-earlier
returns-else-slots-eq0-clause-earlier g c =
    let slots : 0 < slots_of c.args.chain.now = omega (arith, c.slots.ensures.slots, c.if-slots-eq0.false) in
    let at : (length c.args.chain.now - 1) + 1 ≡ length c.args.chain.now = omega (arith, slots-some c.args.chain.now slots) in
    rw c.push.ensures.pushed (earlier-with_last c.args.item c.args.chain.now (length c.args.chain.now - 1) at)
