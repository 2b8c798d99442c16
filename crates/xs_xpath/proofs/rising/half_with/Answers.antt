use Rattle.std.proofs.Common.{◌≡◌, ◌/◌, ◌<◌, true, false, length, get_or, ap, ◌∙◌, arith}
use Rattle.xs_xpath.specs.Names.{uri_in}
use Rattle.xs_xpath.specs.steps.Rising.{is_below, rises}
use Rattle.xs_xpath.proofs.RisingLemmas.{drop-rises, in-back, in-front, take-rises}
use Rattle.xs_xpath.proofs.rising.half_with.Goals as goal

pub returns-then-is_below-clause-rising : goal.returns-then-is_below-clause-rising
returns-then-is_below-clause-rising c = ap rises c.split_at.ensures.front ∙ take-rises (length c.args.pairs.now / 2) c.args.pairs.now c.requires.rising

pub returns-then-is_below-clause-uri : goal.returns-then-is_below-clause-uri
returns-then-is_below-clause-uri c =
    let pairs = c.args.pairs.now in
    let middle = c.index-pairs-middle.result in
    let inside : length pairs / 2 < length pairs = omega (arith, c.requires.several) in
    let below : is_below c.args.prefix.now (get_or pairs (length pairs / 2) middle).0 ≡ true =
    cc (c.is_below.ensures, c.if-is_below.true, c.as_bytes.ensures.value, c.as_bytes-2.ensures.value, c.as_str.ensures.text) in
    ap (λ half. uri_in half c.args.prefix.now) c.split_at.ensures.front
    ∙ in-front (length pairs / 2) pairs c.args.prefix.now middle inside c.requires.rising below

pub returns-clause-rising : goal.returns-clause-rising
returns-clause-rising c = ap rises c.split_at.ensures.back ∙ drop-rises (length c.args.pairs.now / 2) c.args.pairs.now c.requires.rising

pub returns-clause-uri : goal.returns-clause-uri
returns-clause-uri c =
    let pairs = c.args.pairs.now in
    let middle = c.index-pairs-middle.result in
    let inside : length pairs / 2 < length pairs = omega (arith, c.requires.several) in
    let other : is_below c.args.prefix.now (get_or pairs (length pairs / 2) middle).0 ≡ false =
    cc (c.is_below.ensures, c.if-is_below.false, c.as_bytes.ensures.value, c.as_bytes-2.ensures.value, c.as_str.ensures.text) in
    ap (λ half. uri_in half c.args.prefix.now) c.split_at.ensures.back
    ∙ in-back (length pairs / 2) pairs c.args.prefix.now middle inside c.requires.rising other
