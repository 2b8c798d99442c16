use Rattle.std.proofs.Common.{ap, sym}
use Rattle.std.proofs.lemmas.List.{nil_from_length}
use Rattle.xs_result.specs.Places.{place_in}
use Rattle.xs_result.proofs.start_tag.place_beyond.Goals as goal

pub returns-then-is_empty : goal.returns-then-is_empty
returns-then-is_empty c =
    let name = c.args.name.now in
    sym (ap (λ names. place_in names name.uri name.local) (nil_from_length c.args.others.now.entries (c.is_empty.ensures.0 c.if-is_empty.true)))
