use Rattle.std.proofs.Common.{sym, nat_eq}
use Rattle.std.specs.HashMap.{get}
use Rattle.xs_strings.proofs.ReplacementLemmas.{place-known, place-new}
use Rattle.xs_strings.proofs.replacements.add_place.Goals as goal

pub returns-then-contains_key : goal.returns-then-contains_key
returns-then-contains_key c = λ d.
    place-known (get nat_eq c.args.places.now) c.args.character d c.args.place (sym c.if-contains_key.ensures)

pub returns : goal.returns
returns c = λ d.
    place-new (get nat_eq c.args.places.now) c.args.character d c.args.place (get nat_eq c.insert.new.self d)
    (sym c.if-contains_key.ensures) (c.in_ok-insert.ensures.updates.0 d)
