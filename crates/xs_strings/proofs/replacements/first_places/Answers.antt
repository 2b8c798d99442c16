use Rattle.std.proofs.Common.{◌==◌, ◌∙◌, sym, ap, arith, nat_eq}
use Rattle.std.proofs.lemmas.Iterator.Adapters.{position_from-zero}
use Rattle.std.proofs.lemmas.List.{take_all}
use Rattle.std.specs.HashMap.{get}
use Rattle.std.specs.List.{position_from}
use Rattle.xs_strings.proofs.ReplacementLemmas.{place-more}
use Rattle.xs_strings.proofs.replacements.first_places.Goals as goal

pub loop-place-preserved : goal.loop-place-preserved
loop-place-preserved c = λ d.
    place-more c.args.alphabet.now c.loop-place.place c.index-alphabet-place.result d (get nat_eq c.loop-place.places d)
    (get nat_eq c.add_place.new.places d) (omega arith) c.index-alphabet-place.is (c.loop-place.invariant d) (c.in_ok-add_place.ensures d)

pub returns : goal.returns
returns c = λ d.
    c.loop-place.invariant d
    ∙ ap (position_from (λ e. e == d) 0) (take_all c.loop-place.place c.args.alphabet.now (omega arith))
    ∙ sym (position_from-zero (λ e. e == d) c.args.alphabet.now)
