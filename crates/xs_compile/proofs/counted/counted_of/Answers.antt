use Rattle.std.proofs.Common.{◌∙◌, ◌+◌, ◌<◌, ap, sym, arith, refl, drop, filter, length, List, Option}
use Rattle.std.proofs.lemmas.List.{drop_all}
use Rattle.xs_compile.proofs.CountedLemmas.{count_end, count_more, drop_next, of_both}
use Rattle.xs_compile.specs.Counted.{counted}
use Rattle.xs_compile.specs.Tables.{kind_test, place_in}
use Rattle.xs_modules.specs.Results.{modules_data}
use Rattle.xs_structure.specs.Modules.{Place}
use Rattle.xs_structure.specs.Order.{declares}
use Rattle.xs_compile.proofs.counted.counted_of.Goals as goal

pub loop-place-init : goal.loop-place-init
loop-place-init c = λ uri local.
    let ms = modules_data c.args.modules.now in
    ap (λ (o : Option Place). of_both ms o (counted ms (filter (declares (kind_test c.args.kind) ms (uri, local)) c.args.places.now)))
    (c.new-found.ensures uri local)

-- one declaration more
pub loop-place-preserved : goal.loop-place-preserved
loop-place-preserved c = λ uri local.
    let ms = modules_data c.args.modules.now in
    let test = declares (kind_test c.args.kind) ms (uri, local) in
    let places = c.args.places.now in
    let i = c.loop-place.place-index in
    let p = c.place-item.result in
    let lt : i < length places = omega arith in
    let old = place_in c.loop-place.found uri local in
    count_more ms test p (drop (i + 1) places) old (place_in c.note.new.found uri local) (counted ms (filter test places)) (test p) refl
    (c.in_ok-note.ensures uri local)
    (ap (λ (ps : List Place). of_both ms old (counted ms (filter test ps))) (sym (drop_next places i p lt c.place-item.is))
    ∙ c.loop-place.invariant uri local)

pub returns : goal.returns
returns c = λ uri local.
    let ms = modules_data c.args.modules.now in
    let test = declares (kind_test c.args.kind) ms (uri, local) in
    let o = place_in c.loop-place.found uri local in
    sym (count_end ms o)
    ∙ ap (λ (ps : List Place). of_both ms o (counted ms (filter test ps))) (sym (drop_all c.loop-place.place-index c.args.places.now (omega arith)))
    ∙ c.loop-place.invariant uri local
