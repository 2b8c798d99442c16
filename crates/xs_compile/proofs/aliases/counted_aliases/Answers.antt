use Rattle.std.proofs.Common.{◌∙◌, ◌+◌, ◌<◌, [], ap, sym, refl, arith, drop, filter, length, List, Option}
use Rattle.std.proofs.lemmas.List.{drop_all}
use Rattle.xs_compile.proofs.CountedLemmas.{count_end, count_more, drop_next, of_both}
use Rattle.xs_compile.specs.Counted.{counted}
use Rattle.xs_compile.specs.steps.Aliases.{is_alias_for}
use Rattle.xs_compile.specs.Tables.{place_in}
use Rattle.xs_modules.specs.Results.{modules_data}
use Rattle.xs_structure.specs.Modules.{Place}
use Rattle.xs_compile.proofs.aliases.counted_aliases.Goals as goal

pub loop-place-init : goal.loop-place-init
loop-place-init c = λ uri.
    let ms = modules_data c.args.modules.now in
    ap (λ (o : Option Place). of_both ms o (counted ms (filter (is_alias_for ms uri) c.args.places.now))) (c.new-found.ensures uri [])

-- one declaration more
pub loop-place-preserved : goal.loop-place-preserved
loop-place-preserved c = λ uri.
    let ms = modules_data c.args.modules.now in
    let test = is_alias_for ms uri in
    let places = c.args.places.now in
    let i = c.loop-place.place-index in
    let p = c.place-item.result in
    let lt : i < length places = omega arith in
    let old = place_in c.loop-place.found uri [] in
    count_more ms test p (drop (i + 1) places) old (place_in c.note_alias.new.found uri []) (counted ms (filter test places)) (test p) refl
    (c.in_ok-note_alias.ensures uri)
    (ap (λ (ps : List Place). of_both ms old (counted ms (filter test ps))) (sym (drop_next places i p lt c.place-item.is))
    ∙ c.loop-place.invariant uri)

pub returns : goal.returns
returns c = λ uri.
    let ms = modules_data c.args.modules.now in
    let o = place_in c.loop-place.found uri [] in
    sym (count_end ms o)
    ∙ ap (λ (ps : List Place). of_both ms o (counted ms (filter (is_alias_for ms uri) ps)))
    (sym (drop_all c.loop-place.place-index c.args.places.now (omega arith)))
    ∙ c.loop-place.invariant uri
