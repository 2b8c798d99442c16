use Rattle.std.proofs.Common.{◌∙◌, ◌+◌, ◌<◌, ◌++◌, ap, sym, arith, drop, filter, length, map, List}
use Rattle.std.proofs.lemmas.List.{append-nil, drop_all}
use Rattle.xs_compile.proofs.AliasLemmas.{aliases_are, push_more}
use Rattle.xs_compile.proofs.CountedLemmas.{drop_next}
use Rattle.xs_compile.specs.Aliases.{alias_at}
use Rattle.xs_compile.specs.steps.Aliases.{has_alias}
use Rattle.xs_modules.specs.Results.{modules_data}
use Rattle.xs_structure.specs.Modules.{Place}
use Rattle.xs_compile.proofs.aliases.aliases.Goals as goal

-- one declaration more
pub loop-place-preserved : goal.loop-place-preserved
loop-place-preserved c =
    let ms = modules_data c.args.modules.now in
    let places = c.args.places.now in
    let i = c.loop-place.place-index in
    let p = c.place-item.result in
    let lt : i < length places = omega arith in
    let old = c.loop-place.aliases.items in
    push_more (alias_at ms) (has_alias ms) p (drop (i + 1) places) old c.push_alias.new.aliases.items
    (map (alias_at ms) (filter (has_alias ms) places)) c.in_ok-push_alias.ensures
    (ap (λ (ps : List Place). old ++ map (alias_at ms) (filter (has_alias ms) ps)) (sym (drop_next places i p lt c.place-item.is))
    ∙ c.loop-place.invariant)

pub returns : goal.returns
returns c =
    let ms = modules_data c.args.modules.now in
    let found = c.loop-place.aliases.items in
    sym (append-nil found)
    ∙ ap (λ (ps : List Place). found ++ map (alias_at ms) (filter (has_alias ms) ps))
    (sym (drop_all c.loop-place.place-index c.args.places.now (omega arith)))
    ∙ c.loop-place.invariant
    ∙ ap (λ (ps : List Place). map (alias_at ms) (filter (has_alias ms) ps)) c.requires.all
    ∙ aliases_are ms
