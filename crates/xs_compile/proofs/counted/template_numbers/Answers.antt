use Rattle.std.proofs.Common.{◌∙◌, ℕ, ◌+◌, ◌<◌, ap, sym, arith, drop, filter, length, List, Option}
use Rattle.std.proofs.lemmas.List.{drop_all}
use Rattle.std.specs.Option.{option_or}
use Rattle.xs_compile.proofs.CountedLemmas.{drop_next}
use Rattle.xs_compile.proofs.NumberLemmas.{number_from, number_more, or_none}
use Rattle.xs_compile.proofs.TemplateNumberLemmas.{template_number_is}
use Rattle.xs_compile.proofs.ZipLemmas.{item-of}
use Rattle.xs_structure.specs.Order.{is_template_place}
use Rattle.xs_structure.specs.Places.{IsIn}
use Rattle.xs_compile.specs.steps.Counting.{is_called}
use Rattle.xs_compile.specs.Tables.{number_in}
use Rattle.xs_modules.specs.Results.{modules_data}
use Rattle.xs_structure.specs.Modules.{Place}
use Rattle.xs_compile.proofs.counted.template_numbers.Goals as goal

pub loop-place-init : goal.loop-place-init
loop-place-init c = λ uri local.
    let ms = modules_data c.args.modules.now in
    ap (λ (o : Option ℕ). option_or o (number_from (is_called ms (uri, local)) 0 (filter (is_template_place ms) c.args.places.now)))
    (c.new-numbers.ensures uri local)

pub number_template-requires-clause-at : goal.number_template-requires-clause-at
number_template-requires-clause-at c =
    item-of (IsIn (modules_data c.args.modules.now)) c.args.places.now c.loop-place.place-index c.place-item.result c.requires.inside (omega arith) c.place-item.is

-- one declaration more
pub loop-place-preserved : goal.loop-place-preserved
loop-place-preserved c = λ uri local.
    let ms = modules_data c.args.modules.now in
    let test = is_called ms (uri, local) in
    let places = c.args.places.now in
    let i = c.loop-place.place-index in
    let p = c.place-item.result in
    let lt : i < length places = omega arith in
    let old = number_in c.loop-place.numbers uri local in
    let next = c.loop-place.next in
    number_more (is_template_place ms) test p (drop (i + 1) places) old (number_in c.number_template.new.numbers uri local)
    (number_from test 0 (filter (is_template_place ms) places)) next c.in_ok-next.next
    (c.in_ok-next.ensures.numbers uri local) c.in_ok-next.ensures.next
    (ap (λ (ps : List Place). option_or old (number_from test next (filter (is_template_place ms) ps))) (sym (drop_next places i p lt c.place-item.is))
    ∙ c.loop-place.invariant uri local)

pub returns : goal.returns
returns c = λ uri local.
    let ms = modules_data c.args.modules.now in
    let test = is_called ms (uri, local) in
    let o = number_in c.loop-place.numbers uri local in
    sym (or_none o)
    ∙ ap (λ (ps : List Place). option_or o (number_from test c.loop-place.next (filter (is_template_place ms) ps)))
    (sym (drop_all c.loop-place.place-index c.args.places.now (omega arith)))
    ∙ c.loop-place.invariant uri local
    ∙ ap (λ (ps : List Place). number_from test 0 (filter (is_template_place ms) ps)) c.requires.all
    ∙ template_number_is ms (uri, local)
