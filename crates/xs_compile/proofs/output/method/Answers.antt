use Rattle.std.proofs.Common.{◌∙◌, ℕ, ◌+◌, ◌<◌, None, Option, ap, sym, arith, drop, length, List}
use Rattle.xs_compile.proofs.CountedLemmas.{drop_next}
use Rattle.xs_compile.proofs.OutputLemmas.{output_is, output_more, sayers, with_rest}
use Rattle.std.specs.Option.{option_map_or}
use Rattle.xs_compile.specs.Counted.{counted}
use Rattle.xs_modules.specs.Results.{modules_data}
use Rattle.xs_sheet.specs.declared.declarations.Method.{Method}
use Rattle.xs_sheet.specs.declared.declarations.Method.TheVariants.{Pyx}
use Rattle.xs_structure.specs.Modules.{Place}
use Rattle.xs_compile.proofs.output.method.Goals as goal

-- one declaration more
pub loop-place-preserved : goal.loop-place-preserved
loop-place-preserved c =
    let ms = modules_data c.args.modules.now in
    let places = c.args.places.now in
    let i = c.loop-place.place-index in
    let p = c.place-item.result in
    let lt : i < length places = omega arith in
    let old = c.loop-place.so_far in
    output_more ms old c.later-so_far.result (with_rest ms None (counted ms (sayers ms places))) p (drop (i + 1) places) c.later-so_far.ensures
    (ap (λ (ps : List Place). with_rest ms old (counted ms (sayers ms ps))) (sym (drop_next places i p lt c.place-item.is))
    ∙ c.loop-place.invariant)

pub returns-in-Some : goal.returns-in-Some
returns-in-Some c =
    ap (λ (o : Option (ℕ × Method)). option_map_or (λ a. a.1) o Pyx) (sym c.in-Some.is)
    ∙ output_is (modules_data c.args.modules.now) c.loop-place.so_far c.args.places.now c.loop-place.place-index (omega arith) c.requires.all
    c.loop-place.invariant

pub returns-in-None : goal.returns-in-None
returns-in-None c =
    ap (λ (o : Option (ℕ × Method)). option_map_or (λ a. a.1) o Pyx) (sym c.in-None.is)
    ∙ output_is (modules_data c.args.modules.now) c.loop-place.so_far c.args.places.now c.loop-place.place-index (omega arith) c.requires.all
    c.loop-place.invariant
