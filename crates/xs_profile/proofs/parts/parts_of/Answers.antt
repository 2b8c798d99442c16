use Rattle.std.proofs.Common.{◌≡◌, ◌∙◌, ℕ, List, ap, arith, get_or, sym, take}
use Rattle.std.proofs.lemmas.List.{take_all, take_more}
use Rattle.std.proofs.lemmas.Result.{IfOk-weaker}
use Rattle.std.specs.Global.{Vec}
use Rattle.xs_trace.specs.declared.item.Site.{Site}
use Rattle.xs_profile.specs.declared.count.Count.{Count}
use Rattle.xs_profile.specs.steps.Parts.{part_ticks}
use Rattle.xs_profile.specs.steps.Table.{AreCounts, sites_among, table_ticks}
use Rattle.xs_profile.proofs.CountLemmas.{counts-same}
use Rattle.xs_profile.proofs.PartLemmas.{part-more}
use Rattle.xs_profile.proofs.parts.parts_of.Goals as goal

pub loop-place-preserved : goal.loop-place-preserved
loop-place-preserved c = λ s.
    let starts : List Site = sites_among c.args.starts.now in
    let places : List Count = c.args.places.now in
    let none : Count = record { site = record { «module» = 0; line = 0 }; ticks = 0 } in
    part-more starts (take c.loop-place.place-index places) (get_or places c.loop-place.place-index none) s
    (table_ticks c.loop-place.table.modules.items s) (table_ticks c.add_place.new.table.modules.items s) (c.loop-place.invariant s)
    (c.in_ok-add_place.ensures s)
    ∙ ap (λ (cs : List Count). part_ticks starts cs s) (sym (take_more places c.loop-place.place-index none (omega (arith, c.loop-place-test.true))))

pub returns : goal.returns
returns c =
    let starts : List Site = sites_among c.args.starts.now in
    let places : List Count = c.args.places.now in
    let at : Site → ℕ = table_ticks c.loop-place.table.modules.items in
    let whole : take c.loop-place.place-index places ≡ places = take_all c.loop-place.place-index places (omega (arith, c.loop-place-test.false)) in
    IfOk-weaker c.counts.result (λ (counts : Vec Count). AreCounts at counts.items) (λ (counts : Vec Count). AreCounts (part_ticks starts places) counts.items)
    (λ counts a. counts-same at (part_ticks starts places) counts.items
    (λ s. c.loop-place.invariant s ∙ ap (λ (cs : List Count). part_ticks starts cs s) whole) a)
    c.counts.ensures
