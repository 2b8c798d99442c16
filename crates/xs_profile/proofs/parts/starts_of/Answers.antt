use Rattle.std.proofs.Common.{◌≡◌, ◌∙◌, ℕ, List, ap, arith, take}
use Rattle.std.proofs.lemmas.List.{take_all}
use Rattle.std.proofs.lemmas.Result.{IfOk-weaker}
use Rattle.std.specs.Global.{Vec}
use Rattle.xs_trace.specs.declared.item.Site.{Site}
use Rattle.xs_profile.specs.Counts.{ordered, ticks_at}
use Rattle.xs_profile.specs.declared.count.Count.{Count}
use Rattle.xs_profile.specs.steps.Table.{AreCounts, sites_among, table_ticks}
use Rattle.xs_profile.proofs.CountLemmas.{starts-are}
use Rattle.xs_profile.proofs.parts.starts_of.Goals as goal

pub returns-clause-ordered : goal.returns-clause-ordered
returns-clause-ordered c =
    let starts : List Site = c.args.starts.now in
    let at : Site → ℕ = table_ticks c.loop-start.table.modules.items in
    let whole : take c.loop-start.start-index starts ≡ starts = take_all c.loop-start.start-index starts (omega (arith, c.loop-start-test.false)) in
    IfOk-weaker c.counts.result (λ (counts : Vec Count). AreCounts at counts.items) (λ (counts : Vec Count). sites_among counts.items ≡ ordered starts)
    (λ counts a. starts-are at starts counts.items (λ s. c.loop-start.invariant s ∙ ap (λ (ps : List Site). ticks_at ps s) whole) a)
    c.counts.ensures
