use Rattle.std.proofs.Common.{ap, sym, ◌∙◌}
use Rattle.std.proofs.lemmas.Iterator.{items_from_drains, YieldsList-from_slice}
use Rattle.std.proofs.lemmas.List.{map-id}
use Rattle.std.proofs.lemmas.Iterator.Consumers.{YieldsList-at, YieldsList-from_copied}
use Rattle.xs_result.specs.Built.{built}
use Rattle.xs_result.proofs.BuiltLemmas.{built_is}
use Rattle.xs_result_lines.specs.steps.Pending.{lent}
use Rattle.xs_result_lines.proofs.lent.built.Goals as goal

pub returns : goal.returns
returns c =
    let d = c.in_ok-events.ensures in
    let listed = YieldsList-at c.copied.ensures.source (YieldsList-from_slice c.args.tag.now c.iter.ensures.rest) in
    let given = items_from_drains d.0 (d.1.1.0, d.1.1.1, λ _. (d.1.0, d.1.1.2)) (YieldsList-from_copied listed) in
    d.2 ∙ ap (λ es. built (lent es)) (sym (map-id d.0) ∙ given) ∙ sym (built_is (lent c.args.tag.now))
