use Rattle.std.proofs.Common.{arith, ◌++◌, ap, ◌∙◌, sym}
use Rattle.std.proofs.lemmas.Grind.{common_steps}
use Rattle.std.proofs.lemmas.List.{map-id}
use Rattle.std.proofs.lemmas.Str.{encodes-append}
use Rattle.std.proofs.lemmas.Iterator.{YieldsList-from_chars, YieldsList-from_take}
use Rattle.std.proofs.lemmas.Iterator.Adapters.{YieldsList-from_skip}
use Rattle.std.proofs.lemmas.Iterator.Consumers.{YieldsList-end}
use Rattle.std.specs.Str.{chars, encode_utf8_all}
use Rattle.xs_strings.proofs.WindowLemmas.{length-chars-le}
use Rattle.xs_strings.proofs.positions.append_kept.Goals as goal

pub loop-character-preserved : goal.loop-character-preserved
loop-character-preserved c = grind (arith, common_steps, encodes-append)

pub returns-clause-ok : goal.returns-clause-ok
returns-clause-ok c =
    let chain = YieldsList-from_skip c.kept_places-kept.result.start
    (YieldsList-from_take c.kept_places-kept.result.end (YieldsList-from_chars c.args.s.now c.utf8.s cc) cc) cc in
    let ended = YieldsList-end chain c.loop-character.yielded _ c.loop-character.yielded_by _ _ c.in-None.is c.next.ensures.steps in
    c.loop-character.invariant
    ∙ ap (λ cs. c.args.out.now.items ++ encode_utf8_all cs) (sym (map-id c.loop-character.yielded) ∙ ended.0
    ∙ c.kept_places-kept.ensures (chars c.args.s.now) (length-chars-le c.args.s.now c.utf8.s))
