use Rattle.std.proofs.Common.{arith, ◌++◌, ap, ◌∙◌, sym}
use Rattle.std.proofs.lemmas.Grind.{common_steps}
use Rattle.std.proofs.lemmas.List.{map-id}
use Rattle.std.proofs.lemmas.Str.{encodes-append}
use Rattle.std.proofs.lemmas.List.Elements.{filter_map-append}
use Rattle.std.proofs.lemmas.Iterator.{YieldsList-from_chars}
use Rattle.std.proofs.lemmas.Iterator.Consumers.{YieldsList-end}
use Rattle.std.specs.List.{filter_map}
use Rattle.std.specs.Str.{encode_utf8_all}
use Rattle.xs_strings.specs.Replacements.{replaced_by}
use Rattle.xs_strings.proofs.translation.append_by_table.Goals as goal

pub loop-character-preserved : goal.loop-character-preserved
loop-character-preserved c = grind (arith, common_steps, encodes-append, filter_map-append)

pub returns-clause-ok : goal.returns-clause-ok
returns-clause-ok c =
    let chain = YieldsList-from_chars c.args.s.now c.utf8.s cc in
    let ended = YieldsList-end chain c.loop-character.yielded _ c.loop-character.yielded_by _ _ c.in-None.is c.next.ensures.steps in
    c.loop-character.invariant
    ∙ ap (λ cs. c.args.out.now.items ++ encode_utf8_all (filter_map (replaced_by c.args.table.now) cs))
    (sym (map-id c.loop-character.yielded) ∙ ended.0)
