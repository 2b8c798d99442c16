use Rattle.std.proofs.Common.{◌≡◌, ◌∷◌, [], ◌++◌, ◌∙◌, ap, arith, filter, length}
use Rattle.std.specs.List.{range_with_len}
use Rattle.xs_modules.specs.Mentions.{is_mention}
use Rattle.xs_modules.proofs.MentionLemmas.{found_inside, more_passing}
use Rattle.xs_modules.proofs.mentions.mention_elements.Goals as goal

pub loop-place-preserved : goal.loop-place-preserved
loop-place-preserved c =
    more_passing (is_mention c.args.tree.now) c.loop-place.place c.loop-place.found.items c.keep_mention.new.found.items c.loop-place.invariant
    (c.in_ok-keep_mention.ensures ∙ ap (λ k. c.loop-place.found.items ++ filter (is_mention c.args.tree.now) (k ∷ [])) c.at.ensures)

pub returns-clause-inside : goal.returns-clause-inside
returns-clause-inside c =
    let ended : c.loop-place.place ≡ length c.args.tree.now = omega arith in
    found_inside c.args.tree.now c.loop-place.found.items
    (c.loop-place.invariant ∙ ap (λ k. filter (is_mention c.args.tree.now) (range_with_len 0 k)) ended)
