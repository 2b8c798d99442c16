-- Each turn keeps the new place of one node, and the last push that of the end.
use Rattle.std.proofs.Common.{◌≡◌, ◌+◌, arith, length, map, refl, subst}
use Rattle.std.specs.List.{range_with_len}
use Rattle.xs_tree.specs.Stripping.{new_place}
use Rattle.xs_tree.proofs.StrippedEntryLemmas.{places-more}
use Rattle.xs_tree.proofs.trees.Tree.new_places.Goals as goal

pub loop-place-preserved : goal.loop-place-preserved
loop-place-preserved c =
    let after_is : c.place_after-next.result ≡ new_place c.args.flagged.now c.args.self.now (c.loop-place.place + 1) =
    subst (λ k. c.place_after-next.result ≡ new_place c.args.flagged.now c.args.self.now (k + 1)) c.at.ensures c.place_after-next.ensures.next in
    places-more c.args.flagged.now c.args.self.now c.loop-place.places.items c.push.new.self.items c.loop-place.next c.place_after-next.result
    c.loop-place.place c.loop-place.invariant c.in_ok-push.ensures.items after_is

pub returns : goal.returns
returns c =
    let at_end : c.loop-place.place ≡ length c.args.self.now =
    omega (arith, c.loop-place-test.false, c.loop-place.auto.place-end, c.len-place-end.ensures.count) in
    record {
      places = subst (λ n. c.push-2.new.self.items ≡ map (new_place c.args.flagged.now c.args.self.now) (range_with_len 0 (n + 1))) at_end
          (places-more c.args.flagged.now c.args.self.now c.loop-place.places.items c.push-2.new.self.items c.loop-place.next
          (new_place c.args.flagged.now c.args.self.now (c.loop-place.place + 1))
          c.loop-place.place c.loop-place.invariant c.in_ok-push-2.ensures.items refl).kept_is;
    }
