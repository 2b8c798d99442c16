use Rattle.std.proofs.Common.{◌++◌, ◌∙◌, ◌+◌, ◌<◌, ap, arith, drop, length, sym}
use Rattle.std.proofs.lemmas.List.{drop_all}
use Rattle.std.specs.Prelude.{filter}
use Rattle.xs_result_lines.specs.Bindings.{declared, is_new, outermost, spaces_in}
use Rattle.xs_result_lines.specs.steps.Open.{bindings_of}
use Rattle.xs_result_lines.specs.steps.Pending.{lent}
use Rattle.xs_result_lines.proofs.OrderedLemmas.{none_in, spaces_end, spaces_next, spaces_stop}
use Rattle.xs_result_lines.proofs.PendingLemmas.{next}
use Rattle.xs_result_lines.proofs.ordered.new_spaces.Goals as goal

pub loop-event-preserved : goal.loop-event-preserved
loop-event-preserved c =
    let e = c.event-item.result in
    let i = c.loop-event.event-index in
    let added = c.args.added.now in
    let lt : i < length added = omega arith in
    spaces_next (λ bs. bindings_of c.loop-event.all.items ++ filter (is_new (c.args.scope.now ++ outermost)) bs)
    (λ bs. bindings_of c.push_space.new.all.items ++ filter (is_new (c.args.scope.now ++ outermost)) bs)
    (declared (c.args.scope.now ++ outermost) (spaces_in (lent added))) e.now (lent (drop i added)) (lent (drop (i + 1) added))
    (ap lent (next added i e lt c.event-item.is)) (sym c.is_in_tag.ensures ∙ c.if-not-is_in_tag.false) c.in_ok-push_space.ensures
    c.loop-event.invariant

pub returns-then-not-is_in_tag : goal.returns-then-not-is_in_tag
returns-then-not-is_in_tag c =
    let e = c.event-item.result in
    let i = c.loop-event.event-index in
    let added = c.args.added.now in
    let lt : i < length added = omega arith in
    spaces_end (bindings_of c.loop-event.all.items) (declared (c.args.scope.now ++ outermost) (spaces_in (lent added)))
    (is_new (c.args.scope.now ++ outermost)) (lent (drop i added))
    (spaces_stop e.now (lent (drop i added)) (lent (drop (i + 1) added)) (ap lent (next added i e lt c.event-item.is))
    (sym c.is_in_tag.ensures ∙ c.if-not-is_in_tag.true))
    c.loop-event.invariant

pub returns : goal.returns
returns c =
    let i = c.loop-event.event-index in
    let added = c.args.added.now in
    spaces_end (bindings_of c.loop-event.all.items) (declared (c.args.scope.now ++ outermost) (spaces_in (lent added)))
    (is_new (c.args.scope.now ++ outermost)) (lent (drop i added)) (ap (λ es. spaces_in (lent es)) (drop_all i added (omega arith)) ∙ none_in)
    c.loop-event.invariant
