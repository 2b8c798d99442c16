use Rattle.std.proofs.Common.{◌∷◌, [], map, subst, sym}
use Rattle.std.proofs.lemmas.List.{map-append}
use Rattle.xs_result_lines.specs.Kept.{kept}
use Rattle.xs_result_lines.specs.Keeping.{IsTaken}
use Rattle.xs_result_lines.proofs.StreamLemmas.{kept-twice, kept_whole}
use Rattle.xs_result_lines.proofs.write.take_all.Goals as goal

pub loop-event-init : goal.loop-event-init
loop-event-init g c = record {
  taken = c.in_ok-stream.ensures c.args.out.now.items;
  kept = kept_whole c.args.out.now.items;
  utf8 = λ u. u;
}

pub loop-event-preserved : goal.loop-event-preserved
loop-event-preserved g c = record {
  taken =
      subst (λ es. IsTaken (kept c.take_event.new.pending) c.take_event.new.writer c.args.out.now.items c.take_event.new.out.items es)
      (sym (map-append (λ e. e.now) c.loop-event.yielded (c.in-Some.event ∷ [])))
      (c.in_ok-take_event.ensures.taken c.args.out.now.items (map (λ e. e.now) c.loop-event.yielded) c.loop-event.invariant.taken);
  kept = kept-twice c.args.out.now.items c.loop-event.out.items c.take_event.new.out.items c.loop-event.invariant.kept c.in_ok-take_event.ensures.kept;
  utf8 = λ u. c.in_ok-take_event.ensures.utf8 (c.loop-event.invariant.utf8 u);
}
