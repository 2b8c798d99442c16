use Rattle.std.proofs.Common.{◌∙◌, ap, map, sym, ◌++◌, ◌∷◌, []}
use Rattle.std.proofs.lemmas.List.{append-nil, append_assoc, map-append}
use Rattle.xs_result.specs.Text.{own_text, text_in}
use Rattle.xs_result.proofs.TextLemmas.{text_behind}
use Rattle.xs_result.proofs.write.append_texts.Goals as goal

pub loop-event-init : goal.loop-event-init
unfolding text_in
loop-event-init g c = record { texts = sym (append-nil c.args.out.now.items); utf8 = λ u. u }

pub loop-event-preserved : goal.loop-event-preserved
loop-event-preserved g c =
    let before = c.args.out.now.items in
    let es = map (λ e. e.now) c.loop-event.yielded in
    let e = c.in-Some.event.now in
    record {
      texts =
          c.in_ok-append_text.ensures.text ∙ ap (λ xs. xs ++ own_text e) c.loop-event.invariant.texts ∙ append_assoc before (text_in es) (own_text e)
          ∙ ap (λ xs. before ++ xs) (sym (text_behind es e) ∙ ap text_in (sym (map-append (λ e. e.now) c.loop-event.yielded (c.in-Some.event ∷ []))));
      utf8 = λ u. c.in_ok-append_text.ensures.utf8 (c.loop-event.invariant.utf8 u);
    }
