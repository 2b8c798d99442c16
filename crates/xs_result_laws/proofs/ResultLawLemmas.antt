-- What is written of a result reads back.
use Rattle.std.proofs.Common.{◌≡◌, ◌<◌, ◌≤◌, ◌^◌, List, [], true, false, arith, length, subst}
use Rattle.xs_pyx.specs.LineLaws.{DocumentsAreRead}
use Rattle.xs_trace.specs.declared.event.Event.{Event}
use Rattle.xs_build.specs.Document.{document}
use Rattle.xs_build.specs.DocumentLaws.{LinesGoByStep}
use Rattle.xs_result.specs.Built.{built}
use Rattle.xs_result_lines.specs.Laws.{LinesGoOn, NamesResolve}
use Rattle.xs_result_laws.specs.Events.{has_one_top}
use Rattle.xs_result_laws.specs.ResultLaws.{Represents, ResultsReadBack, with_outer_events}
use Rattle.xs_result_laws.proofs.BytesLemmas.{fit_represents}
use Rattle.xs_result_laws.proofs.OuterLemmas.{outer_bytes, outer_fit}
use Rattle.xs_result_laws.proofs.PlaceLemmas.{all_fit, depth_of, IsFit}
use Rattle.xs_result_laws.proofs.ShapeLemmas.{AreSound, IsOrderly, all_sound, built_length, built_orderly, built_sound}

alone_fit : NamesResolve → (es : List Event) → IsOrderly true false false 0 [] es → AreSound es → length es < 2 ^ 64 → has_one_top 0 false es ≡ true
    → IsFit [] false false false es
unfolding depth_of
alone_fit resolve es h s small top = all_fit resolve es [] false false false [] tt h s top (omega (arith, small))

pub results_read_back : LinesGoByStep → DocumentsAreRead → NamesResolve → LinesGoOn → ResultsReadBack
results_read_back by_step are_read resolve go_on es result texts small =
    let orderly : IsOrderly true false false 0 [] (built es) = built_orderly es result.balanced in
    let sound : AreSound (built es) = built_sound es (all_sound es result.named texts) in
    let fewer : length (built es) ≤ length es = built_length es in
    let few : length (built es) < 2 ^ 64 = omega (arith, fewer, small) in
    record {
      inside =
          λ limit. subst (λ bytes. Represents (document limit bytes) (with_outer_events (built es))) (outer_bytes go_on (built es) orderly)
          (fit_represents by_step are_read limit (with_outer_events (built es)) (outer_fit resolve (built es) orderly sound few));
      alone = λ top limit. fit_represents by_step are_read limit (built es) (alone_fit resolve (built es) orderly sound few top);
    }
