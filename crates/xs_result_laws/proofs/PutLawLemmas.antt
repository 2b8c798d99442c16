-- What a task puts can be written.
use Rattle.std.proofs.Common.{List, [], sym, ap, ◌∙◌}
use Rattle.std.proofs.lemmas.List.{append-nil}
use Rattle.xs_trace.specs.Mark.{Trace, events_of}
use Rattle.xs_trace.specs.declared.event.Event.{Event}
use Rattle.xs_making.specs.Laws.{CopiesAreWell, NamesAreWell}
use Rattle.xs_result_laws.specs.Events.{is_balanced}
use Rattle.xs_body_spec.specs.Tasks.{Task}
use Rattle.xs_body_spec.specs.Trace.{task_trace}
use Rattle.xs_result_laws.specs.PutLaws.{PutsWell, TasksPutWell}
use Rattle.xs_result_laws.proofs.BuiltLemmas.{each_well}
use Rattle.xs_result_laws.proofs.CopyLemmas.{balanced_none}
use Rattle.xs_result_laws.proofs.PartLemmas.{Well, parts_of}
use Rattle.xs_result_laws.proofs.TraceLemmas.{task_put}

puts_well : (x : Trace Task) → Well x → PutsWell x
puts_well x p =
    let es : List Event = events_of x in
    record {
      named = each_well es p.named;
      whole = λ g. record {
        balanced = ap (is_balanced 0) (sym (append-nil es)) ∙ p.balanced g 0 [] ∙ balanced_none;
        named = each_well es p.named;
      };
    }

pub tasks_put_well : NamesAreWell → CopiesAreWell → TasksPutWell
tasks_put_well names copies w t world job = puts_well (task_trace w t) (task_put w world (parts_of names copies w world) t job)
