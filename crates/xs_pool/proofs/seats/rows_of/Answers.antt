use Rattle.std.proofs.Common.{ap, ◌+◌, ◌∙◌, ℕ, sym, subst, length, map}
use Rattle.std.specs.List.{All}
use Rattle.std.proofs.lemmas.List.Elements.{All-push}
use Rattle.crossbeam_deque.specs.Handles.{worker_deque}
use Rattle.xs_pool.specs.Rights.{AreRights}
use Rattle.xs_pool.specs.Starts.{IsRow}
use Rattle.xs_pool.proofs.ListLemmas.{length-image, length-more}
use Rattle.xs_pool.proofs.seats.rows_of.Goals as goal

pub loop-before-preserved : goal.loop-before-preserved
loop-before-preserved g c =
    let i = c.loop-before.invariant in
    let r = c.in_ok-row.ensures in
    let e = c.in_ok-push.ensures.items in
    let rs = c.loop-before.rows.items in
    let row = c.in_ok-row.row in
    let ids = map worker_deque c.args.owners.now.items in
    record {
      deques = r.deques ∙ i.deques;
      «open» = r.«open»;
      rows = subst (All (λ x. IsRow ids x.items)) (sym e) (All-push (λ x. IsRow ids x.items) rs row i.rows (record {
        rights = subst (λ x. AreRights x row.items) i.deques r.rights;
        full = r.count ∙ sym (length-image worker_deque c.loop-before.owners.items) ∙ ap length i.deques;
        unused = r.unused;
      }));
      count = ap length e ∙ length-more rs row ∙ ap (λ (n : ℕ). n + 1) i.count;
    }
