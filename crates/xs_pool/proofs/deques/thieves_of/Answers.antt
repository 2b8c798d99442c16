use Rattle.std.proofs.Common.{arith, ap, ◌≡◌, ◌∷◌, ◌++◌, ◌∙◌, [], sym, map, take, get_or}
use Rattle.std.proofs.lemmas.List.{map-append, take_more}
use Rattle.crossbeam_deque.specs.Handles.{worker_deque, stealer_deque}
use Rattle.xs_pool.proofs.ListLemmas.{length-image, image-at}
use Rattle.xs_pool.proofs.deques.thieves_of.Goals as goal

pub loop-owner-preserved : goal.loop-owner-preserved
loop-owner-preserved g c =
    let ids = map worker_deque c.args.owners.now in
    let k = c.loop-owner.owner-index in
    let o = c.owner-item.result in
    let t = c.in_ok-stealer.field-0 in
    let lt = c.loop-owner-test.true in
    let m = length-image worker_deque c.args.owners.now in
    let at : stealer_deque t ≡ get_or ids k (worker_deque o) =
    c.in_ok-stealer.ensures.0 ∙ ap worker_deque c.owner-item.is ∙ sym (image-at worker_deque c.args.owners.now k o (worker_deque o) (omega (arith, lt))) in
    ap (map stealer_deque) c.in_ok-push.ensures.items ∙ map-append stealer_deque c.loop-owner.thieves.items (t ∷ [])
    ∙ ap (λ l. l ++ stealer_deque t ∷ []) c.loop-owner.invariant ∙ ap (λ d. take k ids ++ d ∷ []) at
    ∙ sym (take_more ids k (worker_deque o) (omega (arith, lt, m)))
