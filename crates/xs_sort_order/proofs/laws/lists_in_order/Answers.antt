use Rattle.std.proofs.lemmas.List.Sorted.{ranks_by}
use Rattle.std.specs.Ordering.{is_lt}
use Rattle.xs_sort_order.proofs.InOrderLemmas.{in_order-permutation, in_order-rises, in_order-stable, is-in_order, sorted-rises}
use Rattle.xs_sort_order.specs.InOrder.{in_order}
use Rattle.xs_sort_order.proofs.laws.lists_in_order.Goals as goal

pub returns : goal.returns
returns g c = λ cmp xs o.
    let before = λ (x y : _). is_lt (cmp x y) in
    let weak = ranks_by o (λ x. x) in
    record {
      permutation = in_order-permutation before xs;
      sorted = sorted-rises before (in_order before xs) (in_order-rises before weak xs);
      stable = in_order-stable before weak xs;
      only = λ ys up stable. is-in_order before weak xs ys up stable;
    }
