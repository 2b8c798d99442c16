use Rattle.std.proofs.Common.{ap, ◌≡◌, ◌∙◌, sym, subst, map}
use Rattle.std.specs.List.{All}
use Rattle.crossbeam_deque.specs.Handles.{stealer_deque, worker_deque}
use Rattle.xs_ledger.specs.Shares.{ledger_id}
use Rattle.xs_pool.specs.Starts.{IsNew, IsRow}
use Rattle.xs_pool.proofs.ListLemmas.{as-long}
use Rattle.xs_pool.proofs.seats.seat_all.Goals as goal

pub members_of-requires : goal.members_of-requires
members_of-requires g c =
    let r = c.in_ok-rows.ensures in
    record {
      owners = as-long worker_deque worker_deque c.rows_of.new.owners.items c.in_ok-owners.owners.items r.deques ∙ c.in_ok-owners.ensures.count;
      rows = r.count;
      desks = c.in_ok-ledger.ensures.count;
      «open» = r.«open»;
      rights = subst (λ x. All (λ y. IsRow x y.items) c.in_ok-rows.rows.items) (sym r.deques) r.rows;
    }

pub returns : goal.returns
returns g c =
    let m = c.in_ok-members.ensures in
    let o = c.in_ok-ledger.ensures in
    let id = ledger_id c.in_ok-ledger.field-0.ledger.value in
    let t : map stealer_deque c.in_ok-thieves.thieves.items ≡ map worker_deque c.rows_of.new.owners.items =
    c.in_ok-thieves.ensures.deques ∙ ap (map worker_deque) c.deref.ensures.value in
    record {
      seats = o.seats;
      count = m.count;
      numbers = m.numbers;
      ends = as-long stealer_deque worker_deque c.in_ok-thieves.thieves.items c.rows_of.new.owners.items t
          ∙ as-long worker_deque worker_deque c.rows_of.new.owners.items c.in_ok-owners.owners.items c.in_ok-rows.ensures.deques
          ∙ c.in_ok-owners.ensures.count;
      deques = m.deques ∙ sym t;
      new = subst (λ x. All (IsNew id c.args.limit c.args.count x) c.in_ok-members.members.items) (sym t) (m.new id c.args.limit o.fresh);
    }
