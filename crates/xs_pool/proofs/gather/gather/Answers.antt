use Rattle.std.proofs.Common.{arith, ap, ◌≡◌, ◌+◌, ◌∙◌, List, sym, subst, length, get_or, map, reverse}
use Rattle.std.specs.List.{All}
use Rattle.crossbeam_deque.specs.Handles.{worker_deque}
use Rattle.xs_pool.specs.Rule.{all_parts}
use Rattle.xs_pool.specs.Rights.{AreRights}
use Rattle.xs_pool.specs.Owners.{parts_of, OwnerOf}
use Rattle.xs_pool.specs.Workers.{deque_of}
use Rattle.xs_pool.specs.declared.member.Member.{Member}
use Rattle.xs_pool.proofs.CrewLemmas.{settled}
use Rattle.xs_pool.proofs.ListLemmas.{all-image, all-of-all, image-image, length-image, length-reversed}
use Rattle.xs_pool.proofs.gather.gather.Goals as goal

pub settle-requires : goal.settle-requires
settle-requires g c =
    let e = c.in_ok-owners.ensures in
    let p = c.in_ok-owners.field-0 in
    let ms = reverse c.args.members.items in
    let deque : Member g.row.T.Denot g.row.K.Denot → OwnerOf g.row.T.Denot g.row.K.Denot = λ (m : Member g.row.T.Denot g.row.K.Denot). m.deque in
    let n = ap length e.rows ∙ length-image (λ (m : Member g.row.T.Denot g.row.K.Denot). m.rights) ms ∙ length-reversed c.args.members.items in
    let o = ap length e.owners ∙ length-image deque ms ∙ length-reversed c.args.members.items in
    let ids : map worker_deque p.owners.items ≡ map deque_of ms = ap (map worker_deque) e.owners ∙ image-image worker_deque deque ms in
    record {
      few = let f = c.requires.few in omega (arith, n, f);
      parts = subst (All (λ x. parts_of x + length p.rows.items ≡ all_parts)) (sym e.owners)
          (all-image (λ x. parts_of x + length p.rows.items ≡ all_parts) deque ms (λ k d l. let q = c.requires.parts k d l in omega (arith, q, n)));
      rows = subst (All (λ r. AreRights (map worker_deque p.owners.items) r.items × (length r.items ≡ length p.owners.items))) (sym e.rows)
          (all-image (λ r. AreRights (map worker_deque p.owners.items) r.items × (length r.items ≡ length p.owners.items))
          (λ (m : Member g.row.T.Denot g.row.K.Denot). m.rights) ms
          (λ k d l. let q = c.requires.rights k d l in (subst (λ x. AreRights {T = g.row.T.Denot} x (get_or ms k d).rights.items) (sym ids) q.0, q.1 ∙ sym o)));
      left = subst (λ (l : List g.row.T.Denot). All g.K.Known.waits l) (sym e.kept)
          (all-of-all g.K.Known.waits (λ (m : Member g.row.T.Denot g.row.K.Denot). m.kept.items) ms c.requires.kept);
    }

pub returns : goal.returns
returns g c =
    let e = c.in_ok-owners.ensures in
    record {
      desks = e.desks;
      logs = e.logs;
      waits = c.in_ok-settle.ensures.left;
      left = λ h. settled h (reverse c.args.members.items) _ _ _ _ e.owners e.rows e.kept (c.in_ok-settle.ensures.all h);
    }
