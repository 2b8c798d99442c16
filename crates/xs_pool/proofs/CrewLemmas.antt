-- What all workers did together.
use Rattle.std.proofs.Common.{◌≡◌, ◌<◌, ◌+◌, ℕ, List, ◌++◌, length, get_or, map, reverse, ap, arith}
use Rattle.std.proofs.Common.{Vec, Global}
use Rattle.xs_trace.specs.Mark.{Trace}
use Rattle.xs_trace.specs.declared.item.Limits.{Limits}
use Rattle.xs_core.specs.Good.{total}
use Rattle.xs_pieces.specs.declared.piece.Piece.{Piece}
use Rattle.xs_pool.specs.declared.member.Member.{Member}
use Rattle.xs_pool.specs.declared.log.Log.{Log}
use Rattle.xs_pool.specs.Logs.{all_left, run_in}
use Rattle.xs_pool.specs.Owners.{all_given, all_taken, given_of, taken_of, OwnerOf}
use Rattle.xs_pool.specs.Rights.{stolen_by, RightOf}
use Rattle.xs_pool.specs.Together.{all_of}
use Rattle.xs_pool.specs.Workers.{came_to, given_in, held_by, taken_in, IsSame}
use Rattle.xs_pool.proofs.ListLemmas.{pair-sum, total-image, total-of-all, total-plus, total-reverse}
use Rattle.xs_pool.proofs.RunLemmas.{total-join}

-- what all owners gave and what was kept, by what was taken and is left
pub settled : {T K : Type 0} → (h : T → ℕ) (ms : List (Member T K)) (os : List (OwnerOf T K)) (rows : List (Vec (RightOf T) Global)) (kept left : List T) →
    os ≡ map (λ (m : Member T K). m.deque) ms → rows ≡ map (λ (m : Member T K). m.rights) ms → kept ≡ all_of (λ (m : Member T K). m.kept.items) ms →
    all_given h os + total h kept ≡ (all_taken h os + total (λ (r : Vec (RightOf T) Global). stolen_by h r.items) rows) + total h left →
    total (given_in h) ms ≡ total (taken_in h) ms + total h left
settled {T} {K} h ms os rows kept left eo er ek s =
    let a = ap (all_given h) eo in
    let b = total-image (λ (o : OwnerOf T K). total h (given_of o)) (λ (m : Member T K). m.deque) ms in
    let d = ap (all_taken h) eo in
    let e = total-image (λ (o : OwnerOf T K). total h (taken_of o)) (λ (m : Member T K). m.deque) ms in
    let f = ap (total (λ (r : Vec (RightOf T) Global). stolen_by h r.items)) er in
    let i = total-image (λ (r : Vec (RightOf T) Global). stolen_by h r.items) (λ (m : Member T K). m.rights) ms in
    let j = ap (total h) ek in
    let k = total-of-all h (λ (m : Member T K). m.kept.items) ms in
    let p = total-plus (λ (m : Member T K). total h (given_of m.deque)) (λ (m : Member T K). total h m.kept.items) ms in
    let q = total-plus (λ (m : Member T K). total h (taken_of m.deque)) (λ (m : Member T K). stolen_by h m.rights.items) ms in
    omega (arith, a, b, d, e, f, i, j, k, p, q, s)

module _ {H K : Type 0} (own : H → Trace H) (l : Limits) (ms ns : List (Member H K)) (e : length ns ≡ length ms)
    (same : (k : ℕ) (m n : Member H K) → k < length ns → IsSame own l (get_or ms k m) (get_or ns k n)) where
  -- what was run and is left is the root, and what finished pieces left
  pub all-recorded : (h : H → ℕ) (root : ℕ) (gs : List (Log H)) (left : List H) → gs ≡ map (λ (m : Member H K). m.log) (reverse ns) →
      total (given_in h) (reverse ns) ≡ total (taken_in h) (reverse ns) + total h left → total (held_by h) ms ≡ total (came_to h own l) ms + root →
      total (λ (g : Log H). run_in h g.pieces.items) gs + total h left ≡ root + total (λ (g : Log H). all_left h own l g.pieces.items) gs
  all-recorded h root gs left eg s t =
      let p = pair-sum (held_by h) (came_to h own l) (came_to h own l) (held_by h) ms ns e (λ k m n lt. (same k m n lt).tally h) in
      let a = total-plus (λ (m : Member H K). run_in h m.log.pieces.items) (given_in h) (reverse ns) in
      let b = total-plus (taken_in h) (λ (m : Member H K). all_left h own l m.log.pieces.items) (reverse ns) in
      let r = total-reverse (held_by h) ns in
      let q = total-reverse (came_to h own l) ns in
      let c = total-image (λ (g : Log H). run_in h g.pieces.items) (λ (m : Member H K). m.log) (reverse ns) in
      let d = total-image (λ (g : Log H). all_left h own l g.pieces.items) (λ (m : Member H K). m.log) (reverse ns) in
      let f = ap (total (λ (g : Log H). run_in h g.pieces.items)) eg in
      let j = ap (total (λ (g : Log H). all_left h own l g.pieces.items)) eg in
      omega (arith, p, a, b, r, q, c, d, f, j, s, t)

-- a sum over one log and those that came behind it
pub total-behind : {H : Type 0} → (f : Piece H → ℕ) (ps all : List (Piece H)) (gs : List (Log H)) → all ≡ ps ++ all_of (λ (g : Log H). g.pieces.items) gs →
    total f all ≡ total f ps + total (λ (g : Log H). total f g.pieces.items) gs
total-behind f ps all gs e =
    let a = ap (total f) e in
    let b = total-join f ps (all_of (λ g. g.pieces.items) gs) in
    let c = total-of-all f (λ g. g.pieces.items) gs in
    omega (arith, a, b, c)
