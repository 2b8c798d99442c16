-- A run that is left to tasks, node by node.
use Rattle.std.proofs.Common.{◌≡◌, ℕ, zero, suc, ◌-◌, ◌≤◌, ◌==◌, List, [], ◌∷◌, ◌++◌, length, map, false, cond, refl, sym, ap, ◌∙◌, arith}
use Rattle.std.proofs.lemmas.Bool.Decides.{nat_tests}
use Rattle.std.proofs.lemmas.List.{append-nil, append_assoc}
use Rattle.xs_trace.specs.Mark.{Hole}
use Rattle.xs_trace.specs.Play.{Step, Goes, and_then, play}
use Rattle.xs_trace.specs.State.{State, shown}
use Rattle.xs_body_spec.specs.Tasks.{Task, with_node, task_behind, shared}
use Rattle.xs_body.specs.steps.Sharing.{Share, filled, share_step, shares, with_nodes}

by-room : (grain room : ℕ) (t : Task) (n : ℕ) (ns : List ℕ) (s : State Task) →
    play (map Hole (shared grain room t (n ∷ ns))) s ≡ and_then (share_step grain (record { task = t; room = room }) n s) (λ y m. shares grain y ns m)
by-room grain zero t n ns s = refl
by-room grain (suc room) t n ns s =
    let q : (suc room == 0) ≡ false = grind (arith, nat_tests) in
    let k : room ≡ suc room - 1 = omega arith in
    let done : Step Task Share = Goes (record { task = task_behind t n; room = grain - 1 }) (shown (Hole t) s) in
    let f : ℕ → Step Task Share = λ r. Goes (record { task = with_node t n; room = r }) s in
    ap (λ r. play (map Hole (shared grain r (with_node t n) ns)) s) k
    ∙ ap (λ b. and_then (cond b done (f (suc room - 1))) (λ y m. shares grain y ns m)) (sym q)

pub shares-next : (grain : ℕ) (z : Share) (n : ℕ) (ns : List ℕ) (s : State Task) →
    shares grain z (n ∷ ns) s ≡ and_then (share_step grain z n s) (λ y m. shares grain y ns m)
shares-next grain z n ns s = by-room grain z.room z.task n ns s

-- nodes for which there is room, one by one or at once
all-at-once : (grain room : ℕ) (t : Task) (own others : List ℕ) → length own ≤ room →
    shared grain room t (own ++ others) ≡ shared grain (room - length own) (with_nodes t own) others
all-at-once grain room t [] others le =
    let k : room ≡ room - 0 = omega arith in
    let e : t ≡ record { job = t.job; site = t.site; focus = t.focus; first = t.first; nodes = t.nodes } = refl in
    ap (λ (u : Task). shared grain room u others) e
    ∙ ap (λ ns. shared grain room (record { job = t.job; site = t.site; focus = t.focus; first = t.first; nodes = ns }) others) (sym (append-nil t.nodes))
    ∙ ap (λ r. shared grain r (with_nodes t []) others) k
all-at-once grain zero t (n ∷ own) others le = absurd (omega (arith, le))
all-at-once grain (suc room) t (n ∷ own) others le =
    let k : length own ≤ room = omega (arith, le) in
    let e : room - length own ≡ suc room - length (n ∷ own) = omega arith in
    all-at-once grain room (with_node t n) own others k
    ∙ ap (λ r. shared grain r (with_nodes (with_node t n) own) others) e
    ∙ ap (λ ns. shared grain (suc room - length (n ∷ own)) (record { job = t.job; site = t.site; focus = t.focus; first = t.first; nodes = ns }) others)
    (append_assoc t.nodes (n ∷ []) own)

pub shares-filled : (grain : ℕ) (z : Share) (own others : List ℕ) (s : State Task) → length own ≤ z.room →
    shares grain z (own ++ others) s ≡ shares grain (filled z own) others s
shares-filled grain z own others s le = ap (λ ts. play (map Hole ts) s) (all-at-once grain z.room z.task own others le)
