-- What a run in pieces gives of the root of a source, by what is promised of it.
use Rattle.std.proofs.Common.{◌≡◌, ◌<◌, ◌≤◌, ◌+◌, ◌-◌, ◌*◌, ◌++◌, ◌∙◌, ℕ, zero, suc, List, [], ◌∷◌, Option, Some, None, arith, refl, sym, ap, subst}
use Rattle.xs_assemble.specs.Assembled.{EndsIn, IsAssembled}
use Rattle.xs_assemble.specs.Claims.{AreAll, AreOfTree, IsReached, claimed_ticks}
use Rattle.xs_core.specs.Good.{total}
use Rattle.xs_assemble.specs.declared.assembled.Executed.{Executed}
use Rattle.xs_record.specs.Segment.{items_of}
use Rattle.xs_body_spec.specs.Globals.{Table, with_globals}
use Rattle.xs_body_spec.specs.Tasks.{Task}
use Rattle.xs_body_spec.specs.Trace.{root_task, task_trace}
use Rattle.xs_body_spec.specs.World.{World, with_grain}
use Rattle.std.specs.List.{All, Contains}
use Rattle.std.specs.Option.{IsSome}
use Rattle.xs_body_spec.specs.Inside.{IsWorld}
use Rattle.xs_eval_spec.specs.Conditions.{IsInIf}
use Rattle.xs_pieces.specs.Ready.{IsReady}
use Rattle.xs_task_laws.specs.Laws.{SheetIsReady, WholeIsRun}
use Rattle.xs_task_laws.specs.Placed.{IsOwn, Placed, at_place, own, whole}
use Rattle.xs_value.specs.declared.value.Value.{Value}
use Rattle.xs_trace.proofs.CutLemmas.{cut-longest}
use Rattle.xs_trace.specs.Cut.{Cut, cut, nowhere}
use Rattle.xs_trace.specs.Kept.{marks_of}
use Rattle.xs_trace.specs.Mark.{Trace, events_of, messages_of, tick_count, ticks}
use Rattle.xs_trace.specs.declared.item.Item.{Item}
use Rattle.xs_trace.specs.declared.item.Item.TheVariants as item
use Rattle.xs_trace.specs.declared.item.Limits.{Limits}
use Rattle.xs_trace.specs.declared.item.Site.{Site}
use Rattle.xs_reply.specs.Answer.{Place}
use Rattle.xs_reply.specs.Headline.{AreSome, claimed_places}
use Rattle.xs_reply.specs.Evaluation.{in_pieces, root_cut, root_pieces}
use Rattle.xs_reply.specs.Job.{Job}
use Rattle.xs_reply.specs.Places.{reached_places, taken_at, task_places, tree_places}
use Rattle.xs_reply.specs.Ran.{IsRan}
use Rattle.xs_reply.proofs.ClaimLemmas.{contains-has}
use Rattle.xs_reply.proofs.PlacedLemmas.{are-same, are-some, claims-same, is-reached}

-- ---- the events of items, whatever fills holes

events-ticks : {A B : Type 0} → (s : Site) (n : ℕ) (x : Trace A) (y : Trace B) → events_of x ≡ events_of y →
    events_of (ticks s n [] ++ x) ≡ events_of (ticks s n [] ++ y)
events-ticks s zero x y e = e
events-ticks s (suc n) x y e = events-ticks s n x y e

events-any : (A B : Type 0) (is : List Item) → events_of {H = A} (marks_of is) ≡ events_of {H = B} (marks_of is)
events-any A B [] = refl
events-any A B (item.Run m l n ∷ is) =
    events-ticks (record { «module» = m; line = l }) n (marks_of {H = A} is) (marks_of {H = B} is) (events-any A B is)
events-any A B (item.Put e ∷ is) = ap (λ es. e ∷ es) (events-any A B is)
events-any A B (item.Say t ∷ is) = events-any A B is

-- it takes no more ticks than its limit
pub run_within : (v : World) (root : Placed) (b : ℕ) (m : Option ℕ) (e : Executed) → IsAssembled (cut (whole v root) b m) e.assembled →
    e.assembled.ticks ≤ b
run_within v root b m e is = let l = cut-longest (whole v root) nowhere b m in omega (arith, is.ticks, l.within)

-- a task has a place
has-places : (v : World) (t : Task) → task_places v t ≡ [] → ⊥
unfolding tree_places
has-places v t e = absurd (cc)

-- a grain of a job is not 0
some_grain : (n : ℕ) → 1 ≤ n → Some n ≡ Some 0 → ⊥
some_grain n l e = let z : n ≡ 0 = cc in omega (arith, l, z)

-- it is ready, where all globals have values
pub ready : SheetIsReady → (runner w : World) (globals : List (Option Value)) (g : ℕ) → runner ≡ with_grain (Some g) (with_globals w globals) →
    IsWorld w → All (IsInIf w.tree) globals → All IsSome globals → 1 ≤ g →
    IsReady (IsOwn runner) (λ (t : Placed). t.place) (own runner) (whole runner)
ready law runner w globals g over is inside values some =
    let world : IsWorld (with_grain (Some g) (with_globals w globals)) = record {
      sheet = is.sheet;
      sets = is.sets;
      globals = inside;
      tables = is.tables;
    } in
    law runner (subst IsWorld (sym over) world) (subst (λ (v : World). All IsSome v.globals) (sym over) values)
    (λ e. some_grain g some (sym (ap (λ (v : World). v.grain) over) ∙ e))

module _ (job : Job) (w : World) (t : Table) (runner : World) (root : Placed) (e : Executed) (none : w.grain ≡ None)
    (over : runner ≡ in_pieces job w t) (at : root ≡ at_place [] (root_task runner)) (law : WholeIsRun)
    (is : IsAssembled (cut (whole runner root) (job.budget - t.ticks) job.most_events) e.assembled)
    (count : ℕ) (tree : AreOfTree (own runner) root count e.claims.items) where
  task-is : root.task ≡ root_task runner
  task-is = ap (λ (p : Placed). p.task) at

  world-is : with_grain None runner ≡ with_globals w t.values
  world-is = ap (with_grain None) over ∙ ap (λ g. with_grain g (with_globals w t.values)) (sym none)

  cut-is : cut (task_trace (with_grain None runner) root.task) (job.budget - t.ticks) job.most_events ≡ root_cut job w t
  cut-is =
      ap (λ (k : Task). cut (task_trace (with_grain None runner) k) (job.budget - t.ticks) job.most_events) task-is
      ∙ ap (λ (v : World). cut (task_trace v (root_task v)) (job.budget - t.ticks) job.most_events) world-is

  places-are : task_places runner root.task ≡ (root_pieces job w t).places
  places-are = ap (task_places runner) task-is ∙ ap (λ (v : World). task_places v (root_task v)) over

  reached-are : reached_places runner (job.budget - t.ticks) job.most_events root.task ≡ (root_pieces job w t).reached
  reached-are =
      ap (reached_places runner (job.budget - t.ticks) job.most_events) task-is
      ∙ ap (λ (v : World). reached_places v (job.budget - t.ticks) job.most_events (root_task v)) over

  abbrev limits : Limits
  limits = record { ticks = job.budget - t.ticks; events = job.most_events }

  taken-are : claimed_ticks (own runner) root limits e.claims.items ≡ total (root_pieces job w t).taken (claimed_places e.claims.items)
  taken-are =
      claims-same runner limits root e.claims.items
      ∙ ap (λ (k : Task). total (taken_at runner (job.budget - t.ticks) job.most_events k) (claimed_places e.claims.items)) task-is
      ∙ ap (λ (v : World). total (taken_at v (job.budget - t.ticks) job.most_events (root_task v)) (claimed_places e.claims.items)) over

  pub is_ran : (e.assembled.end ≡ None → AreAll (own runner) root e.claims.items × (e.assembled.inline ≡ 0) × (e.worked ≡ e.assembled.ticks)) →
      e.assembled.ticks ≤ e.worked → (0 < e.assembled.inline → job.budget - t.ticks < e.worked) →
      (0 < e.assembled.inline → job.budget - t.ticks < claimed_ticks (own runner) root limits e.claims.items) →
      e.worked ≤ 2 * (job.budget - t.ticks) + 1024 * count →
      ((p : Place) → IsReached (own runner) root limits p → (Contains (claimed_places e.claims.items) p → ⊥) →
      job.budget - t.ticks < claimed_ticks (own runner) root limits e.claims.items) →
      IsRan job count w t e
  is_ran all taken above over_claimed bound reached =
      let g = law runner root (job.budget - t.ticks) job.most_events in
      let took : e.assembled.ticks ≡ tick_count (root_cut job w t).passed =
      is.ticks ∙ g.ticks ∙ ap (λ (c : Cut Task). tick_count c.passed) cut-is in
      record {
        events =
            events-any Task Placed (items_of e.assembled.items) ∙ ap events_of is.marks ∙ g.events
            ∙ ap (λ (c : Cut Task). events_of c.passed) cut-is;
        messages = is.says ∙ g.messages ∙ ap (λ (c : Cut Task). messages_of c.passed) cut-is;
        end = subst (λ k. EndsIn k e.assembled.end) (g.end ∙ ap (λ (c : Cut Task). c.end) cut-is) is.end;
        ticks = took;
        run = record {
          claimed = subst (λ ps. AreSome (claimed_places e.claims.items) ps) places-are (are-some runner root count e.claims.items tree);
          workers = tree.workers;
          first = tree.first;
          whole = λ n. let h = all n in (are-same runner root count e.claims.items tree h.0 ∙ places-are, h.1, h.2 ∙ took);
          taken = omega (arith, took, taken);
          again = λ h. (above h, (let a = over_claimed h in let s = taken-are in omega (arith, a, s)));
          reached = λ p c n.
              let s = taken-are in
              let a = reached p (is-reached runner limits root p
              (contains-has (reached_places runner limits.ticks limits.events root.task) p (subst (λ ps. Contains ps p) (sym reached-are) c))) n in
              omega (arith, a, s);
          bound = bound;
          idle = λ p. absurd (has-places runner root.task (places-are ∙ p));
        };
      }
