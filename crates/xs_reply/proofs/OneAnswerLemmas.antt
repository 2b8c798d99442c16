-- A compiled stylesheet makes one answer of a source, by whichever index its rules are found.
use Rattle.std.proofs.Common.{◌≡◌, ℕ, suc, ◌-◌, List, Bool, true, false, Some, sym, ap, subst, ◌∙◌}
use Rattle.std.proofs.Math.Path.{fun_ext}
use Rattle.std.proofs.lemmas.Bool.{true≢false}
use Rattle.xs_pieces.specs.Collection.{ticks_in}
use Rattle.xs_pieces.specs.Tree.{task_at}
use Rattle.xs_rules.specs.WhiteSpace.{stripped}
use Rattle.xs_attribute_sets.specs.declared.index.SetIndex.{SetIndex}
use Rattle.xs_sheet.specs.declared.sheet.Sheet.{Sheet}
use Rattle.xs_trace.specs.Cut.{Cut, End, Whole, Fault, Needs, Spent, Full, cut}
use Rattle.xs_trace.specs.Mark.{Trace, tick_count}
use Rattle.xs_tree.specs.Record.{Record}
use Rattle.xs_tree.specs.Stripping.{without}
use Rattle.xs_body_spec.specs.Globals.{Settled, SettlesAll, Table, ended, settled, with_globals}
use Rattle.xs_body_spec.specs.Tasks.{Task}
use Rattle.xs_body_spec.specs.Ranks.{rank_of}
use Rattle.xs_body_spec.specs.Trace.{root_task, task_trace}
use Rattle.xs_keys.specs.KeyTables.{tables_of}
use Rattle.xs_body_spec.specs.World.{World, ground}
use Rattle.xs_body_spec.proofs.IndexLemmas.{settling-same, task-same}
use Rattle.xs_reply.specs.Answer.{Answer, Pieces, Place, no_pieces, stopped_answer}
use Rattle.xs_reply.specs.Evaluation.{IsCutAnswer, IsEndAnswer, IsEvaluated, IsEvaluatedOver, in_globals, in_pieces, in_root, root_cut, root_pieces}
use Rattle.xs_reply.specs.Inputs.{Document, joined}
use Rattle.xs_reply.specs.Job.{Job}
use Rattle.xs_reply.proofs.OneSettlingLemmas.{one-settling}
use Rattle.xs_reply.proofs.PlaceLemmas.{tree-same}

-- ---- by what settling comes to
abbrev reported : Answer → List (List ℕ) → Settled → Answer
reported x names (settled t) = x
reported x names (ended t s) = stopped_answer names s t.says t.ticks no_pieces

abbrev has_ended : Settled → Bool
has_ended (settled t) = false
has_ended (ended t s) = true

abbrev table_of : Settled → Table
table_of (settled t) = t
table_of (ended t s) = t

-- ---- an end has one answer
one-end : (stats : Bool) (sheet : Sheet) (e : End) (passed : Trace Task) (says : List (List ℕ)) (ticks : ℕ) (pieces : Pieces) (x y : Answer) →
    IsEndAnswer stats sheet e passed says ticks pieces x → IsEndAnswer stats sheet e passed says ticks pieces y → x ≡ y
one-end stats sheet Whole passed says ticks pieces x y p q = p ∙ sym q
one-end stats sheet (Fault f s) passed says ticks pieces x y p q = p ∙ sym q
one-end stats sheet (Needs g s) passed says ticks pieces x y p q = absurd p
one-end stats sheet (Spent s) passed says ticks pieces x y p q = p ∙ sym q
one-end stats sheet (Full s) passed says ticks pieces x y p q = p ∙ sym q

one-cut : (stats : Bool) (sheet : Sheet) (t : Table) (pieces : Pieces) (c : Cut Task) (x y : Answer) → IsCutAnswer stats sheet t pieces c x →
    IsCutAnswer stats sheet t pieces c y → x ≡ y
one-cut stats sheet t pieces c x y p q = one-end stats sheet c.end c.passed _ _ pieces x y p q

abbrev pieces-of : List Place → List Place → (Place → ℕ) → ℕ → ℕ → Pieces
pieces-of ps rs taken limit ticks = record { places = ps; reached = rs; taken = taken; limit = limit; ticks = ticks }

-- ---- two indexes
module _ (job : Job) (a : Sheet) (i j : SetIndex) (rs : List Record) where
  abbrev over : SetIndex → World
  over index = ground a index rs (tables_of rs a.keys)

  settling-one : (r s : Settled) → SettlesAll (over i) job.given job.budget r → SettlesAll (over j) job.given job.budget s → r ≡ s
  settling-one r s x y = one-settling (over j) job.budget job.given r s (settling-same (over i) j job.budget job.given r x) y

  cut-same : (t : Table) → root_cut job (over i) t ≡ root_cut job (over j) t
  cut-same t =
      ap (λ (x : Trace Task). cut x (job.budget - t.ticks) job.most_events)
      (sym (task-same (with_globals (over i) t.values) j (root_task (with_globals (over i) t.values))))

  places-same : (t : Table) → (root_pieces job (over i) t).places ≡ (root_pieces job (over j) t).places
  places-same t =
      let v = in_pieces job (over i) t in
      let u = in_pieces job (over j) t in
      tree-same (task_trace v) (task_trace u) (λ k. sym (task-same v j k)) (suc (rank_of v (root_task v))) (root_task v)

  reached-same : (t : Table) → (root_pieces job (over i) t).reached ≡ (root_pieces job (over j) t).reached
  reached-same t =
      let v = in_pieces job (over i) t in
      let u = in_pieces job (over j) t in
      tree-same (λ k. (cut (task_trace v k) (job.budget - t.ticks) job.most_events).passed)
      (λ k. (cut (task_trace u k) (job.budget - t.ticks) job.most_events).passed)
      (λ k. ap (λ (x : Trace Task). (cut x (job.budget - t.ticks) job.most_events).passed) (sym (task-same v j k))) (suc (rank_of v (root_task v)))
      (root_task v)

  taken-same : (t : Table) → (root_pieces job (over i) t).taken ≡ (root_pieces job (over j) t).taken
  taken-same t =
      let v = in_pieces job (over i) t in
      ap {B = Place → ℕ} (λ (own : Task → Trace Task) (p : Place). ticks_in own (record { ticks = job.budget - t.ticks; events = job.most_events })
      (task_at own (Some (root_task v)) p)) (fun_ext (λ k. sym (task-same v j k)))

  pieces-same : (t : Table) → root_pieces job (over i) t ≡ root_pieces job (over j) t
  pieces-same t =
      let most = job.budget - t.ticks in
      let before = root_pieces job (over i) t in
      let after = root_pieces job (over j) t in
      let passed = tick_count (root_cut job (over i) t).passed in
      ap (λ ps. pieces-of ps before.reached before.taken most passed) (places-same t)
      ∙ ap (λ rs. pieces-of after.places rs before.taken most passed) (reached-same t)
      ∙ ap (λ f. pieces-of after.places after.reached f most passed) (taken-same t)
      ∙ ap (λ (c : Cut Task). pieces-of after.places after.reached after.taken most (tick_count c.passed)) (cut-same t)

  one-run : (x y : Answer) → IsEvaluated job (over i) x → IsEvaluated job (over j) y → x ≡ y
  one-run x y (in_globals {t = t} {s = s} k e) (in_globals {t = u} {s = v} l o) =
      e ∙ ap (reported x a.modules) (settling-one (ended t s) (ended u v) k l) ∙ sym o
  one-run x y (in_globals {t = t} {s = s} k e) (in_root {t = u} l o) = absurd (true≢false (ap has_ended (settling-one (ended t s) (settled u) k l)))
  one-run x y (in_root {t = t} k e) (in_globals {t = u} {s = v} l o) = absurd (true≢false (sym (ap has_ended (settling-one (settled t) (ended u v) k l))))
  one-run x y (in_root {t = t} k e) (in_root {t = u} l o) =
      let same : t ≡ u = ap table_of (settling-one (settled t) (settled u) k l) in
      one-cut job.stats a u (root_pieces job (over j) u) (root_cut job (over j) u) x y
      (subst (λ z. IsCutAnswer job.stats a z (root_pieces job (over j) z) (root_cut job (over j) z) x) same
      (subst (λ ps. IsCutAnswer job.stats a t ps (root_cut job (over j) t) x) (pieces-same t)
      (subst (λ c. IsCutAnswer job.stats a t (root_pieces job (over i) t) c x) (cut-same t) e))) o

pub one-evaluated : (job : Job) (sheet : Sheet) (ds : List Document) (x y : Answer) → IsEvaluatedOver job sheet ds x → IsEvaluatedOver job sheet ds y → x ≡ y
one-evaluated job sheet ds x y p q = one-run job sheet p.0 q.0 (without (stripped sheet.strips (joined ds)) (joined ds)) x y p.1 q.1
