-- What a piece of a run gives.
use Rattle.std.proofs.Common.{◌≡◌, ℕ, ◌+◌, ◌-◌, ◌*◌, ◌<◌, ◌≤◌, List, ◌++◌, [], Option, Some, None, Result, Ok, Err, Bool, true, false, cond, nat_lt, IfOk, OnErr}
use Rattle.std.proofs.Common.{refl, sym, ap, subst, ◌∙◌, arith, append-nil}
use Rattle.std.proofs.lemmas.Bool.Decides.{nat_tests}
use Rattle.xs_trace.specs.Mark.{Trace, tick_count}
use Rattle.xs_trace.specs.Cut.{End, Whole, Fault, Needs, Spent, Full, Cut, cut, nowhere}
use Rattle.xs_trace.specs.Fill.{numbered, tasks_of}
use Rattle.xs_trace.specs.State.{State, All, Above, adds}
use Rattle.xs_trace.specs.Play.{Reported, play, reported_of, left_of, end_of, raised, Before, IsStep}
use Rattle.xs_trace.specs.PlayLaws.{ReportsCut}
use Rattle.xs_trace.specs.Kept.{ended_by, IsEnded}
use Rattle.xs_trace.specs.Total.{over}
use Rattle.xs_trace.specs.declared.item.Limits.{Limits}
use Rattle.xs_trace.specs.declared.item.Ended.{Ended}
use Rattle.xs_trace.specs.declared.recorder.Halt.{Halt}
use Rattle.xs_trace.specs.declared.recorder.Halt.TheVariants as halt
use Rattle.xs_trace.proofs.CutLemmas.{cut-longest, parts-join}
use Rattle.xs_trace.proofs.PlayLemmas.{play-cut}
use Rattle.xs_trace.proofs.KeptLemmas.{some_same, all_same}
use Rattle.xs_trace.proofs.KnownLemmas.{numbered-laws}
use Rattle.xs_record.specs.Outcome.{part_marks, AreParts}
use Rattle.xs_record.specs.Paying.{ended_in}
use Rattle.xs_record.specs.Piece.{above_at, held, started, HasAdded, EndsBy, IsBeginning, IsPieceOf, IsWhole, NeverOver}
use Rattle.xs_record.specs.Store.{Store, limited_to}
use Rattle.xs_record.specs.declared.outcome.Outcome.{Outcome}

kind : Option ℕ → ℕ
kind None = 0
kind (Some y) = 1

none-some : (t : ℕ) → None ≡ Some t → ⊥
unfolding kind
none-some t p = let d : 0 ≡ 1 = ap kind p in absurd (omega (arith, d))

-- How far a run came: what it reported is a beginning, and what is left is exact.
record Came {H : Type 0} (c : Cut H) (b left : ℕ) (marks : Trace H) : Type 0 where
  pub rest : Trace H
  pub whole : c.passed ≡ marks ++ rest
  pub exact : left + tick_count marks ≡ b

-- The same where it came to its end.
record CameWhole {H : Type 0} (c : Cut H) (m : Trace H) (e : End) : Type 0 where
  pub marks : m ≡ c.passed
  pub end : e ≡ c.end

came-all : {H : Type 0} (c : Cut H) (b left : ℕ) (marks : Trace H) → marks ≡ c.passed → tick_count c.passed ≤ b → left ≡ b - tick_count c.passed →
    Came c b left marks
came-all c b left marks m le e =
    let f : tick_count marks ≡ tick_count c.passed = ap tick_count m in
    record { rest = []; whole = sym m ∙ sym (append-nil marks); exact = omega (arith, le, e, f) }

came-end : {H : Type 0} (c : Cut H) (b left : ℕ) (marks : Trace H) (g : Reported H) (e : End) → ReportsCut (All []) b c g → tick_count c.passed ≤ b →
    reported_of g ≡ All marks → left_of g ≡ Some left → end_of g ≡ e → Came c b left marks × CameWhole c marks e
came-end c b left marks g e h le t l n =
    let m : marks ≡ c.passed = all_same (sym t ∙ h.reported) in
    let d : left ≡ b - tick_count c.passed = some_same (sym l ∙ h.left) in
    (came-all c b left marks m le d, record { marks = m; end = sym n ∙ h.end })

-- an end in Over
came-over : {H : Type 0} (c : Cut H) (b left : ℕ) (marks : Trace H) (g : Reported H) (s : State H) → ReportsCut (All []) b c g → tick_count c.passed ≤ b →
    s.reported ≡ All marks → s.left ≡ Some left → Before s g → Came c b left marks
came-over {H} c b left marks g s h le t l q =
    let w : c.passed ≡ marks ++ q.rest = all_same (sym h.reported ∙ q.reported ∙ ap (λ o. adds o q.rest) t) in
    let f : left ≡ (b - tick_count c.passed) + tick_count q.rest = some_same (sym l ∙ q.left ∙ ap (λ o. raised o (tick_count q.rest)) h.left) in
    let j : tick_count c.passed ≡ tick_count marks + tick_count q.rest = ap tick_count w ∙ (parts-join marks q.rest).ticks in
    record { rest = q.rest; whole = w; exact = omega (arith, le, f, j) }

-- How it came to its end, by what the last call gave; where that is Over, the total is the one that the state has.
abbrev CameBy : {H : Type 0} → Result (Unit {0}) Halt → Cut H → Trace H → Option ℕ → Type 0
CameBy (Ok u) c m h = CameWhole c m Whole
CameBy (Err (halt.Fault f p)) c m h = CameWhole c m (Fault f p)
CameBy (Err (halt.Needs g p)) c m h = CameWhole c m (Needs g p)
CameBy (Err (halt.Spent p)) c m h = CameWhole c m (Spent p)
CameBy (Err (halt.Full p)) c m h = CameWhole c m (Full p)
CameBy (Err (halt.Over t)) c m h = h ≡ Some t
CameBy (Err halt.NoMemory) c m h = Unit {0}

abbrev PlayOf : {H : Type 0} → Trace H → Limits → ℕ → ℕ → Reported H
PlayOf x l m o = play x (started l m o)

reports : {H : Type 0} (x : Trace H) (l : Limits) (m o : ℕ) → ReportsCut (All []) l.ticks (cut x l.ticks l.events) (PlayOf x l m o)
reports x l m o = play-cut x (All []) nowhere l.ticks l.events (held m o l.ticks)

within : {H : Type 0} (x : Trace H) (l : Limits) → tick_count (cut x l.ticks l.events).passed ≤ l.ticks
within x l = (cut-longest x nowhere l.ticks l.events).within

total_in : Option Above → ℕ
total_in None = 0
total_in (Some a) = a.total

pub total-same : (a b : Above) → Some a ≡ Some b → a.total ≡ b.total
unfolding total_in
total-same a b e = ap total_in e

some_kind : Option Above → ℕ
some_kind None = 0
some_kind (Some a) = 1

above-reported : (o : Option ℕ) (left : ℕ) (a : Above) → above_at o left ≡ Some a → o ≡ Some a.total
unfolding some_kind
above-reported None left a e = let d : 0 ≡ 1 = ap some_kind e in absurd (omega (arith, d))
above-reported (Some t) left a e = ap Some (total-same _ a e)

came : {H : Type 0} (x : Trace H) (l : Limits) (m o left : ℕ) (last : Option ℕ) (marks : Trace H) (reported : Result (Unit {0}) Halt) (s : State H)
    (e : Ended) →
    IsEnded reported e → s.reported ≡ All marks → s.left ≡ Some left → s.shared.above ≡ above_at last left → IsStep (PlayOf x l m o) reported s →
    Came (cut x l.ticks l.events) l.ticks left marks × CameBy reported (cut x l.ticks l.events) marks last
came x l m o left last marks (Ok u) s e en t f v q =
    came-end _ _ left marks (PlayOf x l m o) Whole (reports x l m o) (within x l) (ap reported_of q ∙ t) (ap left_of q ∙ f) (ap end_of q)
came x l m o left last marks (Err (halt.Fault n p)) s e en t f v q =
    came-end _ _ left marks (PlayOf x l m o) (Fault n p) (reports x l m o) (within x l) (ap reported_of q ∙ t) (ap left_of q ∙ f) (ap end_of q)
came x l m o left last marks (Err (halt.Needs n p)) s e en t f v q = absurd en
came x l m o left last marks (Err (halt.Spent p)) s e en t f v q =
    came-end _ _ left marks (PlayOf x l m o) (Spent p) (reports x l m o) (within x l) (ap reported_of q ∙ t) (ap left_of q ∙ f) (ap end_of q)
came x l m o left last marks (Err (halt.Full p)) s e en t f v q =
    came-end _ _ left marks (PlayOf x l m o) (Full p) (reports x l m o) (within x l) (ap reported_of q ∙ t) (ap left_of q ∙ f) (ap end_of q)
came x l m o left last marks (Err (halt.Over n)) s e en t f v q =
    (came-over _ _ left marks (PlayOf x l m o) s (reports x l m o) (within x l) t f q.before, above-reported last left _ (sym v ∙ ap (λ h. h.above) q.shared))
came x l m o left last marks (Err halt.NoMemory) s e en t f v q = absurd en

-- ---- the outcome

module _ {H : Type 0} (x : Trace H) (l : Limits) (old new : List H) (o : Outcome) (marks : Trace H) (parts : part_marks o.parts.items ≡ numbered 0 marks)
    (tasks : new ≡ old ++ tasks_of marks) (are : AreParts 0 o.parts.items) (count : o.ticks ≡ tick_count marks) where
  abbrev C : Cut H
  C = cut x l.ticks l.events

  -- where no total was above the most
  whole-is : (e : Ended) (end : End) → CameWhole C marks end → ended_by end ≡ Some e → o.ended ≡ e → EndsBy None x l old new o
  whole-is e end w en d =
      let n = (numbered-laws H).cuts x nowhere l.ticks l.events 0 in
      record {
        outcome = record {
          marks = parts ∙ ap (numbered 0) w.marks ∙ sym (ap (λ z. z.passed) n);
          parts = are;
          ended = ap (λ z. ended_by z.end) n ∙ ap ended_by (sym w.end) ∙ en ∙ ap Some (sym d);
          ticks = count ∙ ap tick_count w.marks ∙ sym ((numbered-laws H).ticks 0 (cut x l.ticks l.events).passed) ∙ sym (ap (λ z. tick_count z.passed) n);
        };
        tasks = tasks ∙ ap (λ z. old ++ tasks_of z) w.marks;
      }

  ends-whole : (reported : Result (Unit {0}) Halt) (h : Option ℕ) (e : Ended) → IsEnded reported e → CameBy reported C marks h → ((t : ℕ) → h ≡ Some t → ⊥) →
      o.ended ≡ e → EndsBy None x l old new o
  ends-whole (Ok u) h e en v none d = whole-is e Whole v en d
  ends-whole (Err (halt.Fault f p)) h e en v none d = whole-is e (Fault f p) v en d
  ends-whole (Err (halt.Needs f p)) h e en v none d = absurd en
  ends-whole (Err (halt.Spent p)) h e en v none d = whole-is e (Spent p) v en d
  ends-whole (Err (halt.Full p)) h e en v none d = whole-is e (Full p) v en d
  ends-whole (Err (halt.Over t)) h e en v none d = absurd (none t v)
  ends-whole (Err halt.NoMemory) h e en v none d = absurd en

  ends : (b left : ℕ) (reported : Result (Unit {0}) Halt) (last n : Option ℕ) (e : Ended) → IsEnded reported e → Came C b left marks
      → CameBy reported C marks last →
      ((t : ℕ) → last ≡ Some t → n ≡ Some t) → o.ended ≡ ended_in n e → EndsBy n x l old new o
  ends b left reported last None e en w v st d = ends-whole reported last e en v (λ t q. none-some t (st t q)) d
  ends b left reported last (Some t) e en w v st d =
      (d, record { marks = marks; rest = w.rest; passed = w.whole; parts = parts; tasks = tasks })

pub piece-is : {H K : Type 0} (l : Limits) (total : K) (most added after unpaid left last n free : ℕ) (old new : List H) (store : Store H) (room : Option ℕ)
    (reported : Result (Unit {0}) Halt) (e : Ended) (o : Outcome) →
    IsEnded reported e → part_marks o.parts.items ≡ numbered 0 store.reported → new ≡ old ++ tasks_of store.reported → AreParts 0 o.parts.items →
    o.ticks ≡ l.ticks - left → after ≡ added + unpaid → ((t : ℕ) → over most last ≡ Some t → over most n ≡ Some t) → o.ended ≡ ended_in (over most n) e →
    IsPieceOf (record { limits = l; total = total; most = most; all = added + (unpaid + left); free = free }) reported
    (limited_to room left (held most last left) store) after n old new o
piece-is {H} l total most added after unpaid left last n free old new store room reported e o en mk ts are ti af st d = λ x first before q all.
    let w = came x l most first left (over most last) store.reported reported (limited_to room left (held most last left) store) e en refl refl refl q in
    let ex : left + tick_count store.reported ≡ l.ticks = w.0.exact in
    let count : o.ticks ≡ tick_count store.reported = omega (arith, ti, ex) in
    record {
      added = omega (arith, all, af, ti, ex);
      ticks = count ∙ sym ((numbered-laws H).ticks 0 store.reported) ∙ ap tick_count (sym mk);
      parts = are;
      ends = ends x l old new o store.reported mk ts are count l.ticks left reported (over most last) (over most n) e en w.0 w.1 st d;
    }

-- what was added to a total is all but what is unpaid
pub has_added : (limit added unpaid left additions n : ℕ) → unpaid < 1024 → left + (1024 * additions + unpaid) ≡ limit → Some left ≡ Some n →
    HasAdded (added + (unpaid + left)) limit n added
has_added limit added unpaid left additions n few all e =
    let f : left ≡ n = some_same e in
    record {
      unpaid = unpaid;
      are_unpaid = record { additions = additions; few = few; all = subst (λ k. k + (1024 * additions + unpaid) ≡ limit) f all };
      sum = ap (λ k. added + (unpaid + k)) f;
    }

-- ---- a total to which nobody else adds

some-over : (b : Bool) (t u : ℕ) → cond b (Some t) None ≡ Some u → b ≡ true
some-over true t u e = refl
some-over false t u e = absurd (none-some u e)

above-most : (m t u : ℕ) → over m t ≡ Some u → m < t
above-most m t u e = let q : nat_lt m t ≡ true = some-over (nat_lt m t) t u e in grind (arith, nat_tests, q)

beginning-within : {H : Type 0} (x : Trace H) (l : Limits) (old new : List H) (o : Outcome) → IsBeginning x l old new o →
    tick_count (part_marks o.parts.items) ≤ l.ticks
beginning-within {H} x l old new o i =
    let a : tick_count (part_marks o.parts.items) ≡ tick_count i.marks = ap tick_count i.parts ∙ (numbered-laws H).ticks 0 i.marks in
    let b : tick_count (cut x l.ticks l.events).passed ≡ tick_count i.marks + tick_count i.rest =
    ap tick_count i.passed ∙ (parts-join i.marks i.rest).ticks in
    omega (arith, a, b, within x l)

by-end : {H : Type 0} (x : Trace H) (l : Limits) (after last : ℕ) (old new : List H) (o : Outcome) (n : Option ℕ) → over l.ticks last ≡ n → last ≤ after →
    after ≡ 0 + o.ticks → o.ticks ≡ tick_count (part_marks o.parts.items) → EndsBy n x l old new o → IsWhole x l old new o
by-end x l after last old new o None q h a c e = e
by-end x l after last old new o (Some t) q h a c e =
    absurd (omega (arith, h, a, c, above-most l.ticks last t q, beginning-within x l old new o e.1))

pub never-over : (H : Type 0) → NeverOver H
never-over H x l after last old new o h i = by-end x l after last old new o (over l.ticks last) refl h i.added i.ticks i.ends

-- ---- what is said of an answer

pub of-ok : {A E : Type 0} (r : Result A E) (x : A) (P : A → Type 0) → r ≡ Ok x → IfOk r P → P x
of-ok r x P e h = subst (λ q. IfOk q P) e h

pub of-err : {A E : Type 0} (r : Result A E) (x : E) (Q : Type 0) → r ≡ Err x → OnErr r Q → Q
of-err r x Q e h = subst (λ q. OnErr q Q) e h

pub if-map : {A E : Type 0} (r : Result A E) (P Q : A → Type 0) → ((x : A) → P x → Q x) → IfOk r P → IfOk r Q
if-map (Ok x) P Q f h = f x h
if-map (Err e) P Q f h = tt
