-- What an attempt at a global answers is the cut of its trace, and its value.
use Rattle.std.proofs.Common.{◌≡◌, ◌≤◌, ◌-◌, ℕ, zero, suc, List, [], ◌∷◌, ◌++◌, Option, Some, None, Result, Ok, Err, IfOk, refl, sym, ap, subst, ◌∙◌, arith}
use Rattle.std.proofs.Common.{append_assoc, append-nil}
use Rattle.xs_sheet.specs.declared.declarations.Global.{Global}
use Rattle.xs_trace.specs.Cut.{Cut, End, Whole, Fault, Needs, Spent, cut, nowhere}
use Rattle.xs_trace.specs.Keeping.{IsCutAt}
use Rattle.xs_trace.specs.Kept.{item_marks, marks_of}
use Rattle.xs_trace.specs.Mark.{Trace, messages_of, tick_count, ticks, untimed}
use Rattle.xs_trace.specs.Play.{Step, Goes, Ends, Reported, goes, and_then, IsStep, play}
use Rattle.xs_trace.specs.PlayLaws.{begun}
use Rattle.xs_trace.specs.State.{State, Log, Untimed}
use Rattle.xs_trace.specs.declared.event.Event.{Event}
use Rattle.xs_trace.specs.declared.fault.Fault.{Fault as RunFault}
use Rattle.xs_trace.specs.declared.item.Item.{Item}
use Rattle.xs_trace.specs.declared.item.Item.TheVariants as item
use Rattle.xs_trace.specs.declared.item.Site.{Site}
use Rattle.xs_trace.specs.declared.item.Spot.{Spot}
use Rattle.xs_trace.specs.declared.recorder.Halt.{Halt}
use Rattle.xs_trace.specs.declared.recorder.Halt.TheVariants as halt
use Rattle.xs_trace.proofs.CutLemmas.{cut-longest, parts-join}
use Rattle.xs_trace.proofs.KeptLemmas.{some_same, reported-is-cut, untimed_same, untimed-messages}
use Rattle.xs_trace.proofs.PlayLemmas.{then-goes, then-then}
use Rattle.xs_value.specs.declared.value.Value.{Value}
use Rattle.xs_body_spec.specs.Globals.{attempt_trace, attempt_value}
use Rattle.xs_body.specs.Results.{EndsAt, IsAttempt, Passed}
use Rattle.xs_body_spec.specs.Tasks.{Task}
use Rattle.xs_body_spec.specs.World.{World}
use Rattle.xs_body.specs.declared.attempts.Attempt.{Attempt}
use Rattle.xs_body.specs.declared.attempts.Attempt.TheVariants as attempt
use Rattle.xs_body.specs.steps.Attempts.{attempt_steps, StopsAt, IsAttemptOf}

-- a log without ticks, of nothing yet
abbrev no_marks : Log Task
no_marks = Untimed []

-- a step that gives a value behind what is reported
value_or : Value → Step Task Value → Value
value_or d (Goes x s) = x
value_or d (Ends e reported left h) = d

given-value : (g : Reported Task) (v y : Value) (m : State Task) → and_then g (λ u n. Goes v n) ≡ Goes y m → y ≡ v
unfolding value_or
given-value (Goes u s) v y m e = sym (ap (value_or v) e)
given-value (Ends end reported left h) v y m e = sym (ap (value_or v) e)

behind : (g : Reported Task) (v : Value) (h : Step Task Value) → and_then g (λ u n. Goes v n) ≡ h → g ≡ and_then h (λ x n. goes n)
behind g v h e = sym (then-goes g) ∙ sym (then-then g (λ u n. Goes v n) (λ x n. goes n)) ∙ ap (λ j. and_then j (λ x n. goes n)) e

-- what passed, of what was kept
passes-so : (x : Trace Task) (b : ℕ) (e : End) (m : State Task) (marks : Trace Task) (left ticks n : ℕ) (says said : List (List ℕ)) →
    IsCutAt no_marks e b (cut x b None) m → m.reported ≡ Untimed marks → Some left ≡ m.left → says ≡ messages_of marks → ticks ≡ b - left → said ≡ says →
    n ≡ ticks → Passed (cut x b None) said n
passes-so x b e m marks left ticks n says said h t l s k q o =
    let c : Cut Task = cut x b None in
    let same : marks ≡ untimed c.passed = untimed_same (sym t ∙ h.reported) in
    let rest : left ≡ b - tick_count c.passed = some_same (l ∙ h.left) in
    let within : tick_count c.passed ≤ b = (cut-longest x nowhere b None).within in
    let whole : b - (b - tick_count c.passed) ≡ tick_count c.passed = omega (arith, within) in
    record { said = q ∙ s ∙ ap messages_of same ∙ untimed-messages c.passed; taken = o ∙ k ∙ ap (λ i. b - i) rest ∙ whole }

module _ (w : World) (g : Option Global) (b : ℕ) where
  abbrev X : Trace Task
  X = attempt_trace w g

  abbrev C : Cut Task
  C = cut X b None

  abbrev Reports : Result Value Halt → State Task → Type 0
  Reports reported m = IsStep (attempt_steps w g (begun no_marks b None)) reported m

  done-cut : (v : Value) (m : State Task) → Reports (Ok v) m → IsCutAt no_marks Whole b C m
  done-cut v m q = reported-is-cut Task no_marks X b None (Ok tt) m (behind (play X (begun no_marks b None)) (attempt_value w g) (Goes v m) q)

  fault-cut : (n : RunFault) (p : Site) (m : State Task) → Reports (Err (halt.Fault n p)) m → IsCutAt no_marks (Fault n p) b C m
  fault-cut n p m q = reported-is-cut Task no_marks X b None (Err (halt.Fault n p)) m
      (behind (play X (begun no_marks b None)) (attempt_value w g) (Ends (Fault n p) m.reported m.left m.shared) q)

  needs-cut : (n : ℕ) (p : Site) (m : State Task) → Reports (Err (halt.Needs n p)) m → IsCutAt no_marks (Needs n p) b C m
  needs-cut n p m q = reported-is-cut Task no_marks X b None (Err (halt.Needs n p)) m
      (behind (play X (begun no_marks b None)) (attempt_value w g) (Ends (Needs n p) m.reported m.left m.shared) q)

  spent-cut : (p : Site) (m : State Task) → Reports (Err (halt.Spent p)) m → IsCutAt no_marks (Spent p) b C m
  spent-cut p m q = reported-is-cut Task no_marks X b None (Err (halt.Spent p)) m
      (behind (play X (begun no_marks b None)) (attempt_value w g) (Ends (Spent p) m.reported m.left m.shared) q)

  -- by what the last call gave
  module _ (m : State Task) (marks : Trace Task) (left ticks : ℕ) (says : List (List ℕ)) (t : m.reported ≡ Untimed marks) (l : Some left ≡ m.left)
      (s : says ≡ messages_of marks) (k : ticks ≡ b - left) where
    stopped : (reported : Result Value Halt) (q : Spot) (said : List (List ℕ)) (n : ℕ) → Reports reported m → StopsAt reported q → said ≡ says → n ≡ ticks →
        EndsAt C.end q × Passed C said n
    stopped (Ok v) q said n i h u o = absurd h
    stopped (Err (halt.Fault f p)) q said n i h u o =
        let c : IsCutAt no_marks (Fault f p) b C m = fault-cut f p m i in
        (subst (λ e. EndsAt e q) (sym c.end) h, passes-so X b (Fault f p) m marks left ticks n says said c t l s k u o)
    stopped (Err (halt.Needs f p)) q said n i h u o = absurd h
    stopped (Err (halt.Spent p)) q said n i h u o =
        let c : IsCutAt no_marks (Spent p) b C m = spent-cut p m i in
        (subst (λ e. EndsAt e q) (sym c.end) h, passes-so X b (Spent p) m marks left ticks n says said c t l s k u o)
    stopped (Err (halt.Full p)) q said n i h u o = absurd h
    stopped (Err (halt.Over f)) q said n i h u o = absurd h
    stopped (Err halt.NoMemory) q said n i h u o = absurd h

    pub attempt-is : (reported : Result Value Halt) (a : Attempt) → Reports reported m → IsAttemptOf reported says ticks a → IsAttempt C (attempt_value w g) a
    attempt-is reported (attempt.Done v said n) i h =
        let q : Reports (Ok v) m = subst (λ r. Reports r m) h.0 i in
        let c : IsCutAt no_marks Whole b C m = done-cut v m q in
        let given : v ≡ attempt_value w g = given-value (play X (begun no_marks b None)) (attempt_value w g) v m q in
        (c.end, (given, passes-so X b Whole m marks left ticks n says said.items c t l s k h.1.0 h.1.1))
    attempt-is reported (attempt.Stopped said n q) i h = stopped reported q said.items n i h.0 h.1.0 h.1.1
    attempt-is reported (attempt.Needs f p said n) i h =
        let q : Reports (Err (halt.Needs f p)) m = subst (λ r. Reports r m) h.0 i in
        let c : IsCutAt no_marks (Needs f p) b C m = needs-cut f p m q in
        (c.end, passes-so X b (Needs f p) m marks left ticks n says said.items c t l s k h.1.0 h.1.1)

pub attempt-comes : {E : Type 0} (w : World) (g : Option Global) (b : ℕ) (s0 m : State Task) (marks : Trace Task) (left ticks : ℕ) (says : List (List ℕ))
    (reported : Result Value Halt) (r : Result Attempt E) → s0 ≡ begun no_marks b None → m.reported ≡ Untimed marks → Some left ≡ m.left →
    says ≡ messages_of marks → ticks ≡ b - left → IsStep (attempt_steps w g s0) reported m → IfOk r (λ a. IsAttemptOf reported says ticks a) →
    IfOk r (λ a. IsAttempt (cut (attempt_trace w g) b None) (attempt_value w g) a)
attempt-comes w g b s0 m marks left ticks says reported (Ok a) e t l s k q h =
    attempt-is w g b m marks left ticks says t l s k reported a (subst (λ (z : State Task). IsStep (attempt_steps w g z) reported m) e q) h
attempt-comes w g b s0 m marks left ticks says reported (Err f) e t l s k q h = tt

-- ---- what items say

ticks-say : (p : Site) (n : ℕ) → messages_of {H = Task} (ticks p n []) ≡ []
ticks-say p zero = refl
ticks-say p (suc n) = ticks-say p n

pub quiet : (x : Item) (m l n : ℕ) (says : List (List ℕ)) → x ≡ item.Run m l n → says ≡ says ++ messages_of {H = Task} (item_marks x)
quiet x m l n says e =
    sym (append-nil says) ∙ ap (λ ms. says ++ ms) (sym (ticks-say (record { «module» = m; line = l }) n))
    ∙ ap (λ (y : Item). says ++ messages_of {H = Task} (item_marks y)) (sym e)

pub silent : (x : Item) (e : Event) (says : List (List ℕ)) → x ≡ item.Put e → says ≡ says ++ messages_of {H = Task} (item_marks x)
silent x e says q = sym (append-nil says) ∙ ap (λ (y : Item). says ++ messages_of {H = Task} (item_marks y)) (sym q)

pub says-next : (says more whole : List (List ℕ)) (left others : List Item) (x : Item) → left ≡ x ∷ others →
    says ++ messages_of {H = Task} (marks_of left) ≡ whole → more ≡ says ++ messages_of {H = Task} (item_marks x) →
    more ++ messages_of {H = Task} (marks_of others) ≡ whole
says-next says more whole left others x e h q =
    ap (λ ms. ms ++ messages_of {H = Task} (marks_of others)) q
    ∙ append_assoc says (messages_of {H = Task} (item_marks x)) (messages_of {H = Task} (marks_of others))
    ∙ ap (λ ms. says ++ ms) (sym (parts-join {H = Task} (item_marks x) (marks_of others)).messages)
    ∙ ap (λ is. says ++ messages_of {H = Task} (marks_of is)) (sym e) ∙ h
