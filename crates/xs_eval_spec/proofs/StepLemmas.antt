-- How runs go on under limits; and where a part ends, the whole ends.
use Rattle.std.proofs.Common.{◌≡◌, ℕ, suc, ◌+◌, ◌-◌, ◌<◌, ◌≤◌, arith, List, [], ◌∷◌, length}
use Rattle.std.proofs.Common.{take, drop, get_or, map, Result, Ok, Err, refl, sym, ap, subst, ◌∙◌}
use Rattle.std.proofs.Math.Seq.{drop-cons, take-length}
use Rattle.std.proofs.lemmas.List.{at_drop_all, get_or-map, length-map}
use Rattle.std.proofs.lemmas.List.FromFn.{get_or-enumerate_from, length-enumerate_from}
use Rattle.std.specs.List.{enumerate_from}
use Rattle.xs_trace.specs.State.{State}
use Rattle.xs_trace.specs.Play.{Step, Goes, and_then, ticked, ticked_by, IsStep, IsStepBy}
use Rattle.xs_trace.specs.Run.{Run, Gives, Faults, give, tick, costs, fold, ◌>>=◌, limited}
use Rattle.xs_trace.specs.declared.item.Site.{Site}
use Rattle.xs_trace.specs.declared.recorder.Halt.{Halt}
use Rattle.xs_trace.proofs.GrowthLemmas.{Grows, passes}
use Rattle.xs_trace.proofs.PlayLemmas.{then-goes, then-same, then-then}
use Rattle.xs_trace.proofs.RunLemmas.{limited-bind, limited-end, limited-grows, limited-more, limited-tick}
use Rattle.xs_value.specs.declared.value.Value.{Value}
use Rattle.xs_value.specs.Tables.{Table}
use Rattle.xs_xpath.specs.declared.expr.Expr.{Expr}
use Rattle.xs_xpath.specs.declared.token.Operator.{Operator}
use Rattle.xs_eval_spec.specs.declared.trouble.Trouble.{Trouble}
use Rattle.xs_eval_spec.specs.declared.trouble.Trouble.TheVariants as trouble
use Rattle.xs_eval_spec.specs.Context.{Context}
use Rattle.xs_eval_spec.specs.Evaluation.{joined, joined_from, run_of}
use Rattle.xs_eval_spec.specs.Paths.{Meaning}
use Rattle.xs_eval_spec.specs.Results.{Outcome, AnswersBy, given, settled}

-- what follows a value
pub goes_on : {H : Type 0} → {A B : Type 0} (p : Site) (r : Run A) (f : A → Run B) (x : A) (s m : State H) → limited p r s ≡ Goes x m
    → limited p (r >>= f) s ≡ limited p (f x) m
goes_on p r f x s m e = limited-bind p r f s ∙ ap (λ j. and_then j (λ y k. limited p (f y) k)) e

-- an end is that of the whole
pub exits : {H : Type 0} → {A B C D : Type 0} (v : C → A) (w : D → B) (p : Site) (r : Run A) (f : A → Run B) (k : Step H B) (s m : State H)
    (result : Result D Halt) (y h : Halt) → k ≡ limited p (r >>= f) s → result ≡ Err y → y ≡ h → IsStepBy v (limited p r s) (Err h) m → IsStepBy w k result m
exits v w p r f k s m result y h e a b q =
    passes v w k (limited p r s) (λ x n. limited p (f x) n) m result y h (e ∙ limited-bind p r f s) (λ x. limited-grows p (f x)) a b q

-- a tick, and what follows it
pub ticks_on : {H : Type 0} → {A : Type 0} (p : Site) (r : Run A) (u : Unit {0}) (s m : State H) → ticked p s ≡ Goes u m → limited p (tick r) s ≡ limited p r m
ticks_on p r u s m e = limited-tick p r s ∙ ap (λ j. and_then j (λ w n. limited p r n)) e

pub exits_at_tick : {H : Type 0} → {A D : Type 0} (w : D → A) (p : Site) (r : Run A) (k : Step H A) (s m : State H)
    (result : Result D Halt) (y h : Halt) → k ≡ limited p (tick r) s → result ≡ Err y → y ≡ h → IsStepBy (λ (u : Unit {0}). u) (ticked p s) (Err h) m
    → IsStepBy w k result m
exits_at_tick w p r k s m result y h e a b q =
    passes (λ (u : Unit {0}). u) w k (ticked p s) (λ u n. limited p r n) m result y h (e ∙ limited-tick p r s) (λ u. limited-grows p r) a b q

-- some ticks, and what follows them
pub costs_on : {H : Type 0} → {A : Type 0} (p : Site) (n : ℕ) (r : Run A) (u : Unit {0}) (s m : State H) → ticked_by n p s ≡ Goes u m
    → limited p (costs n r) s ≡ limited p r m
costs_on p n r u s m e = limited-more p n r s ∙ ap (λ j. and_then j (λ w k. limited p r k)) e

pub exits_at_costs : {H : Type 0} → {A D : Type 0} (w : D → A) (p : Site) (n : ℕ) (r : Run A) (k : Step H A) (s m : State H)
    (result : Result D Halt) (y h : Halt) → k ≡ limited p (costs n r) s → result ≡ Err y → y ≡ h
    → IsStepBy (λ (u : Unit {0}). u) (ticked_by n p s) (Err h) m → IsStepBy w k result m
exits_at_costs w p n r k s m result y h e a b q =
    passes (λ (u : Unit {0}). u) w k (ticked_by n p s) (λ u j. limited p r j) m result y h (e ∙ limited-more p n r s) (λ u. limited-grows p r) a b q

-- what is given takes no ticks
pub gives : {H : Type 0} → {A : Type 0} (p : Site) (x : A) (s : State H) → limited p (give x) s ≡ Goes x s
gives p x s = limited-end p (Gives x) s

pub gives_alone : {H : Type 0} → {A : Type 0} (p : Site) (r : Run A) (s : State H) → limited p (r >>= (λ x. give x)) s ≡ limited p r s
gives_alone p r s =
    limited-bind p r (λ x. give x) s ∙ then-same (limited p r s) (λ x m. limited p (give x) m) (λ x m. Goes x m) (λ x m. gives p x m)
    ∙ then-goes (limited p r s)

-- an equal step has the same answer
pub continues : {H : Type 0} → {A B : Type 0} (w : B → A) (k j : Step H A) (result : Result B Halt) (s : State H) → k ≡ j → IsStepBy w j result s
    → IsStepBy w k result s
continues {H} {A} w k j result s e h = subst (λ (i : Step H A). IsStepBy w i result s) (sym e) h

-- an outcome that is expected, as it is answered at an instruction
pub given_settled : {H : Type 0} → {A B : Type 0} (v : B → A) (p : Site) (expected : Outcome A) (r : Result B Trouble) (s : State H) → AnswersBy v expected r
    → IsStepBy v (limited p (given expected) s) (settled p r) s
given_settled v p expected (Ok x) s h = ap (λ d. limited p (given d) s) h ∙ gives p (v x) s
given_settled v p expected (Err (trouble.Fault f)) s h = ap (λ d. limited p (given d) s) h ∙ limited-end p (Faults f) s
given_settled v p expected (Err trouble.NoMemory) s h = tt

pub closes : {H : Type 0} → {A B : Type 0} (v : B → A) (p : Site) (expected : Outcome A) (r : Result B Trouble) (k : Step H A) (result : Result B Halt)
    (s : State H)
    → k ≡ limited p (given expected) s → result ≡ settled p r → AnswersBy v expected r → IsStepBy v k result s
closes {H} {A} {B} v p expected r k result s e a h =
    subst (λ (q : Result B Halt). IsStepBy v k q s) (sym a) (continues v k (limited p (given expected) s) (settled p r) s e (given_settled v p expected r s h))

-- lists from a place on
pub from_here : {A : Type 0} (xs : List A) (k : ℕ) (a : A) → k < length xs → get_or xs k a ≡ a → drop k xs ≡ a ∷ drop (k + 1) xs
from_here xs k a h e =
    let n : suc k ≡ k + 1 = omega arith in
    drop-cons xs k a h ∙ ap (λ y. y ∷ drop (suc k) xs) e ∙ ap (λ i. a ∷ drop i xs) n

-- all but the first, as a pattern on a slice has them
abbrev pub but_first : {A : Type 0} → List A → List A
but_first xs = take (length xs - 1) (drop 1 xs)

but_first-cons : {A : Type 0} (x : A) (xs : List A) → but_first (x ∷ xs) ≡ xs
but_first-cons x xs = let e : length (x ∷ xs) - 1 ≡ length xs = omega arith in ap (λ n. take n xs) e ∙ take-length xs

pub first_and_rest : {A : Type 0} (xs : List A) (x : A) → 0 < length xs → x ≡ get_or xs 0 x → xs ≡ x ∷ but_first xs
first_and_rest [] x l e = absurd (omega arith)
first_and_rest (y ∷ ys) x l e = ap (λ z. z ∷ ys) (sym e) ∙ ap (λ r. x ∷ r) (sym (but_first-cons y ys))

pub first_and_rest_at : {A : Type 0} (xs : List A) (d : A) → 0 < length xs → xs ≡ get_or xs 0 d ∷ but_first xs
first_and_rest_at [] d l = absurd (omega arith)
first_and_rest_at (y ∷ ys) d l = ap (λ r. y ∷ r) (sym (but_first-cons y ys))

-- a list of one item
pub only_item : {A : Type 0} (xs : List A) (x : A) → length xs ≡ 1 → x ≡ get_or xs 0 x → xs ≡ x ∷ []
only_item [] x l e = absurd (omega (arith, l))
only_item (y ∷ []) x l e = ap (λ z. z ∷ []) (sym e)
only_item (y ∷ z ∷ zs) x l e = absurd (omega (arith, l))

pub no_items : {A : Type 0} (xs : List A) → length xs < 1 → xs ≡ []
no_items [] l = refl
no_items (x ∷ xs) l = absurd (omega arith)

pub mapped_below : {A C : Type 0} (g : C → A) (xs : List C) (k : ℕ) → k < length xs → k < length (map g xs)
mapped_below g xs k h = subst (λ (n : ℕ). k < n) (sym (length-map xs g)) h

pub mapped_end : {A C : Type 0} (g : C → A) (xs : List C) (k : ℕ) → length xs ≤ k → length (map g xs) ≤ k
mapped_end g xs k h = subst (λ (n : ℕ). n ≤ k) (sym (length-map xs g)) h

pub mapped_at : {A C : Type 0} (g : C → A) (xs : List C) (k : ℕ) (x : C) → k < length xs → x ≡ get_or xs k x → get_or (map g xs) k (g x) ≡ g x
mapped_at g xs k x h e = get_or-map g xs k x (g x) h ∙ ap g (sym e)

pub placed_below : (ns : List ℕ) (k : ℕ) → k < length ns → k < length (enumerate_from 1 ns)
placed_below ns k h = subst (λ (j : ℕ). k < j) (sym (length-enumerate_from 1 ns)) h

pub placed_end : (ns : List ℕ) (k : ℕ) → length ns ≤ k → length (enumerate_from 1 ns) ≤ k
placed_end ns k h = subst (λ (j : ℕ). j ≤ k) (sym (length-enumerate_from 1 ns)) h

pub placed_at : (ns : List ℕ) (k x : ℕ) → k < length ns → x ≡ get_or ns k x → get_or (enumerate_from 1 ns) k (k + 1, x) ≡ (k + 1, x)
placed_at ns k x h e =
    let n : 1 + k ≡ k + 1 = omega arith in
    get_or-enumerate_from 1 ns k (k + 1, x) h ∙ ap (λ j. (j, get_or ns k x)) n ∙ ap (λ y. (k + 1, y)) (sym e)

-- a fold from a place on, and what follows it
abbrev pub Rest : {H A B C : Type 0} → Site → (B → A → Run B) → (B → Run C) → List A → ℕ → B → State H → Step H C
Rest p f h xs k b s = limited p (fold f b (drop k xs) >>= h) s

rest-grows : {H A B C : Type 0} (p : Site) (f : B → A → Run B) (h : B → Run C) (xs : List A) (k : ℕ) (b : B) → Grows {H = H} (Rest p f h xs k b)
rest-grows p f h xs k b = limited-grows p (fold f b (drop k xs) >>= h)

item_first : {H A B C : Type 0} (p : Site) (f : B → A → Run B) (h : B → Run C) (xs : List A) (k : ℕ) (a : A) (b : B) (s : State H)
    → k < length xs → get_or xs k a ≡ a → Rest p f h xs k b s ≡ and_then (limited p (f b a) s) (λ y m. Rest p f h xs (k + 1) y m)
item_first p f h xs k a b s lt e =
    ap (λ l. limited p (fold f b l >>= h) s) (from_here xs k a lt e)
    ∙ limited-bind p (fold f b (a ∷ drop (k + 1) xs)) h s
    ∙ ap (λ j. and_then j (λ y m. limited p (h y) m)) (limited-bind p (f b a) (λ y. fold f y (drop (k + 1) xs)) s)
    ∙ then-then (limited p (f b a) s) (λ y m. limited p (fold f y (drop (k + 1) xs)) m) (λ y m. limited p (h y) m)
    ∙ then-same (limited p (f b a) s) (λ y m. and_then (limited p (fold f y (drop (k + 1) xs)) m) (λ z i. limited p (h z) i))
    (λ y m. Rest p f h xs (k + 1) y m) (λ y m. sym (limited-bind p (fold f y (drop (k + 1) xs)) h m))

-- where the run of an item is that of a part, and then what it makes of the value
part_first : {H A B C D : Type 0} (p : Site) (f : B → A → Run B) (h : B → Run C) (xs : List A) (k : ℕ) (a : A) (b : B) (r : Run D) (u : D → B) (s : State H)
    → k < length xs → get_or xs k a ≡ a → f b a ≡ (r >>= (λ v. give (u v)))
    → Rest p f h xs k b s ≡ and_then (limited p r s) (λ v m. Rest p f h xs (k + 1) (u v) m)
part_first p f h xs k a b r u s lt e q =
    item_first p f h xs k a b s lt e
    ∙ ap (λ i. and_then (limited p i s) (λ y m. Rest p f h xs (k + 1) y m)) q
    ∙ ap (λ j. and_then j (λ y m. Rest p f h xs (k + 1) y m)) (limited-bind p r (λ v. give (u v)) s)
    ∙ then-then (limited p r s) (λ v m. limited p (give (u v)) m) (λ y m. Rest p f h xs (k + 1) y m)
    ∙ then-same (limited p r s) (λ v m. and_then (limited p (give (u v)) m) (λ y i. Rest p f h xs (k + 1) y i))
    (λ v m. Rest p f h xs (k + 1) (u v) m) (λ v m. ap (λ j. and_then j (λ y i. Rest p f h xs (k + 1) y i)) (gives p (u v) m))

-- the next item
pub items_on : {H A B C : Type 0} (p : Site) (f : B → A → Run B) (h : B → Run C) (xs : List A) (k : ℕ) (a : A) (b y : B) (s m : State H) (whole : Step H C)
    → whole ≡ Rest p f h xs k b s → k < length xs → get_or xs k a ≡ a → limited p (f b a) s ≡ Goes y m → whole ≡ Rest p f h xs (k + 1) y m
items_on p f h xs k a b y s m whole i lt e q =
    i ∙ item_first p f h xs k a b s lt e ∙ ap (λ j. and_then j (λ z n. Rest p f h xs (k + 1) z n)) q

pub exits_in_items : {H A B C D E : Type 0} (v : D → B) (w : E → C) (p : Site) (f : B → A → Run B) (h : B → Run C) (xs : List A) (k : ℕ) (a : A) (b : B)
    (s m : State H) (whole : Step H C) (result : Result E Halt) (y g : Halt) → whole ≡ Rest p f h xs k b s → k < length xs → get_or xs k a ≡ a
    → result ≡ Err y → y ≡ g → IsStepBy v (limited p (f b a) s) (Err g) m → IsStepBy w whole result m
exits_in_items v w p f h xs k a b s m whole result y g i lt e c d q =
    passes v w whole (limited p (f b a) s) (λ z n. Rest p f h xs (k + 1) z n) m result y g (i ∙ item_first p f h xs k a b s lt e)
    (λ z. rest-grows p f h xs (k + 1) z) c d q

pub parts_on : {H A B C D : Type 0} (p : Site) (f : B → A → Run B) (h : B → Run C) (xs : List A) (k : ℕ) (a : A) (b : B) (r : Run D) (u : D → B) (x : D) (y : B)
    (s m : State H) (whole : Step H C) → whole ≡ Rest p f h xs k b s → k < length xs → get_or xs k a ≡ a → f b a ≡ (r >>= (λ v. give (u v)))
    → limited p r s ≡ Goes x m → y ≡ u x → whole ≡ Rest p f h xs (k + 1) y m
parts_on p f h xs k a b r u x y s m whole i lt e d q c =
    i
    ∙ part_first p f h xs k a b r u s lt e d
    ∙ ap (λ j. and_then j (λ v n. Rest p f h xs (k + 1) (u v) n)) q
    ∙ ap (λ z. Rest p f h xs (k + 1) z m) (sym c)

pub exits_in_parts : {H A B C D E F : Type 0} (v : E → D) (w : F → C) (p : Site) (f : B → A → Run B) (h : B → Run C) (xs : List A) (k : ℕ) (a : A) (b : B)
    (r : Run D) (u : D → B) (s m : State H) (whole : Step H C) (result : Result F Halt) (y g : Halt) → whole ≡ Rest p f h xs k b s → k < length xs
    → get_or xs k a ≡ a → f b a ≡ (r >>= (λ x. give (u x))) → result ≡ Err y → y ≡ g → IsStepBy v (limited p r s) (Err g) m → IsStepBy w whole result m
exits_in_parts v w p f h xs k a b r u s m whole result y g i lt e d c j q =
    passes v w whole (limited p r s) (λ x n. Rest p f h xs (k + 1) (u x) n) m result y g (i ∙ part_first p f h xs k a b r u s lt e d)
    (λ x. rest-grows p f h xs (k + 1) (u x)) c j q

-- after the last item
pub items_done : {H A B C : Type 0} (p : Site) (f : B → A → Run B) (h : B → Run C) (xs : List A) (k : ℕ) (b : B) (s : State H) → length xs ≤ k
    → Rest p f h xs k b s ≡ limited p (h b) s
items_done p f h xs k b s le =
    at_drop_all (λ l. limited p (fold f b l >>= h) s) xs k le ∙ limited-bind p (give b) h s ∙ ap (λ j. and_then j (λ y m. limited p (h y) m)) (gives p b s)

-- the next operand of a chain
pub joins_here : {H : Type 0}
    → (p : Site) (c : Context) (left : Value) (op : Operator) (ops : List Operator) (ms : List Meaning) (k : ℕ) (m : Meaning) (s : State H)
    → k < length ms → get_or ms k m ≡ m
    → limited p (joined_from c left (op ∷ ops) (drop k ms)) s ≡ limited p (joined op left m c >>= (λ v. joined_from c v ops (drop (k + 1) ms))) s
joins_here p c left op ops ms k m s lt e = ap (λ l. limited p (joined_from c left (op ∷ ops) l) s) (from_here ms k m lt e)

-- no operator
unjoined : (c : Context) (left : Value) (ms : List Meaning) → joined_from c left [] ms ≡ give left
unjoined c left [] = refl
unjoined c left (m ∷ ms) = refl

pub joins_no_more : {H : Type 0} → (p : Site) (c : Context) (left : Value) (ops : List Operator) (ms : List Meaning) (s : State H) → ops ≡ []
    → limited p (joined_from c left ops ms) s ≡ Goes left s
joins_no_more p c left ops ms s e = ap (λ o. limited p (joined_from c left o ms) s) e ∙ ap (λ r. limited p r s) (unjoined c left ms) ∙ gives p left s

-- an expression of a kind
pub by_case : {H : Type 0} → (p : Site) (keys : List Table) (e x : Expr) (c : Context) (r : Run Value) (result : Result Value Halt) (s m : State H) → e ≡ x
    → run_of keys x c ≡ r → IsStep (limited p r s) result m → IsStep (limited p (run_of keys e c) s) result m
by_case {H} p keys e x c r result s m a b h =
    subst (λ (i : Run Value). IsStep (limited p i s) result m) (sym (ap (λ (y : Expr). run_of keys y c) a ∙ b)) h
