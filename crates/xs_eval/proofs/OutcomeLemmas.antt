-- What a function answers that has outcomes one after another.
use Rattle.std.proofs.Common.{◌≡◌, Result, Ok, Err, sym, subst, ap, ◌∙◌}
use Rattle.xs_eval_spec.specs.declared.trouble.Trouble.{Trouble}
use Rattle.xs_eval_spec.specs.declared.trouble.Trouble.TheVariants as trouble
use Rattle.xs_eval_spec.specs.Results.{Outcome, AnswersBy, ◌>>=◌}

-- where one has no value, the whole has none
fails-at : {A B C D : Type 0} (v : C → A) (w : D → B) (expected : Outcome A) (f : A → Outcome B) (t : Trouble) → AnswersBy v expected (Err t)
    → AnswersBy w (expected >>= f) (Err t)
fails-at v w expected f (trouble.Fault k) h = ap (λ o. o >>= f) h
fails-at v w expected f trouble.NoMemory h = tt

pub fails : {A B C D : Type 0} (v : C → A) (w : D → B) (expected : Outcome A) (f : A → Outcome B) (result : Result D Trouble) (y t : Trouble)
    → result ≡ Err y → y ≡ t → AnswersBy v expected (Err t) → AnswersBy w (expected >>= f) result
fails {A} {B} {C} {D} v w expected f result y t a b h =
    subst (λ (r : Result D Trouble). AnswersBy w (expected >>= f) r) (sym (a ∙ ap (λ z. Err z) b)) (fails-at v w expected f t h)

-- after a value comes what follows it
pub follows : {A B D : Type 0} (w : D → B) (expected : Outcome A) (f : A → Outcome B) (x : A) (result : Result D Trouble) → expected ≡ Ok x
    → AnswersBy w (f x) result → AnswersBy w (expected >>= f) result
follows {A} {B} {D} w expected f x result e h = subst (λ (o : Outcome A). AnswersBy w (o >>= f) result) (sym e) h
