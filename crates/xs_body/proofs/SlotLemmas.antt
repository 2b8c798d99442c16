-- The values that came last.
use Rattle.std.proofs.Common.{◌≡◌, ℕ, ◌+◌, ◌-◌, List, [], ◌∷◌, ◌++◌, length, take, drop, ap, ◌∙◌, arith, length-append}
use Rattle.std.proofs.lemmas.List.{drop-append-le, take-append-le, drop_all, take_all}
use Rattle.xs_value.specs.declared.value.Value.{Value}
use Rattle.xs_body.specs.declared.frames.Scope.{Scope}
use Rattle.xs_body.specs.steps.Frames.{last, without, more}

before-more : (n : ℕ) (vs : List Value) (v : Value) → length (vs ++ v ∷ []) - (n + 1) ≡ length vs - n
before-more n vs v = let e : length (vs ++ v ∷ []) ≡ length vs + 1 = length-append vs (v ∷ []) in omega (arith, e)

pub last-more : (n : ℕ) (vs : List Value) (v : Value) → last (n + 1) (vs ++ v ∷ []) ≡ last n vs ++ v ∷ []
last-more n vs v = ap (λ k. drop k (vs ++ v ∷ [])) (before-more n vs v) ∙ drop-append-le (length vs - n) vs (v ∷ []) (omega arith)

pub without-more : (n : ℕ) (vs : List Value) (v : Value) → without (n + 1) (vs ++ v ∷ []) ≡ without n vs
without-more n vs v = ap (λ k. take k (vs ++ v ∷ [])) (before-more n vs v) ∙ take-append-le (length vs - n) vs (v ∷ []) (omega arith)

pub last-none : (vs : List Value) → last 0 vs ≡ []
last-none vs = drop_all (length vs - 0) vs (omega arith)

pub without-none : (vs : List Value) → without 0 vs ≡ vs
without-none vs = take_all (length vs - 0) vs (omega arith)

pub last-all : (vs : List Value) → last (length vs) vs ≡ vs
last-all vs = let e : length vs - length vs ≡ 0 = omega arith in ap (λ k. drop k vs) e

-- a scope that fills no slot
pub more-none : (c : Scope) → more 0 c ≡ c
more-none c =
    let e : c.seen + 0 ≡ c.seen = omega arith in
    let o : c.own + 0 ≡ c.own = omega arith in
    ap (λ (k : ℕ). record { focus = c.focus; seen = k; own = c.own + 0 }) e ∙ ap (λ (k : ℕ). record { focus = c.focus; seen = c.seen; own = k }) o
