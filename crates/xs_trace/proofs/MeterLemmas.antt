-- The law of meters.
use Rattle.std.proofs.Common.{◌≡◌, ℕ, ◌+◌, ◌-◌, ◌≤◌, Option, Some, None, Result, Ok, Err, Bool, true, false, cond, nat_le, refl, sym, ap, ◌∙◌, arith}
use Rattle.std.proofs.lemmas.Bool.{true≢false}
use Rattle.std.proofs.lemmas.Bool.Decides.{nat_tests}
use Rattle.xs_trace.specs.Cut.{Whole, Fault, Needs, Spent, Full, less, Allows}
use Rattle.xs_trace.specs.State.{State, Nothing, allows, alone, after_ticks}
use Rattle.xs_trace.specs.Play.{Step, Goes, Ends, goes, and_then, number, left_of, IsStepBy}
use Rattle.xs_trace.specs.Run.{Answer, Gives, Faults, Lacks, answered}
use Rattle.xs_trace.specs.Meter.{metered, stock, spends, IsMetered, MeterLaw}
use Rattle.xs_trace.specs.declared.item.Site.{Site}
use Rattle.xs_trace.specs.declared.meter.Meter.{Meter}
use Rattle.xs_trace.specs.declared.recorder.Halt.{Halt}
use Rattle.xs_trace.specs.declared.recorder.Halt.TheVariants as halt

answer_of : {H : Type 0} → {A : Type 0} → Step H A → Answer A
answer_of (Goes x s) = Gives x
answer_of (Ends Whole t l h) = Lacks 0
answer_of (Ends (Fault f p) t l h) = Faults f
answer_of (Ends (Needs g p) t l h) = Lacks g
answer_of (Ends (Spent p) t l h) = Lacks 0
answer_of (Ends (Full p) t l h) = Lacks 0

kind : {H : Type 0} → {A : Type 0} → Step H A → ℕ
kind (Goes x s) = 0
kind (Ends Whole t l h) = 1
kind (Ends (Fault f p) t l h) = 2
kind (Ends (Needs g p) t l h) = 3
kind (Ends (Spent p) t l h) = 4
kind (Ends (Full p) t l h) = 5

site_of : {H : Type 0} → {A : Type 0} → Site → Step H A → Site
site_of q (Goes x s) = q
site_of q (Ends Whole t l h) = q
site_of q (Ends (Fault f p) t l h) = q
site_of q (Ends (Needs g p) t l h) = q
site_of q (Ends (Spent p) t l h) = p
site_of q (Ends (Full p) t l h) = q

end-is : {H : Type 0} → {A : Type 0} (p : Site) (a : Answer A) (s : State H) → a ≡ answer_of (answered p a s)
unfolding answer_of
end-is p (Gives x) s = refl
end-is p (Faults f) s = refl
end-is p (Lacks g) s = refl

left-is : {H : Type 0} → {A : Type 0} (p : Site) (a : Answer A) (s : State H) → s.left ≡ left_of (answered p a s)
left-is p (Gives x) s = refl
left-is p (Faults f) s = refl
left-is p (Lacks g) s = refl

no-limit : {H : Type 0} → {A : Type 0} (p : Site) (a : Answer A) (s : State H) → 4 ≤ kind (answered p a s) → ⊥
unfolding kind
no-limit p (Gives x) s h = absurd (omega (arith, h))
no-limit p (Faults f) s h = absurd (omega (arith, h))
no-limit p (Lacks g) s h = absurd (omega (arith, h))

spent-some : (l sm sk n : ℕ) → sk + (l - sk) ≡ sm + (l - sm) → l - sk ≡ (l - sm) - n → nat_le n (l - sm) ≡ true → sk ≡ sm + n
spent-some l sm sk n a b c = grind (arith, nat_tests, a, b, c)

spent-is : (lm lk : Option ℕ) (sm sk n : ℕ) → lk ≡ lm → sk + number (less lk sk) ≡ sm + number (less lm sm) → less lk sk ≡ less (less lm sm) n →
    allows (less lm sm) n ≡ true → sk ≡ spends lm n sm
spent-is None lk sm sk n e a b c =
    let d : sk + 0 ≡ sm + 0 = ap (λ o. sk + number (less o sk)) (sym e) ∙ a in
    omega (arith, d)
spent-is (Some l) lk sm sk n e a b c =
    spent-some l sm sk n (ap (λ o. sk + number (less o sk)) (sym e) ∙ a) (ap (λ o. number (less o sk)) (sym e) ∙ ap number b) c

full-is : (lm lk : Option ℕ) (sm sk n : ℕ) → lk ≡ lm → Allows lm sm → sk + number (less lk sk) ≡ sm + number (less lm sm) → less lk sk ≡ Some 0 →
    allows (less lm sm) n ≡ false → lm ≡ Some sk
full-is None lk sm sk n e w a b c = absurd (true≢false c)
full-is (Some l) lk sm sk n e w a b c =
    let d : sk + (l - sk) ≡ sm + (l - sm) = ap (λ o. sk + number (less o sk)) (sym e) ∙ a in
    let f : l - sk ≡ 0 = ap (λ o. number (less o sk)) (sym e) ∙ ap number b in
    let g : l ≡ sk = omega (arith, d, f, w) in
    ap Some g

past : (lm : Option ℕ) (sm n : ℕ) → allows (less lm sm) n ≡ false → Allows lm (sm + n) → ⊥
past None sm n c h = true≢false c
past (Some l) sm n c h = grind (arith, nat_tests, c, h)

abbrev At : {H : Type 0} → {A : Type 0} → Site → ℕ → Answer A → Meter → Bool → Step H A
At p n a m b = and_then (cond b (goes (after_ticks n p (metered m))) (Ends (Spent p) Nothing (Some 0) alone)) (λ u s. answered p a s)

meter : (H : Type 0) {A B : Type 0} (view : B → A) (p : Site) (n : ℕ) (a : Answer A) (result : Result B Halt) (m k : Meter) (b : Bool) →
    allows (less m.limit m.spent) n ≡ b → Allows m.limit m.spent → IsStepBy {H = H} view (At p n a m b) result (metered k) → stock k ≡ stock m →
    IsMetered view p (record { cost = n; end = a }) result m k
unfolding answer_of kind site_of
meter H view p n a (Ok x) m k true h w q e = (
  end-is p a _ ∙ ap answer_of q,
  (
    ap (λ s. s.limit) e,
    spent-is m.limit k.limit m.spent k.spent n (ap (λ s. s.limit) e) (ap (λ s. s.all) e)
        (sym (ap left_of q) ∙ sym (left-is p a (after_ticks n p (metered {H = H} m)))) h,
  ),
)
meter H view p n a (Ok x) m k false h w q e = let d : 4 ≡ 0 = ap kind q in absurd (omega (arith, d))
meter H view p n a (Err (halt.Fault f s)) m k true h w q e = (
  end-is p a _ ∙ ap answer_of q,
  (
    ap (λ s. s.limit) e,
    spent-is m.limit k.limit m.spent k.spent n (ap (λ s. s.limit) e) (ap (λ s. s.all) e)
        (sym (ap left_of q) ∙ sym (left-is p a (after_ticks n p (metered {H = H} m)))) h,
  ),
)
meter H view p n a (Err (halt.Fault f s)) m k false h w q e = let d : 4 ≡ 2 = ap kind q in absurd (omega (arith, d))
meter H view p n a (Err (halt.Spent s)) m k true h w q e =
    let d : kind (At {H = H} p n a m true) ≡ 4 = ap kind q in absurd (no-limit p a (after_ticks n p (metered {H = H} m)) (omega (arith, d)))
meter H view p n a (Err (halt.Spent s)) m k false h w q e = (
  sym (ap (site_of p) q),
  (
    ap (λ s. s.limit)
        e,
    (full-is m.limit k.limit m.spent k.spent n (ap (λ s. s.limit) e) w (ap (λ s. s.all) e) (sym (ap left_of q)) h, past m.limit m.spent n h),
  ),
)
meter H view p n a (Err (halt.Full s)) m k true h w q e =
    let d : kind (At {H = H} p n a m true) ≡ 5 = ap kind q in no-limit p a (after_ticks n p (metered {H = H} m)) (omega (arith, d))
meter H view p n a (Err (halt.Full s)) m k false h w q e = let d : 4 ≡ 5 = ap kind q in absurd (omega (arith, d))
meter H view p n a (Err (halt.Needs g s)) m k true h w q e = (
  end-is p a _ ∙ ap answer_of q,
  (
    ap (λ s. s.limit) e,
    spent-is m.limit k.limit m.spent k.spent n (ap (λ s. s.limit) e) (ap (λ s. s.all) e)
        (sym (ap left_of q) ∙ sym (left-is p a (after_ticks n p (metered {H = H} m)))) h,
  ),
)
meter H view p n a (Err (halt.Needs g s)) m k false h w q e = let d : 4 ≡ 3 = ap kind q in absurd (omega (arith, d))
meter H view p n a (Err (halt.Over t)) m k b h w q e = q.above
meter H view p n a (Err halt.NoMemory) m k b h w q e = ap (λ s. s.limit) e

pub meter-law : (H A B : Type 0) → MeterLaw H A B
meter-law H A B view p r result m k w q e = meter H view p r.cost r.end result m k (allows (less m.limit m.spent) r.cost) refl w q e
