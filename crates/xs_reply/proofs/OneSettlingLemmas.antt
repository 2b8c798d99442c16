-- Settling all globals comes to one end.
use Rattle.std.proofs.Common.{◌≡◌, ◌⊎◌, inl, inr, ⊎_elim, ℕ, List, [], ◌∷◌, Bool, true, false, refl, sym, subst}
use Rattle.xs_trace.specs.Cut.{End, Whole, Fault, Needs, Spent, Full}
use Rattle.xs_trace.specs.Kept.{spot}
use Rattle.xs_trace.specs.declared.fault.Fault.TheVariants.{Budget, Circular}
use Rattle.xs_trace.specs.declared.item.Spot.{Spot}
use Rattle.xs_body_spec.specs.World.{World}
use Rattle.xs_body_spec.specs.Globals.{Table, Settled, settled, ended, Settles, AllSettle, SettlesAll, IsUnsettled, at_first}
use Rattle.xs_body_spec.specs.Globals.{is_under, once_more, tried, with_passed, with_value}
use Rattle.xs_body_spec.specs.Globals as settles
use Rattle.xs_reply.proofs.OneOrderLemmas.{one-order}

module _ (w : World) (budget : ℕ) where
  -- the end after a global that was needed
  abbrev After : (under : List ℕ) (g : ℕ) → Settled → Settled → Type 0
  After under g (settled u) r = Settles w budget under g u r
  After under g (ended u s) r = r ≡ ended u s

  record Needed (under : List ℕ) (g h : ℕ) (t : Table) (r : Settled) : Type 0 where
    end : Settled
    is_settled : Settles w budget (g ∷ under) h (once_more t) end
    after : After under g end r

  abbrev OrCircle : (is_circle : Bool) (under : List ℕ) (g h : ℕ) (t u : Table) → Spot → Settled → Type 0
  OrCircle true under g h t u s r = r ≡ ended u s
  OrCircle false under g h t u s r = Needed under g h t r

  -- what a global is settled to, by the end of the attempt
  abbrev By : End → (under : List ℕ) (g : ℕ) → Table → Settled → Type 0
  By Whole under g t r = r ≡ settled (with_value w g (with_passed (tried w budget t g) t))
  By (Fault f p) under g t r = r ≡ ended (with_passed (tried w budget t g) t) (spot f p)
  By (Spent p) under g t r = r ≡ ended (with_passed (tried w budget t g) t) (spot Budget p)
  By (Full p) under g t r = ⊥
  By (Needs h p) under g t r = OrCircle (is_under (g ∷ under) h) under g h t (with_passed (tried w budget t g) t) (spot Circular p) r

  by-end : {under : List ℕ} {g : ℕ} {t : Table} {r : Settled} → Settles w budget under g t r → By (tried w budget t g).end under g t r
  by-end {under = under} {g = g} {t = t} (settles.whole e) =
      subst (λ z. By z under g t (settled (with_value w g (with_passed (tried w budget t g) t)))) (sym e) refl
  by-end {under = under} {g = g} {t = t} (settles.faults {f = f} {p = p} e) =
      subst (λ z. By z under g t (ended (with_passed (tried w budget t g) t) (spot f p))) (sym e) refl
  by-end {under = under} {g = g} {t = t} (settles.spends {p = p} e) =
      subst (λ z. By z under g t (ended (with_passed (tried w budget t g) t) (spot Budget p))) (sym e) refl
  by-end {under = under} {g = g} {t = t} (settles.circular {h = h} {p = p} e n) =
      subst (λ z. By z under g t (ended (with_passed (tried w budget t g) t) (spot Circular p))) (sym e)
      (subst (λ b. OrCircle b under g h t (with_passed (tried w budget t g) t) (spot Circular p) (ended (with_passed (tried w budget t g) t) (spot Circular p)))
      (sym n) refl)
  by-end {under = under} {g = g} {t = t} (settles.needs {u = u} {h = h} {p = p} {r = r} e n k m) =
      subst (λ z. By z under g t r) (sym e)
      (subst (λ b. OrCircle b under g h t (with_passed (tried w budget t g) t) (spot Circular p) r) (sym n)
      (record { end = settled u; is_settled = k; after = m }))
  by-end {under = under} {g = g} {t = t} (settles.stops {u = u} {h = h} {p = p} {s = s} e n k) =
      subst (λ z. By z under g t (ended u s)) (sym e)
      (subst (λ b. OrCircle b under g h t (with_passed (tried w budget t g) t) (spot Circular p) (ended u s)) (sym n)
      (record { end = ended u s; is_settled = k; after = refl }))

  one-settled : {under : List ℕ} {g : ℕ} {t : Table} {r : Settled} → Settles w budget under g t r → (s : Settled) → Settles w budget under g t s → r ≡ s
  one-settled {under = under} {g = g} {t = t} (settles.whole e) s x = sym (subst (λ z. By z under g t s) e (by-end x))
  one-settled {under = under} {g = g} {t = t} (settles.faults e) s x = sym (subst (λ z. By z under g t s) e (by-end x))
  one-settled {under = under} {g = g} {t = t} (settles.spends e) s x = sym (subst (λ z. By z under g t s) e (by-end x))
  one-settled {under = under} {g = g} {t = t} (settles.circular {h = h} {p = p} e n) s x =
      sym (subst (λ b. OrCircle b under g h t (with_passed (tried w budget t g) t) (spot Circular p) s) n (subst (λ z. By z under g t s) e (by-end x)))
  one-settled {under = under} {g = g} {t = t} (settles.needs {u = u} {h = h} {p = p} e n k m) s x =
      let y : Needed under g h t s =
      subst (λ b. OrCircle b under g h t (with_passed (tried w budget t g) t) (spot Circular p) s) n (subst (λ z. By z under g t s) e (by-end x)) in
      let same : settled u ≡ y.end = one-settled k y.end y.is_settled in
      one-settled m s (subst (λ v. After under g v s) (sym same) y.after)
  one-settled {under = under} {g = g} {t = t} (settles.stops {u = u} {h = h} {p = p} {s = o} e n k) s x =
      let y : Needed under g h t s =
      subst (λ b. OrCircle b under g h t (with_passed (tried w budget t g) t) (spot Circular p) s) n (subst (λ z. By z under g t s) e (by-end x)) in
      let same : ended u o ≡ y.end = one-settled k y.end y.is_settled in
      sym (subst (λ v. After under g v s) (sym same) y.after)

  -- the end after the first of several
  abbrev AllAfter : List ℕ → Settled → Settled → Type 0
  AllAfter gs (settled u) r = AllSettle w budget gs u r
  AllAfter gs (ended u s) r = r ≡ ended u s

  record First (g : ℕ) (gs : List ℕ) (t : Table) (r : Settled) : Type 0 where
    unsettled : IsUnsettled t g
    end : Settled
    is_settled : Settles w budget [] g t end
    after : AllAfter gs end r

  record Skips (g : ℕ) (gs : List ℕ) (t : Table) (r : Settled) : Type 0 where
    has : IsUnsettled t g → ⊥
    rest : AllSettle w budget gs t r

  abbrev ByFirst : List ℕ → Table → Settled → Type 0
  ByFirst [] t r = r ≡ settled t
  ByFirst (g ∷ gs) t r = Skips g gs t r ⊎ First g gs t r

  by-first : {gs : List ℕ} {t : Table} {r : Settled} → AllSettle w budget gs t r → ByFirst gs t r
  by-first settles.none = refl
  by-first (settles.skips n k) = inl (record { has = n; rest = k })
  by-first (settles.next {u = u} l k m) = inr (record { unsettled = l; end = settled u; is_settled = k; after = m })
  by-first (settles.stop {u = u} {s = s} l k) = inr (record { unsettled = l; end = ended u s; is_settled = k; after = refl })

  one-end : {gs : List ℕ} {t : Table} {r : Settled} → AllSettle w budget gs t r → (s : Settled) → AllSettle w budget gs t s → r ≡ s
  one-end {t = t} settles.none s x = let y : s ≡ settled t = by-first x in sym y
  one-end (settles.skips {g = g} {gs = gs} {t = t} n k) s x =
      let y : Skips g gs t s ⊎ First g gs t s = by-first x in
      ⊎_elim (λ z. one-end k s z.rest) (λ z. absurd (n z.unsettled)) y
  one-end (settles.next {g = g} {gs = gs} {t = t} {u = u} l k m) s x =
      let y : Skips g gs t s ⊎ First g gs t s = by-first x in
      ⊎_elim (λ z. absurd (z.has l)) (λ z. one-end m s (subst (λ v. AllAfter gs v s) (sym (one-settled k z.end z.is_settled)) z.after)) y
  one-end (settles.stop {g = g} {gs = gs} {t = t} {u = u} {s = o} l k) s x =
      let y : Skips g gs t s ⊎ First g gs t s = by-first x in
      ⊎_elim (λ z. absurd (z.has l)) (λ z. sym (subst (λ v. AllAfter gs v s) (sym (one-settled k z.end z.is_settled)) z.after)) y

  pub one-settling : (given : List (List ℕ × List ℕ)) (r s : Settled) → SettlesAll w given budget r → SettlesAll w given budget s → r ≡ s
  one-settling given r s a b =
      let same : a.order ≡ b.order = one-order w.sheet.globals a.order b.order a.in_order b.in_order in
      one-end a.settle s (subst (λ o. AllSettle w budget o (at_first w.sheet given) s) (sym same) b.settle)
