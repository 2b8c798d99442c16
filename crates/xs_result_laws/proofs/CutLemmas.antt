-- A trace that passes a cut whole.
use Rattle.std.proofs.Common.{◌≡◌, ℕ, zero, suc, [], ◌∷◌, Option, None, Some, refl, ap}
use Rattle.xs_trace.specs.Cut.{Whole, cut_from}
use Rattle.xs_trace.specs.Mark.{GoesOn, Tick, Put, Say, Stop, Need, Hole, Trace}
use Rattle.xs_trace.specs.declared.item.Site.{Site}

module _ {H : Type 0} where
  -- it goes on
  pub cut_goes : (x : Trace H) (at : Site) (b : ℕ) (m : Option ℕ) → (cut_from x at b m).end ≡ Whole → GoesOn x
  cut_goes [] at b m e = tt
  cut_goes (Tick p ∷ x) at zero m e = absurd (cc)
  cut_goes (Tick p ∷ x) at (suc b) m e = cut_goes x p b m e
  cut_goes (Put v ∷ x) at b None e = cut_goes x at b None e
  cut_goes (Put v ∷ x) at b (Some zero) e = absurd (cc)
  cut_goes (Put v ∷ x) at b (Some (suc m)) e = cut_goes x at b (Some m) e
  cut_goes (Say t ∷ x) at b m e = cut_goes x at b m e
  cut_goes (Stop f p ∷ x) at b m e = absurd (cc)
  cut_goes (Need g p ∷ x) at b m e = absurd (cc)
  cut_goes (Hole k ∷ x) at b m e = cut_goes x at b m e

  -- and all of it passes
  pub cut_passed : (x : Trace H) (at : Site) (b : ℕ) (m : Option ℕ) → (cut_from x at b m).end ≡ Whole → (cut_from x at b m).passed ≡ x
  cut_passed [] at b m e = refl
  cut_passed (Tick p ∷ x) at zero m e = absurd (cc)
  cut_passed (Tick p ∷ x) at (suc b) m e = ap (λ y. Tick p ∷ y) (cut_passed x p b m e)
  cut_passed (Put v ∷ x) at b None e = ap (λ y. Put v ∷ y) (cut_passed x at b None e)
  cut_passed (Put v ∷ x) at b (Some zero) e = absurd (cc)
  cut_passed (Put v ∷ x) at b (Some (suc m)) e = ap (λ y. Put v ∷ y) (cut_passed x at b (Some m) e)
  cut_passed (Say t ∷ x) at b m e = ap (λ y. Say t ∷ y) (cut_passed x at b m e)
  cut_passed (Stop f p ∷ x) at b m e = absurd (cc)
  cut_passed (Need g p ∷ x) at b m e = absurd (cc)
  cut_passed (Hole k ∷ x) at b m e = ap (λ y. Hole k ∷ y) (cut_passed x at b m e)
