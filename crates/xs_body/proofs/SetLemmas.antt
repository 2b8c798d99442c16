-- What an index of attribute sets leaves out puts nothing.
use Rattle.std.proofs.Common.{◌≡◌, inl, inr, ℕ, zero, suc, List, [], ◌∷◌, refl, sym, ap, ◌∙◌}
use Rattle.std.specs.List.{All}
use Rattle.std.proofs.lemmas.List.Elements.{All-head, All-tail}
use Rattle.xs_sheet.specs.declared.declarations.AttrSet.{AttrSet}
use Rattle.xs_trace.specs.Label.{Label}
use Rattle.xs_trace.specs.Mark.{◌⨾◌}
use Rattle.xs_trace.specs.declared.item.Site.{Site}
use Rattle.xs_attribute_sets.specs.Declarations.{declarations_of}
use Rattle.xs_attribute_sets.specs.Indexed.{IsIdle, IsServed, IsSetIndex, declarations_in}
use Rattle.xs_body_spec.specs.declared.focus.Focus.{Focus}
use Rattle.xs_body_spec.specs.World.{World, with_levels}
use Rattle.xs_body_spec.specs.Trace.{Calls, called, calls_at, declared_trace, instrs_trace, sets_trace, using}

module _ (w : World) (i : IsSetIndex w.sheet.sets w.index) where
  -- of none of these names the index has a declaration
  abbrev AreIdle : List Label → Type 0
  AreIdle names = All (λ name. declarations_in w.index name ≡ []) names

  -- where idle sets put nothing at a focus
  abbrev PutsNothing : Calls → Focus → Type 0
  PutsNothing k f = (names : List Label) → AreIdle names → (p : Site) → k (using names) p f ≡ []

  idle-declared : (k : Calls) (f : Focus) → PutsNothing k f → (ss : List AttrSet) → All (IsIdle w.index) ss → declared_trace ss w k f ≡ []
  idle-declared k f e [] h = refl
  idle-declared k f e (s ∷ ss) h =
      let d = All-head (IsIdle w.index) s ss h in
      ap (λ x. (x ⨾ instrs_trace s.attributes w k f []) ⨾ declared_trace ss w k f) (e s.sets d.sets s.site)
      ∙ ap (λ is. instrs_trace is w k f [] ⨾ declared_trace ss w k f) d.attributes
      ∙ idle-declared k f e ss (All-tail (IsIdle w.index) s ss h)

  by-index : (k : Calls) (f : Focus) → PutsNothing k f → (name : Label) → IsServed w.sheet.sets w.index name →
      declared_trace (declarations_of w.sheet.sets name) w k f ≡ declared_trace (declarations_in w.index name) w k f
  by-index k f e name (inl q) = sym (ap (λ ss. declared_trace ss w k f) q)
  by-index k f e name (inr q) =
      idle-declared k f e (declarations_of w.sheet.sets name) q.1 ∙ sym (ap (λ ss. declared_trace ss w k f) q.0)

  indexed : (k : Calls) (f : Focus) → PutsNothing k f → (name : Label) →
      declared_trace (declarations_of w.sheet.sets name) w k f ≡ declared_trace (declarations_in w.index name) w k f
  indexed k f e name = by-index k f e name (i name)

  idle-sets : (k : Calls) (f : Focus) → PutsNothing k f → (names : List Label) → AreIdle names → sets_trace names w k f ≡ []
  idle-sets k f e [] h = refl
  idle-sets k f e (name ∷ names) h =
      ap (λ x. x ⨾ sets_trace names w k f)
      (indexed k f e name ∙ ap (λ ss. declared_trace ss w k f) (All-head (λ n. declarations_in w.index n ≡ []) name names h))
      ∙ idle-sets k f e names (All-tail (λ n. declarations_in w.index n ≡ []) name names h)

  idle-called : (d n : ℕ) (names : List Label) → AreIdle names → (p : Site) (f : Focus) → called (using names) w d n p f ≡ []
  idle-called d zero names h p f = refl
  idle-called d (suc n) names h p f =
      idle-sets (λ e. called e w d n) (with_levels d n f) (λ ns a q. idle-called d n ns a q (with_levels d n f)) names h

  pub served : (f : Focus) (name : Label) →
      declared_trace (declarations_of w.sheet.sets name) w (calls_at w f) f ≡ declared_trace (declarations_in w.index name) w (calls_at w f) f
  served f name = indexed (calls_at w f) f (λ names h p. idle-called f.depth f.set_levels names h p f) name
