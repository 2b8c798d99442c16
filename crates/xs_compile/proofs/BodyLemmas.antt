-- Bodies, and their like, by the lists of what stands in them.
use Rattle.std.proofs.Common.{◌≡◌, ◌∙◌, ◌==◌, ℕ, ap, arith, refl, sym, subst, List, [], ◌∷◌, length, Bool, true, false, Option, None, Some, Result, Ok, Err, IfOk, eq-eqb, eqb-true}
use Rattle.std.proofs.lemmas.Bool.{true≢false}
use Rattle.std.specs.List.{AllZip}
use Rattle.std.specs.Option.{unwrap_or}
use Rattle.std.specs.Prelude.{codes, is_some, option_map}
use Rattle.xs_compile.specs.Bodies.{AreBindings, AreBodies, AreFallbacks, AreInstrs, AreWhens, IsBody, IsChoice, IsExprIf, IsExprOf, IsKind, IsPassed, IsWhen, Source, first_body, has_select, is_otherwise}
use Rattle.xs_compile.specs.Declarations.{IsBinding, IsInstr}
use Rattle.xs_compile.specs.Parsed.{Both, IsExpr}
use Rattle.xs_compile.specs.steps.Gains.{Gains, GainsInstr}
use Rattle.xs_structure.specs.Parts.{body_at, children_with, site_at}
use Rattle.xs_elements.specs.Nodes.{attribute_of}
use Rattle.xs_elements.specs.Tags.{is_when}
use Rattle.xs_sheet.specs.declared.body.Body.{Body, Body', Row_of-Instr, end_of-Instr, more_of-Instr, items-the_row-Instr, items_shown-the_row-Instr-0, out-Body, outs-Body'}
use Rattle.xs_sheet.specs.declared.body.Choice.{Choice, Choice', Row_of-When, end_of-When, more_of-When, items-the_row-When, items_shown-the_row-When-1, out-Choice, outs-Choice'}
use Rattle.xs_sheet.specs.declared.body.Fallbacks.{Fallbacks, Fallbacks', Row_of-Body, end_of-Body, more_of-Body, items-the_row-Body, items_shown-the_row-Body-2, out-Fallbacks, outs-Fallbacks'}
use Rattle.xs_sheet.specs.declared.body.Passed.{Passed, Passed', Row_of-Binding, end_of-Binding, more_of-Binding, items-the_row-Binding, items_shown-the_row-Binding-3, out-Passed, outs-Passed'}
use Rattle.xs_sheet.specs.declared.body.Instr.{Instr}
use Rattle.xs_sheet.specs.declared.body.InstrKind.{InstrKind}
use Rattle.xs_sheet.specs.declared.scoped.ScopedExpr.{ScopedExpr}
use Rattle.xs_structure.specs.Modules.{Place, records_at}
use Rattle.xs_trace.specs.declared.item.Site.{Site}
use Rattle.xs_tree.specs.Record.{at}

module _ (s : Source) where
  instrs-are : {m : _} (tag : Row_of-Instr m) (ps : List Place) → AllZip (IsInstr s) ps (items-the_row-Instr m tag) → AreInstrs s ps tag
  instrs-are end_of-Instr [] h = h
  instrs-are end_of-Instr (p ∷ ps) h = h
  instrs-are (more_of-Instr site kind rest) [] h = h
  instrs-are (more_of-Instr site kind rest) (p ∷ ps) h = (h.0.site, h.0.kind, instrs-are rest ps h.1)

  pub body-is : (ps : List Place) (b : Body) → AllZip (IsInstr s) ps (out-Body b).instrs → IsBody s ps b
  body-is ps (Body' n tag) h =
      instrs-are tag ps (subst (AllZip (IsInstr s) ps) (ap (λ b. b.instrs) (outs-Body' n tag) ∙ items_shown-the_row-Instr-0 n tag) h)

  whens-are : {m : _} (tag : Row_of-When m) (ps : List Place) → AllZip (IsWhen s) ps (items-the_row-When m tag) → AreWhens s ps tag
  whens-are end_of-When [] h = h
  whens-are end_of-When (p ∷ ps) h = h
  whens-are (more_of-When when rest) [] h = h
  whens-are (more_of-When when rest) (p ∷ ps) h = (h.0, whens-are rest ps h.1)

  pub choice-is : (p : Place) (c : Choice) → AllZip (IsWhen s) (children_with is_when s.modules p) (out-Choice c).whens
      → IsBody s (first_body s (children_with is_otherwise s.modules p)) (out-Choice c).otherwise → IsChoice s p c
  choice-is p (Choice' n tag otherwise) h o = (
    whens-are tag (children_with is_when s.modules p)
        (subst (AllZip (IsWhen s) (children_with is_when s.modules p)) (ap (λ c. c.whens) (outs-Choice' n tag otherwise)
        ∙ items_shown-the_row-When-1 n tag) h),
    subst (IsBody s (first_body s (children_with is_otherwise s.modules p))) (ap (λ c. c.otherwise) (outs-Choice' n tag otherwise)) o,
  )

  bodies-are : {m : _} (tag : Row_of-Body m) (ps : List Place) → AllZip (λ (p : Place). IsBody s (body_at s.modules p)) ps (items-the_row-Body m tag)
      → AreBodies s ps tag
  bodies-are end_of-Body [] h = h
  bodies-are end_of-Body (p ∷ ps) h = h
  bodies-are (more_of-Body body rest) [] h = h
  bodies-are (more_of-Body body rest) (p ∷ ps) h = (h.0, bodies-are rest ps h.1)

  pub fallbacks-are : (ps : List Place) (f : Fallbacks) → AllZip (λ (p : Place). IsBody s (body_at s.modules p)) ps (out-Fallbacks f).bodies
      → AreFallbacks s ps f
  fallbacks-are ps (Fallbacks' n tag) h =
      bodies-are tag ps
      (subst (AllZip (λ (p : Place). IsBody s (body_at s.modules p)) ps) (ap (λ f. f.bodies) (outs-Fallbacks' n tag)
      ∙ items_shown-the_row-Body-2 n tag) h)

  bindings-are : {m : _} (tag : Row_of-Binding m) (ps : List Place) → AllZip (IsBinding s) ps (items-the_row-Binding m tag) → AreBindings s ps tag
  bindings-are end_of-Binding [] h = h
  bindings-are end_of-Binding (p ∷ ps) h = h
  bindings-are (more_of-Binding site name content rest) [] h = h
  bindings-are (more_of-Binding site name content rest) (p ∷ ps) h = (h.0.site, h.0.name, h.0.content, bindings-are rest ps h.1)

  pub passed-are : (ps : List Place) (x : Passed) → AllZip (IsBinding s) ps (out-Passed x).params → IsPassed s ps x
  passed-are ps (Passed' n tag) h =
      bindings-are tag ps (subst (AllZip (IsBinding s) ps) (ap (λ x. x.params) (outs-Passed' n tag) ∙ items_shown-the_row-Binding-3 n tag) h)

  -- ---- bodies that are empty or not
  instrs-empty : {m : _} (tag : Row_of-Instr m) (ps : List Place) → AreInstrs s ps tag → items-the_row-Instr m tag ≡ [] → ps ≡ []
  instrs-empty end_of-Instr [] h e = refl
  instrs-empty end_of-Instr (p ∷ ps) h e = absurd h
  instrs-empty (more_of-Instr site kind rest) ps h e = absurd (cc (e))

  instrs-some : {m : _} (tag : Row_of-Instr m) (ps : List Place) → AreInstrs s ps tag → ps ≡ [] → items-the_row-Instr m tag ≡ []
  instrs-some end_of-Instr ps h e = refl
  instrs-some (more_of-Instr site kind rest) [] h e = absurd h
  instrs-some (more_of-Instr site kind rest) (p ∷ ps) h e = absurd (cc (e))

  pub body-empty : (ps : List Place) (b : Body) → IsBody s ps b → (out-Body b).instrs ≡ [] → ps ≡ []
  body-empty ps (Body' n tag) h e =
      instrs-empty tag ps h (sym (ap (λ b. b.instrs) (outs-Body' n tag) ∙ items_shown-the_row-Instr-0 n tag) ∙ e)

  pub body-some : (ps : List Place) (b : Body) → IsBody s ps b → ((out-Body b).instrs ≡ [] → ⊥) → ps ≡ [] → ⊥
  body-some ps (Body' n tag) h other e =
      other (ap (λ b. b.instrs) (outs-Body' n tag) ∙ items_shown-the_row-Instr-0 n tag ∙ instrs-some tag ps h e)

  -- ---- what is selected
  pub selected : (p : Place) (e : ScopedExpr) → IsExprIf s p (codes "select") (Some e) → (has_select s p ≡ true) × IsExprOf s p (codes "select") e
  selected p e h = by_place (attribute_of (records_at s.modules p.0) p.1 [] (codes "select")) h
    where
      by_place : (o : Option _) → Both (IsExpr s.modules p) (option_map (λ a. (at (records_at s.modules p.0) a).text) o) (Some e)
          → (is_some o ≡ true) × IsExpr s.modules p (unwrap_or (option_map (λ a. (at (records_at s.modules p.0) a).text) o) []) e
      by_place None h = absurd h
      by_place (Some a) h = (refl, h)

  pub not-selected : (p : Place) → IsExprIf s p (codes "select") None → has_select s p ≡ false
  not-selected p h = by_place (attribute_of (records_at s.modules p.0) p.1 [] (codes "select")) h
    where
      by_place : (o : Option _) → Both (IsExpr s.modules p) (option_map (λ a. (at (records_at s.modules p.0) a).text) o) None → is_some o ≡ false
      by_place None h = refl
      by_place (Some a) h = absurd h

-- ---- lists in vectors
pub none-in : {T : Type 0} (xs : List T) (n : ℕ) (b : Bool) → n ≡ length xs → b ≡ (n == 0) → b ≡ true → xs ≡ []
none-in [] n b size e h = refl
none-in (x ∷ xs) n b size e h = absurd (let none : n ≡ 0 = eqb-true n 0 (sym e ∙ h) in omega (arith, size, none))

pub some-in : {T : Type 0} (xs : List T) (n : ℕ) (b : Bool) → n ≡ length xs → b ≡ (n == 0) → b ≡ false → xs ≡ [] → ⊥
some-in xs n b size e h none = true≢false (sym (eq-eqb n 0 (size ∙ ap length none)) ∙ sym e ∙ h)

-- an instruction more, by what was compiled
pub gains-instr : {E F : Type 0} (s : Source) (p : Place) (kind : Result InstrKind E) (site : Site) (r : Result (Unit {0}) F) (before after : List Instr)
    → site ≡ site_at s.modules p → IfOk kind (IsKind s p) → IfOk r (λ u. Gains kind site before after)
    → IfOk r (λ u. GainsInstr s p before after)
gains-instr s p kind site (Err e) before after same is gains = tt
gains-instr s p (Err e) site (Ok u) before after same is gains = absurd gains
gains-instr s p (Ok kind) site (Ok u) before after same is gains = record {
  instr = record { site = site; kind = kind };
  grown = gains;
  stands = record { site = same; kind = is };
}
