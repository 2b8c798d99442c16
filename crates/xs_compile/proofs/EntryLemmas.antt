-- One more entry of a table by names.
use Rattle.std.proofs.Common.{◌≡◌, ◌∙◌, ℕ, ap, refl, sym, List, Bool, true, false, Option, Some, None}
use Rattle.std.proofs.lemmas.Bool.{and_parts, false≢true}
use Rattle.std.proofs.lemmas.Bool.Decides.{same_from_decides}
use Rattle.std.proofs.lemmas.Slice.Eq.{bytes_eq-Decides}
use Rattle.std.specs.Option.{option_map_or}
use Rattle.std.specs.Prelude.{◌&&◌, if◌then◌else◌}
use Rattle.std.specs.Str.{bytes_eq}
use Rattle.xs_compile.specs.steps.Counting.{behind, counts_for, numbered_as}
use Rattle.xs_modules.specs.Numbering.{ModuleData}
use Rattle.xs_structure.specs.Modules.{Place}

text-turned : (xs ys : List ℕ) → bytes_eq xs ys ≡ bytes_eq ys xs
text-turned xs ys =
    let other = bytes_eq-Decides ys xs in
    same_from_decides {P = xs ≡ ys} (bytes_eq xs ys) (bytes_eq ys xs) (bytes_eq-Decides xs ys) (λ e. sym (other.0 e), λ e. other.1 (sym e))

module _ (u l uri local : List ℕ) where
  turned : (bytes_eq u uri && bytes_eq l local) ≡ (bytes_eq uri u && bytes_eq local l)
  turned = ap (λ b. b && bytes_eq l local) (text-turned u uri) ∙ ap (λ b. bytes_eq uri u && b) (text-turned l local)

  same-value : {X : Type 0} (f : List ℕ → List ℕ → X) → (bytes_eq u uri && bytes_eq l local) ≡ true → f uri local ≡ f u l
  same-value f e =
      let both = and_parts (bytes_eq u uri) (bytes_eq l local) e in
      ap (λ x. f x local) (sym ((bytes_eq-Decides u uri).0 both.0)) ∙ ap (f u) (sym ((bytes_eq-Decides l local).0 both.1))

  numbered-if : (f : List ℕ → List ℕ → Option ℕ) (number : ℕ) → f u l ≡ None → (b : Bool) → (bytes_eq u uri && bytes_eq l local) ≡ b
      → (if b then Some number else f uri local) ≡ numbered_as b (f uri local) number
  numbered-if f number none true e = sym (ap (λ o. numbered_as true o number) (same-value f e ∙ none))
  numbered-if f number none false e = refl

  -- a number of a name that had none
  pub number_entered : (f : List ℕ → List ℕ → Option ℕ) (number : ℕ) (new : Option ℕ) → f u l ≡ None
      → new ≡ (if bytes_eq u uri && bytes_eq l local then Some number else f uri local)
      → new ≡ numbered_as (bytes_eq uri u && bytes_eq local l) (f uri local) number
  number_entered f number new none h =
      h ∙ numbered-if f number none (bytes_eq u uri && bytes_eq l local) refl ∙ ap (λ b. numbered_as b (f uri local) number) turned

  counts-here : (ms : List ModuleData) (o : Option Place) (p : Place) → option_map_or (λ other. behind ms other.0 p.0) o false ≡ false
      → counts_for ms o p ≡ Some p
  counts-here ms None p e = refl
  counts-here ms (Some other) p e = ap (λ (b : Bool). Some (if b then other else p)) e

  counted-if : (ms : List ModuleData) (f : List ℕ → List ℕ → Option Place) (p : Place)
      → option_map_or (λ other. behind ms other.0 p.0) (f u l) false ≡ false → (b : Bool) → (bytes_eq u uri && bytes_eq l local) ≡ b
      → (if b then Some p else f uri local) ≡ (if b then counts_for ms (f uri local) p else f uri local)
  counted-if ms f p lower true e = sym (ap (λ o. counts_for ms o p) (same-value f e) ∙ counts-here ms (f u l) p lower)
  counted-if ms f p lower false e = refl

  -- a declaration of a name of which none of a higher precedence counts
  pub place_entered : (ms : List ModuleData) (f : List ℕ → List ℕ → Option Place) (p : Place) (new : Option Place)
      → option_map_or (λ other. behind ms other.0 p.0) (f u l) false ≡ false
      → new ≡ (if bytes_eq u uri && bytes_eq l local then Some p else f uri local)
      → new ≡ (if bytes_eq uri u && bytes_eq local l then counts_for ms (f uri local) p else f uri local)
  place_entered ms f p new lower h =
      h ∙ counted-if ms f p lower (bytes_eq u uri && bytes_eq l local) refl
      ∙ ap (λ (b : Bool). if b then counts_for ms (f uri local) p else f uri local) turned

  kept-here : (ms : List ModuleData) (o : Option Place) (p : Place) → option_map_or (λ other. behind ms other.0 p.0) o false ≡ true
      → counts_for ms o p ≡ o
  kept-here ms None p e = absurd (false≢true e)
  kept-here ms (Some other) p e = ap (λ (b : Bool). Some (if b then other else p)) e

  kept-if : (ms : List ModuleData) (f : List ℕ → List ℕ → Option Place) (p : Place)
      → option_map_or (λ other. behind ms other.0 p.0) (f u l) false ≡ true → (b : Bool) → (bytes_eq u uri && bytes_eq l local) ≡ b
      → f uri local ≡ (if b then counts_for ms (f uri local) p else f uri local)
  kept-if ms f p higher true e =
      same-value f e ∙ sym (kept-here ms (f u l) p higher) ∙ sym (ap (λ o. counts_for ms o p) (same-value f e))
  kept-if ms f p higher false e = refl

  -- a declaration of a name of which one of a higher precedence counts
  pub place_kept : (ms : List ModuleData) (f : List ℕ → List ℕ → Option Place) (p : Place)
      → option_map_or (λ other. behind ms other.0 p.0) (f u l) false ≡ true
      → f uri local ≡ (if bytes_eq uri u && bytes_eq local l then counts_for ms (f uri local) p else f uri local)
  place_kept ms f p higher =
      kept-if ms f p higher (bytes_eq u uri && bytes_eq l local) refl
      ∙ ap (λ (b : Bool). if b then counts_for ms (f uri local) p else f uri local) turned
