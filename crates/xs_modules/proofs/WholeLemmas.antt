-- The reading from the first module on, and the ranks of all.
use Rattle.std.proofs.Common.{◌≡◌, ◌∙◌, ℕ, ◌≤◌, List, [], ◌∷◌, Option, Result, Ok, Err, IfOk, map, length, ap, subst, arith}
use Rattle.std.proofs.lemmas.List.{length-map}
use Rattle.xs_outside.specs.Edge.{Files}
use Rattle.xs_modules.specs.declared.modules.Modules.{Modules}
use Rattle.xs_modules.specs.declared.modules.ModulesEnd.{ModulesEnd}
use Rattle.xs_modules.specs.declared.reading.Part.{Part}
use Rattle.xs_modules.specs.declared.reading.Reader.{Reader}
use Rattle.xs_modules.specs.Mentions.{Mention, named_by_words}
use Rattle.xs_modules.specs.Mentioned.{Mentioned, count}
use Rattle.xs_modules.specs.Precedence.{Imports, Sheet, imports, in_order, joined, no_imports, sheets}
use Rattle.xs_modules.specs.Reading.{End, most_modules}
use Rattle.xs_modules.specs.Results.{AreModules, Comes, ComesTo, module_data, modules_data}
use Rattle.xs_modules.specs.Sound.{IsSound}
use Rattle.xs_modules.specs.steps.Reader.{Gains, number_of}
use Rattle.xs_modules.proofs.GainLemmas.{number_after}
use Rattle.xs_modules.proofs.SoundLemmas.{read_sound, sheets_few, length_numbered}

-- ---- the first module

module _ (r : Reader) (path : r.path.items ≡ []) (nothing : r.parts.items ≡ []) where
  none_yet : number_of r ≡ 0
  none_yet = ap (λ (ps : List Part). length ps) nothing

  pub first_comes : {end : End} (files : Option Files) (m : Mention) (name : List ℕ) (a b f g : List (List ℕ)) → m ≡ named_by_words name
      → ComesTo end files r.path.items (number_of r) (m ∷ []) a b f g → ComesTo end files [] 0 (named_by_words name ∷ []) a b f g
  first_comes {end = end} files m name a b f g is h =
      subst (λ (p : List (List ℕ)). ComesTo end files p 0 (named_by_words name ∷ []) a b f g) path
      (subst (λ k. ComesTo end files r.path.items k (named_by_words name ∷ []) a b f g) none_yet
      (subst (λ (x : Mention). ComesTo end files r.path.items (number_of r) (x ∷ []) a b f g) is h))

  module _ (later : Reader) (i j : Imports) (read : Mentioned) (gains : Gains r later 0 i j read) (fresh : i ≡ no_imports) where
    pub first_few : count read ≤ most_modules
    first_few = let e = number_after r later 0 read gains.parts in omega (arith, gains.few, none_yet)

    pub first_sheets : (all : List Sheet) → all ≡ in_order j → all ≡ sheets read
    first_sheets all e =
        e ∙ ap in_order (gains.imports ∙ ap (λ (x : Imports). joined x (imports (number_of r) read)) fresh
        ∙ ap (λ n. joined no_imports (imports n read)) none_yet)

-- there are few enough of them to be ranked
pub few_enough : {A : Type 0} (view : A → Sheet) (read : Mentioned) (all : List A) → map view all ≡ sheets read → count read ≤ most_modules
    → length all ≤ most_modules
few_enough view read all e few = let l = sheets_few read (map view all) e few in omega (arith, length-map all view)

-- ---- the answer

-- an answer is sound
pub answer_sound : (result : Result Modules ModulesEnd) (files : Option Files) (name : List ℕ) (a b f g : List (List ℕ))
    → Comes AreModules result files [] 0 (named_by_words name ∷ []) a b f g → IfOk result (λ modules. length modules.list.items ≤ most_modules)
    → IfOk result (λ modules. IsSound (modules_data modules))
answer_sound (Ok modules) files name a b f g comes few =
    let n = ap length comes.2 in
    read_sound files [] name comes.1.names comes.0 (modules_data modules) comes.1.reads comes.2
    (omega (arith, length-map modules.list.items module_data, length_numbered comes.0))
answer_sound (Err e) files name a b f g comes few = tt
