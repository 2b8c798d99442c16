-- The reading of one module, and then of what it mentions.
use Rattle.std.proofs.Common.{◌≡◌, ◌∙◌, ℕ, ◌+◌, ◌-◌, List, [], ◌∷◌, ◌++◌, Option, map, take, length, ap, subst, arith, length-append}
use Rattle.std.proofs.Math.Seq.{take-append_seam}
use Rattle.xs_outside.specs.Edge.{Files}
use Rattle.xs_modules.specs.declared.reading.Reader.{Reader}
use Rattle.xs_modules.specs.declared.modules.ModulesEnd.{ModulesEnd}
use Rattle.xs_modules.specs.Mentions.{Mention, mentions}
use Rattle.xs_modules.specs.Mentioned.{Mentioned, no_module, one}
use Rattle.xs_modules.specs.Numbering.{part_of, sheet_for}
use Rattle.xs_modules.specs.Precedence.{Imports, no_imports, joined, mentioned_imports}
use Rattle.xs_modules.specs.Reading.{End, whole, out_of_memory}
use Rattle.xs_modules.specs.Results.{ComesTo, end_of}
use Rattle.xs_modules.specs.steps.Reader.{Gains, GainsPart, number_of, parts_of, mention_in}
use Rattle.xs_modules.proofs.GainLemmas.{gains_one, last_mentions, number_one}
use Rattle.xs_modules.proofs.OutcomeLemmas.{one_comes, out_behind, trouble_inside}

-- ---- what a module mentions

module _ (files files' : Option Files) (before after : Reader) (m : Mention) (sheet number : ℕ) (found : List ℕ) (a b c f g h : List (List ℕ))
    (same : files' ≡ files) (is : number ≡ number_of before)
    (part : GainsPart files before after m sheet found a b f g) where
  its_mentions : {end : End} → ComesTo end files' after.path.items (number_of after) (map (mention_in after number) found) b c g h
      → ComesTo end files (before.path.items ++ m.name ∷ []) (number_of before + 1) (mentions (number_of before) m.name part.records part.lines) b c g h
  its_mentions {end = end} r =
      let e = last_mentions before after _ found part.parts part.finds in
      subst (λ (ms : List Mention). ComesTo end files (before.path.items ++ m.name ∷ []) (number_of before + 1) ms b c g h)
      (ap (λ k. map (mention_in after k) found) is ∙ e)
      (subst (λ k. ComesTo end files (before.path.items ++ m.name ∷ []) k (map (mention_in after number) found) b c g h) (number_one before after _ part.parts)
      (subst (λ (p : List (List ℕ)). ComesTo end files p (number_of after) (map (mention_in after number) found) b c g h) part.path
      (subst (λ (x : Option Files). ComesTo end x after.path.items (number_of after) (map (mention_in after number) found) b c g h) same r)))

  -- there is trouble in it
  pub trouble_in_part : (e : ModulesEnd) → ComesTo (end_of e) files' after.path.items (number_of after) (map (mention_in after number) found) b c g h
      → ComesTo (end_of e) files before.path.items (number_of before) (m ∷ []) a c f h
  trouble_in_part e r = trouble_inside files before.path.items (number_of before) m part.records part.lines a b c f g h part.read part.asks part.fails e
      (its_mentions r)

  -- memory runs out once it is read
  pub out_after_part : (within : Mentioned) → ComesTo (whole within) files' after.path.items (number_of after) (map (mention_in after number) found) b c g h
      → ComesTo out_of_memory files before.path.items (number_of before) (m ∷ []) a c f h
  out_after_part within r = out_behind files before.path.items (number_of before) m part.records part.lines a b c f g h part.read part.asks part.fails within
      (its_mentions r)

  -- it is read
  pub part_comes : (within : Mentioned) → ComesTo (whole within) files' after.path.items (number_of after) (map (mention_in after number) found) b c g h
      → ComesTo (whole (one m part.records part.lines within no_module)) files before.path.items (number_of before) (m ∷ []) a c f h
  part_comes within r = one_comes files before.path.items (number_of before) m part.records part.lines a b c f g h part.read part.asks part.fails within
      (its_mentions r)

-- ---- all of it

-- the path, once the last name is taken away
popped : (path old new : List (List ℕ)) (name : List ℕ) (len : ℕ) → old ≡ path ++ name ∷ [] → len ≡ length old → new ≡ take (len - 1) old → new ≡ path
popped path old new name len e n is =
    let one : len - 1 ≡ length path = omega (arith, ap length e, length-append path (name ∷ [])) in
    is ∙ ap (λ xs. take (len - 1) xs) e ∙ ap (λ k. take k (path ++ name ∷ [])) one ∙ take-append_seam path (name ∷ [])

module _ (files files' : Option Files) (before after later final : Reader) (m : Mention) (s sheet number len : ℕ) (found : List ℕ) (i j k : Imports)
    (a b c f g h : List (List ℕ)) (same : files' ≡ files) (is : number ≡ number_of before) (assigned : s ≡ sheet_for m.is_import number sheet)
    (part : GainsPart files before after m s found a b f g) (within : Mentioned) (gains : Gains after later s no_imports j within)
    (parts : final.parts.items ≡ later.parts.items) (length_is : len ≡ length later.path.items) (path : final.path.items ≡ take (len - 1) later.path.items)
    (put : k ≡ joined i (mentioned_imports m.is_import number j)) where
  for_before : s ≡ sheet_for m.is_import (number_of before) sheet
  for_before = assigned ∙ ap (λ n. sheet_for m.is_import n sheet) is

  -- a module with all that it mentions
  pub mention_gains : Gains before final sheet i k (one m part.records part.lines within no_module)
  mention_gains = gains_one before after later final sheet i j k m part.records part.lines within
      (part.parts ∙ ap (λ x. parts_of before ++ part_of m part.records part.lines x ∷ []) for_before)
      (subst (λ x. Gains after later x no_imports j within) for_before gains) parts
      (popped before.path.items later.path.items final.path.items m.name len (gains.path ∙ part.path) length_is path)
      (put ∙ ap (λ n. joined i (mentioned_imports m.is_import n j)) is)

  pub mention_comes : ComesTo (whole within) files' after.path.items (number_of after) (map (mention_in after number) found) b c g h
      → (read : Mentioned) × ComesTo (whole read) files before.path.items (number_of before) (m ∷ []) a c f h × Gains before final sheet i k read
  mention_comes r = (
    one m part.records part.lines within no_module,
    part_comes files files' before after m s number found a b c f g h same is part within r,
    mention_gains,
  )
