-- The aliases that count.
use Rattle.std.proofs.Common.{◌≡◌, ◌∙◌, ap, refl, sym, append_assoc, List, [], ◌∷◌, ◌++◌, cond, filter, map, Bool, true, false}
use Rattle.std.proofs.Math.Path.{fun_ext}
use Rattle.std.specs.Prelude.{◌&&◌, if◌then◌else◌}
use Rattle.xs_compile.specs.Counted.{is_counted}
use Rattle.xs_compile.specs.Aliases.{alias_at, aliases, is_alias, is_alias_of, is_counted_alias}
use Rattle.xs_structure.specs.Order.{declarations}
use Rattle.xs_structure.specs.Parts.{tag_at}
use Rattle.xs_compile.specs.steps.Aliases.{has_alias, is_alias_for}
use Rattle.xs_modules.specs.Numbering.{ModuleData}
use Rattle.xs_structure.specs.Modules.{Place}

-- ---- a list of those that pass a test, from the first on
module _ {X Y : Type 0} (f : X → Y) (test : X → Bool) where
  more : (x : X) (xs : List X) (old : List Y) (b : Bool)
      → (if b then old ++ f x ∷ [] else old) ++ map f (filter test xs) ≡ old ++ map f (cond b (x ∷ filter test xs) (filter test xs))
  more x xs old true = append_assoc old (f x ∷ []) (map f (filter test xs))
  more x xs old false = refl

  pub push_more : (x : X) (xs : List X) (old new whole : List Y) → new ≡ (if test x then old ++ f x ∷ [] else old)
      → old ++ map f (filter test (x ∷ xs)) ≡ whole → new ++ map f (filter test xs) ≡ whole
  push_more x xs old new whole h w = ap (λ ys. ys ++ map f (filter test xs)) h ∙ more x xs old (test x) ∙ w

-- ---- two tests, one behind the other
module _ {X : Type 0} (first second : X → Bool) where
  one-both : (x : X) (xs ys : List X) (a b : Bool) → first x ≡ a → second x ≡ b → filter second (filter first xs) ≡ ys
      → filter second (cond (first x) (x ∷ filter first xs) (filter first xs)) ≡ cond (first x && second x) (x ∷ ys) ys
  one-both x xs ys true true e f h =
      ap (λ (t : Bool). filter second (cond t (x ∷ filter first xs) (filter first xs))) e
      ∙ ap (λ (t : Bool). cond t (x ∷ filter second (filter first xs)) (filter second (filter first xs))) f
      ∙ ap (λ zs. x ∷ zs) h
      ∙ sym (ap (λ (t : Bool). cond (t && second x) (x ∷ ys) ys) e ∙ ap (λ (t : Bool). cond t (x ∷ ys) ys) f)
  one-both x xs ys true false e f h =
      ap (λ (t : Bool). filter second (cond t (x ∷ filter first xs) (filter first xs))) e
      ∙ ap (λ (t : Bool). cond t (x ∷ filter second (filter first xs)) (filter second (filter first xs))) f
      ∙ h
      ∙ sym (ap (λ (t : Bool). cond (t && second x) (x ∷ ys) ys) e ∙ ap (λ (t : Bool). cond t (x ∷ ys) ys) f)
  one-both x xs ys false b e f h =
      ap (λ (t : Bool). filter second (cond t (x ∷ filter first xs) (filter first xs))) e
      ∙ h
      ∙ sym (ap (λ (t : Bool). cond (t && second x) (x ∷ ys) ys) e)

  filter-both : (xs : List X) → filter second (filter first xs) ≡ filter (λ x. first x && second x) xs
  filter-both [] = refl
  filter-both (x ∷ xs) = one-both x xs (filter (λ x. first x && second x) xs) (first x) (second x) refl refl (filter-both xs)

-- ---- the aliases of a stylesheet
module _ (ms : List ModuleData) where
  abbrev is_declared : Place → Bool
  is_declared p = is_alias (tag_at ms p)

  counted-same : (p : Place) → is_counted_alias ms p ≡ is_counted ms (filter (is_alias_for ms (alias_at ms p).from_uri) (declarations ms)) p
  counted-same p = ap (λ (ps : List Place). is_counted ms ps p) (filter-both is_declared (is_alias_of ms (alias_at ms p).from_uri) (declarations ms))

  pub aliases_are : map (alias_at ms) (filter (has_alias ms) (declarations ms)) ≡ aliases ms
  aliases_are =
      ap (λ (test : Place → Bool). map (alias_at ms) (filter test (declarations ms)))
      (fun_ext (λ p. ap (λ (b : Bool). is_declared p && b) (sym (counted-same p))))
      ∙ sym (ap (map (alias_at ms)) (filter-both is_declared (is_counted_alias ms) (declarations ms)))
