-- The lists of rules as the code has them, with one more place.
use Rattle.std.proofs.Common.{◌≡◌, ℕ, ◌&&◌, ◌++◌, Bool, true, false, cond, List, [], ◌∷◌, Option, Some, refl, ap, ◌∙◌}
use Rattle.std.specs.Global.{Vec}
use Rattle.std.specs.Option.{option_map_or}
use Rattle.xs_tree.specs.declared.kinds.Kind.{Kind}
use Rattle.xs_rules.specs.declared.kind_lists.KindLists.{KindLists}
use Rattle.xs_rules.specs.steps.Index.{with_place}
use Rattle.xs_rules.specs.steps.Lists.{places_for}

-- the list of a key
pub named-more : (is_own : Bool) (v : Vec ℕ) (o : Option (Vec ℕ)) (place : ℕ) (own old : List ℕ) → v.items ≡ own ++ place ∷ [] → (is_own ≡ true → own ≡ old)
    → (is_own ≡ false → option_map_or (λ (x : Vec ℕ). x.items) o [] ≡ old)
    → option_map_or (λ (x : Vec ℕ). x.items) (cond is_own (Some v) o) [] ≡ with_place is_own place old
named-more true v o place own old e same other = e ∙ ap (λ l. l ++ place ∷ []) (same refl)
named-more false v o place own old e same other = other refl

-- the lists of a mode
pub unnamed-more : (is_own allows : Bool) (kind : Kind) (l : KindLists) (o : Option KindLists) (place : ℕ) (own old : List ℕ)
    → places_for kind l ≡ with_place allows place own → (is_own ≡ true → own ≡ old) → (is_own ≡ false → option_map_or (places_for kind) o [] ≡ old)
    → option_map_or (places_for kind) (cond is_own (Some l) o) [] ≡ with_place (is_own && allows) place old
unnamed-more true allows kind l o place own old e same other = e ∙ ap (with_place allows place) (same refl)
unnamed-more false allows kind l o place own old e same other = other refl
