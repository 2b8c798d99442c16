-- Names with white space between them, one after another.
use Rattle.std.proofs.Common.{◌≡◌, ◌∙◌, ap, append_assoc, refl, sym, ℕ, List, ◌∷◌, ◌++◌, Option, None, Some}
use Rattle.std.specs.List.{filter_map}
use Rattle.std.specs.Option.{option_to_list}
use Rattle.xs_compile.specs.Labels.{label_in}
use Rattle.xs_trace.specs.Label.{Label}

first-of : (f : List ℕ → Option Label) (word : List ℕ) (more : List (List ℕ)) (o : Option Label) → f word ≡ o
    → filter_map f (word ∷ more) ≡ option_to_list o ++ filter_map f more
first-of f word more None e = rw e refl
first-of f word more (Some label) e = rw e refl

-- one word more
pub label-more : (pairs : List (List ℕ × List ℕ)) (ws behind : List (List ℕ)) (word : List ℕ) (label : Option Label) (old new : List Label)
    → ws ≡ word ∷ behind → label ≡ label_in pairs word → new ≡ old ++ option_to_list label
    → new ++ filter_map (label_in pairs) behind ≡ old ++ filter_map (label_in pairs) ws
label-more pairs ws behind word label old new is by pushed =
    ap (λ xs. xs ++ filter_map (label_in pairs) behind) pushed
    ∙ append_assoc old (option_to_list label) (filter_map (label_in pairs) behind)
    ∙ ap (λ xs. old ++ xs) (sym (first-of (label_in pairs) word behind label (sym by)))
    ∙ ap (λ xs. old ++ filter_map (label_in pairs) xs) (sym is)
