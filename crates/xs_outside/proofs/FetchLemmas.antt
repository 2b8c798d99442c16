-- The names of the fetches that failed, where there is one fetch more.
use Rattle.std.proofs.Common.{◌≡◌, ◌∙◌, ap, ℕ, List, [], ◌∷◌, ◌++◌, map, true, false, append-nil}
use Rattle.std.specs.List.{filter}
use Rattle.std.proofs.lemmas.List.{map_push}
use Rattle.std.proofs.lemmas.List.Elements.{filter-append}
use Rattle.xs_outside.specs.declared.fetches.Fetch.{Fetch}
use Rattle.xs_outside.specs.Fetches.{failed_names}

failed_joined : (fs gs : List Fetch) → failed_names (fs ++ gs) ≡ map (λ f. f.name) (filter (λ f. f.failed) fs ++ filter (λ f. f.failed) gs)
failed_joined fs gs = ap (map (λ f. f.name)) (filter-append (λ f. f.failed) fs gs)

-- a fetch that gave bytes is none that failed
pub given : (fs : List Fetch) (n : List ℕ) → failed_names (fs ++ record { name = n; failed = false } ∷ []) ≡ failed_names fs
given fs n =
    failed_joined fs (record { name = n; failed = false } ∷ []) ∙ ap (map (λ f. f.name)) (append-nil (filter (λ f. f.failed) fs))

-- and one that failed is the last of them
pub failed : (fs : List Fetch) (n : List ℕ) → failed_names (fs ++ record { name = n; failed = true } ∷ []) ≡ failed_names fs ++ n ∷ []
failed fs n =
    failed_joined fs (record { name = n; failed = true } ∷ [])
    ∙ map_push (λ f. f.name) (filter (λ f. f.failed) fs) (record { name = n; failed = true })
