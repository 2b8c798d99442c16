-- A value template over the parts that were parsed, and over what they represent.
use Rattle.std.proofs.Common.{◌≡◌, ℕ, List, [], ◌∷◌, map, refl, ap}
use Rattle.xs_trace.specs.Run.{Answer, Gives, Faults, Lacks, Run, costs, fold, go_on}
use Rattle.xs_value.specs.Tables.{Table}
use Rattle.xs_xpath.specs.AvtParts.{part_from, parts_from}
use Rattle.xs_xpath.specs.declared.avt.AvtPart.{AvtPart}
use Rattle.xs_eval_spec.specs.Context.{Context}
use Rattle.xs_eval_spec.specs.Templates.{and_part, template}

-- one parsed part more
abbrev pub and_parsed : List Table → Context → List ℕ → AvtPart → Run (List ℕ)
and_parsed keys c before part = and_part keys c before (part_from part)

goes-same : {A B : Type 0} (n : ℕ) (e : Answer A) (f h : A → Run B) → ((x : A) → f x ≡ h x) → go_on n e f ≡ go_on n e h
goes-same n (Gives x) f h q = ap (costs n) (q x)
goes-same n (Faults g) f h q = refl
goes-same n (Lacks g) f h q = refl

-- a fold over what the items represent
fold-map : {A B C : Type 0} (f : C → B → Run C) (g : A → B) (c : C) (xs : List A) → fold f c (map g xs) ≡ fold (λ d a. f d (g a)) c xs
fold-map f g c [] = refl
fold-map f g c (x ∷ xs) =
    goes-same (f c (g x)).cost (f c (g x)).end (λ d. fold f d (map g xs)) (λ d. fold (λ e a. f e (g a)) d xs) (λ d. fold-map f g d xs)

pub parts-run : (keys : List Table) (c : Context) (parts : List AvtPart) → template keys (parts_from parts) c ≡ fold (and_parsed keys c) [] parts
parts-run keys c parts = fold-map (and_part keys c) part_from [] parts
