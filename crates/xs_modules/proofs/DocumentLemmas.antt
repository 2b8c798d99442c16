-- What the bytes represent that a library gave of a file, which are cut just past the limit.
use Rattle.std.proofs.Common.{◌≡◌, ◌∙◌, ℕ, ◌+◌, List, take, Option, Some, None, Bool, true, false, nat_le, length, refl, sym, ap, arith, IfSome, MatchOption}
use Rattle.std.proofs.lemmas.Bool.Decides.{nat_tests}
use Rattle.std.proofs.lemmas.Grind.{common_steps}
use Rattle.xs_outside.specs.Edge.{Files}
use Rattle.xs_build.specs.Document.{document, Outcome, tree, refused}
use Rattle.xs_build.specs.declared.document.Built.{Built}
use Rattle.xs_modules.specs.Reading.{Holds, module_limit}
use Rattle.xs_modules.specs.steps.Fetching.{HasDocument, HasNone}

too_large : (limit : ℕ) (bytes : List ℕ) → nat_le (length bytes) limit ≡ false → document limit bytes ≡ refused 11 0
unfolding document
too_large limit bytes e = rw e refl

too_long : (limit : ℕ) (bytes : List ℕ) → nat_le (length bytes) limit ≡ false → nat_le (length (take (limit + 1) bytes)) limit ≡ false
too_long limit bytes e = grind (arith, nat_tests, common_steps)

take_within : (limit : ℕ) (bytes : List ℕ) → nat_le (length bytes) limit ≡ true → take (limit + 1) bytes ≡ bytes
take_within limit bytes e = grind (arith, nat_tests, common_steps)

-- A file that was cut just past the limit is refused as too large, as the whole file is.
pub document_takes : (limit : ℕ) (bytes : List ℕ) → document limit (take (limit + 1) bytes) ≡ document limit bytes
document_takes limit bytes = go (nat_le (length bytes) limit) refl
  where
    go : (b : Bool) → nat_le (length bytes) limit ≡ b → document limit (take (limit + 1) bytes) ≡ document limit bytes
    go true e = ap (document limit) (take_within limit bytes e)
    go false e = too_large limit (take (limit + 1) bytes) (too_long limit bytes e) ∙ sym (too_large limit bytes e)

-- the bytes of a file that is shown, or those that were given
abbrev Gives : Option Files → List ℕ → Outcome → Type 0
Gives files name outcome = (bytes : List ℕ) × Holds files name bytes × (document module_limit bytes ≡ outcome)

given_of : (limit : ℕ) (file : Option (List ℕ)) (bytes : List ℕ) → MatchOption file ⊥ (λ b. bytes ≡ take (limit + 1) b)
    → (whole : List ℕ) × (file ≡ Some whole) × (document limit whole ≡ document limit bytes)
given_of limit None bytes h = absurd h
given_of limit (Some b) bytes h = (b, refl, sym (document_takes limit b) ∙ sym (ap (document limit) h))

given : (files : Option Files) (name bytes : List ℕ) (outcome : Outcome)
    → IfSome files (λ f. MatchOption (f name) ⊥ (λ b. bytes ≡ take (module_limit + 1) b)) → document module_limit bytes ≡ outcome → Gives files name outcome
given None name bytes outcome h e = (bytes, tt, e)
given (Some map) name bytes outcome h e = let g = given_of module_limit (map name) bytes h in (g.0, g.1, g.2 ∙ e)

pub has_document : (files : Option Files) (name bytes : List ℕ) (built : Built)
    → IfSome files (λ f. MatchOption (f name) ⊥ (λ b. bytes ≡ take (module_limit + 1) b)) → document module_limit bytes ≡ tree built.tree built.lines.items
    → HasDocument files name built
has_document files name bytes built h e =
    let g = given files name bytes (tree built.tree built.lines.items) h e in record { bytes = g.0; holds = g.1; document = g.2 }

pub has_none : (files : Option Files) (name bytes : List ℕ) (number line : ℕ)
    → IfSome files (λ f. MatchOption (f name) ⊥ (λ b. bytes ≡ take (module_limit + 1) b)) → document module_limit bytes ≡ refused number line
    → HasNone files name number line
has_none files name bytes number line h e =
    let g = given files name bytes (refused number line) h e in record { bytes = g.0; holds = g.1; document = g.2 }
