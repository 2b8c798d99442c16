-- Rules of white space, word by word.
use Rattle.std.proofs.Common.{◌≡◌, ◌∙◌, ap, append_assoc, sym, ℕ, List, [], ◌∷◌, ◌++◌, map, Bool, codes}
use Rattle.xs_compile.specs.Spaces.{rule_of, rules_of}
use Rattle.xs_structure.specs.Parts.{pairs_at, said_at}
use Rattle.xs_compile.specs.steps.Spaces.{rule_as}
use Rattle.xs_elements.specs.WhiteSpace.{words}
use Rattle.xs_modules.specs.Numbering.{ModuleData}
use Rattle.xs_sheet.specs.declared.declarations.StripRule.{StripRule}
use Rattle.xs_structure.specs.Modules.{Place, precedence_at}

-- the rules of a declaration, as they are read
pub rules_start : (strip : Bool) (pairs : List (List ℕ × List ℕ)) (precedence : ℕ) (text : List ℕ) (ms : List ModuleData) (p : Place)
    → pairs ≡ pairs_at ms p → precedence ≡ precedence_at ms p.0 → text ≡ said_at ms p (codes "elements")
    → map (rule_as strip pairs precedence) (words text) ≡ rules_of strip ms p
rules_start strip pairs precedence text ms p e f g =
    ap (λ (ps : List (List ℕ × List ℕ)). map (rule_as strip ps precedence) (words text)) e
    ∙ ap (λ (k : ℕ). map (rule_as strip (pairs_at ms p) k) (words text)) f
    ∙ ap (λ (t : List ℕ). map (rule_of strip ms p) (words t)) g

-- one word more
pub rules_more : (f : List ℕ → StripRule) (ws behind : List (List ℕ)) (word : List ℕ) (rule : StripRule) (old new whole : List StripRule)
    → ws ≡ word ∷ behind → rule ≡ f word → new ≡ old ++ rule ∷ [] → old ++ map f ws ≡ whole → new ++ map f behind ≡ whole
rules_more f ws behind word rule old new whole is by pushed so =
    ap (λ (xs : List StripRule). xs ++ map f behind) pushed
    ∙ append_assoc old (rule ∷ []) (map f behind)
    ∙ ap (λ (r : StripRule). old ++ r ∷ map f behind) by
    ∙ ap (λ (xs : List (List ℕ)). old ++ map f xs) (sym is)
    ∙ so
