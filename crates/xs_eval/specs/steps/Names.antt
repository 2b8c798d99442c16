-- Names as the code has them.
use Rattle.std.specs.Prelude.{ℕ, ◌||◌, Bool, false, List, [], ◌∷◌, ◌++◌, codes}
use Rattle.std.specs.Borrow.{Bor}
use Rattle.std.specs.Str.{bytes_eq}
use Rattle.xs_eval_spec.specs.Names.{ExpandedName}

-- the URI and the local part
abbrev pub texts : Bor (List ℕ) × Bor (List ℕ) → ExpandedName
texts name = (name.0.now, name.1.now)

-- a text that is lent
abbrev pub lent_text : Bor (List ℕ) → List ℕ
lent_text t = t.now

-- whether a text is one of some
abbrev pub is_one_of : List (List ℕ) → List ℕ → Bool
is_one_of [] name = false
is_one_of (first ∷ rest) name = bytes_eq name first || is_one_of rest name

-- the local parts of the instructions
abbrev pub flow_names : List (List ℕ)
flow_names =
    codes "apply-templates" ∷ codes "call-template" ∷ codes "apply-imports" ∷ codes "for-each" ∷ codes "choose" ∷ codes "if" ∷ []

abbrev pub copying_names : List (List ℕ)
copying_names = codes "value-of" ∷ codes "copy-of" ∷ codes "copy" ∷ codes "number" ∷ codes "text" ∷ codes "message" ∷ []

abbrev pub making_names : List (List ℕ)
making_names =
    codes "element" ∷ codes "attribute" ∷ codes "comment" ∷ codes "processing-instruction" ∷ codes "variable" ∷ codes "fallback" ∷ []

unfoldable pub instructions : List (List ℕ)
instructions = flow_names ++ (copying_names ++ making_names)
