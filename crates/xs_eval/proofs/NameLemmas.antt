-- The table of the instructions has the names that the definition has.
use Rattle.std.proofs.Common.{◌≡◌, ℕ, Bool, true, false, List, [], ◌∷◌, ◌++◌, refl, ap, ◌∙◌}
use Rattle.std.specs.Prelude.{◌||◌, codes}
use Rattle.std.specs.Str.{bytes_eq}
use Rattle.xs_eval_spec.specs.Names.{is_copying, is_flow, is_making}
use Rattle.xs_eval.specs.steps.Names.{copying_names, flow_names, instructions, is_one_of, making_names}

six : (a b c d e f : Bool) → (a || (b || (c || (d || (e || (f || false)))))) ≡ (a || b || c || d || e || f)
six true b c d e f = refl
six false true c d e f = refl
six false false true d e f = refl
six false false false true e f = refl
six false false false false true f = refl
six false false false false false true = refl
six false false false false false false = refl

three : (a b c : Bool) → (a || (b || c)) ≡ (a || b || c)
three true b c = refl
three false true c = refl
three false false c = refl

assoc : (a b c : Bool) → (a || (b || c)) ≡ ((a || b) || c)
assoc true b c = refl
assoc false b c = refl

one-append : (front back : List (List ℕ)) (name : List ℕ) → is_one_of (front ++ back) name ≡ (is_one_of front name || is_one_of back name)
one-append [] back name = refl
one-append (first ∷ front) back name =
    ap (λ t. bytes_eq name first || t) (one-append front back name) ∙ assoc (bytes_eq name first) (is_one_of front name) (is_one_of back name)

flow-is : (name : List ℕ) → is_one_of flow_names name ≡ is_flow name
flow-is name =
    six (bytes_eq name (codes "apply-templates")) (bytes_eq name (codes "call-template")) (bytes_eq name (codes "apply-imports"))
    (bytes_eq name (codes "for-each")) (bytes_eq name (codes "choose")) (bytes_eq name (codes "if"))

copying-is : (name : List ℕ) → is_one_of copying_names name ≡ is_copying name
copying-is name =
    six (bytes_eq name (codes "value-of")) (bytes_eq name (codes "copy-of")) (bytes_eq name (codes "copy")) (bytes_eq name (codes "number"))
    (bytes_eq name (codes "text")) (bytes_eq name (codes "message"))

making-is : (name : List ℕ) → is_one_of making_names name ≡ is_making name
making-is name =
    six (bytes_eq name (codes "element")) (bytes_eq name (codes "attribute")) (bytes_eq name (codes "comment"))
    (bytes_eq name (codes "processing-instruction")) (bytes_eq name (codes "variable")) (bytes_eq name (codes "fallback"))

pub instructions_named : (name : List ℕ) → is_one_of instructions name ≡ (is_flow name || is_copying name || is_making name)
unfolding instructions
instructions_named name =
    one-append flow_names (copying_names ++ making_names) name
    ∙ ap (λ t. is_one_of flow_names name || t) (one-append copying_names making_names name)
    ∙ three (is_one_of flow_names name) (is_one_of copying_names name) (is_one_of making_names name)
    ∙ ap (λ t. t || is_one_of copying_names name || is_one_of making_names name) (flow-is name)
    ∙ ap (λ t. is_flow name || t || is_one_of making_names name) (copying-is name)
    ∙ ap (λ t. is_flow name || is_copying name || t) (making-is name)
