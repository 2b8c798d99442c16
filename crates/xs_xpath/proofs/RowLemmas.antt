-- What the tables of names say is what the definitions do.
use Rattle.std.proofs.Common.{◌≡◌, ℕ, Bool, true, false, List, [], ◌∷◌, ◌++◌, Option, Some, refl, ap, ◌∙◌}
use Rattle.std.specs.Prelude.{if◌then◌else◌}
use Rattle.std.specs.Str.{bytes_eq}
use Rattle.xs_xpath.specs.Names.{function_named, node_function, or_else, string_function}
use Rattle.xs_xpath.specs.Rows.{first_named, functions, node_functions, string_functions, value_functions, xslt_functions}

unless : {A : Type 0} → (test : Bool) (a : A) (x y z : Option A) → x ≡ or_else y z → (if test then Some a else x) ≡ or_else (if test then Some a else y) z
unless true a x y z e = refl
unless false a x y z e = e

-- of two tables, one after the other
named-append : {A : Type 0} → (front back : List (List ℕ × A)) (name : List ℕ)
    → first_named (front ++ back) name ≡ or_else (first_named front name) (first_named back name)
named-append [] back name = refl
named-append (row ∷ front) back name =
    unless (bytes_eq name row.0) row.1 (first_named (front ++ back) name) (first_named front name) (first_named back name) (named-append front back name)

pub functions_named : (name : List ℕ) → first_named functions name ≡ function_named name
unfolding functions function_named
functions_named name =
    named-append node_functions (string_functions ++ (value_functions ++ xslt_functions)) name
    ∙ ap (or_else (node_function name))
    (named-append string_functions (value_functions ++ xslt_functions) name
    ∙ ap (or_else (string_function name)) (named-append value_functions xslt_functions name))
