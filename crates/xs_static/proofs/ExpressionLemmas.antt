-- What is found in expressions.
use Rattle.std.proofs.Common.{◌≡◌, ◌∙◌, ap, refl, sym, [], ◌∷◌, ℕ, List}
use Rattle.std.specs.List.{list_any}
use Rattle.std.specs.Prelude.{Bool, true, false, None, ◌&&◌, ◌||◌, Ok, Err}
use Rattle.xs_elements.specs.declared.forms.Form.{Form}
use Rattle.xs_elements.specs.Forms.{forbids_variables, forbids_current, forbids_key}
use Rattle.xs_static.proofs.BooleanLemmas.{and-false, or-false}
use Rattle.xs_static.specs.declared.expressions.Found.{Found}
use Rattle.xs_static.specs.Expressions.{any_unknown, has_unknown, is_forbidden_in}
use Rattle.xs_static.specs.steps.Parsing.{found_tree}
use Rattle.xs_parser.specs.Faults.{pattern_in}
use Rattle.xs_parser.specs.Outcome.{HasAlternatives, number_of_fault}
use Rattle.xs_xpath.specs.Patterns.{alternatives, listed}
use Rattle.xs_xpath.specs.Tree.{Tree, Trees, chain, first_tree, no_trees, trees}
use Rattle.xs_xpath.specs.Uses.{uses_variables, uses_current, uses_key}

-- ---- booleans
none-of : (a b c : Bool) → (((a && false) || (b && false)) || (c && false)) ≡ false
none-of a b c =
    ap (λ x. (x || (b && false)) || (c && false)) (and-false a) ∙ ap (λ y. y || (c && false)) (and-false b) ∙ and-false c

spread : (a u v : Bool) → ((a && u) || (a && v)) ≡ (a && (u || v))
spread true u v = refl
spread false u v = refl

join : (x y z a b c : Bool) → (((x || y) || z) || ((a || b) || c)) ≡ (((x || a) || (y || b)) || (z || c))
join true y z a b c = refl
join false true z true b c = refl
join false true z false b c = refl
join false false true true b c = refl
join false false true false true c = refl
join false false true false false c = refl
join false false false a b c = refl

-- ---- the alternatives of a pattern
any-listed : (known : List ℕ → List ℕ → Bool) (es : Trees) → list_any (has_unknown known) (listed es) ≡ any_unknown known es
any-listed known no_trees = refl
any-listed known (first_tree e es) = ap (λ b. has_unknown known e || b) (any-listed known es)

any-trees : (known : List ℕ → List ℕ → Bool) (es : List Tree) → any_unknown known (trees es) ≡ list_any (has_unknown known) es
any-trees known [] = refl
any-trees known (e ∷ es) = ap (λ b. has_unknown known e || b) (any-trees known es)

pub unknown-alternatives : (known : List ℕ → List ℕ → Bool) (e : Tree) → any_unknown known (trees (alternatives e)) ≡ has_unknown known e
unknown-alternatives known (chain ops es) = any-trees known (listed es) ∙ any-listed known es
unknown-alternatives known e = or-false (has_unknown known e)

forbidden-listed : (form : Form) (ops : List _) (es : Trees) → list_any (is_forbidden_in form) (listed es) ≡ is_forbidden_in form (chain ops es)
forbidden-listed form ops no_trees = sym (none-of (forbids_variables form) (forbids_current form) (forbids_key form))
forbidden-listed form ops (first_tree e es) =
    let v = forbids_variables form in
    let c = forbids_current form in
    let k = forbids_key form in
    let all = chain ops es in
    ap (λ b. is_forbidden_in form e || b) (forbidden-listed form ops es)
    ∙ join (v && uses_variables e) (c && uses_current e) (k && uses_key e) (v && uses_variables all) (c && uses_current all) (k && uses_key all)
    ∙ ap (λ x. (x || ((c && uses_current e) || (c && uses_current all))) || ((k && uses_key e) || (k && uses_key all)))
    (spread v (uses_variables e) (uses_variables all))
    ∙ ap (λ x. ((v && (uses_variables e || uses_variables all)) || x) || ((k && uses_key e) || (k && uses_key all)))
    (spread c (uses_current e) (uses_current all))
    ∙ ap (λ x. ((v && (uses_variables e || uses_variables all)) || (c && (uses_current e || uses_current all))) || x)
    (spread k (uses_key e) (uses_key all))

pub forbidden-alternatives : (form : Form) (e : Tree) → list_any (is_forbidden_in form) (alternatives e) ≡ is_forbidden_in form e
forbidden-alternatives form (chain ops es) = forbidden-listed form ops es
forbidden-alternatives form e = or-false (is_forbidden_in form e)

-- ---- outcomes
abbrev pub found_both : Bool → Bool → Found
found_both unknown forbidden = record { fault = None; has_unknown = unknown; has_forbidden = forbidden }

-- what is found in the alternatives of a pattern is what is found in the pattern
pub found-in-pattern : (form : Form) (known : List ℕ → List ℕ → Bool) (es : List Tree) (pairs : List (List ℕ × List ℕ)) (value : List ℕ)
    → HasAlternatives es (pattern_in pairs value)
    → found_both (any_unknown known (trees es)) (list_any (is_forbidden_in form) es) ≡ found_tree number_of_fault form known (pattern_in pairs value)
found-in-pattern form known es pairs value =
    elim (pattern_in pairs value) as (λ r. HasAlternatives es r
    → found_both (any_unknown known (trees es)) (list_any (is_forbidden_in form) es) ≡ found_tree number_of_fault form known r) [
      | Ok e ↦ λ h.
          ap (λ (xs : List Tree). found_both (any_unknown known (trees xs)) (list_any (is_forbidden_in form) xs)) h
          ∙ ap (λ b. found_both b (list_any (is_forbidden_in form) (alternatives e))) (unknown-alternatives known e)
          ∙ ap (found_both (has_unknown known e)) (forbidden-alternatives form e)
      | Err fault ↦ λ h. absurd h
    ]
