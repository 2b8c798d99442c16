-- The alternatives of a declaration's pattern, one after another.
use Rattle.std.proofs.Common.{◌≡◌, ℕ, ◌+◌, ◌<◌, ◌≤◌, ◌||◌, Bool, true, false, List, [], drop, get_or, length, sym, ap, subst, ◌∙◌}
use Rattle.std.proofs.lemmas.Bool.{or_left}
use Rattle.std.proofs.lemmas.List.{at_drop_all, get_or-map, length-map}
use Rattle.std.specs.List.{list_any}
use Rattle.xs_tree.specs.Record.{Record}
use Rattle.xs_xpath.specs.declared.expr.Expr.{Expr}
use Rattle.xs_xpath.specs.Exprs.{tree_from, trees_from}
use Rattle.xs_xpath.specs.Tree.{Tree}
use Rattle.xs_eval_spec.proofs.StepLemmas.{from_here}
use Rattle.xs_pattern_spec.specs.Matching.{matches, matches_path, pattern_context}

module _ (rs : List Record) (scope given : List (List ℕ × List ℕ)) (ts : List Tree) (es : List Expr) (n k : ℕ) (trees : trees_from es ≡ ts)
    (same : given ≡ scope) where
  next : (e : Expr) (b : Bool) → k < length es → get_or es k e ≡ e → b ≡ matches_path [] (pattern_context rs given n) (tree_from e)
      → matches [] rs scope (drop k ts) n ≡ (b || matches [] rs scope (drop (k + 1) ts) n)
  unfolding matches
  next e b lt i q =
      let within : k < length ts = subst (λ (l : List Tree). k < length l) trees (subst (λ m. k < m) (sym (length-map es tree_from)) lt) in
      let here : get_or ts k (tree_from e) ≡ tree_from e =
      ap (λ (l : List Tree). get_or l k (tree_from e)) (sym trees) ∙ get_or-map tree_from es k e (tree_from e) lt ∙ ap tree_from i in
      ap (list_any (matches_path [] (pattern_context rs scope n))) (from_here ts k (tree_from e) within here)
      ∙ ap (λ t. t || list_any (matches_path [] (pattern_context rs scope n)) (drop (k + 1) ts))
      (sym (q ∙ ap (λ (x : List (List ℕ × List ℕ)). matches_path [] (pattern_context rs x n) (tree_from e)) same))

  pub alternative-true : (e : Expr) (b whole : Bool) → k < length es → get_or es k e ≡ e
      → b ≡ matches_path [] (pattern_context rs given n) (tree_from e) → b ≡ true → matches [] rs scope (drop k ts) n ≡ whole → true ≡ whole
  alternative-true e b whole lt i q t w = sym (or_left b (matches [] rs scope (drop (k + 1) ts) n) t) ∙ sym (next e b lt i q) ∙ w

  pub alternative-false : (e : Expr) (b whole : Bool) → k < length es → get_or es k e ≡ e
      → b ≡ matches_path [] (pattern_context rs given n) (tree_from e) → b ≡ false → matches [] rs scope (drop k ts) n ≡ whole
      → matches [] rs scope (drop (k + 1) ts) n ≡ whole
  alternative-false e b whole lt i q f w = ap (λ t. t || matches [] rs scope (drop (k + 1) ts) n) (sym f) ∙ sym (next e b lt i q) ∙ w

  pub alternatives-end : (whole : Bool) → length es ≤ k → matches [] rs scope (drop k ts) n ≡ whole → false ≡ whole
  unfolding matches
  alternatives-end whole le w =
      let all : length ts ≤ k = subst (λ (l : List Tree). length l ≤ k) trees (subst (λ m. m ≤ k) (sym (length-map es tree_from)) le) in
      sym (at_drop_all (list_any (matches_path [] (pattern_context rs scope n))) ts k all) ∙ w
