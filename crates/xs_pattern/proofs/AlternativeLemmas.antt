-- The alternatives of a pattern, one after another.
use Rattle.std.proofs.Common.{◌≡◌, ℕ, ◌+◌, ◌<◌, ◌≤◌, ◌||◌, Bool, true, false, List, drop, get_or, length, sym, ap, ◌∙◌}
use Rattle.std.proofs.lemmas.Bool.{or_left}
use Rattle.std.proofs.lemmas.List.{at_drop_all}
use Rattle.std.specs.List.{list_any}
use Rattle.xs_tree.specs.Record.{Record}
use Rattle.xs_value.specs.Tables.{Table}
use Rattle.xs_xpath.specs.declared.expr.Expr.{Expr}
use Rattle.xs_xpath.specs.Exprs.{tree_from, trees_from}
use Rattle.xs_eval_spec.proofs.StepLemmas.{from_here}
use Rattle.xs_pattern_spec.specs.Matching.{matches, matches_path, pattern_context}

-- those from a place on
abbrev pub From : List Table → List Record → List (List ℕ × List ℕ) → List Expr → ℕ → ℕ → Bool
From keys rs scope es n k = matches keys rs scope (trees_from (drop k es)) n

from-next : (keys : List Table) (rs : List Record) (scope : List (List ℕ × List ℕ)) (es : List Expr) (n k : ℕ) (e : Expr) (b : Bool) → k < length es
    → e ≡ get_or es k e → b ≡ matches_path keys (pattern_context rs scope n) (tree_from e) → From keys rs scope es n k ≡ (b || From keys rs scope es n (k + 1))
unfolding matches
from-next keys rs scope es n k e b lt i q =
    ap (λ (l : List Expr). list_any (matches_path keys (pattern_context rs scope n)) (trees_from l)) (from_here es k e lt (sym i))
    ∙ ap (λ t. t || From keys rs scope es n (k + 1)) (sym q)

pub from-true : (keys : List Table) (rs : List Record) (scope : List (List ℕ × List ℕ)) (es : List Expr) (n k : ℕ) (e : Expr) (b whole : Bool)
    → k < length es → e ≡ get_or es k e → b ≡ matches_path keys (pattern_context rs scope n) (tree_from e) → b ≡ true
    → From keys rs scope es n k ≡ whole → true ≡ whole
from-true keys rs scope es n k e b whole lt i q t w =
    sym (or_left b (From keys rs scope es n (k + 1)) t) ∙ sym (from-next keys rs scope es n k e b lt i q) ∙ w

pub from-false : (keys : List Table) (rs : List Record) (scope : List (List ℕ × List ℕ)) (es : List Expr) (n k : ℕ) (e : Expr) (b whole : Bool)
    → k < length es → e ≡ get_or es k e → b ≡ matches_path keys (pattern_context rs scope n) (tree_from e) → b ≡ false
    → From keys rs scope es n k ≡ whole → From keys rs scope es n (k + 1) ≡ whole
from-false keys rs scope es n k e b whole lt i q f w =
    ap (λ t. t || From keys rs scope es n (k + 1)) (sym f) ∙ sym (from-next keys rs scope es n k e b lt i q) ∙ w

pub from-end : (keys : List Table) (rs : List Record) (scope : List (List ℕ × List ℕ)) (es : List Expr) (n k : ℕ) (whole : Bool) → length es ≤ k
    → From keys rs scope es n k ≡ whole → false ≡ whole
unfolding matches
from-end keys rs scope es n k whole le w =
    sym (at_drop_all (λ (l : List Expr). list_any (matches_path keys (pattern_context rs scope n)) (trees_from l)) es k le) ∙ w
