-- Tables beside rules.
use Rattle.std.proofs.Common.{◌≡◌, ℕ, zero, suc, List, [], ◌∷◌, ◌++◌, length, slice_get, Option, Some, refl, sym, ap}
use Rattle.std.proofs.Common.{subst, ◌∙◌, ◌⊎◌, inl, inr}
use Rattle.xs_sheet.specs.declared.declarations.Template.{Template}
use Rattle.xs_tree.specs.Record.{Record}
use Rattle.xs_rules.specs.declared.entries.Entry.{Entry}
use Rattle.xs_rules.specs.declared.tables.RuleTable.{RuleTable}
use Rattle.xs_rules.specs.steps.Index.{AreTables, IsTableOf, at_entry, table_at}

-- what stands at a place of a list with one more
table-push : (xs : List (Option RuleTable)) (x : Option RuleTable) (i : ℕ)
    → (table_at (xs ++ x ∷ []) i ≡ table_at xs i) ⊎ ((i ≡ length xs) × (table_at (xs ++ x ∷ []) i ≡ x))
table-push [] x zero = inr (refl, refl)
table-push [] x (suc i) = inl refl
table-push (y ∷ ys) x zero = inl refl
table-push (y ∷ ys) x (suc i) = elim (table-push ys x i) [ inl q ↦ inl q | inr q ↦ inr (ap suc q.0, q.1) ]

pub tables-more : (ts : List Template) (entries : List Entry) (rs : List Record) (xs ys : List (Option RuleTable)) (x : Option RuleTable) (n : ℕ) (e : Entry)
    → ys ≡ xs ++ x ∷ [] → n ≡ length xs → slice_get entries n ≡ Some e → IsTableOf rs (at_entry ts e) x → AreTables ts entries rs xs
    → AreTables ts entries rs ys
tables-more ts entries rs xs ys x n e all here read own so_far =
    subst (λ (l : List (Option RuleTable)). AreTables ts entries rs l) (sym all)
    (record { each = λ place d at_d. by_place place d at_d (table-push xs x place) })
  where
    by_place : (place : ℕ) (d : Entry) → slice_get entries place ≡ Some d
        → (table_at (xs ++ x ∷ []) place ≡ table_at xs place) ⊎ ((place ≡ length xs) × (table_at (xs ++ x ∷ []) place ≡ x))
        → IsTableOf rs (at_entry ts d) (table_at (xs ++ x ∷ []) place)
    by_place place d at_d (inl q) = subst (λ o. IsTableOf rs (at_entry ts d) o) (sym q) (so_far.each place d at_d)
    by_place place d at_d (inr q) =
        let same : Some e ≡ Some d = sym read ∙ ap (slice_get entries) (here ∙ sym q.0) ∙ at_d in
        let is : e ≡ d = cc in
        subst (λ o. IsTableOf rs (at_entry ts d) o) (sym q.1) (subst (λ c. IsTableOf rs (at_entry ts c) x) is own)
