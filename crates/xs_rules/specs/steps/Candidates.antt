-- How the rules are gone over, from the last one.
use Rattle.std.specs.Prelude.{ℕ, ◌&&◌, Bool, true, false, nat_le, nat_lt, List, [], ◌∷◌, Option, Some, None, if◌then◌else◌}
use Rattle.xs_tree.specs.Record.{Record}
use Rattle.xs_value.specs.Tables.{Table}
use Rattle.xs_pattern_spec.specs.Matching.{matches_path, pattern_context}
use Rattle.xs_xpath.specs.Exprs.{tree_from}
use Rattle.xs_rules.specs.declared.candidates.Alternative.{Alternative}
use Rattle.xs_rules.specs.declared.candidates.Best.{Best}
use Rattle.xs_rules.specs.declared.candidates.Looked.{Looked}
use Rattle.xs_rules.specs.declared.candidates.Looked.TheVariants.{All, Nothing, Within}
use Rattle.xs_pattern_spec.specs.declared.rule.Rule.{Rule}
use Rattle.xs_pattern_spec.specs.declared.rule.Rule.TheVariants.{Template as OfTemplate, BuiltIn}
use Rattle.xs_pattern_spec.specs.declared.ranks.Rank.{Rank}
use Rattle.xs_rules.specs.Ranks.{or_above}
use Rattle.xs_rules.specs.Rules.{Candidate, candidate, takes}

-- whether rules of a precedence are looked at
abbrev pub looks_at : Looked → ℕ → Bool
looks_at All precedence = true
looks_at Nothing precedence = false
looks_at (Within from below) precedence = nat_le from precedence && nat_lt precedence below

-- the candidate that an alternative is
abbrev pub candidate_of : Alternative → Candidate
candidate_of a = candidate a.number a.template.now a.pattern.now (tree_from a.expr.now)

-- what is kept of a candidate
abbrev pub best_with : (template : ℕ) → Rank → Best
best_with template rank = record { template = template; rank = rank }

abbrev pub best_of : Candidate → Best
best_of c = best_with c.template c.rank

abbrev pub or_best : Candidate → Option Best → Option Best
or_best c o = or_above (λ (b : Best). b.rank) (best_of c) o

-- whether a candidate's pattern matches
abbrev pub is_matching : List Table → List Record → (n : ℕ) → Candidate → Bool
is_matching keys rs n c = matches_path keys (pattern_context rs c.scope n) c.alternative

-- whether a candidate is looked at, and is of a mode and matches
abbrev pub passes : Looked → List Table → List Record → (mode n : ℕ) → Candidate → Bool
passes looked keys rs mode n c = looks_at looked c.rank.precedence && takes keys rs mode n c

-- the best of candidates that pass, before what stands after them
unfoldable pub best_before : (Candidate → Bool) → List Candidate → Option Best → Option Best
best_before p [] o = o
best_before p (c ∷ cs) o = if p c then or_best c (best_before p cs o) else best_before p cs o

abbrev pub rule_of_best : Option Best → Rule
rule_of_best None = BuiltIn
rule_of_best (Some b) = OfTemplate b.template
