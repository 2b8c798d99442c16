-- Which template rule a node takes (XSLT 1.0, 5.5), and which one after it (5.6).
use Rattle.std.specs.Prelude.{ℕ, ◌==◌, ◌&&◌, Bool, true, false, nat_le, nat_lt, List, [], map, filter, Option, Some, None, slice_get, unwrap_or}
use Rattle.std.specs.List.{enumerate_from, flat_map}
use Rattle.std.specs.Option.{option_map_or}
use Rattle.xs_sheet.specs.declared.declarations.Template.{Template}
use Rattle.xs_sheet.specs.declared.scoped.ScopedPattern.{ScopedPattern}
use Rattle.xs_tree.specs.Record.{Record}
use Rattle.xs_value.specs.Tables.{Table}
use Rattle.xs_xpath.specs.Tree.{Tree}
use Rattle.xs_pattern_spec.specs.Matching.{matches_path, pattern_context}
use Rattle.xs_pattern_spec.specs.declared.rule.Rule.{Rule}
use Rattle.xs_pattern_spec.specs.declared.rule.Rule.TheVariants.{Template as OfTemplate, BuiltIn}
use Rattle.xs_pattern_spec.specs.declared.ranks.Rank.{Rank}
use Rattle.xs_pattern_spec.specs.Ranks.{default_priority, highest}

-- One alternative of a template's pattern: each is a rule of its own (5.3 and 5.5).
pub record Candidate : Type 0 where
  -- the number of its template
  pub template : ℕ
  pub mode : ℕ
  pub rank : Rank
  pub alternative : Tree
  -- the namespace declarations in scope for the pattern
  pub scope : List (List ℕ × List ℕ)

-- the priority that is written, or else the default one
abbrev pub rank_of : Template → Tree → Rank
rank_of t e = record { precedence = t.precedence; priority = unwrap_or t.priority (default_priority e) }

abbrev pub candidate : ℕ → Template → ScopedPattern → Tree → Candidate
candidate number t p e = record {
  template = number;
  mode = t.mode;
  rank = rank_of t e;
  alternative = e;
  scope = p.scope;
}

abbrev pub candidates_of : ℕ × Template → List Candidate
candidates_of numbered =
    option_map_or (λ (p : ScopedPattern). map (candidate numbered.0 numbered.1 p) p.pattern) numbered.1.pattern []

-- all rules, in the order of the stylesheet
abbrev pub candidates : List Template → List Candidate
candidates templates = flat_map candidates_of (enumerate_from 0 templates)

-- whether a rule is of a mode and matches the node at n (5.7)
abbrev pub takes : List Table → List Record → (mode n : ℕ) → Candidate → Bool
takes keys rs mode n c = c.mode == mode && matches_path keys (pattern_context rs c.scope n) c.alternative

abbrev pub rule_of : Option Candidate → Rule
rule_of None = BuiltIn
rule_of (Some c) = OfTemplate c.template

-- Of the rules of the mode that match, and whose precedence is looked at, the one of the highest precedence, of these the highest priority, and
-- of these the last; and where there is none, the built-in rule (5.8).
unfoldable pub chosen_among : (ℕ → Bool) → List Table → List Template → List Record → (mode n : ℕ) → Rule
chosen_among is_looked_at keys templates rs mode n =
    rule_of (highest (λ (c : Candidate). c.rank) (filter (λ c. is_looked_at c.rank.precedence && takes keys rs mode n c) (candidates templates)))

-- the rule that a node takes
abbrev pub chosen : List Table → List Template → List Record → (mode n : ℕ) → Rule
chosen = chosen_among (λ precedence. true)

-- whether rules of a precedence were imported into the module of the template with a number (5.6)
abbrev pub is_imported : List Template → (under : ℕ) → ℕ → Bool
is_imported templates under precedence =
    option_map_or (λ (t : Template). nat_le t.imports_from precedence && nat_lt precedence t.precedence) (slice_get templates under) false

-- the rule that a node takes of those that were imported into the module of the template with a number
abbrev pub chosen_import : (under : ℕ) → List Table → List Template → List Record → (mode n : ℕ) → Rule
chosen_import under keys templates rs mode n = chosen_among (is_imported templates under) keys templates rs mode n
