-- The rules of white space by their name tests.
use Rattle.std.specs.Prelude.{◌≡◌, ℕ, ◌&&◌, Bool, true, false, List, Option, Some, None, filter, if◌then◌else◌}
use Rattle.std.specs.Borrow.{Bor}
use Rattle.std.specs.HashMap.{HashMap, get_by}
use Rattle.std.specs.Option.{option_copied}
use Rattle.std.specs.Str.{bytes_eq}
use Rattle.xs_sheet.specs.declared.declarations.NameTest.{NameTest}
use Rattle.xs_sheet.specs.declared.declarations.NameTest.TheVariants.{Any, Uri, Name}
use Rattle.xs_sheet.specs.declared.declarations.StripRule.{StripRule}
use Rattle.xs_pattern_spec.specs.declared.ranks.Rank.{Rank}
use Rattle.xs_rules.specs.declared.strip_index.StripIndex.{StripIndex}
use Rattle.xs_rules.specs.Ranks.{highest, or_above}
use Rattle.xs_rules.specs.WhiteSpace.{rank_of}

-- the elements that a name test is true of
pub data Tested : Type 0 where
  any_element : Tested
  elements_in : (uri : List ℕ) → Tested
  elements_named : (uri local : List ℕ) → Tested

-- whether a name test is true of just these
abbrev pub is_test_of : Tested → NameTest → Bool
is_test_of any_element Any = true
is_test_of any_element (Uri v) = false
is_test_of any_element (Name n) = false
is_test_of (elements_in uri) Any = false
is_test_of (elements_in uri) (Uri v) = bytes_eq uri v
is_test_of (elements_in uri) (Name n) = false
is_test_of (elements_named uri local) Any = false
is_test_of (elements_named uri local) (Uri v) = false
is_test_of (elements_named uri local) (Name n) = bytes_eq uri n.uri && bytes_eq local n.local

abbrev pub is_rule_of : Tested → StripRule → Bool
is_rule_of q rule = is_test_of q rule.test

-- the highest rule for them, as the code finds it
abbrev pub of_uri : {S : Type 0} → HashMap (Bor (List ℕ)) (Bor StripRule) S → List ℕ → Option StripRule
of_uri m uri = option_copied (get_by (λ (k : Bor (List ℕ)). bytes_eq uri k.now) m)

abbrev pub of_name : {S : Type 0} → HashMap (Bor (List ℕ) × Bor (List ℕ)) (Bor StripRule) S → List ℕ → List ℕ → Option StripRule
of_name m uri local = option_copied (get_by (λ (k : Bor (List ℕ) × Bor (List ℕ)). bytes_eq uri k.0.now && bytes_eq local k.1.now) m)

abbrev pub found : StripIndex → Tested → Option StripRule
found i any_element = option_copied i.any
found i (elements_in uri) = of_uri i.uris uri
found i (elements_named uri local) = of_name i.names uri local

-- with one rule more in front
abbrev pub with_rule : Tested → StripRule → Option StripRule → Option StripRule
with_rule q rule o = if is_rule_of q rule then or_above rank_of rule o else o

-- of two things the first where it is above the other
abbrev pub higher : {A : Type 0} → (A → Rank) → Option A → Option A → Option A
higher rank None o = o
higher rank (Some x) o = or_above rank x o

-- By it the highest rule of each name test is found.
abbrev pub IsStripIndex : StripIndex → Type 0
IsStripIndex i = (q : Tested) → found i q ≡ highest rank_of (filter (is_rule_of q) i.rules.now)
