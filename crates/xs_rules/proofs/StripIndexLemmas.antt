-- The highest rule whose test is true of an element, from the highest one of each name test.
use Rattle.std.proofs.Common.{◌≡◌, ◌∙◌, ℕ, ◌&&◌, ◌||◌, ap, refl, sym, Bool, true, false, cond, List, [], filter, Option, None, Some}
use Rattle.std.proofs.lemmas.Bool.{true≢false}
use Rattle.std.proofs.lemmas.Slice.Eq.{bytes_eq-Decides}
use Rattle.std.specs.Borrow.{Bor}
use Rattle.std.specs.HashMap.{HashMap, get_by}
use Rattle.std.specs.Option.{option_copied}
use Rattle.std.proofs.lemmas.List.Elements.{filter_agree}
use Rattle.std.specs.Prelude.{int_lt}
use Rattle.std.specs.Str.{bytes_eq}
use Rattle.xs_sheet.specs.declared.declarations.NameTest.{NameTest}
use Rattle.xs_sheet.specs.declared.declarations.NameTest.TheVariants.{Any, Uri, Name}
use Rattle.xs_sheet.specs.declared.declarations.StripRule.{StripRule}
use Rattle.xs_tree.specs.Record.{Record, name_local, name_uri}
use Rattle.xs_rules.specs.declared.strip_index.StripIndex.{StripIndex}
use Rattle.xs_rules.specs.Ranks.{highest, or_above}
use Rattle.xs_rules.specs.WhiteSpace.{is_true_of, rank_of, test_priority}
use Rattle.xs_rules.proofs.HigherLemmas.{apart-by, highest-apart}
use Rattle.xs_rules.specs.steps.Strips.{IsStripIndex, Tested, any_element, is_rule_of, is_test_of, elements_in, elements_named, found, higher}

-- ---- one rule more

pub same-bytes : (xs ys : List ℕ) → bytes_eq xs ys ≡ true → xs ≡ ys
same-bytes xs ys e = (bytes_eq-Decides xs ys).0 e

pub bytes-swap : (xs ys : List ℕ) → bytes_eq xs ys ≡ bytes_eq ys xs
bytes-swap xs ys = by_test (bytes_eq xs ys) (bytes_eq ys xs) refl refl
  where
    by_test : (b c : Bool) → bytes_eq xs ys ≡ b → bytes_eq ys xs ≡ c → b ≡ c
    by_test true true e f = refl
    by_test false false e f = refl
    by_test true false e f = absurd (true≢false (sym ((bytes_eq-Decides ys xs).1 (sym (same-bytes xs ys e))) ∙ f))
    by_test false true e f = absurd (true≢false (sym ((bytes_eq-Decides xs ys).1 (sym (same-bytes ys xs f))) ∙ e))

-- what is found for a key where the highest rule of one key was put
pub put-found : (test swapped : Bool) (rule : StripRule) (best : Bor StripRule) (o : Option (Bor StripRule)) (old : Option StripRule) → test ≡ swapped
    → Some best.now ≡ or_above rank_of rule old → (swapped ≡ true → old ≡ option_copied o)
    → option_copied (cond test (Some best) o) ≡ cond swapped (or_above rank_of rule (option_copied o)) (option_copied o)
put-found true true rule best o old e f same = f ∙ ap (or_above rank_of rule) (same refl)
put-found false false rule best o old e f same = refl
put-found true false rule best o old e f same = absurd (true≢false e)
put-found false true rule best o old e f same = absurd (true≢false (sym e))

-- without rules none is found
none-found : {K S : Type 0} (test : K → Bool) (m : HashMap K (Bor StripRule) S) → m.entries ≡ [] → option_copied (get_by test m) ≡ None
none-found test m e = rw e refl

pub nothing-found : (i : StripIndex) → i.any ≡ None → i.uris.entries ≡ [] → i.names.entries ≡ [] → (q : Tested) → found i q ≡ None
nothing-found i any uris names any_element = ap option_copied any
nothing-found i any uris names (elements_in uri) = none-found (λ (k : Bor (List ℕ)). bytes_eq uri k.now) i.uris uris
nothing-found i any uris names (elements_named uri local) =
    none-found (λ (k : Bor (List ℕ) × Bor (List ℕ)). bytes_eq uri k.0.now && bytes_eq local k.1.now) i.names names

-- ---- the tests that are true of an element

or-false : (b : Bool) → b ≡ (b || false)
or-false true = refl
or-false false = refl

true-of : (r : Record) (t : NameTest)
    → is_true_of r t ≡ (is_test_of any_element t || is_test_of (elements_in (name_uri r)) t || is_test_of (elements_named (name_uri r) (name_local r)) t)
true-of r Any = refl
true-of r (Uri v) = or-false (bytes_eq (name_uri r) v)
true-of r (Name n) = refl

any-below : (uri : List ℕ) (s t : NameTest) → is_test_of any_element s ≡ true → is_test_of (elements_in uri) t ≡ true
    → (int_lt (test_priority s) (test_priority t) ≡ true) × (int_lt (test_priority t) (test_priority s) ≡ false)
any-below uri Any (Uri v) a b = (refl, refl)
any-below uri Any Any a b = cc
any-below uri Any (Name n) a b = cc
any-below uri (Uri v) t a b = cc
any-below uri (Name n) t a b = cc

name-above : (uri local : List ℕ) (s t : NameTest) → (is_test_of any_element s || is_test_of (elements_in uri) s) ≡ true
    → is_test_of (elements_named uri local) t ≡ true
    → (int_lt (test_priority s) (test_priority t) ≡ true) × (int_lt (test_priority t) (test_priority s) ≡ false)
name-above uri local Any (Name n) a b = (refl, refl)
name-above uri local Any Any a b = cc
name-above uri local Any (Uri w) a b = cc
name-above uri local (Uri v) (Name n) a b = (refl, refl)
name-above uri local (Uri v) Any a b = cc
name-above uri local (Uri v) (Uri w) a b = cc
name-above uri local (Name n) t a b = cc

pub highest-found : (i : StripIndex) (r : Record) → IsStripIndex i
    → higher rank_of (higher rank_of (found i any_element) (found i (elements_in (name_uri r)))) (found i (elements_named (name_uri r) (name_local r)))
    ≡ highest rank_of (filter (λ (rule : StripRule). is_true_of r rule.test) i.rules.now)
highest-found i r h =
    ap (λ o. higher rank_of (higher rank_of o (found i inside)) (found i named)) (h any_element)
    ∙ ap (λ o. higher rank_of (higher rank_of (of any_element) o) (found i named)) (h inside)
    ∙ ap (λ o. higher rank_of (higher rank_of (of any_element) (of inside)) o) (h named)
    ∙ ap (λ o. higher rank_of o (of named))
    (sym (highest-apart rank_of (is_rule_of any_element) (is_rule_of inside)
    (λ x y a b. let p = any-below (name_uri r) x.test y.test a b in apart-by (rank_of x) (rank_of y) p.0 p.1) rules))
    ∙ sym (highest-apart rank_of (λ x. is_rule_of any_element x || is_rule_of inside x) (is_rule_of named)
    (λ x y a b. let p = name-above (name_uri r) (name_local r) x.test y.test a b in apart-by (rank_of x) (rank_of y) p.0 p.1) rules)
    ∙ sym (ap (highest rank_of) (filter_agree (λ (rule : StripRule). is_true_of r rule.test)
    (λ (rule : StripRule). is_rule_of any_element rule || is_rule_of inside rule || is_rule_of named rule) (λ (rule : StripRule). true-of r rule.test) rules))
  where
    rules : List StripRule
    rules = i.rules.now

    inside : Tested
    inside = elements_in (name_uri r)

    named : Tested
    named = elements_named (name_uri r) (name_local r)

    of : Tested → Option StripRule
    of q = highest rank_of (filter (is_rule_of q) rules)
