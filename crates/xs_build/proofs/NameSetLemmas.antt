-- Names whose keys are in a set.
use Rattle.std.proofs.Common.{◌≡◌, ℕ, List, [], ◌∷◌, ◌++◌, Bool, true, false, refl, sym, ◌∙◌, ap, subst, get_or}
use Rattle.std.specs.Prelude.{◌||◌, cond}
use Rattle.std.specs.BTreeMap.{is_at}
use Rattle.std.specs.BTreeSet.{BTreeSet, Updates, contains}
use Rattle.std.specs.List.{list_any}
use Rattle.std.proofs.lemmas.List.Elements.{All-head, All-push, All-tail}
use Rattle.xs_build.specs.declared.tag_names.Expanded.{Expanded}
use Rattle.xs_build.specs.steps.Lines.{same_name}
use Rattle.xs_build.specs.steps.NameSets.{AreIn, Key, key_of, order_of_keys}
use Rattle.xs_build.proofs.TagNameLemmas.{from_same_name}

-- a set has the key of a name
abbrev Has : BTreeSet Key → Expanded → Type 0
Has set name = contains order_of_keys set (key_of name) ≡ true

-- a name whose key is not in the set is none of them
pub none_among : (set : BTreeSet Key) (name : Expanded) (names : List Expanded) → AreIn set names → contains order_of_keys set (key_of name) ≡ false
    → list_any (same_name name) names ≡ false
none_among set name [] all out = refl
none_among set name (x ∷ xs) all out = by_same (same_name name x) refl (none_among set name xs (All-tail (λ n. Has set n) x xs all) out)
  where
    here : Has set x
    here = All-head (λ n. Has set n) x xs all

    by_same : (b : Bool) → same_name name x ≡ b → list_any (same_name name) xs ≡ false → (same_name name x || list_any (same_name name) xs) ≡ false
    by_same false e rest = rw e rest
    by_same true e rest = let found : Has set name = subst (λ n. Has set n) (sym (from_same_name name x e)) here in cc

-- a set that has one key more has all it had
still_in : (old new : BTreeSet Key) (key : Key) (x : Expanded) → Updates order_of_keys old new key true → Has old x → Has new x
still_in old new key x updates was = updates.0 (key_of x) ∙ by_place (is_at (order_of_keys key) (key_of x))
  where
    by_place : (b : Bool) → cond b true (contains order_of_keys old (key_of x)) ≡ true
    by_place true = refl
    by_place false = was

pub AreIn-more : (old new : BTreeSet Key) (key : Key) (names : List Expanded) → Updates order_of_keys old new key true → AreIn old names → AreIn new names
AreIn-more old new key names updates all = λ k d w. still_in old new key _ updates (all k d w)

-- and with a name more in the list
pub AreIn-push : (old new : BTreeSet Key) (name : Expanded) (names : List Expanded) → Updates order_of_keys old new (key_of name) true → AreIn old names
    → AreIn new (names ++ name ∷ [])
AreIn-push old new name names updates all =
    All-push (λ n. Has new n) names name (AreIn-more old new (key_of name) names updates all) updates.1
