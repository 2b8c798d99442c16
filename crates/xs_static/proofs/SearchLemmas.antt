-- The search of what names lead to.
use Rattle.std.proofs.Common.{◌≡◌, ℕ, Bool, true, false, List, [], ◌∷◌, ◌++◌, Option, Some, None, refl, sym, ap, subst, ◌∙◌, inl, inr, map, length, arith}
use Rattle.std.specs.Prelude.{◌⊎◌, if◌then◌else◌}
use Rattle.std.specs.Borrow.{Bor}
use Rattle.std.specs.Option.{unwrap_or}
use Rattle.std.proofs.lemmas.List.{map-append}
use Rattle.xs_static.specs.Circles.{Declared, IsAmong, LeadsTo, SomeLeads, itself, by_use, used_by}
use Rattle.xs_elements.specs.Nodes.{Name, is_same_name, name_data}
use Rattle.xs_static.specs.steps.Search.{IsMet, IsSearch}
use Rattle.xs_static.proofs.SameNameLemmas.{same-true, same-from}

-- ---- what is in joined lists
pub in-front : {X : Type 0} (x : X) (xs ys : List X) → IsAmong x xs → IsAmong x (xs ++ ys)
in-front x [] ys h = absurd h
in-front x (z ∷ zs) ys (inl e) = inl e
in-front x (z ∷ zs) ys (inr h) = inr (in-front x zs ys h)

pub in-back : {X : Type 0} (x : X) (xs ys : List X) → IsAmong x ys → IsAmong x (xs ++ ys)
in-back x [] ys h = h
in-back x (z ∷ zs) ys h = inr (in-back x zs ys h)

pub in-either : {X : Type 0} (x : X) (xs ys : List X) → IsAmong x (xs ++ ys) → IsAmong x xs ⊎ IsAmong x ys
in-either x [] ys h = inr h
in-either x (z ∷ zs) ys (inl e) = inl (inl e)
in-either x (z ∷ zs) ys (inr h) = elim (in-either x zs ys h) [ inl a ↦ inl (inr a) | inr b ↦ inr b ]

pub in-one : {X : Type 0} (x y : X) → IsAmong x (y ∷ []) → y ≡ x
in-one x y h = elim h [ inl e ↦ e | inr none ↦ absurd none ]

-- the last of the work, or the rest of it
in-last : (u name : Name) (before : List Name) → IsAmong u (before ++ name ∷ []) → (name ≡ u) ⊎ IsAmong u before
in-last u name before h = elim (in-either u before (name ∷ []) h) [ inl a ↦ inr a | inr b ↦ inl (in-one u name b) ]

-- ---- the table
some-or : (o : Option (List Name)) → ((names : List Name) × (o ≡ Some names)) ⊎ (o ≡ None)
some-or (Some names) = inl (names, refl)
some-or None = inr refl

-- what is not in the table uses nothing, where the table has all uses
pub none-used : (names : List Name) (u : Name) → [] ≡ names → IsAmong u names → ⊥
none-used names u e h = let P : List Name → Type 0 = λ xs. IsAmong u xs in subst P (sym e) h

pub begins : (ds : List Declared) (starts : List Name) (goal : Name) (left : Name → Option (List Name))
    → ((n : Name) → unwrap_or (left n) [] ≡ used_by ds n) → IsSearch ds starts goal left starts
begins ds starts goal left all = record {
  whole = λ n names is. ap (λ o. unwrap_or o []) (sym is) ∙ all n;
  closed = λ n u none h. absurd (none-used (used_by ds n) u (ap (λ o. unwrap_or o []) (sym none) ∙ all n) h);
  begun = λ n h. inr h;
  sound = λ n h leads. (n, h, leads);
}

-- ---- one name more is met
-- what is left of the table, at one name
left-at : (t : Bool) (o now : Option (List Name)) → now ≡ (if t then None else o) → o ≡ None → now ≡ None
left-at true o now e none = e
left-at false o now e none = e ∙ none

left-some : (t : Bool) (o now : Option (List Name)) (names : List Name) → now ≡ (if t then None else o) → now ≡ Some names → o ≡ Some names
left-some true o now names e some = cc
left-some false o now names e some = sym e ∙ some

-- what is gone now was gone before, or is the name that is met
left-none : (t : Bool) (o now : Option (List Name)) → now ≡ (if t then None else o) → now ≡ None → (t ≡ true) ⊎ (o ≡ None)
left-none true o now e none = inl refl
left-none false o now e none = inr (sym e ∙ none)

-- the name itself is gone
left-own : (t : Bool) (o now : Option (List Name)) → now ≡ (if t then None else o) → t ≡ true → now ≡ None
left-own t o now e own = e ∙ ap (λ b. if b then None else o) own

module _ (ds : List Declared) (starts : List Name) (goal name : Name) (left now : Name → Option (List Name)) (before : List Name)
    (search : IsSearch ds starts goal left (before ++ name ∷ [])) (other : name ≡ goal → ⊥)
    (taken : (n : Name) → now n ≡ (if is_same_name name n then None else left n)) where
  met-stays : (u : Name) → IsMet goal left u → IsMet goal now u
  met-stays u m = (m.0, left-at (is_same_name name u) (left u) (now u) (taken u) m.1)

  name-met : (u : Name) → name ≡ u → IsMet goal now u
  name-met u e =
      (λ g. other (e ∙ g), left-own (is_same_name name u) (left u) (now u) (taken u) (same-from name u e))

  -- what was met or to be met is so again
  kept : (u : Name) (more : List Name) → IsMet goal left u ⊎ IsAmong u (before ++ name ∷ []) → IsMet goal now u ⊎ IsAmong u (before ++ more)
  kept u more (inl m) = inl (met-stays u m)
  kept u more (inr h) = elim (in-last u name before h) [ inl e ↦ inl (name-met u e) | inr b ↦ inr (in-front u before more b) ]

  closed-at : (n u : Name) → now n ≡ None → IsAmong u (used_by ds n) → IsMet goal now u ⊎ IsAmong u (before ++ unwrap_or (left name) [])
  closed-at n u none h =
      let old : left n ≡ None → IsMet goal now u ⊎ IsAmong u (before ++ unwrap_or (left name) []) = λ gone.
      kept u (unwrap_or (left name) []) (search.closed n u gone h) in
      let fresh : (names : List Name) → left n ≡ Some names → name ≡ n → IsMet goal now u ⊎ IsAmong u (before ++ unwrap_or (left name) []) = λ names some e.
      let listed : IsAmong u (unwrap_or (left name) []) =
      let P : List Name → Type 0 = λ xs. IsAmong u xs in
      subst P (sym (search.whole n names some) ∙ ap (λ o. unwrap_or o []) (sym some) ∙ ap (λ m. unwrap_or (left m) []) (sym e)) h in
      inr (in-back u before (unwrap_or (left name) []) listed) in
      elim (left-none (is_same_name name n) (left n) (now n) (taken n) none) [
        | inl same ↦ elim (some-or (left n)) [ inl some ↦ fresh some.0 some.1 (same-true name n same) | inr gone ↦ old gone ]
        | inr gone ↦ old gone
      ]

  -- what the name uses leads where the name leads
  sound-at : (u : Name) → IsAmong u (before ++ unwrap_or (left name) []) → LeadsTo (used_by ds) goal u → SomeLeads (used_by ds) starts goal
  sound-at u h leads =
      let own : IsAmong u (unwrap_or (left name) []) → SomeLeads (used_by ds) starts goal = λ listed.
      elim (some-or (left name)) [
        | inl some ↦
            let used : IsAmong u (used_by ds name) =
            let P : List Name → Type 0 = λ xs. IsAmong u xs in
            subst P (ap (λ o. unwrap_or o []) some.1 ∙ search.whole name some.0 some.1) listed in
            search.sound name (in-back name before (name ∷ []) (inl refl)) (by_use u used leads)
        | inr gone ↦ absurd (none-used (unwrap_or (left name) []) u (ap (λ o. unwrap_or o []) (sym gone)) listed)
      ] in
      elim (in-either u before (unwrap_or (left name) []) h) [
        | inl b ↦ search.sound u (in-front u before (name ∷ []) b) leads
        | inr listed ↦ own listed
      ]

  pub goes_on : IsSearch ds starts goal now (before ++ unwrap_or (left name) [])
  goes_on = record {
    whole = λ n names some. search.whole n names (left-some (is_same_name name n) (left n) (now n) names (taken n) some);
    closed = closed-at;
    begun = λ u h. kept u (unwrap_or (left name) []) (search.begun u h);
    sound = sound-at;
  }

-- the last of the work is taken
pub popped : (ds : List Declared) (starts : List Name) (goal : Name) (left : Name → Option (List Name))
    (items rest : List (Bor (List ℕ) × Bor (List ℕ))) (name : Bor (List ℕ) × Bor (List ℕ)) → IsSearch ds starts goal left (map name_data items)
    → items ≡ rest ++ name ∷ [] → IsSearch ds starts goal left (map name_data rest ++ name_data name ∷ [])
popped ds starts goal left items rest name search is =
    let P : List Name → Type 0 = λ todo. IsSearch ds starts goal left todo in
    subst P (ap (map name_data) is ∙ map-append name_data rest (name ∷ [])) search

-- ---- the end of the search
pub no-items : {X : Type 0} (xs : List X) → length xs ≡ 0 → xs ≡ []
no-items [] e = refl
no-items (x ∷ xs) e = absurd (omega arith)

pub found : (ds : List Declared) (starts : List Name) (goal name : Name) (left : Name → Option (List Name)) (before : List Name)
    → IsSearch ds starts goal left (before ++ name ∷ []) → name ≡ goal → SomeLeads (used_by ds) starts goal
found ds starts goal name left before search e = search.sound name (in-back name before (name ∷ []) (inl refl)) (itself e)

met-leads : (ds : List Declared) (starts : List Name) (goal : Name) (left : Name → Option (List Name)) → IsSearch ds starts goal left []
    → (n : Name) → LeadsTo (used_by ds) goal n → IsMet goal left n → ⊥
met-leads ds starts goal left search n (itself e) met = met.0 e
met-leads ds starts goal left search n (by_use u h leads) met =
    elim (search.closed n u met.1 h) [ inl m ↦ met-leads ds starts goal left search u leads m | inr none ↦ none ]

pub ends : (ds : List Declared) (starts : List Name) (goal : Name) (left : Name → Option (List Name)) → IsSearch ds starts goal left []
    → SomeLeads (used_by ds) starts goal → ⊥
ends ds starts goal left search some =
    elim (search.begun some.0 some.1) [ inl m ↦ met-leads ds starts goal left search some.0 some.2 m | inr none ↦ none ]
